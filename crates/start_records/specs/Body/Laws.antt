-- How many cells there are, each of them, its order, and that they are those of the file.
-- Assumes nothing.
use Rattle.std.specs.Prelude.{ℕ, ◌≤◌, ◌<◌, ◌≡◌, List, [], map, length}
use Rattle.std.proofs.Common.{ap, sym, ◌∙◌, arith}
use Rattle.std.proofs.lemmas.Simd.{map-map}
use Rattle.std.proofs.lemmas.List.{length-map}
use Rattle.std.proofs.Math.ListN.{get_or-eq_default}
use Rattle.walks.specs.Cell as walks
use Rattle.walks.specs.Cell.{empty1}
use Rattle.walks.specs.Cell.Formed.{cell_order, cell_at, order_at}
use Rattle.walks.specs.Cell.Values.{get_or_map_below}
use Rattle.files.specs.Bytes.{count_of, records, records_of}
use Rattle.files.specs.Bytes.Laws.{length_records, records_at}
use Rattle.bytes_in.specs.Records.{record_at, body_of}
use Rattle.bytes_in.specs.Records.Laws.{body_records}
use Rattle.files.specs.Start.{cell_bytes, cell_records, cells_of}
use Rattle.files.specs.Start as files
use Rattle.start_records.specs.Body.{cell_read, cells_in}

pub length_cells_in : (n : ℕ) (body : List ℕ) → length (cells_in n body) ≡ n
unfolding cells_in
length_cells_in n body = length-map (records n 6 body) cell_read ∙ length_records n 6 body

pub cells_in_at : (n : ℕ) (body : List ℕ) {i : ℕ} {c : walks.Cell} → i < n → c ≡ cell_read (record_at 6 i body) → c ≡ cell_at (cells_in n body) i
unfolding cells_in record_at
cells_in_at n body {i} h e =
    let l : length (records n 6 body) ≡ n = length_records n 6 body in
    e ∙ ap cell_read (sym (records_at n 6 body i h)) ∙ sym (get_or_map_below cell_read (records n 6 body) i [] empty1 (omega arith))

pub order_none : (n : ℕ) (body : List ℕ) {i : ℕ} → n ≤ i → 1 ≡ order_at (cells_in n body) i
unfolding order_at cell_order
order_none n body {i} h =
    let l : length (cells_in n body) ≡ n = length_cells_in n body in
    ap cell_order (sym (get_or-eq_default (cells_in n body) empty1 {n = i} (omega arith)))

pub order_there : (n : ℕ) (body : List ℕ) {i k : ℕ} {c : walks.Cell} → i < n → c ≡ cell_read (record_at 6 i body) → k ≡ cell_order c
    → k ≡ order_at (cells_in n body) i
unfolding order_at
order_there n body h e f = f ∙ ap cell_order (cells_in_at n body h e)

-- the cells of the file are those of its second body
pub cells_body : (file : List ℕ) → cells_in (count_of file 1) (body_of file 1 6) ≡ cells_of file
unfolding cells_in cells_of cell_records
cells_body file =
    ap (map cell_read) (sym (body_records file 1 6)) ∙ sym (map-map files.cell_of cell_bytes (records_of file 1 6))
