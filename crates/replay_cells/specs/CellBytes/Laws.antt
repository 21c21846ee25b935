-- What is read from lent bytes is what was written: the cells before are kept, and the new ones follow.
-- Assumes nothing.
use Rattle.std.specs.Prelude.{ℕ, zero, suc, ◌+◌, ◌*◌, ◌/◌, ◌%◌, ◌<◌, ◌≤◌, ◌≡◌, refl, List, [], ◌∷◌, ◌++◌, map, length, take, drop}
use Rattle.std.proofs.Common.{ap, ap₂, sym, ◌∙◌, subst, append-nil, append_assoc, add-zero, zero-add, arith, length-take-le, take_at, drop_at}
use Rattle.std.proofs.lemmas.List.Edits.{sets, sets-eq}
use Rattle.std.proofs.Math.Seq.{length-sets}
use Rattle.stacks.specs.Stack.{Operation, rewrite, push1, push2, copy, pop1, pop2, collapse1, collapse2}
use Rattle.walks.specs.Cell.{Cell, empty1, symbol, empty2, above, cells_after}
use Rattle.files.specs.Bytes.{number, field, records}
use Rattle.files.specs.Start.{cell_bytes, cell_of}
use Rattle.bytes_in.specs.Records.{record_at}
use Rattle.bytes_in.specs.Records.Laws.{records_part, map_more}
use Rattle.cell_memory.specs.declared.Cell as Value
use Rattle.cell_memory.specs.Memory as Memory
use Rattle.cell_steps.specs.Steps.{put_from, cell_number, symbol_of}
use Rattle.cell_steps.specs.Steps.Laws.{AllFit}
use Rattle.start_records.specs.Body.{cell_read, cells_in}
use Rattle.replay_cells.specs.CellBytes.{bytes_of, put_bytes, cell_symbol}

-- the cells of a start file, copied
pub cells_in_copied : (n : ℕ) (bytes body : List ℕ) → n * 6 ≤ length body → length body ≤ length bytes → cells_in n (sets bytes 0 body) ≡ cells_in n body
unfolding cells_in
cells_in_copied n bytes body h l =
    let room : 0 + length body ≤ length bytes = subst (λ (k : ℕ). k ≤ length bytes) (sym (zero-add (length body))) l in
    let e : take (length body) (sets bytes 0 body) ≡ body = ap (take (length body)) (sets-eq body bytes 0 room) ∙ take_at body (drop (0 + length body) bytes) (length body) refl in
    ap (map cell_read) (sym (records_part n 6 (length body) (sets bytes 0 body) h) ∙ ap (records n 6) e)

-- ---- one cell

-- what is written for the cell that c is, is written for c
pub put_by : {out : List ℕ} {c d : Value.Cell} (bytes : List ℕ) (n : ℕ) → c ≡ d → out ≡ sets bytes (n * 6) (bytes_of (Memory.cell_of d))
    → out ≡ put_bytes bytes n (Memory.cell_of c)
unfolding put_bytes
put_by bytes n e h = h ∙ ap (λ (x : Value.Cell). sets bytes (n * 6) (bytes_of (Memory.cell_of x))) (sym e)

two_bytes : (n : ℕ) → n % 256 + 256 * (n / 256 + 256 * 0) ≡ n
two_bytes n = omega arith

-- a cell is read as it was written
read_back : (c : Cell) → cell_read (bytes_of c) ≡ c
unfolding bytes_of cell_of cell_bytes field number
read_back empty1 = refl
read_back (symbol a u s) = ap₂ (symbol a) (two_bytes u) (two_bytes s)
read_back empty2 = refl
read_back (above w t) = ap₂ above (two_bytes w) (two_bytes t)

length_bytes : (c : Cell) → length (bytes_of c) ≡ 6
unfolding bytes_of
length_bytes empty1 = refl
length_bytes (symbol a u s) = refl
length_bytes empty2 = refl
length_bytes (above w t) = refl

length_put : (bytes : List ℕ) (n : ℕ) (c : Cell) → length (put_bytes bytes n c) ≡ length bytes
unfolding put_bytes
length_put bytes n c = length-sets bytes (n * 6) (bytes_of c)

-- the cells before one that is written are kept
put_before : (bytes : List ℕ) (n : ℕ) (c : Cell) → (n + 1) * 6 ≤ length bytes → cells_in n (put_bytes bytes n c) ≡ cells_in n bytes
unfolding cells_in put_bytes
put_before bytes n c h =
    let l : length (bytes_of c) ≡ 6 = length_bytes c in
    let at : length (take (n * 6) bytes) ≡ n * 6 = length-take-le (n * 6) bytes (omega arith) in
    let e : take (n * 6) (sets bytes (n * 6) (bytes_of c)) ≡ take (n * 6) bytes =
    ap (take (n * 6)) (sets-eq (bytes_of c) bytes (n * 6) (omega arith)
    ∙ append_assoc (take (n * 6) bytes) (bytes_of c) (drop (n * 6 + length (bytes_of c)) bytes))
    ∙ take_at (take (n * 6) bytes) (bytes_of c ++ drop (n * 6 + length (bytes_of c)) bytes) (n * 6) at in
    let part : (b : List ℕ) → records n 6 (take (n * 6) b) ≡ records n 6 b = λ b. records_part n 6 (n * 6) b (omega arith) in
    ap (map cell_read) (sym (part (sets bytes (n * 6) (bytes_of c))) ∙ ap (records n 6) e ∙ part bytes)

put_record : (bytes : List ℕ) (n : ℕ) (c : Cell) → (n + 1) * 6 ≤ length bytes → record_at 6 n (put_bytes bytes n c) ≡ bytes_of c
unfolding record_at put_bytes
put_record bytes n c h =
    let l : length (bytes_of c) ≡ 6 = length_bytes c in
    let at : length (take (n * 6) bytes) ≡ n * 6 = length-take-le (n * 6) bytes (omega arith) in
    let rest : List ℕ = drop (n * 6 + length (bytes_of c)) bytes in
    ap (λ (b : List ℕ). take 6 (drop (n * 6) b)) (sets-eq (bytes_of c) bytes (n * 6) (omega arith) ∙ append_assoc (take (n * 6) bytes) (bytes_of c) rest)
    ∙ ap (take 6) (drop_at (take (n * 6) bytes) (bytes_of c ++ rest) (n * 6) at)
    ∙ take_at (bytes_of c) rest 6 l

-- one cell more
put_more : (bytes : List ℕ) (n : ℕ) (c : Cell) → (n + 1) * 6 ≤ length bytes → cells_in (n + 1) (put_bytes bytes n c) ≡ cells_in n bytes ++ (c ∷ [])
unfolding cells_in
put_more bytes n c h =
    map_more cell_read 6 (put_bytes bytes n c) n
    ∙ ap₂ (λ (l : List Cell) (d : Cell). l ++ (d ∷ [])) (put_before bytes n c h) (ap cell_read (put_record bytes n c h) ∙ read_back c)

-- ---- cells one after another

pub cells_in_puts : (cs : List Cell) (bytes : List ℕ) (n : ℕ) → (n + length cs) * 6 ≤ length bytes
    → cells_in (n + length cs) (put_from put_bytes bytes n cs) ≡ cells_in n bytes ++ cs
unfolding put_from
cells_in_puts [] bytes n h = ap (λ (k : ℕ). cells_in k bytes) (add-zero n) ∙ sym (append-nil (cells_in n bytes))
cells_in_puts (c ∷ cs) bytes n h =
    let e : n + suc (length cs) ≡ n + 1 + length cs = omega arith in
    let l : length (put_bytes bytes n c) ≡ length bytes = length_put bytes n c in
    ap (λ (k : ℕ). cells_in k (put_from put_bytes (put_bytes bytes n c) (n + 1) cs)) e
    ∙ cells_in_puts cs (put_bytes bytes n c) (n + 1) (omega arith)
    ∙ ap (λ (l : List Cell). l ++ cs) (put_more bytes n c (omega arith))
    ∙ append_assoc (cells_in n bytes) (c ∷ []) cs

-- ---- symbols

abbrev Small : Cell → Type 0
Small c = cell_symbol c < 256

-- the new cells of an operation name its symbol and that of the top
symbols_small : (op : Operation) (n a u s t : ℕ) → symbol_of op < 256 → a < 256 → AllFit Small (cells_after op n a u s t)
unfolding cells_after cell_symbol symbol_of
symbols_small (rewrite b) n a u s t h k = (h, (omega arith, tt))
symbols_small (push1 b) n a u s t h k = (k, (h, (omega arith, tt)))
symbols_small (push2 b) n a u s t h k = (k, (h, (omega arith, tt)))
symbols_small copy n a u s t h k = (k, (omega arith, (k, (omega arith, tt))))
symbols_small pop1 n a u s t h k = (omega arith, tt)
symbols_small pop2 n a u s t h k = tt
symbols_small collapse1 n a u s t h k = (omega arith, tt)
symbols_small collapse2 n a u s t h k = tt

small_at : (cs : List Cell) (i : ℕ) → AllFit Small cs → Small (cell_number cs i)
unfolding cell_number cell_symbol
small_at [] i h = omega arith
small_at (c ∷ cs) zero h = h.0
small_at (c ∷ cs) (suc i) h = small_at cs i h.1

pub new_symbol : (op : Operation) (n a u s t i : ℕ) {c : Cell} → symbol_of op < 256 → a < 256 → c ≡ cell_number (cells_after op n a u s t) i → cell_symbol c < 256
new_symbol op n a u s t i h k e = subst Small (sym e) (small_at (cells_after op n a u s t) i (symbols_small op n a u s t h k))
