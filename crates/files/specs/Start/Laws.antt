-- What a start file without a refusal gives: its starts name controls and cells of order 2, and its cells refer to lower cells of the
-- right order.
-- Assumes nothing.
use Prim.Native.Nat.{ℕ, zero, suc, ◌+◌, ◌*◌, ◌<◌, ◌≤◌}
use Rattle.std.specs.Prelude.{Bool, true, false, ◌&&◌, ◌≡◌, length, get_or, ltb}
use Rattle.std.proofs.Math.Bool.{and-true, and-false}
use Rattle.std.proofs.lemmas.Bool.{false≢true}
use Rattle.std.proofs.Math.Path.{refl, ap, sym}
use Rattle.std.proofs.Common.{◌∙◌, subst, add-zero, zero-add, not-suc-le-zero, le_of_suc-le-suc, arith}
use mathlib.Core.List.{List, [], ◌∷◌, map, Memᴰ}
use Rattle.std.proofs.Math.ListN.{length-map}
use Rattle.std.proofs.Math.Dec.{eqb}
use borrow.Author.Tests.{eqb-true, ltb-true, not-false}
use Rattle.words.specs.Lists.{every}
use Rattle.words.specs.Lists.Laws.{every_in}
use Rattle.words.specs.Laws.Tests.{by_test, and_left, and_right}
use Rattle.walks.specs.Cell.{Cell, empty1, symbol, empty2, above}
use Rattle.walks.specs.Cell.Formed.{cell_order, order_at, Refers, Formed, formed_below}
use Rattle.walks.specs.Cell.Values.{get_or_map_below}
use Rattle.files.specs.Bytes.{placed, count_of, offset_of, records_of, first_hit}
use Rattle.files.specs.Bytes.Laws.{numbered, unrefused, bodies_first, bodies_end, placed_bodies, placed_within, length_records_of}
use Rattle.files.specs.Case.{head}
use Rattle.files.specs.Start.{start_bodies, start_placed, Start, CellBytes, cell_bytes, starts_of, cell_records, order_of, refers_to, cell_right, cells_right, start_right, Files, start_file_right, start_tests, cell_of, cells_of}

-- ---- the places of the bodies

-- the offsets and counts of a start file
pub record StartPlaces (file : List ℕ) : Type 0 where
  pub first_byte : get_or file 0 0 ≡ 2
  pub starts_offset : offset_of file 0 ≡ 17
  pub cells_offset : offset_of file 1 ≡ 17 + count_of file 0 * 3
  pub whole : length file ≡ 17 + count_of file 0 * 3 + count_of file 1 * 6
  pub starts_some : 1 ≤ count_of file 0
  pub starts_few : count_of file 0 ≤ 64
  pub cells_some : 1 ≤ count_of file 1
  pub cells_few : count_of file 1 ≤ 256

pub start_places : (file : List ℕ) → start_placed file ≡ true → StartPlaces file
unfolding start_placed start_bodies
start_places file e =
    let two : Bool = eqb (get_or file 0 0) 2 in
    let a = bodies_first file 0 _ _ _ (placed_bodies start_bodies file (and_right two _ e)) in
    let b = bodies_first file 1 _ _ _ a.1 in
    record {
      first_byte = eqb-true (get_or file 0 0) 2 (and_left two _ e);
      starts_offset = a.0.offset_is;
      cells_offset = b.0.offset_is;
      whole = sym (bodies_end file 2 _ b.1);
      starts_some = a.0.count_least;
      starts_few = a.0.count_most;
      cells_some = b.0.count_least;
      cells_few = b.0.count_most;
    }

-- ---- the first byte, where the bodies are in place

module _ (file : List ℕ) where
  pub bodies_wrong : placed start_bodies file ≡ false → false ≡ start_placed file
  unfolding start_placed
  bodies_wrong e = sym (ap (λ (b : Bool). eqb (get_or file 0 0) 2 && b) e ∙ and-false (eqb (get_or file 0 0) 2))

  pub first_tells : {b : ℕ} → placed start_bodies file ≡ true → b ≡ get_or file 0 0 → eqb b 2 ≡ start_placed file
  unfolding start_placed
  first_tells e f =
      sym (ap (λ (t : Bool). eqb (get_or file 0 0) 2 && t) e ∙ and-true (eqb (get_or file 0 0) 2) ∙ ap (λ (k : ℕ). eqb k 2) (sym f))

  pub bodies_long : placed start_bodies file ≡ true → 17 ≤ length file
  unfolding start_bodies
  bodies_long e = placed_within file 0 17 start_bodies (placed_bodies start_bodies file e)

-- ---- one cell

-- cell number n, by its kind
pub data RightCell (A : ℕ) (cells : List CellBytes) (n : ℕ) (x : CellBytes) : Type 0 where
  right_empty1 : x.kind ≡ 1 → cell_of x ≡ empty1 → RightCell A cells n x
  right_symbol : x.kind ≡ 2 → cell_of x ≡ symbol x.symbol x.first x.second → x.symbol < A → x.first < n
      → refers_to cells n 1 x.second ≡ true → RightCell A cells n x
  right_empty2 : x.kind ≡ 3 → cell_of x ≡ empty2 → RightCell A cells n x
  right_above : x.kind ≡ 4 → cell_of x ≡ above x.first x.second → refers_to cells n 1 x.first ≡ true
      → refers_to cells n 2 x.second ≡ true → RightCell A cells n x

pub right_cell : (A : ℕ) (cells : List CellBytes) (n : ℕ) (x : CellBytes) → cell_right A cells n x ≡ true → RightCell A cells n x
unfolding cell_right cell_of
right_cell A cells n x e = by_test (eqb x.kind 1)
    (λ p. right_empty1 (eqb-true x.kind 1 p) (rw (cell_of, p)))
    (λ p. by_test (eqb x.kind 2)
    (λ q.
    let a : Bool = ltb x.symbol A in
    let b : Bool = a && ltb x.first n in
    let f = rw (cell_right, p, q) at e in
    right_symbol (eqb-true x.kind 2 q) (rw (cell_of, p, q))
    (ltb-true x.symbol A (and_left a _ (and_left b _ f))) (ltb-true x.first n (and_right a _ (and_left b _ f))) (and_right b _ f))
    (λ q. by_test (eqb x.kind 3)
    (λ r. right_empty2 (eqb-true x.kind 3 r) (rw (cell_of, p, q, r)))
    (λ r.
    let a : Bool = eqb x.kind 4 in
    let b : Bool = a && eqb x.symbol 0 in
    let c : Bool = b && refers_to cells n 1 x.first in
    let f = rw (cell_right, p, q, r) at e in
    let g = and_left c _ f in
    right_above (eqb-true x.kind 4 (and_left a _ (and_left b _ g))) (rw (cell_of, p, q, r)) (and_right b _ g) (and_right c _ f))))

pub right_order : {A : ℕ} {cells : List CellBytes} {n : ℕ} {x : CellBytes} → RightCell A cells n x → order_of x.kind ≡ cell_order (cell_of x)
unfolding order_of cell_order
right_order (right_empty1 k e) = rw (e, k)
right_order (right_symbol k e a b c) = rw (e, k)
right_order (right_empty2 k e) = rw (e, k)
right_order (right_above k e a b) = rw (e, k)

-- ---- all cells

abbrev no_cell : CellBytes
no_cell = record { kind = 0; symbol = 0; first = 0; second = 0 }

pub cells_right_at : (A : ℕ) (cells : List CellBytes) (n : ℕ) (xs : List CellBytes) (d : CellBytes) (i : ℕ) {m : ℕ} → n + i ≡ m
    → cells_right A cells n xs ≡ true → i < length xs → cell_right A cells m (get_or xs i d) ≡ true
unfolding cells_right
cells_right_at A cells n [] d i e h l = absurd (not-suc-le-zero l)
cells_right_at A cells n (x ∷ xs) d zero {m} e h l = by_test (cell_right A cells n x)
    (λ p. subst (λ (k : ℕ). cell_right A cells k x ≡ true) (sym (add-zero n) ∙ e) p)
    (λ p. absurd (false≢true (rw (cells_right, p) at h)))
cells_right_at A cells n (x ∷ xs) d (suc i) e h l = by_test (cell_right A cells n x)
    (λ p. cells_right_at A cells (suc n) xs d i (omega arith) (rw (cells_right, p) at h) (le_of_suc-le-suc l))
    (λ p. absurd (false≢true (rw (cells_right, p) at h)))

module _ (A : ℕ) (cells : List CellBytes) (right : cells_right A cells 0 cells ≡ true) where
  right_at : (d : CellBytes) (n : ℕ) → n < length cells → RightCell A cells n (get_or cells n d)
  right_at d n l = right_cell A cells n (get_or cells n d) (cells_right_at A cells 0 cells d n (zero-add n) right l)

  -- a reference is to a lower cell of the order
  refers_below : (n order x : ℕ) → n ≤ length cells → refers_to cells n order x ≡ true → (x < n) × (order_at (map cell_of cells) x ≡ order)
  unfolding refers_to order_at
  refers_below n order x l e =
      let h : x < n = ltb-true x n (and_left (ltb x n) _ e) in (
        h,
        ap cell_order (get_or_map_below cell_of cells x no_cell empty1 (omega arith))
            ∙ sym (right_order (right_at no_cell x (omega arith)))
            ∙ eqb-true (order_of (get_or cells x no_cell).kind) order (and_right (ltb x n) _ e),
      )

  pub cells_formed : Formed (map cell_of cells)
  cells_formed = formed_below (map cell_of cells) λ n h.
      let l : n < length cells = rw (length-map cells cell_of) at h in
      rw (get_or_map_below cell_of cells n no_cell empty1 l) (go n l (get_or cells n no_cell) (right_at no_cell n l))
    where
      go : (n : ℕ) → n < length cells → (x : CellBytes) → RightCell A cells n x → Refers (map cell_of cells) n (cell_of x)
      go n l x (right_empty1 k e) = rw e tt
      go n l x (right_symbol k e a b c) = let r = refers_below n 1 x.second (omega arith) c in rw e (b, r.0, r.1)
      go n l x (right_empty2 k e) = rw e tt
      go n l x (right_above k e a b) =
          let r = refers_below n 1 x.first (omega arith) a in
          let q = refers_below n 2 x.second (omega arith) b in
          rw e (r.0, q.0, r.1, q.1)

-- ---- a start file without a refusal

-- of a start: its control exists, and its root is a cell of order 2
pub record StartFacts (P : ℕ) (cells : List Cell) (x : Start) : Type 0 where
  pub control_exists : x.control < P
  pub root_exists : x.root < length cells
  pub root_order : order_at cells x.root ≡ 2

module _ (f : Files) (sound : first_hit start_tests f ≡ 0) where
  pub start_placed_lem : StartPlaces f.start
  unfolding start_tests numbered every
  start_placed_lem = start_places f.start (not-false (start_placed f.start) (unrefused f refl sound (Memᴰ.head refl)))

  start_right_lem : start_file_right f ≡ true
  unfolding start_tests numbered every
  start_right_lem = not-false (start_file_right f) (unrefused f refl sound (Memᴰ.tail (Memᴰ.head refl)))

  cells_right_lem : cells_right (head f.case).A (cell_records f.start) 0 (cell_records f.start) ≡ true
  unfolding start_file_right
  cells_right_lem = and_right (every (start_right (head f.case).P (cell_records f.start)) (starts_of f.start)) _ start_right_lem

  -- "References are to lower cell numbers", of the right order.
  pub start_cells_lem : Formed (cells_of f.start)
  unfolding cells_of
  start_cells_lem = cells_formed (head f.case).A (cell_records f.start) cells_right_lem

  -- "A root has order 2."
  pub start_facts : {x : Start} → Memᴰ x (starts_of f.start) → StartFacts (head f.case).P (cells_of f.start) x
  unfolding start_file_right start_right cells_of
  start_facts {x} j =
      let cells : List CellBytes = cell_records f.start in
      let P : ℕ = (head f.case).P in
      let e = every_in (start_right P cells) (and_left (every (start_right P cells) (starts_of f.start)) _ start_right_lem) j in
      let r = refers_below (head f.case).A cells cells_right_lem (length cells) 2 x.root (omega arith) (and_right (ltb x.control P) _ e) in
      record {
        control_exists = ltb-true x.control P (and_left (ltb x.control P) _ e);
        root_exists = rw (length-map cells cell_of) r.0;
        root_order = r.1;
      }

  -- ---- sizes

  pub length_cells : length (cells_of f.start) ≡ count_of f.start 1
  unfolding cells_of cell_records
  length_cells = length-map (cell_records f.start) cell_of ∙ length-map (records_of f.start 1 6) cell_bytes ∙ length_records_of f.start 1 6
