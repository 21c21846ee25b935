-- The bounds and the cells of a body, by kind and by number.
-- Assumes nothing.
use Rattle.std.specs.Prelude.{ℕ, ◌≤◌, ◌<◌, Bool, false, ◌&&◌, ◌≡◌, List, [], map, length, get_or, eqb, ltb}
use Rattle.std.proofs.Common.{ap, ap₂, sym, ◌∙◌, arith}
use Rattle.std.proofs.lemmas.List.{length-map}
use Rattle.std.proofs.Math.ListN.{get_or-map}
use borrow.Author.Tests.{lt-ltb, le-ltb, eq-eqb, ne_eqb, ltb-true, eqb-true, eqb-false}
use Rattle.words.specs.Laws.Tests.{by_test}
use Rattle.files.specs.Bytes.{number, field, records}
use Rattle.files.specs.Bytes.Laws.{length_records, records_at}
use Rattle.files.specs.Start.{CellBytes, cell_bytes, order_of, refers_to, cell_right, cell_of}
use Rattle.walks.specs.Cell.{empty1, symbol, empty2, above}
use Rattle.bytes_in.specs.Records.{record_at}
use Rattle.start_records.specs.Cells.{empty_right, symbol_right, above_right}

-- ---- by kind

module _ (A : ℕ) (cells : List CellBytes) (n : ℕ) (x : CellBytes) where
  pub right_empty1 : x.kind ≡ 1 → cell_right A cells n x ≡ empty_right x
  unfolding cell_right empty_right
  right_empty1 e = rw (cell_right, eq-eqb _ _ e)

  pub right_symbol : (x.kind ≡ 1 → ⊥) → x.kind ≡ 2 → cell_right A cells n x ≡ symbol_right A cells n x
  unfolding cell_right symbol_right
  right_symbol e f = rw (cell_right, ne_eqb _ _ e, eq-eqb _ _ f)

  pub right_empty2 : (x.kind ≡ 1 → ⊥) → (x.kind ≡ 2 → ⊥) → x.kind ≡ 3 → cell_right A cells n x ≡ empty_right x
  unfolding cell_right empty_right
  right_empty2 e f g = rw (cell_right, ne_eqb _ _ e, ne_eqb _ _ f, eq-eqb _ _ g)

  pub right_above : (x.kind ≡ 1 → ⊥) → (x.kind ≡ 2 → ⊥) → (x.kind ≡ 3 → ⊥) → cell_right A cells n x ≡ above_right cells n x
  unfolding cell_right above_right
  right_above e f g = rw (cell_right, ne_eqb _ _ e, ne_eqb _ _ f, ne_eqb _ _ g)

module _ (x : CellBytes) where
  pub of_empty1 : x.kind ≡ 1 → cell_of x ≡ empty1
  unfolding cell_of
  of_empty1 e = rw (cell_of, eq-eqb _ _ e)

  pub of_symbol : x.kind ≡ 2 → cell_of x ≡ symbol x.symbol x.first x.second
  unfolding cell_of
  of_symbol e = rw (cell_of, ne_eqb x.kind 1 (λ z. omega arith), eq-eqb _ _ e)

  pub of_empty2 : x.kind ≡ 3 → cell_of x ≡ empty2
  unfolding cell_of
  of_empty2 e = rw (cell_of, ne_eqb x.kind 1 (λ z. omega arith), ne_eqb x.kind 2 (λ z. omega arith), eq-eqb _ _ e)

  pub of_above : (x.kind ≡ 1 → ⊥) → (x.kind ≡ 2 → ⊥) → (x.kind ≡ 3 → ⊥) → cell_of x ≡ above x.first x.second
  unfolding cell_of
  of_above e f g = rw (cell_of, ne_eqb _ _ e, ne_eqb _ _ f, ne_eqb _ _ g)

-- ---- cells by number

pub cell_at : (n i : ℕ) (b : List ℕ) → i < n
    → get_or (map cell_bytes (records n 6 b)) i (record { kind = 0; symbol = 0; first = 0; second = 0 }) ≡ cell_bytes (record_at 6 i b)
unfolding record_at cell_bytes field number
cell_at n i b h = get_or-map cell_bytes (records n 6 b) i [] ∙ ap cell_bytes (records_at n 6 b i h)

pub length_cells : (n : ℕ) (b : List ℕ) → length (map cell_bytes (records n 6 b)) ≡ n
length_cells n b = length-map (records n 6 b) cell_bytes ∙ length_records n 6 b

-- ---- references

pub refers_not : (cells : List CellBytes) (n order x : ℕ) → n ≤ x → refers_to cells n order x ≡ false
unfolding refers_to
refers_not cells n order x h = rw (le-ltb x n h)

pub refers_kind : (b : List ℕ) (n order x : ℕ) {y : CellBytes} {r : ℕ} → x < n → y ≡ cell_bytes (record_at 6 x b) → r ≡ order_of y.kind
    → eqb r order ≡ refers_to (map cell_bytes (records n 6 b)) n order x
unfolding refers_to
refers_kind b n order x h e f =
    rw (lt-ltb x n h, cell_at n x b h) (ap (λ (k : ℕ). eqb k order) (f ∙ ap (λ (y : CellBytes). order_of y.kind) e))

-- a reference to one of the first n cells is the same, whether the others are given or not
pub refers_all : (b : List ℕ) (n m order x : ℕ) → n ≤ m
    → refers_to (map cell_bytes (records n 6 b)) n order x ≡ refers_to (map cell_bytes (records m 6 b)) n order x
unfolding refers_to
refers_all b n m order x h =
    by_test (ltb x n)
    (λ t.
    let l : x < n = ltb-true x n t in
    let l' : x < m = omega arith in
    rw (t, cell_at n x b l, cell_at m x b l'))
    (λ t. rw t)

symbol_all : (A : ℕ) (b : List ℕ) (n m : ℕ) (x : CellBytes) → n ≤ m
    → symbol_right A (map cell_bytes (records n 6 b)) n x ≡ symbol_right A (map cell_bytes (records m 6 b)) n x
unfolding symbol_right
symbol_all A b n m x h = ap (λ (t : Bool). ltb x.symbol A && ltb x.first n && t) (refers_all b n m 1 x.second h)

above_all : (b : List ℕ) (n m : ℕ) (x : CellBytes) → n ≤ m
    → above_right (map cell_bytes (records n 6 b)) n x ≡ above_right (map cell_bytes (records m 6 b)) n x
unfolding above_right
above_all b n m x h =
    ap₂ (λ (s t : Bool). eqb x.kind 4 && eqb x.symbol 0 && s && t) (refers_all b n m 1 x.first h) (refers_all b n m 2 x.second h)

pub right_all : (A : ℕ) (b : List ℕ) (n m : ℕ) (x : CellBytes) → n ≤ m
    → cell_right A (map cell_bytes (records n 6 b)) n x ≡ cell_right A (map cell_bytes (records m 6 b)) n x
right_all A b n m x h =
    by_test (eqb x.kind 1)
    (λ t. let e : x.kind ≡ 1 = eqb-true _ _ t in right_empty1 A _ n x e ∙ sym (right_empty1 A _ n x e))
    (λ f₁.
    by_test (eqb x.kind 2)
    (λ t.
    let e : x.kind ≡ 2 = eqb-true _ _ t in
    right_symbol A _ n x (eqb-false _ _ f₁) e ∙ symbol_all A b n m x h ∙ sym (right_symbol A _ n x (eqb-false _ _ f₁) e))
    (λ f₂.
    by_test (eqb x.kind 3)
    (λ t.
    let e : x.kind ≡ 3 = eqb-true _ _ t in
    right_empty2 A _ n x (eqb-false _ _ f₁) (eqb-false _ _ f₂) e ∙ sym (right_empty2 A _ n x (eqb-false _ _ f₁) (eqb-false _ _ f₂) e))
    (λ f₃.
    right_above A _ n x (eqb-false _ _ f₁) (eqb-false _ _ f₂) (eqb-false _ _ f₃)
    ∙ above_all b n m x h
    ∙ sym (right_above A _ n x (eqb-false _ _ f₁) (eqb-false _ _ f₂) (eqb-false _ _ f₃)))))
