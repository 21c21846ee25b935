-- A result is held exactly if a move of some entry is this result.
-- Assumes nothing.
use Prim.Native.Nat.{ℕ, ◌+◌, ◌≤◌, ◌<◌}
use Rattle.std.specs.Prelude.{Bool, false, ◌≡◌, List, length}
use Rattle.std.proofs.Math.Bool.{true, ◌&&◌}
use Rattle.std.proofs.lemmas.Bool.{false≢true}
use Rattle.std.proofs.Math.Path.{refl, ap, ap₂, sym}
use Rattle.std.proofs.Common.{◌∙◌, arith}
use Rattle.std.proofs.Math.ListN.{get_or}
use Rattle.std.proofs.Math.Dec.{eqb}
use borrow.Author.Tests.{eqb-true, eqb-false, eq-eqb, ne_eqb}
use Rattle.words.specs.Lists.{some_of}
use Rattle.words.specs.Lists.Laws.{some_of_in, some_of_out}
use Rattle.words.specs.Laws.Tests.{by_test, and_left, and_right}
use Rattle.automata.specs.Automaton.{Automaton, Move, Entry, no_entry, move_at}
use Rattle.automata.specs.Automaton.Laws.{in_move_at, move_at_in}
use Rattle.automata.specs.Derivation.{Result}
use Rattle.automata.specs.Saturation.{is_entry, held}
use Rattle.automata.proofs.Saturation.Laws.{stands_held, held_stands}
use Rattle.tables.specs.declared.Table.{Table}
use Rattle.tables.specs.declared.Entry.{Entry as EntryWords}
use Rattle.tables.specs.Records.{as_entry}
use Rattle.tables.specs.Rows.{row_at, rows_in}
use Rattle.tables.specs.Rows.Laws.{get_or_rows_in}
use Rattle.tables.specs.Layouts.{entry_row}
use Rattle.tables.specs.Held.{table_of}
use Rattle.move_index.specs.Keys.{same_move}
use Rattle.move_index.specs.Keys.Laws.{same_moves, same_self}
use Rattle.offers.specs.Holding.{as_move_of, held_by}

-- ---- one entry

module _ (A : Automaton) (x : Result) where
  by_entry_lem : (k : ℕ) → k < length A.entries → held_by A x k ≡ true → held A x ≡ true
  unfolding held_by is_entry
  by_entry_lem k b h =
      let e : Entry = get_or A.entries k no_entry in
      let i : eqb e.control x.control && eqb e.S x.S ≡ true = and_left (eqb e.control x.control && eqb e.S x.S) _ h in
      let w = some_of_out (same_move (as_move_of A x k)) A.moves (and_right (eqb e.control x.control && eqb e.S x.S) _ h) in
      let m = in_move_at A w.1 in
      let s : move_at A m.0 ≡ as_move_of A x k = m.2 ∙ sym (same_moves (as_move_of A x k) w.0 w.2) in
      stands_held A
      (record {
        move = record {
          below = m.1;
          symbol_is = ap (λ y. y.symbol) s;
          entry = k;
          state_is = ap (λ y. y.state) s;
          entry_is = record {
            below = b;
            control_is = eqb-true _ _ (and_left (eqb e.control x.control) _ i);
            set_is = eqb-true _ _ (and_right (eqb e.control x.control) _ i);
          };
        };
        order_is = ap (λ y. y.order) s;
        B-is = ap (λ y. y.B) s;
        R-is = ap (λ y. y.R) s;
      })

  -- The entry whose move a held result is.
  of_entry : held A x ≡ true → (k : ℕ) × (k < length A.entries) × (held_by A x k ≡ true)
  unfolding held_by is_entry
  of_entry h =
      let (i, s) = held_stands A x h in
      let m = s.move in
      let k : ℕ = m.entry in
      let r : move_at A i ≡ as_move_of A x k =
      λ t. record { state = m.state_is t; symbol = m.symbol_is t; order = s.order_is t; B = s.B-is t; R = s.R-is t } in
      let f : some_of (same_move (as_move_of A x k)) A.moves ≡ true =
      some_of_in (same_move (as_move_of A x k)) (move_at_in A i m.below) (ap (same_move (as_move_of A x k)) r ∙ same_self (as_move_of A x k)) in (
        k,
        m.entry_is.below,
        ap₂ ◌&&◌ (ap₂ ◌&&◌ (eq-eqb _ _ m.entry_is.control_is) (eq-eqb _ _ m.entry_is.set_is)) f,
      )

  -- ---- the search among the entries

  pub held_found : (k : ℕ) (r : Bool) → k < length A.entries → r ≡ held_by A x k → r ≡ true → true ≡ held A x
  held_found k r b e h = sym (by_entry_lem k b (sym e ∙ h))

  -- none of the first entries has it
  abbrev pub NoneBelow : ℕ → Type 0
  NoneBelow n = (k : ℕ) → k < n → held_by A x k ≡ false

  pub none_more : (k : ℕ) (r : Bool) → NoneBelow k → r ≡ held_by A x k → r ≡ false → NoneBelow (k + 1)
  none_more k r h e f i b = by_test (eqb i k)
      (λ t. ap (held_by A x) (eqb-true i k t) ∙ sym e ∙ f)
      (λ t. h i (omega (arith, eqb-false i k t)))

  pub held_all : (n : ℕ) → NoneBelow n → length A.entries ≤ n → false ≡ held A x
  held_all n h b = by_test (held A x)
      (λ e. let (k, l, f) = of_entry e in absurd (false≢true (sym (h k (omega arith)) ∙ f)))
      (λ e. sym e)

-- ---- in the tables

module _ (z : Table) (entries moves : List ℕ) (x : Result) (k : ℕ) (e : EntryWords) (b : k < z.entries) (f : as_entry e ≡ row_at entry_row entries k) where
  -- the entry that is read
  read_is : get_or (rows_in entry_row z.entries entries) k no_entry ≡ as_entry e
  read_is = get_or_rows_in entry_row z.entries entries k no_entry b ∙ sym f

  pub other_control : (e.control ≡ x.control → ⊥) → false ≡ held_by (table_of z entries moves) x k
  unfolding held_by is_entry
  other_control h = rw (held_by, is_entry, read_is, ne_eqb e.control x.control h) refl

  pub other_set : e.control ≡ x.control → (e.s ≡ x.S → ⊥) → false ≡ held_by (table_of z entries moves) x k
  unfolding held_by is_entry
  other_set c h = rw (held_by, is_entry, read_is, eq-eqb e.control x.control c, ne_eqb e.s x.S h) refl

  pub same_entry : (m : Move) (r : Bool) → e.control ≡ x.control → e.s ≡ x.S → m ≡ as_move_of (table_of z entries moves) x k
      → r ≡ some_of (same_move m) (table_of z entries moves).moves → r ≡ held_by (table_of z entries moves) x k
  unfolding held_by is_entry
  same_entry m r c h q g =
      rw (held_by, is_entry, read_is, eq-eqb e.control x.control c, eq-eqb e.s x.S h)
      (g ∙ ap (λ (y : Move). some_of (same_move y) (table_of z entries moves).moves) q)
