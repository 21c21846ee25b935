-- The turns of the loop over entries.
-- Assumes nothing.
use Rattle.std.specs.Prelude.{ℕ, ◌+◌, ◌-◌, ◌≤◌, ◌<◌, Bool, ◌≡◌, List, [], ◌∷◌, get_or}
use Rattle.std.proofs.Math.Path.{ap, ap₂, sym}
use Rattle.std.proofs.Common.{◌∙◌, eq-eqb, ne_eqb}
use native.Mathlib.Omega.{arith}
use Rattle.std.proofs.Math.ListN.{length}
use Rattle.words.specs.Sets.{single}
use Rattle.words.specs.Lists.{when}
use Rattle.automata.specs.Automaton.{Entry, no_entry, entry_set}
use Rattle.automata.specs.Automaton.Laws.{entry_at_set}
use Rattle.automata.specs.Derivation.{Result, control_entries}
use Rattle.tables.specs.declared.Table.{Table}
use Rattle.tables.specs.declared.Result.{Result as ResultWords}
use Rattle.tables.specs.Records.{as_result}
use Rattle.tables.specs.Rows.{row_at, rows_in}
use Rattle.tables.specs.Rows.Laws.{length_rows_in, get_or_rows_in}
use Rattle.tables.specs.Layouts.{entry_row}
use Rattle.tables.specs.Held.{table_of}
use Rattle.tables.specs.Held.Laws.{entry_at_there}
use Rattle.readings.specs.Readings.{the_result}
use Rattle.offers.specs.Offers.{Collects}
use Rattle.offers.specs.Offers.Alike.{passed_past}
use Rattle.offers.specs.Offers.Laws.{OfferedBelow, passed_more, passed_all, collects_same, collects_none}
use Rattle.results.specs.declared.EntryUse.{EntryUse}
use Rattle.results.specs.declared.EntryUse.TheVariants.{Popped, Collapsed}
use Rattle.results.specs.Rules.{entry_result, entries_results}
use Rattle.results.specs.Steps.{entry_step}
use Rattle.results.specs.Entries.{entry_test, EntriesKnown}

module _ (p a : ℕ) (k : EntryUse) (S r bit : ℕ) (x : ResultWords) where
  pub is_popped : k ≡ Popped → bit ≡ single r → x ≡ the_result p S a 0 0 bit → as_result x ≡ entry_result p a k S r
  unfolding entry_result
  is_popped e f h = rw e (ap as_result (h ∙ ap (λ (b : ℕ). the_result p S a 0 0 b) f))

  pub is_collapsed : k ≡ Collapsed → bit ≡ single r → x ≡ the_result p S a 1 bit 0 → as_result x ≡ entry_result p a k S r
  unfolding entry_result
  is_collapsed e f h = rw e (ap as_result (h ∙ ap (λ (b : ℕ). the_result p S a 1 b 0) f))

module _ (z : Table) (entries moves : List ℕ) (p a : ℕ) (k : EntryUse) (q : ℕ) where
  -- what entry number i gives, where its control is q
  unfoldable pub entry_offers : ℕ → List Result
  entry_offers i = entry_result p a k (entry_set (table_of z entries moves) (z.inner1 + i)) (z.inner1 + i) ∷ []

  -- What the first i entries give was offered.
  abbrev pub EntriesUpTo : ℕ → ℕ → List ℕ → ℕ → ℕ → List ℕ → Type 0
  EntriesUpTo room n t i r t' = OfferedBelow (table_of z entries moves) room (entry_test q) (rows_in entry_row z.entries entries) no_entry entry_offers n t i r t'

  entry_list : (i : ℕ) → i < z.entries
      → entry_step (table_of z entries moves) p a k q i (row_at entry_row entries i)
      ≡ when (entry_test q (get_or (rows_in entry_row z.entries entries) i no_entry)) (entry_offers i)
  unfolding entry_step entry_offers
  entry_list i h =
      let back : z.inner1 + i - z.inner1 ≡ i = omega arith in
      let set : entry_set (table_of z entries moves) (z.inner1 + i) ≡ (row_at entry_row entries i).S =
      entry_at_set (table_of z entries moves) (z.inner1 + i)
      (entry_at_there z entries moves (z.inner1 + i) (row_at entry_row entries i) (omega arith) (omega arith) (ap (row_at entry_row entries) (sym back))) in
      ap₂ (λ (e : Entry) (S : ℕ). when (entry_test q e) (entry_result p a k S (z.inner1 + i) ∷ []))
      (sym (get_or_rows_in entry_row z.entries entries i no_entry h)) (sym set)

  module _ (room n : ℕ) (t : List ℕ) where
    -- what the entries below number `first` give is held
    pub entries_past : (first : ℕ) → n ≤ room + 1 → EntriesKnown (table_of z entries moves) p a k q first → (first ≤ z.entries) × EntriesUpTo room n t first n t
    unfolding entry_offers
    entries_past first h known =
        let len : length (rows_in entry_row z.entries entries) ≡ z.entries = length_rows_in entry_row z.entries entries in
        let b = known.within in
        (omega (arith, b), passed_past (table_of z entries moves) room (entry_test q) (rows_in entry_row z.entries entries) no_entry entry_offers n t first h b known.known)

    pub entries_more : (i r : ℕ) (t' : List ℕ) (r' : ℕ) (t'' : List ℕ) → EntriesUpTo room n t i r t' → i < z.entries
        → Collects (table_of z entries moves) room r t' (entry_step (table_of z entries moves) p a k q i (row_at entry_row entries i)) r' t''
        → length t'' ≡ length t' → EntriesUpTo room n t (i + 1) r' t''
    entries_more i r t' r' t'' h l c e =
        let len : length (rows_in entry_row z.entries entries) ≡ z.entries = length_rows_in entry_row z.entries entries in
        passed_more (table_of z entries moves) room (entry_test q) (rows_in entry_row z.entries entries) no_entry entry_offers h (omega arith)
        (collects_same (entry_list i l) c) e

    pub entries_all : (i r : ℕ) (t' : List ℕ) → EntriesUpTo room n t i r t' → z.entries ≤ i
        → Collects (table_of z entries moves) room n t (entries_results (table_of z entries moves) p a k q) r t'
    unfolding entries_results control_entries entry_offers
    entries_all i r t' h l =
        let len : length (rows_in entry_row z.entries entries) ≡ z.entries = length_rows_in entry_row z.entries entries in
        passed_all (table_of z entries moves) room (entry_test q) (rows_in entry_row z.entries entries) no_entry entry_offers h (omega arith)

    -- ---- one entry

    module _ (e : Entry) (i : ℕ) (f : e ≡ row_at entry_row entries i) where
      pub entry_other : n ≤ room + 1 → (e.control ≡ q → ⊥)
          → Collects (table_of z entries moves) room n t (entry_step (table_of z entries moves) p a k q i (row_at entry_row entries i)) n t
      unfolding entry_step when
      entry_other h g =
          collects_same
          (sym (ap (entry_step (table_of z entries moves) p a k q i) (sym f) ∙ ap (λ (b : Bool). when b (entry_result p a k e.S (z.inner1 + i) ∷ [])) (ne_eqb e.control q g)))
          (collects_none n t h)

      pub entry_premise : (x : Result) (r : ℕ) (t' : List ℕ) → e.control ≡ q → x ≡ entry_result p a k e.S (z.inner1 + i)
          → Collects (table_of z entries moves) room n t (x ∷ []) r t'
          → Collects (table_of z entries moves) room n t (entry_step (table_of z entries moves) p a k q i (row_at entry_row entries i)) r t'
      unfolding entry_step when
      entry_premise x r t' g s c =
          collects_same
          (ap (λ (y : Result). y ∷ []) s
          ∙ sym (ap (entry_step (table_of z entries moves) p a k q i) (sym f) ∙ ap (λ (b : Bool). when b (entry_result p a k e.S (z.inner1 + i) ∷ [])) (eq-eqb e.control q g)))
          c
