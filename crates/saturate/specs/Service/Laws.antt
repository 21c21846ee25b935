-- The service's answer is that of the definition.
-- Assumes nothing.
use Rattle.std.specs.Prelude.{ℕ, ◌*◌, ◌≤◌, ◌+◌, Bool, ◌≡◌, refl, List, length}
use Rattle.std.proofs.Math.Path.{ap, ap₂, sym}
use Rattle.std.proofs.Common.{◌∙◌}
use Rattle.std.proofs.Math.Option.{none, some}
use borrow.Author.Tests.{ne_eqb}
use Rattle.words.specs.Lists.{each, zeros}
use Rattle.automata.specs.Saturation.{Size, Saturated, saturate, all_rounds}
use Rattle.files.specs.Bytes.{Test}
use Rattle.files.specs.Case.{case_refusal, rules_of, own_of}
use Rattle.services.specs.Memory.{padded, Counted, counted, entry_words, entry_width, move_table, entry_table, lent}
use Rattle.services.specs.Saturate.{Lent, SaturateDone, saturated, size_tests, saturate_refusal, saturate_refused, saturate_filled, saturate_answer, saturate_service}
use Rattle.services.proofs.Saturate.Laws.{case_first, case_passed, size_refused, size_passed}
use Rattle.tables.specs.declared.Table.{Table}
use Rattle.tables.specs.Rows.{rows_in}
use Rattle.tables.specs.Rows.Laws.{length_rows_in}
use Rattle.tables.specs.Layouts.{entry_row, counted_row, move_row}
use Rattle.tables.specs.Held.{automaton_of, EntriesStand, MovesStand}
use Rattle.tables.specs.Counts.{CountsStand}
use Rattle.tables.specs.Counts.Laws.{counted_rows, filled_counted}
use Rattle.tables.specs.Laws.Exact.{move_exact, counted_exact}
use Rattle.tables.specs.Laws.Filled.{Filled, filled_whole}
use Rattle.one_round.specs.Rounding.{Standing}
use Rattle.one_round.specs.Rounding.Laws.{standing_entries, standing_moves}
use Rattle.saturation.specs.Running.{most_moves, most_entries}
use Rattle.saturation.specs.Layout.{size_row}
use Rattle.saturation.specs.Held.{saturated_in}
use Rattle.saturate.specs.Case.{CaseSaturated}
use Rattle.saturate.specs.Service.{the_lent, the_done, the_refused}

module _ (x : Lent) where
  -- the test of the size
  abbrev tests : List (Test Lent)
  tests = size_tests (λ y. y) (λ y. all_rounds)

  -- ---- the three ends

  pub done_refused : (code : ℕ) → code ≡ case_refusal x.case → (code ≡ 0 → ⊥) → saturate_refused x code ≡ saturate_service x
  unfolding saturate_service saturate_answer saturate_refusal
  done_refused code e n =
      let hit : saturate_refusal x ≡ code = case_first (λ (y : Lent). y.case) tests x (λ z. n (e ∙ z)) ∙ sym e in
      sym (ap (saturate_answer x) hit ∙ rw (saturate_answer, ne_eqb code 0 n))

  pub done_large : case_refusal x.case ≡ 0 → saturated x all_rounds ≡ none → saturate_refused x 9 ≡ saturate_service x
  unfolding saturate_service saturate_answer saturate_refusal
  done_large e f =
      let hit : saturate_refusal x ≡ 9 = case_passed (λ (y : Lent). y.case) tests x e ∙ size_refused (λ y. y) (λ y. all_rounds) x f in
      sym (ap (saturate_answer x) hit)

  pub done_filled : (T : Saturated) → case_refusal x.case ≡ 0 → saturated x all_rounds ≡ some T → saturate_filled x T ≡ saturate_service x
  unfolding saturate_service saturate_answer saturate_refusal
  done_filled T e f =
      let none-hit : saturate_refusal x ≡ 0 = case_passed (λ (y : Lent). y.case) tests x e ∙ size_passed (λ y. y) (λ y. all_rounds) x f in
      let answer : saturate_answer x 0 ≡ saturate_filled x T = rw (saturate_answer, f) in
      sym (ap (saturate_answer x) none-hit ∙ answer)

-- ---- the tables at the ends

-- all zero, with 0 moves and 0 entries
pub zero_done : (case moves entries moves' entries' : List ℕ) (code : ℕ) → moves' ≡ zeros (length moves) → entries' ≡ zeros (length entries)
    → the_done (the_refused code) moves' entries' ≡ saturate_refused (the_lent case moves entries) code
unfolding saturate_refused
zero_done case moves entries moves' entries' code p q = λ i. the_done (the_refused code) (p i) (q i)

-- the moves and entries of the table, with zeros behind them
pub filled_done : (case moves entries inner moves' entries' : List ℕ) (z : Table) (sizes : List Size)
    → length moves' ≡ length moves → length entries' ≡ length entries → z.moves * 5 ≤ length moves' → z.entries * entry_width ≤ length entries'
    → Filled move_row z.moves moves' → Filled entry_row z.entries entries' → CountsStand z entries' moves'
    → the_done (record { code = 0; moves = z.moves; entries = z.entries }) moves' entries'
    ≡ saturate_filled (the_lent case moves entries) (record { table = automaton_of z inner entries' moves'; sizes = sizes })
unfolding saturate_filled move_table entry_table counted
filled_done case moves entries inner moves' entries' z sizes lm le hm he fm fe counts =
    let m : length (rows_in move_row z.moves moves') ≡ z.moves = length_rows_in move_row z.moves moves' in
    let e : length (rows_in entry_row z.entries entries') ≡ z.entries = length_rows_in entry_row z.entries entries' in
    let p : moves' ≡ padded (length moves) (move_table (automaton_of z inner entries' moves')) =
    filled_whole move_row move_exact z.moves moves' hm fm ∙ ap (λ (n : ℕ). padded n (move_table (automaton_of z inner entries' moves'))) lm in
    let q : entries' ≡ padded (length entries) (entry_table (automaton_of z inner entries' moves')) =
    filled_whole counted_row counted_exact z.entries entries' he (filled_counted fe)
    ∙ ap₂ (λ (n : ℕ) (l : List Counted). padded n (each l entry_words)) le
    (counted_rows z.inner1 z.entries entries' (rows_in move_row z.moves moves') (rows_in entry_row z.entries entries') refl counts) in
    λ i. the_done (record { code = 0; moves = sym m i; entries = sym e i }) (p i) (q i)

-- ---- the code's three ends

module _ (case moves entries : List ℕ) where
  pub ends_refused : (code : ℕ) (moves' entries' : List ℕ) → code ≡ case_refusal case → (code ≡ 0 → ⊥)
      → moves' ≡ zeros (length moves) → entries' ≡ zeros (length entries) → the_done (the_refused code) moves' entries' ≡ saturate_service (the_lent case moves entries)
  ends_refused code moves' entries' ec n p q =
      zero_done case moves entries moves' entries' code p q
      ∙ done_refused (the_lent case moves entries) code ec n

  -- what was saturated in tables of the same lengths
  module _ (sound : case_refusal case ≡ 0) (m e : ℕ) (lm : m ≡ length moves) (le : e ≡ length entries) where
    same_lent : saturate (rules_of case) (lent m e) all_rounds (own_of case) ≡ saturated (the_lent case moves entries) all_rounds
    unfolding saturated
    same_lent = ap₂ (λ (x y : ℕ). saturate (rules_of case) (lent x y) all_rounds (own_of case)) lm le

    pub ends_large : (moves₁ entries₁ : List ℕ) → saturate (rules_of case) (lent m e) all_rounds (own_of case) ≡ none → moves₁ ≡ zeros m → entries₁ ≡ zeros e
        → the_done (the_refused 9) moves₁ entries₁ ≡ saturate_service (the_lent case moves entries)
    ends_large moves₁ entries₁ s p q =
        zero_done case moves entries moves₁ entries₁ 9 (p ∙ ap zeros lm) (q ∙ ap zeros le)
        ∙ done_large (the_lent case moves entries) sound (sym same_lent ∙ s)

    pub ends_filled : (z : Table) (k : ℕ) (more : Bool) (inner entries₁ moves₁ sizes : List ℕ) → CaseSaturated case all_rounds m e z k more inner entries₁ moves₁ sizes
        → length moves₁ ≡ length moves → length entries₁ ≡ length entries
        → the_done (record { code = 0; moves = z.moves; entries = z.entries }) moves₁ entries₁ ≡ saturate_service (the_lent case moves entries)
    ends_filled z k more inner entries₁ moves₁ sizes s a b =
        let st : Standing z (most_moves m) (most_entries e (own_of case).J) inner entries₁ moves₁ = s.standing in
        let es : EntriesStand z entries₁ = standing_entries z (most_moves m) (most_entries e (own_of case).J) inner entries₁ moves₁ st in
        let ms : MovesStand z moves₁ = standing_moves z (most_moves m) (most_entries e (own_of case).J) inner entries₁ moves₁ st in
        filled_done case moves entries inner moves₁ entries₁ z (rows_in size_row (k + 1) sizes) a b ms.moves_lent es.entries_lent s.moves_filled s.entries_filled st.counts
        ∙ done_filled (the_lent case moves entries) (saturated_in z inner entries₁ moves₁ (k + 1) sizes) sound (sym same_lent ∙ s.saturated)

-- the same slices are lent where a call before has kept their lengths
pub service_kept : (case : List ℕ) {d : SaturateDone} {m m' e e' : ℕ} → d ≡ saturate_service (record { case = case; moves = m; entries = e }) → m ≡ m' → e ≡ e'
    → d ≡ saturate_service (record { case = case; moves = m'; entries = e' })
service_kept case h p q = h ∙ (λ i. saturate_service (record { case = case; moves = p i; entries = q i }))

pub zero_self : (t : List ℕ) (n : ℕ) → t ≡ zeros n → length t ≡ n → t ≡ zeros (length t)
zero_self t n e l = e ∙ ap zeros (sym l)
