-- What holds of the search for a premise.
-- Assumes nothing.
use Rattle.std.specs.Prelude.{ℕ, ◌<◌, ◌≤◌, ◌^◌, Bool, true, false, ◌&&◌, ◌||◌, ◌≡◌, refl, List}
use Rattle.std.proofs.Math.Path.{ap}
use Rattle.std.proofs.Common.{◌∙◌, subst, not-le_of_lt, pow_mono, eq-eqb, ne_eqb}
use Rattle.std.proofs.Math.Option.{none}
use Rattle.std.proofs.Math.Dec.{eqb}
use Rattle.words.specs.Sets.{single, members}
use Rattle.words.specs.Order.{same}
use Rattle.automata.specs.Automaton.{Automaton, Move}
use Rattle.automata.specs.Derivation.{Result, joins_of}
use Rattle.first_reading.specs.First.{only_if}
use Rattle.first_reading.specs.First.Laws.{only_if_yes, only_if_no, only_if_none}
use Rattle.first_reading.specs.Answer.{written_all}
use Rattle.first_reading.specs.Answer.Laws.{answer_eq, answer_map}
use Rattle.first_reading.specs.Words.{FindsReading}
use Rattle.first_reading.specs.Search.{joins_key, wanted, only_moves}
use Rattle.first_derivation.specs.Premises.{rewritten, pushed, reads_moves, FindsPush}

-- ---- a rewrite

module _ (S : ℕ) (m : Move) (x : Result) where
  pub rewritten_other : (S ≡ x.S → ⊥) → rewritten S m x ≡ false
  unfolding rewritten
  rewritten_other h = ap (λ (t : Bool). t && same (joins_key (joins_of m)) (wanted x)) (ne_eqb S x.S h)

  pub rewritten_same : S ≡ x.S → rewritten S m x ≡ same (joins_key (joins_of m)) (wanted x)
  unfolding rewritten
  rewritten_same h = ap (λ (t : Bool). t && same (joins_key (joins_of m)) (wanted x)) (eq-eqb S x.S h)

-- ---- a push

module _ (A : Automaton) (a : ℕ) (x : Result) (k S r : ℕ) (m : Move) where
  pub pushed_order : eqb m.order 0 || eqb m.order k ≡ false → pushed A a x k S r m ≡ none
  unfolding pushed
  pushed_order h = only_if_no _ _ h

  pub pushed_set : (S ≡ x.S → ⊥) → pushed A a x k S r m ≡ none
  unfolding pushed
  pushed_set h = ap (only_if (eqb m.order 0 || eqb m.order k)) (only_if_no _ _ (ne_eqb S x.S h)) ∙ only_if_none _

  pub pushed_read : {t : Bool} {ws₀ ws : List ℕ} → eqb m.order 0 || eqb m.order k ≡ true → S ≡ x.S
      → FindsReading A a x (members m.R) (record { order = 0; B = 0; R = r }) t ws₀ ws
      → FindsPush A a x k S r m t ws₀ ws
  unfolding pushed reads_moves
  pushed_read h e h' =
      answer_eq (only_if_yes _ _ h ∙ only_if_yes _ _ (eq-eqb S x.S e))
      (answer_map only_moves (written_all (members m.R)) (reads_moves (members m.R)) (λ ns ws. refl) h')

-- ---- one state

-- a state past the width is in no word
pub single_past : (n s : ℕ) → 63 < n → s < 2 ^ 64 → eqb (single n) s ≡ false
unfolding single
single_past n s h l = ne_eqb (2 ^ n) s (λ e. not-le_of_lt l (subst (λ (k : ℕ). 2 ^ 64 ≤ k) e (pow_mono h)))
