-- The earlier and the later of two answers, of several answers, and how large their words are.
-- Assumes nothing.
use Rattle.std.specs.Prelude.{ℕ, ◌<◌, ◌≡◌, refl, List, [], ◌∷◌, ◌++◌}
use Rattle.std.proofs.Common.{ap, sym, ◌∙◌, arith}
use Rattle.replies.specs.declared.Acceptance.{Acceptance}
use Rattle.replies.specs.declared.Acceptance.TheVariants.{Never, Since}
use Rattle.replies.specs.Numbers.{answer_word}
use Rattle.rounds.specs.Won.{earlier, later, earliest}

-- ---- the later

pub later_first : (a : Acceptance) → later (Since 0) a ≡ a
unfolding later
later_first Never = refl
later_first (Since n) = ap Since (omega arith)

pub later_last : (a : Acceptance) → later a (Since 0) ≡ a
unfolding later
later_last Never = refl
later_last (Since n) = ap Since (omega arith)

pub later_assoc : (a b c : Acceptance) → later (later a b) c ≡ later a (later b c)
unfolding later
later_assoc Never b c = refl
later_assoc (Since l) Never c = refl
later_assoc (Since l) (Since m) Never = refl
later_assoc (Since l) (Since m) (Since n) = ap Since (omega arith)

pub later_small : (w : ℕ) (a b : Acceptance) → answer_word a < w → answer_word b < w → answer_word (later a b) < w
unfolding later answer_word
later_small w Never b h k = h
later_small w (Since m) Never h k = k
later_small w (Since m) (Since n) h k = omega arith

-- ---- the earlier

pub earlier_last : (a : Acceptance) → earlier a Never ≡ a
unfolding earlier
earlier_last Never = refl
earlier_last (Since n) = refl

pub earlier_assoc : (a b c : Acceptance) → earlier (earlier a b) c ≡ earlier a (earlier b c)
unfolding earlier
earlier_assoc Never b c = refl
earlier_assoc (Since l) Never c = refl
earlier_assoc (Since l) (Since m) Never = refl
earlier_assoc (Since l) (Since m) (Since n) = ap Since (omega arith)

pub earlier_small : (w : ℕ) (a b : Acceptance) → answer_word a < w → answer_word b < w → answer_word (earlier a b) < w
unfolding earlier answer_word
earlier_small w Never b h k = k
earlier_small w (Since m) Never h k = h
earlier_small w (Since m) (Since n) h k = omega arith

pub earliest_append : (f : ℕ → Acceptance) (xs ys : List ℕ) → earliest f (xs ++ ys) ≡ earlier (earliest f xs) (earliest f ys)
unfolding earliest earlier
earliest_append f [] ys = refl
earliest_append f (x ∷ xs) ys = ap (earlier (f x)) (earliest_append f xs ys) ∙ sym (earlier_assoc (f x) (earliest f xs) (earliest f ys))
