-- Tuples of numbers are ordered as the lists of these numbers are.
-- Assumes nothing.
use Rattle.std.specs.Prelude.{ℕ, Bool, ◌≡◌, refl, List, [], ◌∷◌, Option, Some, None, eqb, ltb}
use Rattle.std.specs.Ordering.{nat_cmp, partial_ordering_then, is_some_and, is_lt}
use Rattle.std.proofs.Common.{ap, ◌∙◌, Ordering, Less, Equal, Greater}
use Rattle.words.specs.Laws.Tests.{by_test}
use Rattle.words.specs.Order.{less}

then_assoc : (a b c : Option Ordering) → partial_ordering_then (partial_ordering_then a b) c ≡ partial_ordering_then a (partial_ordering_then b c)
then_assoc None b c = refl
then_assoc (Some Less) b c = refl
then_assoc (Some Equal) b c = refl
then_assoc (Some Greater) b c = refl

-- of two numbers
abbrev pub numbers : ℕ → ℕ → Option Ordering
numbers x y = Some (nat_cmp x y)

-- the order that an answer of `partial_cmp` gives
abbrev pub before : Option Ordering → Bool
before p = is_some_and is_lt p

less_last : (x y : ℕ) → before (numbers x y) ≡ less (x ∷ []) (y ∷ [])
unfolding less
less_last x y = by_test (ltb x y) (λ t. rw (less, t)) (λ f. by_test (eqb x y) (λ t. rw (less, f, t)) (λ g. rw (less, f, g)))

less_more : (x y : ℕ) (xs ys : List ℕ) (p : Option Ordering) → before p ≡ less xs ys
    → before (partial_ordering_then (numbers x y) p) ≡ less (x ∷ xs) (y ∷ ys)
unfolding less
less_more x y xs ys p e =
    by_test (ltb x y) (λ t. rw (less, t)) (λ f. by_test (eqb x y) (λ t. rw (less, f, t) e) (λ g. rw (less, f, g)))

pub less_three : (x₁ x₂ x₃ y₁ y₂ y₃ : ℕ)
    → before (partial_ordering_then (partial_ordering_then (numbers x₁ y₁) (numbers x₂ y₂)) (numbers x₃ y₃))
    ≡ less (x₁ ∷ x₂ ∷ x₃ ∷ []) (y₁ ∷ y₂ ∷ y₃ ∷ [])
less_three x₁ x₂ x₃ y₁ y₂ y₃ =
    ap before (then_assoc (numbers x₁ y₁) (numbers x₂ y₂) (numbers x₃ y₃))
    ∙ less_more x₁ y₁ _ _ _ (less_more x₂ y₂ _ _ _ (less_last x₃ y₃))

pub less_five : (x₁ x₂ x₃ x₄ x₅ y₁ y₂ y₃ y₄ y₅ : ℕ)
    → before
    (partial_ordering_then
    (partial_ordering_then (partial_ordering_then (partial_ordering_then (numbers x₁ y₁) (numbers x₂ y₂)) (numbers x₃ y₃)) (numbers x₄ y₄))
    (numbers x₅ y₅))
    ≡ less (x₁ ∷ x₂ ∷ x₃ ∷ x₄ ∷ x₅ ∷ []) (y₁ ∷ y₂ ∷ y₃ ∷ y₄ ∷ y₅ ∷ [])
less_five x₁ x₂ x₃ x₄ x₅ y₁ y₂ y₃ y₄ y₅ =
    ap before
    (then_assoc (partial_ordering_then (partial_ordering_then (numbers x₁ y₁) (numbers x₂ y₂)) (numbers x₃ y₃)) (numbers x₄ y₄) (numbers x₅ y₅)
    ∙ then_assoc (partial_ordering_then (numbers x₁ y₁) (numbers x₂ y₂)) (numbers x₃ y₃) (partial_ordering_then (numbers x₄ y₄) (numbers x₅ y₅))
    ∙ then_assoc (numbers x₁ y₁) (numbers x₂ y₂) (partial_ordering_then (numbers x₃ y₃) (partial_ordering_then (numbers x₄ y₄) (numbers x₅ y₅))))
    ∙ less_more x₁ y₁ _ _ _ (less_more x₂ y₂ _ _ _ (less_more x₃ y₃ _ _ _ (less_more x₄ y₄ _ _ _ (less_last x₅ y₅))))
