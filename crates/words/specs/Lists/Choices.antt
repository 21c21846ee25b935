-- Choices of one element of each list: which lists they are, and that they come in lexicographic order where each list of candidates
-- rises.
-- Assumes nothing.
use Rattle.std.specs.Prelude.{ℕ, suc, true, ◌≡◌, length}
use Rattle.std.proofs.Math.Path.{refl, subst}
use Rattle.std.proofs.Common.{ap, sym, ◌∙◌}
use mathlib.Core.List.Memᴰ
use mathlib.Core.List.{List, [], ◌∷◌, map, Memᴰ}
use Rattle.words.specs.Lists.{choices}
use Rattle.words.specs.Lists.Laws.{each_in, each_out}
use Rattle.words.specs.Order.{rising, rising_from}
use Rattle.words.specs.Order.Laws.{less_lt, less_eq, one_less, rising_map}
use Rattle.words.specs.Order.Rising.{rising_each, rising_alike}

-- ---- one element of each list

module _ {A : Type 0} where
  -- xs has one element of each list of ls
  pub data OneOfEach : List A → List (List A) → Type 0 where
    none : OneOfEach [] []
    also : {x : A} {l : List A} {xs : List A} {ls : List (List A)} → Memᴰ x l → OneOfEach xs ls → OneOfEach (x ∷ xs) (l ∷ ls)

  pub choices_in_lem : {xs : List A} {ls : List (List A)} → OneOfEach xs ls → Memᴰ xs (choices ls)
  unfolding choices
  choices_in_lem none = Memᴰ.head refl
  choices_in_lem (also {x = x} {ls = ls} i c) = each_in (λ y. map (λ ys. y ∷ ys) (choices ls)) i (Memᴰ.map (λ ys. x ∷ ys) (choices_in_lem c))

  pub choices_out : (ls : List (List A)) {xs : List A} → Memᴰ xs (choices ls) → OneOfEach xs ls
  unfolding choices
  choices_out [] j = subst (λ (z : List A). OneOfEach z []) (sym (Memᴰ.eq_of_singleton j)) none
  choices_out (l ∷ ls) j =
      let r = each_out l (λ y. map (λ ys. y ∷ ys) (choices ls)) j in
      let m = Memᴰ.of_map (λ ys. r.0 ∷ ys) (choices ls) r.2 in
      subst (λ (z : List A). OneOfEach z (l ∷ ls)) m.2 (also r.1 (choices_out ls m.1))

  pub chosen_length : {xs : List A} {ls : List (List A)} → OneOfEach xs ls → length xs ≡ length ls
  chosen_length none = refl
  chosen_length (also i c) = ap suc (chosen_length c)

-- ---- the order of choices

-- the first difference decides
pub choices_rising : (ls : List (List ℕ)) → ((l : List ℕ) → Memᴰ l ls → rising (λ n. n ∷ []) l ≡ true) → rising (λ ns. ns) (choices ls) ≡ true
unfolding choices rising rising_from
choices_rising [] h = refl
choices_rising (l ∷ ls) h = rising_each (λ n. n ∷ []) (λ ns. ns) l (λ x. map (λ xs. x ∷ xs) (choices ls)) (h l (Memᴰ.head refl))
    (λ x j. rising_map (λ ns. ns) (λ xs. x ∷ xs) (choices ls) ∙ rising_alike (λ xs. x ∷ xs) (λ xs. xs) (λ xs ys. less_eq x x xs ys refl) (choices ls)
    ∙ choices_rising ls (λ k i. h k (Memᴰ.tail i)))
    (λ x y i j o u v a b.
    let (xs, p, e) = Memᴰ.of_map (λ xs. x ∷ xs) (choices ls) a in
    let (ys, q, f) = Memᴰ.of_map (λ xs. y ∷ xs) (choices ls) b in
    rw (← e, ← f) (less_lt x y xs ys (one_less x y o)))
