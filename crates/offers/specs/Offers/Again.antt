-- Results offered in another order, and offered again: the order does not matter, and what was offered before changes nothing.
-- Assumes nothing.
use Rattle.std.specs.Prelude.{ℕ, ◌≤◌, ◌<◌, Bool, false, ◌≡◌, leb}
use Rattle.std.proofs.Math.Bool.{true}
use Rattle.std.proofs.Math.Path.{refl, ap, sym}
use Rattle.std.proofs.Common.{◌∙◌, subst, arith}
use Rattle.std.proofs.Math.Option.{Option, none, some}
use mathlib.Core.List.{List, [], ◌∷◌}
use Rattle.std.proofs.Math.ListN.{length}
use borrow.Author.Tests.{leb-true, leb-false}
use Rattle.words.specs.Laws.Tests.{by_test}
use Rattle.words.specs.Order.{less, insert}
use Rattle.words.specs.Order.Laws.{less_transitive, by_place, insert_before, insert_after, insert_held}
use Rattle.automata.specs.Derivation.{Result, result_key}
use Rattle.automata.proofs.Derivation.Laws.{result_key_eq}
use Rattle.tables.specs.Insertion.Laws.{length_insert}
use Rattle.tables.specs.Pending.{limited, insert_within}
use Rattle.tables.specs.Pending.Laws.{limited_fits, limited_over}
use Rattle.offers.specs.Offers.{offer, offer_all}
use Rattle.offers.specs.Offers.Laws.{offer_left, offer_kept}

-- ---- a list with elements inserted, also where it is not sorted

module _ {A : Type 0} (key : A → List ℕ) where
  insert_twice : (x : A) (l : List A) → insert key x (insert key x l) ≡ insert key x l
  unfolding insert
  insert_twice x [] = insert_held key x x [] refl
  insert_twice x (y ∷ l) = by_place key x y
      (λ h. ap (insert key x) (insert_before key x y l h) ∙ insert_held key x x (y ∷ l) refl ∙ sym (insert_before key x y l h))
      (λ h. ap (insert key x) (insert_held key x y l h))
      (λ h. ap (insert key x) (insert_after key x y l h) ∙ insert_after key x y (insert key x l) h ∙ ap (λ (k : List A). y ∷ k) (insert_twice x l)
      ∙ sym (insert_after key x y l h))

  -- x comes before y and before all of l
  insert_first : (x y z : A) (l : List A) → less (key x) (key y) ≡ true → less (key x) (key z) ≡ true → insert key x (insert key y (z ∷ l)) ≡ x ∷ insert key y (z ∷ l)
  insert_first x y z l h k = by_place key y z
      (λ e. rw (insert_before key y z l e) (insert_before key x y (z ∷ l) h))
      (λ e. rw (insert_held key y z l e) (insert_before key x z l k))
      (λ e. rw (insert_after key y z l e) (insert_before key x z (insert key y l) k))

  swap_less : (x y : A) (l : List A) → less (key x) (key y) ≡ true → insert key x (insert key y l) ≡ insert key y (insert key x l)
  unfolding insert
  swap_less x y [] h = insert_before key x y [] h ∙ sym (insert_after key y x [] h)
  swap_less x y (z ∷ l) h = by_place key x z
      (λ e. insert_first x y z l h e ∙ sym (ap (insert key y) (insert_before key x z l e) ∙ insert_after key y x (z ∷ l) h))
      (λ e.
      let a : insert key y (z ∷ l) ≡ z ∷ insert key y l = insert_after key y z l (subst (λ (k : List ℕ). less k (key y) ≡ true) e h) in
      ap (insert key x) a ∙ insert_held key x z (insert key y l) e ∙ sym (ap (insert key y) (insert_held key x z l e) ∙ a))
      (λ e.
      let k : less (key z) (key y) ≡ true = less_transitive (key z) (key x) (key y) e h in
      ap (insert key x) (insert_after key y z l k) ∙ insert_after key x z (insert key y l) e
      ∙ ap (λ (k : List A). z ∷ k) (swap_less x y l h)
      ∙ sym (ap (insert key y) (insert_after key x z l e) ∙ insert_after key y z (insert key x l) k))

  insert_swap : ((x y : A) → key x ≡ key y → x ≡ y) → (x y : A) (l : List A) → insert key x (insert key y l) ≡ insert key y (insert key x l)
  insert_swap key-eq x y l = by_place key x y
      (λ h. swap_less x y l h)
      (λ h. ap (λ (z : A). insert key z (insert key y l)) (key-eq x y h) ∙ sym (ap (λ (z : A). insert key y (insert key z l)) (key-eq x y h)))
      (λ h. sym (swap_less y x l h))

-- ---- results offered again

module _ (room : ℕ) where
  insert_both : (x y : Result) (l : List Result) → insert_within room x (insert_within room y (some l)) ≡ limited room (insert result_key x (insert result_key y l))
  unfolding insert_within
  insert_both x y l = by_test (leb (length (insert result_key y l)) room)
      (λ e. ap (insert_within room x) (limited_fits room (insert result_key y l) (leb-true (length (insert result_key y l)) room e)))
      (λ e.
      let b : room < length (insert result_key y l) = leb-false (length (insert result_key y l)) room e in
      let k : length (insert result_key y l) ≤ length (insert result_key x (insert result_key y l)) = length_insert result_key x (insert result_key y l) in
      ap (insert_within room x) (limited_over room (insert result_key y l) b)
      ∙ sym (limited_over room (insert result_key x (insert result_key y l)) (omega arith)))

  within_swap : (x y : Result) (kept : Option (List Result)) → insert_within room x (insert_within room y kept) ≡ insert_within room y (insert_within room x kept)
  unfolding insert_within
  within_swap x y none = refl
  within_swap x y (some l) = insert_both x y l ∙ ap (limited room) (insert_swap result_key result_key_eq x y l) ∙ sym (insert_both y x l)

  within_twice : (x : Result) (kept : Option (List Result)) → insert_within room x (insert_within room x kept) ≡ insert_within room x kept
  unfolding insert_within
  within_twice x none = refl
  within_twice x (some l) = insert_both x x l ∙ ap (limited room) (insert_twice result_key x l)

  module _ (leave : Result → Bool) where
    offer_swap : (kept : Option (List Result)) (x y : Result) → offer leave room (offer leave room kept y) x ≡ offer leave room (offer leave room kept x) y
    offer_swap kept x y = by_test (leave x)
        (λ e. offer_left leave room (offer leave room kept y) x e ∙ ap (λ (o : Option (List Result)). offer leave room o y) (sym (offer_left leave room kept x e)))
        (λ e. by_test (leave y)
        (λ f. ap (λ (o : Option (List Result)). offer leave room o x) (offer_left leave room kept y f) ∙ sym (offer_left leave room (offer leave room kept x) y f))
        (λ f. both y x kept f e ∙ within_swap x y kept ∙ sym (both x y kept e f)))
      where
        both : (x y : Result) (kept : Option (List Result)) → leave x ≡ false → leave y ≡ false
            → offer leave room (offer leave room kept x) y ≡ insert_within room y (insert_within room x kept)
        both x y kept e f = offer_kept leave room (offer leave room kept x) y f ∙ ap (insert_within room y) (offer_kept leave room kept x e)

    pub offer_twice : (kept : Option (List Result)) (x : Result) → offer leave room (offer leave room kept x) x ≡ offer leave room kept x
    offer_twice kept x = by_test (leave x)
        (λ e. offer_left leave room (offer leave room kept x) x e)
        (λ e. offer_kept leave room (offer leave room kept x) x e ∙ ap (insert_within room x) (offer_kept leave room kept x e) ∙ within_twice x kept
        ∙ sym (offer_kept leave room kept x e))

    pub offer_all_swap : (xs : List Result) (kept : Option (List Result)) (y : Result)
        → offer_all leave room (offer leave room kept y) xs ≡ offer leave room (offer_all leave room kept xs) y
    unfolding offer_all
    offer_all_swap [] kept y = refl
    offer_all_swap (x ∷ xs) kept y =
        ap (λ (o : Option (List Result)). offer_all leave room o xs) (offer_swap kept x y) ∙ offer_all_swap xs (offer leave room kept x) y

    -- the order of two lists does not matter
    pub offer_all_both : (ys xs : List Result) (kept : Option (List Result))
        → offer_all leave room (offer_all leave room kept ys) xs ≡ offer_all leave room (offer_all leave room kept xs) ys
    unfolding offer_all
    offer_all_both [] xs kept = refl
    offer_all_both (y ∷ ys) xs kept =
        offer_all_both ys xs (offer leave room kept y) ∙ ap (λ (o : Option (List Result)). offer_all leave room o ys) (offer_all_swap xs kept y)

    -- a list offered twice is offered once
    pub offer_all_twice : (xs : List Result) (kept : Option (List Result)) → offer_all leave room (offer_all leave room kept xs) xs ≡ offer_all leave room kept xs
    unfolding offer_all
    offer_all_twice [] kept = refl
    offer_all_twice (x ∷ xs) kept =
        ap (λ (o : Option (List Result)). offer_all leave room o xs)
        (sym (offer_all_swap xs (offer leave room kept x) x) ∙ ap (λ (o : Option (List Result)). offer_all leave room o xs) (offer_twice kept x))
        ∙ offer_all_twice xs (offer leave room kept x)
