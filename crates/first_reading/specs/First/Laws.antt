-- What holds of the first success of a search.
-- Assumes nothing.
use Prim.Native.Nat.{ℕ, zero, suc, ◌<◌, ◌≤◌}
use Rattle.std.specs.Prelude.{Bool, ◌≡◌, length, get_or, take}
use Rattle.std.proofs.Math.Bool.{true, false}
use Rattle.std.proofs.lemmas.Bool.{false≢true}
use Rattle.std.proofs.Math.Path.{refl, ap, ap₂, sym, fun_ext}
use Rattle.std.proofs.Common.{◌∙◌, eq-or-lt_of_le, le_of_suc-le-suc, arith}
use Rattle.std.proofs.Math.Logic.{⊎_elim}
use Rattle.std.proofs.Math.Option
use Rattle.std.proofs.Math.Option.{Option, none, some, none-ne-some}
use mathlib.Core.List.{List, [], ◌∷◌, ◌++◌, map}
use Rattle.std.proofs.Math.Seq.{take-length}
use Rattle.words.specs.Lists.{each, when, first, places, places_from}
use Rattle.words.specs.Lists.Laws.{first_yes, first_no, places_take}
use Rattle.words.specs.Laws.Tests.{by_test}
use Rattle.first_reading.specs.First.{or_else, only_if, is_some, first_below, first_of}

-- ---- one answer or another

module _ {B : Type 0} where
  pub or_else_none : (o : Option B) → or_else o none ≡ o
  unfolding or_else
  or_else_none none = refl
  or_else_none (some y) = refl

  pub or_else_assoc : (o p q : Option B) → or_else (or_else o p) q ≡ or_else o (or_else p q)
  unfolding or_else
  or_else_assoc none p q = refl
  or_else_assoc (some y) p q = refl

  pub only_if_yes : (t : Bool) (o : Option B) → t ≡ true → only_if t o ≡ o
  unfolding only_if
  only_if_yes true o e = refl
  only_if_yes false o e = absurd (false≢true e)

  pub only_if_no : (t : Bool) (o : Option B) → t ≡ false → only_if t o ≡ none
  unfolding only_if
  only_if_no true o e = absurd (false≢true (sym e))
  only_if_no false o e = refl

  pub only_if_some : (t : Bool) (o : Option B) {y : B} → only_if t o ≡ some y → (t ≡ true) × (o ≡ some y)
  unfolding only_if
  only_if_some true o e = (refl, e)
  only_if_some false o {y} e = absurd (none-ne-some y e)

  pub only_if_none : (t : Bool) → only_if {B = B} t none ≡ none
  unfolding only_if
  only_if_none true = refl
  only_if_none false = refl

module _ {A B : Type 0} (g : A → B) where
  pub map_or_else : (o p : Option A) → Option.map g (or_else o p) ≡ or_else (Option.map g o) (Option.map g p)
  unfolding or_else
  map_or_else none p = refl
  map_or_else (some y) p = refl

  pub map_only_if : (t : Bool) (o : Option A) → Option.map g (only_if t o) ≡ only_if t (Option.map g o)
  unfolding only_if
  map_only_if true o = refl
  map_only_if false o = refl

-- ---- over a list

pub first_same : {A : Type 0} (s t : A → Bool) (l : List A) → ((x : A) → s x ≡ t x) → first s l ≡ first t l
first_same s t l h = ap (λ test. first test l) (fun_ext h)

module _ {A : Type 0} (test : A → Bool) where
  pub first_one : (x : A) → first test (x ∷ []) ≡ only_if (test x) (some x)
  unfolding first only_if
  first_one x = by_test (test x) (λ e. first_yes test x [] e ∙ rw (e, only_if)) (λ e. first_no test x [] e ∙ rw (e, only_if))

  pub first_when : (t : Bool) (l : List A) → first test (when t l) ≡ only_if t (first test l)
  unfolding first when only_if
  first_when true l = refl
  first_when false l = refl

  pub first_append_else : (xs ys : List A) → first test (xs ++ ys) ≡ or_else (first test xs) (first test ys)
  unfolding first or_else
  first_append_else [] ys = refl
  first_append_else (x ∷ xs) ys = by_test (test x)
      (λ e. first_yes test x (xs ++ ys) e ∙ ap (λ (o : Option A). or_else o (first test ys)) (sym (first_yes test x xs e)))
      (λ e. first_no test x (xs ++ ys) e ∙ first_append_else xs ys ∙ ap (λ (o : Option A). or_else o (first test ys)) (sym (first_no test x xs e)))

module _ {A B : Type 0} where
  pub first_of_same : (l : List A) (f g : A → Option B) → ((x : A) → f x ≡ g x) → first_of l f ≡ first_of l g
  unfolding first_of
  first_of_same [] f g h = refl
  first_of_same (x ∷ xs) f g h = ap₂ or_else (h x) (first_of_same xs f g h)

  pub first_of_none : (l : List A) (f : A → Option B) → ((x : A) → f x ≡ none) → first_of l f ≡ none
  unfolding first_of or_else
  first_of_none [] f h = refl
  first_of_none (x ∷ xs) f h = ap₂ or_else (h x) (first_of_none xs f h)

  pub first_of_append : (xs ys : List A) (f : A → Option B) → first_of (xs ++ ys) f ≡ or_else (first_of xs f) (first_of ys f)
  unfolding first_of or_else
  first_of_append [] ys f = refl
  first_of_append (x ∷ xs) ys f = ap (or_else (f x)) (first_of_append xs ys f) ∙ sym (or_else_assoc (f x) (first_of xs f) (first_of ys f))

  pub first_of_some : (l : List A) (f : A → Option B) {y : B} → first_of l f ≡ some y → (x : A) × (f x ≡ some y)
  unfolding first_of or_else
  first_of_some [] f {y} e = absurd (none-ne-some y e)
  first_of_some (x ∷ xs) f {y} e = go (f x) refl (first_of_some xs f)
    where
      go : (o : Option B) → f x ≡ o → (first_of xs f ≡ some y → (z : A) × (f z ≡ some y)) → (z : A) × (f z ≡ some y)
      go none h below = below (sym (ap (λ (p : Option B). or_else p (first_of xs f)) h) ∙ e)
      go (some z) h below = (x, h ∙ sym (ap (λ (p : Option B). or_else p (first_of xs f)) h) ∙ e)

  -- a test that does not depend on the element
  pub first_of_only_if : (t : Bool) (l : List A) (f : A → Option B) → first_of l (λ x. only_if t (f x)) ≡ only_if t (first_of l f)
  unfolding only_if
  first_of_only_if true l f = refl
  first_of_only_if false l f = first_of_none l (λ x. none) (λ x. refl)

  -- the first element that passes a test, as the first success
  pub first_of_first : (test : A → Bool) (g : A → B) (l : List A) → first_of l (λ x. only_if (test x) (some (g x))) ≡ Option.map g (first test l)
  unfolding first_of first or_else only_if
  first_of_first test g [] = refl
  first_of_first test g (x ∷ xs) = by_test (test x)
      (λ e. rw (e, only_if) (ap (Option.map g) (sym (first_yes test x xs e))))
      (λ e. rw (e, only_if) (first_of_first test g xs ∙ ap (Option.map g) (sym (first_no test x xs e))))

  -- the first element of a list of lists that passes a test
  pub first_each : (test : B → Bool) (l : List A) (f : A → List B) → first test (each l f) ≡ first_of l (λ x. first test (f x))
  unfolding first_of first each
  first_each test [] f = refl
  first_each test (x ∷ xs) f = first_append_else test (f x) (each xs f) ∙ ap (or_else (first test (f x))) (first_each test xs f)

  pub map_first_of : {C : Type 0} (g : B → C) (l : List A) (f : A → Option B) → Option.map g (first_of l f) ≡ first_of l (λ x. Option.map g (f x))
  unfolding first_of
  map_first_of g [] f = refl
  map_first_of g (x ∷ xs) f = map_or_else g (f x) (first_of xs f) ∙ ap (or_else (Option.map g (f x))) (map_first_of g xs f)

  pub first_map : (test : B → Bool) (g : A → B) (l : List A) → first test (map g l) ≡ Option.map g (first (λ x. test (g x)) l)
  unfolding first
  first_map test g [] = refl
  first_map test g (x ∷ xs) = by_test (test (g x))
      (λ e. first_yes test (g x) (map g xs) e ∙ ap (Option.map g) (sym (first_yes (λ y. test (g y)) x xs e)))
      (λ e. first_no test (g x) (map g xs) e ∙ first_map test g xs ∙ ap (Option.map g) (sym (first_no (λ y. test (g y)) x xs e)))

  pub first_of_map : {C : Type 0} (g : A → B) (l : List A) (f : B → Option C) → first_of (map g l) f ≡ first_of l (λ x. f (g x))
  unfolding first_of
  first_of_map g [] f = refl
  first_of_map g (x ∷ xs) f = ap (or_else (f (g x))) (first_of_map g xs f)

module _ {A B C : Type 0} where
  pub first_of_each : (l : List A) (f : A → List B) (g : B → Option C) → first_of (each l f) g ≡ first_of l (λ x. first_of (f x) g)
  unfolding first_of each
  first_of_each [] f g = refl
  first_of_each (x ∷ xs) f g = first_of_append (f x) (each xs f) g ∙ ap (or_else (first_of (f x) g)) (first_of_each xs f g)

-- ---- over numbers

module _ {B : Type 0} (f : ℕ → Option B) where
  pub first_below_zero : first_below 0 f ≡ none
  unfolding first_below
  first_below_zero = refl

  -- a turn of a loop without success
  pub first_below_more : (n : ℕ) → first_below n f ≡ none → f n ≡ none → first_below (suc n) f ≡ none
  unfolding first_below or_else
  first_below_more n e h = ap₂ or_else e h

  -- a turn of a loop with success
  pub first_below_hit : (i n : ℕ) {y : B} → i < n → first_below i f ≡ none → f i ≡ some y → first_below n f ≡ some y
  unfolding first_below or_else
  first_below_hit i zero h e g = absurd (omega arith)
  first_below_hit i (suc n) {y} h e g = ⊎_elim
      (λ (z : i ≡ n). ap₂ or_else (ap (λ (k : ℕ). first_below k f) (sym z) ∙ e) (ap f (sym z) ∙ g))
      (λ (l : i < n). ap (λ (o : Option B). or_else o (f n)) (first_below_hit i n l e g))
      (eq-or-lt_of_le (le_of_suc-le-suc h))

  pub first_below_at : (i n : ℕ) → i < n → first_below i f ≡ none → is_some (f i) ≡ true → first_below n f ≡ f i
  unfolding is_some
  first_below_at i n h e g = go (f i) refl g
    where
      go : (o : Option B) → f i ≡ o → is_some o ≡ true → first_below n f ≡ f i
      go none z s = absurd (false≢true s)
      go (some y) z s = first_below_hit i n h e z ∙ sym z

-- the numbers of the elements that pass a test
module _ {A B : Type 0} (test : A → Bool) (l : List A) (d : A) (f : ℕ → Option B) where
  -- what the search gives for number i, where its element passes the test
  unfoldable pub at_place : ℕ → Option B
  at_place i = only_if (test (get_or l i d)) (f i)

  first_of_placed : (n : ℕ) → n ≤ length l → first_of (places test (take n l)) f ≡ first_below n at_place
  unfolding first_of first_below places places_from only_if when at_place
  first_of_placed zero h = refl
  first_of_placed (suc n) h =
      ap (λ (k : List ℕ). first_of k f) (places_take test l n d h)
      ∙ first_of_append (places test (take n l)) (when (test (get_or l n d)) (n ∷ [])) f
      ∙ ap₂ or_else (first_of_placed n (omega arith)) (one (test (get_or l n d)))
    where
      one : (t : Bool) → first_of (when t (n ∷ [])) f ≡ only_if t (f n)
      one true = or_else_none (f n)
      one false = refl

  pub first_of_places : first_of (places test l) f ≡ first_below (length l) at_place
  first_of_places = ap (λ (k : List A). first_of (places test k) f) (sym (take-length l)) ∙ first_of_placed (length l) (omega arith)
