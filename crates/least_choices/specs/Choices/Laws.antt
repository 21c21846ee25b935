-- What stands in lent cells after the choices of one of them are written, and after one element more.
-- Assumes nothing.
use Prim.Native.Nat.{ℕ, suc, ◌+◌, ◌*◌, ◌<◌, ◌≤◌}
use Rattle.std.specs.Prelude.{Bool, true, ◌&&◌, ◌≡◌, get_or, drop}
use Rattle.std.proofs.Math.Bool.{false}
use Rattle.std.proofs.Math.Path.{refl, ap, sym}
use Rattle.std.proofs.Common.{◌∙◌, add-zero, drop_of_length-le, drop-cons}
use mathlib.Core.List.{List, [], ◌∷◌}
use native.Mathlib.Omega.{arith}
use Rattle.std.proofs.Math.ListN.{length}
use Rattle.std.proofs.Math.Dec.{eqb}
use Rattle.words.specs.Lists.{only, places_from}
use Rattle.words.specs.Lists.Laws.{only_yes, only_no}
use Rattle.words.specs.Laws.Tests.{by_test, and_left, and_right}
use Rattle.walks.specs.Guide.{Guided, first_or_zero}
use Rattle.cell_memory.specs.Memory.{guided_cell}
use Rattle.cell_memory.specs.Memory.Laws.{choosing, length_with_choice, with_choice_other, with_choice_guided}
use Rattle.least_choices.specs.Choices.{choice_if, least_met}

-- ---- the least number

module _ {X : Type 0} (mine : X → Bool) (test : ℕ → Bool) (n : ℕ) (x : X) (xs : List X) where
  -- the first element is one of mine and passes
  least_here : mine x && test n ≡ true → first_or_zero (only test (places_from n mine (x ∷ xs))) ≡ n
  unfolding places_from first_or_zero
  least_here e = rw (places_from, and_left (mine x) _ e, only_yes test n (places_from (suc n) mine xs) (and_right (mine x) _ e))

  -- it is not, or it does not
  least_later : mine x && test n ≡ false → first_or_zero (only test (places_from n mine (x ∷ xs))) ≡ first_or_zero (only test (places_from (suc n) mine xs))
  unfolding places_from
  least_later e =
      by_test (mine x)
      (λ h.
      let f : test n ≡ false = ap (λ (b : Bool). b && test n) (sym h) ∙ e in
      rw (places_from, h, only_no test n (places_from (suc n) mine xs) f))
      (λ h. rw (places_from, h))

-- ---- one choice

length_choice_if : (b : Bool) (i q n : ℕ) (cells : List ℕ) → q < 64 → length (choice_if b i q n cells) ≡ length cells
unfolding choice_if
length_choice_if true i q n cells h = length_with_choice cells i q n h
length_choice_if false i q n cells h = refl

choice_if_other : (b : Bool) (i q n : ℕ) (cells : List ℕ) → q < 64 → (j : ℕ) → (j ≡ i → ⊥)
    → guided_cell (choice_if b i q n cells) j ≡ guided_cell cells j
unfolding choice_if
choice_if_other true i q n cells h j e = with_choice_other cells i q n h j e
choice_if_other false i q n cells h j e = refl

choice_if_cell : (b : Bool) (i q n : ℕ) (cells : List ℕ) → q < 64 → i * 68 + 68 ≤ length cells
    → (guided_cell (choice_if b i q n cells) i).cell ≡ (guided_cell cells i).cell
unfolding choice_if
choice_if_cell true i q n cells h l = ap (λ (g : Guided). g.cell) (with_choice_guided cells i q n h l)
choice_if_cell false i q n cells h l = refl

-- the choice for state x
choice_if_choice : (b : Bool) (i q n : ℕ) (cells : List ℕ) → q < 64 → i * 68 + 68 ≤ length cells → (x : ℕ)
    → (guided_cell (choice_if b i q n cells) i).choice x ≡ elim (b && eqb q x) [ true ↦ n | false ↦ (guided_cell cells i).choice x ]
unfolding choice_if choosing
choice_if_choice true i q n cells h l x = ap (λ (g : Guided). g.choice x) (with_choice_guided cells i q n h l)
choice_if_choice false i q n cells h l x = refl

-- ---- the choices of all elements

-- the states of the elements are below 64
abbrev pub ElementsBelow : {X : Type 0} → (X → ℕ) → X → List X → Type 0
ElementsBelow state d xs = (k : ℕ) → k < length xs → state (get_or xs k d) < 64

module _ {X : Type 0} (state : X → ℕ) (met : X → Bool) (i : ℕ) (d : X) where
  pub length_least_met : (n : ℕ) (xs : List X) (cells : List ℕ) → ElementsBelow state d xs → length (least_met state met i n xs cells) ≡ length cells
  unfolding least_met
  length_least_met n [] cells small = refl
  length_least_met n (x ∷ xs) cells small =
      length_choice_if (met x) i (state x) n (least_met state met i (suc n) xs cells) (small 0 (omega arith))
      ∙ length_least_met (suc n) xs cells (λ k h. small (suc k) (omega arith))

  pub least_met_other : (n : ℕ) (xs : List X) (cells : List ℕ) → ElementsBelow state d xs → (j : ℕ) → (j ≡ i → ⊥)
      → guided_cell (least_met state met i n xs cells) j ≡ guided_cell cells j
  unfolding least_met
  least_met_other n [] cells small j e = refl
  least_met_other n (x ∷ xs) cells small j e =
      choice_if_other (met x) i (state x) n (least_met state met i (suc n) xs cells) (small 0 (omega arith)) j e
      ∙ least_met_other (suc n) xs cells (λ k h. small (suc k) (omega arith)) j e

  least_met_cell : (n : ℕ) (xs : List X) (cells : List ℕ) → ElementsBelow state d xs → i * 68 + 68 ≤ length cells
      → (guided_cell (least_met state met i n xs cells) i).cell ≡ (guided_cell cells i).cell
  unfolding least_met
  least_met_cell n [] cells small l = refl
  least_met_cell n (x ∷ xs) cells small l =
      let small' : ElementsBelow state d xs = λ k h. small (suc k) (omega arith) in
      let len : length (least_met state met i (suc n) xs cells) ≡ length cells = length_least_met (suc n) xs cells small' in
      choice_if_cell (met x) i (state x) n (least_met state met i (suc n) xs cells) (small 0 (omega arith)) (omega arith)
      ∙ least_met_cell (suc n) xs cells small' l

  -- an element is met and of state q exactly if it is one of mine and its number passes the test, the first having number n
  abbrev pub Agree : (X → Bool) → (ℕ → Bool) → ℕ → ℕ → List X → Type 0
  Agree mine test q n xs = (k : ℕ) → k < length xs → met (get_or xs k d) && eqb (state (get_or xs k d)) q ≡ mine (get_or xs k d) && test (n + k)

  least_met_choice : (mine : X → Bool) (test : ℕ → Bool) (q n : ℕ) (xs : List X) (cells : List ℕ) → ElementsBelow state d xs → i * 68 + 68 ≤ length cells
      → (guided_cell cells i).choice q ≡ 0 → Agree mine test q n xs
      → (guided_cell (least_met state met i n xs cells) i).choice q ≡ first_or_zero (only test (places_from n mine xs))
  unfolding least_met places_from only first_or_zero
  least_met_choice mine test q n [] cells small l none agree = none
  least_met_choice mine test q n (x ∷ xs) cells small l none agree =
      let small' : ElementsBelow state d xs = λ k h. small (suc k) (omega arith) in
      let len : length (least_met state met i (suc n) xs cells) ≡ length cells = length_least_met (suc n) xs cells small' in
      let agree' : Agree mine test q (suc n) xs =
      λ k h. let e : n + suc k ≡ suc n + k = omega arith in agree (suc k) (omega arith) ∙ ap (λ (m : ℕ). mine (get_or xs k d) && test m) e in
      let here : met x && eqb (state x) q ≡ mine x && test n = agree 0 (omega arith) ∙ ap (λ (m : ℕ). mine x && test m) (add-zero n) in
      choice_if_choice (met x) i (state x) n (least_met state met i (suc n) xs cells) (small 0 (omega arith)) (omega arith) q
      ∙ by_test (met x && eqb (state x) q)
      (λ e. rw e (sym (least_here mine test n x xs (sym here ∙ e))))
      (λ e. rw e (least_met_choice mine test q (suc n) xs cells small' l none agree' ∙ sym (least_later mine test n x xs (sym here ∙ e))))

  -- where cell i had no choice, it has the least one for each state
  pub least_met_guided : (mine : ℕ → X → Bool) (test : ℕ → Bool) (xs : List X) (cells : List ℕ) → ElementsBelow state d xs → i * 68 + 68 ≤ length cells
      → (guided_cell cells i).choice ≡ (λ q. 0) → ((q : ℕ) → Agree (mine q) test q 0 xs)
      → guided_cell (least_met state met i 0 xs cells) i
      ≡ record { cell = (guided_cell cells i).cell; choice = λ q. first_or_zero (only test (places_from 0 (mine q) xs)) }
  least_met_guided mine test xs cells small l none agree = λ j.
      record {
        cell = least_met_cell 0 xs cells small l j;
        choice = λ q. least_met_choice (mine q) test q 0 xs cells small l (ap (λ (f : ℕ → ℕ). f q) none) (agree q) j;
      }

  -- ---- one element more, from the last to the first

  -- The elements from number j on have been looked at.
  pub record Looked (xs : List X) (before now : List ℕ) (j : ℕ) : Type 0 where
    pub is : now ≡ least_met state met i j (drop j xs) before
    pub long : length now ≡ length before

  pub looked_none : (xs : List X) (cells : List ℕ) {n : ℕ} → length xs ≡ n → Looked xs cells cells n
  unfolding least_met
  looked_none xs cells {n} e = record {
    is = ap (λ (l : List X). least_met state met i n l cells) (sym (drop_of_length-le xs {i = n} (omega arith)));
    long = refl;
  }

  pub looked_more : {xs : List X} {c₀ c c' : List ℕ} {j k : ℕ} {x : X} {b : Bool} → Looked xs c₀ c j → k + 1 ≡ j → k < length xs → state x < 64
      → x ≡ get_or xs k d → b ≡ met x → c' ≡ choice_if b i (state x) k c → Looked xs c₀ c' k
  unfolding least_met
  looked_more {xs} {c₀} {c} {c'} {j} {k} {x} {b} h e l small f g w =
      let z : j ≡ suc k = omega arith in
      record {
        is =
            w
            ∙ ap (λ (t : Bool). choice_if t i (state x) k c) (g ∙ ap met f)
            ∙ ap (λ (q : ℕ). choice_if (met (get_or xs k d)) i q k c) (ap state f)
            ∙ ap (choice_if (met (get_or xs k d)) i (state (get_or xs k d)) k)
            (h.is ∙ ap (λ (m : ℕ). least_met state met i m (drop m xs) c₀) z)
            ∙ ap (λ (l : List X). least_met state met i k l c₀) (sym (drop-cons xs k d l));
        long = ap length w ∙ length_choice_if b i (state x) k c small ∙ h.long;
      }

  pub looked_all : {xs : List X} {c₀ c : List ℕ} {j : ℕ} → Looked xs c₀ c j → j ≤ 0 → c ≡ least_met state met i 0 xs c₀
  looked_all {xs} {c₀} {c} {j} h l =
      let z : j ≡ 0 = omega arith in
      h.is ∙ ap (λ (m : ℕ). least_met state met i m (drop m xs) c₀) z
