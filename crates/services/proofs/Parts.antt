-- The text of an annotation, byte by byte, and what follows it.
-- Assumes nothing.
use Rattle.std.specs.Prelude.{ℕ, ◌≡◌, List, [], ◌∷◌, ◌++◌, get_or, drop}
use Rattle.std.proofs.Common.{ap, sym, ◌∙◌, append_assoc}
use Rattle.stacks.specs.Stack.{Stack1, Stack2, of1, of2}
use Rattle.services.specs.Listing.{ascii}
use Rattle.services.specs.Brackets.{symbols_text, stacks_text, annotation_text}

-- ---- bytes at the front

pub first : {b c : ℕ} {x y : List ℕ} → (b ∷ x) ≡ (c ∷ y) → b ≡ c
first e = ap (λ (l : List ℕ). get_or l 0 0) e

pub rest : {b c : ℕ} {x y : List ℕ} → (b ∷ x) ≡ (c ∷ y) → x ≡ y
rest e = ap (drop 1) e

-- ---- annotations

pub order1_parts : (s : Stack1) (x : List ℕ) → annotation_text (of1 s) ++ x ≡ 49 ∷ 123 ∷ 91 ∷ (symbols_text s ++ (93 ∷ 125 ∷ x))
unfolding annotation_text ascii
order1_parts s x = ap (λ (l : List ℕ). 49 ∷ 123 ∷ 91 ∷ l) (append_assoc (symbols_text s) (93 ∷ 125 ∷ []) x)

pub order2_parts : (t : Stack2) (x : List ℕ) → annotation_text (of2 t) ++ x ≡ 50 ∷ 123 ∷ 91 ∷ (stacks_text t ++ (93 ∷ 125 ∷ x))
unfolding annotation_text ascii
order2_parts t x = ap (λ (l : List ℕ). 50 ∷ 123 ∷ 91 ∷ l) (append_assoc (stacks_text t) (93 ∷ 125 ∷ []) x)

-- what two annotations of one order that print alike hold, and what follows them
pub order1_rest : (s r : Stack1) (x y : List ℕ) → annotation_text (of1 s) ++ x ≡ annotation_text (of1 r) ++ y
    → symbols_text s ++ (93 ∷ 125 ∷ x) ≡ symbols_text r ++ (93 ∷ 125 ∷ y)
order1_rest s r x y e = rest (rest (rest (sym (order1_parts s x) ∙ e ∙ order1_parts r y)))

pub order2_rest : (t r : Stack2) (x y : List ℕ) → annotation_text (of2 t) ++ x ≡ annotation_text (of2 r) ++ y
    → stacks_text t ++ (93 ∷ 125 ∷ x) ≡ stacks_text r ++ (93 ∷ 125 ∷ y)
order2_rest t r x y e = rest (rest (rest (sym (order2_parts t x) ∙ e ∙ order2_parts r y)))
