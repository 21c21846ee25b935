-- No two stacks print alike: a stack, and what follows its text, can be told from the whole.
-- Assumes nothing.
use Rattle.std.specs.Prelude.{ℕ, ◌<◌, ◌≡◌, refl, List, [], ◌∷◌, ◌++◌, get_or}
use Rattle.std.proofs.Common.{ap, sym, ◌∙◌, subst, append_assoc, arith}
use Rattle.stacks.specs.Stack.{Stack1, nil1, cons1, Stack2, nil2, cons2, Annotation, of1, of2}
use Rattle.services.specs.Listing.{ascii, decimal}
use Rattle.services.specs.Listing.Decimal.{decimal_first, decimal_told}
use Rattle.services.proofs.Parts.{first, rest, order1_parts, order2_parts, order1_rest, order2_rest}
use Rattle.services.specs.Brackets.{between, symbols_text, stacks_text, annotation_text, stack_text}

-- ---- a text and what follows it, byte by byte

-- what follows the number of a symbol: a space, its annotation, and the symbols beneath
abbrev follows_symbol : Annotation → Stack1 → List ℕ → List ℕ
follows_symbol u s x = 32 ∷ (annotation_text u ++ (between s ++ (symbols_text s ++ x)))

symbols_parts : (a : ℕ) (u : Annotation) (s : Stack1) (x : List ℕ) → symbols_text (cons1 a u s) ++ x ≡ decimal a ++ follows_symbol u s x
unfolding symbols_text ascii
symbols_parts a u s x =
    append_assoc (decimal a ++ (32 ∷ []) ++ annotation_text u ++ between s) (symbols_text s) x
    ∙ append_assoc (decimal a ++ (32 ∷ []) ++ annotation_text u) (between s) (symbols_text s ++ x)
    ∙ append_assoc (decimal a ++ (32 ∷ [])) (annotation_text u) (between s ++ (symbols_text s ++ x))
    ∙ append_assoc (decimal a) (32 ∷ []) (annotation_text u ++ (between s ++ (symbols_text s ++ x)))

stacks_parts : (w : Stack1) (t : Stack2) (x : List ℕ) → stacks_text (cons2 w t) ++ x ≡ 91 ∷ (symbols_text w ++ (93 ∷ (stacks_text t ++ x)))
unfolding stacks_text ascii
stacks_parts w t x =
    ap (λ (l : List ℕ). 91 ∷ l) (append_assoc (symbols_text w ++ (93 ∷ [])) (stacks_text t) x ∙ append_assoc (symbols_text w) (93 ∷ []) (stacks_text t ++ x))

-- ---- what can be told

-- the symbols of s, up to the bracket after them, and what follows can be told from the whole
unfoldable SymbolsTold : Stack1 → Type 0
SymbolsTold s = (r : Stack1) (x y : List ℕ) → symbols_text s ++ (93 ∷ x) ≡ symbols_text r ++ (93 ∷ y) → (s ≡ r) × (x ≡ y)

-- no symbol, or a space and a symbol
rest_told : (s r : Stack1) (x y : List ℕ) → SymbolsTold s → between s ++ (symbols_text s ++ (93 ∷ x)) ≡ between r ++ (symbols_text r ++ (93 ∷ y))
    → (s ≡ r) × (x ≡ y)
unfolding SymbolsTold between ascii symbols_text
rest_told nil1 nil1 x y told e = (refl, rest e)
rest_told nil1 (cons1 b v r) x y told e = absurd (omega (arith, first e))
rest_told (cons1 a u s) nil1 x y told e = absurd (omega (arith, first e))
rest_told (cons1 a u s) (cons1 b v r) x y told e = told (cons1 b v r) x y (rest e)

-- no number begins with a bracket
no_bracket : (a : ℕ) (x y : List ℕ) → (93 ∷ x) ≡ decimal a ++ y → ⊥
no_bracket a x y e =
    let l : get_or (93 ∷ x) 0 0 < 58 = subst (λ (l : List ℕ). get_or l 0 0 < 58) (sym e) (decimal_first a y) in
    omega arith

mutual
  unfolding SymbolsTold symbols_text

  symbols_told : (s : Stack1) → SymbolsTold s
  symbols_told nil1 nil1 x y e = (refl, rest e)
  symbols_told nil1 (cons1 b v r) x y e = absurd (no_bracket b x _ (e ∙ symbols_parts b v r (93 ∷ y)))
  symbols_told (cons1 a u s) nil1 x y e = absurd (no_bracket a y _ (sym e ∙ symbols_parts a u s (93 ∷ x)))
  symbols_told (cons1 a u s) (cons1 b v r) x y e =
      let (n, f) = decimal_told a b 32 32 _ _ (omega arith) (omega arith) (sym (symbols_parts a u s (93 ∷ x)) ∙ e ∙ symbols_parts b v r (93 ∷ y)) in
      let (w, g) = annotation_told u v _ _ (rest f) in
      let (l, h) = rest_told s r x y (symbols_told s) g in
      (λ i. cons1 (n i) (w i) (l i), h)

  stacks_told : (t : Stack2) (r : Stack2) (x y : List ℕ) → stacks_text t ++ (93 ∷ x) ≡ stacks_text r ++ (93 ∷ y) → (t ≡ r) × (x ≡ y)
  stacks_told nil2 nil2 x y e = (refl, rest e)
  stacks_told nil2 (cons2 v r) x y e = absurd (omega (arith, first (e ∙ stacks_parts v r (93 ∷ y))))
  stacks_told (cons2 w t) nil2 x y e = absurd (omega (arith, first (sym e ∙ stacks_parts w t (93 ∷ x))))
  stacks_told (cons2 w t) (cons2 v r) x y e =
      let (m, f) = symbols_told w v _ _ (rest (sym (stacks_parts w t (93 ∷ x)) ∙ e ∙ stacks_parts v r (93 ∷ y))) in
      let (n, g) = stacks_told t r x y f in
      (λ i. cons2 (m i) (n i), g)

  pub annotation_told : (u : Annotation) (v : Annotation) (x y : List ℕ) → annotation_text u ++ x ≡ annotation_text v ++ y → (u ≡ v) × (x ≡ y)
  annotation_told (of1 s) (of1 r) x y e =
      let (m, f) = symbols_told s r _ _ (order1_rest s r x y e) in
      (ap of1 m, rest f)
  annotation_told (of1 s) (of2 r) x y e = absurd (omega (arith, first (sym (order1_parts s x) ∙ e ∙ order2_parts r y)))
  annotation_told (of2 t) (of1 r) x y e = absurd (omega (arith, first (sym (order2_parts t x) ∙ e ∙ order1_parts r y)))
  annotation_told (of2 t) (of2 r) x y e =
      let (m, f) = stacks_told t r _ _ (order2_rest t r x y e) in
      (ap of2 m, rest f)

stack_parts : (t : Stack2) (x : List ℕ) → stack_text t ++ x ≡ 91 ∷ (stacks_text t ++ (93 ∷ x))
unfolding stack_text ascii
stack_parts t x = ap (λ (l : List ℕ). 91 ∷ l) (append_assoc (stacks_text t) (93 ∷ []) x)

-- "No two different order-2 stacks print alike", and what follows a text can be told from it.
pub stack_told : (t r : Stack2) (x y : List ℕ) → stack_text t ++ x ≡ stack_text r ++ y → (t ≡ r) × (x ≡ y)
stack_told t r x y e = stacks_told t r x y (rest (sym (stack_parts t x) ∙ e ∙ stack_parts r y))
