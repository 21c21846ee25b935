-- The rule of the table of operations, by one test over the whole table.
-- Assumes nothing.
use Prim.Native.Nat.{ℕ, zero, suc, ◌+◌, ◌-◌, ◌<◌, ◌≤◌}
use Rattle.std.specs.Prelude.{Bool, true, ◌&&◌, ◌≡◌, refl, length, get_or, eqb, ltb}
use Rattle.std.proofs.Math.Path.{ap}
use Rattle.std.proofs.Common.{sym, ◌∙◌, subst, add-zero, eqb-true, lt-ltb}
use mathlib.Core.List.{List, [], ◌∷◌}
use native.Mathlib.Omega.{arith}
use Rattle.words.specs.Laws.Tests.{and_left, and_right}
use Rattle.stacks.specs.Stack.{new_cells}
use Rattle.files.specs.Case.{rule_right, operation_of}
use Rattle.files.specs.Codes.{our_codes}
use Rattle.operations.specs.declared.Operand.{Operand}
use Rattle.operations.specs.declared.Operand.TheVariants.{Symbol, Zero}
use Rattle.operations.specs.declared.Line.{Line}
use Rattle.operations.specs.Table.{operand_right, is_operand, LineOf}

-- ---- a test over a whole table

module _ {A : Type 0} (right : ℕ → A → Bool) where
  -- each entry passes the test of its number, the first having number n
  unfoldable all_from : ℕ → List A → Bool
  all_from n [] = true
  all_from n (x ∷ xs) = right n x && all_from (suc n) xs

  all_at : (n : ℕ) (l : List A) (d : A) (i : ℕ) → all_from n l ≡ true → i < length l → right (n + i) (get_or l i d) ≡ true
  unfolding all_from
  all_at n [] d zero e h = absurd (omega arith)
  all_at n [] d (suc i) e h = absurd (omega arith)
  all_at n (x ∷ xs) d zero e h = ap (λ (k : ℕ). right k x) (add-zero n) ∙ and_left (right n x) _ e
  all_at n (x ∷ xs) d (suc i) e h =
      let z : n + suc i ≡ suc n + i = omega arith in
      ap (λ (k : ℕ). right k (get_or xs i d)) z ∙ all_at (suc n) xs d i (and_right (right n x) _ e) (omega arith)

-- ---- the line of a code

-- the line has this code, and the new cells of its operation
unfoldable line_right : ℕ → Line → Bool
line_right code x = eqb x.code code && eqb x.cells (new_cells (operation_of code 0))

-- the new cells do not depend on b
cells_any : (code b : ℕ) → new_cells (operation_of code 0) ≡ new_cells (operation_of code b)
unfolding operation_of new_cells
cells_any zero b = refl
cells_any (suc zero) b = refl
cells_any (suc (suc zero)) b = refl
cells_any (suc (suc (suc zero))) b = refl
cells_any (suc (suc (suc (suc zero)))) b = refl
cells_any (suc (suc (suc (suc (suc zero))))) b = refl
cells_any (suc (suc (suc (suc (suc (suc zero)))))) b = refl
cells_any (suc (suc (suc (suc (suc (suc (suc zero))))))) b = refl
cells_any (suc (suc (suc (suc (suc (suc (suc (suc k)))))))) b = refl

-- the code's table, line by line
unfoldable pub lines : List Line
lines =
    record { code = 1; operand = Symbol; cells = 2 }
    ∷ record { code = 2; operand = Symbol; cells = 3 }
    ∷ record { code = 3; operand = Symbol; cells = 3 }
    ∷ record { code = 4; operand = Zero; cells = 4 }
    ∷ record { code = 5; operand = Zero; cells = 1 }
    ∷ record { code = 6; operand = Zero; cells = 0 }
    ∷ record { code = 7; operand = Zero; cells = 1 }
    ∷ record { code = 8; operand = Zero; cells = 0 }
    ∷ []

-- in each line the operand says which b is right
operand_at : (d : Line) (code : ℕ) → 1 ≤ code → code ≤ 8 → (symbols b : ℕ) → 0 < symbols
    → is_operand (get_or lines (code - 1) d).operand symbols b ≡ operand_right code symbols b
unfolding lines is_operand operand_right rule_right
operand_at d zero l h symbols b p = absurd (omega arith)
operand_at d (suc zero) l h symbols b p = rw (lt-ltb 0 symbols p) refl
operand_at d (suc (suc zero)) l h symbols b p = rw (lt-ltb 0 symbols p) refl
operand_at d (suc (suc (suc zero))) l h symbols b p = rw (lt-ltb 0 symbols p) refl
operand_at d (suc (suc (suc (suc zero)))) l h symbols b p = rw (lt-ltb 0 symbols p) refl
operand_at d (suc (suc (suc (suc (suc zero))))) l h symbols b p = rw (lt-ltb 0 symbols p) refl
operand_at d (suc (suc (suc (suc (suc (suc zero)))))) l h symbols b p = rw (lt-ltb 0 symbols p) refl
operand_at d (suc (suc (suc (suc (suc (suc (suc zero))))))) l h symbols b p = rw (lt-ltb 0 symbols p) refl
operand_at d (suc (suc (suc (suc (suc (suc (suc (suc zero)))))))) l h symbols b p = rw (lt-ltb 0 symbols p) refl
operand_at d (suc (suc (suc (suc (suc (suc (suc (suc (suc k))))))))) l h symbols b p = absurd (omega arith)

-- Each line has the code of its place, the b that is right for it, and the new cells of its operation.
pub line_at : (d : Line) (code : ℕ) → 1 ≤ code → code ≤ 8 → LineOf code (get_or lines (code - 1) d)
unfolding lines all_from line_right operation_of new_cells
line_at d code l h =
    let x : Line = get_or lines (code - 1) d in
    let z : 1 + (code - 1) ≡ code = omega arith in
    let e : line_right code x ≡ true = subst (λ (k : ℕ). line_right k x ≡ true) z (all_at line_right 1 lines d (code - 1) refl (omega arith)) in
    record {
      code_is = eqb-true x.code code (and_left (eqb x.code code) _ e);
      operand_is = operand_at d code l h;
      cells_are = λ k. eqb-true x.cells (new_cells (operation_of code 0)) (and_right (eqb x.code code) _ e) ∙ cells_any code k;
    }

-- ---- the use of b

module _ (code symbols b : ℕ) (some : 0 < symbols) {x : Line} (f : LineOf code x) where
  pub operand_symbol : x.operand ≡ Symbol → ltb b symbols ≡ operand_right code symbols b
  unfolding is_operand
  operand_symbol e = ap (λ (o : Operand). is_operand o symbols b) (sym e) ∙ f.operand_is symbols b some

  pub operand_zero : x.operand ≡ Zero → eqb b 0 ≡ operand_right code symbols b
  unfolding is_operand
  operand_zero e = ap (λ (o : Operand). is_operand o symbols b) (sym e) ∙ f.operand_is symbols b some

-- ---- our codes

-- the code of line i is our code number i
pub code_ours : {x : Line} (i : ℕ) → i < 8 → LineOf (i + 1) x → x.code ≡ get_or our_codes i 0
unfolding our_codes all_from
code_ours i l f =
    let own : get_or our_codes i 0 ≡ 1 + i = eqb-true _ _ (all_at (λ (n x : ℕ). eqb x n) 1 our_codes 0 i refl l) in
    let here : _ ≡ i + 1 = f.code_is in
    omega arith
