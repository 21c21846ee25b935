-- An operation of the code is that of its code number.
-- Assumes nothing.
use Rattle.std.specs.Prelude.{ℕ, zero, suc, ◌≤◌, ◌<◌, ◌≡◌, refl}
use Rattle.std.proofs.Common.{arith}
use Rattle.stacks.specs.Stack as Stack
use Rattle.files.specs.Case.{operation_of}
use Rattle.case_records.specs.Values.{code_of}

-- Code 0 is read as 1 and codes above 8 as 8; a sound case has neither.
pub operation_first : (code b : ℕ) → code < 2 → operation_of code b ≡ Stack.rewrite b
unfolding operation_of
operation_first zero b h = refl
operation_first (suc zero) b h = refl
operation_first (suc (suc k)) b h = absurd (omega arith)

pub operation_last : (code b : ℕ) → 8 ≤ code → operation_of code b ≡ Stack.collapse2
unfolding operation_of
operation_last zero b h = absurd (omega arith)
operation_last (suc zero) b h = absurd (omega arith)
operation_last (suc (suc zero)) b h = absurd (omega arith)
operation_last (suc (suc (suc zero))) b h = absurd (omega arith)
operation_last (suc (suc (suc (suc zero)))) b h = absurd (omega arith)
operation_last (suc (suc (suc (suc (suc zero))))) b h = absurd (omega arith)
operation_last (suc (suc (suc (suc (suc (suc zero)))))) b h = absurd (omega arith)
operation_last (suc (suc (suc (suc (suc (suc (suc zero))))))) b h = absurd (omega arith)
operation_last (suc (suc (suc (suc (suc (suc (suc (suc k)))))))) b h = refl

-- ---- the code of an operation

-- it is the code of an operation with as many new cells
pub code_cells : (op : Stack.Operation) (b : ℕ) → Stack.new_cells (operation_of (code_of op) b) ≡ Stack.new_cells op
unfolding operation_of code_of Stack.new_cells
code_cells (Stack.rewrite c) b = refl
code_cells (Stack.push1 c) b = refl
code_cells (Stack.push2 c) b = refl
code_cells Stack.copy b = refl
code_cells Stack.pop1 b = refl
code_cells Stack.pop2 b = refl
code_cells Stack.collapse1 b = refl
code_cells Stack.collapse2 b = refl

pub code_range : (op : Stack.Operation) → (1 ≤ code_of op) × (code_of op ≤ 8)
unfolding code_of
code_range (Stack.rewrite c) = (omega arith, omega arith)
code_range (Stack.push1 c) = (omega arith, omega arith)
code_range (Stack.push2 c) = (omega arith, omega arith)
code_range Stack.copy = (omega arith, omega arith)
code_range Stack.pop1 = (omega arith, omega arith)
code_range Stack.pop2 = (omega arith, omega arith)
code_range Stack.collapse1 = (omega arith, omega arith)
code_range Stack.collapse2 = (omega arith, omega arith)
