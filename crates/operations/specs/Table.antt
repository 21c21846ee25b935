-- What the lines of the table of operations say.
-- Assumes nothing.
pub mod Laws
use Rattle.std.specs.Prelude.{ℕ, ◌<◌, Bool, ◌≡◌, eqb, ltb}
use Rattle.stacks.specs.Stack.{new_cells}
use Rattle.files.specs.Case.{rule_right, operation_of}
use Rattle.operations.specs.declared.Operand.{Operand}
use Rattle.operations.specs.declared.Operand.TheVariants.{Symbol, Zero}
use Rattle.operations.specs.declared.Line.{Line}

-- b is right for our code, where there are so many symbols: in a case of one control, a rule of this code and b keeps the bounds of its body if its
-- other bytes are 0
unfoldable pub operand_right : ℕ → ℕ → ℕ → Bool
operand_right code symbols b =
    rule_right (record { P = 1; I = 0; J = 0; A = symbols; final2 = 0; final1 = 0 }) (record { p = 0; a = 0; code = code; b = b; next = 0 })

-- b is what the operand says, where there are so many symbols
unfoldable pub is_operand : Operand → ℕ → ℕ → Bool
is_operand Symbol symbols b = ltb b symbols
is_operand Zero symbols b = eqb b 0

-- the line of our code: the b that is right, and the operation's new cells, whatever b is
pub record LineOf (code : ℕ) (x : Line) : Type 0 where
  pub code_is : x.code ≡ code
  pub operand_is : (symbols b : ℕ) → 0 < symbols → is_operand x.operand symbols b ≡ operand_right code symbols b
  pub cells_are : (b : ℕ) → x.cells ≡ new_cells (operation_of code b)
