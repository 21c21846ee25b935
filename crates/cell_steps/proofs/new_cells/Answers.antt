-- `cell_steps::new_cells` meets its contract.
-- Assumes nothing.
use mathlib.Core.Path.{ap, ◌∙◌}
use Prim.Native.Nat.{ℕ}
use Rattle.stacks.specs.Stack.{new_cells}
use Rattle.files.specs.Case.{operation_of}
use Rattle.case_records.specs.Values.{the_operation}
use Rattle.case_records.specs.Values.Laws.{code_cells, code_range}
use native.Mathlib.Omega.{arith}
use Rattle.cell_steps.proofs.new_cells.Goals as goal

pub line_of-requires : goal.line_of-requires
line_of-requires c =
    let r = code_range (the_operation c.args.op) in
    let e = c.code_of.ensures in
    (omega arith, omega arith)

pub returns : goal.returns
returns c =
    c.line_of.ensures.cells_are 0
    ∙ ap (λ (k : ℕ). new_cells (operation_of k 0)) c.code_of.ensures
    ∙ code_cells (the_operation c.args.op) 0
