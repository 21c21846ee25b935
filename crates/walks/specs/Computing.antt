-- The definitions of this layer and of those below it, opened together: a theorem that is to hold by computation says
-- `unfolding computed`.
-- Assumes nothing.
use Rattle.std.specs.Prelude.{ℕ}
use mathlib.Core.List
use Rattle.walks.specs.Cell
use Rattle.walks.specs.Guide
use Rattle.automata.specs.Computing

unfoldable pub open_cell : ℕ
unfolding Cell.order1 Cell.order2 Cell.stack_at Cell.stack_of Cell.stacks_from Cell.stacks Cell.cells_after Cell.root_after
open_cell = 0

unfoldable pub open_guide : ℕ
unfolding Guide.walk_configuration Guide.first_or_zero Guide.least_choice Guide.start_walk Guide.chooses Guide.chooses_all Guide.premise Guide.top_choice Guide.root_choice Guide.choices_after Guide.guided_at Guide.top_on Guide.top_of Guide.moved Guide.by_derivation Guide.at_top Guide.next Guide.walk_after Guide.trace_after Guide.counts Guide.walked_by Guide.no_run Guide.guided
open_guide = 0

unfoldable pub computed : ℕ
unfolding open_cell open_guide Computing.computed List.zip_with
computed = 0
