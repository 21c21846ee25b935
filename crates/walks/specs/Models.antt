-- A small model of the reading "Guiding by the least move afresh after each step. This can circle for ever."
-- Assumes nothing.
use Rattle.std.specs.Prelude.{ℕ, ◌≡◌, refl, List, [], ◌∷◌}
use Rattle.std.proofs.Math.Option.{Option, none, some}
use Rattle.stacks.specs.Stack.{copy, pop2}
use Rattle.stacks.specs.System.{Rule}
use Rattle.automata.specs.Automaton.{Automaton}
use Rattle.automata.specs.Saturation.{Saturated, saturate, all_rounds}
use Rattle.replies.specs.declared.Halt.TheVariants.{Arrived}
use Rattle.walks.specs.Cell.{Cell, empty1, symbol, empty2, above}
use Rattle.walks.specs.Guide.{Report, walked_by, no_run, start_walk, guided}
use Rattle.walks.specs.Computing.{computed}

-- Model C with entry [0,empty] in the file, so that it is numbered before [0,{1}]: the target is control 1 on symbol 0; rule 0 copies
-- and keeps control 0, rule 1 pops at order 2 and goes to control 1.
unfoldable pub rules_circle : List Rule
rules_circle =
    record { control = 0; symbol = 0; operation = copy; next = 0 }
    ∷ record { control = 0; symbol = 0; operation = pop2; next = 1 }
    ∷ []

unfoldable pub own_circle : Automaton
own_circle =
    record {
      J = 0;
      final1 = 0;
      final2 = 0;
      inner = [];
      entries = record { control = 0; S = 0 } ∷ record { control = 1; S = 0 } ∷ [];
      moves = record { state = 1; symbol = 0; order = 0; B = 0; R = 0 } ∷ [];
    }

-- [[0]], its symbol annotated by the empty order-1 stack
unfoldable pub cells_circle : List Cell
cells_circle = empty1 ∷ symbol 0 0 0 ∷ empty2 ∷ above 1 2 ∷ []

-- the walk from control 0 with so many cells and trace words, on the saturated table
unfoldable pub walk_circle : ℕ → ℕ → Option Saturated → Report
walk_circle c t none = no_run
walk_circle c t (some T) = guided rules_circle T c t [] (start_walk T.table cells_circle 0 3)

-- The least choice at the start is the copy, by entry [0,empty]. The copy's new cells keep the choice of its derivation, so the next step
-- is the pop; the least choice afresh would be the copy again.
pub arrives : walk_circle 40 6 (saturate rules_circle (record { moves = 9; entries = 9 }) all_rounds own_circle)
    ≡ walked_by (Arrived (record { steps = 2; cells = 8 })) (0 ∷ 1 ∷ [])
unfolding computed rules_circle own_circle cells_circle walk_circle
arrives = refl
