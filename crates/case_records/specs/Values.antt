-- What the values of the code stand for: heads, operations, rules and edges.
-- Assumes nothing.
pub mod Laws
use Rattle.std.specs.Prelude.{ℕ}
use Rattle.stacks.specs.Stack as Stack
use Rattle.stacks.specs.System as System
use Rattle.files.specs.Case as Case
use Rattle.case_records.specs.declared.Head.{Head}
use Rattle.case_records.specs.declared.Operation.{Operation}
use Rattle.case_records.specs.declared.Operation.TheVariants.{Rewrite, Push1, Push2, Copy, Pop1, Pop2, Collapse1, Collapse2}
use Rattle.case_records.specs.declared.Rule.{Rule}
use Rattle.case_records.specs.declared.Edge.{Edge}

abbrev pub the_head : Head → Case.Head
the_head h =
    record {
      P = h.controls;
      I = h.inner2;
      J = h.inner1;
      A = h.symbols;
      final2 = h.final2;
      final1 = h.final1;
    }

abbrev pub the_operation : Operation → Stack.Operation
the_operation (Rewrite b) = Stack.rewrite b
the_operation (Push1 b) = Stack.push1 b
the_operation (Push2 b) = Stack.push2 b
the_operation Copy = Stack.copy
the_operation Pop1 = Stack.pop1
the_operation Pop2 = Stack.pop2
the_operation Collapse1 = Stack.collapse1
the_operation Collapse2 = Stack.collapse2

-- our code of the operation
unfoldable pub code_of : Stack.Operation → ℕ
code_of (Stack.rewrite b) = 1
code_of (Stack.push1 b) = 2
code_of (Stack.push2 b) = 3
code_of Stack.copy = 4
code_of Stack.pop1 = 5
code_of Stack.pop2 = 6
code_of Stack.collapse1 = 7
code_of Stack.collapse2 = 8

abbrev pub the_rule : Rule → System.Rule
the_rule ρ =
    record { control = ρ.control; symbol = ρ.symbol; operation = the_operation ρ.operation; next = ρ.next }

abbrev pub the_edge : Edge → Case.EdgeBytes
the_edge e = record { state = e.state; first = e.first; S = e.s }
