-- The printers call each other. The measure is the cell's number, doubled, and one more for an annotation, which is printed as the stack in its cell.
use Prim.Native.Nat.{◌+◌, ◌*◌}
use Rattle.stack_text.proofs.+stacks.Given as goal

abbrev pub decreases-put_annotation : goal.decreases-put_annotation
decreases-put_annotation l = l.n * 2 + 1

abbrev pub decreases-put_stacks : goal.decreases-put_stacks
decreases-put_stacks l = l.n * 2

abbrev pub decreases-put_symbols : goal.decreases-put_symbols
decreases-put_symbols l = l.n * 2
