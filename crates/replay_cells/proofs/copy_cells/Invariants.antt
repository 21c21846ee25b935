-- `replay_cells::copy_cells`: what its loops keep.
use Rattle.words.specs.Copied.{Copied}
use Rattle.replay_cells.proofs.copy_cells.Given as goal

abbrev pub invariant-loop-i : goal.invariant-loop-i
invariant-loop-i l = Copied l.initial.cells 0 l.body l.i l.cells
