-- `acceptance::fill_rounds`: what its loops keep.
use Rattle.saturation.specs.Held.{saturated_on}
use Rattle.acceptance.specs.Cells.{RoundsFilled}
use Rattle.start_records.specs.Body.{cells_in}
use Rattle.acceptance.proofs.fill_rounds.Given as goal

abbrev pub invariant-loop-i : goal.invariant-loop-i
invariant-loop-i l = RoundsFilled (saturated_on l.tables l.count l.sizes) (cells_in l.n l.body) l.initial.rounds l.rounds l.i
