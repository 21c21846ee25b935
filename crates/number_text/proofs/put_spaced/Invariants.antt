-- `number_text::put_spaced`: what its loops keep.
use Rattle.number_text.specs.Numbers.{Spaced}
use Rattle.number_text.proofs.put_spaced.Given as goal

abbrev pub invariant-loop-n : goal.invariant-loop-n
invariant-loop-n l = Spaced l.initial.out l.at l.numbers l.n-index l.out l.end
