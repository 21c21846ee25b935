-- `zeroing::zero`: what its loops keep. The invariant: the words passed are zero.
use Rattle.zeroing.specs.Zeroed.{Zeroed}
use Rattle.zeroing.proofs.zero.Given as goal

abbrev pub invariant-loop-word : goal.invariant-loop-word
invariant-loop-word g l = Zeroed g.W.Word.ZERO l.initial.words l.words l.word-index
