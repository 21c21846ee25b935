-- `number_text::named`: what its loops keep.
use Rattle.number_text.specs.Named.{ReadTo}
use Rattle.number_text.proofs.named.Given as goal

abbrev pub invariant-loop-byte : goal.invariant-loop-byte
invariant-loop-byte l = ReadTo l.most l.argument l.byte-index l.n
