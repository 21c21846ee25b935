-- `operations::put_our_codes`: what its loops keep.
use Rattle.words.specs.Copied.{Copied}
use Rattle.files.specs.Codes.{our_codes}
use Rattle.operations.proofs.put_our_codes.Given as goal

abbrev pub invariant-loop-i : goal.invariant-loop-i
invariant-loop-i l = Copied l.initial.codes 0 our_codes l.i l.codes
