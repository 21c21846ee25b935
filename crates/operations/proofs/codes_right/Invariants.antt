-- `operations::codes_right`: what its loop keeps.
use Rattle.std.proofs.Common.{◌≡◌, length}
use Rattle.files.specs.Codes.{codes_right}
use Rattle.operations.proofs.codes_right.Given as goal

abbrev pub invariant-loop-c : goal.invariant-loop-c
invariant-loop-c l = codes_right l.codes ≡ codes_right l.rest

abbrev pub decreases-loop-c : goal.decreases-loop-c
decreases-loop-c l = length l.rest
