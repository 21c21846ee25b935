-- `judge::put_marks`: what its loops keep.
use mathlib.Core.List.{map}
use Rattle.files.specs.Start.{starts_of}
use Rattle.judge.specs.WrittenBelow.{WrittenBelow}
use Rattle.judge.specs.Marks.{mark_by}
use Rattle.judge.proofs.put_marks.Given as goal

abbrev pub invariant-loop-i : goal.invariant-loop-i
invariant-loop-i l = WrittenBelow (map (mark_by l.more l.rounds) (starts_of l.start)) l.initial.answers l.answers l.i
