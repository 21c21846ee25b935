-- `bytes_in::bodies_placed`: what its loops keep. The invariant: all bodies are placed exactly if those from line i on are.
use Rattle.bytes_in.specs.Contents.{PlacedFrom}
use Rattle.bytes_in.proofs.bodies_placed.Given as goal

abbrev pub invariant-loop-i : goal.invariant-loop-i
invariant-loop-i l = PlacedFrom l.file l.table l.first l.i l.offset
