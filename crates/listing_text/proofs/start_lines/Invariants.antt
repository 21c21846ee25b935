-- `listing_text::start_lines`: what its loops keep.
use Rattle.start_file.specs.Checks.{files_of}
use Rattle.listing_text.specs.Starts.{Lined}
use Rattle.listing_text.proofs.start_lines.Given as goal

abbrev pub invariant-loop-n : goal.invariant-loop-n
invariant-loop-n l = Lined (files_of l.case l.start) l.initial.text l.at l.n l.text l.end
