-- `bounded_text::put_bytes`: what its loops keep.
use Rattle.std.specs.Prelude.{Some}
use Rattle.bounded_text.specs.Page.{page}
use Rattle.bounded_text.specs.Page.Laws.{PrintedTo}
use Rattle.bounded_text.proofs.put_bytes.Given as goal

abbrev pub invariant-loop-byte : goal.invariant-loop-byte
invariant-loop-byte l = PrintedTo (page (Some l.at) l.initial.text) l.bytes l.byte-index (page (Some l.end) l.text)
