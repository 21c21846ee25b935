-- `case_tables::load_inner`: what its loops keep. The invariant: the inner edges from number i on stand sorted in the first k rows.
use Rattle.case_records.specs.Values.{the_head}
use Rattle.case_tables.specs.Decoded.{InnerFrom}
use Rattle.case_tables.proofs.load_inner.Given as goal

abbrev pub invariant-loop-i : goal.invariant-loop-i
invariant-loop-i l = InnerFrom (the_head l.h) l.body l.initial.t l.t l.n l.i l.k
