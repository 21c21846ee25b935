-- `case_file::moves_right` meets its contract.
-- Assumes nothing.
use Rattle.std.proofs.Common.{refl, ◌∙◌, arith, rules, tests}
use Rattle.std.proofs.lemmas.Iterator.{YieldsList-from_range}
use Rattle.std.proofs.lemmas.Iterator.Search.{all_from_yields_List}
use Rattle.files.specs.Case.{move_of, move_right}
use Rattle.bytes_in.specs.Records.{record_at}
use Rattle.bytes_in.specs.Records.Laws.{every_is}
use Rattle.case_records.specs.Values.{the_head}
use Rattle.case_file.proofs.moves_right.Goals as goal

pub returns : goal.returns
returns c =
    all_from_yields_List (λ i. move_right (the_head c.args.h.head) c.args.states (move_of (record_at 19 i c.args.body.now))) _ _ c.all.result c.all.ensures.ran (YieldsList-from_range 0 c.args.n c.args.n refl (omega arith)) (λ x b q k. search (rules, tests))
    ∙ every_is move_of 19 c.args.body.now (move_right (the_head c.args.h.head) c.args.states) c.args.n
