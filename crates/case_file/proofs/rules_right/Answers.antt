-- `case_file::rules_right` meets its contract.
-- Assumes nothing.
use Rattle.std.proofs.Common.{refl, ◌∙◌, arith, rules, tests}
use Rattle.std.proofs.lemmas.Iterator.{YieldsList-from_range}
use Rattle.std.proofs.lemmas.Iterator.Search.{all_from_yields_List}
use Rattle.files.specs.Case.{rule_bytes, rule_right}
use Rattle.bytes_in.specs.Records.{record_at}
use Rattle.bytes_in.specs.Records.Laws.{every_is}
use Rattle.case_records.specs.Values.{the_head}
use Rattle.case_file.proofs.rules_right.Goals as goal

pub returns : goal.returns
returns c =
    all_from_yields_List (λ i. rule_right (the_head c.args.h) (rule_bytes (record_at 5 i c.args.body.now))) _ _ c.all.result c.all.ensures.ran (YieldsList-from_range 0 c.args.n c.args.n refl (omega arith)) (λ x b q k. search (rules, tests))
    ∙ every_is rule_bytes 5 c.args.body.now (rule_right (the_head c.args.h)) c.args.n
