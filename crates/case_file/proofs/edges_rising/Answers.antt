-- `case_file::edges_rising` meets its contract.
-- Assumes nothing.
use Rattle.std.proofs.Common.{◌-◌, refl, ◌∙◌, arith, rules, tests}
use Rattle.std.proofs.lemmas.Iterator.{YieldsList-from_range}
use Rattle.std.proofs.lemmas.Iterator.Search.{all_from_yields_List}
use Rattle.files.specs.Case.{edge_bytes}
use Rattle.case_records.specs.Keys.{edge_order}
use Rattle.bytes_in.specs.Records.Laws.{follows, rising_is}
use Rattle.case_records.specs.Values.{the_head}
use Rattle.case_file.proofs.edges_rising.Goals as goal

pub returns : goal.returns
returns c =
    all_from_yields_List (follows edge_bytes 4 c.args.body.now (edge_order (the_head c.args.h))) _ _ c.all.result c.all.ensures.ran (YieldsList-from_range 1 c.args.n (c.args.n - 1) refl (omega arith)) (λ x b q k. search (rules, tests))
    ∙ rising_is edge_bytes 4 c.args.body.now (edge_order (the_head c.args.h)) c.args.n
