-- `case_file::edges_right` meets its contract.
-- Assumes nothing.
use Rattle.std.proofs.Common.{refl, ◌∙◌, arith, rules, tests}
use Rattle.std.proofs.lemmas.Iterator.{YieldsList-from_range}
use Rattle.std.proofs.lemmas.Iterator.Search.{all_from_yields_List}
use Rattle.files.specs.Case.{edge_bytes, edge_right}
use Rattle.bytes_in.specs.Records.{record_at}
use Rattle.bytes_in.specs.Records.Laws.{every_is}
use Rattle.case_records.specs.Values.{the_head}
use Rattle.case_file.proofs.edges_right.Goals as goal

pub returns : goal.returns
returns c =
    all_from_yields_List (λ i. edge_right (the_head c.args.h.head) (edge_bytes (record_at 4 i c.args.body.now))) _ _ c.all.result c.all.ensures.ran (YieldsList-from_range 0 c.args.n c.args.n refl (omega arith)) (λ x b q k. search (rules, tests))
    ∙ every_is edge_bytes 4 c.args.body.now (edge_right (the_head c.args.h.head)) c.args.n
