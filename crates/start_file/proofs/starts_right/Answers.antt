-- `start_file::starts_right` meets its contract.
-- Assumes nothing.
use Rattle.std.proofs.Common.{refl, ◌∙◌, map, arith, rules, tests}
use Rattle.std.proofs.lemmas.Iterator.{YieldsList-from_range}
use Rattle.std.proofs.lemmas.Iterator.Search.{all_from_yields_List}
use Rattle.files.specs.Bytes.{records}
use Rattle.bytes_in.specs.Records.{record_at}
use Rattle.files.specs.Start.{start_of, cell_bytes, start_right}
use Rattle.bytes_in.specs.Records.Laws.{every_is}
use Rattle.start_file.proofs.starts_right.Goals as goal

pub returns : goal.returns
returns c =
    let cells = map cell_bytes (records c.args.n 6 c.args.cells.now) in
    all_from_yields_List (λ i. start_right c.args.controls cells (start_of (record_at 3 i c.args.body.now))) _ _ c.all.result c.all.ensures.ran (YieldsList-from_range 0 c.args.m c.args.m refl (omega arith)) (λ x b q k. search (rules, tests))
    ∙ every_is start_of 3 c.args.body.now (start_right c.args.controls cells) c.args.m
