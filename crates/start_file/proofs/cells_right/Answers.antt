-- `start_file::cells_right` meets its contract.
-- Assumes nothing.
use Rattle.std.proofs.Common.{refl, ◌∙◌, arith, rules, tests}
use Rattle.std.proofs.lemmas.Iterator.{YieldsList-from_range}
use Rattle.std.proofs.lemmas.Iterator.Search.{all_from_yields_List}
use Rattle.start_file.specs.Checks.Laws.{right_at, cells_are}
use Rattle.start_file.proofs.cells_right.Goals as goal

pub returns : goal.returns
returns c =
    all_from_yields_List (right_at c.args.symbols c.args.cells.now) _ _ c.all.result c.all.ensures.ran (YieldsList-from_range 0 c.args.n c.args.n refl (omega arith)) (λ x b q k. search (rules, tests))
    ∙ cells_are c.args.symbols c.args.cells.now c.args.n
