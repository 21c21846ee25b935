-- `case_file::moves_rising` meets its contract.
-- Assumes nothing.
use Rattle.std.proofs.Common.{◌-◌, refl, ◌∙◌, arith, rules, tests}
use Rattle.std.proofs.lemmas.Iterator.{YieldsList-from_range}
use Rattle.std.proofs.lemmas.Iterator.Search.{all_from_yields_List}
use Rattle.files.specs.Case.{move_of, move_key}
use Rattle.bytes_in.specs.Records.Laws.{follows, rising_is}
use Rattle.case_file.proofs.moves_rising.Goals as goal

pub returns : goal.returns
returns c =
    all_from_yields_List (follows move_of 19 c.args.body.now move_key) _ _ c.all.result c.all.ensures.ran (YieldsList-from_range 1 c.args.n (c.args.n - 1) refl (omega arith)) (λ x b q k. search (rules, tests))
    ∙ rising_is move_of 19 c.args.body.now move_key c.args.n
