-- `operations::our_code` meets its contract.
-- Assumes nothing.
use Rattle.std.proofs.Common.{◌≡◌, eqb, ◌∙◌, rules, tests}
use Rattle.std.specs.List.{position_from}
use Rattle.std.proofs.lemmas.Iterator.{YieldsList-from_slice}
use Rattle.std.proofs.lemmas.Iterator.Adapters.{position_from-zero}
use Rattle.std.proofs.lemmas.Iterator.Search.{position_from_yields_List}
use Rattle.operations.specs.Laws.Codes.{found_at, found_none}
use Rattle.operations.proofs.our_code.Goals.{After-position}
use Rattle.operations.proofs.our_code.Goals as goal

found : (c : After-position) → c.position.result ≡ position_from (λ y. eqb y c.args.x) 0 c.args.codes.now
found c =
    position_from_yields_List (λ y. eqb y c.args.x) _ _ c.position.result c.position.ensures.ran (YieldsList-from_slice _ c.iter.ensures.rest) (λ x b q k. search (rules, tests))
    ∙ position_from-zero (λ y. eqb y c.args.x) c.args.codes.now

pub returns-in_err-place : goal.returns-in_err-place
returns-in_err-place c = rw c.from_residual.ensures (found_none c.args.x c.args.codes.now (found (goal.at.returns-in_err-place c).After-position) c.in_err-place.was)

pub returns : goal.returns
returns c = found_at c.args.x c.args.codes.now (found (goal.at.returns c).After-position) c.in_ok-place.was
