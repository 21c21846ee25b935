-- `results::by_nothing` meets its contract.
-- Assumes nothing.
use mathlib.Core.Path.{refl}
use mathlib.Core.List.Memᴰ
use borrow.Author.Tests.{not-true}
use Rattle.offers.specs.Offers.Laws.{collects_held}
use Rattle.results.proofs.by_nothing.Goals as goal

pub returns-then-not-to : goal.returns-then-not-to
returns-then-not-to c =
    collects_held _ c.requires.0.number ((c.requires.1.known (not-true c.args.to.before.new c.if-not-to.true)).all_held _ (Memᴰ.head refl))
