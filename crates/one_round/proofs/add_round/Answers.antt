-- `one_round::add_round` meets its contract.
-- Assumes nothing.
use native.Mathlib.Omega.{arith}
use mathlib.Core.List.{[]}
use Rattle.added_results.specs.Adding.Exist.{exist_any}
use Rattle.one_round.specs.Rounding.Laws.{rounded_over, rounded_added}
use Rattle.results.specs.Collecting.Laws.{round_known}
use Rattle.one_round.proofs.add_round.Goals as goal

pub collect-n-requires : goal.collect-n-requires
collect-n-requires c = (round_known c.requires.0, omega (arith, c.requires.2))

pub returns-then-room-n-clause-rounded : goal.returns-then-room-n-clause-rounded
returns-then-room-n-clause-rounded c = rounded_over _ _ c.args.z _ _ _ _ c.requires.1 _ _ c.collect-n.ensures.out_after c.if-room-n.true

pub add_results-requires : goal.add_results-requires
add_results-requires c =
    let stands = c.requires.1 in (
      stands.growing,
      exist_any c.args.z _ [] _ _ c.requires.3,
      stands.counts,
      omega (arith, stands.moves_few, stands.moves_lent, c.if-room-n.false),
      omega (arith, c.requires.2, c.if-room-n.false, c.collect-n.auto.out),
    )

pub returns-clause-rounded : goal.returns-clause-rounded
returns-clause-rounded c =
    rounded_added _ _ c.args.z _ _ _ _ c.requires.1 _ _ c.collect-n.ensures.out_after _ _ _ c.if-room-n.false c.add_results.ensures.added c.add_results.ensures.counted
