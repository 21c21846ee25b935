-- `saturation::take_turn` meets its contract.
-- Assumes nothing.
use mathlib.Core.Path.{◌≡◌}
use native.Mathlib.Omega.{arith}
use Rattle.tables.specs.Rows.Laws.{length_rows_in}
use Rattle.tables.specs.Layouts.{move_row}
use Rattle.saturation.specs.Prepared.Laws.{ready}
use Rattle.saturation.specs.Running.Laws.{standing_limits, rounded_limits, pending_room}
use Rattle.saturation.specs.Turns.Laws.{moves_small, row_left, turn_stopped, turn_rounds}
use Rattle.saturation.proofs.take_turn.Goals as goal

pub put_sizes-requires : goal.put_sizes-requires
put_sizes-requires c = omega (arith, row_left _ _ c.args.at.table _ _ _ c.requires.0, c.requires.2.sizes_lent)

pub extend-requires : goal.extend-requires
extend-requires c =
    let asked = c.requires in
    let z = c.args.at.table in
    let rows = length_rows_in move_row z.moves c.args.moves.now in (
      omega (arith, asked.1.settled.moves_before, rows),
      omega (arith, moves_small _ _ z _ _ _ asked.0),
      omega (arith, asked.0.standing.moves_few, asked.0.standing.moves_lent),
      asked.1.by_state,
      asked.1.by_words,
    )

pub returns-then-k-rounds : goal.returns-then-k-rounds
returns-then-k-rounds c =
    let x = c.args in
    let asked = c.requires in
    let all_run : x.at.run ≡ x.rounds = omega (arith, c.if-k-rounds.true) in
    turn_stopped _ _ _ x.at.table _ _ _ asked.0 _ _ asked.2.sizes_lent c.put_sizes.ensures all_run _ c.would_add-more.ensures

pub add_round-grown-requires : goal.add_round-grown-requires
add_round-grown-requires c =
    let asked = c.requires in (
      ready c.args.at.table _ _ _ _ _ _ _ _ _ _ _ asked.0.standing c.extend.ensures.by_state c.extend.ensures.words asked.2.rules_stand asked.1,
      standing_limits c.args.at.table _ _ _ _ _ _ _ asked.3 asked.4 asked.0.standing,
      pending_room _ _ _ asked.3 asked.2.pending_lent,
      asked.1.states_exist,
    )

pub returns : goal.returns
returns c =
    let x = c.args in
    let asked = c.requires in
    let not-all : x.at.run ≡ x.rounds → ⊥ = λ e. omega (arith, c.if-k-rounds.false) in
    let round = c.add_round-grown in
    let rounded = rounded_limits _ _ x.at.table _ _ _ _ _ _ _ _ _ asked.3 asked.4 round.ensures.rounded in
    turn_rounds _ _ _ x.at.table _ _ _ asked.0 _ _ asked.2.sizes_lent c.put_sizes.ensures not-all round.result _ _ rounded _ _ _
    asked.1.states_exist c.extend.ensures.by_state c.extend.ensures.words round.ensures.memo _ c.after_round.ensures
