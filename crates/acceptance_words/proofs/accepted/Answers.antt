-- `acceptance_words::accepted` meets its contract.
-- Assumes nothing.
use Prim.Native.Nat.{◌+◌, ◌*◌}
use Rattle.acceptance_words.specs.Rows.Laws.{read_never, read_since}
use Rattle.acceptance_words.proofs.accepted.Goals as goal

pub returns-then-word-eq0-clause-value : goal.returns-then-word-eq0-clause-value
returns-then-word-eq0-clause-value c = (read_never c.args.rounds.now _ _ c.requires.1 c.if-word-eq0.true).0

pub returns-then-word-eq0-clause-small : goal.returns-then-word-eq0-clause-small
returns-then-word-eq0-clause-small c = (read_never c.args.rounds.now _ _ c.requires.1 c.if-word-eq0.true).1

pub returns-clause-value : goal.returns-clause-value
returns-clause-value c =
    let a = c.args in
    (read_since a.rounds.now _ _ c.requires.1 c.if-word-eq0.false (c.type_inv.rounds (a.cell * 64 + a.state)).fits c.from.ensures).0

pub returns-clause-small : goal.returns-clause-small
returns-clause-small c =
    let a = c.args in
    (read_since a.rounds.now _ _ c.requires.1 c.if-word-eq0.false (c.type_inv.rounds (a.cell * 64 + a.state)).fits c.from.ensures).1
