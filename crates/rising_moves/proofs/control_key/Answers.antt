-- `rising_moves::control_key` meets its contract.
-- Assumes nothing.
use mathlib.Core.Path.{ap}
use Rattle.automata.specs.Automaton.{Entry}
use Rattle.rising_moves.specs.Rising.Laws.{key_inner, key_entry}
use Rattle.rising_moves.proofs.control_key.Goals as goal

pub returns-then-m-z-clause-value : goal.returns-then-m-z-clause-value
returns-then-m-z-clause-value c = key_inner c.args.z _ _ c.if-m-z.true c.state_key.ensures.value

pub returns-clause-value : goal.returns-clause-value
returns-clause-value c =
    key_entry c.args.z _ _ c.if-m-z.false (ap (λ (e : Entry). e.control) c.entry_for-e.ensures) c.state_key-2.ensures.value
