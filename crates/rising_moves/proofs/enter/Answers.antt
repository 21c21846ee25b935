-- `rising_moves::enter` meets its contract.
-- Assumes nothing.
use mathlib.Core.Path.{ap, sym, ◌∙◌}
use Rattle.automata.specs.Automaton.{Move}
use Rattle.move_index.specs.Keys.{state_key}
use Rattle.rising_moves.specs.Rising.{from_last, control_key}
use Rattle.rising_moves.specs.Rising.Laws.{turned}
use Rattle.rising_moves.proofs.enter.Goals as goal

pub returns-clause-by_index : goal.returns-clause-by_index
returns-clause-by_index c =
    let read = c.move_at-m.ensures in
    let state = c.state_key.ensures.value ∙ ap (λ (m : Move). state_key m.state m.symbol) read in
    λ key e h. c.add.ensures (from_last key) (turned key c.requires.3 e ∙ sym state) h

pub returns-clause-controls : goal.returns-clause-controls
returns-clause-controls c =
    let read = c.move_at-m.ensures in
    let control = c.control_key.ensures.value ∙ ap (control_key _) read in
    λ key e h. c.add-2.ensures (from_last key) (turned key c.requires.3 e ∙ sym control) h
