-- `move_index::enter` meets its contract.
-- Assumes nothing.
use mathlib.Core.Path.{ap, sym, ◌∙◌}
use Rattle.automata.specs.Automaton.{Move}
use Rattle.move_index.specs.Keys.{state_key, words_key}
use Rattle.move_index.proofs.enter.Goals as goal

pub returns-clause-by_state : goal.returns-clause-by_state
returns-clause-by_state c =
    let read = c.move_at-m.ensures in
    let state = c.state_key.ensures.value ∙ ap (λ (m : Move). state_key m.state m.symbol) read in
    c.add.ensures _ (sym state) c.requires.2

pub returns-clause-words : goal.returns-clause-words
returns-clause-words c =
    let read = c.move_at-m.ensures in
    let word = c.words_key.ensures.value ∙ ap words_key read in
    c.add-2.ensures _ (sym word) c.requires.3
