-- `replay::replay` meets its contract.
-- Assumes nothing.
use mathlib.Core.Path.{ap, ◌∙◌}
use Rattle.words.specs.Lists.{zeros}
use Rattle.replay.specs.Service.Laws.{left, meets}
use borrow.Author.Rules.{rules}
use Rattle.replay.proofs.replay.Goals as goal

pub returns-in-Ok-clause-cells_after : goal.returns-in-Ok-clause-cells_after
returns-in-Ok-clause-cells_after c =
    let h = (meets _ _ (left _ _ _ _ _ (c.zero.ensures ∙ ap zeros c.replay_files-replayed.auto.cells) c.in-Ok.ensures)).0 in
    search (rules, h)

pub returns-in-Ok-clause-demand1 : goal.returns-in-Ok-clause-demand1
returns-in-Ok-clause-demand1 c =
    let h = (meets _ _ (left _ _ _ _ _ (c.zero.ensures ∙ ap zeros c.replay_files-replayed.auto.cells) c.in-Ok.ensures)).1.0 in
    search (rules, h)

pub returns-in-Ok-clause-exactly : goal.returns-in-Ok-clause-exactly
returns-in-Ok-clause-exactly c =
    let h = (meets _ _ (left _ _ _ _ _ (c.zero.ensures ∙ ap zeros c.replay_files-replayed.auto.cells) c.in-Ok.ensures)).1.1 in
    search (rules, h)

pub returns-in-Err-clause-cells_after : goal.returns-in-Err-clause-cells_after
returns-in-Err-clause-cells_after c =
    let h = (meets _ _ (left _ _ _ _ _ (c.zero.ensures ∙ ap zeros c.replay_files-replayed.auto.cells) c.in-Err.ensures)).0 in
    search (rules, h)

pub returns-in-Err-clause-demand1 : goal.returns-in-Err-clause-demand1
returns-in-Err-clause-demand1 c =
    let h = (meets _ _ (left _ _ _ _ _ (c.zero.ensures ∙ ap zeros c.replay_files-replayed.auto.cells) c.in-Err.ensures)).1.0 in
    search (rules, h)

pub returns-in-Err-clause-exactly : goal.returns-in-Err-clause-exactly
returns-in-Err-clause-exactly c =
    let h = (meets _ _ (left _ _ _ _ _ (c.zero.ensures ∙ ap zeros c.replay_files-replayed.auto.cells) c.in-Err.ensures)).1.1 in
    search (rules, h)
