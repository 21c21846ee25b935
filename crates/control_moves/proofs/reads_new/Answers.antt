-- `control_moves::reads_new` meets its contract.
-- Assumes nothing.
use mathlib.Core.Path.{◌∙◌}
use Rattle.std.proofs.Math.Logic.{⊎_elim}
use Rattle.control_moves.proofs.First.Laws.{reads_rewritten, reads_pushed1, reads_pushed2, reads_moves_lem, reads_entries}
use Rattle.control_moves.proofs.reads_new.Goals as goal

pub returns-then-has_symbol : goal.returns-then-has_symbol
returns-then-has_symbol c =
    c.if-has_symbol.true ∙ reads_moves_lem _ _ _ _ c.in-Copied.is c.has_symbol-in-Copied.ensures c.if-has_symbol.true

pub returns-in-Rewritten : goal.returns-in-Rewritten
returns-in-Rewritten c = reads_rewritten _ _ _ c.in-Rewritten.is

pub returns-in-Pushed1 : goal.returns-in-Pushed1
returns-in-Pushed1 c =
    ⊎_elim (λ k. reads_pushed1 _ _ _ _ k c.has_symbol.ensures) (λ k. reads_pushed2 _ _ _ _ k c.has_symbol.ensures) c.in-Pushed1.is

pub returns-else-has_symbol : goal.returns-else-has_symbol
returns-else-has_symbol c = reads_entries _ _ _ _ c.in-Copied.is c.has_symbol-in-Copied.ensures c.if-has_symbol.false
