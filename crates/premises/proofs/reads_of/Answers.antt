-- `premises::reads_of` meets its contract.
-- Assumes nothing.
use Rattle.premises.specs.Reads.Laws.{reads_rewritten, reads_pushed1, reads_pushed2, reads_copied}
use Rattle.premises.proofs.reads_of.Goals as goal

pub returns-in-Rewritten : goal.returns-in-Rewritten
returns-in-Rewritten c = reads_rewritten _ _ _ c.in-Rewritten.is

pub returns-in-Pushed1 : goal.returns-in-Pushed1
returns-in-Pushed1 c = reads_pushed1 _ _ _ c.in-Pushed1.is

pub returns-in-Pushed2 : goal.returns-in-Pushed2
returns-in-Pushed2 c = reads_pushed2 _ _ _ _ c.in-Pushed2.is c.join.ensures

pub returns-in-Copied : goal.returns-in-Copied
returns-in-Copied c = reads_copied _ _ _ c.in-Copied.is
