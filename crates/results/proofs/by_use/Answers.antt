-- `results::by_use` meets its contract.
-- Assumes nothing.
use Rattle.readings.proofs.Gathering.Laws.{offer_collected, collects_all_same}
use Rattle.premises.specs.Premises.{source_gives}
use Rattle.results.specs.Uses.{use_gives}
use Rattle.results.specs.Uses.Laws.{uses_moves, uses_entries, uses_nothing, settled_moves, settled_entries, settled_nothing}
use Rattle.results.proofs.by_use.Goals as goal

pub by_moves-requires : goal.by_moves-requires
by_moves-requires c =
    (c.requires.0, settled_moves c.args.by.now.moves.held.table _ _ _ _ _ _ _ _ c.requires.1 _ _ c.in-Moves.is, c.requires.2, c.requires.3)

pub by_entries-requires : goal.by_entries-requires
by_entries-requires c =
    (c.requires.0.stands, settled_entries c.args.by.now.moves.held.table _ _ _ _ _ _ _ _ c.requires.1 _ c.in-Entries.is)

pub by_nothing-requires : goal.by_nothing-requires
by_nothing-requires c =
    (c.requires.0.stands, settled_nothing c.args.by.now.moves.held.table _ _ _ _ _ _ _ _ c.requires.1 _ c.in-Nothing.is)

pub returns-in-Moves : goal.returns-in-Moves
returns-in-Moves c =
    collects_all_same (source_gives c.args.to _) (use_gives c.args.to _ _) (uses_moves _ _ _ _ _ _ _ c.in-Moves.is) c.by_moves.ensures

pub returns-in-Entries : goal.returns-in-Entries
returns-in-Entries c =
    offer_collected c.args.by.now.moves.held.table _ _ _ _ _ _ _ c.requires.0 (use_gives c.args.to _ _) _ _ _ (uses_entries _ _ _ _ c.args.by.now.moves.held.table _ _ _ _ c.in-Entries.is) c.by_entries.ensures

pub returns-in-Nothing : goal.returns-in-Nothing
returns-in-Nothing c =
    offer_collected c.args.by.now.moves.held.table _ _ _ _ _ _ _ c.requires.0 (use_gives c.args.to _ _) _ _ _ (uses_nothing _ _ _ _ _ _ c.in-Nothing.is) c.by_nothing.ensures
