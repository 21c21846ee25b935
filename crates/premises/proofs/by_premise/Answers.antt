-- `premises::by_premise` meets its contract.
-- Assumes nothing.
use mathlib.Core.Path.{sym, ◌∙◌}
use Rattle.readings.specs.Readings.Inner.{held_table}
use Rattle.readings.proofs.Gathering.Laws.{can_read, read_collected, offer_collected}
use Rattle.premises.specs.Reads.Laws.{by_nothing, push_alone, rest_held, rest_collected, edges_held, edges_collected}
use Rattle.premises.proofs.by_premise.Goals as goal

pub by_push-requires : goal.by_push-requires
by_push-requires c =
    (can_read c.args.by.now.moves.held.table _ _ _ _ _ _ _ c.requires.0, held_table c.args.by.now.moves.held.table _ _ _ c.args.to _ _ (push_alone c.args.to _ _) (rest_held c.args.to _ _ _ _ (sym c.reads_of.ensures ∙ c.in-Rest.is) _ _ c.requires.1))

pub by_copy-requires : goal.by_copy-requires
by_copy-requires c =
    (c.requires.0, edges_held c.args.to _ _ _ (sym c.reads_of.ensures ∙ c.in-Edges.is) _ _ c.requires.1)

pub returns-in-Nothing : goal.returns-in-Nothing
returns-in-Nothing c =
    offer_collected c.args.by.now.moves.held.table _ _ _ _ _ _ _ c.requires.0 _ _ _ _ (by_nothing c.args.to _ _ _ _ _ (sym c.reads_of.ensures ∙ c.in-Nothing.is) c.result-x.ensures) c.offer.ensures

pub returns-in-Rest : goal.returns-in-Rest
returns-in-Rest c =
    rest_collected c.args.to _ _ _ _ (sym c.reads_of.ensures ∙ c.in-Rest.is) _ (read_collected c.args.by.now.moves.held.table _ _ _ _ _ _ _ c.requires.0 _ _ _ _ (push_alone c.args.to _ _) c.by_push.ensures)

pub returns-in-Edges : goal.returns-in-Edges
returns-in-Edges c = edges_collected c.args.to _ _ _ (sym c.reads_of.ensures ∙ c.in-Edges.is) _ c.by_copy.ensures
