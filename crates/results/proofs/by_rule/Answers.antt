-- `results::by_rule` meets its contract.
-- Assumes nothing.
use Rattle.case_records.specs.Values.{the_rule}
use Rattle.readings.proofs.Gathering.Laws.{collects_all_same}
use Rattle.results.specs.Rules.{rule_gives}
use Rattle.results.specs.Uses.{use_gives}
use Rattle.results.specs.Uses.Laws.{rule_used, settled_use}
use Rattle.results.proofs.by_rule.Goals as goal

pub by_use-requires : goal.by_use-requires
by_use-requires c =
    (c.requires.0, settled_use _ _ (the_rule c.args.rule) _ c.use_of-used.ensures c.requires.1, c.requires.2, c.requires.4)

pub returns : goal.returns
returns c =
    collects_all_same (use_gives (record { control = c.args.rule.control; symbol = c.args.rule.symbol; room = c.args.room; before = c.args.t }) _ _) (rule_gives (the_rule c.args.rule)) (rule_used _ (the_rule c.args.rule) _ c.use_of-used.ensures) c.by_use.ensures
