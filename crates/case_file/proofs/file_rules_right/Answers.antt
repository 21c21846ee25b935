-- `case_file::file_rules_right` meets its contract.
-- Assumes nothing.
use mathlib.Core.Path.{ap, ◌∙◌}
use native.Mathlib.Omega.{arith}
use Rattle.words.specs.Lists.{every}
use Rattle.files.specs.Case.{rule_right}
use Rattle.files.proofs.Case.Laws.{CasePlaces, case_places}
use Rattle.case_records.specs.Values.{the_head}
use Rattle.case_file.specs.Forms.{HoldsRules}
use Rattle.case_file.specs.Forms.Laws.{holds_rules}
use Rattle.case_file.proofs.file_rules_right.Goals as goal

pub count_of-requires : goal.count_of-requires
count_of-requires c = let p : CasePlaces c.args.file.now = case_places _ c.requires in omega arith

pub rules_right-requires : goal.rules_right-requires
rules_right-requires c =
    let p : CasePlaces c.args.file.now = case_places _ c.requires in
    let n = c.count_of.ensures.value in
    let h : HoldsRules c.args.file.now _ _ = holds_rules _ c.requires n c.put_rules.ensures in
    (h.rules_fit, omega arith)

pub returns : goal.returns
returns c =
    let h : HoldsRules c.args.file.now _ _ = holds_rules _ c.requires c.count_of.ensures.value c.put_rules.ensures in
    c.rules_right.ensures ∙ ap (every (rule_right (the_head c.args.h))) h.rules_are
