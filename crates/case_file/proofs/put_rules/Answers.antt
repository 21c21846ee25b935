-- `case_file::put_rules` meets its contract.
-- Assumes nothing.
use mathlib.Core.Path.{◌≡◌, ap, sym, ◌∙◌}
use lib.ListN.{length}
use native.Mathlib.Omega.{arith}
use Rattle.files.proofs.Case.Laws.{CasePlaces, case_places, length_codes}
use Rattle.files.specs.Codes.{our_codes}
use Rattle.bytes_in.specs.Records.Laws.{body_fits}
use Rattle.case_file.specs.Forms.Laws.{no_record, rules_ours}
use Rattle.case_file.proofs.put_rules.Goals as goal

pub count_of-n-requires : goal.count_of-n-requires
count_of-n-requires c = let p : CasePlaces c.args.file.now = case_places _ c.requires.0 in omega arith

pub put_rules-requires : goal.put_rules-requires
put_rules-requires c =
    let p : CasePlaces c.args.file.now = case_places _ c.requires.0 in
    let n = c.count_of-n.ensures.value in
    let l : length c.code_record.result.now ≡ 8 = ap length c.code_record.ensures ∙ length_codes _ c.requires.0 in
    (omega arith, body_fits _ 1 5 _ _ p.rules_end c.rule_body.ensures n, omega arith)

pub put_rules-requires-else-has_codes : goal.put_rules-requires-else-has_codes
unfolding our_codes
put_rules-requires-else-has_codes c =
    let p : CasePlaces c.args.file.now = case_places _ c.requires.0 in
    let n = c.count_of-n.ensures.value in
    let l : length c.put_our_codes.new.codes ≡ 8 = ap length c.put_our_codes.ensures in
    (omega arith, body_fits _ 1 5 _ _ p.rules_end c.rule_body-else-has_codes.ensures n, omega arith)

pub returns-then-has_codes : goal.returns-then-has_codes
returns-then-has_codes c =
    rules_ours c.args.file.now c.requires.0 c.args.rules.now c.code_record.ensures c.rule_body.ensures c.count_of-n.ensures.value c.put_rules.ensures

pub returns-else-has_codes : goal.returns-else-has_codes
returns-else-has_codes c =
    let none = no_record c.args.file.now c.requires.0 (sym c.has_codes.ensures ∙ c.if-has_codes.false) in
    rules_ours c.args.file.now c.requires.0 c.args.rules.now (c.put_our_codes.ensures ∙ sym none) c.rule_body-else-has_codes.ensures c.count_of-n.ensures.value c.put_rules-else-has_codes.ensures
