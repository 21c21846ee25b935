-- `case_file::check_case` meets its contract.
-- Assumes nothing.
use mathlib.Core.Path.{sym, ◌∙◌}
use Rattle.files.specs.Case.Refusal.{refusal_by, refusal_is}
use Rattle.case_file.proofs.check_case.Goals as goal

pub returns-then-not-case_placed : goal.returns-then-not-case_placed
unfolding refusal_by
returns-then-not-case_placed c = rw (refusal_is, sym c.case_placed.ensures ∙ c.if-not-case_placed.true)

pub returns-then-not-head_right : goal.returns-then-not-head_right
unfolding refusal_by
returns-then-not-head_right c =
    rw (
      refusal_is,
      sym c.case_placed.ensures ∙ c.if-not-case_placed.false,
      ← c.head_of-h.ensures,
      sym c.head_right.ensures ∙ c.if-not-head_right.true,
    )

pub returns-then-not-file_codes_right : goal.returns-then-not-file_codes_right
unfolding refusal_by
returns-then-not-file_codes_right c =
    rw (
      refusal_is,
      sym c.case_placed.ensures ∙ c.if-not-case_placed.false,
      ← c.head_of-h.ensures,
      sym c.head_right.ensures ∙ c.if-not-head_right.false,
      sym c.file_codes_right.ensures ∙ c.if-not-file_codes_right.true,
    )

pub returns-then-not-records_right : goal.returns-then-not-records_right
unfolding refusal_by
returns-then-not-records_right c =
    rw (
      refusal_is,
      sym c.case_placed.ensures ∙ c.if-not-case_placed.false,
      ← c.head_of-h.ensures,
      sym c.head_right.ensures ∙ c.if-not-head_right.false,
      sym c.file_codes_right.ensures ∙ c.if-not-file_codes_right.false,
      sym c.records_right.ensures ∙ c.if-not-records_right.true,
    )

pub returns-then-not-records_rising : goal.returns-then-not-records_rising
unfolding refusal_by
returns-then-not-records_rising c =
    rw (
      refusal_is,
      sym c.case_placed.ensures ∙ c.if-not-case_placed.false,
      ← c.head_of-h.ensures,
      sym c.head_right.ensures ∙ c.if-not-head_right.false,
      sym c.file_codes_right.ensures ∙ c.if-not-file_codes_right.false,
      sym c.records_right.ensures ∙ c.if-not-records_right.false,
      sym c.records_rising.ensures ∙ c.if-not-records_rising.true,
    )

pub returns : goal.returns
unfolding refusal_by
returns c =
    rw (
      refusal_is,
      sym c.case_placed.ensures ∙ c.if-not-case_placed.false,
      ← c.head_of-h.ensures,
      sym c.head_right.ensures ∙ c.if-not-head_right.false,
      sym c.file_codes_right.ensures ∙ c.if-not-file_codes_right.false,
      sym c.records_right.ensures ∙ c.if-not-records_right.false,
      sym c.records_rising.ensures ∙ c.if-not-records_rising.false,
    )
