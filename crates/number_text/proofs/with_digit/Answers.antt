-- `number_text::with_digit` meets its contract.
-- Assumes nothing.
use mathlib.Core.Path.{ap, sym, ◌∙◌}
use Prim.Native.Nat.{ℕ, ◌+◌, ◌*◌, min}
use Rattle.number_text.specs.Named.Laws.{no_digit, digit_adds}
use Rattle.number_text.proofs.with_digit.Goals as goal

pub returns-then-not-is_ascii_digit-clause-value : goal.returns-then-not-is_ascii_digit-clause-value
returns-then-not-is_ascii_digit-clause-value c = no_digit _ _ _ c.if-not-is_ascii_digit.ensures.cases

pub returns-clause-value : goal.returns-clause-value
returns-clause-value c =
    let digit = c.if-not-is_ascii_digit.ensures.cases in
    c.min.ensures ∙ ap (λ (k : ℕ). min (c.args.n * 10 + k) c.args.most) c.from.ensures ∙ sym (digit_adds _ _ _ digit.0 digit.1)
