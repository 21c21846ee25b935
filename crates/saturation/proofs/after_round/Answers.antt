-- `saturation::after_round` meets its contract.
-- Assumes nothing.
use mathlib.Core.Path.{◌≡◌, ap, sym, ◌∙◌}
use native.Mathlib.Omega.{arith}
use Rattle.saturation.specs.Turns.{after_round}
use Rattle.saturation.specs.Turns.Laws.{after_over, after_still, after_more}
use Rattle.saturation.proofs.after_round.Goals as goal

pub returns-in_default : goal.returns-in_default
returns-in_default c = let x = c.args in sym (ap (after_round x.z x.k) c.in_default.is ∙ after_over x.z x.k)

pub returns-then-next-z : goal.returns-then-next-z
returns-then-next-z c =
    let x = c.args in
    let next = c.in-Some.next in
    let still : next.moves ≡ x.z.moves = omega (arith, c.if-next-z.true) in
    sym (ap (after_round x.z x.k) c.in-Some.is ∙ after_still x.z x.k next still)

pub returns : goal.returns
returns c =
    let x = c.args in
    let next = c.in-Some.next in
    let more : next.moves ≡ x.z.moves → ⊥ = λ e. omega (arith, c.if-next-z.false) in
    sym (ap (after_round x.z x.k) c.in-Some.is ∙ after_more x.z x.k next more)
