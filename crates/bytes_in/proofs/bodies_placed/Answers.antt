-- `bytes_in::bodies_placed` meets its contract. The invariant: all bodies are placed exactly if those from line i on are.
-- Assumes nothing.
use mathlib.Core.Path.{refl, sym, ◌∙◌}
use Rattle.bytes_in.specs.Contents.Laws.{from_next, from_wrong, from_last}
use Rattle.bytes_in.proofs.bodies_placed.Goals as goal

pub returns-in_default : goal.returns-in_default
returns-in_default c =
    sym (from_wrong _ _ _ _ _ _ _ c.loop-i-test.true c.loop-i.invariant refl (sym c.in_default.is ∙ c.next_body.ensures))

pub loop-i-preserved : goal.loop-i-preserved
loop-i-preserved c = from_next _ _ _ _ _ _ _ c.loop-i-test.true c.loop-i.invariant refl _ (sym c.in-Some.is ∙ c.next_body.ensures)

pub returns : goal.returns
returns c = from_last _ _ _ _ _ c.loop-i-test.false c.loop-i.invariant
