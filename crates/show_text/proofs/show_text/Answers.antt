-- `show_text::show_text` meets its contract.
-- Assumes nothing.
use Prim.Native.Nat.{ℕ}
use lib.ListN.{length-replicate}
use Rattle.text.specs.Laws.Printed.{printed}
use Rattle.show_text.specs.Laws.Answers.{shown_ready, shown_is}
use Rattle.show_text.proofs.show_text.Goals as goal

pub put_shown-requires : goal.put_shown-requires
put_shown-requires c =
    let b = c.brackets-reply in
    shown_ready _ _ b.ensures.exactly b.auto.text (length-replicate {A = ℕ} 65536 0) (length-replicate {A = ℕ} 65537 0)

pub returns-clause-text_after : goal.returns-clause-text_after
returns-clause-text_after c =
    (printed (shown_is _ _ _ c.brackets-reply.ensures.text_after) c.put_shown.ensures.written c.put_shown.ensures.within).0

pub returns-clause-long : goal.returns-clause-long
returns-clause-long c =
    (printed (shown_is _ _ _ c.brackets-reply.ensures.text_after) c.put_shown.ensures.written c.put_shown.ensures.within).1.0
