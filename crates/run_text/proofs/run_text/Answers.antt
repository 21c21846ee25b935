-- `run_text::run_text` meets its contract.
-- Assumes nothing.
use mathlib.Core.Path.{refl}
use Rattle.text.specs.Laws.Printed.{printed}
use Rattle.run_text.proofs.run_text.Goals as goal

pub returns-clause-text_after : goal.returns-clause-text_after
returns-clause-text_after c = (printed refl c.put_run.ensures.written c.put_run.ensures.within).0
