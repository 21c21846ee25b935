-- `run::read_run` meets its contract.
-- Assumes nothing.
use Prim.Native.Nat.{◌+◌, ◌*◌}
use borrow.Author.Rules.{rules}
use Rattle.services.specs.Run.{run_text}
use Rattle.printing.specs.Texts.Laws.{text_read}
use Rattle.run.proofs.read_run.Goals as goal

pub returns-clause-text_read : goal.returns-clause-text_read
returns-clause-text_read g c =
    let e = c.text_of_files.ensures in
    (text_read (λ f. run_text f c.args.number c.args.rounds) (65536 * 6 + 80) (record { case = e.0.now; start = e.1.now }) (search rules) (search rules) (search rules)).0
