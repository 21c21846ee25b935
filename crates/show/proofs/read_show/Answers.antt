-- `show::read_show` meets its contract.
-- Assumes nothing.
use borrow.Author.Rules.{rules}
use Rattle.services.specs.Brackets.{show_text}
use Rattle.printing.specs.Texts.Laws.{text_read}
use Rattle.show.proofs.read_show.Goals as goal

pub returns-clause-text_read : goal.returns-clause-text_read
returns-clause-text_read g c =
    let e = c.text_of_files.ensures in
    (text_read (λ f. show_text f c.args.number) 65537 (record { case = e.0.now; start = e.1.now }) (search rules) (search rules) (search rules)).0
