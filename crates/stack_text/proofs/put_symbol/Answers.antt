-- `stack_text::put_symbol` meets its contract.
-- Assumes nothing.
use Rattle.services.specs.Listing.{ascii}
use Rattle.bounded_text.specs.Page.Laws.{prints_then, prints_stop}
use Rattle.stack_text.proofs.put_symbol.Goals as goal

pub returns-in_err-space : goal.returns-in_err-space
unfolding ascii
returns-in_err-space c = prints_stop _ c.from_residual.ensures c.in_err-space.ensures

pub returns : goal.returns
unfolding ascii
returns c = prints_then c.in_ok-space.ensures c.put_bytes.ensures
