-- `first_derivation::words_fit` meets its contract.
-- Assumes nothing.
use Rattle.first_derivation.proofs.words_fit.Goals as goal

pub returns : goal.returns
returns c = record { fits = λ j. (c.type_inv.words j).fits }
