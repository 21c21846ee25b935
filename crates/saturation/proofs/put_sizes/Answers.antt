-- `saturation::put_sizes` meets its contract.
-- Assumes nothing.
use native.Mathlib.Numerals.{towards_suc}
use Rattle.saturation.specs.Sizes.{size_words}
use Rattle.saturation.proofs.put_sizes.Goals as goal

pub returns : goal.returns
unfolding size_words
returns c = simp towards_suc
