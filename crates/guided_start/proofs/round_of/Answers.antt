-- `guided_start::round_of` meets its contract.
-- Assumes nothing.
use native.Mathlib.Omega.{arith}
use Rattle.replies.specs.Numbers.{answer_word}
use Rattle.guided_start.proofs.round_of.Goals as goal

pub returns-in-Never : goal.returns-in-Never
unfolding answer_word
returns-in-Never c = rw c.in-Never.is

pub returns-in-Since : goal.returns-in-Since
unfolding answer_word
returns-in-Since c = rw c.in-Since.is (omega arith)
