-- `acceptance_words::word_of` meets its contract.
-- Assumes nothing.
use native.Mathlib.Omega.{arith}
use native.Mathlib.Numerals.{add-one}
use Rattle.replies.specs.Numbers.{answer_word}
use Rattle.acceptance_words.specs.Rows.Laws.{since_small}
use Rattle.acceptance_words.proofs.word_of.Goals as goal

pub overflow_add-result : goal.overflow_add-result
overflow_add-result c = let l = since_small c.in-Since.is c.requires in omega arith

pub overflow_cast-result : goal.overflow_cast-result
overflow_cast-result c = let l = since_small c.in-Since.is c.requires in omega arith

pub returns-in-Never : goal.returns-in-Never
unfolding answer_word
returns-in-Never c = rw c.in-Never.is

pub returns-in-Since : goal.returns-in-Since
unfolding answer_word
returns-in-Since c = rw c.in-Since.is (add-one _)
