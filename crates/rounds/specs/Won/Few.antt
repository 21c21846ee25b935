-- In which round a stack is won: what the table of a round accepts, those of later rounds accept, rounds past one that adds no move win
-- nothing, and at most 1,024 rounds add a move, so that an answer's word is small.
-- Assumes nothing.
use Prim.Native.Nat.{ℕ, suc, ◌≤◌}
use Rattle.std.specs.Prelude.{true, ◌≡◌, List, length}
use Rattle.std.proofs.Common.{ap, sym, ◌∙◌}
use native.Mathlib.Omega.{arith}
use Rattle.stacks.specs.Stack.{Stack2}
use Rattle.stacks.specs.System.{Rule}
use Rattle.replies.specs.declared.Acceptance.{Acceptance}
use Rattle.replies.specs.declared.Acceptance.TheVariants.{Never, Since}
use Rattle.replies.specs.Numbers.{answer_word}
use Rattle.automata.specs.Automaton.{Automaton}
use Rattle.automata.specs.Acceptance.{accepts2}
use Rattle.automata.proofs.Acceptance.Laws.{accepts2_kept}
use Rattle.automata.specs.Saturation.{table_after, Size, Saturated, rounds_added}
use Rattle.automata.specs.Won.{won2}
use Rattle.automata.specs.Won.Laws.{Right, least_right}
use Rattle.rounds.specs.Rounds.{after_suc, still_closed, after_extends, after_closed}
use Rattle.rounds.specs.Limits.{IsSaturated, rounds_few}

module _ (rules : List Rule) (own : Automaton) where
  -- from a table on to which the next round adds no move, rounds change nothing
  pub after_still : (m n : ℕ) → m ≤ n → length (table_after rules own (suc m)).moves ≡ length (table_after rules own m).moves
      → table_after rules own n ≡ table_after rules own m
  after_still m n h e =
      after_closed rules own m n h
      (still_closed rules (table_after rules own m) (ap (λ (A : Automaton). length A.moves) (sym (after_suc rules own m)) ∙ e))

  -- the word of an answer is at most the rounds looked at, plus 1
  word_within : (rounds : ℕ) (t : Stack2) (q : ℕ) → answer_word (won2 rules own rounds t q) ≤ suc rounds
  unfolding won2 answer_word
  word_within rounds t q = go (won2 rules own rounds t q) (least_right (λ n. accepts2 (table_after rules own n) t q) 0 (suc rounds))
    where
      go : (a : Acceptance) → Right (λ n. accepts2 (table_after rules own n) t q) 0 (suc rounds) a → answer_word a ≤ suc rounds
      go Never h = omega arith
      go (Since r) (l, _) = omega arith

  -- what the table of a round accepts, the tables of later rounds accept
  pub after_accepts : (m n : ℕ) → m ≤ n → (t : Stack2) (q : ℕ) → accepts2 (table_after rules own m) t q ≡ true → accepts2 (table_after rules own n) t q ≡ true
  after_accepts m n l t q h = accepts2_kept (after_extends rules own m n l) t q h

  -- an answer's word is at most 1,025
  pub word_few : {lent : Size} {n : ℕ} {T : Saturated} → IsSaturated rules lent own n T → (t : Stack2) (q : ℕ) → answer_word (won2 rules own (rounds_added T) t q) ≤ 1025
  word_few {lent} {T = T} s t q = let l = word_within (rounds_added T) t q in let few = rounds_few rules lent own s in omega arith
