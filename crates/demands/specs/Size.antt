-- The saturated table of a case file, and when it or the table after a number of rounds passes a limit.
-- Assumes nothing.
pub mod Laws
use Rattle.std.specs.Prelude.{ℕ, false, ◌≡◌, List}
use Rattle.automata.specs.Automaton.{Automaton}
use Rattle.automata.specs.Saturation.{table_after, within}
use Rattle.rounds.specs.LeastClosed.{LeastClosed}
use Rattle.files.specs.Case.{own_of, rules_of}
use Rattle.services.specs.Memory.{lent}
use Rattle.services.specs.Saturate.{Lent}
use Rattle.demands.specs.Reach.{round_table}

-- "The least closed set is the *saturated table*", its entries and moves numbered as rounds add them.
pub record SaturatedTable (case : List ℕ) (A : Automaton) : Type 0 where
  pub least_closed : LeastClosed (rules_of case) (own_of case) A
  pub rounds : ℕ
  pub table_is : A ≡ table_after (rules_of case) (own_of case) rounds

-- "The saturated table has more moves than lent or than 1,024, more entries than lent, or more than 64 order-1 states."
pub record Exceeds (x : Lent) : Type 0 where
  pub table : Automaton
  pub saturated : SaturatedTable x.case table
  pub passes : within (lent x.moves x.entries) table ≡ false

-- "9 concerns the rounds run": the same of the table after n rounds.
abbrev pub ExceedsIn : Lent → ℕ → Type 0
ExceedsIn x n = within (lent x.moves x.entries) (round_table x.case n) ≡ false
