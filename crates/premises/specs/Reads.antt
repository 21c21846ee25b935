-- What is read for a premise, by how its operation uses it.
-- Assumes nothing.
pub mod Laws
use Rattle.std.specs.Prelude.{ℕ, List}
use Rattle.words.specs.Sets.{join, members}
use Rattle.words.specs.Lists.{when}
use Rattle.automata.specs.Automaton.{Automaton, Move}
use Rattle.automata.specs.Derivation.{Result, joins_of}
use Rattle.joins.specs.Joining.{the_joins}
use Rattle.readings.specs.declared.Goal.{Goal}
use Rattle.readings.specs.Readings.{reads_to, edges_to}
use Rattle.premises.specs.declared.MoveUse.{MoveUse}
use Rattle.premises.specs.declared.MoveUse.TheVariants.{Rewritten, Pushed1, Pushed2, Copied}
use Rattle.premises.specs.declared.Push.{Push}
use Rattle.premises.specs.declared.Reads.{Reads}
use Rattle.premises.specs.declared.Reads.TheVariants.{Nothing, Rest, Edges}
use Rattle.premises.specs.Premises.{order_fits}

-- what is read for move m of an entry with the set S
unfoldable pub reads_of : MoveUse → ℕ → Move → Reads
reads_of Rewritten S m = Nothing
reads_of Pushed1 S m = Rest (record { order = 1; s = S; rest = m.B })
reads_of Pushed2 S m = Rest (record { order = 2; s = join S m.B; rest = 0 })
reads_of Copied S m = Edges

-- what a push gives by move m
unfoldable pub push_gives : Goal → Push → Move → Automaton → List Result
push_gives to push m A = when (order_fits push.order m) (reads_to to push.s (members m.R) (the_joins 0 0 push.rest) A)

-- what a copy gives by move m of an entry with the set S
unfoldable pub copy_gives : Goal → ℕ → Move → Automaton → List Result
copy_gives to S m A = edges_to to 0 (joins_of m) (members S) 0 A
