-- The full run of a start, a function of the case file, the start file, the start's number and a number of rounds alone; and the halt of a guide
-- with c cells and t trace words, in document 01's words.
-- Assumes nothing.
use Rattle.std.specs.Prelude.{ℕ, suc, ◌+◌, ◌<◌, ◌≡◌, List, [], length, take}
use Rattle.std.proofs.Math.Option.{Option, none, some}
use Rattle.stacks.specs.System.{Rule}
use Rattle.automata.specs.Automaton.{Automaton}
use Rattle.automata.specs.Saturation.{Saturated, saturate}
use Rattle.walks.specs.Guide.{Walk, start_walk, Next, arrived, stuck, next, walk_after, trace_after}
use Rattle.files.specs.Case.{own_of, rules_of}
use Rattle.files.specs.Start.{cells_of, start_at}
use Rattle.guidance.specs.Halt.{Reason, arrival, trace_full, cells_short, cells_of_steps}

-- ---- the full run

-- The case's table after so many rounds with its sizes after each round, or none where it passes a limit whatever tables are lent. It is the same
-- for all lent tables that hold it: `saturated_is` in FullRun/Laws.antt.
unfoldable pub saturated_table : List ℕ → ℕ → Option Saturated
saturated_table case rounds = saturate (rules_of case) (record { moves = 1024; entries = 64 }) rounds (own_of case)

-- "All start cells are taken first": the walk of start n before its first step.
unfoldable pub walk_from : List ℕ → ℕ → Automaton → Walk
walk_from start n A = start_walk A (cells_of start) (start_at start n).control (start_at start n).root

-- "The full run .. is this walk with cells and trace without end", on "the table of those rounds alone": the walk of start n after m steps,
-- where it has that many,
unfoldable pub full_walk : List ℕ → List ℕ → ℕ → ℕ → ℕ → Option Walk
full_walk case start rounds n m = elim (saturated_table case rounds) [ none ↦ none | some T ↦ walk_after (rules_of case) T m (walk_from start n T.table) ]

-- the rule numbers of these steps, or of all where it has fewer,
unfoldable pub full_trace : List ℕ → List ℕ → ℕ → ℕ → ℕ → List ℕ
full_trace case start rounds n m = elim (saturated_table case rounds) [ none ↦ [] | some T ↦ trace_after (rules_of case) T m (walk_from start n T.table) ]

-- and what follows on a walk of it: that it has arrived, or a step.
unfoldable pub full_next : List ℕ → ℕ → Walk → Next
full_next case rounds w = elim (saturated_table case rounds) [ none ↦ stuck | some T ↦ next (rules_of case) T w ]

-- "It ends on arrival": ns are the rule numbers of the full run of start n, and `last` is where it arrives.
pub record FullRun (case start : List ℕ) (rounds n : ℕ) (ns : List ℕ) (last : Walk) : Type 0 where
  pub walk_is : full_walk case start rounds n (length ns) ≡ some last
  pub trace_is : full_trace case start rounds n (length ns) ≡ ns
  pub arrives : full_next case rounds last ≡ arrived

-- ---- the halt

-- "After m steps the cells used are the start file's cells and the new cells of those steps": `first` being the start file's cells.
unfoldable pub used : List Rule → ℕ → List ℕ → ℕ → ℕ
used rules first ns m = first + cells_of_steps rules (take m ns)

-- "The run has arrived, m = t, or step m + 1 would bring the cells used above c, .. the first of these that holds, in that order": after
-- m steps of the full run ns.
pub data HaltsAfter (rules : List Rule) (first : ℕ) (ns : List ℕ) (c t m : ℕ) : Reason → Type 0 where
  has_arrived : m ≡ length ns → HaltsAfter rules first ns c t m arrival
  is_full : m < length ns → m ≡ t → HaltsAfter rules first ns c t m trace_full
  is_short : m < length ns → (m ≡ t → ⊥) → c < used rules first ns (suc m) → HaltsAfter rules first ns c t m cells_short

-- "m being the least number where" it halts
pub record Stops (rules : List Rule) (first : ℕ) (ns : List ℕ) (c t : ℕ) : Type 0 where
  pub steps : ℕ
  pub reason : Reason
  pub halts : HaltsAfter rules first ns c t steps reason
  pub least : (k : ℕ) (r : Reason) → k < steps → HaltsAfter rules first ns c t k r → ⊥
