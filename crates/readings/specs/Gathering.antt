-- The collecting of what is read: what is asked of the results pending and of the memo table, and what they are then. A reading does not
-- depend on the inner edges, so nothing is asked of them; a memo table that holds for some inner edges then holds for them.
-- Assumes nothing.
use Rattle.std.specs.Prelude.{ℕ, List}
use Rattle.automata.specs.Automaton.{Automaton}
use Rattle.automata.specs.Derivation.{Result}
use Rattle.tables.specs.declared.Table.{Table}
use Rattle.tables.specs.Held.{automaton_of, table_of}
use Rattle.move_index.specs.declared.indexed.MovesIndexed.{MovesIndexed}
use Rattle.offers.specs.Offers.{Room, Collects}
use Rattle.readings.specs.Memo.{MemoHolds}

-- ---- with the inner edges

-- There is room in table t, with n results in it, and what the rows of table `memo` give adds nothing to them.
pub record CanCollect (A : Automaton) (room n : ℕ) (t memo : List ℕ) : Type 0 where
  pub stands : Room room n t
  pub memo_holds : MemoHolds A room n t memo

-- What A gives was offered, from n results in table t to r in table t', and what the rows of table `memo` give adds nothing to these.
pub record CollectsAll (A : Automaton) (room n : ℕ) (t : List ℕ) (gives : Automaton → List Result) (r : ℕ) (t' memo : List ℕ) : Type 0 where
  pub collects : Collects A room n t (gives A) r t'
  pub memo_holds : MemoHolds A room r t' memo

-- ---- whatever the inner edges

-- A memo table that adds nothing to the results in table t adds nothing to those in table t' then.
abbrev pub MemoKept : Table → List ℕ → List ℕ → ℕ → ℕ → List ℕ → List ℕ → ℕ → List ℕ → List ℕ → Type 0
MemoKept z entries moves room n t memo r t' memo' = (inner : List ℕ) → MemoHolds (automaton_of z inner entries moves) room n t memo
    → MemoHolds (automaton_of z inner entries moves) room r t' memo'

-- There is room in table t, with n results in it, and for some inner edges what the rows of table `memo` give adds nothing to them.
pub record CanRead (z : Table) (entries moves : List ℕ) (room n : ℕ) (t memo : List ℕ) : Type 0 where
  pub stands : Room room n t
  pub inner : List ℕ
  pub memo_holds : MemoHolds (automaton_of z inner entries moves) room n t memo

-- What the table gives was offered, from n results in table t to r in table t', and the memo table adds nothing to these if it added nothing
-- before.
pub record ReadsAll (z : Table) (entries moves : List ℕ) (room n : ℕ) (t memo : List ℕ) (gives : Automaton → List Result) (r : ℕ) (t' memo' : List ℕ) : Type 0 where
  pub collects : Collects (table_of z entries moves) room n t (gives (table_of z entries moves)) r t'
  pub memo_kept : MemoKept z entries moves room n t memo r t' memo'

-- ---- in indexed tables

abbrev pub CanReadIn : MovesIndexed → ℕ → ℕ → List ℕ → List ℕ → Type 0
CanReadIn by = CanRead by.held.table by.held.entries.now by.held.moves.now

abbrev pub ReadsAllIn : MovesIndexed → ℕ → ℕ → List ℕ → List ℕ → (Automaton → List Result) → ℕ → List ℕ → List ℕ → Type 0
ReadsAllIn by = ReadsAll by.held.table by.held.entries.now by.held.moves.now
