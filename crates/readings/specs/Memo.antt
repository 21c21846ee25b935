-- States that were worked through in this round: all that they give is held or collected already.
-- Assumes nothing.
pub mod Laws
use Rattle.std.specs.Prelude.{ℕ, ◌+◌, ◌*◌, ◌≤◌, ◌<◌, true, false, ◌≡◌, List, [], length, eqb}
use Rattle.words.specs.Sets.{members}
use Rattle.automata.specs.Automaton.{Automaton}
use Rattle.automata.specs.Derivation.{Result}
use Rattle.automata.specs.Saturation.{held}
use Rattle.tables.specs.Rows.{row_at}
use Rattle.tables.specs.Pending.{pending_in}
use Rattle.memo_table.specs.declared.State.{State}
use Rattle.memo_table.specs.States.{read_kind, edges_kind}
use Rattle.memo_table.specs.Layout.{state_row}
use Rattle.joins.specs.Joining.{the_joins}
use Rattle.offers.specs.Offers.{offer_all}
use Rattle.readings.specs.Readings.{read_results, edge_results}

-- What a state gives. An empty row, and a state of another round, gives nothing here.
unfoldable pub state_results : Automaton → State → List Result
state_results A x = elim (eqb x.kind (read_kind (length A.moves))) [
  | true ↦ read_results A x.control x.symbol x.s (members x.left) (the_joins x.order x.b x.r)
  | false ↦ elim (eqb x.kind (edges_kind (length A.moves))) [
    | true ↦ edge_results A x.control x.symbol (the_joins x.order x.b x.r) (members x.left) x.named x.s
    | false ↦ []
  ]
]

-- Table `memo` has a row, and no row of a round with n moves or more.
pub record MemoBefore (n : ℕ) (memo : List ℕ) : Type 0 where
  pub some_row : 9 ≤ length memo
  pub earlier : (i : ℕ) → i * 9 + 9 ≤ length memo → (row_at state_row memo i).kind < read_kind n

-- Table `memo` has a row, and no row of a round with more than n moves.
pub record MemoUpTo (n : ℕ) (memo : List ℕ) : Type 0 where
  pub some_row : 9 ≤ length memo
  pub no_later : (i : ℕ) → i * 9 + 9 ≤ length memo → (row_at state_row memo i).kind ≤ edges_kind n

-- What the rows of table `memo` give adds nothing to the results in n rows of table t.
pub record MemoHolds (A : Automaton) (room n : ℕ) (t memo : List ℕ) : Type 0 where
  pub up_to : MemoUpTo (length A.moves) memo
  pub absorbed : (i : ℕ) → i * 9 + 9 ≤ length memo → offer_all (held A) room (pending_in room n t) (state_results A (row_at state_row memo i)) ≡ pending_in room n t
