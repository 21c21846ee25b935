-- The search for a premise, as the code goes.
-- Assumes nothing.
pub mod Laws
pub mod Moves
pub mod Loops
pub mod Rules
use Rattle.std.specs.Prelude.{ℕ, Bool, ◌&&◌, ◌||◌, ◌≡◌, List, [], get_or, eqb, None, Some, Option as Found}
use Rattle.std.proofs.Math.Option.{Option, none, some, map}
use Rattle.words.specs.Sets.{members}
use Rattle.words.specs.Order.{same}
use Rattle.stacks.specs.Stack.{Operation, rewrite, push1, push2, copy, pop1, pop2, collapse1, collapse2}
use Rattle.stacks.specs.System.{Rule}
use Rattle.automata.specs.Automaton.{Automaton, Move, no_entry, move_at, entry_of, entry_set}
use Rattle.automata.specs.Derivation.{Result, Joins, joins_of, named}
use Rattle.walks.specs.Guide.{first_or_zero}
use Rattle.first_reading.specs.First.{only_if, is_some}
use Rattle.first_reading.specs.Answer.{written_all, Answer, Answers}
use Rattle.first_reading.specs.Search.{joins_key, wanted, Numbers, only_moves, first_reading}
use Rattle.first_derivation.specs.Search.{PremiseNumbers, with_premise, by_move, by_entry, first_move, first_step, by_rule}

-- a move of an entry with set S gives x by a rewrite
unfoldable pub rewritten : ℕ → Move → Result → Bool
rewritten S m x = eqb S x.S && same (joins_key (joins_of m)) (wanted x)

-- the first moves by which move m gives x by a push of order k, where the set is S and the rest sets are joined to r
unfoldable pub pushed : Automaton → ℕ → Result → ℕ → ℕ → ℕ → Move → Option Numbers
pushed A a x k S r m = only_if (eqb m.order 0 || eqb m.order k)
    (only_if (eqb S x.S) (map only_moves (first_reading A a (wanted x) (members m.R) (record { order = 0; B = 0; R = r }))))

-- how the moves chosen for these states are written
unfoldable pub reads_moves : List ℕ → Numbers → List ℕ → List ℕ
reads_moves qs n ws = written_all qs n.moves ws

-- the states for which an operation chooses edges, its premise being move i
unfoldable pub edge_states : Automaton → Operation → ℕ → List ℕ
edge_states A (rewrite b) i = []
edge_states A (push1 b) i = []
edge_states A (push2 b) i = []
edge_states A copy i = members (entry_set A (move_at A i).state)
edge_states A pop1 i = []
edge_states A pop2 i = []
edge_states A collapse1 i = []
edge_states A collapse2 i = []

-- the states for which it chooses moves, where it chose these edges
unfoldable pub read_states : Automaton → Operation → ℕ → List ℕ → List ℕ
read_states A (rewrite b) i es = []
read_states A (push1 b) i es = members (move_at A i).R
read_states A (push2 b) i es = members (move_at A i).R
read_states A copy i es = members (named A es)
read_states A pop1 i es = []
read_states A pop2 i es = []
read_states A collapse1 i es = []
read_states A collapse2 i es = []

-- how the edges and the moves of a derivation by the operation from premise i are written
unfoldable pub writes_edges : Automaton → Operation → ℕ → Numbers → List ℕ → List ℕ
writes_edges A op i n ws = written_all (edge_states A op i) n.edges ws

unfoldable pub writes_moves : Automaton → Operation → ℕ → Numbers → List ℕ → List ℕ
writes_moves A op i n ws = written_all (read_states A op i n.edges) n.moves ws

-- The search for a derivation of x by a push of order k from move m answers t, and makes the words ms of ms₀.
abbrev pub FindsPush : Automaton → ℕ → Result → ℕ → ℕ → ℕ → Move → Bool → List ℕ → List ℕ → Type 0
FindsPush A a x k S r m t ms₀ ms = Answer (pushed A a x k S r m) (reads_moves (members m.R)) t ms₀ ms

-- The search for a derivation of x by the operation from move i answers t, and writes what it chose.
abbrev pub FindsDerivation : Automaton → ℕ → Result → Operation → ℕ → Bool → List ℕ → List ℕ → List ℕ → List ℕ → Type 0
FindsDerivation A a x op i t es₀ es ms₀ ms = Answers (by_move A a x op i) (writes_edges A op i) (writes_moves A op i) t es₀ es ms₀ ms

-- ---- steps, which name their premise

-- how the edges and the moves of a step by the operation are written
unfoldable pub step_edges : Automaton → Operation → PremiseNumbers → List ℕ → List ℕ
step_edges A op s ws = writes_edges A op (first_or_zero s.premise) s.numbers ws

unfoldable pub step_moves : Automaton → Operation → PremiseNumbers → List ℕ → List ℕ
step_moves A op s ws = writes_moves A op (first_or_zero s.premise) s.numbers ws

-- what move i gives as the premise of a rule to control p' that reads b
unfoldable pub move_gives : Automaton → ℕ → Result → Operation → ℕ → ℕ → ℕ → Option PremiseNumbers
move_gives A a x op p' b i = only_if (eqb (move_at A i).symbol b && entry_of A p' (move_at A i).state) (map (with_premise i) (by_move A a x op i))

-- what entry e gives as the premise of a rule to control p'
unfoldable pub entry_gives : Automaton → Result → (ℕ → Joins) → ℕ → ℕ → Option PremiseNumbers
entry_gives A x joins p' e = only_if (eqb (get_or A.entries e no_entry).control p') (map (with_premise e) (by_entry A x joins e))

-- The same for a rule to control p' that reads b, of which move i may be the premise.
abbrev pub TriesPremise : Automaton → ℕ → Result → Operation → ℕ → ℕ → ℕ → Bool → List ℕ → List ℕ → List ℕ → List ℕ → Type 0
TriesPremise A a x op p' b i t es₀ es ms₀ ms = Answers (move_gives A a x op p' b i) (step_edges A op) (step_moves A op) t es₀ es ms₀ ms

-- the number of the premise that was found (0 where the rule has none): in the code, and by the definition
abbrev pub premise_in : Found ℕ → Option ℕ
premise_in None = none
premise_in (Some i) = some i

abbrev pub premise_of : Option PremiseNumbers → Option ℕ
premise_of o = map (λ s. first_or_zero s.premise) o

-- A search for a step by the operation answers r: the number of the step's premise, or nothing; and it writes what it chose.
pub record Finds (A : Automaton) (op : Operation) (o : Option PremiseNumbers) (r : Found ℕ) (es₀ es ms₀ ms : List ℕ) : Type 0 where
  pub number : premise_in r ≡ premise_of o
  pub written : Answers o (step_edges A op) (step_moves A op) (is_some (premise_in r)) es₀ es ms₀ ms

-- It is the search for the first move on b of an entry of p' that gives x.
abbrev pub FindsMove : Automaton → ℕ → Result → Operation → ℕ → ℕ → Found ℕ → List ℕ → List ℕ → List ℕ → List ℕ → Type 0
FindsMove A a x op p' b r es₀ es ms₀ ms = Finds A op (first_move A a x op p' b) r es₀ es ms₀ ms

-- It is the search for the first step to x by a rule on a with this operation, to control p'.
abbrev pub FindsStep : Automaton → ℕ → Result → Operation → ℕ → Found ℕ → List ℕ → List ℕ → List ℕ → List ℕ → Type 0
FindsStep A a x op p' r es₀ es ms₀ ms = Finds A op (first_step A a x op p') r es₀ es ms₀ ms

-- It is the search for the first step to x by this rule.
abbrev pub FindsByRule : Automaton → Result → Rule → Found ℕ → List ℕ → List ℕ → List ℕ → List ℕ → Type 0
FindsByRule A x ρ r es₀ es ms₀ ms = Finds A ρ.operation (by_rule A x ρ) r es₀ es ms₀ ms
