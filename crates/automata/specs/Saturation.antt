-- Saturation: one round, the table after n rounds, the table of at most n rounds within limits, a move's round and the table before it.
-- Assumes nothing.
use Rattle.std.specs.Prelude.{ℕ, zero, suc, ◌+◌, ◌-◌, min, Bool, true, false, not, ◌&&◌, List, [], ◌∷◌, ◌++◌, map, length, take, eqb, leb}
use Rattle.std.proofs.Math.Option.{Option, none, some}
use Rattle.words.specs.Lists.{only, some_of}
use Rattle.words.specs.Order.{same, sorted}
use Rattle.stacks.specs.System.{Rule}
use Rattle.automata.specs.Automaton.{Automaton, Move, Entry, entry_of}
use Rattle.automata.specs.Derivation.{Result, result_key, result_of, derivations}

-- move m of the automaton is the result x
unfoldable pub is_result : Automaton → Result → Move → Bool
is_result A x m = entry_of A x.control m.state && same (result_key (result_of A m)) (result_key x)

-- the result is held by the automaton
unfoldable pub held : Automaton → Result → Bool
held A x = some_of (is_result A x) A.moves

-- entry e is [p,S]
unfoldable pub is_entry : ℕ → ℕ → Entry → Bool
is_entry p S e = eqb e.control p && eqb e.S S

-- the number of entry [p,S], which is the next new number where [p,S] is not there
unfoldable pub entry_number : ℕ → ℕ → List Entry → ℕ
entry_number p S [] = 0
entry_number p S (e ∷ es) = elim (is_entry p S e) [ true ↦ 0 | false ↦ suc (entry_number p S es) ]

-- the entries with [p,S], appended where it is not there
unfoldable pub with_entry : ℕ → ℕ → List Entry → List Entry
with_entry p S [] = record { control = p; S = S } ∷ []
with_entry p S (e ∷ es) = elim (is_entry p S e) [ true ↦ e ∷ es | false ↦ e ∷ with_entry p S es ]

-- The automaton with one result more, as the last move. "Entries found by saturation are never final": the final words stay.
unfoldable pub add : Automaton → Result → Automaton
add A x =
    record {
      J = A.J;
      final1 = A.final1;
      final2 = A.final2;
      inner = A.inner;
      entries = with_entry x.control x.S A.entries;
      moves = A.moves
          ++ (record {
            state = A.J + entry_number x.control x.S A.entries;
            symbol = x.symbol;
            order = x.order;
            B = x.B;
            R = x.R;
          } ∷ []);
    }

-- the automaton with these results more, one after another
unfoldable pub add_all : Automaton → List Result → Automaton
add_all A [] = A
add_all A (x ∷ xs) = add_all (add A x) xs

-- "New entries are numbered by (p, S), sets compared as unsigned words; new moves are appended by (p, S, symbol, order, B, R)": the
-- results that are not yet held, each once, in that order. An entry is new where the first of its moves comes.
unfoldable pub extend : Automaton → List Result → Automaton
extend A xs = add_all A (sorted result_key (only (λ x. not (held A x)) xs))

module _ (rules : List Rule) where
  unfoldable pub results : Automaton → List Result
  results A = map (λ d. d.result) (derivations A rules)

  -- "A round adds every result of the earlier rounds that is not yet held."
  unfoldable pub round : Automaton → Automaton
  round A = extend A (results A)

  -- "Round 0 is the case's moves in file order": the table after n rounds, without bound.
  unfoldable pub table_after : Automaton → ℕ → Automaton
  table_after A zero = A
  table_after A (suc n) = round (table_after A n)

  -- "Round n + 1 would add a move" to this table, that after n rounds; otherwise there is "nothing left to add".
  unfoldable pub adds_move : Automaton → Bool
  adds_move A = not (eqb (length (round A).moves) (length A.moves))

-- the numbers of moves and entries
pub record Size : Type 0 where
  pub moves : ℕ
  pub entries : ℕ

unfoldable pub size_of : Automaton → Size
size_of A = record { moves = length A.moves; entries = length A.entries }

-- Not 9: "more moves than lent or than 1,024, more entries than lent, or more than 64 order-1 states".
unfoldable pub within : Size → Automaton → Bool
within lent A =
    leb (length A.moves) (min lent.moves 1024)
    && leb (length A.entries) lent.entries
    && leb (A.J + length A.entries) 64

-- a table saturated up to some round, with its sizes after round 0, 1 and so on to the last round run that added a move
pub record Saturated : Type 0 where
  pub table : Automaton
  pub sizes : List Size

module _ (rules : List Rule) (lent : Size) where
  -- "The work ends when a round adds none", or when the rounds asked for are run: from the table after some round, with the sizes before it, at
  -- most n rounds more. There is no table where one of these rounds passes a limit.
  unfoldable pub saturate_from : ℕ → List Size → Automaton → Option Saturated
  saturate_from zero sizes A = elim (within lent A) [ true ↦ some (record { table = A; sizes = sizes ++ (size_of A ∷ []) }) | false ↦ none ]
  saturate_from (suc n) sizes A =
      let next : Automaton = round rules A in
      let done : List Size = sizes ++ (size_of A ∷ []) in
      elim (within lent A) [
        | true ↦ elim (eqb (length next.moves) (length A.moves)) [
          | true ↦ some (record { table = A; sizes = done })
          | false ↦ saturate_from n done next
        ]
        | false ↦ none
      ]

  -- The table of an own automaton after at most n rounds, or none where it passes a limit.
  unfoldable pub saturate : ℕ → Automaton → Option Saturated
  saturate n A = saturate_from n [] A

-- All rounds: each round but the last adds a move, so that with as many rounds a table has no more to add, or more than 1,024 moves.
abbrev pub all_rounds : ℕ
all_rounds = 1025

-- "The rounds that added something"
unfoldable pub rounds_added : Saturated → ℕ
rounds_added T = length T.sizes - 1

-- ---- the table before a move's round

-- the first so many moves and entries
unfoldable pub up_to : Size → Automaton → Automaton
up_to z A =
    record {
      J = A.J;
      final1 = A.final1;
      final2 = A.final2;
      inner = A.inner;
      entries = take z.entries A.entries;
      moves = take z.moves A.moves;
    }

-- the last of the sizes z, zs that has no more than i moves, or z
unfoldable pub last_up_to : Size → List Size → ℕ → Size
last_up_to z [] i = z
last_up_to z (y ∷ ys) i = elim (leb y.moves i) [ true ↦ last_up_to y ys i | false ↦ z ]

-- "from earlier rounds": the table before the round of move i
unfoldable pub before : Saturated → ℕ → Automaton
before T i = up_to (last_up_to (record { moves = 0; entries = 0 }) T.sizes i) T.table

-- the round of move i, by the sizes after round 0, 1 and so on: as many of them, from the first, have no more than i moves
unfoldable pub round_of : List Size → ℕ → ℕ
round_of [] i = 0
round_of (z ∷ zs) i = elim (leb z.moves i) [ true ↦ suc (round_of zs i) | false ↦ 0 ]

-- the number of moves of round 0
unfoldable pub own_moves : List Size → ℕ
own_moves [] = 0
own_moves (z ∷ zs) = z.moves
