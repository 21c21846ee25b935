-- Results added keep it so that every move is one of a state that exists; and then a state that does not exist has no moves.
-- Assumes nothing.
use Rattle.std.specs.Prelude.{ℕ, ◌+◌, ◌≤◌, ◌<◌, ◌≡◌, List, [], ◌∷◌, length}
use Rattle.std.proofs.Common.{sym, subst, ⊎_elim, arith}
use Rattle.words.specs.Lists.Laws.{last_or_before}
use Rattle.automata.specs.Automaton.{Automaton, Move, no_move, move_at}
use Rattle.automata.specs.Facts.{states}
use Rattle.automata.specs.Derivation.{Result}
use Rattle.automata.specs.Saturation.{add, add_all, with_entry}
use Rattle.rounds.specs.Entries.{entry_number_below, with_entry_grows}
use Rattle.rounds.specs.Added.{new_move}
use Rattle.services.specs.Memory.{move_count}
use Rattle.services.specs.Memory.Counts.{count_none}
use Rattle.tables.specs.declared.Table.{Table}
use Rattle.tables.specs.Held.{automaton_of}
use Rattle.added_results.specs.Adding.{StatesExist}

add_exist : (A : Automaton) (x : Result) → StatesExist A → StatesExist (add A x)
unfolding add move_at new_move
add_exist A x h =
    record {
      exists = λ i b.
          let grow = with_entry_grows x.control x.S A.entries in
          let new = entry_number_below x.control x.S A.entries in
          ⊎_elim
          (λ w. let old = h.exists i w.0 in
          subst (λ (m : Move). m.state < A.J + length (with_entry x.control x.S A.entries)) (sym w.1) (omega (arith, old, grow)))
          (λ w. subst (λ (m : Move). m.state < A.J + length (with_entry x.control x.S A.entries)) (sym w.1) (omega (arith, new)))
          (last_or_before A.moves (new_move A x) i no_move b);
    }

pub add_all_exist : (A : Automaton) (xs : List Result) → StatesExist A → StatesExist (add_all A xs)
unfolding add_all
add_all_exist A [] h = h
add_all_exist A (x ∷ xs) h = add_all_exist (add A x) xs (add_exist A x h)

-- the inner edges do not matter
pub exist_any : (z : Table) (inner inner' entries moves : List ℕ) → StatesExist (automaton_of z inner entries moves) → StatesExist (automaton_of z inner' entries moves)
unfolding move_at
exist_any z inner inner' entries moves h = record { exists = h.exists }

pub none_past : (A : Automaton) (r : ℕ) → StatesExist A → states A ≤ r → move_count A.moves r ≡ 0
unfolding move_at
none_past A r h l = count_none A.moves r (λ i b e. let s = h.exists i b in omega (arith, s, e))
