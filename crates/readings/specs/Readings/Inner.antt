-- What does not depend on the inner edges.
-- Assumes nothing.
use Rattle.std.specs.Prelude.{ℕ, Bool, ◌&&◌, ◌≡◌, List, [], ◌∷◌, get_or, eqb}
use Rattle.std.proofs.Math.Path.{refl}
use Rattle.std.proofs.Common.{ap, sym, ◌∙◌, subst}
use Rattle.words.specs.Lists.{each, places}
use Rattle.automata.specs.Automaton.{Automaton, no_move, move_at, moves_of, entry_at, entry_of, entry_control, entry_set}
use Rattle.automata.specs.Derivation.{Result, Joins, join_move, result_of}
use Rattle.automata.specs.Saturation.{is_result, held, up_to}
use Rattle.tables.specs.declared.Table.{Table}
use Rattle.tables.specs.Held.{automaton_of, table_of}
use Rattle.tables.specs.Pending.{pending_in}
use Rattle.offers.specs.Offers.{AllHeld, Collects, offer_all}
use Rattle.readings.specs.Readings.{from_joins, read_results, reads_to, ByMoves}
use Rattle.readings.specs.declared.Goal.{Goal}
use Rattle.readings.specs.Before.{table_before, HeldBefore}

-- readings depend on the moves alone
pub read_moves_alone : (A B : Automaton) → A.moves ≡ B.moves → (p a S : ℕ) (rs : List ℕ) (j : Joins) → read_results A p a S rs j ≡ read_results B p a S rs j
unfolding read_results moves_of move_at
read_moves_alone A B e p a S [] j = refl
read_moves_alone A B e p a S (r ∷ rs) j = λ i. each (places (λ m. eqb m.state r && eqb m.symbol a) (e i))
    (λ n. from_joins (join_move j (get_or (e i) n no_move)) (λ k. read_moves_alone A B e p a S rs k i))

pub reads_alone : (to : Goal) (S : ℕ) (rs : List ℕ) (j : Joins) → ByMoves (reads_to to S rs j)
reads_alone to S rs j A B e = read_moves_alone A B e to.control to.symbol S rs j

module _ (z : Table) (inner entries moves : List ℕ) where
  held_edges : held (table_of z entries moves) ≡ held (automaton_of z inner entries moves)
  unfolding held is_result entry_of entry_at result_of entry_control entry_set
  held_edges = refl

  pub all_held_edges : (xs : List Result) → AllHeld (automaton_of z inner entries moves) xs → AllHeld (table_of z entries moves) xs
  all_held_edges xs h = record { all_held = λ x m. ap (λ (f : Result → Bool). f x) held_edges ∙ h.all_held x m }

  pub collects_edges : {room n r : ℕ} {t t' : List ℕ} {xs : List Result} → Collects (table_of z entries moves) room n t xs r t' → Collects (automaton_of z inner entries moves) room n t xs r t'
  collects_edges {room} {n} {t = t} {xs = xs} c =
      record { collected = c.collected ∙ ap (λ (h : Result → Bool). offer_all h room (pending_in room n t) xs) held_edges; number = c.number }

  pub collects_table : {room n r : ℕ} {t t' : List ℕ} {xs : List Result} → Collects (automaton_of z inner entries moves) room n t xs r t' → Collects (table_of z entries moves) room n t xs r t'
  collects_table {room} {n} {t = t} {xs = xs} c =
      record { collected = c.collected ∙ ap (λ (h : Result → Bool). offer_all h room (pending_in room n t) xs) (sym held_edges); number = c.number }

  -- what is held before, of what depends on the moves alone
  pub held_table : (to : Goal) (new : Bool) (gives : Automaton → List Result) → ByMoves gives → HeldBefore (automaton_of z inner entries moves) to new gives → HeldBefore (table_of z entries moves) to new gives
  unfolding up_to move_at
  held_table to new gives alone h =
      let same = alone (table_before to.before (automaton_of z inner entries moves)) (table_before to.before (table_of z entries moves)) refl in
      record {
        settles = record { moves_before = h.settles.moves_before; entries_before = h.settles.entries_before; settles = h.settles.settles };
        known = record { known = λ n. all_held_edges _ (subst (AllHeld (automaton_of z inner entries moves)) same (h.known.known n)) };
      }
