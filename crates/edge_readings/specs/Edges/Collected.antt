-- What the choices of edges give, collected: the first of the states left, no state left, and states that stand in the memo table then.
-- Assumes nothing.
use Rattle.std.specs.Prelude.{ℕ, ◌+◌, ◌*◌, ◌≤◌, ◌≡◌, List, ◌∷◌, length}
use Rattle.std.proofs.Common.{ap, sym, ◌∙◌, subst}
use Rattle.automata.specs.Automaton.{Automaton}
use Rattle.words.specs.Sets.{members}
use Rattle.automata.specs.Derivation.{Joins}
use Rattle.tables.specs.Rows.{put_row}
use Rattle.memo_table.specs.declared.State.{State}
use Rattle.memo_table.specs.States.{edges_state}
use Rattle.memo_table.specs.Layout.{state_row}
use Rattle.joins.specs.Joining.{the_joins}
use Rattle.offers.specs.Offers.Laws.{collects_same}
use Rattle.readings.specs.declared.Goal.{Goal}
use Rattle.readings.specs.Readings.{reads_to, edges_to}
use Rattle.edge_readings.specs.Edges.Laws.{edges_end}
use Rattle.readings.specs.Memo.Laws.{edges_gives, edges_not_later, memo_more}
use Rattle.readings.specs.Gathering.{CollectsAll}

module _ (A : Automaton) (room n r : ℕ) (t t' memo : List ℕ) (to : Goal) (S : ℕ) (j : Joins) (N left : ℕ) where
  -- the first of the states left, and the others
  pub all_first : (q : ℕ) (qs : List ℕ) → members left ≡ q ∷ qs → CollectsAll A room n t (edges_to to S j (q ∷ qs) N) r t' memo → CollectsAll A room n t (edges_to to S j (members left) N) r t' memo
  all_first q qs e c = subst (λ (l : List ℕ). CollectsAll A room n t (edges_to to S j l N) r t' memo) (sym e) c

  -- no state is left
  pub all_end : left ≡ 0 → CollectsAll A room n t (reads_to to S (members N) j) r t' memo → CollectsAll A room n t (edges_to to S j (members left) N) r t' memo
  all_end e c = record { collects = collects_same (edges_end A to.control to.symbol j N S left e) c.collects; memo_holds = c.memo_holds }

  -- the states left, worked through, may be put into a row
  pub all_noted : (memo' : List ℕ) (x : State) (i k order B R : ℕ) → length A.moves ≡ k → j ≡ the_joins order B R → x ≡ edges_state k to.control to.symbol S left N order B R
      → CollectsAll A room n t (edges_to to S j (members left) N) r t' memo → i * 9 + 9 ≤ length memo → memo' ≡ put_row state_row memo i x → CollectsAll A room n t (edges_to to S j (members left) N) r t' memo'
  all_noted memo' x i k order B R l f e c b q =
      let gives = edges_gives A x k to.control to.symbol S left order B R l N e ∙ ap (λ (y : Joins). edges_to to S y (members left) N A) (sym f) in
      record {
        collects = c.collects;
        memo_holds = memo_more memo memo' x i (edges_to to S j (members left) N A) (edges_not_later A x k to.control to.symbol S left order B R l N e) gives c.collects c.memo_holds b q;
      }
