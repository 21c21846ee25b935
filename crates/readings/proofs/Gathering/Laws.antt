-- What was offered, read and collected: with inner edges, and whatever they are.
-- Assumes nothing.
use Rattle.std.specs.Prelude.{ℕ, ◌+◌, ◌*◌, ◌≤◌, Bool, true, ◌≡◌, refl, List, ◌∷◌, length}
use Rattle.std.proofs.Common.{sym, subst}
use Rattle.sets.specs.Without.{without}
use Rattle.automata.specs.Automaton.{Automaton}
use Rattle.words.specs.Sets.{member, members}
use Rattle.words.specs.Order.{same}
use Rattle.automata.specs.Derivation.{Result, Joins}
use Rattle.tables.specs.declared.Table.{Table}
use Rattle.tables.specs.Held.{automaton_of, table_of}
use Rattle.tables.specs.Rows.{row_at, rows_in, put_row}
use Rattle.tables.specs.Layouts.{move_row}
use Rattle.memo_table.specs.declared.State.{State}
use Rattle.memo_table.specs.States.{state_words, read_state}
use Rattle.memo_table.specs.Layout.{state_row}
use Rattle.joins.specs.Joining.{the_joins}
use Rattle.offers.specs.Offers.{Collects}
use Rattle.offers.specs.Offers.Laws.{collects_same}
use Rattle.readings.specs.declared.Goal.{Goal}
use Rattle.readings.specs.Before.{table_before, Known, HeldBefore}
use Rattle.readings.specs.Readings.{reads_to, ByMoves}
use Rattle.readings.specs.Readings.Inner.{collects_edges, collects_table, reads_alone}
use Rattle.readings.specs.Turns.Laws.{read_left}
use Rattle.readings.specs.Memo.Laws.{read_gives, read_not_later, memo_later, memo_found, memo_more}
use Rattle.readings.specs.Gathering.{CanCollect, CollectsAll, MemoKept, CanRead, ReadsAll}

-- ---- with the inner edges

-- nothing had to be collected
pub nothing_collected : (A : Automaton) (room n : ℕ) (t memo : List ℕ) (gives : Automaton → List Result) → CanCollect A room n t memo → Collects A room n t (gives A) n t
    → CollectsAll A room n t gives n t memo
nothing_collected A room n t memo gives h c = record { collects = c; memo_holds = h.memo_holds }

-- the same results, given otherwise
module _ (f g : Automaton → List Result) where
  pub collects_all_same : {A : Automaton} {room n r : ℕ} {t t' memo : List ℕ} → f A ≡ g A → CollectsAll A room n t f r t' memo → CollectsAll A room n t g r t' memo
  collects_all_same e c = record { collects = collects_same e c.collects; memo_holds = c.memo_holds }

  pub reads_all_same : (z : Table) (entries moves : List ℕ) {room n r : ℕ} {t t' memo memo' : List ℕ} → f (table_of z entries moves) ≡ g (table_of z entries moves)
      → ReadsAll z entries moves room n t memo f r t' memo' → ReadsAll z entries moves room n t memo g r t' memo'
  reads_all_same z entries moves e c = record { collects = collects_same e c.collects; memo_kept = c.memo_kept }

  pub held_same : {A : Automaton} {to : Goal} {new : Bool} → f (table_before to.before A) ≡ g (table_before to.before A) → HeldBefore A to new f → HeldBefore A to new g
  held_same {A} {to} {new} e h = record { settles = h.settles; known = subst (Known A new) e h.known }

-- ---- whatever the inner edges

module _ (z : Table) (inner entries moves : List ℕ) (room n : ℕ) (t memo : List ℕ) (h : CanCollect (automaton_of z inner entries moves) room n t memo) where
  pub can_read : CanRead z entries moves room n t memo
  can_read = record { stands = h.stands; inner = inner; memo_holds = h.memo_holds }

  module _ (gives : Automaton → List Result) (r : ℕ) (t' : List ℕ) where
    -- what was read does not depend on the inner edges
    pub read_collected : (memo' : List ℕ) → ByMoves gives → ReadsAll z entries moves room n t memo gives r t' memo' → CollectsAll (automaton_of z inner entries moves) room n t gives r t' memo'
    read_collected memo' alone c =
        record {
          collects = collects_same (alone (table_of z entries moves) (automaton_of z inner entries moves) refl) (collects_edges z inner entries moves c.collects);
          memo_holds = c.memo_kept inner h.memo_holds;
        }

    -- nor what was offered
    pub offer_collected : (xs : List Result) → xs ≡ gives (automaton_of z inner entries moves) → Collects (table_of z entries moves) room n t xs r t'
        → CollectsAll (automaton_of z inner entries moves) room n t gives r t' memo
    offer_collected xs e c =
        let d = collects_edges z inner entries moves c in
        record { collects = collects_same e d; memo_holds = memo_later h.memo_holds d }

module _ (z : Table) (entries moves : List ℕ) (room n : ℕ) (t memo : List ℕ) (gives : Automaton → List Result) where
  pub nothing_read : Collects (table_of z entries moves) room n t (gives (table_of z entries moves)) n t → ReadsAll z entries moves room n t memo gives n t memo
  nothing_read c = record { collects = c; memo_kept = λ inner h. h }

  pub offer_read : (r : ℕ) (t' : List ℕ) (xs : List Result) → Collects (table_of z entries moves) room n t xs r t'
      → Collects (table_of z entries moves) room n t (gives (table_of z entries moves)) r t' → ReadsAll z entries moves room n t memo gives r t' memo
  offer_read r t' xs c d = record { collects = d; memo_kept = λ inner h. memo_later h (collects_edges z inner entries moves c) }

-- one member of the states left, and the others
pub read_first : (z : Table) (entries moves : List ℕ) (room n r : ℕ) (t t' memo memo' : List ℕ) (to : Goal) (S : ℕ) (j : Joins) (left q others : ℕ) → member left q ≡ true → others ≡ without left q
    → ReadsAll z entries moves room n t memo (reads_to to S (q ∷ members others) j) r t' memo' → ReadsAll z entries moves room n t memo (reads_to to S (members left) j) r t' memo'
read_first z entries moves room n r t t' memo memo' to S j left q others m e c =
    record { collects = read_left (table_of z entries moves) to.control to.symbol S j left q others m e c.collects; memo_kept = c.memo_kept }

module _ (z : Table) (entries moves : List ℕ) (room n : ℕ) (t memo : List ℕ) (to : Goal) (S left order B R k : ℕ) (x : State) (i : ℕ)
    (l : length (rows_in move_row z.moves moves) ≡ k) (e : x ≡ read_state k to.control to.symbol S left order B R) where
  -- the states left stand in a row
  pub read_found : (found : Bool) → CanRead z entries moves room n t memo → i * 9 + 9 ≤ length memo → found ≡ same (state_words (row_at state_row memo i)) (state_words x) → found ≡ true
      → ReadsAll z entries moves room n t memo (reads_to to S (members left) (the_joins order B R)) n t memo
  read_found found h b f g =
      let A : Automaton = automaton_of z h.inner entries moves in
      nothing_read z entries moves room n t memo (reads_to to S (members left) (the_joins order B R))
      (collects_same (sym (reads_alone to S (members left) (the_joins order B R) (table_of z entries moves) A refl))
      (collects_table z h.inner entries moves
      (memo_found memo x i found _ (read_gives A x k to.control to.symbol S left order B R l e) h.memo_holds h.stands.number b f g)))

  -- the states left, worked through, may be put into a row
  pub read_noted : (r : ℕ) (t' memo' memo'' : List ℕ) → ReadsAll z entries moves room n t memo (reads_to to S (members left) (the_joins order B R)) r t' memo' → i * 9 + 9 ≤ length memo'
      → memo'' ≡ put_row state_row memo' i x → ReadsAll z entries moves room n t memo (reads_to to S (members left) (the_joins order B R)) r t' memo''
  read_noted r t' memo' memo'' c b q =
      record {
        collects = c.collects;
        memo_kept = λ inner h.
            let A : Automaton = automaton_of z inner entries moves in
            let all = collects_same (reads_alone to S (members left) (the_joins order B R) (table_of z entries moves) A refl) (collects_edges z inner entries moves c.collects) in
            memo_more memo' memo'' x i _ (read_not_later A x k to.control to.symbol S left order B R l e) (read_gives A x k to.control to.symbol S left order B R l e) all
            (c.memo_kept inner h) b q;
      }

-- a loop goes on
module _ (z : Table) (entries moves : List ℕ) {room n k : ℕ} {t t' memo memo' : List ℕ} (f : MemoKept z entries moves room n t memo k t' memo') where
  pub kept_on : {k' k'' : ℕ} {t'' t''' memo'' memo''' : List ℕ} → MemoKept z entries moves room k t' memo' k' t'' memo'' → memo''' ≡ memo'' → t''' ≡ t'' → k'' ≡ k'
      → MemoKept z entries moves room n t memo k'' t''' memo'''
  kept_on g em et ek inner h = rw (em, et, ek) (g inner (f inner h))

  pub kept_same : {k' : ℕ} {t'' memo'' : List ℕ} → memo'' ≡ memo' → t'' ≡ t' → k' ≡ k → MemoKept z entries moves room n t memo k' t'' memo''
  kept_same em et ek inner h = rw (em, et, ek) (f inner h)
