-- What the premises that are passed over give is held.
-- Assumes nothing.
use Rattle.std.specs.Prelude.{ℕ, ◌+◌, ◌%◌, ◌^◌, ◌≤◌, ◌<◌, Bool, true, false, ◌||◌, ◌&&◌, ◌≡◌, ◌⊎◌, leb, ltb}
use Rattle.std.proofs.lemmas.Bool.{false≢true}
use Rattle.std.proofs.Math.Path.{refl, ap, sym, subst}
use Rattle.std.proofs.Common.{◌∙◌, inl, inr, arith}
use Rattle.std.proofs.Math.Logic.{⊎_elim}
use mathlib.Core.List.{List, Memᴰ}
use Rattle.std.proofs.Math.ListN.{length}
use Rattle.std.proofs.Math.Dec.{eqb}
use borrow.Author.Tests.{eqb-true, leb-true, leb-false, ltb-false}
use Rattle.words.specs.Sets.{member}
use Rattle.words.proofs.Sets.Laws.{Has, has_empty, has_below}
use Rattle.words.specs.Lists.Laws.{places_out}
use Rattle.words.specs.Laws.Tests.{by_test, and_left}
use Rattle.automata.specs.Automaton.{Automaton, Move, no_move, move_at, entry_of, entry_set}
use Rattle.automata.specs.Automaton.Laws.{length_edges}
use Rattle.automata.specs.Derivation.{control_moves}
use Rattle.automata.specs.Saturation.{up_to}
use Rattle.automata.proofs.Saturation.Laws.{up_to_extends}
use Rattle.tables.specs.declared.Table.{Table}
use Rattle.tables.specs.Rows.{row_at, rows_in}
use Rattle.tables.specs.Rows.Laws.{length_rows_in}
use Rattle.tables.specs.Layouts.{move_row, entry_row}
use Rattle.tables.specs.Held.{automaton_of}
use Rattle.tables.specs.Held.Laws.{row_move}
use Rattle.offers.specs.Offers.{AllHeld}
use Rattle.readings.specs.declared.Before.{Before}
use Rattle.readings.specs.declared.Goal.{Goal}
use Rattle.readings.specs.Before.{table_before}
use Rattle.readings.specs.Gathering.{CanCollect, CollectsAll}
use Rattle.round_news.specs.News.{HasSymbols, NoneHas}
use Rattle.premises.specs.declared.MoveUse.{MoveUse}
use Rattle.premises.specs.declared.MoveUse.TheVariants.{Rewritten, Pushed1, Pushed2, Copied}
use Rattle.premises.specs.declared.Source.{Source}
use Rattle.premises.specs.Premises.{premise_results, moves_results, source_gives}
use Rattle.premises.specs.Steps.Laws.{move_offers, MovesUpTo, moves_past}
use Rattle.premises.specs.Settled.{SettledBy, SourceHeld}
use Rattle.premises.specs.Settled.Laws.{premise_same, length_moves, length_entries}
use Rattle.premises.specs.Settled.Known.{premise_known, there}
use Rattle.control_moves.specs.First.{reads_new, first_move, settled_on, HeldBelow}

-- ---- an old premise

module _ (A : Automaton) (t : Before) (p a : ℕ) (k : MoveUse) (b q : ℕ) (s : SettledBy A t (moves_results (table_before t A) p a k b q)) where
  -- what an old premise gives now, where nothing is new for its reading
  premise_held : (i : ℕ) → i < t.moves → Memᴰ i (control_moves A q b)
      → ((n : ℕ) → n < length A.moves → (move_at A n).symbol ≡ a → n < t.moves) → (k ≡ Copied → length A.entries ≤ t.entries)
      → AllHeld A (premise_results A p a k (entry_set A (move_at A i).state) (move_at A i))
  unfolding up_to
  premise_held i l m old few =
      record {
        all_held = λ x h. (premise_known A t p a k b q s i l m).all_held x
            (premise_same (up_to_extends (record { moves = t.moves; entries = t.entries }) A) p a (λ n c d. let e = length_moves A t s in let o = old n c d in omega arith) k
            (entry_set A (move_at A i).state) (move_at A i)
            (λ c. let f = few c in let e = length_entries A t s in let u = s.entries_before in
            let v = length_edges A in let w = length_edges (table_before t A) in omega (arith, f, e, u, v, w)) h);
      }

-- the states that have no newer move on the goal's symbol
pub source_held : (z : Table) (inner entries moves : List ℕ) (to to' : Goal) (from : Source) (s : ℕ)
    → SettledBy (automaton_of z inner entries moves) to.before (source_gives to from (table_before to.before (automaton_of z inner entries moves)))
    → NoneHas moves to.before.moves z.moves to.symbol s → s < 2 ^ 64 → to' ≡ settled_on to s → SourceHeld (automaton_of z inner entries moves) to' from
source_held z inner entries moves to to' from s h none small e =
    let len : length (rows_in move_row z.moves moves) ≡ z.moves = length_rows_in move_row z.moves moves in
    rw e (record {
      settled_by = record {
        moves_before = h.moves_before;
        entries_before = h.entries_before;
        states_before = h.states_before;
        none_before = h.none_before;
        held_before = h.held_before;
      };
      settles = record {
        moves_before = h.moves_before;
        entries_before = h.entries_before;
        settles = λ i l c y d.
            let l' : i < z.moves = omega arith in
            let r : move_at (automaton_of z inner entries moves) i ≡ row_at move_row moves i = sym (row_move z inner entries moves i (row_at move_row moves i) l' refl) in
            let st : Has s (row_at move_row moves i).state = subst (λ (n : Move). Has s n.state) r d in
            none.none_has i l l' (ap (λ (n : Move). n.symbol) (sym r) ∙ y) (has_below 64 small st) st;
      };
    })

-- nothing is new for the reading of an old premise
quiet_cases : (k : MoveUse) (moves entries : Bool) → reads_new k moves entries ≡ false → (k ≡ Rewritten) ⊎ ((moves ≡ false) × (k ≡ Copied → entries ≡ false))
unfolding reads_new
quiet_cases Rewritten moves entries f = inl refl
quiet_cases Pushed1 moves entries f = inr (f, λ c. let z : ◌≡◌ {A = ℕ} 0 1 = cc in absurd (omega arith))
quiet_cases Pushed2 moves entries f = inr (f, λ c. let z : ◌≡◌ {A = ℕ} 0 1 = cc in absurd (omega arith))
quiet_cases Copied true entries f = absurd (false≢true (sym f))
quiet_cases Copied false entries f = inr (refl, λ c. f)

-- ---- the premises that are passed over

module _ (z : Table) (inner entries moves : List ℕ) (to : Goal) (from : Source) (symbols : ℕ)
    (s : SettledBy (automaton_of z inner entries moves) to.before (source_gives to from (table_before to.before (automaton_of z inner entries moves))))
    (news : HasSymbols moves to.before.moves z.moves symbols) where
  -- a symbol that no newer move has
  old_symbol : (c : ℕ) → member symbols (c % 64) ≡ false → (i : ℕ) → i < length (automaton_of z inner entries moves).moves
      → (move_at (automaton_of z inner entries moves) i).symbol ≡ c → i < to.before.moves
  old_symbol c f i l e =
      let len : length (rows_in move_row z.moves moves) ≡ z.moves = length_rows_in move_row z.moves moves in
      let d : i < z.moves = omega arith in
      by_test (leb to.before.moves i)
      (λ v. absurd (false≢true (sym f
      ∙ ap (λ (n : ℕ). member symbols (n % 64)) (sym e ∙ ap (λ (y : Move). y.symbol) (sym (row_move z inner entries moves i (row_at move_row moves i) d refl)))
      ∙ (news.has_symbol i (leb-true to.before.moves i v) d).has)))
      (λ v. leb-false to.before.moves i v)

  -- what an old premise gives, where nothing is new for its reading
  quiet_held : reads_new from.kind (member symbols (to.symbol % 64)) (ltb to.before.entries z.entries) ≡ false
      → (i : ℕ) → i < to.before.moves → Memᴰ i (control_moves (automaton_of z inner entries moves) from.control from.symbol)
      → AllHeld (automaton_of z inner entries moves)
      (premise_results (automaton_of z inner entries moves) to.control to.symbol from.kind (entry_set (automaton_of z inner entries moves) (move_at (automaton_of z inner entries moves) i).state) (move_at (automaton_of z inner entries moves) i))
  unfolding premise_results
  quiet_held f i l m =
      let A : Automaton = automaton_of z inner entries moves in
      let E : Automaton = table_before to.before A in
      let len : length (rows_in entry_row z.entries entries) ≡ z.entries = length_rows_in entry_row z.entries entries in
      ⊎_elim
      (λ e.
      let h : AllHeld A (premise_results E to.control to.symbol Rewritten (entry_set A (move_at A i).state) (move_at A i)) =
      subst (λ (u : MoveUse). AllHeld A (premise_results E to.control to.symbol u (entry_set A (move_at A i).state) (move_at A i))) e (premise_known A to.before to.control to.symbol from.kind from.symbol from.control s i l m) in
      subst (λ (u : MoveUse). AllHeld A (premise_results A to.control to.symbol u (entry_set A (move_at A i).state) (move_at A i))) (sym e) h)
      (λ e. premise_held A to.before to.control to.symbol from.kind from.symbol from.control s i l m (old_symbol to.symbol e.0)
      (λ c. by_test (ltb to.before.entries z.entries)
      (λ v. absurd (false≢true (sym (e.1 c) ∙ v)))
      (λ v. let g : z.entries ≤ to.before.entries = ltb-false to.before.entries z.entries v in omega arith)))
      (quiet_cases from.kind (member symbols (to.symbol % 64)) (ltb to.before.entries z.entries) f)

  pub held_below : (reads : Bool) (first : ℕ) → reads ≡ reads_new from.kind (member symbols (to.symbol % 64)) (ltb to.before.entries z.entries) → reads ≡ false
      → first ≡ first_move (member symbols (from.symbol % 64)) to.before.moves z.moves → HeldBelow (automaton_of z inner entries moves) to from first
  unfolding first_move control_moves move_at
  held_below reads first e v f = by_test (member symbols (from.symbol % 64))
      (λ u. let n : first ≡ to.before.moves = f ∙ rw (first_move, u) refl in
      let c = s.moves_before in
      record { within = omega (arith, c, n); below = λ i l m. quiet_held (sym e ∙ v) i (omega (arith, l, n)) m })
      (λ u. let n : first ≡ z.moves = f ∙ rw (first_move, u) refl in
      let len : length (rows_in move_row z.moves moves) ≡ z.moves = length_rows_in move_row z.moves moves in
      record {
        within = omega (arith, len, n);
        below = λ i l m.
            let w = places_out (λ y. eqb y.symbol from.symbol && entry_of (automaton_of z inner entries moves) from.control y.state) (rows_in move_row z.moves moves) no_move m in
            quiet_held (sym e ∙ v) i (old_symbol from.symbol u i w.0 (eqb-true _ _ (and_left (eqb (move_at (automaton_of z inner entries moves) i).symbol from.symbol) _ w.1))) m;
      })

-- the goal with its settled states

pub settled_can : (A : Automaton) (to to' : Goal) (s : ℕ) {n : ℕ} {t memo : List ℕ} → to' ≡ settled_on to s → CanCollect A to.room n t memo → CanCollect A to'.room n t memo
settled_can A to to' s {n} {t} {memo} e c = rw e c

pub settled_collects : (A : Automaton) (to to' : Goal) (from : Source) (s : ℕ) {n r : ℕ} {t t' memo : List ℕ} → to' ≡ settled_on to s → CollectsAll A to'.room n t (source_gives to' from) r t' memo
    → CollectsAll A to.room n t (source_gives to from) r t' memo
settled_collects A to to' from s {n} {r} {t} {t'} {memo} e c = subst (λ (x : Goal). CollectsAll A x.room n t (source_gives x from) r t' memo) e c

-- what the moves below number `first` give need not be offered
pub below_past : (z : Table) (inner entries moves : List ℕ) (to : Goal) (from : Source) (first room n : ℕ) (t : List ℕ) → HeldBelow (automaton_of z inner entries moves) to from first → n ≤ room + 1
    → MovesUpTo z inner entries moves to.control to.symbol from.kind from.symbol from.control room n t first n t
unfolding move_offers
below_past z inner entries moves to from first room n t h m =
    let len : length (rows_in move_row z.moves moves) ≡ z.moves = length_rows_in move_row z.moves moves in
    let l : first ≤ z.moves = let w = h.within in omega (arith, w, len) in
    moves_past z inner entries moves to.control to.symbol from.kind from.symbol from.control room n t first m l
    (λ i b c. h.below i b (there z inner entries moves to.control to.symbol from.kind from.symbol from.control i (omega (arith, b, l)) c))

-- no state is settled
pub none_settled : (moves : List ℕ) (from to a : ℕ) → NoneHas moves from to a 0
none_settled moves from to a = record { none_has = λ i b c y l h. has_empty h }

-- where none is known to be
pub unsettled_held : (z : Table) (inner entries moves : List ℕ) (to : Goal) (from : Source) → to.before.settled ≡ 0
    → SettledBy (automaton_of z inner entries moves) to.before (source_gives to from (table_before to.before (automaton_of z inner entries moves))) → SourceHeld (automaton_of z inner entries moves) to from
unsettled_held z inner entries moves to from e h =
    source_held z inner entries moves to to from 0 h (none_settled moves to.before.moves z.moves to.symbol) (omega arith) (ap (settled_on to) e)

-- ---- in the code

pub reads_rewritten : (k : MoveUse) (moves entries : Bool) → k ≡ Rewritten → false ≡ reads_new k moves entries
unfolding reads_new
reads_rewritten k moves entries e = sym (ap (λ (u : MoveUse). reads_new u moves entries) e)

module _ (k : MoveUse) (moves entries r : Bool) where
  pub reads_pushed1 : k ≡ Pushed1 → r ≡ moves → r ≡ reads_new k moves entries
  unfolding reads_new
  reads_pushed1 e f = f ∙ sym (ap (λ (u : MoveUse). reads_new u moves entries) e)

  pub reads_pushed2 : k ≡ Pushed2 → r ≡ moves → r ≡ reads_new k moves entries
  unfolding reads_new
  reads_pushed2 e f = f ∙ sym (ap (λ (u : MoveUse). reads_new u moves entries) e)

  pub reads_moves_lem : k ≡ Copied → r ≡ moves → r ≡ true → true ≡ reads_new k moves entries
  unfolding reads_new
  reads_moves_lem e f t = sym (ap (λ (u : MoveUse). reads_new u moves entries) e ∙ ap (λ (b : Bool). b || entries) (sym f ∙ t))

  pub reads_entries : k ≡ Copied → r ≡ moves → r ≡ false → entries ≡ reads_new k moves entries
  unfolding reads_new
  reads_entries e f t = sym (ap (λ (u : MoveUse). reads_new u moves entries) e ∙ ap (λ (b : Bool). b || entries) (sym f ∙ t))

module _ (premises : Bool) (old n : ℕ) (r : Bool) where
  pub first_newer : r ≡ premises → r ≡ true → old ≡ first_move premises old n
  unfolding first_move
  first_newer f t = rw (first_move, sym f ∙ t) refl

  pub first_none : r ≡ premises → r ≡ false → n ≡ first_move premises old n
  unfolding first_move
  first_none f t = rw (first_move, sym f ∙ t) refl
