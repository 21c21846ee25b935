-- What a turn of the rounds leaves, and that turns lead from the first table to the end.
-- Assumes nothing.
use Prim.Native.Nat.{ℕ, suc, ◌+◌, ◌-◌, ◌*◌, ◌/◌, ◌≤◌, ◌<◌, min}
use Rattle.std.specs.Prelude.{Bool, ◌≡◌, ◌⊎◌, eqb, Option as Answer, Some, None}
use Rattle.std.specs.declared.ops.ControlFlow.TheVariants.{Continue, Break}
use Rattle.std.proofs.Math.Bool.{true, false}
use Rattle.std.proofs.Math.Path.{refl, ap, ap₂, sym, subst}
use Rattle.std.proofs.Common.{◌∙◌, subst₂, inl, inr}
use Rattle.std.proofs.Math.Option.{none, some}
use mathlib.Core.List.{List, [], ◌∷◌, ◌++◌}
use Rattle.std.proofs.Math.Nat.{min-le_left, min-le_right, le-min, sub-zero}
use native.Mathlib.Omega.{arith}
use Rattle.std.proofs.Math.ListN.{length}
use borrow.Author.Tests.{eqb-true, eqb-false, eq-eqb, ne_eqb}
use Rattle.words.specs.Laws.Tests.{by_test}
use Rattle.stacks.specs.System.{Rule}
use Rattle.automata.specs.Automaton.{Automaton}
use Rattle.automata.specs.Saturation.{Size, size_of, within, round, saturate, saturate_from, adds_move, rounds_added}
use Rattle.rounds.specs.Rounds.{round_extends, still_same, still_closed}
use Rattle.rounds.specs.Limits.{saturate_from_exceeds, saturate_from_ends, saturate_from_goes_on, saturate_from_stops, closed_nothing}
use Rattle.services.specs.Memory.{lent, entry_width}
use Rattle.tables.specs.declared.Table.{Table}
use Rattle.tables.specs.Rows.{first_of, rows_in, put_row}
use Rattle.tables.specs.Rows.Laws.{length_rows_in, put_more}
use Rattle.tables.specs.Layouts.{entry_row, move_row}
use Rattle.tables.specs.Held.{automaton_of}
use Rattle.move_index.specs.Keys.{ByState, ByWords}
use Rattle.readings.specs.Memo.{MemoUpTo}
use Rattle.results.specs.Collecting.{new_results}
use Rattle.added_results.specs.Adding.{Grows, StatesExist}
use Rattle.one_round.specs.Rounding.{Standing, Fits, Exceeds, Rounded}
use Rattle.one_round.specs.Rounding.Laws.{round_is}
use Rattle.saturation.specs.declared.Saturated.{Saturated as SaturatedWords}
use Rattle.saturation.specs.Prepared.Laws.{prepared_next}
use Rattle.saturation.specs.Running.{most_moves, most_entries, Given, EndsWith, EndsAs, Ends}
use Rattle.saturation.specs.Running.Laws.{fits_within, over_without}
use Rattle.saturation.specs.Sizes.{the_size}
use Rattle.saturation.specs.Layout.{size_row}
use Rattle.saturation.specs.Held.{saturated_in}
use Rattle.saturation.specs.Turns.{the_stopped, Turn, after_round, Underway, left_from, Follows, GoesOn, TurnLeaves}

-- the number of rounds of a table with k + 1 sizes
counted_rows : (A : Automaton) (k : ℕ) (sizes : List ℕ) → rounds_added (record { table = A; sizes = rows_in size_row (k + 1) sizes }) ≡ k
unfolding rounds_added
counted_rows A k sizes = let e = length_rows_in size_row (k + 1) sizes in omega arith

-- ---- what follows a round

pub after_over : (z : Table) (k : ℕ) → after_round z k None ≡ Break None
unfolding after_round
after_over z k = refl

module _ (z : Table) (k : ℕ) (next : Table) where
  pub after_still : next.moves ≡ z.moves → after_round z k (Some next) ≡ Break (Some (the_stopped next k false))
  unfolding after_round
  after_still e = rw (after_round, eq-eqb _ _ e) refl

  pub after_more : (next.moves ≡ z.moves → ⊥) → after_round z k (Some next) ≡ Continue next
  unfolding after_round
  after_more n = rw (after_round, ne_eqb _ _ n) refl

-- ---- the first table

pub underway_first : (inner : List ℕ) (rounds : ℕ) (z : Table) (entries moves : List ℕ) → Given z inner entries moves → Underway inner rounds z 0 entries moves
unfolding most_moves most_entries
underway_first inner rounds z entries moves g =
    let a : z.entries * entry_width ≤ length entries = g.entries_stand.entries_lent in
    let b : z.inner1 + z.entries ≤ 64 = g.entries_stand.states_few in
    let c : z.moves * 5 ≤ length moves = g.moves_stand.moves_lent in
    let d : z.moves ≤ 1024 = g.moves_few in
    let e : min (length entries / entry_width) (64 - z.inner1) ≤ length entries / entry_width = min-le_left (length entries / entry_width) (64 - z.inner1) in
    let f : min (length entries / entry_width) (64 - z.inner1) ≤ 64 - z.inner1 = min-le_right (length entries / entry_width) (64 - z.inner1) in
    let h : min (length moves / 5) 1024 ≤ length moves / 5 = min-le_left (length moves / 5) 1024 in
    record {
      standing = record {
        edges = g.edges;
        growing = record { entries_few = le-min (omega arith) (omega arith); entries_lent = omega arith; states_few = omega arith };
        moves_few = le-min (omega arith) d;
        moves_lent = omega arith;
        counts = g.counts;
      };
      asked = omega arith;
      count = omega arith;
    }

-- ---- the tables after k rounds

module _ (inner : List ℕ) (rounds : ℕ) (z : Table) (k : ℕ) (entries moves : List ℕ) (h : Underway inner rounds z k entries moves) where
  pub moves_small : z.moves ≤ 1024
  unfolding most_moves
  moves_small =
      let a : z.moves ≤ min (length moves / 5) 1024 = h.standing.moves_few in
      let b : min (length moves / 5) 1024 ≤ 1024 = min-le_right (length moves / 5) 1024 in
      omega arith

  pub row_left : k ≤ 1024
  row_left = let a : z.moves ≤ 1024 = moves_small in let b : k ≤ z.moves = h.count in omega arith

  states_small : z.inner1 ≤ 64
  states_small = let a : z.inner1 + most_entries (length entries) z.inner1 ≤ 64 = h.standing.growing.states_few in omega arith

  now_within : within (lent (length moves) (length entries)) (automaton_of z inner entries moves) ≡ true
  now_within =
      fits_within (length moves) (length entries) z.inner1 states_small (automaton_of z inner entries moves) refl
      (subst (λ (n : ℕ). n ≤ most_moves (length moves)) (sym (length_rows_in move_row z.moves moves)) h.standing.moves_few)
      (subst (λ (n : ℕ). n ≤ most_entries (length entries) z.inner1) (sym (length_rows_in entry_row z.entries entries)) h.standing.growing.entries_few)

module _ (rules : List Rule) (inner : List ℕ) (rounds : ℕ) where
  -- ---- from the first table on

  pub follows_none : (z : Table) (k : ℕ) (entries moves sizes : List ℕ) → Follows rules inner rounds z k entries moves sizes z k entries moves sizes
  follows_none z k entries moves sizes =
      record { left = refl; same_states = refl; entries_filled = λ x. x; moves_filled = λ x. x; entries_long = refl; moves_long = refl }

  module _ (z : Table) (k : ℕ) (entries moves sizes : List ℕ) (z₁ : Table) (k₁ : ℕ) (e₁ m₁ s₁ : List ℕ)
      (f : Follows rules inner rounds z k entries moves sizes z₁ k₁ e₁ m₁ s₁) where
    pub follows_more : (z₂ : Table) (k₂ : ℕ) (e₂ m₂ s₂ : List ℕ) → Follows rules inner rounds z₁ k₁ e₁ m₁ s₁ z₂ k₂ e₂ m₂ s₂
        → Follows rules inner rounds z k entries moves sizes z₂ k₂ e₂ m₂ s₂
    follows_more z₂ k₂ e₂ m₂ s₂ g =
        record {
          left = f.left ∙ g.left;
          same_states = g.same_states ∙ f.same_states;
          entries_filled = λ x. g.entries_filled (f.entries_filled x);
          moves_filled = λ x. g.moves_filled (f.moves_filled x);
          entries_long = g.entries_long ∙ f.entries_long;
          moves_long = g.moves_long ∙ f.moves_long;
        }

    -- the end of what is left to do there is the end of what is left to do here
    pub follows_end : (r : Answer SaturatedWords) (entries' moves' sizes' : List ℕ)
        → EndsAs rules inner (left_from rules inner rounds z₁ k₁ e₁ m₁ s₁) z₁ e₁ m₁ r entries' moves' sizes'
        → EndsAs rules inner (left_from rules inner rounds z k entries moves sizes) z entries moves r entries' moves' sizes'
    follows_end (Some r) entries' moves' sizes' e =
        record {
          saturated = f.left ∙ e.saturated;
          count = e.count;
          more_is = e.more_is;
          standing = subst₂ (λ (x y : ℕ). Standing r.table x y inner entries' moves') (ap most_moves f.moves_long) (ap₂ most_entries f.entries_long f.same_states) e.standing;
          entries_filled = λ x. e.entries_filled (f.entries_filled x);
          moves_filled = λ x. e.moves_filled (f.moves_filled x);
          few = e.few;
        }
    follows_end None entries' moves' sizes' e = f.left ∙ e

  -- what is left to do on the first table is the whole
  pub left_whole : (z : Table) (entries moves sizes : List ℕ) (r : Answer SaturatedWords) (entries' moves' sizes' : List ℕ)
      → EndsAs rules inner (left_from rules inner rounds z 0 entries moves sizes) z entries moves r entries' moves' sizes'
      → Ends rules rounds inner z entries moves r entries' moves' sizes'
  unfolding saturate left_from rows_in first_of
  left_whole z entries moves sizes r entries' moves' sizes' e =
      subst (λ (w : ℕ). EndsAs rules inner (saturate_from rules (lent (length moves) (length entries)) w [] (automaton_of z inner entries moves)) z entries moves r entries' moves' sizes') (sub-zero rounds) e

  -- ---- the turn that ends the rounds, and one after which they go on

  pub turns_done : (z : Table) (entries moves sizes : List ℕ) (z₁ : Table) (k : ℕ) (e₁ m₁ s₁ : List ℕ) → Follows rules inner rounds z 0 entries moves sizes z₁ k e₁ m₁ s₁
      → (t : Turn) (e₂ m₂ s₂ states words memo : List ℕ) → TurnLeaves rules inner rounds z₁ k e₁ m₁ s₁ t e₂ m₂ s₂ states words memo
      → (r : Answer SaturatedWords) → t ≡ Break r → Ends rules rounds inner z entries moves r e₂ m₂ s₂
  turns_done z entries moves sizes z₁ k e₁ m₁ s₁ f t e₂ m₂ s₂ states words memo h r q =
      left_whole z entries moves sizes r e₂ m₂ s₂
      (follows_end z 0 entries moves sizes z₁ k e₁ m₁ s₁ f r e₂ m₂ s₂
      (subst (λ (t : Turn). TurnLeaves rules inner rounds z₁ k e₁ m₁ s₁ t e₂ m₂ s₂ states words memo) q h))

  pub turns_on : (z : Table) (k : ℕ) (entries moves sizes : List ℕ) (t : Turn) (e₂ m₂ s₂ states words memo : List ℕ)
      → TurnLeaves rules inner rounds z k entries moves sizes t e₂ m₂ s₂ states words memo
      → (z₂ : Table) → t ≡ Continue z₂ → GoesOn rules inner rounds z k entries moves sizes z₂ e₂ m₂ s₂ states words memo
  turns_on z k entries moves sizes t e₂ m₂ s₂ states words memo h z₂ q =
      subst (λ (t : Turn). TurnLeaves rules inner rounds z k entries moves sizes t e₂ m₂ s₂ states words memo) q h

  -- the limits stay the same
  pub limits_follow : (z : Table) (k : ℕ) (entries moves sizes : List ℕ) (z₁ : Table) (k₁ : ℕ) (e₁ m₁ s₁ : List ℕ) → Follows rules inner rounds z k entries moves sizes z₁ k₁ e₁ m₁ s₁
      → (m e : ℕ) → m ≡ most_moves (length moves) → e ≡ most_entries (length entries) z.inner1 → (m ≡ most_moves (length m₁)) × (e ≡ most_entries (length e₁) z₁.inner1)
  limits_follow z k entries moves sizes z₁ k₁ e₁ m₁ s₁ f m e p q =
      (p ∙ ap most_moves (sym f.moves_long), q ∙ ap₂ most_entries (sym f.entries_long) (sym f.same_states))

  -- ---- a turn

  module _ (z : Table) (k : ℕ) (entries moves : List ℕ) (h : Underway inner rounds z k entries moves) where
    -- the table after k rounds
    abbrev now : Automaton
    now = automaton_of z inner entries moves

    abbrev limit : Size
    limit = lent (length moves) (length entries)

    fits_now : within limit now ≡ true
    fits_now = now_within inner rounds z k entries moves h

    few : k ≤ 1024
    few = row_left inner rounds z k entries moves h

    module _ (sizes sizes' : List ℕ) (room : 2050 ≤ length sizes) (put : sizes' ≡ put_row size_row sizes k (the_size z.moves z.entries)) where
      sizes_more : rows_in size_row (k + 1) sizes' ≡ rows_in size_row k sizes ++ (size_of now ∷ [])
      unfolding size_of
      sizes_more =
          let a : k ≤ 1024 = few in
          ap (rows_in size_row (k + 1)) put
          ∙ put_more size_row k sizes (the_size z.moves z.entries) (omega arith)
          ∙ ap₂ (λ (m e : ℕ). rows_in size_row k sizes ++ (the_size m e ∷ [])) (sym (length_rows_in move_row z.moves moves)) (sym (length_rows_in entry_row z.entries entries))

      -- the table so far, with its sizes
      so_far : some (record { table = now; sizes = rows_in size_row k sizes ++ (size_of now ∷ []) }) ≡ some (saturated_in z inner entries moves (k + 1) sizes')
      so_far = ap (λ (l : List Size). some (record { table = now; sizes = l })) (sym sizes_more)

      -- ---- as many rounds are run as are asked for

      pub turn_stopped : k ≡ rounds → (more : Bool) → more ≡ adds_move rules now
          → EndsWith rules inner (left_from rules inner rounds z k entries moves sizes) z entries moves z k more entries moves sizes'
      unfolding left_from
      turn_stopped e more m =
          let none_more : rounds - k ≡ 0 = omega arith in
          record {
            saturated = ap (λ (n : ℕ). saturate_from rules limit n (rows_in size_row k sizes) now) none_more
                ∙ saturate_from_stops rules limit (rows_in size_row k sizes) now fits_now
                ∙ so_far;
            count = sym (counted_rows now k sizes');
            more_is = m;
            standing = h.standing;
            entries_filled = λ x. x;
            moves_filled = λ x. x;
            few = few;
          }

      -- ---- one more round

      from_here : (k ≡ rounds → ⊥) → left_from rules inner rounds z k entries moves sizes ≡ saturate_from rules limit (suc (rounds - suc k)) (rows_in size_row k sizes) now
      unfolding left_from
      from_here n =
          let a : k ≤ rounds = h.asked in
          let fuel : rounds - k ≡ suc (rounds - suc k) = omega arith in
          ap (λ (n : ℕ). saturate_from rules limit n (rows_in size_row k sizes) now) fuel

      module _ (go_on : k ≡ rounds → ⊥) (e₂ m₂ : List ℕ) where
        abbrev next : Automaton
        next = round rules now

        same_J : next.J ≡ z.inner1
        same_J = (round_extends rules now).same_J

        -- ---- a limit is passed

        over_differs : (most_moves (length moves) < length next.moves) ⊎ (most_entries (length entries) z.inner1 < length next.entries)
            → length next.moves ≡ length now.moves → ⊥
        over_differs (inl l) e =
            let a : z.moves ≤ most_moves (length moves) = h.standing.moves_few in
            let b : length now.moves ≡ z.moves = length_rows_in move_row z.moves moves in
            omega arith
        over_differs (inr l) e =
            let a : z.entries ≤ most_entries (length entries) z.inner1 = h.standing.growing.entries_few in
            let b : length now.entries ≡ z.entries = length_rows_in entry_row z.entries entries in
            let c : length next.entries ≡ length now.entries = ap (λ (A : Automaton). length A.entries) (still_same rules now e) in
            omega arith

        turn_over : Exceeds rules inner z (most_moves (length moves)) (most_entries (length entries) z.inner1) entries moves e₂ m₂
            → left_from rules inner rounds z k entries moves sizes ≡ none
        turn_over r =
            let o = r.over in
            let w : within limit next ≡ false = over_without (length moves) (length entries) z.inner1 (states_small inner rounds z k entries moves h) next same_J o in
            from_here go_on
            ∙ saturate_from_goes_on rules limit (rounds - suc k) (rows_in size_row k sizes) now fits_now (over_differs o)
            ∙ saturate_from_exceeds rules limit (rounds - suc k) (rows_in size_row k sizes ++ (size_of now ∷ [])) next w

        -- ---- the round fits

        module _ (z₂ : Table) (r : Fits rules inner z (most_moves (length moves)) (most_entries (length entries) z.inner1) entries moves z₂ e₂ m₂) where
          grown : Grows z entries moves (new_results rules now) z₂ e₂ m₂
          grown = r.grows

          next_is : automaton_of z₂ inner e₂ m₂ ≡ next
          next_is = grown.table_is inner ∙ sym (round_is rules now)

          next_moves : length next.moves ≡ z₂.moves
          next_moves = sym (ap (λ (A : Automaton). length A.moves) next_is) ∙ length_rows_in move_row z₂.moves m₂

          now_moves : length now.moves ≡ z.moves
          now_moves = length_rows_in move_row z.moves moves

          turn_ends : z₂.moves ≡ z.moves → EndsWith rules inner (left_from rules inner rounds z k entries moves sizes) z entries moves z₂ k false e₂ m₂ sizes'
          turn_ends e =
              let still : length next.moves ≡ length now.moves = next_moves ∙ e ∙ sym now_moves in
              let same : automaton_of z₂ inner e₂ m₂ ≡ now = next_is ∙ still_same rules now still in
              record {
                saturated = from_here go_on
                    ∙ saturate_from_ends rules limit (rounds - suc k) (rows_in size_row k sizes) now fits_now still
                    ∙ so_far
                    ∙ ap (λ (A : Automaton). some (record { table = A; sizes = rows_in size_row (k + 1) sizes' })) (sym same);
                count = sym (counted_rows (automaton_of z₂ inner e₂ m₂) k sizes');
                more_is = sym (ap (adds_move rules) same ∙ closed_nothing rules now (still_closed rules now still));
                standing = r.standing;
                entries_filled = grown.entries_filled;
                moves_filled = grown.moves_filled;
                few = few;
              }

          module _ (n : z₂.moves ≡ z.moves → ⊥) where
            rises : z.moves < z₂.moves
            rises =
                let more : z₂.moves ≡ z.moves + length (new_results rules now) = grown.moves_more in
                omega arith

            long : left_from rules inner rounds z₂ (k + 1) e₂ m₂ sizes' ≡ saturate_from rules limit (rounds - suc k) (rows_in size_row (k + 1) sizes') (automaton_of z₂ inner e₂ m₂)
            unfolding left_from
            long =
                let one : k + 1 ≡ suc k = omega arith in
                ap₂ (λ (x y : ℕ). saturate_from rules (lent x y) (rounds - (k + 1)) (rows_in size_row (k + 1) sizes') (automaton_of z₂ inner e₂ m₂)) grown.moves_long grown.entries_long
                ∙ ap (λ (i : ℕ). saturate_from rules limit (rounds - i) (rows_in size_row (k + 1) sizes') (automaton_of z₂ inner e₂ m₂)) one

            turn_goes_on : (states words memo : List ℕ) → StatesExist now → ByState z.moves moves states → ByWords z.moves moves words → MemoUpTo z.moves memo
                → GoesOn rules inner rounds z k entries moves sizes z₂ e₂ m₂ sizes' states words memo
            turn_goes_on states words memo x bs bw u =
                let b : k ≤ z.moves = h.count in
                let a : k ≤ rounds = h.asked in
                let l : z.moves < z₂.moves = rises in
                record {
                  follows = record {
                    left = from_here go_on
                        ∙ saturate_from_goes_on rules limit (rounds - suc k) (rows_in size_row k sizes) now fits_now (λ e. n (sym next_moves ∙ e ∙ now_moves))
                        ∙ ap₂ (λ (l : List Size) (A : Automaton). saturate_from rules limit (rounds - suc k) l A) (sym sizes_more) (sym next_is)
                        ∙ sym long;
                    same_states = grown.same_states;
                    entries_filled = grown.entries_filled;
                    moves_filled = grown.moves_filled;
                    entries_long = grown.entries_long;
                    moves_long = grown.moves_long;
                  };
                  underway = record {
                    standing = subst₂ (λ (x y : ℕ). Standing z₂ x y inner e₂ m₂) (ap most_moves (sym grown.moves_long)) (ap₂ most_entries (sym grown.entries_long) (sym grown.same_states)) r.standing;
                    asked = omega arith;
                    count = omega arith;
                  };
                  prepared = prepared_next rules inner z entries moves z₂ e₂ m₂ grown states words memo x bs bw u l;
                  rises = l;
                }

      -- what the turn leaves, after the round
      pub turn_rounds : (go_on : k ≡ rounds → ⊥) (g : Answer Table) (e₂ m₂ : List ℕ)
          → Rounded rules inner z (most_moves (length moves)) (most_entries (length entries) z.inner1) entries moves g e₂ m₂
          → (states words memo : List ℕ) → StatesExist now → ByState z.moves moves states → ByWords z.moves moves words → MemoUpTo z.moves memo
          → (t : Turn) → t ≡ after_round z k g → TurnLeaves rules inner rounds z k entries moves sizes t e₂ m₂ sizes' states words memo
      turn_rounds go_on (Some z₂) e₂ m₂ r states words memo x bs bw u t q =
          let leaves : Turn → Type 0 = λ t. TurnLeaves rules inner rounds z k entries moves sizes t e₂ m₂ sizes' states words memo in
          by_test (eqb z₂.moves z.moves)
          (λ e. subst leaves (sym (q ∙ after_still z k z₂ (eqb-true _ _ e))) (turn_ends go_on e₂ m₂ z₂ r (eqb-true _ _ e)))
          (λ e. subst leaves (sym (q ∙ after_more z k z₂ (eqb-false _ _ e))) (turn_goes_on go_on e₂ m₂ z₂ r (eqb-false _ _ e) states words memo x bs bw u))
      turn_rounds go_on None e₂ m₂ r states words memo x bs bw u t q =
          subst (λ (t : Turn). TurnLeaves rules inner rounds z k entries moves sizes t e₂ m₂ sizes' states words memo)
          (sym (q ∙ after_over z k)) (turn_over go_on e₂ m₂ r)
