-- What can be reached, as the code goes: one move more, the loop over the moves, and the tests at its end.
-- Assumes nothing.
use Rattle.std.specs.Prelude.{ℕ, ◌+◌, ◌^◌, ◌<◌, ◌≤◌, Bool, true, false, ◌≡◌, List}
use Rattle.std.proofs.Math.Bool.{◌&&◌}
use Rattle.std.proofs.Math.Path.{refl, ap, ap₂, sym}
use Rattle.std.proofs.Common.{◌∙◌, arith}
use Rattle.std.proofs.Math.Option.{Option, none, some}
use Rattle.words.specs.Sets.{member, single, join, part_of}
use Rattle.words.proofs.Sets.Laws.{has_below}
use Rattle.words.specs.Laws.Tests.{by_test}
use Rattle.automata.specs.Automaton.{Move}
use Rattle.automata.specs.Derivation.{Result, Joins}
use Rattle.tables.specs.Rows.{first_of, row_at, rows_in}
use Rattle.tables.specs.Rows.Laws.{rows_in_more}
use Rattle.tables.specs.Layouts.{move_row}
use Rattle.joins.specs.Joining.{candidate_of}
use Rattle.first_reading.specs.declared.Reach.{Reach}
use Rattle.first_reading.specs.First.{is_some}
use Rattle.first_reading.specs.Search.{within}
use Rattle.first_reading.specs.Words.{moves_in}
use Rattle.first_reading.specs.Reach.{reach_of, usable, reach_with, reach_all, fills, can_fill}
use Rattle.first_reading.proofs.Cut.Laws.{with_yes, with_no, all_more}

-- ---- one move more

module _ (a : ℕ) (x : Result) (left : ℕ) (j : Joins) (z : Reach) (m : Move) where
  -- m is of no state left
  pub turn_other : member left m.state ≡ false → z ≡ reach_with a x left j z m
  unfolding usable
  turn_other e = sym (with_no a x left j z m (ap (λ (t : Bool). t && is_some (within x (candidate_of m.state a j m))) e))

  pub turn_past : 64 ≤ m.state → left < 2 ^ 64 → z ≡ reach_with a x left j z m
  turn_past h l =
      turn_other
      (by_test (member left m.state) (λ e. let k : m.state < 64 = has_below 64 l (record { has = e }) in absurd (omega arith)) (λ e. e))

  -- c is what m joins to, and k that where it is within the sets of x
  module _ (c k : Option Joins) (of_left : member left m.state ≡ true) (e : c ≡ candidate_of m.state a j m) (w : k ≡ within x c) where
    usable_is : usable a x left j m ≡ is_some k
    unfolding usable
    usable_is = ap₂ ◌&&◌ of_left (ap is_some (ap (within x) (sym e) ∙ sym w))

    pub turn_nothing : k ≡ none → z ≡ reach_with a x left j z m
    unfolding is_some
    turn_nothing g = sym (with_no a x left j z m (usable_is ∙ ap is_some g))

    pub turn_more : {l : Joins} {one s b r : ℕ} → k ≡ some l → one ≡ single m.state → s ≡ join z.states one → b ≡ join z.b m.B → r ≡ join z.r m.R
        → record { states = s; b = b; r = r } ≡ reach_with a x left j z m
    unfolding is_some
    turn_more {s = s} {b} {r} g o p t u =
        let q : s ≡ join z.states (single m.state) = p ∙ ap (join z.states) o in
        (λ i. record { states = q i; b = t i; r = u i }) ∙ sym (with_yes a x left j z m (usable_is ∙ ap is_some g))

-- ---- the loop

module _ (moves : List ℕ) (a : ℕ) (x : Result) (left : ℕ) (j : Joins) where
  -- z is what the first i moves reach
  pub record ReachBelow (n i : ℕ) (z : Reach) : Type 0 where
    pub below : i ≤ n
    pub reach_is : z ≡ reach_all a x left j (reach_of j) (rows_in move_row i moves)

  pub reach_none : (n : ℕ) → ReachBelow n 0 (reach_of j)
  unfolding reach_all rows_in first_of
  reach_none n = record { below = omega arith; reach_is = refl }

  pub reach_more : {n i : ℕ} {z y : Reach} {m : Move} → ReachBelow n i z → i < n → m ≡ row_at move_row moves i → y ≡ reach_with a x left j z m → ReachBelow n (i + 1) y
  reach_more {i = i} h l e f =
      record {
        below = omega arith;
        reach_is = f ∙ ap₂ (reach_with a x left j) h.reach_is e ∙ sym (all_more a x left j (reach_of j) (rows_in move_row i moves) (row_at move_row moves i))
            ∙ ap (reach_all a x left j (reach_of j)) (sym (rows_in_more move_row i moves));
      }

  -- ---- the tests at its end

  module _ {n i : ℕ} {z : Reach} (h : ReachBelow n i z) (past : n ≤ i) where
    reach_fills : can_fill (moves_in n moves) a x left j ≡ part_of left z.states && part_of x.B z.b && part_of x.R z.r
    unfolding can_fill fills
    reach_fills =
        let e : n ≡ i = omega (arith, h.below) in
        ap (λ (k : ℕ). fills x left (reach_all a x left j (reach_of j) (rows_in move_row k moves))) e ∙ ap (fills x left) (sym h.reach_is)

    pub fills_no_states : part_of left z.states ≡ false → false ≡ can_fill (moves_in n moves) a x left j
    fills_no_states e = sym (reach_fills ∙ ap (λ (t : Bool). t && part_of x.B z.b && part_of x.R z.r) e)

    pub fills_no_B : part_of left z.states ≡ true → part_of x.B z.b ≡ false → false ≡ can_fill (moves_in n moves) a x left j
    fills_no_B e f = sym (reach_fills ∙ ap₂ (λ (s t : Bool). s && t && part_of x.R z.r) e f)

    pub fills_R : part_of left z.states ≡ true → part_of x.B z.b ≡ true → part_of x.R z.r ≡ can_fill (moves_in n moves) a x left j
    fills_R e f = sym (reach_fills ∙ ap₂ (λ (s t : Bool). s && t && part_of x.R z.r) e f)
