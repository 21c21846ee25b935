-- What the turns of a walk answer is what the guided run answers.
-- Assumes nothing.
use Prim.Native.Nat.{ℕ, zero, suc, ◌+◌, ◌-◌, ◌≤◌, ◌<◌}
use Rattle.std.specs.Prelude.{◌≡◌, List, [], ◌∷◌, ◌++◌, length, get_or, take, drop, set}
use Rattle.std.proofs.Common.{ap, ap₂, sym, ◌∙◌, subst, add-one, arith, length-set, length-append, length-take-le, drop-cons, take-suc-set, drop-set-lt}
use borrow.Author.Tests.{le-leb, lt-leb}
use Rattle.stacks.specs.Stack.{new_cells}
use Rattle.stacks.specs.System.{Rule}
use Rattle.automata.specs.Derivation.{Derivation}
use Rattle.automata.specs.Saturation.{Saturated}
use Rattle.replies.specs.declared.Counts.{Counts}
use Rattle.replies.specs.declared.Halt.{Halt}
use Rattle.replies.specs.declared.Halt.TheVariants.{Arrived, TraceFull, CellsShort}
use Rattle.walks.specs.Guide as walks
use Rattle.walks.specs.Guide.{walked_by, no_run, next, arrived, stuck, to, moved, counts, guided}
use Rattle.guidance.specs.Run.{added, length_added}
use Rattle.words.specs.Lists.{zeros}
use Rattle.tables.specs.declared.Table.{Table}
use Rattle.tables.specs.Held.{automaton_of}
use Rattle.cell_memory.specs.Memory.Laws.{length_guided_in}
use Rattle.cell_steps.specs.declared.Top.{Top}
use Rattle.guided_step.specs.declared.Walk.{Walk}
use Rattle.guided_step.specs.Walks.{walk_in, top_by}
use Rattle.guided_step.specs.declared.Next.{Next}
use Rattle.guided_step.specs.Step.{Taken, Gives, NextIs}
use Rattle.guided_walk.specs.declared.Going.{Going}
use Rattle.guided_walk.specs.declared.Going.TheVariants.{Halted, Stuck, On}
use Rattle.guided_walk.specs.Stepped.{moves_only}
use Rattle.guided_walk.specs.Stepped.Laws.{stepped_moved}
use Rattle.guided_walk.specs.Turns.{counts_in, Walking, TurnHalts, full, short, Passes, StepAnswers, report_from, TurnFollows, TurnAnswers}

-- ---- the guided run by what is next

module _ (rules : List Rule) (T : Saturated) (c : ℕ) (trace : List ℕ) (w : walks.Walk) where
  guided_arrived : (t : ℕ) → next rules T w ≡ arrived → guided rules T c t trace w ≡ walked_by (Arrived (counts trace w)) trace
  unfolding guided
  guided_arrived zero e = rw (guided, e)
  guided_arrived (suc t) e = rw (guided, e)

  guided_stuck : (t : ℕ) → next rules T w ≡ stuck → guided rules T c t trace w ≡ no_run
  unfolding guided
  guided_stuck zero e = rw (guided, e)
  guided_stuck (suc t) e = rw (guided, e)

  module _ {n : ℕ} {v : walks.Walk} (e : next rules T w ≡ to n v) where
    guided_full : guided rules T c 0 trace w ≡ walked_by (TraceFull (counts trace w)) trace
    unfolding guided
    guided_full = rw (guided, e)

    guided_short : (t : ℕ) → c < length v.cells → guided rules T c (suc t) trace w ≡ walked_by (CellsShort (counts trace w)) trace
    unfolding guided
    guided_short t l = rw (guided, e, lt-leb _ _ l)

    guided_on : (t : ℕ) → length v.cells ≤ c → guided rules T c (suc t) trace w ≡ guided rules T c t (trace ++ (n ∷ [])) v
    unfolding guided
    guided_on t l = rw (guided, e, le-leb _ _ l)

-- ---- what is next, by the code's answer

module _ {rules : List Rule} {T : Saturated} {w : walks.Walk} {r : Next} {es ms : List ℕ} (a : NextIs rules T w r es ms) where
  -- what the answer gives
  given : {q : Next} → r ≡ q → Gives rules T w (next rules T w) q es ms
  given e = subst (λ (q : Next). Gives rules T w (next rules T w) q es ms) e a.gives

  pub next_arrived : r ≡ Next.Arrived → next rules T w ≡ arrived
  next_arrived e = given e

  pub next_stuck : r ≡ Next.Stuck → next rules T w ≡ stuck
  next_stuck e = given e

  pub next_taken : {x : Top} {n p : ℕ} → r ≡ Next.To x n p → Taken rules T w (next rules T w) x n p es ms
  next_taken e = given e

-- ---- numbers

counts_in_lem : (w : Walk) (cells trace : List ℕ) → w.steps ≤ length trace → counts (take w.steps trace) (walk_in w cells) ≡ counts_in w
unfolding counts
counts_in_lem w cells trace h = λ i. record { steps = length-take-le w.steps trace h i; cells = length_guided_in w.cells cells i }

-- the cells after a step
length_moved : (rules : List Rule) (T : Saturated) (w : walks.Walk) (x : walks.Top) (d : Derivation) (ρ : Rule)
    → length (moved rules T w x d ρ).cells ≡ length w.cells + new_cells ρ.operation
unfolding moved added
length_moved rules T w x d ρ =
    length-append w.cells (added T.table d ρ.next ρ.operation (length w.cells) x)
    ∙ ap (λ (k : ℕ). length w.cells + k) (length_added T.table d ρ.next ρ.operation (length w.cells) x)

-- ---- the trace

-- one word more is written
rest_more : (trace : List ℕ) (i n : ℕ) → i < length trace → drop i trace ≡ zeros (length trace - i)
    → drop (i + 1) (set trace i n) ≡ zeros (length (set trace i n) - (i + 1))
rest_more trace i n h e =
    let k : length trace - i ≡ suc (length trace - (i + 1)) = omega arith in
    let f : get_or trace i 0 ∷ drop (suc i) trace ≡ 0 ∷ zeros (length trace - (i + 1)) = sym (drop-cons trace i 0 h) ∙ e ∙ ap zeros k in
    let g : drop (suc i) trace ≡ zeros (length trace - (i + 1)) = cc in
    drop-set-lt (i + 1) trace i n (omega arith) ∙ ap (λ (j : ℕ). drop j trace) (add-one i) ∙ g
    ∙ ap (λ (j : ℕ). zeros (j - (i + 1))) (sym (length-set trace i n))

written_more : (trace : List ℕ) (i n : ℕ) → i < length trace → take (i + 1) (set trace i n) ≡ take i trace ++ (n ∷ [])
written_more trace i n h = ap (λ (j : ℕ). take j (set trace i n)) (add-one i) ∙ take-suc-set trace i n h

-- ---- a turn

module _ (rules : List Rule) (T : Saturated) (most : ℕ) (w : Walk) (cells trace : List ℕ) (in-room : Walking most w trace) where
  -- the report of a halt
  halt_is : (h : Counts → Halt) {k : Counts} → k ≡ counts_in w → walked_by (h (counts (take w.steps trace) (walk_in w cells))) (take w.steps trace)
      ≡ walked_by (h k) (take w.steps trace)
  halt_is h e = ap (λ (k : Counts). walked_by (h k) (take w.steps trace)) (counts_in_lem w cells trace in-room.steps_lent ∙ sym e)

  pub turn_arrived : {k : Counts} → next rules T (walk_in w cells) ≡ arrived → k ≡ counts_in w
      → report_from rules T most w cells trace ≡ walked_by (Arrived k) (take w.steps trace)
  turn_arrived e f = guided_arrived rules T most (take w.steps trace) (walk_in w cells) (length trace - w.steps) e ∙ halt_is Arrived f

  pub turn_stuck : next rules T (walk_in w cells) ≡ stuck → report_from rules T most w cells trace ≡ no_run
  turn_stuck e = guided_stuck rules T most (take w.steps trace) (walk_in w cells) (length trace - w.steps) e

  module _ {n : ℕ} {u : walks.Walk} (e : next rules T (walk_in w cells) ≡ to n u) where
    turn_full : {k : Counts} → length trace ≤ w.steps → k ≡ counts_in w → report_from rules T most w cells trace ≡ walked_by (TraceFull k) (take w.steps trace)
    turn_full l f =
        let z : length trace - w.steps ≡ 0 = omega arith in
        ap (λ (t : ℕ). guided rules T most t (take w.steps trace) (walk_in w cells)) z
        ∙ guided_full rules T most (take w.steps trace) (walk_in w cells) e
        ∙ halt_is TraceFull f

    turn_short : {k : Counts} → w.steps < length trace → most < length u.cells → k ≡ counts_in w
        → report_from rules T most w cells trace ≡ walked_by (CellsShort k) (take w.steps trace)
    turn_short l m f =
        let z : length trace - w.steps ≡ suc (length trace - (w.steps + 1)) = omega arith in
        ap (λ (t : ℕ). guided rules T most t (take w.steps trace) (walk_in w cells)) z
        ∙ guided_short rules T most (take w.steps trace) (walk_in w cells) e (length trace - (w.steps + 1)) m
        ∙ halt_is CellsShort f

    turn_on : (v : Walk) (cells' : List ℕ) {trace' : List ℕ} → w.steps < length trace → length u.cells ≤ most → walk_in v cells' ≡ u
        → v.steps ≡ w.steps + 1 → trace' ≡ set trace w.steps n → report_from rules T most w cells trace ≡ report_from rules T most v cells' trace'
    turn_on v cells' {trace'} l m f g h =
        let z : length trace - w.steps ≡ suc (length trace - (w.steps + 1)) = omega arith in
        let len : length trace' ≡ length trace = ap length h ∙ length-set trace w.steps n in
        let left : length trace - (w.steps + 1) ≡ length trace' - v.steps = omega arith in
        let words : take w.steps trace ++ (n ∷ []) ≡ take v.steps trace' =
        sym (ap₂ take g h ∙ written_more trace w.steps n l) in
        ap (λ (t : ℕ). guided rules T most t (take w.steps trace) (walk_in w cells)) z
        ∙ guided_on rules T most (take w.steps trace) (walk_in w cells) e (length trace - (w.steps + 1)) m
        ∙ (λ i. guided rules T most (left i) (words i) (sym f i))

  module _ (z : Table) (inner entries moves : List ℕ) (is : T.table ≡ automaton_of z inner entries moves) {x : Top} {n p : ℕ} {es ms : List ℕ}
      (t : Taken rules T (walk_in w cells) (next rules T (walk_in w cells)) x n p es ms) where
    abbrev Answers : Rule → Going → List ℕ → List ℕ → Type 0
    Answers ρ r cells' trace' = StepAnswers most (moves_only z moves) ρ.operation ρ.next n p x es ms w cells trace r cells' trace'

    cells_after_lem : length (moved rules T (walk_in w cells) (top_by x t.move) t.derivation t.rule).cells ≡ w.cells + new_cells t.rule.operation
    cells_after_lem =
        length_moved rules T (walk_in w cells) (top_by x t.move) t.derivation t.rule
        ∙ ap (λ (k : ℕ). k + new_cells t.rule.operation) (length_guided_in w.cells cells)

    halts_is : {h : Halt} → TurnHalts most t.rule.operation w trace h → report_from rules T most w cells trace ≡ walked_by h (take w.steps trace)
    halts_is (full l e) = turn_full t.goes l e
    halts_is (short l m e) = let k = cells_after_lem in turn_short t.goes l (omega arith) e

    passes_is : (v : Walk) {cells' trace' : List ℕ} → Passes most (moves_only z moves) t.rule.operation t.rule.next n p x es ms w cells trace v cells' trace'
        → TurnFollows rules T most w cells trace v cells' trace'
    passes_is v {cells'} {trace'} h =
        let k = cells_after_lem in
        let more : v.steps ≡ w.steps + 1 = h.steps.steps_more in
        let len : length trace' ≡ length trace = ap length h.written ∙ length-set trace w.steps n in
        record {
          same_report = turn_on t.goes v cells' h.words_left (omega (arith, h.cells_left))
              (h.steps.walk_is ∙ stepped_moved rules T z inner entries moves is w cells t) more h.written;
          walking =
              record {
                cells_lent_holds = omega (arith, h.cells_left, h.steps.cells_more);
                steps_lent = omega (arith, h.words_left);
                rest_zero = ap₂ drop more h.written ∙ rest_more trace w.steps n h.words_left in-room.rest_zero
                    ∙ (λ i. zeros (length (sym h.written i) - sym more i));
              };
          long = len;
        }

    turn_step : (r : Going) (cells' trace' : List ℕ) → Answers t.rule r cells' trace' → TurnAnswers rules T most w cells trace r cells' trace'
    turn_step (Halted h) cells' trace' a = (halts_is a.0, a.1)
    turn_step Stuck cells' trace' a = absurd a
    turn_step (On v) cells' trace' a = (passes_is v a, a.steps.steps_more)

    -- by the rule as the code reads it
    pub turn_by : (ρ : Rule) (r : Going) (cells' trace' : List ℕ) → ρ ≡ t.rule → Answers ρ r cells' trace' → TurnAnswers rules T most w cells trace r cells' trace'
    turn_by ρ r cells' trace' e a = turn_step r cells' trace' (subst (λ (σ : Rule). Answers σ r cells' trace') e a)

-- what the answer says where it is known
pub answers_as : (rules : List Rule) (T : Saturated) (most : ℕ) (w : Walk) (cells trace : List ℕ) {r q : Going} (cells' trace' : List ℕ) → r ≡ q
    → TurnAnswers rules T most w cells trace r cells' trace' → TurnAnswers rules T most w cells trace q cells' trace'
answers_as rules T most w cells trace cells' trace' e a = subst (λ (r : Going). TurnAnswers rules T most w cells trace r cells' trace') e a
