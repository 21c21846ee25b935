-- The full run on cells follows the decorated run. So from a start marked yes it arrives in the target, and its trace is a run of the rules.
-- Assumes nothing.
use Prim.Native.Nat.{ℕ, zero, suc, ◌<◌}
use Rattle.std.specs.Prelude.{true, ◌≡◌, length}
use Rattle.std.proofs.Math.Path.{refl, ap, sym, subst₃}
use Rattle.std.proofs.Common.{◌∙◌, subst, arith}
use Rattle.std.proofs.Math.Option.{some, some-injective, none-ne-some}
use mathlib.Core.List.{List, ◌∷◌}
use Rattle.stacks.specs.System.{Rule, Configuration, Run}
use Rattle.automata.specs.Automaton.{Automaton}
use Rattle.automata.specs.Acceptance.{accepts2, in_target}
use Rattle.automata.specs.Saturation.{Saturated}
use Rattle.walks.specs.Cell.{Cell, order2, stack_at, stacks}
use Rattle.walks.specs.Cell.Formed.{order_at, Formed}
use Rattle.walks.specs.Guide.{Walk, walk_configuration, start_walk, Next, arrived, to, next, walk_after, trace_after}
use Rattle.soundness.specs.Decorated.{DecoratedWalk, erased, DecoratedNext, arrived as arrived', to as to', stuck as stuck', next as next', walk_after as walkAfter', trace_after as traceAfter'}
use Rattle.soundness.specs.Facts.{SaturatedFacts}
use Rattle.soundness.proofs.Theorem.{Arrival, guided_arrives as decorated-run-arrives}
use Rattle.guidance.specs.Run.{walk_after_to, trace_after_to}
use Rattle.guidance.specs.Prefix.{ArrivesAfter}
use Rattle.guidance.specs.Decoration.{decorated_of, WalkFormed, erase_walk, start_decorated, start_bare, start_formed}
use Rattle.guidance.specs.Simulation.{SameNext, both_arrive, both_go, both_stuck, wrong_order, same_next}

-- ---- the answers of a decorated step differ

unfoldable pub answer_code' : DecoratedNext → ℕ
answer_code' arrived' = 0
answer_code' (to' n v) = 1
answer_code' stuck' = 2

unfoldable pub word_of' : DecoratedNext → ℕ
word_of' arrived' = 0
word_of' (to' n v) = n
word_of' stuck' = 0

unfoldable pub walk_of' : DecoratedWalk → DecoratedNext → DecoratedWalk
walk_of' w arrived' = w
walk_of' w (to' n v) = v
walk_of' w stuck' = w

-- ---- one step

-- a step on cells by rule n, to a walk that stands for z
pub record Follows (n : ℕ) (x : Next) (z : DecoratedWalk) : Type 0 where
  pub after : Walk
  pub step_is : x ≡ to n after
  pub formed : WalkFormed after
  pub stands : decorated_of after ≡ z

follows : {x : Next} {y : DecoratedNext} {n : ℕ} {z : DecoratedWalk} → SameNext x y → y ≡ to' n z → Follows n x z
unfolding answer_code' word_of' walk_of'
follows both_arrive e = let q = ap answer_code' e in absurd (omega arith)
follows (both_go {n = m} {v = v} {z = u} F s) e =
    record {
      after = v;
      step_is = ap (λ (k : ℕ). to k v) (ap word_of' e);
      formed = F;
      stands = s ∙ ap (walk_of' u) e;
    }
follows both_stuck e = let q = ap answer_code' e in absurd (omega arith)
follows wrong_order e = let q = ap answer_code' e in absurd (omega arith)

arrives_both : {x : Next} {y : DecoratedNext} → SameNext x y → y ≡ arrived' → x ≡ arrived
unfolding answer_code'
arrives_both both_arrive e = refl
arrives_both (both_go F s) e = let q = ap answer_code' e in absurd (omega arith)
arrives_both both_stuck e = let q = ap answer_code' e in absurd (omega arith)
arrives_both wrong_order e = let q = ap answer_code' e in absurd (omega arith)

module _ (rules : List Rule) (T : Saturated) (w : Walk) (F : WalkFormed w) where
  pub next_follows : {n : ℕ} {z : DecoratedWalk} → next' rules T (decorated_of w) ≡ to' n z → Follows n (next rules T w) z
  next_follows e = follows (same_next rules T w F) e

  pub next_arrives : next' rules T (decorated_of w) ≡ arrived' → next rules T w ≡ arrived
  next_arrives e = arrives_both (same_next rules T w F) e

-- ---- the run

pub erased_at : (w : Walk) → erased (decorated_of w) ≡ walk_configuration w
unfolding walk_configuration
erased_at w = erase_walk w

module _ (rules : List Rule) (T : Saturated) where
  -- the first m steps on cells from w, to a walk that stands for z
  pub record RunFollows (m : ℕ) (w : Walk) (z : DecoratedWalk) : Type 0 where
    pub last : Walk
    pub run_is : walk_after rules T m w ≡ some last
    pub trace_is : trace_after rules T m w ≡ traceAfter' rules T m (decorated_of w)
    pub formed : WalkFormed last
    pub stands : decorated_of last ≡ z

  -- a decorated run of at least one step makes a first one
  first_step_lem : (u : DecoratedWalk) (m : ℕ) {z : DecoratedWalk} → walkAfter' rules T (suc m) u ≡ some z
      → (n : ℕ) × (y : DecoratedWalk) × (next' rules T u ≡ to' n y) × (walkAfter' rules T m y ≡ some z)
  unfolding walkAfter'
  first_step_lem u m {z} h = by_answer (next' rules T u) refl
    where
      by_answer : (y : DecoratedNext) → next' rules T u ≡ y
          → (n : ℕ) × (y : DecoratedWalk) × (next' rules T u ≡ to' n y) × (walkAfter' rules T m y ≡ some z)
      by_answer arrived' e = absurd (none-ne-some z (rw (walkAfter', e) at h))
      by_answer (to' n y) e = (n, y, e, rw (walkAfter', e) at h)
      by_answer stuck' e = absurd (none-ne-some z (rw (walkAfter', e) at h))

  trace_first : (u : DecoratedWalk) {n : ℕ} {y : DecoratedWalk} → next' rules T u ≡ to' n y → (m : ℕ)
      → traceAfter' rules T (suc m) u ≡ n ∷ traceAfter' rules T m y
  unfolding traceAfter'
  trace_first u e m = rw (traceAfter', e)

  pub run_follows : (m : ℕ) (w : Walk) {z : DecoratedWalk} → WalkFormed w → walkAfter' rules T m (decorated_of w) ≡ some z → RunFollows m w z
  unfolding walk_after walkAfter' trace_after traceAfter'
  run_follows zero w {z} F h =
      record {
        last = w;
        run_is = refl;
        trace_is = refl;
        formed = F;
        stands = some-injective (decorated_of w) z h;
      }
  run_follows (suc m) w {z} F h =
      let r = first_step_lem (decorated_of w) m h in
      let s = next_follows rules T w F r.2 in
      let q = run_follows m s.after s.formed (ap (walkAfter' rules T m) s.stands ∙ r.3) in
      record {
        last = q.last;
        run_is = walk_after_to rules T w s.step_is m ∙ q.run_is;
        trace_is = trace_after_to rules T w s.step_is m
            ∙ ap (λ (l : List ℕ). r.0 ∷ l) (q.trace_is ∙ ap (traceAfter' rules T m) s.stands)
            ∙ sym (trace_first (decorated_of w) r.2 m);
        formed = q.formed;
        stands = q.stands;
      }

  -- ---- arrival

  -- The full run from w arrives in the target of `own`, and the rule numbers that it writes are a run of the rules.
  pub record GuidedArrival (own : Automaton) (w : Walk) : Type 0 where
    pub steps : ℕ
    pub last : Walk
    pub arrives : ArrivesAfter rules T steps w last
    pub run : Run rules (walk_configuration w) (trace_after rules T steps w) (walk_configuration last)
    pub in_target_holds : in_target own (walk_configuration last) ≡ true

  pub guided_arrival : {own : Automaton} (w : Walk) → WalkFormed w → Arrival rules T own (decorated_of w) → GuidedArrival own w
  guided_arrival {own} w F a =
      let q = run_follows a.steps w F a.reached in
      let e : erased a.last ≡ walk_configuration q.last = ap erased (sym q.stands) ∙ erased_at q.last in
      record {
        steps = a.steps;
        last = q.last;
        arrives = record { run_is = q.run_is; arrives = next_arrives rules T q.last q.formed (ap (next' rules T) q.stands ∙ a.at_end) };
        run = subst₃ (λ (c : Configuration) (ns : List ℕ) (d : Configuration). Run rules c ns d) (erased_at w) (sym q.trace_is) e a.run;
        in_target_holds = ap (in_target own) (sym e) ∙ a.in_target_holds;
      }

-- The full run of a start marked yes: its cells refer to lower ones, its root has order 2, and the table accepts its stack from its control.
pub start_arrival : {P : ℕ} {own : Automaton} {rules : List Rule} {T : Saturated} → SaturatedFacts P own rules T
    → (cells : List Cell) (p root : ℕ) → Formed cells → root < length cells → order_at cells root ≡ 2 → p < P
    → accepts2 T.table (order2 (stack_at (stacks cells) root)) p ≡ true → GuidedArrival rules T own (start_walk T.table cells p root)
start_arrival {own = own} {rules = rules} {T = T} F cells p root x h o l e =
    guided_arrival rules T (start_walk T.table cells p root) (start_formed T.table cells p root x h o)
    (subst (Arrival rules T own) (sym (start_decorated T.table cells p root))
    (decorated-run-arrives F (record { control = p; stack = order2 (stack_at (stacks cells) root) }) e l))

-- the start's configuration
pub start_configuration : (A : Automaton) (cells : List Cell) (p root : ℕ)
    → walk_configuration (start_walk A cells p root) ≡ record { control = p; stack = order2 (stack_at (stacks cells) root) }
unfolding walk_configuration start_walk
start_configuration A cells p root =
    ap (λ (l : List Cell). record { control = p; stack = order2 (stack_at (stacks l) root) }) (start_bare A cells p root)
