-- What guide writes for c cells and t trace words is a prefix of the full run, and it arrives exactly if c and t suffice.
-- Assumes nothing.
use Prim.Native.Nat.{ℕ, zero, suc, ◌+◌, ◌<◌, ◌≤◌}
use Rattle.std.specs.Prelude.{◌≡◌}
use Rattle.std.proofs.Math.Path.{refl, ap, sym}
use Rattle.std.proofs.Common.{◌∙◌}
use Rattle.std.proofs.Math.Option.{some, some-injective, none-ne-some}
use mathlib.Core.List.{List, ◌++◌}
use native.Mathlib.Omega.{arith}
use Rattle.std.proofs.Math.ListN.{length}
use Rattle.stacks.specs.System.{Rule}
use Rattle.automata.specs.Saturation.{Saturated}
use Rattle.walks.specs.Guide.{Walk, arrived, to, stuck, next, walk_after, trace_after, Report, walked_by}
use Rattle.guidance.specs.Halt.{Reason, arrival, trace_full, cells_short, halt_by}
use Rattle.guidance.specs.Run.{to_arrived, stuck_arrived, walk_after_to, run_first}

module _ (rules : List Rule) (T : Saturated) where
  -- the full run from w arrives after M steps, at v
  pub record ArrivesAfter (M : ℕ) (w v : Walk) : Type 0 where
    pub run_is : walk_after rules T M w ≡ some v
    pub arrives : next rules T v ≡ arrived

  -- After m steps, at v, the first of these holds: the run has arrived; m = t; step m + 1 would bring the cells used above c.
  pub data Halts (c t m : ℕ) (v : Walk) : Reason → Type 0 where
    has_arrived : next rules T v ≡ arrived → Halts c t m v arrival
    is_full : (n : ℕ) (u : Walk) → next rules T v ≡ to n u → m ≡ t → Halts c t m v trace_full
    is_short : (n : ℕ) (u : Walk) → next rules T v ≡ to n u → (m ≡ t → ⊥) → c < length u.cells → Halts c t m v cells_short

  -- the least number of steps after which the walk from w halts
  pub record FirstHalt (c t : ℕ) (w : Walk) : Type 0 where
    pub steps : ℕ
    pub end : Walk
    pub reason : Reason
    pub run_is : walk_after rules T steps w ≡ some end
    pub halts : Halts c t steps end reason
    pub least : (k : ℕ) (u : Walk) (r : Reason) → k < steps → walk_after rules T k w ≡ some u → Halts c t k u r → ⊥

  -- what guide answers there, with these words written already
  unfoldable pub answer_at : {c t : ℕ} {w : Walk} → List ℕ → FirstHalt c t w → Report
  answer_at {w = w} trace x = walked_by (halt_by x.reason (record { steps = length trace + x.steps; cells = length x.end.cells })) (trace ++ trace_after rules T x.steps w)

  -- ---- the run to its arrival

  pub not_stuck : (M : ℕ) (w : Walk) {v : Walk} → ArrivesAfter M w v → next rules T w ≡ stuck → ⊥
  unfolding walk_after
  not_stuck zero w {v} a e = stuck_arrived (sym e ∙ ap (next rules T) (some-injective w v a.run_is) ∙ a.arrives)
  not_stuck (suc M) w {v} a e = absurd (none-ne-some v (rw (walk_after, e) at a.run_is))

  pub arrives_onward : (M : ℕ) (w : Walk) {u v : Walk} {n : ℕ} → ArrivesAfter M w v → next rules T w ≡ to n u
      → (k : ℕ) × (M ≡ suc k) × ArrivesAfter k u v
  unfolding walk_after
  arrives_onward zero w {v = v} a e = absurd (to_arrived (sym e ∙ ap (next rules T) (some-injective w v a.run_is) ∙ a.arrives))
  arrives_onward (suc M) w a e = (M, refl, record { run_is = sym (walk_after_to rules T w e M) ∙ a.run_is; arrives = a.arrives })

  -- no step follows an arrival
  pub arrives_last : (M : ℕ) (w : Walk) {v : Walk} → ArrivesAfter M w v → (m : ℕ) {u : Walk} → walk_after rules T m w ≡ some u → m ≤ M
  arrives_last M w a zero h = omega arith
  arrives_last M w a (suc m) h =
      let r = run_first rules T w m h in
      let b = arrives_onward M w a r.2 in
      let e : M ≡ suc b.0 = b.1 in
      let l : m ≤ b.0 = arrives_last b.0 r.1 b.2 m r.3 in
      omega arith
