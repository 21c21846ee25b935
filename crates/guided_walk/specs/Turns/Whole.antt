-- The guided run from its start by turns, and what it leaves in the trace.
-- Assumes nothing.
use Rattle.std.specs.Prelude.{ℕ, ◌-◌, ◌≤◌, ◌≡◌, refl, List, [], ◌++◌, take, drop}
use Rattle.std.proofs.Math.Path.{ap, sym}
use Rattle.std.proofs.Common.{◌∙◌, take-append-drop, length-take-le}
use native.Mathlib.Omega.{arith}
use Rattle.std.proofs.Math.ListN.{length}
use Rattle.stacks.specs.System.{Rule}
use Rattle.automata.specs.Saturation.{Saturated}
use Rattle.replies.specs.declared.Halt.{Halt}
use Rattle.replies.specs.declared.Reply.TheVariants.{NoRun, Walked}
use Rattle.walks.specs.Guide.{Report, walked_by, no_run, guided}
use Rattle.services.specs.Memory.{padded}
use Rattle.words.specs.Lists.{zeros}
use Rattle.tables.specs.declared.Table.{Table}
use Rattle.guided_step.specs.declared.Walk.{Walk}
use Rattle.guided_step.specs.Walks.{walk_in}
use Rattle.guided_walk.specs.Turns.{RunStands, Leaves, Walking, report_from, TurnFollows}

-- the same with other cells, as many
pub run_stands : {z : Table} {body cells cells' : List ℕ} {count most : ℕ} → RunStands z body count cells most → length cells' ≡ length cells
    → RunStands z body count cells' most
run_stands h e =
    record {
      tables_few = h.tables_few;
      rules_stand = h.rules_stand;
      rules_few = h.rules_few;
      cells_lent_holds = omega (arith, h.cells_lent_holds);
      cells_few = h.cells_few;
    }

-- a walk that has taken no step
pub walking_start : {most : ℕ} {w : Walk} {trace : List ℕ} → w.cells ≤ most → w.steps ≡ 0 → trace ≡ zeros (length trace) → Walking most w trace
walking_start {w = w} {trace} l e z =
    let n : length trace ≡ length trace - w.steps = omega arith in
    record { cells_lent_holds = l; steps_lent = omega arith; rest_zero = ap (λ (i : ℕ). drop i trace) e ∙ z ∙ ap zeros n }

-- what is written, and zeros
walking_padded : {most : ℕ} {w : Walk} {trace : List ℕ} → Walking most w trace → trace ≡ padded (length trace) (take w.steps trace)
unfolding padded
walking_padded {w = w} {trace} h =
    let l : length (take w.steps trace) ≡ w.steps = length-take-le w.steps trace h.steps_lent in
    sym (take-append-drop w.steps trace)
    ∙ ap (λ (r : List ℕ). take w.steps trace ++ r) (h.rest_zero ∙ ap (λ (k : ℕ). zeros (length trace - k)) (sym l))

module _ (rules : List Rule) (T : Saturated) (most : ℕ) where
  pub follows_self : (w : Walk) (cells : List ℕ) {trace : List ℕ} → Walking most w trace → TurnFollows rules T most w cells trace w cells trace
  follows_self w cells h = record { same_report = refl; walking = h; long = refl }

  pub follows_then : {w v u : Walk} {cells cells' cells'' trace trace' trace'' : List ℕ} → TurnFollows rules T most w cells trace v cells' trace'
      → TurnFollows rules T most v cells' trace' u cells'' trace'' → TurnFollows rules T most w cells trace u cells'' trace''
  follows_then f g = record { same_report = f.same_report ∙ g.same_report; walking = g.walking; long = g.long ∙ f.long }

  module _ {w v : Walk} {cells cells' trace trace' : List ℕ} (f : TurnFollows rules T most w cells trace v cells' trace') (start : w.steps ≡ 0) where
    -- what the run answers is what it answers from v
    whole_is : guided rules T most (length trace) [] (walk_in w cells) ≡ report_from rules T most v cells' trace'
    whole_is =
        let n : length trace ≡ length trace - w.steps = omega arith in
        (λ i. guided rules T most (n i) (take (sym start i) trace) (walk_in w cells)) ∙ f.same_report

    pub ends_halted : {h : Halt} {last : List ℕ} → report_from rules T most v cells' trace' ≡ walked_by h (take v.steps trace') → last ≡ trace'
        → Leaves (guided rules T most (length trace) [] (walk_in w cells)) (length trace) (Walked h) last
    unfolding walked_by
    ends_halted e l =
        let o = whole_is ∙ e in
        record {
          reply_is = sym (ap (λ (x : Report). x.reply) o);
          trace_is = l ∙ walking_padded f.walking ∙ ap (λ (k : ℕ). padded k (take v.steps trace')) f.long
              ∙ ap (λ (x : Report). padded (length trace) x.trace) (sym o);
        }

    pub ends_stuck : {last : List ℕ} (n : ℕ) → report_from rules T most v cells' trace' ≡ no_run → last ≡ zeros n → n ≡ length trace
        → Leaves (guided rules T most (length trace) [] (walk_in w cells)) (length trace) NoRun last
    unfolding no_run padded
    ends_stuck n e l k =
        let o = whole_is ∙ e in
        let z : n ≡ length trace - 0 = omega arith in
        record {
          reply_is = sym (ap (λ (x : Report). x.reply) o);
          trace_is = l ∙ ap zeros z ∙ ap (λ (x : Report). padded (length trace) x.trace) (sym o);
        }
