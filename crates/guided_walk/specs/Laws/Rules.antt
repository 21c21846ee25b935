-- The rule of the next step, as it is read from a body of bytes: it is the rule of that number, and its numbers are small.
-- Assumes nothing.
use Rattle.std.specs.Prelude.{ℕ, ◌<◌, ◌^◌, ◌≡◌, List, get_or}
use Rattle.std.proofs.Common.{ap, sym, ◌∙◌, subst, arith}
use Rattle.std.proofs.Math.Option.{some}
use Rattle.std.proofs.Math.ListN.{get_elem?}
use Rattle.stacks.specs.System.{Rule}
use Rattle.walks.specs.Guide as walks
use Rattle.files.specs.Case.{rule_bytes, rule_of}
use Rattle.bytes_in.specs.Records.{record_at}
use Rattle.tables.specs.declared.Table.{Table}
use Rattle.results.specs.Collecting.{rule_in, rules_in, RulesStand}
use Rattle.results.specs.Collecting.Laws.{next_small}
use Rattle.cell_steps.specs.declared.Top.{Top}
use Rattle.cell_steps.specs.Steps.{symbol_of}
use Rattle.cell_steps.specs.Steps.Laws.{rule_symbols}
use Rattle.cell_steps.specs.Steps.Choices.{top_state}
use Rattle.saturation.specs.Held.{saturated_in}
use Rattle.guided_step.specs.Step.{Taken}
use Rattle.guided_step.specs.Step.Laws.{rule_numbered}
use Rattle.guided_walk.specs.Stepped.{moves_only, StepStands}
use Rattle.guided_walk.specs.Stepped.Laws.{state_same}

-- ---- a rule of a body

pub rule_read : (count n : ℕ) (body : List ℕ) {ρ σ : Rule} → get_elem? (rules_in count body) n ≡ some ρ → σ ≡ rule_of (rule_bytes (record_at 5 n body)) → σ ≡ ρ
unfolding rule_in
rule_read count n body e f = f ∙ sym (rule_numbered count body n e).1

-- ---- a step by it

-- what the next step asks
pub step_stands : (z : Table) (inner entries moves : List ℕ) (k : ℕ) (sizes : List ℕ) (count : ℕ) (body : List ℕ) {w : walks.Walk} {o : walks.Next} {x : Top}
    {n p : ℕ} {es ms : List ℕ} {σ : Rule} → RulesStand count body → ((i : ℕ) → get_or body i 0 < 256)
    → Taken (rules_in count body) (saturated_in z inner entries moves k sizes) w o x n p es ms → σ ≡ rule_of (rule_bytes (record_at 5 n body))
    → x.annotation < 2 ^ 16 → x.below < 2 ^ 16 → StepStands (moves_only z moves) σ.operation σ.next p x
step_stands z inner entries moves k sizes count body {n = n} {p} {σ = σ} rs bytes t e a b =
    let r : σ ≡ t.rule = rule_read count n body t.numbered e in
    let same : top_state (saturated_in z inner entries moves k sizes).table t.rule.operation p ≡ top_state (moves_only z moves) σ.operation p =
    ap (λ (ρ : Rule). top_state (saturated_in z inner entries moves k sizes).table ρ.operation p) (sym r)
    ∙ sym (state_same z inner entries moves σ.operation p) in
    record {
      premise_small = t.small.premise_small;
      state_small = subst (λ (m : ℕ). m < 64) same t.small.state_small;
      control_small = next_small count n body σ rs (rule_numbered count body n t.numbered).0 e;
      symbol_small = let small : symbol_of σ.operation < 256 = (rule_symbols n body bytes e).1 in omega arith;
      annotation_small = a;
      below_small = b;
    }
