-- A record keeps its bounds exactly if each part does.
-- Assumes nothing.
use Rattle.std.specs.Prelude.{ℕ, zero, suc, ◌+◌, ◌≤◌, false, ◌&&◌, ◌≡◌, refl, ltb, leb}
use Rattle.std.proofs.Common.{arith}
use Rattle.words.specs.Sets.{members}
use Rattle.words.specs.Lists.{every}
use Rattle.words.specs.Lists.Laws.{every_both}
use Rattle.files.specs.Case.{Head, inner2, existing2, EdgeBytes, edge_right, annotation_right}
use Rattle.case_records.specs.Bounds.{first_right}

-- ---- the tests by their parts

pub inner2_parts : (h : Head) (s : ℕ) → inner2 h s ≡ every (λ q. leb h.P q) (members s) && existing2 h s
unfolding inner2 existing2
inner2_parts h s = every_both (λ q. leb h.P q) (λ q. ltb q (h.P + h.I)) (members s)

pub edge_parts : (h : Head) (x : EdgeBytes) → edge_right h x ≡ first_right h x && ltb x.state (h.P + h.I) && inner2 h x.S
unfolding edge_right first_right
edge_parts h x = refl

-- ---- annotations, by their order

pub annotation_more : (h : Head) (order B : ℕ) → 3 ≤ order → annotation_right h order B ≡ false
unfolding annotation_right
annotation_more h zero B n = absurd (omega arith)
annotation_more h (suc zero) B n = absurd (omega arith)
annotation_more h (suc (suc zero)) B n = absurd (omega arith)
annotation_more h (suc (suc (suc k))) B n = refl
