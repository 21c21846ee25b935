-- The demands leave nothing open: demand 1 leaves saturate, judge, replay and brackets one answer to each input, and demands 1 and 3 leave guide one.
-- Assumes nothing.
use Rattle.std.specs.Prelude.{ℕ, zero, suc, ◌≤◌, ◌<◌, min, true, false, ◌≡◌, refl, List, length, take, eqb, leb}
use Rattle.std.proofs.lemmas.Bool.{false≢true, eqb-false}
use Rattle.std.proofs.Common.{ap, ap₂, sym, ◌∙◌, subst, arith, ext_get_or, eqb-true, leb-true, leb-false}
use Rattle.words.specs.Laws.Tests.{by_test}
use Rattle.stacks.specs.System.{Rule}
use Rattle.automata.specs.Automaton.{Automaton}
use Rattle.replies.specs.declared.Reply.{Reply}
use Rattle.replies.specs.declared.Reply.TheVariants.{Refused, NoRun, Open, Walked}
use Rattle.replies.specs.Numbers.{open_word}
use Rattle.replies.specs.declared.Replayed.{Replayed}
use Rattle.replies.specs.declared.Brackets.{Brackets}
use Rattle.files.specs.Case.{rules_of}
use Rattle.files.specs.Start.{starts_of, cells_of}
use Rattle.services.specs.Memory.{padded, move_table, entry_table}
use Rattle.services.specs.Saturate.{Lent, SaturateDone, saturate_service}
use Rattle.services.specs.Judge.{JudgeInput, JudgeDone, judge_service}
use Rattle.services.specs.Guide.{GuideInput, GuideDone, cells_lent, guide_service}
use Rattle.services.specs.Replay.{ReplayInput, ReplayDone, replay_service}
use Rattle.services.specs.Brackets.{BracketsInput, BracketsDone, brackets_service}
use Rattle.guidance.specs.Halt.{Reason, halt_by}
use Rattle.demands.specs.Reach.{WonIn, Marks, accepted_in, RoundsThatAdd, Yes}
use Rattle.demands.specs.Reach.Laws.{adds_not}
use Rattle.demands.specs.Size.Laws.{one_saturated}
use Rattle.demands.specs.Refusals.{Returned, saturate_refusals, judge_refusals, guide_refusals, replay_refusals, brackets_refusals}
use Rattle.demands.specs.Refusals.Laws.{returned_one}
use Rattle.demands.specs.Traces.Laws.{fails_once, fault_fails_not}
use Rattle.demands.specs.FullRun.{used, HaltsAfter, has_arrived, is_full, is_short, Stops}
use Rattle.demands.proofs.FullRun.Laws.{one_full_run}
use Rattle.demands.specs.Demand1.{SaturateStates, JudgeStates, Answered, GuideStates, ReplayAnswered, ReplayStates, BracketsAnswered, BracketsStates}
use Rattle.demands.proofs.Demand1.Proof.{demand1_saturate, demand1_judge, demand1_guide, demand1_replay, demand1_brackets}
use Rattle.demands.specs.Demand2.{judge_for}
use Rattle.demands.specs.Demand3.{MarkedYes, AnswersRun, Guides}
use Rattle.demands.proofs.Demand3.Proof.{guides, accepts_marked}

-- ---- saturate

saturate_done : {d e : SaturateDone} → d.reply.code ≡ e.reply.code → d.reply.moves ≡ e.reply.moves → d.reply.entries ≡ e.reply.entries
    → d.moves ≡ e.moves → d.entries ≡ e.entries → d ≡ e
saturate_done c m n ms es = λ i. record { reply = record { code = c i; moves = m i; entries = n i }; moves = ms i; entries = es i }

-- two answers of which demand 1 holds are one
saturate_one : (x : Lent) {d e : SaturateDone} → SaturateStates x d → SaturateStates x e → d ≡ e
saturate_one x {d} {e} s t =
    let c : d.reply.code ≡ e.reply.code = returned_one saturate_refusals x s.number t.number in
    by_test (eqb d.reply.code 0)
    (λ z.
    let f = s.done (eqb-true _ 0 z) in
    let g = t.done (sym c ∙ eqb-true _ 0 z) in
    let a : f.table ≡ g.table = one_saturated x.case f.saturated g.saturated in
    saturate_done c
    (f.move_count_holds ∙ ap (λ (A : Automaton). length A.moves) a ∙ sym g.move_count_holds)
    (f.entry_count ∙ ap (λ (A : Automaton). length A.entries) a ∙ sym g.entry_count)
    (f.moves_are ∙ ap (λ (A : Automaton). padded x.moves (move_table A)) a ∙ sym g.moves_are)
    (f.entries_are ∙ ap (λ (A : Automaton). padded x.entries (entry_table A)) a ∙ sym g.entries_are))
    (λ z.
    let bad = eqb-false _ 0 z in
    let f = s.refused bad in
    let g = t.refused (λ q. bad (c ∙ q)) in
    saturate_done c
    (f.move_count_holds ∙ sym g.move_count_holds)
    (f.entry_count ∙ sym g.entry_count)
    (f.moves_zero ∙ sym g.moves_zero)
    (f.entries_zero ∙ sym g.entries_zero))

-- Demand 1 leaves saturate one answer.
pub saturate_only : (x : Lent) (d : SaturateDone) → SaturateStates x d → d ≡ saturate_service x
saturate_only x d s = saturate_one x s (demand1_saturate x)

-- ---- judge

-- a start has one word
mark_one : (case start : List ℕ) (rounds n a b : ℕ) → Marks case start rounds n a → Marks case start rounds n b → a ≡ b
mark_one case start rounds n zero b m k = sym (k.no_left.1 (m.no_left.0 refl))
mark_one case start rounds n (suc r) b m k =
    by_test (eqb (suc r) open_word)
    (λ t. let e : suc r ≡ open_word = eqb-true _ _ t in e ∙ sym (k.is_open.1 (m.is_open.0 e)))
    (λ t.
    let y : Yes (suc r) = (λ e. absurd (omega arith), eqb-false _ _ t) in
    let w : WonIn case start n r = (m.round y r).0 refl in
    sym ((k.round (k.yes.1 (m.yes.0 y)) r).1 w))

-- there is one number of rounds that add a move
adding_one : (case : List ℕ) (m k : ℕ) → RoundsThatAdd case m → RoundsThatAdd case k → m ≡ k
adding_one case m k a b =
    let l : m ≤ k = no_more m k a b in
    let h : k ≤ m = no_more k m b a in
    omega arith
  where
    no_more : (m k : ℕ) → RoundsThatAdd case m → RoundsThatAdd case k → m ≤ k
    no_more m k a b = by_test (leb m k) (λ t. leb-true _ _ t) (λ t. absurd (adds_not case k (a.each_adds k (leb-false _ _ t)) b.then_nothing))

judge_done_lem : {d e : JudgeDone} → d.code ≡ e.code → d.rounds ≡ e.rounds → d.moves ≡ e.moves → d.entries ≡ e.entries → d.answers ≡ e.answers → d ≡ e
judge_done_lem c r ms es bs = λ i. record { code = c i; rounds = r i; moves = ms i; entries = es i; answers = bs i }

judge_one : (x : JudgeInput) {d e : JudgeDone} → JudgeStates x d → JudgeStates x e → d ≡ e
judge_one x {d} {e} s t =
    let c : d.code ≡ e.code = returned_one judge_refusals x s.number t.number in
    judge_done_lem c
    (by_test (eqb d.code 0)
    (λ z.
    let f = s.counted (eqb-true _ 0 z) in
    let g = t.counted (sym c ∙ eqb-true _ 0 z) in
    f.count_is ∙ ap (min x.rounds) (adding_one x.case f.rounds g.rounds f.all_that_add g.all_that_add) ∙ sym g.count_is)
    (λ z.
    let bad = eqb-false _ 0 z in
    (s.refused bad).1 ∙ sym (t.refused (λ q. bad (c ∙ q))).1))
    (s.moves_zero ∙ sym t.moves_zero) (s.entries_zero ∙ sym t.entries_zero)
    (by_test (eqb d.code 0)
    (λ z.
    let f = s.done (eqb-true _ 0 z) in
    let g = t.done (sym c ∙ eqb-true _ 0 z) in
    let m : f.marks ≡ g.marks = ext_get_or 0 f.marks g.marks (f.one_a_start ∙ sym g.one_a_start) (λ n l.
    let k : n < length (starts_of x.start) = rw f.one_a_start at l in
    mark_one x.case x.start x.rounds n _ _ (f.each_mark n k) (g.each_mark n k)) in
    f.answers_are ∙ ap (padded x.answers) m ∙ sym g.answers_are)
    (λ z.
    let bad = eqb-false _ 0 z in
    (s.refused bad).0 ∙ sym (t.refused (λ q. bad (c ∙ q))).0))

-- Demand 1 leaves judge one answer.
pub judge_only : (x : JudgeInput) (d : JudgeDone) → JudgeStates x d → d ≡ judge_service x
judge_only x d s = judge_one x s (demand1_judge x)

-- ---- guide

-- a run halts after one number of steps, for one reason
reason_one : {rules : List Rule} {first : ℕ} {ns : List ℕ} {c t m : ℕ} {r q : Reason} → HaltsAfter rules first ns c t m r → HaltsAfter rules first ns c t m q → r ≡ q
reason_one (has_arrived e) (has_arrived f) = refl
reason_one (has_arrived e) (is_full l f) = absurd (omega arith)
reason_one (has_arrived e) (is_short l f g) = absurd (omega arith)
reason_one (is_full l e) (has_arrived f) = absurd (omega arith)
reason_one (is_full l e) (is_full k f) = refl
reason_one (is_full l e) (is_short k f g) = absurd (f e)
reason_one (is_short l e h) (has_arrived f) = absurd (omega arith)
reason_one (is_short l e h) (is_full k f) = absurd (e f)
reason_one (is_short l e h) (is_short k f g) = refl

stops_one : {rules : List Rule} {first : ℕ} {ns : List ℕ} {c t : ℕ} (s q : Stops rules first ns c t) → (s.steps ≡ q.steps) × (s.reason ≡ q.reason)
stops_one {rules} {first} {ns} {c} {t} s q =
    let l : q.steps ≤ s.steps = by_test (leb q.steps s.steps) (λ z. leb-true _ _ z) (λ z. absurd (q.least s.steps s.reason (leb-false _ _ z) s.halts)) in
    let k : s.steps ≤ q.steps = by_test (leb s.steps q.steps) (λ z. leb-true _ _ z) (λ z. absurd (s.least q.steps q.reason (leb-false _ _ z) q.halts)) in
    let e : s.steps ≡ q.steps = omega arith in
    (e, reason_one (subst (λ (m : ℕ). HaltsAfter rules first ns c t m s.reason) e s.halts) q.halts)

-- two answers by one full run are one
answers_one : (x : GuideInput) (ns : List ℕ) {d e : GuideDone} → AnswersRun x ns d → AnswersRun x ns e → (d.reply ≡ e.reply) × (d.trace ≡ e.trace)
answers_one x ns {d} {e} a b =
    by_test (leb (length (cells_of x.start)) (cells_lent x))
    (λ z.
    let l = leb-true _ _ z in
    let v = a.walks l in
    let w = b.walks l in
    let (k, r) = stops_one v.stops w.stops in (
      v.reply_is
          ∙ ap₂ (λ (q : Reason) (m : ℕ). Walked (halt_by q (record { steps = m; cells = used (rules_of x.case) (length (cells_of x.start)) ns m }))) r k
          ∙ sym w.reply_is,
      v.trace_is ∙ ap (λ (m : ℕ). padded x.trace (take m ns)) k ∙ sym w.trace_is,
    ))
    (λ z.
    let l = leb-false _ _ z in
    let v = a.too_short l in
    let w = b.too_short l in
    (v.reply_is ∙ sym w.reply_is, v.trace_is ∙ sym w.trace_is))

-- Demand 3 leaves one reply and one trace for a start marked yes.
pub run_only : (x : GuideInput) (d : GuideDone) (answers : ℕ) → MarkedYes (judge_for x answers) x.number → Guides x d
    → (d.reply ≡ (guide_service x).reply) × (d.trace ≡ (guide_service x).trace)
run_only x d answers y g =
    let (p, a) = g answers y in
    let (q, b) = guides x answers y in
    answers_one x q.trace (subst (λ (ns : List ℕ). AnswersRun x ns d) (one_full_run p.full q.full).0 a) b

guide_done_lem : {d e : GuideDone} → d.reply ≡ e.reply → d.moves ≡ e.moves → d.entries ≡ e.entries → d.cells ≡ e.cells → d.trace ≡ e.trace → d ≡ e
guide_done_lem r ms es cs ts = λ i. record { reply = r i; moves = ms i; entries = es i; cells = cs i; trace = ts i }

-- Demands 1 and 3 leave guide one answer.
pub guide_only : (x : GuideInput) (d : GuideDone) → GuideStates x d → Guides x d → d ≡ guide_service x
guide_only x d s g =
    let t = demand1_guide x in
    let (r, k) = same d.reply d.trace (guide_service x).reply (guide_service x).trace s.answered t.answered (λ n runs.
    run_only x d (length (starts_of x.start)) (accepts_marked x n runs) g) in
    guide_done_lem r (s.moves_zero ∙ sym t.moves_zero) (s.entries_zero ∙ sym t.entries_zero) (s.cells_zero ∙ sym t.cells_zero) k
  where
    -- a start that is not accepted is not
    not_both : accepted_in x.case x.start x.number x.rounds ≡ false → accepted_in x.case x.start x.number x.rounds ≡ true → ⊥
    not_both z t = false≢true (sym z ∙ t)

    same : (u : Reply) (v : List ℕ) (w : Reply) (z : List ℕ) → Answered x u v → Answered x w z
        → (Returned guide_refusals x 0 → accepted_in x.case x.start x.number x.rounds ≡ true → (u ≡ w) × (v ≡ z)) → (u ≡ w) × (v ≡ z)
    same (Refused n) v (Refused m) z (a, _, b) (c, _, f) k = (ap Refused (returned_one guide_refusals x a c), b ∙ sym f)
    same (Refused n) v NoRun z (a, bad, _) (c, _, _, _, _) k = absurd (bad (returned_one guide_refusals x a c))
    same (Refused n) v Open z (a, bad, _) (c, _, _, _) k = absurd (bad (returned_one guide_refusals x a c))
    same (Refused n) v (Walked j) z (a, bad, _) (c, _, _, _) k = absurd (bad (returned_one guide_refusals x a c))
    same NoRun v (Refused m) z (a, _, _, _, _) (c, bad, _) k = absurd (bad (returned_one guide_refusals x c a))
    same NoRun v NoRun z (_, _, _, _, b) (_, _, _, _, f) k = (refl, b ∙ sym f)
    same NoRun v Open z (_, _, still, _, _) (_, _, adds, _) k = absurd (adds_not x.case x.rounds adds still)
    same NoRun v (Walked j) z (_, n, _, _, _) (_, t, _, _) k = absurd (not_both n t)
    same Open v (Refused m) z (a, _, _, _) (c, bad, _) k = absurd (bad (returned_one guide_refusals x c a))
    same Open v NoRun z (_, _, adds, _) (_, _, still, _, _) k = absurd (adds_not x.case x.rounds adds still)
    same Open v Open z (_, _, _, b) (_, _, _, f) k = (refl, b ∙ sym f)
    same Open v (Walked j) z (_, n, _, _) (_, t, _, _) k = absurd (not_both n t)
    same (Walked i) v (Refused m) z (a, _, _, _) (c, bad, _) k = absurd (bad (returned_one guide_refusals x c a))
    same (Walked i) v NoRun z (_, t, _, _) (_, n, _, _, _) k = absurd (not_both n t)
    same (Walked i) v Open z (_, t, _, _) (_, n, _, _) k = absurd (not_both n t)
    same (Walked i) v (Walked j) z (a, t, _, _) (c, _, _, _) k = k a t

-- ---- replay

replayed_one : (x : ReplayInput) (u w : Replayed) → ReplayAnswered x u → ReplayAnswered x w → u ≡ w
replayed_one x (Replayed.Refused n) (Replayed.Refused m) (a, _) (c, _) = ap Replayed.Refused (returned_one replay_refusals x a c)
replayed_one x (Replayed.Refused n) Replayed.Accepted (a, bad) (c, _) = absurd (bad (returned_one replay_refusals x a c))
replayed_one x (Replayed.Refused n) (Replayed.FailsAt m) (a, bad) (c, _) = absurd (bad (returned_one replay_refusals x a c))
replayed_one x Replayed.Accepted (Replayed.Refused m) (a, _) (c, bad) = absurd (bad (returned_one replay_refusals x c a))
replayed_one x Replayed.Accepted Replayed.Accepted a c = refl
replayed_one x Replayed.Accepted (Replayed.FailsAt m) (_, f) (_, s) = absurd (fault_fails_not x f s)
replayed_one x (Replayed.FailsAt n) (Replayed.Refused m) (a, _) (c, bad) = absurd (bad (returned_one replay_refusals x c a))
replayed_one x (Replayed.FailsAt n) Replayed.Accepted (_, s) (_, f) = absurd (fault_fails_not x f s)
replayed_one x (Replayed.FailsAt n) (Replayed.FailsAt m) (_, s) (_, t) = ap Replayed.FailsAt (fails_once x s t)

replay_done_lem : {d e : ReplayDone} → d.reply ≡ e.reply → d.cells ≡ e.cells → d ≡ e
replay_done_lem r cs = λ i. record { reply = r i; cells = cs i }

-- Demand 1 leaves replay one answer.
pub replay_only : (x : ReplayInput) (d : ReplayDone) → ReplayStates x d → d ≡ replay_service x
replay_only x d s =
    let t = demand1_replay x in
    replay_done_lem (replayed_one x d.reply (replay_service x).reply s.answered t.answered) (s.cells_zero ∙ sym t.cells_zero)

-- ---- brackets

brackets_done_lem : {d e : BracketsDone} → (d.reply ≡ e.reply) × (d.text ≡ e.text) → d ≡ e
brackets_done_lem (r, t) = λ i. record { reply = r i; text = t i }

brackets_one : (x : BracketsInput) {d e : BracketsDone} → BracketsStates x d → BracketsStates x e → d ≡ e
brackets_one x {d} {e} s t = brackets_done_lem (same d.reply d.text e.reply e.text s.answered t.answered)
  where
    same : (u : Brackets) (v : List ℕ) (w : Brackets) (z : List ℕ) → BracketsAnswered x u v → BracketsAnswered x w z → (u ≡ w) × (v ≡ z)
    same (Brackets.Refused n) v (Brackets.Refused m) z (a, _, b) (c, _, f) = (ap Brackets.Refused (returned_one brackets_refusals x a c), b ∙ sym f)
    same (Brackets.Refused n) v (Brackets.Printed m) z (a, bad, b) (c, _, f) = absurd (bad (returned_one brackets_refusals x a c))
    same (Brackets.Printed k) v (Brackets.Refused m) z (a, _, b) (c, bad, f) = absurd (bad (returned_one brackets_refusals x c a))
    same (Brackets.Printed k) v (Brackets.Printed m) z (a, l, b) (c, h, f) = (ap Brackets.Printed (l ∙ sym h), b ∙ sym f)

-- Demand 1 leaves brackets one answer.
pub brackets_only : (x : BracketsInput) (d : BracketsDone) → BracketsStates x d → d ≡ brackets_service x
brackets_only x d s = brackets_one x s (demand1_brackets x)
