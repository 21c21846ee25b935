-- The promises of replay, proved from demand 1, which leaves it one answer; for traces of guide also from demand 3.
-- Assumes nothing.
use Rattle.std.specs.Prelude.{ℕ, ◌+◌, ◌*◌, ◌/◌, ◌%◌, ◌≤◌, true, ◌≡◌, length}
use Rattle.std.proofs.lemmas.Bool.{false≢true}
use Rattle.std.proofs.Math.Path.{refl, ap}
use Rattle.std.proofs.Common.{ap₂, sym, ◌∙◌, subst}
use mathlib.Core.List.{List, [], ◌∷◌, map}
use native.Mathlib.Omega.{arith}
use Rattle.std.proofs.Math.ListN.{take}
use Rattle.std.proofs.Math.Seq.{take-length, take-append_seam}
use borrow.Author.Tests.{eqb-false}
use Rattle.words.specs.Lists.{each}
use Rattle.stacks.specs.System.{Configuration, Rule, Run}
use Rattle.stacks.proofs.Published.Laws.{run_transitions}
use Rattle.automata.specs.Acceptance.{in_target}
use Rattle.automata.specs.Saturation.{Saturated}
use Rattle.replies.specs.declared.Counts.{Counts}
use Rattle.replies.specs.declared.Halt.TheVariants.{Arrived}
use Rattle.replies.specs.declared.Reply.{Reply}
use Rattle.replies.specs.declared.Reply.TheVariants.{Walked}
use Rattle.replies.specs.declared.Replayed.{Replayed}
use Rattle.replies.specs.declared.Replayed.TheVariants.{Refused, Accepted, FailsAt}
use Rattle.files.specs.Bytes.{number, records}
use Rattle.files.specs.Case.{own_of, rules_of}
use Rattle.files.specs.Start.{starts_of, cells_of, configuration_at}
use Rattle.services.specs.Memory.{padded}
use Rattle.services.specs.Guide.{GuideInput, GuideDone, guide_files, cells_lent, guide_left, refused, guide_service}
use Rattle.services.proofs.Guide.Laws.{GuideCase, Started, guide_cases}
use Rattle.services.specs.Replay.{ReplayInput, ReplayDone, replay_files, rule_numbers, replay_cells, replay_service}
use Rattle.services.proofs.Replay.Laws.{Replays, replies}
use Rattle.guidance.specs.Halt.{Reason, arrival, trace_full, cells_short, halt_by, is_arrival}
use Rattle.demands.specs.Refusals.{Refusal, refusal, Returned, early_refusals, replay_refusals}
use Rattle.demands.specs.Refusals.Laws.{unlisted, returned_before, returned_then, returned_last, applies_here, applies_not, none_applies}
use Rattle.demands.specs.FullRun.{used, HaltsAfter, has_arrived}
use Rattle.demands.specs.Traces.{trace_of, RealFault, CellsMissing}
use Rattle.demands.specs.Traces.Laws.{accepts, fault_fits, fails_fits}
use Rattle.demands.specs.Demand1.{Answered, ReplayAnswered}
use Rattle.demands.proofs.Demand1.Proof.{demand1_guide, demand1_replay, ended_answered}
use Rattle.demands.specs.Demand3.{RunArrives, Walks, AnswersRun}
use Rattle.demands.proofs.Demand3.Proof.{guides, accepts_marked}
use Rattle.demands.proofs.Determined.{replay_only}
use Rattle.demands.specs.Replays.{Sound, AnswersExactly, ReplayExactly, AcceptedRuns, trace_bytes, replay_of, GuideAccepted}

-- ---- when each answer is given

module _ (x : ReplayInput) where
  -- what holds of a reply that is given, and that a reply of which it holds is given
  answered : {r : Replayed} → (replay_service x).reply ≡ r → ReplayAnswered x r
  answered e = subst (ReplayAnswered x) e (demand1_replay x).answered

  only_answer : (r : Replayed) → ReplayAnswered x r → (replay_service x).reply ≡ r
  only_answer r a = ap (λ (d : ReplayDone). d.reply) (sym (replay_only x (replies x r) (record { answered = a; cells_zero = refl })))

  abbrev short_line : Refusal ReplayInput
  short_line = refusal 11 CellsMissing

  -- no number applies
  unrefused : Sound x → (CellsMissing x → ⊥) → Returned replay_refusals x 0
  unfolding unlisted
  unrefused s h = returned_then early_refusals (short_line ∷ []) x 0 refl s (applies_not short_line [] x 0 h (none_applies x))

  sound : Returned replay_refusals x 0 → Sound x
  sound r = returned_before early_refusals (short_line ∷ []) x r

  -- for the contract of the code
  pub replay_answers : AnswersExactly x (replay_service x).reply
  unfolding unlisted
  replay_answers =
      record {
        accepted = (
          λ e. let (a, f) = answered e in (sound a, f),
          λ h. let (s, f) = h in only_answer Accepted (unrefused s (fault_fits x f), f),
        );
        fails = λ n. (
          λ e. let (a, f) = answered e in (sound a, f),
          λ h. let (s, f) = h in only_answer (FailsAt n) (unrefused s (fails_fits x f), f),
        );
        short = (
          λ e. let (a, bad) = answered e in returned_last early_refusals short_line x refl bad a,
          λ h.
              let (s, m) = h in
              only_answer (Refused 11)
              (returned_then early_refusals (short_line ∷ []) x 11 refl s (applies_here short_line [] x m), eqb-false 11 0 refl),
        );
      }

pub replay_exactly : ReplayExactly
replay_exactly = replay_answers

-- ---- an accepted trace is a run

pub accepted_runs : AcceptedRuns
accepted_runs x e =
    let (_, f) = answered x e in
    record { end = f.end; transitions = run_transitions (rules_of x.case) f.run; in_target_holds = f.in_target_holds }

-- ---- words as bytes

length_bytes : (ns : List ℕ) → length (trace_bytes ns) ≡ length ns * 2
unfolding trace_bytes each
length_bytes [] = refl
length_bytes (n ∷ ns) = let e = length_bytes ns in omega arith

records_numbers : (ns : List ℕ) → map number (records (length ns) 2 (trace_bytes ns)) ≡ ns
unfolding trace_bytes each records number
records_numbers [] = refl
records_numbers (n ∷ ns) = let e : n % 256 + 256 * (n / 256 + 256 * 0) ≡ n = omega arith in ap₂ ◌∷◌ e (records_numbers ns)

bytes_numbers : (ns : List ℕ) → rule_numbers (trace_bytes ns) ≡ ns
unfolding rule_numbers
bytes_numbers ns =
    let l = length_bytes ns in
    let h : length (trace_bytes ns) / 2 ≡ length ns = omega arith in
    ap (λ (n : ℕ). map number (records n 2 (trace_bytes ns))) h ∙ records_numbers ns

-- a trace of these rule numbers, which are a run that fits
fault_by : (y : ReplayInput) {ns : List ℕ} {d : Configuration} → trace_of y ≡ ns → Run (rules_of y.case) (configuration_at y.start y.number) ns d
    → in_target (own_of y.case) d ≡ true → used (rules_of y.case) (length (cells_of y.start)) ns (length ns) ≤ replay_cells y → RealFault y
fault_by y {ns} {d} e r t h = record { end = d; run = rw e r; in_target_holds = t; cells_suffice = rw e h }

-- ---- a walk that arrived

arrived_by : (r : Reason) (z c : Counts) → Walked (halt_by r z) ≡ Walked (Arrived c) → (r ≡ arrival) × (z ≡ c)
unfolding halt_by is_arrival
arrived_by arrival z c e = (refl, cc)
arrived_by trace_full z c e = absurd (false≢true (ap is_arrival e))
arrived_by cells_short z c e = absurd (false≢true (ap is_arrival e))

all_steps : {rules : List Rule} {first : ℕ} {ns : List ℕ} {c t m : ℕ} → HaltsAfter rules first ns c t m arrival → m ≡ length ns
all_steps (has_arrived e) = e

module _ (x : GuideInput) (c : Counts) (e : (guide_service x).reply ≡ Walked (Arrived c)) where
  -- no number applies
  arrived_started : (T : Saturated) × Started x T
  unfolding guide_left refused is_arrival
  arrived_started = go (guide_service x) (guide_cases x) e
    where
      go : (d : GuideDone) → GuideCase x d → d.reply ≡ Walked (Arrived c) → (T : Saturated) × Started x T
      go d (GuideCase.case_refused bad) z = absurd (false≢true (ap is_arrival z))
      go d (GuideCase.start_refused s bad) z = absurd (false≢true (ap is_arrival z))
      go d (GuideCase.start_missing s f h) z = absurd (false≢true (ap is_arrival z))
      go d (GuideCase.size_exceeded s f h o) z = absurd (false≢true (ap is_arrival z))
      go d (GuideCase.no_run_holds T s a m) z = (T, s)
      go d (GuideCase.is_open T s a m) z = (T, s)
      go d (GuideCase.cells_short T s a l) z = (T, s)
      go d (GuideCase.walked T s a l) z = (T, s)

  -- the full run of its start
  arrived_run : (r : RunArrives x.case x.start x.rounds x.number) × AnswersRun x r.trace (guide_service x)
  arrived_run =
      let (n, t, _, _) = subst (λ (r : Reply). Answered x r (guide_service x).trace) e (demand1_guide x).answered in
      guides x (length (starts_of x.start)) (accepts_marked x n t)

  -- All its steps are done,
  walks_all : {ns : List ℕ} → Walks x ns (guide_service x)
      → (c.steps ≡ length ns)
      × (c.cells ≡ used (rules_of x.case) (length (cells_of x.start)) ns (length ns))
      × ((guide_service x).trace ≡ padded x.trace ns)
  walks_all {ns} w =
      let (q, z) = arrived_by w.stops.reason _ c (sym w.reply_is ∙ e) in
      let h = subst (HaltsAfter (rules_of x.case) (length (cells_of x.start)) ns (cells_lent x) x.trace w.stops.steps) q w.stops.halts in
      let m : w.stops.steps ≡ length ns = all_steps h in (
        sym (ap (λ (k : Counts). k.steps) z) ∙ m,
        sym (ap (λ (k : Counts). k.cells) z) ∙ ap (used (rules_of x.case) (length (cells_of x.start)) ns) m,
        w.trace_is ∙ ap (λ (k : ℕ). padded x.trace (take k ns)) m ∙ ap (padded x.trace) (take-length ns),
      )

  -- written, and their cells fit.
  arrived_all : (ns : List ℕ) → AnswersRun x ns (guide_service x)
      → (take c.steps (guide_service x).trace ≡ ns)
      × (c.cells ≡ used (rules_of x.case) (length (cells_of x.start)) ns (length ns))
      × (c.cells ≤ cells_lent x)
  unfolding is_arrival used padded
  arrived_all ns a =
      let (_, u) = a.arrives_exactly.0 (ap is_arrival e) in
      let (m, k, t) = walks_all (a.walks (omega arith)) in
      (ap₂ take m t ∙ take-append_seam ns _, k, rw k u)

  -- A replay of them has cells, and is not refused before its first step.
  module _ (cells : ℕ) (enough : c.cells ≤ cells / 6) where
    abbrev replay : ReplayInput
    replay = replay_of x c.steps cells

    cells_enough : c.cells ≤ cells_lent x → c.cells ≤ replay_cells replay
    unfolding replay_of replay_cells cells_lent
    cells_enough h = omega arith

    replays_on : length (cells_of x.start) ≤ replay_cells replay → Replays replay
    unfolding replay_of replay_files guide_files
    replays_on h =
        let (T, s) = arrived_started in
        let l = length_bytes (take c.steps (guide_service x).trace) in
        record {
          sound_case = s.sound_case;
          sound_start = s.sound_start;
          start_there = s.start_there;
          even = λ o. absurd (omega arith);
          start_fits = h;
        }

    replay_accepted : (r : RunArrives x.case x.start x.rounds x.number) → AnswersRun x r.trace (guide_service x) → (replay_service replay).reply ≡ Accepted
    unfolding replay_of used
    replay_accepted r a =
        let (t, k, u) = arrived_all r.trace a in
        let n : trace_of replay ≡ r.trace = ap (λ (l : List ℕ). rule_numbers (trace_bytes l)) t ∙ bytes_numbers r.trace in
        let h : c.cells ≤ replay_cells replay = cells_enough u in
        let f : RealFault replay = fault_by replay n r.run r.in_target_holds (rw (← k) h) in
        only_answer replay Accepted (ended_answered replay (replays_on (omega arith)) Accepted (accepts f))

pub guide_accepted : GuideAccepted
guide_accepted x c cells e h = let (r, a) = arrived_run x c e in replay_accepted x c e cells h r a
