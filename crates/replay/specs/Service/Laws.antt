-- What the service leaves is what its definition says, and meets the promises.
-- Assumes nothing.
use Prim.Native.Nat.{ℕ, ◌*◌, ◌%◌, ◌/◌, min, ◌≤◌, ◌<◌}
use Rattle.std.specs.Prelude.{Result, Bool, true, false, ◌≡◌, refl, List, [], eqb, leb}
use Rattle.std.proofs.Math.Path.{ap, sym}
use Rattle.std.proofs.Common.{◌∙◌, subst}
use native.Mathlib.Omega.{arith}
use Rattle.std.proofs.Math.ListN.{length}
use Rattle.std.proofs.Math.Seq.{drop-length}
use borrow.Author.Tests.{eqb-true, eqb-false, leb-true, leb-false}
use Rattle.words.specs.Lists.{zeros}
use Rattle.words.specs.Laws.Tests.{by_test}
use Rattle.stacks.specs.System.{Configuration, Rule}
use Rattle.automata.specs.Automaton.{Automaton}
use Rattle.automata.specs.Acceptance.{in_target}
use Rattle.replies.specs.declared.Replayed.{Replayed}
use Rattle.replies.specs.declared.Replayed.TheVariants.{Refused}
use Rattle.files.specs.Bytes.{count_of}
use Rattle.files.specs.Case.{case_refusal, own_of, rules_of}
use Rattle.files.specs.Start.{start_refusal, starts_of, cells_of, configuration_at}
use Rattle.services.specs.Replay.{ReplayInput, ReplayDone, replay_files, rule_numbers, replay_cells, replay_refusal, replayed, replay_run, replay_reply, replay_service}
use Rattle.services.proofs.Replay.Laws.{Replays, replayed_arrived, replayed_missed, replay_refused, replay_run_lem, refusal_case, refusal_start, refusal_missing, refusal_odd, refusal_short, refusal_none}
use Rattle.demands.specs.Demand1.{ReplayStates}
use Rattle.demands.proofs.Demand1.Proof.{demand1_replay}
use Rattle.demands.specs.Replays.{AnswersExactly}
use Rattle.demands.proofs.Replays.Proof.{replay_answers}
use Rattle.start_file.specs.Checks.{files_of}
use Rattle.sound_files.specs.Refusal.{FilesSound, number_refusal}
use Rattle.sound_files.specs.Refusal.Laws.{before_case, before_start, before_past, before_below, sound_before, not_past}
use Rattle.sound_files.specs.Sound.Laws.{cells_count}
use Rattle.replay_step.specs.declared.Place.{Place}
use Rattle.replay_step.specs.Place.{place_configuration}
use Rattle.replay_trace.specs.Turns.{TraceFollows, TraceEnds}
use Rattle.replay.specs.Start.{StartPlace}
use Rattle.replay.specs.Service.{replay_input, replay_done, lent_cells, arrival_answer}

-- ---- the refusal

module _ (case start : List ℕ) (number : ℕ) (trace : List ℕ) (bytes : ℕ) where
  abbrev x : ReplayInput
  x = replay_input case start number trace bytes

  -- by the files and the number of starts
  pub refusal_files : {f : ℕ} → f ≡ number_refusal case start number → (f ≡ 0 → ⊥) → f ≡ replay_refusal (replay_input case start number trace bytes)
  unfolding replay_files
  refusal_files {f} e bad =
      by_test (eqb (case_refusal case) 0)
      (λ c.
      let sound = eqb-true _ 0 c in
      by_test (eqb (start_refusal (files_of case start)) 0)
      (λ s.
      let files : FilesSound case start = record { sound_case = sound; sound_start = eqb-true _ 0 s } in
      by_test (leb (length (starts_of start)) number)
      (λ h. let l = leb-true _ _ h in e ∙ before_past case start number 0 7 files l ∙ sym (refusal_missing x sound (eqb-true _ 0 s) l))
      (λ h. absurd (bad (e ∙ before_below case start number 0 7 files (leb-false _ _ h)))))
      (λ s. let no = eqb-false _ 0 s in e ∙ before_start case start number 0 7 sound no ∙ sym (refusal_start x sound no)))
      (λ c. let no = eqb-false _ 0 c in e ∙ before_case case start number 0 7 no ∙ sym (refusal_case x no))

  module _ {f : ℕ} (e : f ≡ number_refusal case start number) (none : f ≡ 0) where
    sound : FilesSound case start
    sound = sound_before case start number 0 7 (sym e ∙ none)

    there : number < length (starts_of start)
    there = not_past case start number 0 7 (sym e ∙ none) (omega arith)

    pub refusal_10 : length trace % 2 ≡ 1 → 10 ≡ replay_refusal (replay_input case start number trace bytes)
    unfolding replay_files
    refusal_10 h = sym (refusal_odd x sound.sound_case sound.sound_start there h)

    module _ (even : length trace % 2 ≡ 1 → ⊥) {c n : ℕ} (cells : c ≡ lent_cells bytes) (count : n ≡ count_of start 1) where
      pub refusal_11 : c < n → 11 ≡ replay_refusal (replay_input case start number trace bytes)
      unfolding replay_files replay_cells
      refusal_11 h =
          let k = cells_count start in
          sym (refusal_short x sound.sound_case sound.sound_start there even (omega arith))

      pub refusal_0 : n ≤ c → 0 ≡ replay_refusal (replay_input case start number trace bytes)
      unfolding replay_files replay_cells
      refusal_0 h =
          let k = cells_count start in
          sym (refusal_none x (record {
            sound_case = sound.sound_case;
            sound_start = sound.sound_start;
            start_there = there;
            even = even;
            start_fits = omega arith;
          }))

-- ---- the answer

module _ (rules : List Rule) (own : Automaton) (most n used : ℕ) (d : Configuration) where
  -- at the end of the trace
  arrival_is : (t : Bool) → t ≡ in_target own d → arrival_answer t n ≡ replayed rules own most n used d []
  arrival_is true e = sym (replayed_arrived rules own most n used d (sym e))
  arrival_is false e = sym (replayed_missed rules own most n used d (sym e))

-- what the steps come to, where that is known
pub ended_as : (rules : List Rule) (most : ℕ) (ks : List ℕ) (w : Place) (bytes bytes' : List ℕ) {e f : Result Place Replayed} → TraceEnds rules most ks w bytes e bytes' → e ≡ f
    → TraceEnds rules most ks w bytes f bytes'
ended_as rules most ks w bytes bytes' a e = subst (λ (x : Result Place Replayed). TraceEnds rules most ks w bytes x bytes') e a

-- after all steps
pub answer_is : {rules : List Rule} {most : ℕ} {ks : List ℕ} {w : Place} {bytes : List ℕ} {v : Place} {bytes' : List ℕ} {r : Replayed} {n : ℕ} (own : Automaton)
    → TraceFollows rules most ks w bytes (length ks) v bytes' → n ≡ length ks → r ≡ arrival_answer (in_target own (place_configuration v bytes')) n
    → replayed rules own most 0 w.cells (place_configuration w bytes) ks ≡ r
answer_is {rules} {most} {ks} {w} {bytes} {v} {bytes'} {r} {n} own F k e =
    F.same own ∙ ap (replayed rules own most (length ks) v.cells (place_configuration v bytes')) (drop-length ks)
    ∙ sym (arrival_is rules own most (length ks) v.cells (place_configuration v bytes') (in_target own (place_configuration v bytes')) refl)
    ∙ ap (arrival_answer (in_target own (place_configuration v bytes'))) (sym k) ∙ sym e

-- from the place of a start
pub from_start : {rules : List Rule} {w : Place} {bytes : List ℕ} {r : Replayed} (case start : List ℕ) (n most : ℕ) (ks : List ℕ)
    → rules ≡ rules_of case → StartPlace start n w bytes → replayed rules (own_of case) most 0 w.cells (place_configuration w bytes) ks ≡ r
    → r ≡ replayed (rules_of case) (own_of case) most 0 (length (cells_of start)) (configuration_at start n) ks
from_start case start n most ks e S f =
    sym f ∙ λ i. replayed (e i) (own_of case) most 0 (S.cells_are i) (S.configuration_is i) ks

-- ---- the service

module _ (case start : List ℕ) (number : ℕ) (trace : List ℕ) (bytes : ℕ) where
  abbrev y : ReplayInput
  y = replay_input case start number trace bytes

  -- where there is no refusal before the first step
  ready : replay_refusal (replay_input case start number trace bytes) ≡ 0 → Replays (replay_input case start number trace bytes)
  unfolding replay_files
  ready z =
      let sound : case_refusal case ≡ 0 = by_test (eqb (case_refusal case) 0) (λ t. eqb-true _ 0 t)
      (λ t. let no = eqb-false _ 0 t in absurd (no (sym (refusal_case y no) ∙ z))) in
      let s : start_refusal (files_of case start) ≡ 0 = by_test (eqb (start_refusal (files_of case start)) 0) (λ t. eqb-true _ 0 t)
      (λ t. let no = eqb-false _ 0 t in absurd (no (sym (refusal_start y sound no) ∙ z))) in
      let there : number < length (starts_of start) = by_test (leb (length (starts_of start)) number)
      (λ t. let e = refusal_missing y sound s (leb-true _ _ t) in absurd (omega arith))
      (λ t. leb-false _ _ t) in
      let even : length trace % 2 ≡ 1 → ⊥ = λ o. let e = refusal_odd y sound s there o in absurd (omega arith) in
      record {
        sound_case = sound;
        sound_start = s;
        start_there = there;
        even = even;
        start_fits = by_test (leb (length (cells_of start)) (replay_cells y))
            (λ t. leb-true _ _ t)
            (λ t. let e = refusal_short y sound s there even (leb-false _ _ t) in absurd (omega arith));
      }

  -- what the replay asks
  pub run_ready : {c : ℕ} → 0 ≡ replay_refusal (replay_input case start number trace bytes) → c ≡ lent_cells bytes
      → FilesSound case start × (number < length (starts_of start)) × (length (cells_of start) ≤ c) × (c * 6 ≤ bytes) × (c ≤ 4096)
  unfolding replay_files replay_cells
  run_ready {c} e k =
      let r = ready (sym e) in
      let fits : length (cells_of start) ≤ min (bytes / 6) 4096 = r.start_fits in
      (record { sound_case = r.sound_case; sound_start = r.sound_start }, r.start_there, omega arith, omega arith, omega arith)

  -- what is answered
  pub reply_refused : {n : ℕ} → n ≡ replay_refusal (replay_input case start number trace bytes) → (n ≡ 0 → ⊥)
      → Refused n ≡ (replay_service (replay_input case start number trace bytes)).reply
  unfolding replay_service
  reply_refused {n} e bad = sym (replay_refused y n bad) ∙ ap (replay_reply y) e

  pub reply_run : {c : ℕ} {r : Replayed} → 0 ≡ replay_refusal (replay_input case start number trace bytes) → c ≡ lent_cells bytes
      → r ≡ replayed (rules_of case) (own_of case) c 0 (length (cells_of start)) (configuration_at start number) (rule_numbers trace)
      → r ≡ (replay_service (replay_input case start number trace bytes)).reply
  unfolding replay_service replay_run replay_cells
  reply_run {c} {r} e k f =
      f ∙ ap (λ (m : ℕ). replayed (rules_of case) (own_of case) m 0 (length (cells_of start)) (configuration_at start number) (rule_numbers trace)) k
      ∙ sym (replay_run_lem y) ∙ ap (replay_reply y) e

  -- and what is left
  pub left : {r : Replayed} {bytes' : List ℕ} → bytes' ≡ zeros bytes → r ≡ (replay_service (replay_input case start number trace bytes)).reply
      → replay_done r bytes' ≡ replay_service (replay_input case start number trace bytes)
  unfolding replay_service
  left zero g = λ i. record { reply = g i; cells = zero i }

-- ---- the promises

pub meets : (x : ReplayInput) (d : ReplayDone) → d ≡ replay_service x → (d ≡ replay_service x) × (ReplayStates x d × AnswersExactly x d.reply)
meets x d e = (e, (subst (ReplayStates x) (sym e) (demand1_replay x), subst (λ (z : ReplayDone). AnswersExactly x z.reply) (sym e) (replay_answers x)))
