-- What replay answers, case by case, and step by step.
-- Assumes nothing.
use Rattle.std.specs.Prelude.{ℕ, suc, ◌+◌, ◌%◌, ◌≤◌, ◌<◌, true, false, ◌≡◌, refl, length}
use Rattle.std.proofs.Common.{ap, sym, ◌∙◌}
use Rattle.std.proofs.Math.Path.{subst}
use Rattle.std.proofs.Math.Option.{Option, none, some, some-injective, none-ne-some}
use mathlib.Core.List.{List, [], ◌∷◌, ◌++◌}
use Rattle.std.proofs.Math.ListN.{get_elem?}
use Rattle.std.proofs.Math.Dec.{eqb, ltb, leb}
use borrow.Author.Tests.{eqb-true, eqb-false, eq-eqb, ne_eqb, lt-ltb, le-ltb, ltb-true, ltb-false, le-leb, lt-leb, leb-true, leb-false}
use Rattle.words.specs.Lists.{zeros}
use Rattle.words.specs.Laws.Tests.{by_test}
use Rattle.words.specs.Laws.Options.{by_option}
use Rattle.stacks.specs.Stack.{new_cells}
use Rattle.stacks.specs.System.{Configuration, Rule, step}
use Rattle.automata.specs.Automaton.{Automaton}
use Rattle.automata.specs.Acceptance.{in_target}
use Rattle.replies.specs.declared.Replayed.{Replayed}
use Rattle.replies.specs.declared.Replayed.TheVariants.{Refused, Accepted, FailsAt}
use Rattle.files.specs.Bytes.{Test, first_hit, tests_on}
use Rattle.files.specs.Bytes.Laws.{first_hit_fails, first_hit_passes}
use Rattle.files.specs.Case.{case_refusal}
use Rattle.files.specs.Start.{start_tests, start_refusal, starts_of, cells_of}
use Rattle.services.proofs.Saturate.Laws.{case_first, case_passed}
use Rattle.services.specs.Judge.Laws.{start_first, start_passed}
use Rattle.services.specs.Guide.{number_tests}
use Rattle.services.specs.Replay.{ReplayInput, replay_files, replay_cells, trace_tests, cell_tests, replay_refusal, Taken, taken, replayed, replay_run, replay_reply}
use Rattle.services.specs.Replay.{ReplayDone, replay_service}

-- ---- one step

-- the rule of a step that is taken
pub record TakenBy (rules : List Rule) (k : ℕ) (d : Configuration) (s : Taken) : Type 0 where
  pub rule : Rule
  pub rule_is : get_elem? rules k ≡ some rule
  pub leaves : step rule d ≡ some s.to
  pub cells_are : s.cells ≡ new_cells rule.operation

pub taken_is : (rules : List Rule) (k : ℕ) (d : Configuration) {ρ : Rule} {e : Configuration} → get_elem? rules k ≡ some ρ → step ρ d ≡ some e
    → taken rules k d ≡ some (record { to = e; cells = new_cells ρ.operation })
unfolding taken
taken_is rules k d i j = rw (taken, i, j)

pub taken_by : (rules : List Rule) (k : ℕ) (d : Configuration) {s : Taken} → taken rules k d ≡ some s → TakenBy rules k d s
unfolding taken
taken_by rules k d {s} e =
    by_option (get_elem? rules k)
    (λ o. absurd (none-ne-some s (rw (taken, o) at e)))
    (λ ρ i.
    by_option (step ρ d)
    (λ o. absurd (none-ne-some s (rw (taken, i, o) at e)))
    (λ f j.
    let z = some-injective _ s (sym (taken_is rules k d i j) ∙ e) in
    record {
      rule = ρ;
      rule_is = i;
      leaves = j ∙ ap {B = Option Configuration} (λ (t : Taken). some t.to) z;
      cells_are = ap (λ (t : Taken). t.cells) (sym z);
    }))

module _ (rules : List Rule) (own : Automaton) (c n used : ℕ) (d : Configuration) where
  pub replayed_arrived : in_target own d ≡ true → replayed rules own c n used d [] ≡ Accepted
  unfolding replayed
  replayed_arrived e = rw (replayed, e)

  pub replayed_missed : in_target own d ≡ false → replayed rules own c n used d [] ≡ FailsAt n
  unfolding replayed
  replayed_missed e = rw (replayed, e)

  module _ (k : ℕ) (ks : List ℕ) where
    pub replayed_fails : taken rules k d ≡ none → replayed rules own c n used d (k ∷ ks) ≡ FailsAt n
    unfolding replayed
    replayed_fails e = rw (replayed, e)

    pub replayed_short : {s : Taken} → taken rules k d ≡ some s → c < used + s.cells → replayed rules own c n used d (k ∷ ks) ≡ Refused 11
    unfolding replayed
    replayed_short {s} e l = rw (replayed, e, lt-leb (used + s.cells) c l)

    pub replayed_goes : {s : Taken} → taken rules k d ≡ some s → used + s.cells ≤ c
        → replayed rules own c n used d (k ∷ ks) ≡ replayed rules own c (suc n) (used + s.cells) s.to ks
    unfolding replayed
    replayed_goes {s} e l = rw (replayed, e, le-leb (used + s.cells) c l)

-- ---- the reply

pub replay_refused : (x : ReplayInput) (n : ℕ) → (n ≡ 0 → ⊥) → replay_reply x n ≡ Refused n
unfolding replay_reply
replay_refused x n h = rw (replay_reply, ne_eqb n 0 h)

pub replay_run_lem : (x : ReplayInput) → replay_reply x 0 ≡ replay_run x
unfolding replay_reply
replay_run_lem x = refl

-- ---- the cases

-- no refusal applies to x before the first step
pub record Replays (x : ReplayInput) : Type 0 where
  pub sound_case : case_refusal x.case ≡ 0
  pub sound_start : start_refusal (replay_files x) ≡ 0
  pub start_there : x.number < length (starts_of x.start)
  pub even : length x.trace % 2 ≡ 1 → ⊥
  pub start_fits : length (cells_of x.start) ≤ replay_cells x

-- the answer with this reply
abbrev pub replies : ReplayInput → Replayed → ReplayDone
replies x r = record { reply = r; cells = zeros x.cells }

-- what replay answers to x
pub data ReplayCase (x : ReplayInput) : ReplayDone → Type 0 where
  case_refused : (case_refusal x.case ≡ 0 → ⊥) → ReplayCase x (replies x (Refused (case_refusal x.case)))
  start_refused : case_refusal x.case ≡ 0 → (start_refusal (replay_files x) ≡ 0 → ⊥) → ReplayCase x (replies x (Refused (start_refusal (replay_files x))))
  start_missing : case_refusal x.case ≡ 0 → start_refusal (replay_files x) ≡ 0 → length (starts_of x.start) ≤ x.number
      → ReplayCase x (replies x (Refused 7))
  trace_odd : case_refusal x.case ≡ 0 → start_refusal (replay_files x) ≡ 0 → x.number < length (starts_of x.start) → length x.trace % 2 ≡ 1
      → ReplayCase x (replies x (Refused 10))
  start_short : case_refusal x.case ≡ 0 → start_refusal (replay_files x) ≡ 0 → x.number < length (starts_of x.start)
      → (length x.trace % 2 ≡ 1 → ⊥) → replay_cells x < length (cells_of x.start) → ReplayCase x (replies x (Refused 11))
  replays : Replays x → ReplayCase x (replies x (replay_run x))

module _ (x : ReplayInput) where
  -- the answer where the tests give n
  answered : {n : ℕ} {r : Replayed} → replay_refusal x ≡ n → replay_reply x n ≡ r → ReplayCase x (replies x r) → ReplayCase x (replay_service x)
  unfolding replay_service
  answered e f c = subst (λ (r : Replayed). ReplayCase x (replies x r)) (sym (ap (replay_reply x) e ∙ f)) c

  -- the tests after those of the files
  after_files : List (Test ReplayInput)
  after_files = number_tests (λ y. y.start) (λ y. y.number) ++ (trace_tests ++ cell_tests)

  pub refusal_case : (case_refusal x.case ≡ 0 → ⊥) → replay_refusal x ≡ case_refusal x.case
  unfolding replay_refusal
  refusal_case = case_first (λ (y : ReplayInput). y.case) (tests_on replay_files start_tests ++ (number_tests (λ y. y.start) (λ y. y.number) ++ (trace_tests ++ cell_tests))) x

  file_tests : case_refusal x.case ≡ 0 → replay_refusal x ≡ first_hit (tests_on replay_files start_tests ++ after_files) x
  unfolding replay_refusal after_files
  file_tests = case_passed (λ (y : ReplayInput). y.case) (tests_on replay_files start_tests ++ (number_tests (λ y. y.start) (λ y. y.number) ++ (trace_tests ++ cell_tests))) x

  missing_tests : length (starts_of x.start) ≤ x.number → first_hit after_files x ≡ 7
  unfolding after_files number_tests
  missing_tests h = first_hit_fails (record { fails = λ (y : ReplayInput). leb (length (starts_of y.start)) y.number; refusal = 7 }) _ x (le-leb _ _ h)

  there_tests : x.number < length (starts_of x.start) → first_hit after_files x ≡ first_hit (trace_tests ++ cell_tests) x
  unfolding after_files number_tests
  there_tests h = first_hit_passes (record { fails = λ (y : ReplayInput). leb (length (starts_of y.start)) y.number; refusal = 7 }) _ x (lt-leb _ _ h)

  odd_tests : length x.trace % 2 ≡ 1 → first_hit (trace_tests ++ cell_tests) x ≡ 10
  unfolding trace_tests
  odd_tests h = first_hit_fails (record { fails = λ (y : ReplayInput). eqb (length y.trace % 2) 1; refusal = 10 }) _ x (eq-eqb _ 1 h)

  even_tests : (length x.trace % 2 ≡ 1 → ⊥) → first_hit (trace_tests ++ cell_tests) x ≡ first_hit cell_tests x
  unfolding trace_tests
  even_tests h = first_hit_passes (record { fails = λ (y : ReplayInput). eqb (length y.trace % 2) 1; refusal = 10 }) _ x (ne_eqb _ 1 h)

  short_tests : replay_cells x < length (cells_of x.start) → first_hit cell_tests x ≡ 11
  unfolding cell_tests
  short_tests h = first_hit_fails (record { fails = λ (y : ReplayInput). ltb (replay_cells y) (length (cells_of y.start)); refusal = 11 }) _ x (lt-ltb _ _ h)

  fit_tests : length (cells_of x.start) ≤ replay_cells x → first_hit cell_tests x ≡ 0
  unfolding cell_tests first_hit
  fit_tests h = first_hit_passes (record { fails = λ (y : ReplayInput). ltb (replay_cells y) (length (cells_of y.start)); refusal = 11 }) [] x (le-ltb _ _ h)

  -- ---- what the tests give

  pub refusal_start : case_refusal x.case ≡ 0 → (start_refusal (replay_files x) ≡ 0 → ⊥) → replay_refusal x ≡ start_refusal (replay_files x)
  refusal_start sound bad = file_tests sound ∙ start_first replay_files after_files x bad

  module _ (sound : case_refusal x.case ≡ 0) (s : start_refusal (replay_files x) ≡ 0) where
    pub refusal_missing : length (starts_of x.start) ≤ x.number → replay_refusal x ≡ 7
    refusal_missing h = file_tests sound ∙ start_passed replay_files after_files x s ∙ missing_tests h

    module _ (there : x.number < length (starts_of x.start)) where
      after_number : replay_refusal x ≡ first_hit (trace_tests ++ cell_tests) x
      after_number = file_tests sound ∙ start_passed replay_files after_files x s ∙ there_tests there

      pub refusal_odd : length x.trace % 2 ≡ 1 → replay_refusal x ≡ 10
      refusal_odd h = after_number ∙ odd_tests h

      pub refusal_short : (length x.trace % 2 ≡ 1 → ⊥) → replay_cells x < length (cells_of x.start) → replay_refusal x ≡ 11
      refusal_short even h = after_number ∙ even_tests even ∙ short_tests h

  pub refusal_none : Replays x → replay_refusal x ≡ 0
  refusal_none r = after_number r.sound_case r.sound_start r.start_there ∙ even_tests r.even ∙ fit_tests r.start_fits

  -- ---- the cases, one test after the other

  sized : case_refusal x.case ≡ 0 → start_refusal (replay_files x) ≡ 0 → x.number < length (starts_of x.start) → (length x.trace % 2 ≡ 1 → ⊥)
      → ReplayCase x (replay_service x)
  sized sound s t even =
      by_test (ltb (replay_cells x) (length (cells_of x.start)))
      (λ h. let l = ltb-true _ _ h in answered (refusal_short sound s t even l) (replay_refused x 11 (eqb-false 11 0 refl)) (start_short sound s t even l))
      (λ h.
      let r : Replays x = record { sound_case = sound; sound_start = s; start_there = t; even = even; start_fits = ltb-false _ _ h } in
      answered (refusal_none r) (replay_run_lem x) (replays r))

  paired : case_refusal x.case ≡ 0 → start_refusal (replay_files x) ≡ 0 → x.number < length (starts_of x.start) → ReplayCase x (replay_service x)
  paired sound s t =
      by_test (eqb (length x.trace % 2) 1)
      (λ h. let o = eqb-true _ 1 h in answered (refusal_odd sound s t o) (replay_refused x 10 (eqb-false 10 0 refl)) (trace_odd sound s t o))
      (λ h. sized sound s t (eqb-false _ 1 h))

  named : case_refusal x.case ≡ 0 → start_refusal (replay_files x) ≡ 0 → ReplayCase x (replay_service x)
  named sound s =
      by_test (leb (length (starts_of x.start)) x.number)
      (λ h. let l = leb-true _ _ h in answered (refusal_missing sound s l) (replay_refused x 7 (eqb-false 7 0 refl)) (start_missing sound s l))
      (λ h. paired sound s (leb-false _ _ h))

  pub replay_cases : ReplayCase x (replay_service x)
  replay_cases =
      by_test (eqb (case_refusal x.case) 0)
      (λ c.
      let sound = eqb-true _ 0 c in
      by_test (eqb (start_refusal (replay_files x)) 0)
      (λ s. named sound (eqb-true _ 0 s))
      (λ s. let bad = eqb-false _ 0 s in answered (refusal_start sound bad) (replay_refused x _ bad) (start_refused sound bad)))
      (λ c. let bad = eqb-false _ 0 c in answered (refusal_case bad) (replay_refused x _ bad) (case_refused bad))
