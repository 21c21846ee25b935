-- What guide answers for a start that the table of the rounds run accepts: the walk on its cells is a run of the rules that arrives in the target, and
-- the answer is that run's first steps.
-- Assumes nothing.
use Prim.Native.Nat.{ℕ, ◌≤◌, ◌<◌}
use Rattle.std.specs.Prelude.{true, ◌≡◌, refl, List, [], leb}
use Rattle.std.proofs.lemmas.Bool.{false≢true}
use Rattle.std.proofs.Math.Path.{ap, sym, subst}
use Rattle.std.proofs.Common.{◌∙◌, le_trans}
use Rattle.std.proofs.Math.Option.{some}
use native.Mathlib.Omega.{arith}
use Rattle.std.proofs.Math.ListN.{length, take}
use Rattle.std.proofs.lemmas.List.{length-map}
use borrow.Author.Tests.{leb-true, leb-false}
use Rattle.words.specs.Lists.Laws.{get_or_in}
use Rattle.words.specs.Laws.Tests.{by_test}
use Rattle.stacks.specs.System.{Configuration, Run}
use Rattle.automata.specs.Saturation.{Saturated}
use Rattle.replies.specs.declared.Reply.TheVariants.{Walked}
use Rattle.replies.specs.Numbers.{counts_of}
use Rattle.replies.specs.declared.Counts.{Counts}
use Rattle.replies.specs.declared.Halt.{Halt}
use Rattle.replies.specs.declared.Halt.TheVariants.{CellsShort}
use Rattle.walks.specs.Guide.{Walk, walk_configuration, walk_after, trace_after, walked_by, guided}
use Rattle.files.specs.Case.{own_of, rules_of}
use Rattle.files.specs.Start.{Files, Start, start_tests, start_refusal, starts_of, cells_of, configuration_of, start_at, configuration_at}
use Rattle.files.specs.Bytes.{first_hit}
use Rattle.files.specs.Start.Laws.{start_facts, start_cells_lem}
use Rattle.services.specs.Memory.{lent}
use Rattle.services.specs.Memory.Laws.{padded_none}
use Rattle.services.specs.Saturate.{saturated}
use Rattle.services.specs.Guide.{GuideInput, GuideDone, accepted, guide_files, guide_lent, cells_lent, start_named, guide_walk, guide_left}
use Rattle.services.proofs.Guide.Laws.{Started, walk_goes, walk_short}
use Rattle.guidance.specs.Run.{trace_take}
use Rattle.guidance.specs.Halt
use Rattle.guidance.specs.Halt.{Reason, trace_full, cells_short, halt_by, is_arrival}
use Rattle.guidance.specs.Prefix.{FirstHalt}
use Rattle.guidance.proofs.Prefix.{guided_prefix, guided_arrives, arrival_fits}
use Rattle.guidance.specs.Decoration.{start_bare}
use Rattle.guidance.specs.Arrival.{GuidedArrival, start_arrival, start_configuration}
use Rattle.demands.specs.Laws.FromBytes.{case_saturated}
use Rattle.demands.specs.FullRun.{saturated_table, walk_from, full_trace, used, HaltsAfter, is_full, Stops}
use Rattle.demands.proofs.FullRun.Laws.{saturated_is, full_walk_lem, full_trace_lem, full_next_lem, stop_halts, stop_least, cells_after_lem, length_trace}
use Rattle.demands.specs.Demand3.{Walks, TooShort, AnswersRun, RunArrives}

counts_of_halt_by : (r : Reason) (z : Counts) → counts_of (halt_by r z) ≡ z
unfolding counts_of halt_by
counts_of_halt_by Halt.arrival z = refl
counts_of_halt_by trace_full z = refl
counts_of_halt_by cells_short z = refl

module _ (x : GuideInput) (T : Saturated) (s : Started x T) (a : accepted T.table x.start (start_named x) ≡ true) where
  -- the walk from the start
  walk : Walk
  walk = walk_from x.start x.number T.table

  -- what guide leaves
  answer : GuideDone
  answer = guide_left x (guide_walk x T)

  answer_walks : length (cells_of x.start) ≤ cells_lent x → answer ≡ guide_left x (guided (rules_of x.case) T (cells_lent x) x.trace [] walk)
  unfolding answer walk walk_from start_named start_at
  answer_walks l = ap (guide_left x) (walk_goes x T l)

  answer_short : cells_lent x < length (cells_of x.start) → answer ≡ guide_left x (walked_by (CellsShort (record { steps = 0; cells = 0 })) [])
  unfolding answer
  answer_short l = ap (guide_left x) (walk_short x T l)

  -- ---- the full run

  arrival : GuidedArrival (rules_of x.case) T (own_of x.case) walk
  unfolding walk walk_from saturated guide_lent guide_files accepted configuration_of start_refusal start_named start_at
  arrival =
      let f : Files = record { case = x.case; start = x.start } in
      let n : Start = start_at x.start x.number in
      let sound : first_hit start_tests f ≡ 0 = s.sound_start in
      let k = start_facts f sound {x = n} (get_or_in (starts_of x.start) x.number (record { control = 0; root = 0 }) s.start_there) in
      start_arrival (case_saturated x.case (lent x.moves x.entries) x.rounds s.sound_case s.table_is)
      (cells_of x.start) n.control n.root (start_cells_lem f sound) k.root_exists k.root_order k.control_exists a

  -- the rule numbers of the full run
  full_run : List ℕ
  full_run = trace_after (rules_of x.case) T arrival.steps walk

  length_full : length full_run ≡ arrival.steps
  unfolding full_run
  length_full = length_trace (rules_of x.case) T arrival.steps walk arrival.arrives

  first_cells : length walk.cells ≡ length (cells_of x.start)
  unfolding walk walk_from
  first_cells =
      sym (length-map walk.cells (λ g. g.cell))
      ∙ ap length (start_bare T.table (cells_of x.start) (start_at x.start x.number).control (start_at x.start x.number).root)

  start_is : walk_configuration walk ≡ configuration_at x.start x.number
  unfolding walk walk_from configuration_at configuration_of
  start_is = start_configuration T.table (cells_of x.start) (start_at x.start x.number).control (start_at x.start x.number).root

  table_is : saturated_table x.case x.rounds ≡ some T
  unfolding guide_lent
  table_is = saturated_is (guide_lent x) x.rounds s.table_is

  -- it arrives, and is a run of the rules into the target
  pub run_arrives : RunArrives x.case x.start x.rounds x.number
  unfolding full_run walk
  run_arrives =
      record {
        trace = full_run;
        last = arrival.last;
        full = record {
          walk_is = full_walk_lem x.case x.rounds table_is x.start x.number (length full_run)
              ∙ ap (λ (m : ℕ). walk_after (rules_of x.case) T m walk) length_full
              ∙ arrival.arrives.run_is;
          trace_is = full_trace_lem x.case x.rounds table_is x.start x.number (length full_run)
              ∙ ap (λ (m : ℕ). trace_after (rules_of x.case) T m walk) length_full;
          arrives = full_next_lem x.case x.rounds table_is arrival.last ∙ arrival.arrives.arrives;
        };
        run = subst (λ (z : Configuration). Run (rules_of x.case) z full_run (walk_configuration arrival.last)) start_is arrival.run;
        in_target_holds = arrival.in_target_holds;
      }

  -- the cells used after m steps, from the start file's cells
  used_after : (m : ℕ) {u : Walk} → m ≤ arrival.steps → walk_after (rules_of x.case) T m walk ≡ some u
      → length u.cells ≡ used (rules_of x.case) (length (cells_of x.start)) full_run m
  unfolding full_run
  used_after m l h =
      cells_after_lem (rules_of x.case) T arrival.steps walk arrival.arrives m l h
      ∙ ap (λ (k : ℕ). used (rules_of x.case) k (trace_after (rules_of x.case) T arrival.steps walk) m) first_cells

  used_last : length arrival.last.cells ≡ used (rules_of x.case) (length (cells_of x.start)) full_run (length full_run)
  used_last = used_after arrival.steps (omega arith) arrival.arrives.run_is
      ∙ ap (used (rules_of x.case) (length (cells_of x.start)) full_run) (sym length_full)

  -- ---- the halt of the walk

  halt : (h : FirstHalt (rules_of x.case) T (cells_lent x) x.trace walk) × (h.steps ≤ arrival.steps)
      × (guided (rules_of x.case) T (cells_lent x) x.trace [] walk
      ≡ walked_by (halt_by h.reason (record { steps = h.steps; cells = length h.end.cells })) (take h.steps full_run))
  unfolding full_run
  halt = guided_prefix (rules_of x.case) T (cells_lent x) x.trace arrival.steps walk arrival.arrives

  stops_here : Stops (rules_of x.case) (length (cells_of x.start)) full_run (cells_lent x) x.trace
  unfolding full_run
  stops_here =
      let M : ℕ = arrival.steps in
      let c : ℕ = cells_lent x in
      let t : ℕ = x.trace in
      let h = halt.0 in
      record {
        steps = h.steps;
        reason = h.reason;
        halts = subst (λ (f : ℕ). HaltsAfter (rules_of x.case) f full_run c t h.steps h.reason) first_cells
            (stop_halts (rules_of x.case) T M walk arrival.arrives c t h);
        least = λ m r i g. stop_least (rules_of x.case) T M walk arrival.arrives c t h halt.1 m r i
            (subst (λ (f : ℕ). HaltsAfter (rules_of x.case) f full_run c t m r) (sym first_cells) g);
      }

  walks_answer : length (cells_of x.start) ≤ cells_lent x → Walks x full_run answer
  unfolding guide_left walked_by stops_here
  walks_answer l =
      let e = answer_walks l ∙ ap (guide_left x) halt.2 in
      record {
        stops = stops_here;
        reply_is = ap (λ (d : GuideDone). d.reply) e
            ∙ ap (λ (m : ℕ). Walked (halt_by halt.0.reason (record { steps = halt.0.steps; cells = m })))
            (used_after halt.0.steps halt.1 halt.0.run_is);
        trace_is = ap (λ (d : GuideDone). d.trace) e;
      }

  short_answer : cells_lent x < length (cells_of x.start) → TooShort x answer
  unfolding guide_left walked_by
  short_answer l =
      record {
        reply_is = ap (λ (d : GuideDone). d.reply) (answer_short l);
        trace_is = ap (λ (d : GuideDone). d.trace) (answer_short l) ∙ padded_none x.trace;
      }

  -- ---- it arrives exactly when cells and trace suffice

  abbrev Suffices : Type 0
  Suffices =
      (length full_run ≤ x.trace) × (used (rules_of x.case) (length (cells_of x.start)) full_run (length full_run) ≤ cells_lent x)

  arrives_suffices : is_arrival answer.reply ≡ true → Suffices
  unfolding guide_left walked_by is_arrival
  arrives_suffices e =
      by_test (leb (length (cells_of x.start)) (cells_lent x))
      (λ h.
      let l = leb-true _ _ h in
      let r = arrival_fits (rules_of x.case) T (cells_lent x) x.trace arrival.steps walk arrival.arrives (rw first_cells l)
      (sym (ap (λ (d : GuideDone). is_arrival d.reply) (answer_walks l)) ∙ e) in
      (rw length_full r.0, rw (← used_last) r.1))
      (λ h. absurd (false≢true (sym (ap (λ (d : GuideDone). is_arrival d.reply) (answer_short (leb-false _ _ h))) ∙ e)))

  -- the full run uses no fewer cells than the start file has
  first_used : length (cells_of x.start) ≤ used (rules_of x.case) (length (cells_of x.start)) full_run (length full_run)
  unfolding used
  first_used = omega arith

  suffices_arrives : Suffices → is_arrival answer.reply ≡ true
  unfolding guide_left walked_by is_arrival
  suffices_arrives h =
      ap (λ (d : GuideDone). is_arrival d.reply) (answer_walks (le_trans first_used h.1)
      ∙ ap (guide_left x) (guided_arrives (rules_of x.case) T (cells_lent x) x.trace arrival.steps walk arrival.arrives
      (rw length_full at h.0) (rw used_last h.1)))

  -- the answer is by the full run
  pub answers_run : AnswersRun x run_arrives.trace (guide_left x (guide_walk x T))
  unfolding answer run_arrives
  answers_run = record { walks = walks_answer; too_short = short_answer; arrives_exactly = (arrives_suffices, suffices_arrives) }

  -- ---- the report

  -- the walk halts within the trace
  steps_fit : stops_here.steps ≤ x.trace
  unfolding stops_here
  steps_fit =
      let k : stops_here.steps ≤ arrival.steps = halt.1 in
      let e : length full_run ≡ arrival.steps = length_full in
      by_test (leb stops_here.steps x.trace) (λ t. leb-true _ _ t) (λ t.
      let l : x.trace < stops_here.steps = leb-false _ _ t in
      absurd (stops_here.least x.trace trace_full l (is_full (omega arith) refl)))

  -- it reports a halt, and has written as many steps of the full run as it reports
  pub walk_report : (h : Halt) × (guide_walk x T ≡ walked_by h (full_trace x.case x.start x.rounds x.number (counts_of h).steps)) × ((counts_of h).steps ≤ x.trace)
  unfolding full_run walk walk_from start_named start_at trace_after stops_here counts_of
  walk_report =
      by_test (leb (length (cells_of x.start)) (cells_lent x))
      (λ t.
      let r = halt.0 in
      let z : Counts = record { steps = r.steps; cells = length r.end.cells } in
      let c : counts_of (halt_by r.reason z) ≡ z = counts_of_halt_by r.reason z in
      let k : full_trace x.case x.start x.rounds x.number (counts_of (halt_by r.reason z)).steps ≡ take r.steps full_run =
      ap (λ (y : Counts). full_trace x.case x.start x.rounds x.number y.steps) c
      ∙ full_trace_lem x.case x.rounds table_is x.start x.number r.steps
      ∙ trace_take (rules_of x.case) T r.steps arrival.steps walk halt.1 in (
        halt_by r.reason z,
        walk_goes x T (leb-true _ _ t) ∙ halt.2 ∙ ap (walked_by (halt_by r.reason z)) (sym k),
        subst (λ (y : Counts). y.steps ≤ x.trace) (sym c) steps_fit,
      ))
      (λ t. (
        CellsShort (record { steps = 0; cells = 0 }),
        walk_short x T (leb-false _ _ t)
            ∙ ap (walked_by (CellsShort (record { steps = 0; cells = 0 }))) (sym (full_trace_lem x.case x.rounds table_is x.start x.number 0)),
        omega arith,
      ))
