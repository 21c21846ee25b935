-- Finished scripts: the proofs.
-- Assumes nothing.
use Rattle.std.specs.Prelude.{ℕ, ◌+◌, ◌<◌, Bool, true, false, ◌≡◌, refl, List, [], map, length, get_or, take, ltb}
use Rattle.std.proofs.lemmas.Bool.{false≢true}
use Rattle.std.proofs.Common.{ap, ap₂, sym, ◌∙◌, subst, add-zero, arith, lt-ltb}
use Rattle.std.proofs.Math.Option.{some, none-ne-some}
use Rattle.std.proofs.lemmas.List.{length-map}
use Rattle.words.specs.Laws.Tests.{by_test}
use Rattle.words.specs.Sets.{member}
use Rattle.words.proofs.Sets.Laws.{Has}
use Rattle.words.specs.Lists.Laws.{get_or_in, in_get_or, only_in, only_out}
use Rattle.stacks.specs.Stack.{nil1, cons1, Stack2, nil2, cons2}
use Rattle.stacks.specs.System.{Configuration, Rule, step, step_on, Run, stay, go}
use Rattle.automata.specs.Automaton.{Entry, no_entry, edge_at, entry_edge}
use Rattle.automata.specs.Automaton.Laws.{EntryIs, entry_edge_lem}
use Rattle.automata.specs.Acceptance.{accepts2, in_target}
use Rattle.automata.proofs.Acceptance.Laws.{Accepts1, accepts2_in, accepts2_out}
use Rattle.automata.specs.Facts.Laws.{control_edge}
use Rattle.automata.specs.Saturation.{table_after}
use Rattle.rounds.specs.Rounds.{own_extends}
use Rattle.rounds.specs.Won.Few.{after_accepts}
use Rattle.replies.specs.declared.Halt.TheVariants.{Arrived}
use Rattle.replies.specs.declared.Reply.TheVariants.{Walked}
use Rattle.walks.specs.Cell.Values.{get_or_map_below}
use Rattle.files.specs.Case.{head, EdgeBytes, edge_records, entries_of, own_of, rules_of}
use Rattle.files.proofs.Case.Laws.{no_edge_bytes, entries_written, final_written, written_final, case_table}
use Rattle.files.specs.Start.{cells_of, configuration_at}
use Rattle.services.specs.Memory.{padded}
use Rattle.services.specs.Memory.Laws.{padded_none}
use Rattle.services.specs.Guide.{GuideInput, GuideDone}
use Rattle.guidance.specs.Halt.{Reason, arrival, halt_by, cells_of_steps}
use Rattle.demands.specs.Reach.Laws.{reaches_published}
use Rattle.demands.specs.FullRun.{used, HaltsAfter, has_arrived, is_full, is_short}
use Rattle.demands.specs.Demand3.{Walks, AnswersRun}
use Rattle.demands.specs.Finished.{finished, EmptyTarget, WrittenFinal, EmptyTopTarget, NeverFinal, NoStepLeaves, FinishedMarks, ArrivedAtOnce, FinishedGuides}
use Rattle.demands.specs.Reach.{accepted_in, Marks}

-- ---- the target

pub empty_target : EmptyTarget
unfolding in_target accepts2 own_of
empty_target case p = refl

-- entry e of a case is written as edge e of its entries
entry_written : (case : List ℕ) (e : ℕ) → e < length (entries_written case)
    → EntryIs (own_of case) (get_or (entries_written case) e no_edge_bytes).state (get_or (entries_written case) e no_edge_bytes).S e
unfolding own_of entries_of
entry_written case e l =
    let entry : EdgeBytes → Entry = λ x. record { control = x.state; S = x.S } in
    let n : length (map entry (entries_written case)) ≡ length (entries_written case) = length-map (entries_written case) entry in
    let z : get_or (map entry (entries_written case)) e no_entry ≡ entry (get_or (entries_written case) e no_edge_bytes) =
    get_or_map_below entry (entries_written case) e no_edge_bytes no_entry l in
    record { below = omega arith; control_is = ap (λ (x : Entry). x.control) z; set_is = ap (λ (x : Entry). x.S) z }

pub empty_top_target : EmptyTopTarget
unfolding in_target Accepts1
empty_top_target case sound p l t = (to, from)
  where
    is_entry : EdgeBytes → Bool
    is_entry x = ltb x.state (head case).P

    to : accepts2 (own_of case) (cons2 nil1 t) p ≡ true → WrittenFinal case p t
    to a =
        let k = accepts2_out (own_of case) (cons2 nil1 t) p a in
        let (e, x) = control_edge (case_table case sound) l k.edge in
        let (b, f) = final_written case sound e (subst (Has (own_of case).final1) x.first_is k.first) in
        let o = entry_written case e b in
        let z : (get_or (entries_written case) e no_edge_bytes).S ≡ (edge_at (own_of case) k.number).S = sym o.set_is ∙ x.entry.set_is in
        record {
          edge = get_or (entries_written case) e no_edge_bytes;
          among = (only_out is_entry (edge_records case) (get_or_in (entries_written case) e no_edge_bytes b)).0;
          control_is = sym o.control_is ∙ x.entry.control_is;
          second_byte = f;
          rest = λ q i. accepts2_in (own_of case) t q (k.rest q (subst (λ (S : ℕ). Has S q) z i));
        }

    from : WrittenFinal case p t → accepts2 (own_of case) (cons2 nil1 t) p ≡ true
    from w =
        let (e, b, at) = in_get_or (only_in is_entry w.among (lt-ltb w.edge.state (head case).P (subst (λ (q : ℕ). q < (head case).P) (sym w.control_is) l))) in
        let o = subst (λ (x : EdgeBytes). EntryIs (own_of case) x.state x.S e) (at no_edge_bytes) (entry_written case e b) in
        let x = entry_edge_lem (own_of case) o in
        let f = written_final case e b (ap (λ (y : EdgeBytes). y.first) (at no_edge_bytes) ∙ w.second_byte) in
        accepts2_in (own_of case) (cons2 nil1 t) p
        (record {
          number = entry_edge (own_of case) e;
          edge = record { below = x.edge.below; state_is = x.edge.state_is ∙ w.control_is };
          first = subst (Has (own_of case).final1) (sym x.first_is) f;
          rest = λ q i. accepts2_out (own_of case) t q (w.rest q (subst (λ (S : ℕ). Has S q) x.set_is i));
        })

pub never_final : NeverFinal
unfolding own_of
never_final case sound m =
    let x = own_extends (rules_of case) (own_of case) m in
    record {
      order_1 = x.same_final1;
      order_2 = x.same_final2;
      found_never = λ e l.
          by_test (member (own_of case).final1 ((own_of case).J + e))
          (λ t.
          let b : (own_of case).J + e < (own_of case).J + length (own_of case).entries = (case_table case sound).final1_exists ((own_of case).J + e) (record { has = t }) in
          absurd (omega arith))
          (λ t. ap (λ (s : ℕ). member s ((own_of case).J + e)) x.same_final1 ∙ t);
    }

-- ---- runs

-- no rule applies where the stack is empty or its top order-1 stack is
no_step : (ρ : Rule) (p : ℕ) (t : Stack2) {d : Configuration} → finished t ≡ true → step_on ρ p t ≡ some d → ⊥
unfolding finished step_on
no_step ρ p nil2 {d} h e = none-ne-some d e
no_step ρ p (cons2 nil1 t) {d} h e = none-ne-some d e
no_step ρ p (cons2 (cons1 a u s) t) h e = false≢true h

run_stays : (rules : List Rule) {c d : Configuration} {ns : List ℕ} → finished c.stack ≡ true → Run rules c ns d → (ns ≡ []) × (d ≡ c)
unfolding step
run_stays rules h stay = (refl, refl)
run_stays rules {c} h (go ρ i e r) = absurd (no_step ρ c.control c.stack h e)

pub no_step_leaves : NoStepLeaves
no_step_leaves rules c d ns h r = run_stays rules h r

-- ---- the answers

pub finished_marks : FinishedMarks
unfolding in_target table_after
finished_marks x d marks free n l h =
    let m = (marks free).each_mark n l in
    record {
      inside = λ t.
          let accepted = after_accepts (rules_of x.case) (own_of x.case) 0 x.rounds (omega arith) (configuration_at x.start n).stack (configuration_at x.start n).control t in
          (m.round (m.yes.1 accepted) 0).1 (record { accepts = t; least = λ k b. absurd (omega arith) });
      outside = λ t still. m.no_left.1 (never t m, still);
      still_open = λ t adds. m.is_open.1 (never t m, adds);
    }
  where
    -- a run from it has no step, so that outside the target no table accepts it
    never : in_target (own_of x.case) (configuration_at x.start n) ≡ false → Marks x.case x.start x.rounds n (get_or d.answers n 0)
        → accepted_in x.case x.start n x.rounds ≡ false
    never t m = by_test (accepted_in x.case x.start n x.rounds)
        (λ a.
        let r = reaches_published.1 (m.run (m.yes.1 a)) in
        let (_, e) = run_stays (rules_of x.case) h r.run in
        absurd (false≢true (sym t ∙ ap (in_target (own_of x.case)) (sym e) ∙ r.in_target_holds)))
        (λ a. a)

-- a full run without steps has arrived
halts_at_once : {rules : List Rule} {first c t m : ℕ} {r : Reason} → HaltsAfter rules first [] c t m r → (m ≡ 0) × (r ≡ arrival)
halts_at_once (has_arrived e) = (e, refl)
halts_at_once (is_full l e) = absurd (omega arith)
halts_at_once (is_short l e f) = absurd (omega arith)

none_used : (rules : List Rule) (first : ℕ) → used rules first [] 0 ≡ first
unfolding used cells_of_steps
none_used rules first = add-zero first

answered_at_once : (x : GuideInput) (d : GuideDone) → Walks x [] d → ArrivedAtOnce x d
unfolding halt_by
answered_at_once x d w =
    let rules : List Rule = rules_of x.case in
    let first : ℕ = length (cells_of x.start) in
    let (m, r) = halts_at_once w.stops.halts in
    record {
      reply_is = w.reply_is
          ∙ ap₂ (λ (q : Reason) (k : ℕ). Walked (halt_by q (record { steps = k; cells = used rules first [] k }))) r m
          ∙ ap (λ (k : ℕ). Walked (Arrived (record { steps = 0; cells = k }))) (none_used rules first);
      trace_is = w.trace_is ∙ ap (λ (k : ℕ). padded x.trace (take k [])) m ∙ padded_none x.trace;
    }

pub finished_guides : FinishedGuides
finished_guides x d guides answers marked h room =
    let (r, a) = guides answers marked in
    let (e, _) = run_stays (rules_of x.case) h r.run in
    answered_at_once x d ((subst (λ (ns : List ℕ). AnswersRun x ns d) e a).walks room)
