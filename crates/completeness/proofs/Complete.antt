-- No means no: a table that holds every result of the rules accepts, from its control, each configuration that has a run into the target.
-- Assumes nothing.
use Rattle.std.specs.Prelude.{ℕ, ◌+◌, true, ◌≡◌}
use Rattle.std.proofs.Common.{ap, sym, ◌∙◌, subst, subst₂}
use Rattle.std.proofs.Math.Option.{Option, some}
use mathlib.Core.List.{List, Memᴰ}
use Rattle.words.proofs.Sets.Laws.{All}
use Rattle.words.specs.Lists.Laws.{in_get_or, get_elem?_below, get_elem?_in}
use Rattle.stacks.specs.Stack.{Stack1, cons1, Stack2, cons2, Annotation}
use Rattle.stacks.specs.System.{Configuration, Rule, step, Run, stay, go}
use Rattle.stacks.proofs.Published.Laws.{step_applied}
use Rattle.automata.specs.Automaton.{Automaton, entry_edge}
use Rattle.automata.specs.Automaton.Laws.{entry_move_of, entry_edge_lem}
use Rattle.automata.specs.Acceptance.{accepts2, in_target}
use Rattle.automata.proofs.Acceptance.Laws.{Accepts1, Accepts2, accepts2_in, accepts2_out, accepts2_kept}
use Rattle.automata.specs.Derivation.{Result, Derivation, derivations}
use Rattle.automata.proofs.Derivation.Laws.{conclusion, derivations_in}
use Rattle.automata.specs.Saturation.{held}
use Rattle.automata.proofs.Saturation.Laws.{held_stands}
use Rattle.automata.specs.Facts.{TableFacts, RuleFacts, Extends, Closed}
use Rattle.completeness.specs.Reading.{Meets, annotation_in}
use Rattle.completeness.specs.Turn.{LeavesAccepted}
use Rattle.completeness.proofs.Turn.{turn}

-- ---- a result that is held

-- a held result accepts what meets it
pub held_accepts : (A : Automaton) (x : Result) (u : Annotation) (s : Stack1) (t : Stack2) → held A x ≡ true
    → Meets A u s (record { order = x.order; B = x.B; R = x.R }) → All x.S (Accepts2 A t)
    → Accepts2 A (cons2 (cons1 x.symbol u s) t) x.control
unfolding Accepts2
held_accepts A x u s t h y z =
    let (i, k) = held_stands A x h in
    let e : ℕ = k.move.entry in
    let g = entry_edge_lem A k.move.entry_is in
    let top : Accepts1 A (cons1 x.symbol u s) (A.J + e) = record {
      number = i;
      move = entry_move_of A k.move;
      annotation = rw (k.order_is, k.B-is) (annotation_in A u x.order x.B y.fits y.annotation);
      rest = rw k.R-is y.rest;
    } in
    record {
      number = entry_edge A e;
      edge = g.edge;
      first = rw g.first_is top;
      rest = rw g.set_is z;
    }

-- ---- steps and runs back

module _ {P : ℕ} (rules : List Rule) (A : Automaton) (F : TableFacts P A) (G : (ρ : Rule) → Memᴰ ρ rules → RuleFacts P ρ) (C : Closed rules A) where
  pub step_back : {ρ : Rule} (c d : Configuration) → Memᴰ ρ rules → step ρ c ≡ some d
      → accepts2 A d.stack d.control ≡ true → accepts2 A c.stack c.control ≡ true
  step_back {ρ} c d i e h =
      let x = step_applied ρ c d e in
      let (n, l, at) = in_get_or i in
      let k : LeavesAccepted A ρ.next (some d.stack) = subst (Accepts2 A d.stack) x.to_control (accepts2_out A d.stack d.control h) in
      let τ = turn A F n ρ (G ρ i).next_exists ρ.operation x.u x.s x.t (subst (LeavesAccepted A ρ.next) (sym x.leaves) k) in
      let δ : Derivation = conclusion n ρ τ.premise τ.edges τ.moves τ.S τ.joins in
      let j : Memᴰ δ (derivations A rules) = derivations_in A rules {d = δ} (record {
        rule = ρ;
        numbered = get_elem?_below rules n ρ l ∙ ap {B = Option Rule} some (at ρ);
        says = τ.says;
      }) in
      accepts2_in A c.stack c.control (subst₂ (Accepts2 A) (sym x.stack_is) (sym x.from_control)
      (held_accepts A δ.result x.u x.s x.t (C.closed δ j) τ.meets τ.rest))

  pub complete : {c d : Configuration} {ns : List ℕ} → Run rules c ns d → accepts2 A d.stack d.control ≡ true → accepts2 A c.stack c.control ≡ true
  complete stay h = h
  complete (go {c = c} {d = d} {n = n} ρ i e r) h = step_back c d (get_elem?_in rules n i) e (complete r h)

  -- a configuration with a run into the own automaton's target is accepted
  pub run_accepted : {own : Automaton} → Extends own A → {c d : Configuration} {ns : List ℕ} → Run rules c ns d → in_target own d ≡ true
      → accepts2 A c.stack c.control ≡ true
  unfolding in_target
  run_accepted X {d = d} r h = complete r (accepts2_kept X d.stack d.control h)
