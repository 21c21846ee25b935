-- The theorem: a stack with its least choices is right for every state that accepts it. So the guided run of an accepted configuration
-- arrives in the target after finitely many steps, and it is a run of the rules.
-- Assumes nothing.
use Prim.Native.Nat.{ℕ, zero, suc, ◌<◌, ◌≤◌}
use Rattle.std.specs.Prelude.{true, ◌≡◌, refl, ltb}
use Rattle.std.proofs.Common.{ap, ap₂, arith, ltb-true, ltb-false}
use Rattle.std.proofs.Math.Path.{subst}
use Rattle.std.proofs.Math.Option.{some}
use mathlib.Core.List.{List, []}
use Rattle.words.proofs.Sets.Laws.{Has}
use Rattle.words.specs.Laws.Tests.{by_test}
use Rattle.stacks.specs.Stack.{Stack1, nil1, cons1, Stack2, nil2, cons2, Annotation, of1, of2}
use Rattle.stacks.specs.System.{Rule, Configuration, Run, stay, go}
use Rattle.automata.specs.Automaton.{Automaton, move_at, edge_at}
use Rattle.automata.specs.Acceptance.{accepts2, in_target}
use Rattle.automata.proofs.Acceptance.Laws.{Accepts1, Accepts2, AcceptsAnnotation, accepts2_in, accepts2_out}
use Rattle.automata.specs.Saturation.{Saturated}
use Rattle.automata.specs.Facts.Laws.{move_at_facts}
use Rattle.walks.specs.Guide.{least_choice}
use Rattle.soundness.specs.Decorated.{erase1, erase2, erase_annotation, decorate1, decorate2, decorate_annotation, DecoratedWalk, erased, decorated, arrived, next, walk_after, trace_after, Arrives, here, onward}
use Rattle.soundness.specs.Facts.{SaturatedFacts}
use Rattle.soundness.specs.Choices.{least_move, least_edge}
use Rattle.soundness.specs.Meaning.{Ok1, Ok2, OkAnnotation, any, one, two}
use Rattle.soundness.proofs.Own.{final_arrives, empty_arrives, edge_ok}
use Rattle.soundness.proofs.Lemma.{good}

-- ---- the least choices

module _ (A : Automaton) where
  mutual
    unfolding erase1 decorate1

    pub erase_decorate1 : (s : Stack1) → erase1 (decorate1 A s) ≡ s
    erase_decorate1 nil1 = refl
    erase_decorate1 (cons1 a u s) = ap₂ (λ (x : Annotation) (y : Stack1). cons1 a x y) (erase_decorate_annotation u) (erase_decorate1 s)

    pub erase_decorate2 : (t : Stack2) → erase2 (decorate2 A t) ≡ t
    erase_decorate2 nil2 = refl
    erase_decorate2 (cons2 w t) = ap₂ (λ (x : Stack1) (y : Stack2). cons2 x y) (erase_decorate1 w) (erase_decorate2 t)

    pub erase_decorate_annotation : (u : Annotation) → erase_annotation (decorate_annotation A u) ≡ u
    erase_decorate_annotation (of1 s) = ap of1 (erase_decorate1 s)
    erase_decorate_annotation (of2 t) = ap of2 (erase_decorate2 t)

pub erased_decorated : (A : Automaton) (c : Configuration) → erased (decorated A c) ≡ c
unfolding erased decorated
erased_decorated A c = λ i. record { control = c.control; stack = erase_decorate2 A c.stack i }

module _ {P : ℕ} {own : Automaton} {rules : List Rule} {T : Saturated} (F : SaturatedFacts P own rules T) where
  -- every state that accepts a stack is right about it with its least choices
  mutual
    unfolding Accepts1 erase1 decorate1

    pub accepts_ok1 : (s : Stack1) (r : ℕ) → Accepts1 T.table s r → Ok1 F r (decorate1 T.table s)
    accepts_ok1 nil1 r h =
        record {
          inner = λ l. subst (λ (z : ℕ). Has z r) F.extends.same_final1 h;
          entry = λ p S e q E t y g k. final_arrives F p S e r t g h q E y;
        }
    accepts_ok1 (cons1 a u s) r h =
        let x = least_move T.table a u s r h in
        let n : ℕ = x.0 in
        good F n r a (decorate_annotation T.table u) (decorate1 T.table s) (least_choice T.table (of1 (cons1 a u s))) x.2
        (accepts_ok_annotation u (move_at T.table n).order (move_at T.table n).B (move_at_facts F.table n x.2.below).order_small x.3) (λ q k. accepts_ok1 s q (x.4 q k)) x.1

    pub accepts_ok2 : (t : Stack2) (q : ℕ) → Accepts2 T.table t q → Ok2 F q (decorate2 T.table t)
    accepts_ok2 nil2 q h =
        record {
          inner = λ l. subst (λ (z : ℕ). Has z q) F.extends.same_final2 h;
          control = λ l. empty_arrives F q h;
        }
    accepts_ok2 (cons2 w t) q h =
        let x = least_edge T.table w t q h in
        edge_ok F (decorate1 T.table w) (decorate2 T.table t) (least_choice T.table (of2 (cons2 w t))) x.2 x.1
        (accepts_ok1 w (edge_at T.table x.0).first x.3) (λ y k. accepts_ok2 t y (x.4 y k))

    pub accepts_ok_annotation : (u : Annotation) (k B : ℕ) → k ≤ 2 → AcceptsAnnotation T.table u k B → OkAnnotation F k B (decorate_annotation T.table u)
    accepts_ok_annotation (of1 u) zero B l h = any refl
    accepts_ok_annotation (of1 u) (suc zero) B l h = one refl (λ r k. accepts_ok1 u r (h r k))
    accepts_ok_annotation (of1 u) (suc (suc k)) B l h = absurd h
    accepts_ok_annotation (of2 u) zero B l h = any refl
    accepts_ok_annotation (of2 u) (suc zero) B l h = absurd h
    accepts_ok_annotation (of2 u) (suc (suc k)) B l h = let e : suc (suc k) ≡ 2 = omega arith in two e (λ q n. accepts_ok2 u q (h q n))

  -- the guided walk of an accepted configuration arrives
  pub accepted_arrives : (c : Configuration) → c.control < P → accepts2 T.table c.stack c.control ≡ true
      → Arrives rules T own (decorated T.table c)
  unfolding decorated
  accepted_arrives c l h = (accepts_ok2 c.stack c.control (accepts2_out T.table c.stack c.control h)).control l

-- ---- the run

module _ (rules : List Rule) (T : Saturated) (own : Automaton) where
  -- the walk w arrives after so many steps: the rule numbers that it names are a run of the rules into the target
  pub record Arrival (w : DecoratedWalk) : Type 0 where
    pub steps : ℕ
    pub last : DecoratedWalk
    pub reached : walk_after rules T steps w ≡ some last
    pub at_end : next rules T last ≡ arrived
    pub run : Run rules (erased w) (trace_after rules T steps w) (erased last)
    pub in_target_holds : in_target own (erased last) ≡ true

  pub arrival : {w : DecoratedWalk} → Arrives rules T own w → Arrival w
  unfolding walk_after trace_after
  arrival (here {w = w} e t) = record { steps = 0; last = w; reached = refl; at_end = e; run = stay; in_target_holds = t }
  arrival (onward {w = w} {v = v} {n = n} ρ e k s r) =
      let a = arrival r in
      record {
        steps = suc a.steps;
        last = a.last;
        reached = rw (walk_after, e) a.reached;
        at_end = a.at_end;
        run = rw (trace_after, e) (go ρ k s a.run);
        in_target_holds = a.in_target_holds;
      }

module _ {P : ℕ} {own : Automaton} {rules : List Rule} {T : Saturated} (F : SaturatedFacts P own rules T) (c : Configuration)
    (h : accepts2 T.table c.stack c.control ≡ true) where
  -- the full run of an accepted configuration ends on arrival
  pub guided_arrives : c.control < P → Arrival rules T own (decorated T.table c)
  guided_arrives l = arrival rules T own (accepted_arrives F c l h)

  -- "Yes" means a run: from an accepted configuration the rules lead into the target. (From an inner state the own automaton accepts.)
  pub sound : (ns : List ℕ) × (d : Configuration) × Run rules c ns d × (in_target own d ≡ true)
  unfolding in_target
  sound = by_test (ltb c.control P)
      (λ t.
      let a = guided_arrives (ltb-true _ _ t) in
      let ns : List ℕ = trace_after rules T a.steps (decorated T.table c) in
      (ns, erased a.last, subst (λ (x : Configuration). Run rules x ns (erased a.last)) (erased_decorated T.table c) a.run, a.in_target_holds))
      (λ t.
      let k = (accepts_ok2 F c.stack c.control (accepts2_out T.table c.stack c.control h)).inner (ltb-false _ _ t) in
      ([], c, stay, accepts2_in own c.stack c.control (rw (erase_decorate2 T.table c.stack) at k)))
