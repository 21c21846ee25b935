-- The lemma: every move of the table is right about each symbol cell that chooses it. By induction on the move's number, as the first
-- derivation of a move uses only moves of smaller number.
-- Assumes nothing.
use Prim.Native.Nat.{ℕ, zero, suc, ◌+◌, ◌<◌, ◌≤◌}
use Rattle.std.specs.Prelude.{◌≡◌, length, ltb}
use Rattle.std.proofs.Math.Path.{ap, sym, subst}
use Rattle.std.proofs.Common.{◌∙◌, not-suc-le-zero, ltb-true, ltb-false}
use Rattle.std.proofs.Math.Option.{some}
use mathlib.Core.List.{List}
use native.Mathlib.Omega.{arith}
use Rattle.words.specs.Laws.Tests.{by_test}
use Rattle.words.proofs.Sets.Laws.{All}
use Rattle.words.specs.Lists.Laws.{get_elem?_in}
use Rattle.stacks.specs.Stack.{Operation}
use Rattle.stacks.specs.System.{Rule}
use Rattle.automata.specs.Automaton.{Automaton, move_at, edge_at, entry_edge, entry_control, entry_set}
use Rattle.automata.specs.Automaton.Laws.{MoveOf, EntryIs, entry_control_is, entry_set_is, entry_edge_lem}
use Rattle.automata.specs.Derivation.{Result, Derivation, result_of, first_derivation}
use Rattle.automata.proofs.Derivation.Laws.{says_goes}
use Rattle.automata.specs.Saturation.{Saturated, before, own_moves}
use Rattle.walks.specs.Guide.{choices_after}
use Rattle.soundness.specs.Decorated.{Decorated1, cons1', Decorated2, cons2', DecoratedAnnotation, erase1, after_decorated, Arrives}
use Rattle.soundness.specs.Facts.{SaturatedFacts}
use Rattle.soundness.specs.Meaning.{Ok1, Ok2, OkAnnotation, ok_annotation_same}
use Rattle.soundness.specs.Step.{arrives_onward}
use Rattle.soundness.proofs.Own.{own_accepts, own_arrives}
use Rattle.soundness.proofs.Left.{Good, left}
use Rattle.soundness.specs.Lemma.{From, first_from_lem}

module _ {P : ℕ} {own : Automaton} {rules : List Rule} {T : Saturated} (F : SaturatedFacts P own rules T) where
  -- A cell of symbol a that chooses move i, under a root that chooses entry e, of which the move is.
  module _ (i p S e a : ℕ) (u : DecoratedAnnotation) (s : Decorated1) (f : ℕ → ℕ) (t : Decorated2) (g : ℕ → ℕ)
      (h : MoveOf T.table a (T.table.J + e) i) (E : EntryIs T.table p S e)
      (x : OkAnnotation F (move_at T.table i).order (move_at T.table i).B u)
      (y : All (move_at T.table i).R (λ q. Ok1 F q s)) (z : All S (λ q. Ok2 F q t))
      (c : f (edge_at T.table (g p)).first ≡ i) where
    -- the walk goes on by the first derivation of the move
    by_derivation_lem : length own.moves ≤ i → (d : Derivation) → first_derivation (before T i) rules (result_of T.table (move_at T.table i)) ≡ some d
        → From F i d → ((j : ℕ) → j < i → Good F j) → Arrives rules T own (record { control = p; stack = cons2' (cons1' a u s f) t g })
    unfolding result_of
    by_derivation_lem b d first from below =
        let ρ : Rule = from.rule in
        let o : Operation = ρ.operation in
        let n : ℕ = f (edge_at T.table (g p)).first in
        let same : d.result ≡ result_of T.table (move_at T.table i) = from.result_is in
        let goes = says_goes T.table ρ o d from.says in
        let control : ρ.control ≡ p =
        sym goes.0 ∙ ap (λ (m : Result). m.control) same ∙ ap (entry_control T.table) h.state_is ∙ entry_control_is T.table E in
        let symbol : ρ.symbol ≡ a = sym goes.1 ∙ ap (λ (m : Result). m.symbol) same ∙ h.symbol_is in
        let set : d.result.S ≡ S = ap (λ (m : Result). m.S) same ∙ ap (entry_set T.table) h.state_is ∙ entry_set_is T.table E in
        let annotation : OkAnnotation F d.result.order d.result.B u =
        ok_annotation_same F (ap (λ (m : Result). m.order) (sym same)) (ap (λ (m : Result). m.B) (sym same)) x in
        let rest : All d.result.R (λ q. Ok1 F q s) = subst (λ (m : Result). All m.R (λ q. Ok1 F q s)) (sym same) y in
        let under : All d.result.S (λ q. Ok2 F q t) = subst (λ (m : ℕ). All m (λ q. Ok2 F q t)) (sym set) z in
        let exists = (F.rule_facts ρ (get_elem?_in rules d.rule from.numbered)).next_exists in
        let v = left F d ρ exists u s t annotation rest under o from.says (λ j l. below j (from.uses_smaller j l)) in
        let own_moves_holds = F.own_moves_holds in
        let late : own_moves T.sizes ≤ n = omega arith in
        arrives_onward own rules T p a u s f t g d ρ v.0 late
        (ap (λ (m : ℕ). first_derivation (before T m) rules (result_of T.table (move_at T.table m))) c ∙ first)
        from.numbered (ap (λ (m : ℕ). after_decorated o (choices_after T.table d ρ.next o) m u s t) (sym symbol) ∙ v.1)
        (sym control) (sym symbol) v.2

    later_arrives : length own.moves ≤ i → ((j : ℕ) → j < i → Good F j)
        → Arrives rules T own (record { control = p; stack = cons2' (cons1' a u s f) t g })
    later_arrives b below = let n = F.derived i b h.below in by_derivation_lem b n.0 n.1 (first_from_lem F i n.1) below

  good_at : (i : ℕ) → ((j : ℕ) → j < i → Good F j) → Good F i
  unfolding erase1 result_of
  good_at i below r a u s f h x y c =
      record {
        inner = λ l. by_test (ltb i (length own.moves))
            (λ b. own_accepts F (ltb-true _ _ b) h x y)
            (λ b.
            let k : T.table.J ≤ (move_at T.table i).state = F.later_entry i (ltb-false _ _ b) h.below in
            let z : (move_at T.table i).state ≡ r = h.state_is in
            absurd (omega arith));
        entry = λ p S e q E t z g k. by_test (ltb i (length own.moves))
            (λ b. own_arrives F p S e i a u s f t g (ltb-true _ _ b) (rw q at h) E x y z (chosen p e q (entry_edge_lem T.table E).first_is g k))
            (λ b. later_arrives i p S e a u s f t g (rw q at h) E x y z (chosen p e q (entry_edge_lem T.table E).first_is g k) (ltb-false _ _ b) below);
      }
    where
      chosen : (p e : ℕ) → r ≡ T.table.J + e → (edge_at T.table (entry_edge T.table e)).first ≡ T.table.J + e → (g : ℕ → ℕ)
          → g p ≡ entry_edge T.table e → f (edge_at T.table (g p)).first ≡ i
      chosen p e q w g k = ap (λ (n : ℕ). f (edge_at T.table n).first) k ∙ ap f (w ∙ sym q) ∙ c

  -- the lemma
  pub good : (i : ℕ) → Good F i
  good i = go (suc i) i (omega arith)
    where
      go : (n j : ℕ) → j < n → Good F j
      go zero j h = absurd (not-suc-le-zero h)
      go (suc n) j h = good_at j (λ k l. go n k (omega arith))
