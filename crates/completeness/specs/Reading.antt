-- Readings of what is accepted: from a set of states that all accept symbol a annotated u, then s, there is a reading of a that u and s
-- meet. Its orders do not clash, because the one annotation u has one order.
-- Assumes nothing.
use Prim.Native.Nat.{ℕ, zero, suc, ◌≤◌}
use Rattle.std.specs.Prelude.{◌≡◌}
use Rattle.std.proofs.Math.Path.{refl}
use Rattle.std.proofs.Common.{inl, inr, arith}
use Rattle.std.proofs.Math.Option.{some}
use mathlib.Core.List.{List}
use Rattle.words.specs.Sets.{members}
use Rattle.words.proofs.Sets.Laws.{All, in_has, all_empty}
use Rattle.stacks.specs.Stack.{Stack1, Stack2, cons2, Annotation, of1, of2, annotation_order}
use Rattle.automata.specs.Automaton.{Automaton, edge_at}
use Rattle.automata.specs.Automaton.Laws.{MoveOf, EdgeOf}
use Rattle.automata.proofs.Acceptance.Laws.{Accepts1, Accepts2, AcceptsAnnotation, annotation_any}
use Rattle.automata.specs.Derivation.{Joins, join_all, named, edge_sets}
use Rattle.automata.specs.Derivation.Numbers.{Paired, paired_map, paired_of, paired_state}
use Rattle.automata.specs.Derivation.Joining.{Fits, named_all, edge_sets_all}

module _ (A : Automaton) where
  -- state q, of the annotation's order, accepts the annotation
  abbrev pub AcceptsAs : Annotation → ℕ → Type 0
  AcceptsAs (of1 v) q = Accepts1 A v q
  AcceptsAs (of2 v) q = Accepts2 A v q

  -- where B is empty at order 0 and no order is above 2, acceptance is: the order is 0 or u's, and each member of B accepts u
  pub annotation_out : (u : Annotation) (k B : ℕ) → k ≤ 2 → (k ≡ 0 → B ≡ 0) → AcceptsAnnotation A u k B → Fits (annotation_order u) k × All B (AcceptsAs u)
  unfolding AcceptsAnnotation annotation_order
  annotation_out u zero B l e x = (inl refl, rw (e refl) (all_empty (AcceptsAs u)))
  annotation_out (of1 v) (suc zero) B l e x = (inr refl, x)
  annotation_out (of1 v) (suc (suc k)) B l e x = absurd x
  annotation_out (of2 v) (suc zero) B l e x = absurd x
  annotation_out (of2 v) (suc (suc k)) B l e x = (inr (omega arith), x)

  pub annotation_in : (u : Annotation) (k B : ℕ) → Fits (annotation_order u) k → All B (AcceptsAs u) → AcceptsAnnotation A u k B
  unfolding AcceptsAnnotation annotation_order
  annotation_in u k B (inl e) x = annotation_any A u k B e
  annotation_in (of1 v) k B (inr e) x = rw e x
  annotation_in (of2 v) k B (inr e) x = rw e x

-- ---- joins that an annotation and a rest meet

module _ (A : Automaton) (u : Annotation) (s : Stack1) where
  pub record Meets (j : Joins) : Type 0 where
    pub fits : Fits (annotation_order u) j.order
    pub annotation : All j.B (AcceptsAs A u)
    pub rest : All j.R (Accepts1 A s)

  -- ---- a reading

  -- a reading of a from R whose moves, joined to j, u and s meet
  pub record Read (a R : ℕ) (j : Joins) : Type 0 where
    pub moves : List ℕ
    pub reading : Paired (MoveOf A a) (members R) moves
    pub joins : Joins
    pub joined : join_all A j moves ≡ some joins
    pub meets : Meets joins

-- ---- a choice of edges

-- edges of the states of S whose order-1 states accept w and whose sets accept t
pub record EdgesChosen (A : Automaton) (S : ℕ) (w : Stack1) (t : Stack2) : Type 0 where
  pub edges : List ℕ
  pub choice : Paired (EdgeOf A) (members S) edges
  pub tops : All (named A edges) (Accepts1 A w)
  pub rests : All (edge_sets A edges) (Accepts2 A t)

-- "one choice of edge for each": its own accepting edge
pub choose : (A : Automaton) (S : ℕ) (w : Stack1) (t : Stack2) → All S (Accepts2 A (cons2 w t)) → EdgesChosen A S w t
unfolding Accepts2
choose A S w t f =
    let (es, p) = paired_of {X = λ q i. EdgeOf A q i × Accepts1 A w (edge_at A i).first × All (edge_at A i).S (Accepts2 A t)} (members S) (λ q i.
    let k = f q (in_has S i) in
    (k.number, (k.edge, k.first, k.rest))) in
    record {
      edges = es;
      choice = paired_map (λ q i y. y.0) p;
      tops = named_all A (Accepts1 A w) es (λ i l. (paired_state p l).2.1);
      rests = edge_sets_all A (Accepts2 A t) es (λ i l. (paired_state p l).2.2);
    }
