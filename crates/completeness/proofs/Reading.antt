-- Readings of what is accepted: moves and readings that an annotation and a rest meet.
-- Assumes nothing.
use Prim.Native.Nat.{ℕ, ◌<◌}
use Rattle.std.specs.Prelude.{length}
use mathlib.Core.List.{Memᴰ}
use Rattle.words.specs.Sets.{members}
use Rattle.words.proofs.Sets.Laws.{All, in_has}
use Rattle.stacks.specs.Stack.{Stack1, cons1, Annotation, annotation_order}
use Rattle.automata.specs.Automaton.{Automaton, move_at}
use Rattle.automata.specs.Automaton.Laws.{MoveOf}
use Rattle.automata.proofs.Acceptance.Laws.{Accepts1, AcceptsAnnotation}
use Rattle.automata.specs.Derivation.{Joins, joins_of}
use Rattle.automata.specs.Derivation.Numbers.{paired_map, paired_of, paired_state}
use Rattle.automata.specs.Derivation.Joining.{join_all_some, join_all_all}
use Rattle.automata.specs.Facts.{TableFacts}
use Rattle.automata.specs.Facts.Laws.{move_at_facts}
use Rattle.completeness.specs.Reading.{AcceptsAs, annotation_out, Meets, Read}

module _ (A : Automaton) (u : Annotation) (s : Stack1) where
  -- a move that accepts
  pub move_meets : {P : ℕ} → TableFacts P A → (i : ℕ) → i < length A.moves → AcceptsAnnotation A u (move_at A i).order (move_at A i).B
      → All (move_at A i).R (Accepts1 A s) → Meets A u s (joins_of (move_at A i))
  move_meets F i l x y =
      let f = move_at_facts F i l in
      let n = annotation_out A u (move_at A i).order (move_at A i).B f.order_small f.none_empty x in
      record { fits = n.0; annotation = n.1; rest = y }

  -- "one choice of a move on a for each state": its own accepting move
  pub read : {P : ℕ} → TableFacts P A → (a R : ℕ) (j : Joins) → Meets A u s j → All R (Accepts1 A (cons1 a u s)) → Read A u s a R j
  unfolding Accepts1
  read F a R j x f =
      let (ms, p) = paired_of {X = λ r i. MoveOf A a r i × Meets A u s (joins_of (move_at A i))} (members R) (λ r i.
      let k = f r (in_has R i) in
      (k.number, (k.move, move_meets F k.number k.move.below k.annotation k.rest))) in
      let met : (i : ℕ) → Memᴰ i ms → Meets A u s (joins_of (move_at A i)) = λ i l. (paired_state p l).2.1 in
      let (k, e, o) = join_all_some A (annotation_order u) j ms x.fits (λ i l. (met i l).fits) in
      let b = join_all_all A (AcceptsAs A u) (Accepts1 A s) j ms e (x.annotation, x.rest) (λ i l. ((met i l).annotation, (met i l).rest)) in
      record {
        moves = ms;
        reading = paired_map (λ r i y. y.0) p;
        joins = k;
        joined = e;
        meets = record { fits = o; annotation = b.0; rest = b.1 };
      }
