-- What it means that a state is right about a decorated stack: an inner state, that the own automaton accepts the stack; a control, that
-- the walk arrives; an entry [p,S], that the walk from p arrives on whatever S is right about.
-- Assumes nothing.
use Rattle.std.specs.Prelude.{ℕ, ◌+◌, ◌<◌, ◌≤◌, true, ◌≡◌, refl, List}
use Rattle.std.proofs.Common.{◌∙◌, inl, inr, arith}
use Rattle.words.specs.Sets.{part_of}
use Rattle.words.proofs.Sets.Laws.{All, all_part}
use Rattle.stacks.specs.System.{Rule}
use Rattle.automata.specs.Automaton.{Automaton, entry_edge}
use Rattle.automata.specs.Automaton.Laws.{EntryIs}
use Rattle.automata.proofs.Acceptance.Laws.{Accepts1, Accepts2}
use Rattle.automata.specs.Derivation.Joining.{Fits}
use Rattle.automata.specs.Saturation.{Saturated}
use Rattle.soundness.specs.Facts.{SaturatedFacts}
use Rattle.soundness.specs.Decorated.{Decorated1, Decorated2, cons2', DecoratedAnnotation, of1', of2', erase1, erase2, Arrives}

-- F stands for P, own, rules and T.
module _ {P : ℕ} {own : Automaton} {rules : List Rule} {T : Saturated} (F : SaturatedFacts P own rules T) where
  -- order-2 state q is right about t
  pub record Ok2 (q : ℕ) (t : Decorated2) : Type 0 where
    pub inner : P ≤ q → Accepts2 own (erase2 t) q
    pub control : q < P → Arrives rules T own (record { control = q; stack = t })

  -- Order-1 state r is right about w. For entry e, which is [p,S], the order-2 cell on w must choose this entry for p.
  pub record Ok1 (r : ℕ) (w : Decorated1) : Type 0 where
    pub inner : r < T.table.J → Accepts1 own (erase1 w) r
    pub entry : (p S e : ℕ) → r ≡ T.table.J + e → EntryIs T.table p S e → (t : Decorated2) → All S (λ q. Ok2 q t)
        → (g : ℕ → ℕ) → g p ≡ entry_edge T.table e → Arrives rules T own (record { control = p; stack = cons2' w t g })

  -- the annotation is as a move of order k and annotation set B asks
  pub data OkAnnotation (k B : ℕ) : DecoratedAnnotation → Type 0 where
    any : {u : DecoratedAnnotation} → k ≡ 0 → OkAnnotation k B u
    one : {w : Decorated1} → k ≡ 1 → All B (λ r. Ok1 r w) → OkAnnotation k B (of1' w)
    two : {t : Decorated2} → k ≡ 2 → All B (λ q. Ok2 q t) → OkAnnotation k B (of2' t)

  -- a part of an annotation set asks no more
  pub ok_annotation_part : {k B : ℕ} {u : DecoratedAnnotation} (l C : ℕ) → Fits k l → part_of C B ≡ true → OkAnnotation k B u → OkAnnotation l C u
  ok_annotation_part l C (inl e) h x = any e
  ok_annotation_part l C (inr e) h (any z) = any (e ∙ z)
  ok_annotation_part {B = B} l C (inr e) h (one z f) = one (e ∙ z) (all_part C B h f)
  ok_annotation_part {B = B} l C (inr e) h (two z f) = two (e ∙ z) (all_part C B h f)

  pub ok_annotation_same : {k B l C : ℕ} {u : DecoratedAnnotation} → k ≡ l → B ≡ C → OkAnnotation k B u → OkAnnotation l C u
  ok_annotation_same {u = u} e f x = rw (← e, ← f) x

  -- at order 1 or 2 the annotation has that order
  pub ok_annotation_order1 : {k B : ℕ} {u : DecoratedAnnotation} → k ≡ 1 → OkAnnotation k B u → (w : Decorated1) × (u ≡ of1' w) × All B (λ r. Ok1 r w)
  ok_annotation_order1 e (any z) = absurd (omega arith)
  ok_annotation_order1 e (one {w = w} z f) = (w, refl, f)
  ok_annotation_order1 e (two z f) = absurd (omega arith)

  pub ok_annotation_order2 : {k B : ℕ} {u : DecoratedAnnotation} → k ≡ 2 → OkAnnotation k B u → (t : Decorated2) × (u ≡ of2' t) × All B (λ q. Ok2 q t)
  ok_annotation_order2 e (any z) = absurd (omega arith)
  ok_annotation_order2 e (one z f) = absurd (omega arith)
  ok_annotation_order2 e (two {t = t} z f) = (t, refl, f)
