-- A list written from the front: none, one element more, all.
-- Assumes nothing.
use Rattle.std.specs.Prelude.{ℕ, suc, ◌+◌, ◌≤◌, ◌<◌, ◌≡◌, refl, List, [], ◌∷◌, ◌++◌, length, get_or, take, drop, set}
use Rattle.std.proofs.Common.{ap, sym, ◌∙◌, add-one, arith, length-set, length-take-le, take-suc, take_all, drop-cons}
use Rattle.std.proofs.lemmas.List.{set_at}
use Rattle.std.proofs.Math.Seq.{append_snoc}
use Rattle.judge.specs.WrittenBelow.{WrittenBelow}

pub written_none : (all w : List ℕ) → WrittenBelow all w w 0
written_none all w = record { is = refl; long = refl; within = omega arith }

pub written_more : {all w₀ w w' : List ℕ} {i v : ℕ} → WrittenBelow all w₀ w i → i < length all → length all ≤ length w₀ → v ≡ get_or all i 0
    → w' ≡ set w i v → WrittenBelow all w₀ w' (i + 1)
written_more {all} {w₀} {w} {w'} {i} {v} h l b e f =
    let t : length (take i all) ≡ i = length-take-le i all (omega arith) in
    record {
      is =
          f
          ∙ ap (λ (x : List ℕ). set x i v) (h.is ∙ ap (λ (x : List ℕ). take i all ++ x) (drop-cons w₀ i 0 (omega arith)))
          ∙ set_at (take i all) (get_or w₀ i 0) (drop (suc i) w₀) v i t
          ∙ sym (append_snoc (take i all) v (drop (suc i) w₀))
          ∙ ap (λ (x : ℕ). (take i all ++ x ∷ []) ++ drop (suc i) w₀) e
          ∙ ap (λ (x : List ℕ). x ++ drop (suc i) w₀) (sym (take-suc all i 0 l))
          ∙ ap (λ (k : ℕ). take k all ++ drop k w₀) (sym (add-one i));
      long = ap length f ∙ length-set w i v ∙ h.long;
      within = omega arith;
    }

pub written_all_lem : {all w₀ w : List ℕ} {i n : ℕ} → WrittenBelow all w₀ w i → length all ≡ n → n ≤ i → w ≡ all ++ drop n w₀
written_all_lem {all} {w₀} {i = i} {n = n} h e l =
    let b : i ≤ length all = h.within in
    let z : i ≡ n = omega arith in
    h.is ∙ ap (λ (x : List ℕ). x ++ drop i w₀) (take_all i all (omega arith)) ∙ ap (λ (k : ℕ). all ++ drop k w₀) z
