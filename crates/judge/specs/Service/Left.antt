-- What judge leaves in lent memory, in each case.
-- Assumes nothing.
use Prim.Native.Nat.{ℕ, ◌-◌, ◌≤◌}
use Rattle.std.specs.Prelude.{Bool, ◌≡◌}
use Rattle.std.proofs.Math.Path.{refl, ap, sym}
use Rattle.std.proofs.Common.{◌∙◌}
use Rattle.std.proofs.Math.Option.{none, some}
use mathlib.Core.List.{List, ◌++◌, map}
use Rattle.std.proofs.Math.ListN.{length, drop, length-map}
use Rattle.automata.specs.Saturation.{Saturated, rounds_added}
use Rattle.files.specs.Start.{starts_of}
use Rattle.services.specs.Memory.{padded}
use Rattle.words.specs.Lists.{zeros}
use Rattle.services.specs.Saturate.{saturated}
use Rattle.services.specs.Judge.{JudgeInput, JudgeDone, judge_lent, judge_left, judge_service, more_to_add, mark}
use Rattle.words.specs.Lists.Laws.{drop_zeros}
use Rattle.services.specs.Memory.Laws.{padded_none}
use Rattle.sound_files.specs.Refusal.{FilesSound, answers_refusal}
use Rattle.sound_files.specs.Saturated.{lent_of}
use Rattle.judge.specs.Marks.{mark_of}
use Rattle.judge.specs.Marks.Laws.{marks_judged}
use Rattle.judge.specs.Service.{judge_input, judge_done, the_refused}
use Rattle.judge.specs.Service.Cases.{answers_refused, answers_exceeded, answers_judged}

done_same : {c d k l : ℕ} {m n e f a b : List ℕ} → c ≡ d → k ≡ l → m ≡ n → e ≡ f → a ≡ b
    → judge_done (record { code = c; rounds = k }) m e a ≡ judge_done (record { code = d; rounds = l }) n f b
done_same p k q r s = λ i. record { code = p i; rounds = k i; moves = q i; entries = r i; answers = s i }

module _ (x : JudgeInput) {m e a : List ℕ} where
  pub left_refused : {c n : ℕ} → n ≡ x.answers → c ≡ answers_refusal x.case x.start n → (c ≡ 0 → ⊥) → m ≡ zeros x.moves → e ≡ zeros x.entries
      → a ≡ zeros x.answers → judge_done (the_refused c) m e a ≡ judge_service x
  unfolding judge_left
  left_refused {c} k is h p q r =
      let same : c ≡ answers_refusal x.case x.start x.answers = is ∙ ap (λ (i : ℕ). answers_refusal x.case x.start i) k in
      done_same same refl p q (r ∙ sym (padded_none x.answers))
      ∙ sym (answers_refused x (λ z. h (same ∙ z)))

  module _ (sound : FilesSound x.case x.start) (lent : length (starts_of x.start) ≤ x.answers) {k l : ℕ} (kept : k ≡ x.moves) (kept' : l ≡ x.entries)
      (p : m ≡ zeros k) (q : e ≡ zeros l) where
    pub left_exceeded : saturated (lent_of x.case x.moves x.entries) x.rounds ≡ none → a ≡ zeros x.answers
        → judge_done (the_refused 9) m e a ≡ judge_service x
    unfolding judge_left judge_lent
    left_exceeded h z =
        done_same refl refl (p ∙ ap zeros kept) (q ∙ ap zeros kept') (z ∙ sym (padded_none x.answers))
        ∙ sym (answers_exceeded x sound lent h)

    -- a₀ being the answers before they are marked
    pub left_judged : {T : Saturated} {a₀ : List ℕ} → saturated (lent_of x.case x.moves x.entries) x.rounds ≡ some T → a₀ ≡ zeros x.answers
        → {more : Bool} → more ≡ more_to_add x.case T → a ≡ map (mark_of more T x.start) (starts_of x.start) ++ drop (length (starts_of x.start)) a₀
        → {count : ℕ} → count ≡ rounds_added T → judge_done (record { code = 0; rounds = count }) m e a ≡ judge_service x
    unfolding judge_left judge_lent padded
    left_judged {T} {a₀} h z mo marks c =
        let n : ℕ = length (starts_of x.start) in
        let l : List ℕ = map (mark x.case T x.start) (starts_of x.start) in
        let len : length l ≡ n = length-map (starts_of x.start) (mark x.case T x.start) in
        done_same refl c (p ∙ ap zeros kept) (q ∙ ap zeros kept')
        (marks
        ∙ ap (λ (y : List ℕ). y ++ drop n a₀) (marks_judged (lent_of x.case x.moves x.entries) x.rounds sound.sound_case h mo x.start)
        ∙ ap (λ (y : List ℕ). l ++ y) (ap (drop n) z ∙ drop_zeros n x.answers ∙ ap (λ (i : ℕ). zeros (x.answers - i)) (sym len)))
        ∙ sym (answers_judged x sound lent h)

-- the same slices are lent where a call before has kept their lengths
pub service_kept : (case start : List ℕ) (rounds : ℕ) {d : JudgeDone} {m m' e e' a a' : ℕ} → d ≡ judge_service (judge_input case start rounds m e a)
    → m ≡ m' → e ≡ e' → a ≡ a' → d ≡ judge_service (judge_input case start rounds m' e' a')
service_kept case start rounds h p q r = h ∙ (λ i. judge_service (judge_input case start rounds (p i) (q i) (r i)))
