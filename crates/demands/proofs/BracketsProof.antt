-- The promises of brackets, proved from demand 1, which leaves it one answer, and from the law that stacks can be told from their texts.
-- Assumes nothing.
use Rattle.std.specs.Prelude.{ℕ, ◌≤◌, ◌≡◌, length, take}
use Rattle.std.proofs.Math.Path.{refl}
use Rattle.std.proofs.Common.{ap, ap₂, sym, ◌∙◌, subst, lt_of_lt_of_le}
use mathlib.Core.List.{List, [], ◌∷◌, ◌++◌}
use Rattle.std.proofs.Math.Nat.{lt_irrefl}
use Rattle.std.proofs.Math.Seq.{take-append_seam}
use Rattle.std.proofs.lemmas.Bool.{eqb-false}
use Rattle.replies.specs.declared.Brackets.{Brackets}
use Rattle.replies.specs.declared.Brackets.TheVariants.{Printed}
use Rattle.files.specs.Start.{configuration_at}
use Rattle.services.specs.Memory.{padded}
use Rattle.services.specs.Brackets.{stack_text, BracketsInput, root_text, BracketsDone, brackets_service}
use Rattle.services.proofs.Told.{stack_told}
use Rattle.demands.specs.Refusals.{Refusal, refusal, Returned, TextLonger, brackets_early, brackets_refusals}
use Rattle.demands.specs.Refusals.Laws.{unlisted, returned_before, returned_then, returned_last, applies_here, applies_not, none_applies}
use Rattle.demands.specs.Refusals.Brackets.{text_fits}
use Rattle.demands.specs.Demand1.{BracketsAnswered, BracketsStates}
use Rattle.demands.proofs.Demand1.Proof.{prints_states, refuses_states, demand1_brackets}
use Rattle.demands.proofs.Determined.{brackets_only}
use Rattle.demands.specs.Brackets.{NoneAlike, FrontTold, PrintsTold, PrintsExactly, BracketsExactly, SameText}

-- ---- no two stacks print alike

pub front_told : FrontTold
front_told = stack_told

pub none_alike : NoneAlike
none_alike t r e = (front_told t r [] [] (ap (λ (l : List ℕ). l ++ []) e)).0

-- what an answer that prints has printed
printed_text : (x : BracketsInput) (d : BracketsDone) (k : ℕ) → BracketsStates x d → d.reply ≡ Printed k
    → (k ≡ length (root_text x)) × (take k d.text ≡ root_text x)
unfolding padded
printed_text x d k s e =
    let (_, l, t) = subst (λ (r : Brackets). BracketsAnswered x r d.text) e s.answered in
    (l, ap₂ take l t ∙ take-append_seam (root_text x) _)

pub prints_told : PrintsTold
unfolding root_text
prints_told x y d e k m s t f g h =
    let z : root_text x ≡ root_text y = sym (printed_text x d k s f).1 ∙ h ∙ (printed_text y e m t g).1 in
    none_alike _ _ z

-- ---- when each answer is given

module _ (x : BracketsInput) where
  answered : {r : Brackets} → (brackets_service x).reply ≡ r → BracketsAnswered x r (brackets_service x).text
  answered e = subst (λ (r : Brackets). BracketsAnswered x r (brackets_service x).text) e (demand1_brackets x).answered

  only_answer : (d : BracketsDone) → BracketsStates x d → (brackets_service x).reply ≡ d.reply
  only_answer d s = ap (λ (e : BracketsDone). e.reply) (sym (brackets_only x d s))

  abbrev long_line : Refusal BracketsInput
  long_line = refusal 13 TextLonger

  -- no number applies
  unrefused : Returned brackets_early x 0 → length (root_text x) ≤ x.text → Returned brackets_refusals x 0
  unfolding unlisted
  unrefused s h =
      returned_then brackets_early (long_line ∷ []) x 0 refl s (applies_not long_line [] x 0 (λ l. lt_irrefl _ (lt_of_lt_of_le l h)) (none_applies x))

  exactly : PrintsExactly x (brackets_service x).reply
  unfolding unlisted
  exactly =
      record {
        printed = λ k. (
          λ e. let (r, l, _) = answered e in (returned_before brackets_early (long_line ∷ []) x r, l, rw l (text_fits x r)),
          λ h. let (s, l, f) = h in only_answer _ (prints_states x k l (unrefused s (rw l at f))),
        );
        longer = (
          λ e. let (r, bad, _) = answered e in returned_last brackets_early long_line x refl bad r,
          λ h.
              let (s, l) = h in
              let r = returned_then brackets_early (long_line ∷ []) x 13 refl s (applies_here long_line [] x l) in
              only_answer _ (refuses_states x 13 (eqb-false 13 0 refl) r),
        );
      }

-- for the contract of the code
pub brackets_exactly : BracketsExactly
brackets_exactly = exactly

-- ---- what is lent

pub same_text : SameText
unfolding root_text
same_text x y d e k m f n s t p q =
    let z : root_text x ≡ root_text y = ap₂ (λ (l : List ℕ) (i : ℕ). stack_text (configuration_at l i).stack) f n in
    let (a, b) = printed_text x d k s p in
    let (c, g) = printed_text y e m t q in
    (a ∙ ap length z ∙ sym c, b ∙ z ∙ sym g)
