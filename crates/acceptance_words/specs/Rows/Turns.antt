-- The words of a cell as the code comes to them: what each test says, and the word that is written.
-- Assumes nothing.
use Prim.Native.Nat.{ℕ, zero, suc, ◌+◌, ◌*◌, ◌<◌}
use Rattle.std.specs.Prelude.{Bool, true, false, ◌≡◌, List, set, eqb}
use Rattle.std.proofs.Math.Path.{refl, ap}
use Rattle.std.proofs.Common.{ap₂, sym, ◌∙◌, subst, arith, eq-eqb, ne_eqb}
use Rattle.words.specs.Sets.{member, members}
use Rattle.replies.specs.declared.Acceptance.{Acceptance}
use Rattle.replies.specs.declared.Acceptance.TheVariants.{Never, Since}
use Rattle.replies.specs.Numbers.{answer_word}
use Rattle.rounds.specs.Won.{earlier, later, latest, final_round, annotation_round}
use Rattle.rounds.specs.Won.Answers.{later_small, earlier_small}
use Rattle.acceptance_words.specs.Rows.{round_in, with_earlier}

-- an answer is this one, and its word is small
abbrev pub Answers : Acceptance → Acceptance → Type 0
Answers r a = (r ≡ a) × (answer_word r < 65536)

-- ---- the later and the earlier of two

pub later_both : {r a b x y : Acceptance} → r ≡ later a b → Answers a x → Answers b y → Answers r (later x y)
later_both {a = a} {b} e (f, k) (g, l) = (
  e ∙ ap₂ later f g,
  subst (λ (c : Acceptance). answer_word c < 65536) (sym e) (later_small 65536 a b k l),
)

pub earlier_word : {r : Acceptance} (a b : Acceptance) → r ≡ earlier a b → answer_word a < 65536 → answer_word b < 65536 → answer_word r < 65536
earlier_word a b e k l = subst (λ (c : Acceptance). answer_word c < 65536) (sym e) (earlier_small 65536 a b k l)

-- the earlier, as it is written
pub put_written : (rounds : List ℕ) (cell q : ℕ) (a : Acceptance) {was b : Acceptance} {w : ℕ} → was ≡ round_in rounds cell q → b ≡ earlier was a → w ≡ answer_word b
    → set rounds (cell * 64 + q) w ≡ with_earlier rounds cell q a
unfolding with_earlier
put_written rounds cell q a e f g =
    ap (set rounds (cell * 64 + q)) (g ∙ ap answer_word (f ∙ ap (λ (c : Acceptance). earlier c a) e))

-- ---- an annotation

-- the answer if the test holds, and never otherwise
abbrev only_if : Bool → Acceptance → Acceptance
only_if b a = elim b [ true ↦ a | false ↦ Never ]

module _ (k : ℕ) (f : ℕ → Acceptance) (B : ℕ) where
  first_is : (o : ℕ) → o ≡ 1 → annotation_round k f o B ≡ only_if (eqb k 1) (latest f (members B))
  unfolding annotation_round
  first_is o e = ap (λ (j : ℕ). annotation_round k f j B) e

  -- every order but 0 and 1
  second_is : (o : ℕ) → (o ≡ 0 → ⊥) → (o ≡ 1 → ⊥) → annotation_round k f o B ≡ only_if (eqb k 2) (latest f (members B))
  unfolding annotation_round
  second_is zero d e = absurd (d refl)
  second_is (suc zero) d e = absurd (e refl)
  second_is (suc (suc o)) d e = refl

  module _ (o : ℕ) where
    pub annotation_any : o ≡ 0 → Answers (Since 0) (annotation_round k f o B)
    unfolding annotation_round answer_word
    annotation_any e = (rw e, omega arith)

    pub annotation_first : {r : Acceptance} → o ≡ 1 → k ≡ 1 → Answers r (latest f (members B)) → Answers r (annotation_round k f o B)
    annotation_first e h (g, s) = (g ∙ sym (first_is o e ∙ ap (λ (b : Bool). only_if b (latest f (members B))) (eq-eqb k 1 h)), s)

    pub annotation_not_first : o ≡ 1 → (k ≡ 1 → ⊥) → Answers Never (annotation_round k f o B)
    unfolding answer_word
    annotation_not_first e h = (sym (first_is o e ∙ ap (λ (b : Bool). only_if b (latest f (members B))) (ne_eqb k 1 h)), omega arith)

    pub annotation_second : {r : Acceptance} → (o ≡ 0 → ⊥) → (o ≡ 1 → ⊥) → k ≡ 2 → Answers r (latest f (members B)) → Answers r (annotation_round k f o B)
    annotation_second d e h (g, s) = (g ∙ sym (second_is o d e ∙ ap (λ (b : Bool). only_if b (latest f (members B))) (eq-eqb k 2 h)), s)

    pub annotation_not_second : (o ≡ 0 → ⊥) → (o ≡ 1 → ⊥) → (k ≡ 2 → ⊥) → Answers Never (annotation_round k f o B)
    unfolding answer_word
    annotation_not_second d e h = (sym (second_is o d e ∙ ap (λ (b : Bool). only_if b (latest f (members B))) (ne_eqb k 2 h)), omega arith)

-- ---- final states

pub final_is : (set q : ℕ) {b : Bool} → b ≡ true → b ≡ member set q → Answers (Since 0) (final_round set q)
unfolding final_round answer_word
final_is set q e f = (sym (rw (final_round, sym f ∙ e)), omega arith)

pub final_not : (set q : ℕ) {b : Bool} → b ≡ false → b ≡ member set q → Answers Never (final_round set q)
unfolding final_round answer_word
final_not set q e f = (sym (rw (final_round, sym f ∙ e)), omega arith)
