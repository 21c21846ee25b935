-- What guide leaves in lent memory, in each case.
-- Assumes nothing.
use Rattle.std.specs.Prelude.{ℕ, ◌<◌, ◌≡◌, List, length}
use Rattle.std.proofs.Math.Path.{refl, ap, sym}
use Rattle.std.proofs.Common.{◌∙◌}
use Rattle.std.proofs.Math.Option.{none, some}
use Rattle.automata.specs.Saturation.{Saturated}
use Rattle.replies.specs.declared.Reply.{Reply}
use Rattle.replies.specs.declared.Reply.TheVariants.{Refused}
use Rattle.files.specs.Start.{starts_of}
use Rattle.words.specs.Lists.{zeros}
use Rattle.services.specs.Saturate.{saturated}
use Rattle.services.specs.Guide.{GuideInput, GuideDone, guide_lent, guide_run, guide_left, refused, guide_service}
use Rattle.services.specs.Memory.Laws.{padded_none}
use Rattle.guided_walk.specs.Turns.{Leaves}
use Rattle.sound_files.specs.Refusal.{FilesSound, number_refusal}
use Rattle.sound_files.specs.Saturated.{lent_of}
use Rattle.guided_start.specs.Run.{guide_input}
use Rattle.guide.specs.Service.{guide_done}
use Rattle.guide.specs.Service.Cases.{answers_refused, answers_exceeded, answers_guided}

done_same : {r s : Reply} {m n e f c d t u : List ℕ} → r ≡ s → m ≡ n → e ≡ f → c ≡ d → t ≡ u → guide_done r m e c t ≡ guide_done s n f d u
done_same o p q k l = λ i. record { reply = o i; moves = p i; entries = q i; cells = k i; trace = l i }

-- memory that was zeroed, as its lengths were kept
pub zeros_kept : {n k : ℕ} {l : List ℕ} → l ≡ zeros n → n ≡ k → l ≡ zeros k
zeros_kept e f = e ∙ ap zeros f

module _ (x : GuideInput) {m e c t : List ℕ} (p : m ≡ zeros x.moves) (q : e ≡ zeros x.entries) (k : c ≡ zeros x.cells) where
  pub left_refused : {n : ℕ} → n ≡ number_refusal x.case x.start x.number → (n ≡ 0 → ⊥) → t ≡ zeros x.trace
      → guide_done (Refused n) m e c t ≡ guide_service x
  unfolding guide_left refused
  left_refused is h z =
      done_same (ap Refused is) p q k (z ∙ sym (padded_none x.trace)) ∙ sym (answers_refused x (λ n. h (is ∙ n)))

  module _ (sound : FilesSound x.case x.start) (there : x.number < length (starts_of x.start)) where
    pub left_exceeded : saturated (lent_of x.case x.moves x.entries) x.rounds ≡ none → t ≡ zeros x.trace
        → guide_done (Refused 9) m e c t ≡ guide_service x
    unfolding guide_left refused guide_lent
    left_exceeded h z = done_same refl p q k (z ∙ sym (padded_none x.trace)) ∙ sym (answers_exceeded x sound there h)

    pub left_guided : {r : Reply} {T : Saturated} → saturated (lent_of x.case x.moves x.entries) x.rounds ≡ some T → Leaves (guide_run x T) x.trace r t
        → guide_done r m e c t ≡ guide_service x
    unfolding guide_left guide_lent
    left_guided h a = done_same a.reply_is p q k a.trace_is ∙ sym (answers_guided x sound there h)

-- the same slices are lent where a call before has kept their lengths
pub service_kept : (case start : List ℕ) (number rounds : ℕ) {d : GuideDone} {m m' e e' c c' t t' : ℕ} → d ≡ guide_service (guide_input case start number rounds m e c t)
    → m ≡ m' → e ≡ e' → c ≡ c' → t ≡ t' → d ≡ guide_service (guide_input case start number rounds m' e' c' t')
service_kept case start number rounds h p q r s = h ∙ (λ i. guide_service (guide_input case start number rounds (p i) (q i) (r i) (s i)))
