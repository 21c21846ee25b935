-- The text of an answer that is neither a refusal nor a walk is the start's line.
-- Assumes nothing.
use Rattle.std.specs.Prelude.{ℕ, ◌<◌, ◌≡◌, ◌⊎◌, List}
use Rattle.std.proofs.Common.{inl, inr, ap, sym, ◌∙◌, subst}
use Rattle.replies.specs.declared.Reply.{Reply}
use Rattle.replies.specs.declared.Reply.TheVariants.{NoRun, Open}
use Rattle.services.specs.Listing.{reply_line}
use Rattle.services.specs.Run.{answer_text}
use Rattle.answer_text.specs.Bounds.{Bounded}

module _ (r : Reply) (is : (r ≡ NoRun) ⊎ (r ≡ Open)) (n : ℕ) where
  pub number_few : (words : ℕ) → Bounded n words r → n < 64
  unfolding Bounded
  number_few words b = go is
    where
      go : (r ≡ NoRun) ⊎ (r ≡ Open) → n < 64
      go (inl e) = subst (Bounded n words) e b
      go (inr e) = subst (Bounded n words) e b

  pub line_alone : (round : ℕ) (trace : List ℕ) → reply_line n round r ≡ answer_text n round r trace
  unfolding answer_text
  line_alone round trace = go is
    where
      go : (r ≡ NoRun) ⊎ (r ≡ Open) → reply_line n round r ≡ answer_text n round r trace
      go (inl e) = ap (reply_line n round) e ∙ ap (λ (q : Reply). answer_text n round q trace) (sym e)
      go (inr e) = ap (reply_line n round) e ∙ ap (λ (q : Reply). answer_text n round q trace) (sym e)
