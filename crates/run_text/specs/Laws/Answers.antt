-- The text by the answer of guide.
-- Assumes nothing.
use Rattle.std.specs.Prelude.{ℕ, ◌+◌, ◌*◌, ◌≤◌, ◌≡◌, List}
use Rattle.std.proofs.Common.{ap, sym, subst, ◌∙◌, arith}
use Rattle.std.proofs.Math.Path.{ap₂}
use Rattle.replies.specs.declared.Reply.{Reply}
use Rattle.services.specs.Memory.{entry_width}
use Rattle.services.specs.Guide.{GuideDone, guide_service, cell_words}
use Rattle.start_file.specs.Checks.{files_of}
use Rattle.guided_start.specs.Run.{guide_input}
use Rattle.guide.specs.Service.{guide_done, judged_round}
use Rattle.services.specs.Listing.{listing_judge, round_won}
use Rattle.services.specs.Run.{run_guide, answer_text, run_text}
use Rattle.answer_text.specs.Bounds.{Bounded}
use Rattle.run_text.specs.Laws.Bounds.{guide_bounded}

-- the round of the answer, by judge's word
pub round_is : (case start : List ℕ) (number rounds : ℕ) {w r : ℕ} → w ≡ judged_round case start number rounds (1024 * 5) (64 * entry_width) → r ≡ w
    → r ≡ round_won (files_of case start) rounds number
unfolding round_won listing_judge
round_is case start number rounds is e = e ∙ is

module _ (case start : List ℕ) (number rounds : ℕ) {reply : Reply} {moves entries cells trace : List ℕ}
    (is : guide_done reply moves entries cells trace ≡ guide_service (guide_input case start number rounds (1024 * 5) (64 * entry_width) (4096 * 68) 65536)) where
  pub answer_bounded : Bounded number 65536 reply
  answer_bounded =
      subst (Bounded number 65536) (sym (ap (λ (d : GuideDone). d.reply) is)) (guide_bounded (guide_input case start number rounds (1024 * 5) (64 * entry_width) (4096 * 68) 65536))

  pub answer_is : {r : ℕ} → r ≡ round_won (files_of case start) rounds number → answer_text number r reply trace ≡ run_text (files_of case start) number rounds
  unfolding run_text run_guide cell_words
  answer_is e = ap₂ (λ (r : ℕ) (d : GuideDone). answer_text number r d.reply d.trace) e is

-- the bytes of the text for a trace of so many words
module _ {words : ℕ} (long : words ≡ 65536) where
  pub text_room : {room : ℕ} → 65536 * 6 + 80 ≤ room → 6 * words + 80 ≤ room
  text_room h = omega arith

  pub text_within : {end : ℕ} → end ≤ 6 * words + 80 → end ≤ 65536 * 6 + 80
  text_within h = omega arith
