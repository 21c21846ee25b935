-- The answer's numbers, beside what guide, replay or brackets leaves, are those of the service.
-- Assumes nothing.
use Rattle.std.specs.Prelude.{ℕ, List, ◌≡◌}
use Rattle.std.proofs.Common.{ap, ap₂, ◌∙◌}
use Rattle.replies.specs.declared.Counts.{Counts}
use Rattle.replies.specs.declared.Reply.{Reply}
use Rattle.replies.specs.declared.Replayed.{Replayed}
use Rattle.replies.specs.declared.Brackets.{Brackets}
use Rattle.replies.specs.Numbers.{number_of, reply_counts, replay_number, replay_step, brackets_number, brackets_length}
use Rattle.services.specs.Guide.{GuideDone}
use Rattle.services.specs.Replay.{ReplayDone}
use Rattle.services.specs.Brackets.{BracketsDone}
use Rattle.guide.specs.Service.{guide_done}
use Rattle.replay.specs.Service.{replay_done}
use Rattle.brackets.specs.Service.{brackets_done}
use Rattle.exports.specs.Answers.{the_answer, answer_of, the_replay, replay_of, the_brackets, brackets_of}

pub answered : (reply : Reply) (moves entries cells trace : List ℕ) (d : GuideDone) → guide_done reply moves entries cells trace ≡ d
    → (n : ℕ) → n ≡ number_of reply → (c : Counts) → c ≡ reply_counts reply → the_answer n c moves entries cells trace ≡ answer_of d
unfolding answer_of
answered reply moves entries cells trace d done n number c counts =
    ap₂ (λ (m : ℕ) (k : Counts). the_answer m k moves entries cells trace) number counts ∙ ap answer_of done

pub replay_answered : (reply : Replayed) (cells : List ℕ) (d : ReplayDone) → replay_done reply cells ≡ d → (n : ℕ) → n ≡ replay_number reply
    → (k : ℕ) → k ≡ replay_step reply → the_replay n k cells ≡ replay_of d
unfolding replay_of
replay_answered reply cells d done n number k step = ap₂ (λ (m j : ℕ). the_replay m j cells) number step ∙ ap replay_of done

pub brackets_answered : (reply : Brackets) (text : List ℕ) (d : BracketsDone) → brackets_done reply text ≡ d → (n : ℕ) → n ≡ brackets_number reply
    → (k : ℕ) → k ≡ brackets_length reply → the_brackets n k text ≡ brackets_of d
unfolding brackets_of
brackets_answered reply text d done n number k long = ap₂ (λ (m j : ℕ). the_brackets m j text) number long ∙ ap brackets_of done
