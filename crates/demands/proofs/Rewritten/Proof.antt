-- Tools' own codes, proved: the services depend on a case only through its refusal and what it decodes to, and the rewriting has both.
-- Assumes nothing.
use Rattle.std.specs.Prelude.{ℕ, ◌≤◌, false, ◌≡◌, get_or}
use Rattle.std.proofs.Common.{sym, ◌∙◌, arith}
use mathlib.Core.List.Memᴰ
use mathlib.Core.List.{List, Memᴰ}
use Rattle.words.specs.Laws.Tests.{by_test}
use Rattle.files.specs.Bytes.{records_of}
use Rattle.files.specs.Codes.{our_code, in_our_codes}
use Rattle.files.specs.Codes.Laws.{code_missing}
use Rattle.files.specs.Case.{codes_of, rule_bytes, rule_records, records_right}
use Rattle.files.proofs.Case.Laws.{case_places, records_bounds}
use Rattle.files.specs.Case.Refusal.{refusal_by, refusal_is}
use Rattle.files.specs.Rewriting.{SameCase}
use Rattle.files.proofs.Rewriting.Laws.{same_heads, rules_rewritten, same_edges, same_moves, rewriting_first, rewriting_placed}
use Rattle.files.proofs.Rewriting.Laws.{is_placed, head_in_range, codes_differ, same_case}
use Rattle.services.proofs.Laws.SameCase.{saturate_alike, judge_alike, guide_alike, replay_alike, brackets_alike, listing_alike, run_text_alike, show_alike}
use Rattle.demands.specs.Refusals.Codes.{codes_wrong}
use Rattle.demands.proofs.Determined.{saturate_only, judge_only, guide_only, replay_only, brackets_only}
use Rattle.demands.specs.Rewritten.{RewritingIs, AnswersAs, Rewritten, SharesAnswers, Shared, UnlistedCode, CodesRefused}

-- ---- the case rewritten

pub rewriting_is : RewritingIs
rewriting_is case e =
    let p = case_places case e in
    record {
      first_byte = rewriting_first case p;
      in_place = rewriting_placed case p;
      heads = same_heads case p;
      rules = rules_rewritten case p;
      edges = same_edges case p;
      moves = same_moves case p;
    }

-- ---- its answers

answers_as : {case other : List ℕ} → SameCase case other → AnswersAs case other
answers_as s =
    record {
      saturates = saturate_alike s;
      judges = judge_alike s;
      guides = guide_alike s;
      replays = replay_alike s;
      prints = brackets_alike s;
      lists = listing_alike s;
      runs = run_text_alike s;
      shows = show_alike s;
    }

pub rewritten : Rewritten
rewritten case r = answers_as (same_case case r)

-- ---- answers of any program

shares_answers : {case other : List ℕ} → AnswersAs case other → SharesAnswers case other
shares_answers a =
    record {
      saturates = λ moves entries d e s t. saturate_only _ d s ∙ a.saturates moves entries ∙ sym (saturate_only _ e t);
      judges = λ start rounds moves entries answers d e s t. judge_only _ d s ∙ a.judges start rounds moves entries answers ∙ sym (judge_only _ e t);
      guides = λ start number rounds moves entries cells trace d e s f t g.
          guide_only _ d s f ∙ a.guides start number rounds moves entries cells trace ∙ sym (guide_only _ e t g);
      replays = λ start number trace cells d e s t. replay_only _ d s ∙ a.replays start number trace cells ∙ sym (replay_only _ e t);
      prints = λ start number text d e s t. brackets_only _ d s ∙ a.prints start number text ∙ sym (brackets_only _ e t);
    }

pub shared : Shared
shared case r = shares_answers (rewritten case r)

-- ---- refusals 3 and 12

-- a rule whose code is not in the record breaks a bound
unlisted_breaks : (case x : List ℕ) → Memᴰ x (records_of case 1 5) → (Memᴰ (get_or x 2 0) (codes_of case) → ⊥) → records_right case ≡ false
unfolding rule_records rule_bytes in_our_codes
unlisted_breaks case x j bad = by_test (records_right case)
    (λ t.
    let l : 1 ≤ our_code (codes_of case) (get_or x 2 0) = ((records_bounds case t).rule (Memᴰ.map (λ y. rule_bytes (in_our_codes (codes_of case) y)) j)).code_least in
    let z : our_code (codes_of case) (get_or x 2 0) ≡ 0 = code_missing (codes_of case) (get_or x 2 0) bad in
    absurd (omega arith))
    (λ t. t)

pub unlisted_code : UnlistedCode
unfolding refusal_by
unlisted_code case r x j bad =
    refusal_is case ∙ rw (is_placed case r, head_in_range case r, codes_differ case r, unlisted_breaks case x j bad)

pub codes_refused : CodesRefused
unfolding refusal_by
codes_refused case p h w = refusal_is case ∙ rw (p, h, (codes_wrong (codes_of case)).1 w)
