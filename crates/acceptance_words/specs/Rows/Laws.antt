-- The words of a row and their answers; the latest answer for a set, one state after another.
-- Assumes nothing.
use Rattle.std.specs.Prelude.{ℕ, suc, ◌+◌, ◌-◌, ◌*◌, ◌≤◌, ◌<◌, ◌≡◌, refl, List, ◌∷◌, length, get_or}
use Rattle.std.proofs.Common.{ap, sym, ◌∙◌, subst, arith, lt-ltb, le-ltb}
use Rattle.words.specs.Sets.{members, members_from}
use Rattle.replies.specs.declared.Acceptance.{Acceptance}
use Rattle.replies.specs.declared.Acceptance.TheVariants.{Never, Since}
use Rattle.replies.specs.Numbers.{answer_word}
use Rattle.rounds.specs.Won.{later, latest}
use Rattle.rounds.specs.Won.Answers.{later_first, later_last, later_assoc, later_small}
use Rattle.acceptance_words.specs.Rows.{acceptance_of, round_in}

-- ---- words and answers

pub acceptance_word : (a : Acceptance) → acceptance_of (answer_word a) ≡ a
unfolding acceptance_of answer_word
acceptance_word Never = refl
acceptance_word (Since r) = refl

-- a round whose word is small
pub since_small : {a : Acceptance} {r w : ℕ} → a ≡ Since r → answer_word a < w → r + 1 < w
unfolding answer_word
since_small {a} {r} {w} e l = let k : suc r < w = subst (λ (b : Acceptance). answer_word b < w) e l in omega arith

-- a state below 64 has a word
pub round_there : (rounds : List ℕ) (cell q : ℕ) → q < 64 → round_in rounds cell q ≡ acceptance_of (get_or rounds (cell * 64 + q) 0)
unfolding round_in
round_there rounds cell q l = rw (round_in, lt-ltb q 64 l)

pub round_past : (rounds : List ℕ) (cell q : ℕ) → 64 ≤ q → round_in rounds cell q ≡ Never
unfolding round_in
round_past rounds cell q l = rw (round_in, le-ltb q 64 l)

-- as the code reads them
pub read_never : (rounds : List ℕ) (cell q : ℕ) → q < 64 → get_or rounds (cell * 64 + q) 0 ≡ 0
    → (Never ≡ round_in rounds cell q) × (answer_word Never < 65536)
unfolding acceptance_of answer_word
read_never rounds cell q l e = (sym (round_there rounds cell q l ∙ ap acceptance_of e), omega arith)

pub read_since : (rounds : List ℕ) (cell q : ℕ) {r : ℕ} → q < 64 → (get_or rounds (cell * 64 + q) 0 ≡ 0 → ⊥) → get_or rounds (cell * 64 + q) 0 < 65536
    → r ≡ get_or rounds (cell * 64 + q) 0 - 1 → (Since r ≡ round_in rounds cell q) × (answer_word (Since r) < 65536)
unfolding acceptance_of answer_word
read_since rounds cell q {r} l h small is =
    let w : ℕ = get_or rounds (cell * 64 + q) 0 in
    let e : w ≡ suc r = omega arith in
    (sym (round_there rounds cell q l ∙ ap acceptance_of e), omega arith)

-- ---- all states of a set, one after another

-- All states of the set but those left are looked at: the latest answer for them is `all`.
pub record LatestBut (f : ℕ → Acceptance) (set left : ℕ) (all : Acceptance) : Type 0 where
  pub is : latest f (members set) ≡ later all (latest f (members left))
  pub small : answer_word all < 65536

pub latest_none : (f : ℕ → Acceptance) (set : ℕ) → LatestBut f set set (Since 0)
unfolding answer_word
latest_none f set = record { is = sym (later_first (latest f (members set))); small = omega arith }

pub latest_more : {f : ℕ → Acceptance} {set left q others : ℕ} {all a all' : Acceptance} → LatestBut f set left all → members left ≡ q ∷ members others
    → (a ≡ f q) × (answer_word a < 65536) → all' ≡ later all a → LatestBut f set others all'
unfolding latest
latest_more {f} {others = others} {all} {a} h e (g, k) w =
    record {
      is =
          h.is
          ∙ ap (λ (l : List ℕ). later all (latest f l)) e
          ∙ ap (λ (b : Acceptance). later all (later b (latest f (members others)))) (sym g)
          ∙ sym (later_assoc all a (latest f (members others)))
          ∙ ap (λ (b : Acceptance). later b (latest f (members others))) (sym w);
      small = subst (λ (b : Acceptance). answer_word b < 65536) (sym w) (later_small 65536 all a h.small k);
    }

pub latest_all : {f : ℕ → Acceptance} {set left : ℕ} {all : Acceptance} → LatestBut f set left all → left ≤ 0
    → (all ≡ latest f (members set)) × (answer_word all < 65536)
unfolding latest members members_from
latest_all {f} {left = left} {all} h l =
    let z : left ≡ 0 = omega arith in
    (sym (h.is ∙ ap (λ (k : ℕ). later all (latest f (members k))) z ∙ later_last all), h.small)

pub members_fewer : (left q others : ℕ) → members left ≡ q ∷ members others → length (members others) < length (members left)
members_fewer left q others e = let l : length (members left) ≡ suc (length (members others)) = ap length e in omega arith
