-- The words of a sound start file are those of judge.
-- Assumes nothing.
use Rattle.std.specs.Prelude.{ℕ, Bool, true, false, ◌≡◌, refl, length, drop}
use Rattle.std.proofs.lemmas.Bool.{false≢true}
use Rattle.std.proofs.Common.{ap, ap₂, sym, ◌∙◌}
use Rattle.std.proofs.Math.Option.{some}
use mathlib.Core.List.{List, [], ◌∷◌, ◌++◌, map, Memᴰ}
use Rattle.words.specs.Lists.Laws.{each_same, each_single}
use Rattle.replies.specs.declared.Acceptance.{Acceptance}
use Rattle.replies.specs.declared.Acceptance.TheVariants.{Never, Since}
use Rattle.replies.specs.Numbers.{mark_word, answer_word, open_word}
use Rattle.automata.specs.Saturation.{Saturated}
use Rattle.rounds.specs.Won.{is_won}
use Rattle.rounds.specs.Won.Laws.{round2_won}
use Rattle.files.specs.Case.{case_refusal}
use Rattle.files.proofs.Case.Laws.{case_rules, case_table}
use Rattle.files.specs.Start.{starts_of, cells_of}
use Rattle.services.specs.Saturate.{Lent, saturated}
use Rattle.services.specs.Judge.{won, more_to_add, mark}
use Rattle.acceptance.specs.Cells.{RoundsStand}
use Rattle.acceptance.specs.Cells.Laws.{StatesBelow}
use Rattle.acceptance.specs.Table.Laws.{is_saturated}
use Rattle.sound_files.specs.Sound.{StartSound}
use Rattle.sound_files.specs.Sound.Rounds.{start_since}
use Rattle.judge.specs.Marks.{mark_by, mark_of}

-- ---- the word of one start

pub won_word : (more : Bool) (a : Acceptance) → is_won a ≡ true → answer_word a ≡ mark_word more a
unfolding is_won answer_word mark_word
won_word more Never h = absurd (false≢true h)
won_word more (Since r) h = refl

pub open_word_lem : (more : Bool) (a : Acceptance) → is_won a ≡ false → more ≡ true → open_word ≡ mark_word more a
unfolding is_won mark_word
open_word_lem more Never h m = rw m refl
open_word_lem more (Since r) h m = absurd (false≢true (sym h))

pub no_word : (more : Bool) (a : Acceptance) → is_won a ≡ false → more ≡ false → 0 ≡ mark_word more a
unfolding is_won mark_word
no_word more Never h m = rw m refl
no_word more (Since r) h m = absurd (false≢true (sym h))

-- ---- the words of all starts

map_same : {X : Type 0} (f g : X → ℕ) (l : List X) → ((x : X) → Memᴰ x l → f x ≡ g x) → map f l ≡ map g l
map_same f g l h =
    sym (each_single f l) ∙ each_same l (λ x. f x ∷ []) (λ x. g x ∷ []) (λ x j. ap (λ (n : ℕ). n ∷ []) (h x j)) ∙ each_single g l

-- the words of the cells give those of the recursion
pub marks_written : (more : Bool) (T : Saturated) → StatesBelow T.table → (file : List ℕ) → StartSound file → {rounds : List ℕ}
    → RoundsStand T (cells_of file) rounds (length (cells_of file)) → (a : List ℕ) {a' : List ℕ} {n : ℕ} → n ≡ length (starts_of file)
    → a' ≡ map (mark_by more rounds) (starts_of file) ++ drop n a → a' ≡ map (mark_of more T file) (starts_of file) ++ drop (length (starts_of file)) a
unfolding mark_by mark_of
marks_written more T B file sound {rounds} R a {n = n} e is =
    is
    ∙ ap (λ (l : List ℕ). l ++ drop n a) (map_same _ _ (starts_of file) (λ x j. ap (mark_word more) (start_since T B file sound R x j)))
    ∙ ap (λ (k : ℕ). map (mark_of more T file) (starts_of file) ++ drop k a) e

-- and these are judge's, for the table of a sound case after rounds
pub marks_judged : (x : Lent) (rounds : ℕ) → case_refusal x.case ≡ 0 → {T : Saturated} → saturated x rounds ≡ some T → {more : Bool} → more ≡ more_to_add x.case T
    → (file : List ℕ) → map (mark_of more T file) (starts_of file) ≡ map (mark x.case T file) (starts_of file)
unfolding mark_of mark won
marks_judged x rounds sound {T} e h file =
    map_same _ _ (starts_of file) (λ y j.
    ap₂ mark_word h (round2_won (is_saturated x rounds sound e).after (λ ρ i. case_rules x.case sound i) (case_table x.case sound) _ _))
