-- Programs that count the moves of entries in another way than document 02 states. The answer that each gives at a model contradicts what is stated of
-- saturate, or of the listing, read alone.
-- Assumes nothing.
use Rattle.std.specs.Prelude.{ℕ, ◌≡◌, refl, List, [], ◌∷◌, ◌++◌}
use Rattle.std.proofs.Common.{ap, sym, ◌∙◌}
use Rattle.std.proofs.lemmas.Bool.{eqb-false}
use Rattle.files.specs.Start.{Files}
use Rattle.services.specs.Saturate.{Lent, SaturateDone, saturate_service}
use Rattle.services.specs.Listing.{ascii, decimal, listing_lent}
use Rattle.models.specs.Computing.{computed}
use Rattle.models.specs.Files.{case_a, start_a, case_inner, case_more}
use Rattle.demands.specs.Demand1.{SaturateStates}
use Rattle.demands.proofs.Demand1.Proof.{demand1_saturate}
use Rattle.demands.proofs.Determined.{saturate_only}
use Rattle.demands.specs.MoveCounts.{third_word, SecondLine, NamesLargest}
use Rattle.demands.proofs.MoveCounts.Proof.{largest_count_lem, largest_one, named_one}
use Rattle.demands.proofs.Idle.{lent_a}

-- ---- the inputs, beside that of model A

-- eight words, which are four records of two words, and of three only two
unfoldable pub lent_eight : Lent
lent_eight = record { case = case_a; moves = 17; entries = 8 }

-- an entry without moves beside a move of an inner state, and an entry of the file to which rounds add moves
unfoldable pub lent_inner : Lent
lent_inner = record { case = case_inner; moves = 17; entries = 11 }

unfoldable pub lent_more : Lent
lent_more = record { case = case_more; moves = 17; entries = 11 }

unfoldable pub files_a : Files
files_a = record { case = case_a; start = start_a }

entries_only : (x : Lent) (d : SaturateDone) → SaturateStates x d → d.entries ≡ (saturate_service x).entries
entries_only x d s = ap (λ (e : SaturateDone). e.entries) (saturate_only x d s)

-- ---- only the moves of new entries counted: model A's file has a move of its entry

pub only_new : (d : SaturateDone) → third_word d.entries 0 ≡ 0 → SaturateStates lent_a d → ⊥
unfolding computed lent_a third_word
only_new d e s = eqb-false 0 1 refl (sym e ∙ ap (λ (l : List ℕ). third_word l 0) (entries_only lent_a d s))

-- ---- only the moves of the file counted

pub only_file : (d : SaturateDone) → third_word d.entries 0 ≡ 1 → SaturateStates lent_more d → ⊥
unfolding computed lent_more third_word
only_file d e s = eqb-false 1 3 refl (sym e ∙ ap (λ (l : List ℕ). third_word l 0) (entries_only lent_more d s))

-- ---- a second entry's count raised, or any other word left

pub another_raised : (d : SaturateDone) → (d.entries ≡ 1 ∷ 0 ∷ 1 ∷ 0 ∷ 0 ∷ 1 ∷ 0 ∷ 2 ∷ 1 ∷ 0 ∷ 0 ∷ [] → ⊥) → SaturateStates lent_a d → ⊥
unfolding computed lent_a
another_raised d bad s = bad (entries_only lent_a d s)

-- ---- moves of inner order-1 states counted

pub inner_counted : (d : SaturateDone) → (third_word d.entries 0 ≡ 0 → ⊥) → SaturateStates lent_inner d → ⊥
unfolding computed lent_inner third_word
inner_counted d bad s = bad (ap (λ (l : List ℕ). third_word l 0) (entries_only lent_inner d s))

-- ---- entries lent counted by two words

pub lent_by_two : (d : SaturateDone) → (d.reply.code ≡ 9 → ⊥) → SaturateStates lent_eight d → ⊥
unfolding computed lent_eight
lent_by_two d bad s = bad (ap (λ (e : SaturateDone). e.reply.code) (saturate_only lent_eight d s))

-- ---- another number than 1 in the listing's second line of model A, as the number of entries, or 0

pub names_another : (text : List ℕ) (d : SaturateDone) (n : ℕ) → (n ≡ 1 → ⊥) → SecondLine text (ascii "most " ++ decimal n ++ ascii "\n")
    → SaturateStates (listing_lent files_a) d → NamesLargest text d → ⊥
unfolding computed files_a
names_another text d n bad line s (m, largest, named) =
    bad (named_one n m line named ∙ largest_one largest (largest_count_lem (listing_lent files_a) d s (demand1_saturate (listing_lent files_a)).number))
