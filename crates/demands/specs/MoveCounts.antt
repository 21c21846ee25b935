-- Document 02, 7: "How many moves an entry has". What every answer of saturate tells of it in the words of the lent tables alone, and what the second
-- line of the listing says of them. The proofs are in MoveCounts/Proof.antt.
-- Assumes nothing.
use Rattle.std.specs.Prelude.{ℕ, zero, suc, ◌+◌, ◌*◌, ◌≤◌, ◌<◌, true, false, ◌≡◌, ◌⊎◌, get_or, drop, eqb}
use mathlib.Core.List.{List, ◌++◌, Memᴰ}
use Rattle.automata.specs.Saturation.{all_rounds}
use Rattle.files.specs.Case.{own_of}
use Rattle.files.specs.Start.{Files}
use Rattle.services.specs.Saturate.{Lent, SaturateDone}
use Rattle.services.specs.Listing.{ascii, decimal, listing_lent, listing_judge, listing_text}
use Rattle.demands.specs.Refusals.{Returned, saturate_refusals, judge_refusals}
use Rattle.demands.specs.Demand1.{SaturateStates}

-- ---- the third words of entries

-- "the count by walking": of the first n records of a move table, those whose first word, the order-1 state, is r
unfoldable pub walked : ℕ → ℕ → List ℕ → ℕ
walked r zero moves = 0
walked r (suc n) moves = elim (eqb (get_or moves 0 0) r) [ true ↦ suc (walked r n (drop 5 moves)) | false ↦ walked r n (drop 5 moves) ]

-- "a third word of the entry", of entry i
unfoldable pub third_word : List ℕ → ℕ → ℕ
third_word entries i = get_or entries (i * 3 + 2) 0

-- "It must equal the count by walking." Entry i is the order-1 state i behind the inner ones.
abbrev pub CountsWalked : Lent → SaturateDone → Type 0
CountsWalked x d = (i : ℕ) → i < d.reply.entries → third_word d.entries i ≡ walked ((own_of x.case).J + i) d.reply.moves d.moves

-- Where no number of the table of refusals applies, an answer that meets demand 1 is 0 and has these words.
abbrev pub AllWalked : Type 0
AllWalked = (x : Lent) (d : SaturateDone) → SaturateStates x d → Returned saturate_refusals x 0 → (d.reply.code ≡ 0) × CountsWalked x d

-- ---- the listing

-- "The largest such count, 0 without entries": no entry has more, and one has as many, or n is 0.
pub record LargestCount (d : SaturateDone) (n : ℕ) : Type 0 where
  pub above : (i : ℕ) → i < d.reply.entries → third_word d.entries i ≤ n
  pub reached : (n ≡ 0) ⊎ ((i : ℕ) × (i < d.reply.entries) × (third_word d.entries i ≡ n))

-- a line: bytes among which there is no line end, and then one
pub record Line (bytes : List ℕ) : Type 0 where
  pub words : List ℕ
  pub no_end : Memᴰ 10 words → ⊥
  pub then_ends : bytes ≡ words ++ ascii "\n"

-- the second line of a text
pub record SecondLine (text line : List ℕ) : Type 0 where
  pub first : List ℕ
  pub rest : List ℕ
  pub first_line : Line first
  pub text_is : text ≡ first ++ line ++ rest

-- "The listing gains a line after its first: `most` and the largest such count": the second line of the text names the largest third word of d's
-- entries.
abbrev pub NamesLargest : List ℕ → SaturateDone → Type 0
NamesLargest text d = (n : ℕ) × LargestCount d n × SecondLine text (ascii "most " ++ decimal n ++ ascii "\n")

-- Where no number applies to the files in all rounds, the listing does so, of any answer of saturate to the case, with the listing's tables lent, that
-- meets demand 1.
abbrev pub MostLargest : Type 0
MostLargest = (f : Files) (d : SaturateDone) → SaturateStates (listing_lent f) d → Returned judge_refusals (listing_judge f all_rounds) 0 → NamesLargest (listing_text f) d
