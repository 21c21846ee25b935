-- Since when the cells and the starts of a sound start file are accepted, as they are written.
-- Assumes nothing.
use Rattle.std.specs.Prelude.{ℕ, ◌<◌, ◌≡◌, length, replicate}
use Rattle.std.proofs.Common.{ap, ap₂, sym, ◌∙◌, subst, arith}
use mathlib.Core.List.{List, Memᴰ}
use Rattle.std.proofs.lemmas.List.{length-replicate}
use Rattle.words.specs.Lists.{zeros}
use Rattle.words.specs.Lists.Laws.{get_or_in}
use Rattle.replies.specs.declared.Acceptance.{Acceptance}
use Rattle.automata.specs.Saturation.{Saturated}
use Rattle.rounds.specs.Won.{round2}
use Rattle.walks.specs.Cell.{Cell}
use Rattle.walks.specs.Cell.Formed.{Formed}
use Rattle.files.specs.Bytes.{count_of}
use Rattle.files.specs.Start.{Start, start_of, starts_of, cells_of, configuration_of, start_at}
use Rattle.bytes_in.specs.Records.{record_at, body_of}
use Rattle.acceptance_words.specs.Rows.{round_in}
use Rattle.acceptance.specs.Cells.{RoundsStand, RoundsFilled}
use Rattle.start_records.specs.Body.{cells_in}
use Rattle.start_records.specs.Body.Laws.{cells_body}
use Rattle.acceptance.specs.Cells.Laws.{StatesBelow}
use Rattle.acceptance.specs.Laws.Starts.{start_round_lem}
use Rattle.sound_files.specs.Starts.{start_round}
use Rattle.sound_files.specs.Sound.{StartSound}
use Rattle.sound_files.specs.Sound.Laws.{starts_count, cells_count, start_at_lem}

-- the cells of the file are those of its second body, as they are read
module _ (file : List ℕ) {body : List ℕ} {n : ℕ} (b : body ≡ body_of file 1 6) (count : n ≡ count_of file 1) where
  pub cells_are : cells_in n body ≡ cells_of file
  cells_are = ap₂ cells_in count b ∙ cells_body file

  -- the cells as they are read refer to lower ones
  pub cells_formed : StartSound file → Formed (cells_in n body)
  cells_formed s = subst Formed (sym cells_are) s.formed

  -- their words are those of the file's cells
  pub rounds_filled : {T : Saturated} {before after : List ℕ} → RoundsFilled T (cells_in n body) before after n
      → RoundsFilled T (cells_of file) before after (length (cells_of file))
  rounds_filled {T} {before} {after} r =
      subst (RoundsFilled T (cells_of file) before after) (count ∙ sym (cells_count file))
      (subst (λ (cells : List Cell). RoundsFilled T cells before after n) cells_are r)

-- words that are zero as they are made
pub made_zero : (n : ℕ) → replicate n 0 ≡ zeros (length {A = ℕ} (replicate n 0))
made_zero n = ap zeros (sym (length-replicate n 0))

-- a start that is read is the one of this number
pub start_read : (file : List ℕ) (i : ℕ) {body : List ℕ} {x : Start} → i < length (starts_of file) → body ≡ body_of file 0 3 → x ≡ start_of (record_at 3 i body)
    → x ≡ start_at file i
unfolding start_at
start_read file i l b e =
    let n : length (starts_of file) ≡ count_of file 0 = starts_count file in
    e ∙ ap (λ (r : List ℕ). start_of (record_at 3 i r)) b ∙ sym (start_at_lem file i _ (omega arith))

-- its answer
pub start_answers : (file : List ℕ) (i : ℕ) (rounds : List ℕ) {body : List ℕ} {x : Start} {a : Acceptance} → i < length (starts_of file) → body ≡ body_of file 0 3
    → x ≡ start_of (record_at 3 i body) → a ≡ round_in rounds x.root x.control → a ≡ start_round rounds (start_at file i)
unfolding start_round
start_answers file i rounds l b e f = f ∙ ap (λ (y : Start). round_in rounds y.root y.control) (start_read file i l b e)

pub start_listed : (file : List ℕ) (i : ℕ) → i < length (starts_of file) → Memᴰ (start_at file i) (starts_of file)
unfolding start_at
start_listed file i l = get_or_in (starts_of file) i _ l

-- the words say since when a start's stack is accepted from its control
pub start_since : (T : Saturated) → StatesBelow T.table → (file : List ℕ) → StartSound file → {rounds : List ℕ}
    → RoundsStand T (cells_of file) rounds (length (cells_of file)) → (x : Start) → Memᴰ x (starts_of file)
    → start_round rounds x ≡ round2 T (configuration_of file x).stack x.control
unfolding start_round
start_since T B file sound R x j =
    let f = sound.facts j in
    start_round_lem T B file R x f.root_exists f.root_exists f.root_order
