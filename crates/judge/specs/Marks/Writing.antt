-- One word more behind those before it.
-- Assumes nothing.
use Rattle.std.specs.Prelude.{ℕ, ◌+◌, ◌≤◌, ◌<◌, Bool, ◌≡◌, List, ◌++◌, map, length, get_or, drop, set}
use Rattle.std.proofs.Math.Path.{ap, sym}
use Rattle.std.proofs.Common.{◌∙◌, arith}
use Rattle.std.proofs.lemmas.List.{length-map}
use Rattle.replies.specs.declared.Acceptance.{Acceptance}
use Rattle.replies.specs.Numbers.{mark_word}
use Rattle.walks.specs.Cell.Values.{get_or_map_below}
use Rattle.files.specs.Start.{starts_of, start_at}
use Rattle.sound_files.specs.Starts.{start_round}
use Rattle.judge.specs.WrittenBelow.{WrittenBelow}
use Rattle.judge.specs.WrittenBelow.Laws.{written_more, written_all_lem}
use Rattle.judge.specs.Marks.{mark_by}

module _ (more : Bool) (rounds file : List ℕ) {n : ℕ} (count : n ≡ length (starts_of file)) where
  length_marks : length (map (mark_by more rounds) (starts_of file)) ≡ n
  length_marks = length-map (starts_of file) (mark_by more rounds) ∙ sym count

  mark_at : {i v : ℕ} {a : Acceptance} → i < n → a ≡ start_round rounds (start_at file i) → v ≡ mark_word more a
      → v ≡ get_or (map (mark_by more rounds) (starts_of file)) i 0
  unfolding mark_by start_at
  mark_at {i} l e f = f ∙ ap (mark_word more) e ∙ sym (get_or_map_below (mark_by more rounds) (starts_of file) i _ 0 (omega arith))

  pub marks_more : {w₀ w w' : List ℕ} {i v : ℕ} {a : Acceptance} → WrittenBelow (map (mark_by more rounds) (starts_of file)) w₀ w i → i < n → n ≤ length w₀
      → a ≡ start_round rounds (start_at file i) → v ≡ mark_word more a → w' ≡ set w i v
      → WrittenBelow (map (mark_by more rounds) (starts_of file)) w₀ w' (i + 1)
  marks_more h l b e f g =
      let len = length_marks in
      written_more h (omega arith) (omega arith) (mark_at l e f) g

  pub marks_all : {w₀ w : List ℕ} {i : ℕ} → WrittenBelow (map (mark_by more rounds) (starts_of file)) w₀ w i → n ≤ i
      → w ≡ map (mark_by more rounds) (starts_of file) ++ drop n w₀
  marks_all h l = written_all_lem h length_marks l
