-- A start of a sound start file stands in the copy of the file's cells.
-- Assumes nothing.
use Rattle.std.specs.Prelude.{ℕ, ◌*◌, ◌≤◌, ◌<◌, ◌≡◌, List}
use Rattle.std.proofs.Math.Path.{ap, sym, subst}
use Rattle.std.proofs.Common.{◌∙◌, arith}
use Rattle.std.proofs.Math.ListN.{length}
use Rattle.std.proofs.lemmas.List.Edits.{sets}
use Rattle.std.proofs.Math.Seq.{length-sets}
use Rattle.walks.specs.Cell.{order2, stack_at, stacks}
use Rattle.walks.specs.Cell.Formed.{Formed, order_at}
use Rattle.files.specs.Bytes.{count_of}
use Rattle.files.specs.Start.{Start, start_of, starts_of, cells_of, start_at, configuration_of, configuration_at}
use Rattle.files.specs.Start.Laws.{start_places}
use Rattle.bytes_in.specs.Records.{record_at, body_of}
use Rattle.bytes_in.specs.Records.Laws.{length_body}
use Rattle.start_records.specs.Body.{cells_in}
use Rattle.sound_files.specs.Sound.{StartSound}
use Rattle.sound_files.specs.Sound.Laws.{cells_count}
use Rattle.sound_files.specs.Sound.Rounds.{cells_are, start_read, start_listed}
use Rattle.replay_cells.specs.CellBytes.Laws.{cells_in_copied}
use Rattle.replay.specs.Start.{StartPlace}

module _ (file : List ℕ) (sound : StartSound file) where
  -- the body of cells has six bytes for each
  pub body_length : {body : List ℕ} → body ≡ body_of file 1 6 → length body ≡ length (cells_of file) * 6
  body_length {body} b =
      let p = start_places file sound.in_place in
      let o = p.cells_offset in
      let all = p.whole in
      let c : length (cells_of file) ≡ count_of file 1 = cells_count file in
      ap length b ∙ length_body file 1 6 (omega arith) ∙ ap (λ (n : ℕ). n * 6) (sym c)

  module _ (bytes : List ℕ) {body bytes' : List ℕ} {n : ℕ} (b : body ≡ body_of file 1 6) (count : n ≡ count_of file 1) (room : length (cells_of file) * 6 ≤ length bytes)
      (copied : bytes' ≡ sets bytes 0 body) where
    -- the cells are those of the file
    cells_copied : cells_in n bytes' ≡ cells_of file
    cells_copied =
        let l : length body ≡ length (cells_of file) * 6 = body_length b in
        let c : length (cells_of file) ≡ count_of file 1 = cells_count file in
        ap (cells_in n) copied ∙ cells_in_copied n bytes body (omega arith) (omega arith) ∙ cells_are file b count

    pub start_stands : {i : ℕ} {starts : List ℕ} {x : Start} → i < length (starts_of file) → starts ≡ body_of file 0 3 → x ≡ start_of (record_at 3 i starts)
        → StartPlace file i (record { control = x.control; root = x.root; cells = n }) bytes'
    unfolding configuration_at configuration_of
    start_stands {i} {starts} {x} there s e =
        let is : x ≡ start_at file i = start_read file i there s e in
        let facts = sound.facts (start_listed file i there) in
        let c : n ≡ length (cells_of file) = count ∙ sym (cells_count file) in
        let f = cells_copied in
        let long : length bytes' ≡ length bytes = ap length copied ∙ length-sets bytes 0 body in
        record {
          stands = record {
            cells_there = omega arith;
            formed = subst Formed (sym f) sound.formed;
            root_exists = subst (λ (y : Start). y.root < n) (sym is) (subst (λ (k : ℕ). (start_at file i).root < k) (sym c) facts.root_exists);
            root_order = (λ j. order_at (f j) (is j).root) ∙ facts.root_order;
            control_small = subst (λ (y : Start). y.control < 64) (sym is) facts.control_exists;
          };
          cells_are = c;
          configuration_is = λ j. record { control = (is j).control; stack = order2 (stack_at (stacks (f j)) (is j).root) };
        }
