-- A start file that is not refused has its bodies in place, and its starts name states below 64 and cells of order 2.
-- Assumes nothing.
use Rattle.std.specs.Prelude.{ℕ, ◌+◌, ◌*◌, ◌≤◌, ◌<◌, true, ◌≡◌, refl, length, get_or}
use Rattle.std.proofs.Common.{ap, ◌∙◌, subst, arith}
use mathlib.Core.List.{List, [], map, Memᴰ}
use Rattle.std.proofs.lemmas.List.{length-map}
use Rattle.std.proofs.lemmas.Bool.{not-false}
use Rattle.words.specs.Lists.{every}
use Rattle.words.specs.Lists.Laws.{get_or_in}
use Rattle.walks.specs.Cell.Values.{get_or_map_below}
use Rattle.files.specs.Bytes.{count_of, records_of, records}
use Rattle.files.specs.Bytes.Laws.{numbered, unrefused, length_records, length_records_of, records_at}
use Rattle.files.specs.Case.{head}
use Rattle.files.proofs.Case.Laws.{case_head}
use Rattle.files.specs.Start.{Files, Start, start_placed, start_tests, start_refusal, start_of, starts_of, cell_bytes, cell_of, cell_records, cells_of}
use Rattle.files.specs.Start.Laws.{start_places, start_facts, start_cells_lem}
use Rattle.bytes_in.specs.Records.{record_at, body_of}
use Rattle.bytes_in.specs.Records.Laws.{body_records, body_fits}
use Rattle.start_file.specs.Checks.{files_of}
use Rattle.sound_files.specs.Starts.{StartsStand}
use Rattle.sound_files.specs.Starts.Laws.{start_stands}
use Rattle.sound_files.specs.Refusal.{FilesSound}
use Rattle.sound_files.specs.Sound.{StartSound}

-- of a start file that is not refused, for a case that is not refused
pub start_sound : {case start : List ℕ} → FilesSound case start → StartSound start
unfolding start_refusal start_tests numbered every
start_sound {case} {start} h =
    let f : Files = files_of case start in
    let sound : start_refusal f ≡ 0 = h.sound_start in
    let P : (head case).P ≤ 8 = (case_head case h.sound_case).controls_few in
    record {
      in_place = not-false (start_placed start) (unrefused f refl sound (Memᴰ.head refl));
      formed = start_cells_lem f sound;
      facts = λ j.
          let x = start_facts f sound j in
          let l = x.control_exists in
          record { control_exists = omega arith; root_exists = x.root_exists; root_order = x.root_order };
    }

pub starts_count : (file : List ℕ) → length (starts_of file) ≡ count_of file 0
unfolding starts_of
starts_count file = length-map (records_of file 0 3) start_of ∙ length_records_of file 0 3

-- a sound start file has at most 64 starts
pub starts_few : {case start : List ℕ} → FilesSound case start → length (starts_of start) ≤ 64
starts_few {start = start} s =
    let k = (start_places start (start_sound s).in_place).starts_few in
    let c = starts_count start in
    omega arith

pub cells_count : (file : List ℕ) → length (cells_of file) ≡ count_of file 1
unfolding cells_of cell_records
cells_count file = length-map (cell_records file) cell_of ∙ length-map (records_of file 1 6) cell_bytes ∙ length_records_of file 1 6

module _ (file : List ℕ) (in_place : start_placed file ≡ true) where
  pub start_long : 17 ≤ length file
  start_long = let w = (start_places file in_place).whole in omega arith

  pub cells_few : length (cells_of file) ≤ 256
  cells_few = let n = cells_count file in let k = (start_places file in_place).cells_few in omega arith

  -- the cells are in their body, and at most 256
  pub cells_lent_holds : {n words : ℕ} {body : List ℕ} → n ≡ count_of file 1 → body ≡ body_of file 1 6 → 256 ≤ words → (n * 6 ≤ length body) × (n ≤ words)
  cells_lent_holds e b w =
      let p = start_places file in_place in
      let o = p.cells_offset in
      let all = p.whole in
      let k = p.cells_few in
      (body_fits file 1 6 _ _ (omega arith) b e, omega arith)

-- start number i is that of record i
pub start_at_lem : (file : List ℕ) (i : ℕ) (d : Start) → i < count_of file 0 → get_or (starts_of file) i d ≡ start_of (record_at 3 i (body_of file 0 3))
unfolding starts_of record_at
start_at_lem file i d l =
    let n : ℕ = count_of file 0 in
    let b : List ℕ = body_of file 0 3 in
    let len : length (records n 3 b) ≡ n = length_records n 3 b in
    ap (λ (l : List (List ℕ)). get_or (map start_of l) i d) (body_records file 0 3)
    ∙ get_or_map_below start_of (records n 3 b) i [] d (omega arith)
    ∙ ap start_of (records_at n 3 b i l)

module _ (file : List ℕ) (sound : StartSound file) where
  start_in : (i : ℕ) → i < count_of file 0 → Memᴰ (start_of (record_at 3 i (body_of file 0 3))) (starts_of file)
  start_in i l =
      let n : length (starts_of file) ≡ count_of file 0 = starts_count file in
      let d : Start = record { control = 0; root = 0 } in
      subst (λ (x : Start). Memᴰ x (starts_of file)) (start_at_lem file i d l) (get_or_in (starts_of file) i d (omega arith))

  -- each start names a state below 64 and one of 256 cells
  pub starts_stand : {n words : ℕ} {body : List ℕ} → n ≡ count_of file 0 → body ≡ body_of file 0 3 → 256 ≤ words → StartsStand n body words
  starts_stand e b w =
      let p = start_places file sound.in_place in
      let o = p.starts_offset in
      let all = p.whole in
      let k = p.cells_few in
      let c = cells_count file in
      rw (e, b) (record {
        starts_lent = body_fits file 0 3 _ _ (omega arith) refl refl;
        controls_small = λ i l. (sound.facts (start_in i l)).control_exists;
        roots_there = λ i l. let h = (sound.facts (start_in i l)).root_exists in omega arith;
      })

  module _ {i : ℕ} {body : List ℕ} (there : i < length (starts_of file)) (b : body ≡ body_of file 0 3) where
    listed : i < count_of file 0
    listed = let n : length (starts_of file) ≡ count_of file 0 = starts_count file in omega arith

    -- start number i is in the body
    pub start_lent : i * 3 + 3 ≤ length body
    start_lent =
        let l = (starts_stand {words = 256} refl b (omega arith)).starts_lent in
        let h = listed in
        omega arith

    -- as it was read, it names one of so many cells and a state
    pub start_names : {words : ℕ} {x : Start} → 256 ≤ words → x ≡ start_of (record_at 3 i body) → (x.root < words) × (x.control < 64)
    start_names w e = start_stands (starts_stand refl b w) listed e
