-- The text of the listing, as the code comes to it: refused by the files, refused for size, or the size line and the lines of the starts.
-- Assumes nothing.
use Rattle.std.specs.Prelude.{ℕ, ◌-◌, ◌*◌, ◌<◌, true, false, ◌≡◌, List, ◌++◌, length, eqb}
use Rattle.std.proofs.Math.Path.{refl, ap, ap₂, sym}
use Rattle.std.proofs.Common.{◌∙◌, arith, eq-eqb, ne_eqb}
use Rattle.std.proofs.Math.Option.{none}
use Rattle.automata.specs.Saturation.{Saturated, all_rounds}
use Rattle.replies.specs.declared.Acceptance.{Acceptance}
use Rattle.replies.specs.declared.Saturation.{Saturation}
use Rattle.replies.specs.declared.Reply.{Reply}
use Rattle.replies.specs.Numbers.{answer_word}
use Rattle.files.specs.Start.{Files, starts_of, start_at}
use Rattle.services.specs.Memory.{entry_width, counted, largest}
use Rattle.services.specs.Saturate.{saturated, saturate_filled, saturate_service}
use Rattle.services.specs.Judge.{judge_lent, judge_left, judge_service}
use Rattle.services.specs.Guide.{guide_lent, guide_run, guide_left, cell_words}
use Rattle.services.specs.Listing.{listing_lent, listing_judge, listing_guide, size_line, largest_count, most_line, reply_line, round_won, start_line, start_lines, refused_text, judged_text, listing_text}
use Rattle.tables.specs.declared.Table.{Table}
use Rattle.tables.specs.Rows.{rows_in}
use Rattle.tables.specs.Rows.Laws.{length_rows_in}
use Rattle.tables.specs.Layouts.{entry_row, counted_row, move_row}
use Rattle.tables.specs.Counts.Laws.{counted_rows}
use Rattle.start_file.specs.Checks.{files_of}
use Rattle.saturate.specs.Service.Laws.{done_filled}
use Rattle.text.specs.Laws.Lines.{start_line_is}
use Rattle.acceptance.specs.Cells.Laws.{states_below}
use Rattle.sound_files.specs.Starts.{start_round}
use Rattle.sound_files.specs.Sound.Laws.{start_sound, starts_few}
use Rattle.sound_files.specs.Sound.Rounds.{start_listed, start_since}
use Rattle.sound_files.specs.Refusal.{FilesSound, files_refusal, answers_refusal}
use Rattle.sound_files.specs.Refusal.Laws.{by_files}
use Rattle.sound_files.specs.Saturated.{lent_of}
use Rattle.judge.specs.Service.Cases as judge
use Rattle.judge.specs.Service.Words.{round_is}
use Rattle.saturation.specs.Held.{saturated_in}
use Rattle.guided_start.specs.Walk.{StartRounds}
use Rattle.guided_start.specs.Run.{table_input}
use Rattle.guided_start.specs.Run.Laws.{run_tables}
use Rattle.guide.specs.Service.Cases.{answers_guided}
use Rattle.listing_text.specs.Prepared.{TableReady}

-- ---- by the number with which judge refuses

text_refused : (f : Files) (n : ℕ) → (judge_service (listing_judge f all_rounds)).code ≡ n → (n ≡ 0 → ⊥) → listing_text f ≡ refused_text n
unfolding listing_text
text_refused f n e h =
    ap (λ (m : ℕ). elim (eqb m 0) [ true ↦ judged_text f | false ↦ refused_text m ]) e ∙ rw (ne_eqb n 0 h)

text_judged : (f : Files) → (judge_service (listing_judge f all_rounds)).code ≡ 0 → listing_text f ≡ judged_text f
unfolding listing_text
text_judged f e = rw (listing_text, eq-eqb (judge_service (listing_judge f all_rounds)).code 0 e)

module _ (case start : List ℕ) where
  abbrev files : Files
  files = files_of case start

  pub listing_refused : {n : ℕ} → n ≡ files_refusal case start → (n ≡ 0 → ⊥) → refused_text n ≡ listing_text files
  unfolding listing_judge judge_left
  listing_refused {n} is h =
      let e : n ≡ answers_refusal case start 64 = by_files case start 64 8 0 is h in
      sym (text_refused files n (ap (λ d. d.code) (judge.answers_refused (listing_judge files all_rounds) (λ z. h (e ∙ z))) ∙ sym e) h)

  pub listing_exceeded : FilesSound case start → saturated (lent_of case (1024 * 5) (64 * entry_width)) all_rounds ≡ none → refused_text 9 ≡ listing_text files
  unfolding listing_judge judge_left judge_lent
  listing_exceeded s h =
      sym (text_refused files 9 (ap (λ d. d.code) (judge.answers_exceeded (listing_judge files all_rounds) s (starts_few s) h)) (omega arith))

  module _ {z : Table} {inner entries moves : List ℕ} {k : ℕ} {sizes : List ℕ} (prepared : TableReady case start z inner entries moves k sizes) where
    abbrev T : Saturated
    T = saturated_in z inner entries moves k sizes

    -- the reply of saturate, whose code the line does not show
    sizes_are : (saturate_service (lent_of case (1024 * 5) (64 * entry_width))).reply ≡ record { code = 0; moves = z.moves; entries = z.entries }
    unfolding saturate_filled
    sizes_are =
        ap (λ d. d.reply) (sym (done_filled (lent_of case (1024 * 5) (64 * entry_width)) T prepared.sound.sound_case prepared.table_is))
        ∙ (λ i. record { code = 0; moves = length_rows_in move_row z.moves moves i; entries = length_rows_in entry_row z.entries entries i })

    -- the largest of the counts that stand in the rows
    most_is : largest (rows_in counted_row z.entries entries) ≡ largest_count (lent_of case (1024 * 5) (64 * entry_width))
    unfolding largest_count counted
    most_is =
        ap largest (counted_rows z.inner1 z.entries entries (rows_in move_row z.moves moves) (rows_in entry_row z.entries entries) refl prepared.counts)
        ∙ sym (rw (largest_count, prepared.table_is))

    pub listing_judged : {n : ℕ} → n ≡ largest (rows_in counted_row z.entries entries)
        → size_line (record { code = 0; moves = z.moves; entries = z.entries }) ++ most_line n ++ start_lines files 0 (length (starts_of start))
        ≡ listing_text files
    unfolding listing_lent listing_judge judge_left judge_lent judged_text
    listing_judged is =
        ap₂ (λ (r : Saturation) (k : ℕ). size_line r ++ most_line k ++ start_lines files 0 (length (starts_of start))) (sym sizes_are) (is ∙ most_is)
        ∙ sym (text_judged files (ap (λ d. d.code) (judge.answers_judged (listing_judge files all_rounds) prepared.sound (starts_few prepared.sound) prepared.table_is)))

    -- the round of a start, by the words of the cells
    pub round_won_lem : {rounds : List ℕ} {n r : ℕ} {a : Acceptance} → StartRounds z inner entries moves k sizes start rounds → n < length (starts_of start)
        → a ≡ start_round rounds (start_at start n) → r ≡ answer_word a - 1 → r ≡ round_won files all_rounds n
    unfolding round_won listing_judge judge_lent
    round_won_lem {n = n} R l e f =
        f
        ∙ ap (λ (b : Acceptance). answer_word b - 1)
        (e
        ∙ start_since T (states_below prepared.tables.stands) start (start_sound prepared.sound) R.rounds_stand (start_at start n)
        (start_listed start n l))
        ∙ sym (round_is (listing_judge files all_rounds) prepared.sound (starts_few prepared.sound) prepared.table_is n l)

    -- the line of a start is that of the reply of its run, whatever the lengths m and e of the tables
    pub line_guided : (n m e : ℕ) {r : ℕ} {reply : Reply} → n < length (starts_of start)
        → r ≡ round_won files all_rounds n → reply ≡ (guide_run (table_input case start n m e (512 * 68) 1024) T).reply → reply_line n r reply ≡ start_line files n
    unfolding listing_guide guide_lent guide_left cell_words
    line_guided n m e h round is =
        ap₂ (reply_line n) round
        (is
        ∙ sym (ap (λ o. o.reply) (run_tables case start n all_rounds (1024 * 5) m (64 * entry_width) e (512 * 68) 1024 T))
        ∙ sym (ap (λ d. d.reply) (answers_guided (listing_guide files n) prepared.sound h prepared.table_is)))
        ∙ sym (start_line_is files n)
