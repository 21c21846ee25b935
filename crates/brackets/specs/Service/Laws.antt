-- What the service leaves is what its definition says, and meets the promises; a start of a sound start file stands in the file's cells.
-- Assumes nothing.
use Rattle.std.specs.Prelude.{ℕ, Some, None, ◌≤◌, ◌<◌, ◌≡◌, refl}
use Rattle.std.proofs.Math.Path.{ap, sym}
use Rattle.std.proofs.Common.{◌∙◌, subst, arith}
use mathlib.Core.List.{List}
use Rattle.std.proofs.Math.ListN.{length}
use Rattle.std.proofs.Math.Seq.{sets}
use Rattle.std.proofs.lemmas.Bool.{eqb-false}
use Rattle.words.specs.Lists.{zeros}
use Rattle.words.specs.Lists.Laws.{length_zeros}
use Rattle.replies.specs.declared.Brackets.{Brackets}
use Rattle.replies.specs.declared.Brackets.TheVariants.{Refused, Printed}
use Rattle.walks.specs.Cell.{order2, stack_at, stacks}
use Rattle.walks.specs.Cell.Formed.{order_at}
use Rattle.files.specs.Bytes.{count_of, first_hit}
use Rattle.files.specs.Start.{Start, start_of, starts_of, cells_of, start_at, configuration_of, configuration_at}
use Rattle.services.specs.Memory.Laws.{sets_zeros}
use Rattle.services.specs.Brackets.{stack_text, BracketsInput, brackets_files, root_text, length_tests, brackets_refusal, BracketsDone, brackets_answer, brackets_service}
use Rattle.services.specs.Brackets.Laws.{answer_refused, answer_printed, length_refused, length_passed}
use Rattle.demands.specs.Demand1.{BracketsStates}
use Rattle.demands.proofs.Demand1.Proof.{demand1_brackets}
use Rattle.demands.specs.Brackets.{PrintsExactly}
use Rattle.demands.proofs.BracketsProof.{brackets_exactly}
use Rattle.bytes_in.specs.Records.{record_at, body_of}
use Rattle.start_records.specs.Body.{cells_in}
use Rattle.bounded_text.specs.Page.{page, Prints}
use Rattle.bounded_text.specs.Page.Laws.{fits, longer}
use Rattle.stack_text.specs.Cells.{CellsStand, stack_in}
use Rattle.sound_files.specs.Refusal.{FilesSound, first_of, number_refusal}
use Rattle.sound_files.specs.Refusal.Laws.{first_stays, first_passes, tests_first, sound_before, not_past}
use Rattle.sound_files.specs.Sound.{StartSound}
use Rattle.sound_files.specs.Sound.Laws.{cells_count, cells_lent_holds}
use Rattle.sound_files.specs.Sound.Rounds.{cells_are, cells_formed, start_read, start_listed}
use Rattle.brackets.specs.Service.{brackets_input, brackets_done}

-- ---- a start in its cells

module _ (file : List ℕ) (sound : StartSound file) {i : ℕ} (there : i < length (starts_of file)) {starts cells : List ℕ} {x : Start} {n : ℕ}
    (s : starts ≡ body_of file 0 3) (e : x ≡ start_of (record_at 3 i starts)) (b : cells ≡ body_of file 1 6) (count : n ≡ count_of file 1) where
  pub cells_stand : CellsStand n cells
  cells_stand = record { room = (cells_lent_holds file sound.in_place {words = 256} count b (omega arith)).0; formed = cells_formed file b count sound }

  is : x ≡ start_at file i
  is = start_read file i there s e

  pub root_there : x.root < n
  root_there =
      let c : n ≡ length (cells_of file) = count ∙ sym (cells_count file) in
      let r : (start_at file i).root < length (cells_of file) = (sound.facts (start_listed file i there)).root_exists in
      subst (λ (y : Start). y.root < n) (sym is) (omega arith)

  pub root_order : order_at (cells_in n cells) x.root ≡ 2
  root_order = (λ j. order_at (cells_are file b count j) (is j).root) ∙ (sound.facts (start_listed file i there)).root_order

  pub root_stack : order2 (stack_in n cells x.root) ≡ (configuration_at file i).stack
  unfolding stack_in configuration_at configuration_of
  root_stack = λ j. order2 (stack_at (stacks (cells_are file b count j)) (is j).root)

-- ---- the service

module _ (case start : List ℕ) (number lent : ℕ) where
  abbrev x : BracketsInput
  x = brackets_input case start number lent

  refusal_is : brackets_refusal (brackets_input case start number lent) ≡ first_of (number_refusal case start number) (first_hit length_tests (brackets_input case start number lent))
  unfolding brackets_refusal brackets_files
  refusal_is = tests_first (λ (y : BracketsInput). y.case) (λ y. y.start) (λ y. y.number) length_tests x

  module _ {f : ℕ} (e : f ≡ number_refusal case start number) where
    pub left_refused : {text : List ℕ} → text ≡ zeros lent → (f ≡ 0 → ⊥)
        → brackets_done (Refused f) text ≡ brackets_service (brackets_input case start number lent)
    unfolding brackets_service
    left_refused z bad =
        let r : brackets_refusal x ≡ f = refusal_is ∙ first_stays _ _ (λ n. bad (e ∙ n)) ∙ sym e in
        ap (brackets_done (Refused f)) z ∙ sym (answer_refused x f bad) ∙ ap (brackets_answer x) (sym r)

    module _ (none : f ≡ 0) where
      pub sound : FilesSound case start
      sound = sound_before case start number 0 7 (sym e ∙ none)

      pub there : number < length (starts_of start)
      there = not_past case start number 0 7 (sym e ∙ none) (omega arith)

      passed : brackets_refusal (brackets_input case start number lent) ≡ first_hit length_tests (brackets_input case start number lent)
      passed = refusal_is ∙ first_passes _ _ (sym e ∙ none)

      -- before the text is printed, the bytes are zero
      module _ {before after : List ℕ} (z : before ≡ zeros lent) where
        pub left_printed : {k : ℕ} → Prints (page (Some 0) before) (stack_text (configuration_at start number).stack) (page (Some k) after)
            → brackets_done (Printed k) after ≡ brackets_service (brackets_input case start number lent)
        unfolding brackets_service root_text
        left_printed {k} p =
            let (l, n, t) = fits p in
            let room : length (root_text x) ≤ lent = rw (z, length_zeros lent) at l in
            (λ i. brackets_done (Printed (n i)) ((t ∙ ap (λ (b : List ℕ). sets b 0 (root_text x)) z ∙ sets_zeros lent (root_text x) room) i))
            ∙ sym (answer_printed x _ (passed ∙ length_passed x room))

        pub left_longer : {text : List ℕ} → Prints (page (Some 0) before) (stack_text (configuration_at start number).stack) (page None after) → text ≡ zeros lent
            → brackets_done (Refused 13) text ≡ brackets_service (brackets_input case start number lent)
        unfolding brackets_service root_text
        left_longer {text} p y =
            let l = longer p in
            let more : lent < length (root_text x) = rw (z, length_zeros lent) at l in
            ap (brackets_done (Refused 13)) y ∙ sym (answer_refused x 13 (eqb-false 13 0 refl)) ∙ ap (brackets_answer x) (sym (passed ∙ length_refused x more))

-- the same bytes are lent where a call before has kept their number
pub service_kept : (case start : List ℕ) (number : ℕ) {d : BracketsDone} {n n' : ℕ} → d ≡ brackets_service (brackets_input case start number n) → n ≡ n'
    → d ≡ brackets_service (brackets_input case start number n')
service_kept case start number h e = h ∙ ap (λ (k : ℕ). brackets_service (brackets_input case start number k)) e

-- the equation, and the promises that follow from it
pub meets : (x : BracketsInput) {d : BracketsDone} → d ≡ brackets_service x → (d ≡ brackets_service x) × (BracketsStates x d × PrintsExactly x d.reply)
meets x {d} e =
    (e, (subst (BracketsStates x) (sym e) (demand1_brackets x), subst (λ (r : Brackets). PrintsExactly x r) (ap (λ (f : BracketsDone). f.reply) (sym e)) (brackets_exactly x)))
