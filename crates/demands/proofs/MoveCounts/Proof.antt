-- The words that saturate leaves with the entries are the counts by walking its moves, and the second line of the listing names the largest of them.
-- Assumes nothing.
use Rattle.std.specs.Prelude.{ℕ, zero, suc, ◌+◌, ◌*◌, ◌/◌, ◌%◌, ◌≤◌, ◌<◌, true, ◌≡◌, ◌⊎◌, get_or, drop, eqb, leb}
use Rattle.std.proofs.lemmas.Bool.{false≢true}
use Rattle.std.proofs.Math.Path.{refl, ap, sym, subst}
use Rattle.std.proofs.Common.{◌∙◌, lit<}
use Rattle.std.proofs.Math.Logic.{inl, inr}
use mathlib.Core.List.{List, [], ◌∷◌, ◌++◌, append_assoc, Memᴰ}
use Rattle.std.proofs.Math.Option.{some, none-ne-some}
use native.Mathlib.Omega.{arith}
use Rattle.std.proofs.Math.ListN.{length}
use borrow.Author.Tests.{eqb-false, eq-eqb, le-leb}
use Rattle.words.specs.Lists.{each, only, every}
use Rattle.words.specs.Lists.Laws.{only_yes, only_no, every_append, every_in}
use Rattle.words.specs.Laws.Tests.{by_test}
use Rattle.automata.specs.Automaton.{Automaton, Move, no_entry}
use Rattle.automata.specs.Saturation.{Saturated, all_rounds}
use Rattle.replies.specs.declared.Saturation.{Saturation}
use Rattle.files.specs.Case.{case_refusal, own_of}
use Rattle.files.specs.Start.{Files, starts_of}
use Rattle.services.specs.Memory.{padded, move_count, Counted, with_counts, counted, largest, move_words, move_table, entry_table}
use Rattle.services.specs.Memory.Laws.{get_or_padded, length_with_counts}
use Rattle.services.specs.Memory.Counts.{third_word_lem, with_counts_at, largest_above, largest_reached}
use Rattle.services.specs.Saturate.{Lent, saturated, SaturateDone, saturate_refused, saturate_filled, saturate_service}
use Rattle.services.proofs.Saturate.Laws.{SaturateCase, case_refused, size_exceeded, filled, saturate_cases}
use Rattle.services.specs.Judge.{JudgeDone, judge_lent, judge_left, judge_service}
use Rattle.services.specs.Judge.Laws.{JudgeCase, start_refused, answers_short, judged}
use Rattle.services.proofs.Judge.Laws.{judge_cases}
use Rattle.services.specs.Listing.{ascii, digits_before, decimal, listing_lent, listing_judge, size_line, largest_count, most_line, start_lines, judged_text, listing_text}
use Rattle.services.specs.Listing.Decimal.{decimal_told}
use Rattle.demands.specs.Size.Laws.{saturated_table_lem}
use Rattle.demands.specs.Refusals.{Returned, saturate_refusals, judge_refusals}
use Rattle.demands.specs.Refusals.Laws.{returned_one}
use Rattle.demands.specs.Demand1.{SaturateStates}
use Rattle.demands.proofs.Demand1.Proof.{demand1_saturate}
use Rattle.demands.proofs.Demand2.Proof.{judge_marks}
use Rattle.demands.proofs.Determined.{saturate_only}
use Rattle.demands.specs.MoveCounts.{walked, third_word, CountsWalked, AllWalked, LargestCount, Line, SecondLine, MostLargest}

-- ---- the words of a table

-- walking the words of moves counts them
walked_moves : (r : ℕ) (ms : List Move) (rest : List ℕ) → walked r (length ms) (each ms move_words ++ rest) ≡ move_count ms r
unfolding walked move_count only each move_words
walked_moves r [] rest = refl
walked_moves r (m ∷ ms) rest =
    by_test (eqb m.state r)
    (λ e. rw (walked, e) (ap suc (walked_moves r ms rest)) ∙ sym (ap length (only_yes (λ (x : Move). eqb x.state r) m ms e)))
    (λ e. rw (walked, e) (walked_moves r ms rest) ∙ sym (ap length (only_no (λ (x : Move). eqb x.state r) m ms e)))

abbrev no_count : Counted
no_count = record { entry = no_entry; moves = 0 }

module _ (A : Automaton) (n : ℕ) where
  walked_table : (r : ℕ) → walked r (length A.moves) (padded n (move_table A)) ≡ move_count A.moves r
  unfolding padded move_table
  walked_table r = walked_moves r A.moves _

  word_counted : (i : ℕ) → i < length A.entries → third_word (padded n (entry_table A)) i ≡ (get_or (counted A) i no_count).moves
  unfolding third_word entry_table counted
  word_counted i h =
      let len : length (with_counts A.moves A.J A.entries) ≡ length A.entries = length_with_counts A.moves A.J A.entries in
      get_or_padded n (entry_table A) (i * 3 + 2) ∙ third_word_lem (counted A) i no_count (omega arith)

  word_is : (i : ℕ) → i < length A.entries → third_word (padded n (entry_table A)) i ≡ move_count A.moves (A.J + i)
  unfolding counted
  word_is i h = word_counted i h ∙ ap (λ (c : Counted). c.moves) (with_counts_at A.moves A.J A.entries i no_count no_entry h)

-- ---- what saturate leaves

module _ (x : Lent) where
  filled_walked : (T : Saturated) → (own_of x.case).J ≡ T.table.J → CountsWalked x (saturate_filled x T)
  unfolding saturate_filled
  filled_walked T e i h =
      word_is T.table x.entries i h
      ∙ ap (λ (k : ℕ). move_count T.table.moves (k + i)) (sym e)
      ∙ sym (walked_table T.table x.moves ((own_of x.case).J + i))

  filled_largest : (T : Saturated) → saturated x all_rounds ≡ some T → LargestCount (saturate_filled x T) (largest_count x)
  unfolding saturate_filled largest_count counted
  filled_largest T o =
      let A : Automaton = T.table in
      let len : length (counted A) ≡ length A.entries = length_with_counts A.moves A.J A.entries in
      let is : largest_count x ≡ largest (counted A) = rw (largest_count, o) in
      record {
        above = λ i h. subst (λ (n : ℕ). third_word (padded x.entries (entry_table A)) i ≤ n) (sym is)
            (subst (λ (n : ℕ). n ≤ largest (counted A)) (sym (word_counted A x.entries i h)) (largest_above (counted A) i no_count (omega arith)));
        reached = go is (largest_reached (counted A) no_count);
      }
    where
      go : largest_count x ≡ largest (counted T.table) → (largest (counted T.table) ≡ 0)
          ⊎ ((i : ℕ) × (i < length (counted T.table)) × ((get_or (counted T.table) i no_count).moves ≡ largest (counted T.table)))
          → (largest_count x ≡ 0)
          ⊎ ((i : ℕ) × (i < length T.table.entries) × (third_word (padded x.entries (entry_table T.table)) i ≡ largest_count x))
      go is (inl e) = inl (is ∙ e)
      go is (inr (i, l, e)) =
          let len : length (counted T.table) ≡ length T.table.entries = length_with_counts T.table.moves T.table.J T.table.entries in
          let h : i < length T.table.entries = omega arith in
          inr (i, h, word_counted T.table x.entries i h ∙ e ∙ sym is)

  -- every answer that demand 1 leaves, where no number applies
  by_case : (P : SaturateDone → Type 0) → ((T : Saturated) → case_refusal x.case ≡ 0 → saturated x all_rounds ≡ some T → P (saturate_filled x T))
      → (d : SaturateDone) → SaturateStates x d → Returned saturate_refusals x 0 → P d
  unfolding saturate_refused
  by_case P f d s r = subst P (sym is) (go (saturate_service x) (saturate_cases x) (returned_one saturate_refusals x (demand1_saturate x).number r))
    where
      is : d ≡ saturate_service x
      is = saturate_only x d s

      go : (e : SaturateDone) → SaturateCase x e → e.reply.code ≡ 0 → P e
      go e (case_refused bad) z = absurd (bad z)
      go e (size_exceeded _ _) z = absurd (eqb-false 9 0 refl z)
      go e (filled T sound o) z = f T sound o

  pub largest_count_lem : (d : SaturateDone) → SaturateStates x d → Returned saturate_refusals x 0 → LargestCount d (largest_count x)
  largest_count_lem = by_case (λ (d : SaturateDone). LargestCount d (largest_count x)) (λ T sound o. filled_largest T o)

pub counts_walked : AllWalked
counts_walked x d s r = (
  returned_one saturate_refusals x s.number r,
  by_case x (CountsWalked x) (λ T sound o. filled_walked x T (sym (saturated_table_lem x sound o).least_closed.contains_own.same_J)) d s r,
)

-- ---- the listing's first line

-- digits are no line ends, nor is any other byte from 32 on
digits_printed : (k n : ℕ) (ds : List ℕ) → every (leb 32) ds ≡ true → every (leb 32) (digits_before k n ds) ≡ true
unfolding digits_before every
digits_printed zero n ds h = h
digits_printed (suc k) n ds h =
    let l : 32 ≤ 48 + n % 10 = omega arith in
    let more : every (leb 32) ((48 + n % 10) ∷ ds) ≡ true = rw (every, le-leb 32 (48 + n % 10) l) h in
    by_test (eqb (n / 10) 0)
    (λ e. rw (digits_before, e) more)
    (λ e. rw (digits_before, e) (digits_printed k (n / 10) ((48 + n % 10) ∷ ds) more))

decimal_printed : (n : ℕ) → every (leb 32) (decimal n) ≡ true
unfolding decimal every
decimal_printed n = digits_printed (suc n) n [] refl

both_printed : (xs ys : List ℕ) → every (leb 32) xs ≡ true → every (leb 32) ys ≡ true → every (leb 32) (xs ++ ys) ≡ true
both_printed xs ys h k = rw (every_append (leb 32) xs ys, h) k

size_line_lem : (r : Saturation) → Line (size_line r)
unfolding size_line ascii every
size_line_lem r =
    let before : List ℕ = ascii "moves " ++ decimal r.moves ++ ascii " entries " in
    let printed : every (leb 32) (before ++ decimal r.entries) ≡ true =
    both_printed before (decimal r.entries)
    (both_printed (ascii "moves " ++ decimal r.moves) (ascii " entries ")
    (both_printed (ascii "moves ") (decimal r.moves) refl (decimal_printed r.moves))
    refl)
    (decimal_printed r.entries) in
    record { words = before ++ decimal r.entries; no_end = λ m. false≢true (every_in (leb 32) printed m); then_ends = refl }

-- ---- the listing

module _ (f : Files) (r : Returned judge_refusals (listing_judge f all_rounds) 0) where
  judged_zero : (judge_service (listing_judge f all_rounds)).code ≡ 0
  judged_zero = (judge_marks (listing_judge f all_rounds) r).judged

  judged_listed : listing_text f ≡ judged_text f
  unfolding listing_text
  judged_listed = rw (listing_text, eq-eqb _ 0 judged_zero)

  -- where judge in all rounds does not refuse, nor does saturate
  unrefused_saturates : Returned saturate_refusals (listing_lent f) 0
  unfolding listing_judge listing_lent judge_lent judge_left saturate_filled
  unrefused_saturates = go (judge_service (listing_judge f all_rounds)) (judge_cases (listing_judge f all_rounds)) judged_zero
    where
      fills : {T : Saturated} → case_refusal f.case ≡ 0 → saturated (listing_lent f) all_rounds ≡ some T
          → (e : SaturateDone) → SaturateCase (listing_lent f) e → e.reply.code ≡ 0
      fills s o e (case_refused bad) = absurd (bad s)
      fills {T} s o e (size_exceeded _ q) = absurd (none-ne-some T (sym q ∙ o))
      fills s o e (filled _ _ _) = refl

      go : (d : JudgeDone) → JudgeCase (listing_judge f all_rounds) d → d.code ≡ 0 → Returned saturate_refusals (listing_lent f) 0
      go d (JudgeCase.case_refused bad) z = absurd (bad z)
      go d (start_refused s bad) z = absurd (bad z)
      go d (answers_short s g h) z = absurd (eqb-false 8 0 refl z)
      go d (JudgeCase.size_exceeded s g h o) z = absurd (eqb-false 9 0 refl z)
      go d (judged T s g h o) z =
          subst (Returned saturate_refusals (listing_lent f)) (fills s o (saturate_service (listing_lent f)) (saturate_cases (listing_lent f)))
          (demand1_saturate (listing_lent f)).number

pub most_largest : MostLargest
unfolding judged_text most_line
most_largest f d s r = (
  largest_count (listing_lent f),
  largest_count_lem (listing_lent f) d s (unrefused_saturates f r),
  record {
    first = size_line (saturate_service (listing_lent f)).reply;
    rest = start_lines f 0 (length (starts_of f.start));
    first_line = size_line_lem (saturate_service (listing_lent f)).reply;
    text_is = judged_listed f r;
  },
)

-- ---- an answer has one largest count, and a text's second line names one number

pub largest_one : {d : SaturateDone} {n m : ℕ} → LargestCount d n → LargestCount d m → n ≡ m
largest_one {d} {n} {m} a b =
    let l : n ≤ m = go n m b.above a.reached in
    let k : m ≤ n = go m n a.above b.reached in
    omega arith
  where
    go : (n m : ℕ) → ((i : ℕ) → i < d.reply.entries → third_word d.entries i ≤ m)
        → (n ≡ 0) ⊎ ((i : ℕ) × (i < d.reply.entries) × (third_word d.entries i ≡ n)) → n ≤ m
    go n m h (inl e) = omega arith
    go n m h (inr (i, l, e)) = subst (λ (k : ℕ). k ≤ m) e (h i l)

-- a line at the front tells what follows it
lines_told : (a b x y : List ℕ) → (Memᴰ 10 a → ⊥) → (Memᴰ 10 b → ⊥) → a ++ (10 ∷ x) ≡ b ++ (10 ∷ y) → x ≡ y
lines_told [] [] x y h k e = ap (drop 1) e
lines_told [] (c ∷ b) x y h k e = absurd (k (Memᴰ.head (ap (λ (l : List ℕ). get_or l 0 0) e)))
lines_told (c ∷ a) [] x y h k e = absurd (h (Memᴰ.head (ap (λ (l : List ℕ). get_or l 0 0) (sym e))))
lines_told (c ∷ a) (_ ∷ b) x y h k e = lines_told a b x y (λ m. h (Memᴰ.tail m)) (λ m. k (Memᴰ.tail m)) (ap (drop 1) e)

-- a text with its second line by bytes
by_bytes : {text : List ℕ} (n : ℕ) (s : SecondLine text (ascii "most " ++ decimal n ++ ascii "\n"))
    → text ≡ s.first_line.words ++ (10 ∷ (ascii "most " ++ (decimal n ++ (10 ∷ s.rest))))
unfolding ascii
by_bytes n s =
    let words : List ℕ = s.first_line.words in
    let line : List ℕ = ascii "most " ++ decimal n ++ ascii "\n" in
    s.text_is
    ∙ ap (λ (l : List ℕ). l ++ line ++ s.rest) s.first_line.then_ends
    ∙ append_assoc (words ++ ascii "\n") line s.rest
    ∙ append_assoc words (ascii "\n") (line ++ s.rest)
    ∙ ap (λ (l : List ℕ). words ++ (10 ∷ (ascii "most " ++ l))) (append_assoc (decimal n) (ascii "\n") s.rest)

pub named_one : {text : List ℕ} (n m : ℕ) → SecondLine text (ascii "most " ++ decimal n ++ ascii "\n")
    → SecondLine text (ascii "most " ++ decimal m ++ ascii "\n") → n ≡ m
unfolding ascii
named_one n m s t =
    let e = lines_told _ _ _ _ s.first_line.no_end t.first_line.no_end (sym (by_bytes n s) ∙ by_bytes m t) in
    (decimal_told n m 10 10 s.rest t.rest (lit< tt) (lit< tt) (ap (drop 5) e)).0
