-- What holds of an insertion into the rows of a table, word by word, and so for every layout whose words are its key.
-- Assumes nothing.
use Prim.Native.Nat.{ℕ, zero, suc, ◌+◌, ◌-◌, ◌*◌, ◌≤◌, ◌<◌}
use Rattle.std.specs.Prelude.{Bool, true, false, not, ◌≡◌, get_or}
use Rattle.std.proofs.lemmas.Bool.{false≢true}
use Rattle.std.proofs.Math.Path.{refl, ap, ap₂, sym}
use Rattle.std.proofs.Common.{◌∙◌, zero-mul, mul-le-mul_left, length-drop, take-append-drop, take-add, get_or-take}
use mathlib.Core.List.{List, [], ◌∷◌, ◌++◌, map, map-append, append_assoc}
use Rattle.std.proofs.Math.Nat.{suc-mul, mul-le-mul_right}
use Rattle.std.proofs.Math.Numerals.{add-one}
use native.Mathlib.Omega.{arith}
use Rattle.std.proofs.Math.ListN.{length, take, drop}
use Rattle.std.proofs.lemmas.List.{length-map}
use Rattle.std.proofs.Math.Seq.{paste, take-length, take-take, take-append-le, drop_at, length-take-le}
use borrow.Author.Tests.{le-leb, lt-leb, not-true, not-false}
use Rattle.words.specs.Lists.{each}
use Rattle.words.specs.Lists.Laws.{each_append, each_one, each_map}
use Rattle.words.specs.Order.{less, insert}
use Rattle.words.specs.Order.Laws.{less_neither, insert_before, insert_after, insert_held, by_place}
use Rattle.words.specs.Laws.Tests.{by_test}
use Rattle.tables.specs.Rows.{first_of, Layout, Exact, row_at, rows_in}
use Rattle.tables.specs.Rows.Laws.{row_before, length_first_of, get_or_first_of, first_of_same, first_of_list, row_words_lem, words_rows_in, length_rows_in, length_each_words}
use Rattle.tables.specs.Insertion.{row_words, word_rows, with_row, inserted_in, leading, reached, Inserted}

-- ---- the place of a row among others

module _ (x : List ℕ) where
  leading_at : (l : List (List ℕ)) (i : ℕ) → i ≤ length l → ((j : ℕ) → j < i → less (get_or l j []) x ≡ true)
      → (i < length l → less (get_or l i []) x ≡ false) → i ≡ leading x l
  unfolding leading
  leading_at [] i h b a = omega arith
  leading_at (y ∷ ys) zero h b a = rw (leading, a (omega arith))
  leading_at (y ∷ ys) (suc i) h b a =
      rw (leading, b 0 (omega arith)) (ap suc (leading_at ys i (omega arith) (λ j l. b (suc j) (omega arith)) (λ l. a (omega arith))))

  leading_within : (l : List (List ℕ)) → leading x l ≤ length l
  unfolding leading
  leading_within [] = omega arith
  leading_within (y ∷ ys) =
      let h : leading x ys ≤ length ys = leading_within ys in
      by_test (less y x) (λ e. rw (leading, e) (omega arith)) (λ e. rw (leading, e) (omega arith))

  -- there is no row after those that come before x
  reached_not : (l : List (List ℕ)) → length l ≤ leading x l → false ≡ reached x l
  unfolding leading reached
  reached_not [] h = refl
  reached_not (y ∷ ys) h =
      by_test (less y x) (λ e. rw (reached, e) (reached_not ys (let k : suc (length ys) ≤ suc (leading x ys) = rw (leading, e) at h in omega arith)))
      (λ e. absurd (let k : suc (length ys) ≤ 0 = rw (leading, e) at h in omega arith))

  reached_row : (l : List (List ℕ)) → leading x l < length l → not (less x (get_or l (leading x l) [])) ≡ reached x l
  unfolding leading reached
  reached_row [] h = absurd (omega arith)
  reached_row (y ∷ ys) h =
      by_test (less y x)
      (λ e. rw (leading, reached, e) (reached_row ys (let k : suc (leading x ys) < suc (length ys) = rw (leading, e) at h in omega arith)))
      (λ e. rw (leading, reached, e))

  insert_reached : (l : List (List ℕ)) → reached x l ≡ true → insert (λ k. k) x l ≡ l
  unfolding reached
  insert_reached [] h = absurd (false≢true h)
  insert_reached (y ∷ ys) h =
      by_test (less y x)
      (λ e. insert_after (λ k. k) x y ys e ∙ ap (λ (l : List (List ℕ)). y ∷ l) (insert_reached ys (rw (reached, e) at h)))
      (λ e. insert_held (λ k. k) x y ys (less_neither x y (not-true (less x y) (rw (reached, e) at h)) e))

  insert_placed : (l : List (List ℕ)) → reached x l ≡ false → insert (λ k. k) x l ≡ take (leading x l) l ++ x ∷ drop (leading x l) l
  unfolding reached leading insert
  insert_placed [] h = refl
  insert_placed (y ∷ ys) h =
      by_test (less y x)
      (λ e. insert_after (λ k. k) x y ys e ∙ rw (leading, e) (ap (λ (l : List (List ℕ)). y ∷ l) (insert_placed ys (rw (reached, e) at h))))
      (λ e. insert_before (λ k. k) x y ys (not-false (less x y) (rw (reached, e) at h)) ∙ rw (leading, e))

length_with : {A : Type 0} (x : A) (l : List A) (i : ℕ) → length (take i l ++ x ∷ drop i l) ≡ suc (length l)
length_with x [] zero = refl
length_with x [] (suc i) = refl
length_with x (y ∷ ys) zero = refl
length_with x (y ∷ ys) (suc i) = ap suc (length_with x ys i)

-- ---- the first rows of a table, and their words

module _ (w : ℕ) (t : List ℕ) where
  length_word_rows : (n : ℕ) → length (word_rows w n t) ≡ n
  unfolding word_rows
  length_word_rows n = length_first_of n (row_words w t)

  get_or_word_rows : (n i : ℕ) → i < n → get_or (word_rows w n t) i [] ≡ row_words w t i
  unfolding word_rows
  get_or_word_rows n i h = get_or_first_of n (row_words w t) i [] h

  take_word_rows : (n i : ℕ) → i ≤ n → take i (word_rows w n t) ≡ word_rows w i t
  unfolding word_rows
  take_word_rows n i h =
      let len : length (first_of n (row_words w t)) ≡ n = length_first_of n (row_words w t) in
      sym
      (first_of_list (take i (first_of n (row_words w t))) i (row_words w t) []
      (length-take-le i (first_of n (row_words w t)) (omega arith))
      (λ j l. sym (get_or-take i (first_of n (row_words w t)) j [] l ∙ get_or_first_of n (row_words w t) j [] (omega arith))))

  words_first : (n : ℕ) → each (word_rows w n t) (λ k. k) ≡ take (n * w) t
  unfolding word_rows first_of each
  words_first zero = ap (λ (k : ℕ). take k t) (sym (zero-mul w))
  words_first (suc n) =
      each_append (word_rows w n t) (row_words w t n ∷ []) (λ k. k)
      ∙ ap₂ ◌++◌ (words_first n) (each_one (row_words w t n) (λ k. k))
      ∙ sym (take-add (n * w) w t)
      ∙ ap (λ (k : ℕ). take k t) (sym (suc-mul n w))

  words_before : (n i : ℕ) → i ≤ n → each (take i (word_rows w n t)) (λ k. k) ≡ take (i * w) t
  words_before n i h = ap (λ (l : List (List ℕ)). each l (λ k. k)) (take_word_rows n i h) ∙ words_first i

  words_after : (n i : ℕ) → i ≤ n → n * w ≤ length t → each (drop i (word_rows w n t)) (λ k. k) ≡ take (n * w - i * w) (drop (i * w) t)
  words_after n i h b =
      let l : List (List ℕ) = word_rows w n t in
      let a : i * w ≤ n * w = mul-le-mul_right w h in
      let len : length (take (i * w) t) ≡ i * w = length-take-le (i * w) t (omega arith) in
      let whole : take (i * w) t ++ each (drop i l) (λ k. k) ≡ take (i * w) t ++ take (n * w - i * w) (drop (i * w) t) =
      ap (λ (z : List ℕ). z ++ each (drop i l) (λ k. k)) (sym (words_before n i h))
      ∙ sym (each_append (take i l) (drop i l) (λ k. k))
      ∙ ap (λ (z : List (List ℕ)). each z (λ k. k)) (take-append-drop i l)
      ∙ words_first n
      ∙ ap (λ (k : ℕ). take k t) (let z : n * w ≡ i * w + (n * w - i * w) = omega arith in z)
      ∙ take-add (i * w) (n * w - i * w) t in
      sym (drop_at (take (i * w) t) (each (drop i l) (λ k. k)) (i * w) len)
      ∙ ap (drop (i * w)) whole
      ∙ drop_at (take (i * w) t) (take (n * w - i * w) (drop (i * w) t)) (i * w) len

-- ---- the search for the place

module _ (x t : List ℕ) (n : ℕ) where
  pub row_fits : (i : ℕ) → i < n → n * length x ≤ length t → i * length x + length x ≤ length t
  row_fits i h b = let r : i * length x + length x ≤ n * length x = row_before (length x) n i h in omega arith

  pub length_row : (i : ℕ) → i < n → n * length x ≤ length t → length (row_words (length x) t i) ≡ length x
  length_row i h b = let r : i * length x + length x ≤ length t = row_fits i h b in length-take-le (length x) (drop (i * length x) t) (simp length-drop (omega arith))

  pub placed_at : (i : ℕ) → i ≤ n → ((j : ℕ) → j < i → less (row_words (length x) t j) x ≡ true)
      → (i < n → less (row_words (length x) t i) x ≡ false) → i ≡ leading x (word_rows (length x) n t)
  placed_at i h b a =
      let len : length (word_rows (length x) n t) ≡ n = length_word_rows (length x) t n in
      leading_at x (word_rows (length x) n t) i (omega arith)
      (λ j l. ap (λ (y : List ℕ). less y x) (get_or_word_rows (length x) t n j (omega arith)) ∙ b j l)
      (λ l. let k : i < n = omega arith in ap (λ (y : List ℕ). less y x) (get_or_word_rows (length x) t n i k) ∙ a k)

  module _ (i : ℕ) (p : i ≡ leading x (word_rows (length x) n t)) where
    pub holds_not : n ≤ i → false ≡ reached x (word_rows (length x) n t)
    holds_not h =
        let len : length (word_rows (length x) n t) ≡ n = length_word_rows (length x) t n in
        reached_not x (word_rows (length x) n t) (omega arith)

    pub holds_row : (y : List ℕ) (r : Bool) → i < n → y ≡ row_words (length x) t i → r ≡ less x y → not r ≡ reached x (word_rows (length x) n t)
    holds_row y r h e f =
        let len : length (word_rows (length x) n t) ≡ n = length_word_rows (length x) t n in
        ap not (f ∙ ap (less x) (e ∙ sym (get_or_word_rows (length x) t n i h) ∙ ap (λ (k : ℕ). get_or (word_rows (length x) n t) k []) p))
        ∙ reached_row x (word_rows (length x) n t) (omega arith)

-- ---- room for rows

module _ (x t : List ℕ) (n room : ℕ) (b : room * length x ≤ length t) where
  pub rows_fit : n ≤ room → n * length x ≤ length t
  rows_fit h = let r : n * length x ≤ room * length x = mul-le-mul_right (length x) h in omega arith

  -- and for one more
  pub row_more : n < room → n * length x + length x ≤ length t
  row_more h = row_fits x t room n h b

  -- rows of more than one word are fewer than half the words
  pub rows_few : n ≤ room → 1 < length x → n * 2 ≤ length t
  rows_few h l = let r : n * 2 ≤ n * length x = mul-le-mul_left n l in let f : n * length x ≤ length t = rows_fit h in omega arith

pub place_within : (x t : List ℕ) (n i : ℕ) → i ≡ leading x (word_rows (length x) n t) → i * length x ≤ n * length x
place_within x t n i p =
    let len : length (word_rows (length x) n t) ≡ n = length_word_rows (length x) t n in
    let within : leading x (word_rows (length x) n t) ≤ length (word_rows (length x) n t) = leading_within x (word_rows (length x) n t) in
    mul-le-mul_right (length x) (omega arith)

-- ---- the three ends of an insertion

module _ (room n : ℕ) (x t : List ℕ) where
  inserted_fits : length (with_row n x t) ≤ room
      → inserted_in room n x t ≡ each (with_row n x t) (λ k. k) ++ drop (length (with_row n x t) * length x) t
  unfolding inserted_in
  inserted_fits h = rw (inserted_in, le-leb (length (with_row n x t)) room h)

  inserted_over : room < length (with_row n x t) → inserted_in room n x t ≡ t
  unfolding inserted_in
  inserted_over h = rw (inserted_in, lt-leb (length (with_row n x t)) room h)

  -- x is there already
  pub insert_has : n ≤ room → reached x (word_rows (length x) n t) ≡ true → (n ≡ length (with_row n x t)) × (t ≡ inserted_in room n x t)
  insert_has h e =
      let is : with_row n x t ≡ word_rows (length x) n t = insert_reached x (word_rows (length x) n t) e in
      let len : length (with_row n x t) ≡ n = ap length is ∙ length_word_rows (length x) t n in (
        sym len,
        sym
            (inserted_fits (omega arith)
            ∙ ap₂ ◌++◌ (ap (λ (l : List (List ℕ)). each l (λ k. k)) is ∙ words_first (length x) t n) (ap (λ (k : ℕ). drop (k * length x) t) len)
            ∙ take-append-drop (n * length x) t),
      )

  module _ (fits : n * length x ≤ length t) (e : reached x (word_rows (length x) n t) ≡ false) where
    with_more : length (with_row n x t) ≡ n + 1
    with_more =
        let l : List (List ℕ) = word_rows (length x) n t in
        let len : length (word_rows (length x) n t) ≡ n = length_word_rows (length x) t n in
        ap length (insert_placed x l e) ∙ length_with x l (leading x l) ∙ (let z : suc (length (word_rows (length x) n t)) ≡ n + 1 = omega arith in z)

    -- there is no room for x
    pub insert_full : n ≡ room → (n + 1 ≡ length (with_row n x t)) × (t ≡ inserted_in room n x t)
    insert_full h =
        let more : length (with_row n x t) ≡ n + 1 = with_more in
        (sym more, sym (inserted_over (omega arith)))

    -- x is put into its place
    pub insert_put : (i : ℕ) (t' t'' : List ℕ) → n < room → room * length x ≤ length t → i ≡ leading x (word_rows (length x) n t)
        → t' ≡ paste t (i * length x + length x) (drop (i * length x) t) (n * length x - i * length x)
        → t'' ≡ paste t' (i * length x) x (length x)
        → (n + 1 ≡ length (with_row n x t)) × (t'' ≡ inserted_in room n x t)
    unfolding each
    insert_put i t' t'' h b p f g =
        let w : ℕ = length x in
        let l : List (List ℕ) = word_rows (length x) n t in
        let len : length (word_rows (length x) n t) ≡ n = length_word_rows (length x) t n in
        let within : leading x (word_rows (length x) n t) ≤ length (word_rows (length x) n t) = leading_within x l in
        let a : i * length x ≤ n * length x = mul-le-mul_right (length x) (omega arith) in
        let c : suc n * length x ≤ room * length x = mul-le-mul_right (length x) h in
        let d : suc n * length x ≡ n * length x + length x = suc-mul n (length x) in
        let more : length (with_row n x t) ≡ n + 1 = with_more in
        let m : List ℕ = take (n * w - i * w) (drop (i * w) t) in
        let r : List ℕ = drop (i * w + w + (n * w - i * w)) t in
        let opened : t' ≡ take (i * w + w) t ++ (m ++ r) = f ∙ append_assoc (take (i * w + w) t) m r in
        let front : take (i * w) t' ≡ take (i * w) t =
        ap (take (i * w)) opened
        ∙ take-append-le (i * w) (take (i * w + w) t) (m ++ r) (omega (arith, length-take-le (i * w + w) t (omega arith)))
        ∙ take-take (i * w) (i * w + w) t (omega arith) in
        let back : drop (i * w + w) t' ≡ m ++ r =
        ap (drop (i * w + w)) opened ∙ drop_at (take (i * w + w) t) (m ++ r) (i * w + w) (length-take-le (i * w + w) t (omega arith)) in
        let rows : each (with_row n x t) (λ k. k) ≡ take (i * w) t ++ (x ++ m) =
        ap (λ (z : List (List ℕ)). each z (λ k. k)) (insert_placed x l e ∙ ap (λ (k : ℕ). take k l ++ x ∷ drop k l) (sym p))
        ∙ each_append (take i l) (x ∷ drop i l) (λ k. k)
        ∙ ap₂ (λ (y z : List ℕ). y ++ (x ++ z)) (words_before w t n i (omega arith)) (words_after w t n i (omega arith) fits) in (
          sym more,
          g
              ∙ ap₂ (λ (y z : List ℕ). y ++ take w x ++ z) front back
              ∙ ap (λ (y : List ℕ). take (i * w) t ++ y ++ (m ++ r)) (take-length x)
              ∙ sym (append_assoc (take (i * w) t ++ x) m r)
              ∙ ap₂ (λ (y : List ℕ) (k : ℕ). y ++ drop k t)
              (append_assoc (take (i * w) t) x m ∙ sym rows)
              (let z : i * length x + length x + (n * length x - i * length x) ≡ suc n * length x = omega arith in
              z ∙ ap (λ (k : ℕ). k * length x) (sym (more ∙ add-one n)))
              ∙ sym (inserted_fits (omega arith)),
        )

-- ---- layouts whose words are their key

module _ {A : Type 0} (key : A → List ℕ) where
  pub length_insert : (a : A) (l : List A) → length l ≤ length (insert key a l)
  unfolding insert
  length_insert a [] = omega arith
  length_insert a (y ∷ l) =
      by_place key a y
      (λ h. rw (insert_before key a y l h) (omega arith))
      (λ h. rw (insert_held key a y l h) (omega arith))
      (λ h. let k : length l ≤ length (insert key a l) = length_insert a l in rw (insert_after key a y l h) (omega arith))

  insert_one : (a : A) (l : List A) → length (insert key a l) ≤ length l + 1
  unfolding insert
  insert_one a [] = omega arith
  insert_one a (y ∷ l) =
      by_place key a y
      (λ h. rw (insert_before key a y l h) (omega arith))
      (λ h. rw (insert_held key a y l h) (omega arith))
      (λ h. let k : length (insert key a l) ≤ length l + 1 = insert_one a l in rw (insert_after key a y l h) (omega arith))

  insert_map : (a : A) (l : List A) → insert (λ k. k) (key a) (map key l) ≡ map key (insert key a l)
  unfolding insert
  insert_map a [] = refl
  insert_map a (y ∷ l) =
      by_place key a y
      (λ h. insert_before (λ k. k) (key a) (key y) (map key l) h ∙ sym (ap (map key) (insert_before key a y l h)))
      (λ h. insert_held (λ k. k) (key a) (key y) (map key l) h ∙ sym (ap (map key) (insert_held key a y l h)))
      (λ h. insert_after (λ k. k) (key a) (key y) (map key l) h ∙ ap (λ (z : List (List ℕ)). key y ∷ z) (insert_map a l) ∙ sym (ap (map key) (insert_after key a y l h)))

  map_first_of : (n : ℕ) (f : ℕ → A) → first_of n (λ i. key (f i)) ≡ map key (first_of n f)
  unfolding first_of
  map_first_of zero f = refl
  map_first_of (suc n) f = ap (λ (l : List (List ℕ)). l ++ (key (f n) ∷ [])) (map_first_of n f) ∙ sym (map-append key (first_of n f) (f n ∷ []))

module _ {A : Type 0} (L : Layout A) (x : Exact L) (n : ℕ) (t : List ℕ) (fits : n * L.width ≤ length t) where
  rows_words : word_rows L.width n t ≡ map L.words (rows_in L n t)
  unfolding word_rows rows_in
  rows_words =
      first_of_same n (row_words L.width t) (λ i. L.words (row_at L t i))
      (λ i h. row_words_lem L x i t (let r : i * L.width + L.width ≤ n * L.width = row_before L.width n i h in omega arith))
      ∙ map_first_of L.words n (row_at L t)

  with_words : (a : A) → with_row n (L.words a) t ≡ map L.words (insert L.words a (rows_in L n t))
  with_words a =
      ap (λ (w : ℕ). insert (λ k. k) (L.words a) (word_rows w n t)) (L.length_words a)
      ∙ ap (insert (λ k. k) (L.words a)) rows_words
      ∙ insert_map L.words a (rows_in L n t)

  pub layout_length : (r : ℕ) (a : A) → r ≡ length (with_row n (L.words a) t) → (r ≡ length (insert L.words a (rows_in L n t))) × (r ≤ n + 1)
  layout_length r a e =
      let len : r ≡ length (insert L.words a (rows_in L n t)) = e ∙ ap length (with_words a) ∙ length-map (insert L.words a (rows_in L n t)) L.words in
      let rows : length (rows_in L n t) ≡ n = length_rows_in L n t in
      let one : length (insert L.words a (rows_in L n t)) ≤ length (rows_in L n t) + 1 = insert_one L.words a (rows_in L n t) in
      (len, omega arith)

  pub layout_inserted : (room r : ℕ) (t' : List ℕ) (a : A) → r ≡ length (with_row n (L.words a) t) → t' ≡ inserted_in room n (L.words a) t → r ≤ room
      → Inserted L t t' n r a
  layout_inserted room r t' a e f h =
      let l : List A = insert L.words a (rows_in L n t) in
      let (len, few) = layout_length r a e in
      let rows : length (rows_in L n t) ≡ n = length_rows_in L n t in
      let more : length (rows_in L n t) ≤ length (insert L.words a (rows_in L n t)) = length_insert L.words a (rows_in L n t) in
      let whole : t' ≡ each l L.words ++ drop (r * L.width) t =
      f
      ∙ inserted_fits room n (L.words a) t (omega arith)
      ∙ ap₂ ◌++◌ (ap (λ (z : List (List ℕ)). each z (λ k. k)) (with_words a) ∙ each_map L.words l (λ k. k))
      (ap₂ (λ (j w : ℕ). drop (j * w) t) (sym e) (L.length_words a)) in
      record {
        rows = ap₂ (rows_in L) len whole ∙ words_rows_in L l (drop (r * L.width) t);
        behind =
            ap (drop (r * L.width)) whole
            ∙ drop_at (each l L.words) (drop (r * L.width) t) (r * L.width)
            (length_each_words L l ∙ ap (λ (k : ℕ). k * L.width) (sym len));
        few = few;
        kept = omega arith;
      }
