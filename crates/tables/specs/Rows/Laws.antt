-- What holds of tables: of their rows by number, of a row written, and of the words that the first rows are.
-- Assumes nothing.
use Prim.Native.Nat.{ℕ, zero, suc, ◌+◌, ◌*◌, ◌<◌, ◌≤◌}
use Rattle.std.specs.Prelude.{◌≡◌, ◌⊎◌, set, drop}
use Rattle.std.proofs.Math.Path.{refl, ap, ap₂, sym}
use Rattle.std.proofs.Common.{◌∙◌, subst, inl, inr, zero-add, zero-mul, mul-le-mul_right, eq-or-lt_of_le, le_of_suc-le-suc, lt_irrefl, add-one, take-append-drop, get_or-set_other, drop-set-lt, get_or-take, ext_get_or, length-take-le}
use Rattle.std.proofs.Math.Logic.{⊎_elim}
use mathlib.Core.List.{List, [], ◌∷◌, ◌++◌, append_assoc}
use Rattle.std.proofs.Math.Nat.{suc-mul}
use native.Mathlib.Omega.{arith}
use Rattle.std.proofs.Math.ListN.{length, get_or, take, length-append, length-drop, get_or-append}
use Rattle.std.proofs.lemmas.List.Edits.{sets, sets-eq}
use Rattle.std.proofs.Math.Seq.{length-sets, take-add, get_or-append_seam, get_or-append-add, get_or-drop}
use Rattle.words.specs.Lists.{each}
use Rattle.words.specs.Lists.Laws.{each_append, each_one}
use Rattle.tables.specs.Rows.{first_of, Layout, Exact, row_at, rows_in, put_row}

-- ---- the first values of a function

module _ {A : Type 0} where
  pub length_first_of : (n : ℕ) (f : ℕ → A) → length (first_of n f) ≡ n
  unfolding first_of
  length_first_of zero f = refl
  length_first_of (suc n) f =
      let h : length (first_of n f) ≡ n = length_first_of n f in
      length-append (first_of n f) (f n ∷ []) ∙ (let e : length (first_of n f) + 1 ≡ suc n = omega arith in e)

  pub first_of_more : (n : ℕ) (f : ℕ → A) → first_of (n + 1) f ≡ first_of n f ++ (f n ∷ [])
  unfolding first_of
  first_of_more n f = ap (λ (k : ℕ). first_of k f) (add-one n)

  pub get_or_first_of : (n : ℕ) (f : ℕ → A) (i : ℕ) (d : A) → i < n → get_or (first_of n f) i d ≡ f i
  unfolding first_of
  get_or_first_of zero f i d h = absurd (omega arith)
  get_or_first_of (suc n) f i d h =
      let l : length (first_of n f) ≡ n = length_first_of n f in
      ⊎_elim
      (λ (e : i ≡ n). ap (λ (k : ℕ). get_or (first_of n f ++ f n ∷ []) k d) (e ∙ sym l) ∙ get_or-append_seam (first_of n f) (f n) [] d ∙ ap f (sym e))
      (λ (e : i < n). get_or-append (first_of n f) (f n ∷ []) d i (omega arith) ∙ get_or_first_of n f i d e)
      (eq-or-lt_of_le (le_of_suc-le-suc h))

  pub first_of_same : (n : ℕ) (f g : ℕ → A) → ((i : ℕ) → i < n → f i ≡ g i) → first_of n f ≡ first_of n g
  unfolding first_of
  first_of_same zero f g h = refl
  first_of_same (suc n) f g h =
      ap₂ (λ (l : List A) (x : A). l ++ x ∷ []) (first_of_same n f g (λ i l. h i (omega arith))) (h n (omega arith))

  -- a list is its elements by number
  pub first_of_list : (l : List A) (n : ℕ) (f : ℕ → A) (d : A) → length l ≡ n → ((i : ℕ) → i < n → f i ≡ get_or l i d) → first_of n f ≡ l
  first_of_list l n f d e h =
      ext_get_or d (first_of n f) l (length_first_of n f ∙ sym e)
      (λ i k. let b : i < n = subst (λ (m : ℕ). i < m) (length_first_of n f) k in get_or_first_of n f i d b ∙ h i b)

-- ---- words stored in a row

module _ (ws : List ℕ) where
  pub get_or_sets_before : (t : List ℕ) (at j : ℕ) → j < at → get_or (sets t at ws) j 0 ≡ get_or t j 0
  get_or_sets_before t at j h = go ws t at h
    where
      go : (ws t : List ℕ) (at : ℕ) → j < at → get_or (sets t at ws) j 0 ≡ get_or t j 0
      go [] t at h = refl
      go (w ∷ ws) t at h = go ws (set t at w) (suc at) (omega arith) ∙ get_or-set_other t at j w 0 (λ e. lt_irrefl at (subst (λ (k : ℕ). k < at) e h))

  pub get_or_sets_after : (t : List ℕ) (at j : ℕ) → at + length ws ≤ j → get_or (sets t at ws) j 0 ≡ get_or t j 0
  get_or_sets_after t at j h = go ws t at h
    where
      go : (ws t : List ℕ) (at : ℕ) → at + length ws ≤ j → get_or (sets t at ws) j 0 ≡ get_or t j 0
      go [] t at h = refl
      go (w ∷ ws) t at h =
          let l : at < j = omega arith in
          go ws (set t at w) (suc at) (omega arith) ∙ get_or-set_other t at j w 0 (λ e. lt_irrefl at (subst (λ (k : ℕ). at < k) e l))

  pub get_or_sets_in : (t : List ℕ) (at j : ℕ) → at + length ws ≤ length t → j < length ws → get_or (sets t at ws) (at + j) 0 ≡ get_or ws j 0
  get_or_sets_in t at j h l =
      let e : length (take at t) ≡ at = length-take-le at t (omega arith) in
      ap (λ (x : List ℕ). get_or x (at + j) 0) (sets-eq ws t at h ∙ append_assoc (take at t) ws (drop (at + length ws) t))
      ∙ ap (λ (k : ℕ). get_or (take at t ++ (ws ++ drop (at + length ws) t)) (k + j) 0) (sym e)
      ∙ get_or-append-add (take at t) (ws ++ drop (at + length ws) t) j 0
      ∙ get_or-append ws (drop (at + length ws) t) 0 j l

  pub drop_sets : (t : List ℕ) (at n : ℕ) → at + length ws ≤ n → drop n (sets t at ws) ≡ drop n t
  drop_sets t at n h = go ws t at h
    where
      go : (ws t : List ℕ) (at : ℕ) → at + length ws ≤ n → drop n (sets t at ws) ≡ drop n t
      go [] t at h = refl
      go (w ∷ ws) t at h = go ws (set t at w) (suc at) (omega arith) ∙ drop-set-lt n t at w (omega arith)

-- row j ends before row i begins
pub row_before : (w i j : ℕ) → j < i → j * w + w ≤ i * w
row_before w i j h = subst (λ (k : ℕ). k ≤ i * w) (suc-mul j w) (mul-le-mul_right w h)

-- ---- rows by number, and a row written

module _ {A : Type 0} (L : Layout A) where
  pub length_rows_in : (n : ℕ) (t : List ℕ) → length (rows_in L n t) ≡ n
  unfolding rows_in
  length_rows_in n t = length_first_of n (row_at L t)

  pub get_or_rows_in : (n : ℕ) (t : List ℕ) (i : ℕ) (d : A) → i < n → get_or (rows_in L n t) i d ≡ row_at L t i
  unfolding rows_in
  get_or_rows_in n t i d h = get_or_first_of n (row_at L t) i d h

  pub rows_in_same : (n : ℕ) (t t' : List ℕ) → ((i : ℕ) → i < n → row_at L t i ≡ row_at L t' i) → rows_in L n t ≡ rows_in L n t'
  unfolding rows_in
  rows_in_same n t t' h = first_of_same n (row_at L t) (row_at L t') h

  pub rows_in_list : (n : ℕ) (t : List ℕ) (l : List A) (d : A) → length l ≡ n → ((i : ℕ) → i < n → row_at L t i ≡ get_or l i d) → rows_in L n t ≡ l
  unfolding rows_in
  rows_in_list n t l d e h = first_of_list l n (row_at L t) d e h

  pub rows_in_more : (n : ℕ) (t : List ℕ) → rows_in L (n + 1) t ≡ rows_in L n t ++ (row_at L t n ∷ [])
  unfolding rows_in
  rows_in_more n t = first_of_more n (row_at L t)

  pub length_put_row : (t : List ℕ) (i : ℕ) (a : A) → length (put_row L t i a) ≡ length t
  length_put_row t i a = length-sets t (i * L.width) (L.words a)

  pub put_same : (t : List ℕ) (i : ℕ) (a : A) → i * L.width + L.width ≤ length t → row_at L (put_row L t i a) i ≡ a
  unfolding row_at
  put_same t i a h =
      let e : length (L.words a) ≡ L.width = L.length_words a in
      L.read_same (λ j. get_or (put_row L t i a) (i * L.width + j) 0) (λ j. get_or (L.words a) j 0)
      (λ j l. get_or_sets_in (L.words a) t (i * L.width) j (omega arith) (omega arith))
      ∙ L.read_words a

  pub put_other : (t : List ℕ) (i j : ℕ) (a : A) → (j < i) ⊎ (i < j) → row_at L (put_row L t i a) j ≡ row_at L t j
  unfolding row_at
  put_other t i j a h = L.read_same (λ k. get_or (put_row L t i a) (j * L.width + k) 0) (λ k. get_or t (j * L.width + k) 0) (λ k l. word k l h)
    where
      word : (k : ℕ) → k < L.width → (j < i) ⊎ (i < j) → get_or (put_row L t i a) (j * L.width + k) 0 ≡ get_or t (j * L.width + k) 0
      word k l (inl b) =
          let r : j * L.width + L.width ≤ i * L.width = row_before L.width i j b in
          get_or_sets_before (L.words a) t (i * L.width) (j * L.width + k) (omega arith)
      word k l (inr b) =
          let r : i * L.width + L.width ≤ j * L.width = row_before L.width j i b in
          let e : length (L.words a) ≡ L.width = L.length_words a in
          get_or_sets_after (L.words a) t (i * L.width) (j * L.width + k) (omega arith)

  -- a row more
  pub put_more : (n : ℕ) (t : List ℕ) (a : A) → n * L.width + L.width ≤ length t → rows_in L (n + 1) (put_row L t n a) ≡ rows_in L n t ++ (a ∷ [])
  put_more n t a h =
      rows_in_more n (put_row L t n a)
      ∙ ap₂ (λ (l : List A) (x : A). l ++ x ∷ []) (rows_in_same n (put_row L t n a) t (λ i l. put_other t n i a (inl l))) (put_same t n a h)

  -- what stands behind the row stays
  pub drop_put_row : (t : List ℕ) (i n : ℕ) (a : A) → i < n → drop (n * L.width) (put_row L t i a) ≡ drop (n * L.width) t
  drop_put_row t i n a h =
      let r : i * L.width + L.width ≤ n * L.width = row_before L.width n i h in
      let e : length (L.words a) ≡ L.width = L.length_words a in
      drop_sets (L.words a) t (i * L.width) (n * L.width) (omega arith)

  -- ---- the words of the first rows

  pub row_words_lem : Exact L → (n : ℕ) (t : List ℕ) → n * L.width + L.width ≤ length t → take L.width (drop (n * L.width) t) ≡ L.words (row_at L t n)
  unfolding row_at
  row_words_lem x n t h =
      sym
      (x.words_read (λ j. get_or t (n * L.width + j) 0)
      ∙ first_of_list (take L.width (drop (n * L.width) t)) L.width (λ j. get_or t (n * L.width + j) 0) 0
      (length-take-le L.width (drop (n * L.width) t) (simp length-drop (omega arith)))
      (λ j l. sym (get_or-take L.width (drop (n * L.width) t) j 0 l ∙ get_or-drop (n * L.width) t j 0)))

  pub rows_in_words : Exact L → (n : ℕ) (t : List ℕ) → n * L.width ≤ length t → take (n * L.width) t ≡ each (rows_in L n t) L.words
  unfolding rows_in first_of each
  rows_in_words x zero t h = ap (λ (k : ℕ). take k t) (zero-mul L.width)
  rows_in_words x (suc n) t h =
      let e : suc n * L.width ≡ n * L.width + L.width = suc-mul n L.width in
      ap (λ (k : ℕ). take k t) e
      ∙ take-add (n * L.width) L.width t
      ∙ ap₂ ◌++◌ (rows_in_words x n t (omega arith)) (row_words_lem x n t (omega arith) ∙ sym (each_one (row_at L t n) L.words))
      ∙ sym (each_append (rows_in L n t) (row_at L t n ∷ []) L.words)

  -- a table that begins with a record has it as its row 0, and what follows as its later rows
  pub row_first : (a : A) (rest : List ℕ) → row_at L (L.words a ++ rest) 0 ≡ a
  unfolding row_at
  row_first a rest =
      let e : length (L.words a) ≡ L.width = L.length_words a in
      L.read_same (λ j. get_or (L.words a ++ rest) (0 * L.width + j) 0) (λ j. get_or (L.words a) j 0)
      (λ j l. ap (λ (k : ℕ). get_or (L.words a ++ rest) (k + j) 0) (zero-mul L.width)
      ∙ ap (λ (k : ℕ). get_or (L.words a ++ rest) k 0) (zero-add j) ∙ get_or-append (L.words a) rest 0 j (omega arith))
      ∙ L.read_words a

  pub row_later : (a : A) (rest : List ℕ) (i : ℕ) → row_at L (L.words a ++ rest) (suc i) ≡ row_at L rest i
  unfolding row_at
  row_later a rest i =
      let e : length (L.words a) ≡ L.width = L.length_words a in
      let m : suc i * L.width ≡ i * L.width + L.width = suc-mul i L.width in
      L.read_same (λ j. get_or (L.words a ++ rest) (suc i * L.width + j) 0) (λ j. get_or rest (i * L.width + j) 0)
      (λ j l. ap (λ (k : ℕ). get_or (L.words a ++ rest) k 0)
      (let z : suc i * L.width + j ≡ length (L.words a) + (i * L.width + j) = omega arith in z)
      ∙ get_or-append-add (L.words a) rest (i * L.width + j) 0)

  row_each : (l : List A) (rest : List ℕ) (i : ℕ) (d : A) → i < length l → row_at L (each l L.words ++ rest) i ≡ get_or l i d
  unfolding each
  row_each [] rest i d h = absurd (omega arith)
  row_each (x ∷ xs) rest zero d h =
      ap (λ (t : List ℕ). row_at L t 0) (append_assoc (L.words x) (each xs L.words) rest) ∙ row_first x (each xs L.words ++ rest)
  row_each (x ∷ xs) rest (suc i) d h =
      ap (λ (t : List ℕ). row_at L t (suc i)) (append_assoc (L.words x) (each xs L.words) rest)
      ∙ row_later x (each xs L.words ++ rest) i ∙ row_each xs rest i d (omega arith)

  -- a table that begins with the words of records holds them
  pub words_rows_in : (l : List A) (rest : List ℕ) → rows_in L (length l) (each l L.words ++ rest) ≡ l
  unfolding rows_in first_of
  words_rows_in [] rest = refl
  words_rows_in (x ∷ xs) rest =
      rows_in_list (length (x ∷ xs)) (each (x ∷ xs) L.words ++ rest) (x ∷ xs) x refl (λ i h. row_each (x ∷ xs) rest i x h)

  -- a table is the words of its first rows and what stands behind them
  pub rows_in_whole : Exact L → (n : ℕ) (t : List ℕ) → n * L.width ≤ length t → t ≡ each (rows_in L n t) L.words ++ drop (n * L.width) t
  rows_in_whole x n t h =
      sym (take-append-drop (n * L.width) t) ∙ ap (λ (ws : List ℕ). ws ++ drop (n * L.width) t) (rows_in_words x n t h)

  pub length_each_words : (l : List A) → length (each l L.words) ≡ length l * L.width
  unfolding each
  length_each_words [] = sym (zero-mul L.width)
  length_each_words (x ∷ xs) =
      let e : length (L.words x) ≡ L.width = L.length_words x in
      let h : length (each xs L.words) ≡ length xs * L.width = length_each_words xs in
      let m : suc (length xs) * L.width ≡ length xs * L.width + L.width = suc-mul (length xs) L.width in
      length-append (L.words x) (each xs L.words) ∙ (let z : length (L.words x) + length (each xs L.words) ≡ suc (length xs) * L.width = omega arith in z)
