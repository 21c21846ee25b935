-- What holds of cells in words: the cell that is written is there, and the others are kept.
-- Assumes nothing.
use Prim.Native.Nat.{ℕ, zero, suc, ◌+◌, ◌*◌, ◌<◌, ◌≤◌}
use Rattle.std.specs.Prelude.{true, false, ◌≡◌, refl, take, drop, set, eqb, ltb}
use Rattle.std.proofs.Math.Path.{ap, sym, fun_ext}
use Rattle.std.proofs.Common.{ap₂, ◌∙◌, add-zero, length-append, length-take, length-drop, drop-drop, get_or-take, get_or-drop}
use mathlib.Core.List.{List, [], ◌∷◌, ◌++◌, append_assoc}
use native.Mathlib.Omega.{arith}
use Rattle.std.proofs.Math.ListN.{length, get_or, length-set, get_or-replicate, get_or-append, get_or-eq_default}
use Rattle.std.proofs.lemmas.List.Edits.{sets, sets-eq}
use Rattle.std.proofs.Math.Seq.{length-sets, get_or-set_same, get_or-set_other, get_or-append-add}
use borrow.Author.Tests.{ne_eqb, eqb-true, eqb-false, ltb-true, ltb-false}
use Rattle.words.specs.Lists.{zeros}
use Rattle.words.specs.Lists.Laws.{length_zeros}
use Rattle.words.specs.Laws.Tests.{by_test}
use Rattle.walks.specs.Cell as walks
use Rattle.walks.specs.Guide.{Guided, no_guided}
use Rattle.cell_memory.specs.declared.Cell.{Cell}
use Rattle.cell_memory.specs.declared.Cell.TheVariants.{Empty1, Symbol, Empty2, Above}
use Rattle.cell_memory.specs.Memory.{cell_of, value_of, of_kind, cell_in, choices_in, choice_in, guided_cell, guided_in, fields, with_cell, with_choice, with_choices}

-- ---- cells by value

pub value_of_cell_of : (c : Cell) → value_of (cell_of c) ≡ c
unfolding value_of cell_of
value_of_cell_of Empty1 = refl
value_of_cell_of (Symbol a u s) = refl
value_of_cell_of Empty2 = refl
value_of_cell_of (Above w t) = refl

pub cell_of_value_of : (c : walks.Cell) → cell_of (value_of c) ≡ c
unfolding value_of cell_of
cell_of_value_of walks.empty1 = refl
cell_of_value_of (walks.symbol a u s) = refl
cell_of_value_of walks.empty2 = refl
cell_of_value_of (walks.above w t) = refl

-- ---- a run of words that is written

pub get_or_before : (vs ws : List ℕ) (at j : ℕ) → j < at → get_or (sets ws at vs) j 0 ≡ get_or ws j 0
get_or_before [] ws at j h = refl
get_or_before (v ∷ vs) ws at j h =
    let n : j ≡ at → ⊥ = omega arith in
    get_or_before vs (set ws at v) (suc at) j (omega arith) ∙ get_or-set_other ws at j v 0 n

pub get_or_within : (vs ws : List ℕ) (at j : ℕ) → at + length vs ≤ length ws → j < length vs → get_or (sets ws at vs) (at + j) 0 ≡ get_or vs j 0
get_or_within [] ws at j h l = absurd (omega arith)
get_or_within (v ∷ vs) ws at zero h l =
    ap (λ (k : ℕ). get_or (sets (set ws at v) (suc at) vs) k 0) (add-zero at)
    ∙ get_or_before vs (set ws at v) (suc at) at (omega arith) ∙ get_or-set_same ws at v 0 (omega arith)
get_or_within (v ∷ vs) ws at (suc j) h l =
    let e : at + suc j ≡ suc at + j = omega arith in
    ap (λ (k : ℕ). get_or (sets (set ws at v) (suc at) vs) k 0) e
    ∙ get_or_within vs (set ws at v) (suc at) j (simp length-set (omega arith)) (omega arith)

pub get_or_after : (vs ws : List ℕ) (at j : ℕ) → at + length vs ≤ j → get_or (sets ws at vs) j 0 ≡ get_or ws j 0
get_or_after [] ws at j h = refl
get_or_after (v ∷ vs) ws at j h =
    let n : j ≡ at → ⊥ = omega arith in
    get_or_after vs (set ws at v) (suc at) j (omega arith) ∙ get_or-set_other ws at j v 0 n

-- ---- the choices of a cell

pub choice_in_below : (ws : List ℕ) (i q : ℕ) → q < 64 → choice_in ws i q ≡ get_or ws (i * 68 + 4 + q) 0
unfolding choice_in choices_in
choice_in_below ws i q h = get_or-take 64 (drop (i * 68 + 4) ws) q 0 h ∙ get_or-drop (i * 68 + 4) ws q 0

pub choice_in_past : (ws : List ℕ) (i q : ℕ) → 64 ≤ q → choice_in ws i q ≡ 0
unfolding choice_in choices_in
choice_in_past ws i q h = get_or-eq_default (choices_in ws i) 0 (simp length-take (omega arith))

-- two functions that agree below 64 and are 0 from there on
by_choice : (f g : ℕ → ℕ) → ((q : ℕ) → q < 64 → f q ≡ g q) → ((q : ℕ) → 64 ≤ q → f q ≡ g q) → f ≡ g
by_choice f g below past = fun_ext λ q. by_test (ltb q 64) (λ e. below q (ltb-true q 64 e)) (λ e. past q (ltb-false q 64 e))

pub choices_eq : (ws : List ℕ) (i : ℕ) (f : ℕ → ℕ) → ((q : ℕ) → q < 64 → get_or ws (i * 68 + 4 + q) 0 ≡ f q) → ((q : ℕ) → 64 ≤ q → f q ≡ 0) → choice_in ws i ≡ f
choices_eq ws i f below past = by_choice (choice_in ws i) f (λ q h. choice_in_below ws i q h ∙ below q h) (λ q h. choice_in_past ws i q h ∙ sym (past q h))

-- ---- the cells of two memories

guided_eq : (ws vs : List ℕ) (i : ℕ) → cell_in ws i ≡ cell_in vs i → choice_in ws i ≡ choice_in vs i → guided_cell ws i ≡ guided_cell vs i
unfolding guided_cell
guided_eq ws vs i e f = λ k. record { cell = cell_of (e k); choice = f k }

cell_in_eq : (ws vs : List ℕ) (i : ℕ) → ((k : ℕ) → k < 4 → get_or ws (i * 68 + k) 0 ≡ get_or vs (i * 68 + k) 0) → cell_in ws i ≡ cell_in vs i
unfolding cell_in
cell_in_eq ws vs i h =
    let z : get_or ws (i * 68) 0 ≡ get_or vs (i * 68) 0 =
    ap (λ (k : ℕ). get_or ws k 0) (sym (add-zero (i * 68))) ∙ h 0 (omega arith) ∙ ap (λ (k : ℕ). get_or vs k 0) (add-zero (i * 68)) in
    λ k. of_kind (z k) (h 1 (omega arith) k) (h 2 (omega arith) k) (h 3 (omega arith) k)

-- a cell is the same where its 68 words are
pub guided_cell_same : (ws vs : List ℕ) (i : ℕ) → ((j : ℕ) → i * 68 ≤ j → j < i * 68 + 68 → get_or ws j 0 ≡ get_or vs j 0) → guided_cell ws i ≡ guided_cell vs i
guided_cell_same ws vs i h =
    guided_eq ws vs i
    (cell_in_eq ws vs i λ k l. h (i * 68 + k) (omega arith) (omega arith))
    (choices_eq ws i (choice_in vs i)
    (λ q l. h (i * 68 + 4 + q) (omega arith) (omega arith) ∙ sym (choice_in_below vs i q l))
    (λ q l. choice_in_past vs i q l))

pub guided_in_same : (n : ℕ) (ws vs : List ℕ) → ((i : ℕ) → i < n → guided_cell ws i ≡ guided_cell vs i) → guided_in n ws ≡ guided_in n vs
unfolding guided_in
guided_in_same zero ws vs h = refl
guided_in_same (suc n) ws vs h =
    ap₂ (λ (l : List Guided) (g : Guided). l ++ (g ∷ [])) (guided_in_same n ws vs (λ i l. h i (omega arith))) (h n (omega arith))

pub length_guided_in : (n : ℕ) (ws : List ℕ) → length (guided_in n ws) ≡ n
unfolding guided_in
length_guided_in zero ws = refl
length_guided_in (suc n) ws =
    let h : length (guided_in n ws) ≡ n = length_guided_in n ws in
    length-append (guided_in n ws) (guided_cell ws n ∷ []) ∙ omega arith

-- cell i of the first n
pub guided_in_at : (n : ℕ) (ws : List ℕ) (i : ℕ) → i < n → get_or (guided_in n ws) i no_guided ≡ guided_cell ws i
unfolding guided_in
guided_in_at zero ws i h = absurd (omega arith)
guided_in_at (suc n) ws i h =
    let l : length (guided_in n ws) ≡ n = length_guided_in n ws in
    by_test (ltb i n)
    (λ e. get_or-append (guided_in n ws) (guided_cell ws n ∷ []) no_guided i (omega (arith, ltb-true i n e)) ∙ guided_in_at n ws i (ltb-true i n e))
    (λ e.
    let z : i ≡ n = omega (arith, ltb-false i n e) in
    let p : i ≡ length (guided_in n ws) + 0 = omega arith in
    ap (λ (k : ℕ). get_or (guided_in (suc n) ws) k no_guided) p
    ∙ get_or-append-add (guided_in n ws) (guided_cell ws n ∷ []) 0 no_guided ∙ ap (guided_cell ws) (sym z))

pub guided_in_past : (n : ℕ) (ws : List ℕ) (i : ℕ) → n ≤ i → get_or (guided_in n ws) i no_guided ≡ no_guided
guided_in_past n ws i h = get_or-eq_default (guided_in n ws) no_guided (simp length_guided_in h)

-- ---- a cell that is written

pub fields_length : (c : Cell) → length (fields c) ≡ 4
unfolding fields
fields_length Empty1 = refl
fields_length (Symbol a u s) = refl
fields_length Empty2 = refl
fields_length (Above w t) = refl

-- a cell by value is read as it was written
fields_read : (c : Cell) → of_kind (get_or (fields c) 0 0) (get_or (fields c) 1 0) (get_or (fields c) 2 0) (get_or (fields c) 3 0) ≡ c
unfolding fields of_kind
fields_read Empty1 = refl
fields_read (Symbol a u s) = refl
fields_read Empty2 = refl
fields_read (Above w t) = refl

written_length : (c : Cell) → length (fields c ++ zeros 64) ≡ 68
written_length c = length-append (fields c) (zeros 64) ∙ ap₂ ◌+◌ (fields_length c) (length_zeros 64)

module _ (ws : List ℕ) (i : ℕ) (c : Cell) where
  pub length_with_cell : length (with_cell ws i c) ≡ length ws
  unfolding with_cell
  length_with_cell = length-sets ws (i * 68) (fields c ++ zeros 64)

  pub with_cell_other : (j : ℕ) → (j ≡ i → ⊥) → guided_cell (with_cell ws i c) j ≡ guided_cell ws j
  unfolding with_cell
  with_cell_other j n =
      let l : length (fields c ++ zeros 64) ≡ 68 = written_length c in
      guided_cell_same (with_cell ws i c) ws j λ k h h'. by_test (ltb k (i * 68))
      (λ e. get_or_before (fields c ++ zeros 64) ws (i * 68) k (ltb-true k (i * 68) e))
      (λ e. get_or_after (fields c ++ zeros 64) ws (i * 68) k (omega (arith, ltb-false k (i * 68) e)))

  pub with_cell_guided : i * 68 + 68 ≤ length ws → guided_cell (with_cell ws i c) i ≡ record { cell = cell_of c; choice = λ q. 0 }
  unfolding with_cell guided_cell cell_in
  with_cell_guided fits =
      let vs : List ℕ = fields c ++ zeros 64 in
      let l : length (fields c ++ zeros 64) ≡ 68 = written_length c in
      let f : length (fields c) ≡ 4 = fields_length c in
      let at : (k : ℕ) → k < 4 → get_or (sets ws (i * 68) vs) (i * 68 + k) 0 ≡ get_or (fields c) k 0 =
      λ k h. get_or_within vs ws (i * 68) k (omega arith) (omega arith) ∙ get_or-append (fields c) (zeros 64) 0 k (omega arith) in
      let at₀ : get_or (sets ws (i * 68) vs) (i * 68) 0 ≡ get_or (fields c) 0 0 =
      ap (λ (k : ℕ). get_or (sets ws (i * 68) vs) k 0) (sym (add-zero (i * 68))) ∙ at 0 (omega arith) in
      let cell : cell_in (sets ws (i * 68) vs) i ≡ c =
      (λ k. of_kind (at₀ k) (at 1 (omega arith) k) (at 2 (omega arith) k) (at 3 (omega arith) k)) ∙ fields_read c in
      let choice : choice_in (sets ws (i * 68) vs) i ≡ (λ q. 0) =
      choices_eq (sets ws (i * 68) vs) i (λ q. 0)
      (λ q h.
      let e : i * 68 + 4 + q ≡ i * 68 + (length (fields c) + q) = omega arith in
      ap (λ (k : ℕ). get_or (sets ws (i * 68) vs) k 0) e
      ∙ get_or_within vs ws (i * 68) (length (fields c) + q) (omega arith) (omega arith)
      ∙ get_or-append-add (fields c) (zeros 64) q 0 ∙ get_or-replicate 64 q 0 0 h)
      (λ q h. refl) in
      λ k. record { cell = cell_of (cell k); choice = choice k }

-- ---- choices that are written

module _ (ws : List ℕ) (i : ℕ) (ns : List ℕ) (all : length ns ≡ 64) where
  pub length_with_choices : length (with_choices ws i ns) ≡ length ws
  unfolding with_choices
  length_with_choices = length-sets ws (i * 68 + 4) ns

  pub with_choices_other : (j : ℕ) → (j ≡ i → ⊥) → guided_cell (with_choices ws i ns) j ≡ guided_cell ws j
  unfolding with_choices
  with_choices_other j n =
      guided_cell_same (with_choices ws i ns) ws j λ k h h'. by_test (ltb k (i * 68 + 4))
      (λ e. get_or_before ns ws (i * 68 + 4) k (ltb-true k (i * 68 + 4) e))
      (λ e. get_or_after ns ws (i * 68 + 4) k (omega (arith, ltb-false k (i * 68 + 4) e)))

  pub with_choices_guided : i * 68 + 68 ≤ length ws → guided_cell (with_choices ws i ns) i ≡ record { cell = (guided_cell ws i).cell; choice = λ q. get_or ns q 0 }
  unfolding with_choices guided_cell
  with_choices_guided fits =
      let cell : cell_in (sets ws (i * 68 + 4) ns) i ≡ cell_in ws i =
      cell_in_eq (sets ws (i * 68 + 4) ns) ws i λ k h. get_or_before ns ws (i * 68 + 4) (i * 68 + k) (omega arith) in
      let choice : choice_in (sets ws (i * 68 + 4) ns) i ≡ (λ q. get_or ns q 0) =
      choices_eq (sets ws (i * 68 + 4) ns) i (λ q. get_or ns q 0)
      (λ q h. get_or_within ns ws (i * 68 + 4) q (omega arith) (omega arith))
      (λ q h. get_or-eq_default ns 0 (omega arith)) in
      λ k. record { cell = cell_of (cell k); choice = choice k }

-- the choice f with n for state q
unfoldable pub choosing : ℕ → ℕ → (ℕ → ℕ) → ℕ → ℕ
choosing q n f x = elim (eqb q x) [ true ↦ n | false ↦ f x ]

module _ (ws : List ℕ) (i q n : ℕ) (state : q < 64) where
  pub length_with_choice : length (with_choice ws i q n) ≡ length ws
  unfolding with_choice
  length_with_choice = length-set ws (i * 68 + 4 + q) n

  pub with_choice_other : (j : ℕ) → (j ≡ i → ⊥) → guided_cell (with_choice ws i q n) j ≡ guided_cell ws j
  unfolding with_choice
  with_choice_other j m =
      guided_cell_same (with_choice ws i q n) ws j λ k h h'.
      let d : k ≡ i * 68 + 4 + q → ⊥ = omega arith in
      get_or-set_other ws (i * 68 + 4 + q) k n 0 d

  choosing_is : i * 68 + 68 ≤ length ws → (x : ℕ) → x < 64 → get_or (set ws (i * 68 + 4 + q) n) (i * 68 + 4 + x) 0 ≡ choosing q n (choice_in ws i) x
  unfolding choosing
  choosing_is fits x h = by_test (eqb q x)
      (λ e.
      let z : i * 68 + 4 + x ≡ i * 68 + 4 + q = omega (arith, eqb-true q x e) in
      ap (λ (k : ℕ). get_or (set ws (i * 68 + 4 + q) n) k 0) z
      ∙ get_or-set_same ws (i * 68 + 4 + q) n 0 (omega arith) ∙ rw (choosing, e))
      (λ e.
      let m : q ≡ x → ⊥ = eqb-false q x e in
      let d : i * 68 + 4 + x ≡ i * 68 + 4 + q → ⊥ = λ z. m (omega arith) in
      get_or-set_other ws (i * 68 + 4 + q) (i * 68 + 4 + x) n 0 d ∙ sym (choice_in_below ws i x h) ∙ rw (choosing, e))

  pub with_choice_guided : i * 68 + 68 ≤ length ws
      → guided_cell (with_choice ws i q n) i ≡ record { cell = (guided_cell ws i).cell; choice = choosing q n (guided_cell ws i).choice }
  unfolding with_choice guided_cell choosing
  with_choice_guided fits =
      let cell : cell_in (set ws (i * 68 + 4 + q) n) i ≡ cell_in ws i =
      cell_in_eq (set ws (i * 68 + 4 + q) n) ws i λ k h.
      let d : i * 68 + k ≡ i * 68 + 4 + q → ⊥ = omega arith in
      get_or-set_other ws (i * 68 + 4 + q) (i * 68 + k) n 0 d in
      let choice : choice_in (set ws (i * 68 + 4 + q) n) i ≡ choosing q n (choice_in ws i) =
      choices_eq (set ws (i * 68 + 4 + q) n) i (choosing q n (choice_in ws i)) (choosing_is fits)
      (λ x h.
      let d : q ≡ x → ⊥ = omega arith in
      rw (choosing, ne_eqb q x d) (choice_in_past ws i x h)) in
      λ k. record { cell = cell_of (cell k); choice = choice k }

-- ---- a cell that is read, by its kind

module _ (ws : List ℕ) (i : ℕ) where
  pub cell_in_symbol : get_or ws (i * 68) 0 ≡ 2 → cell_in ws i ≡ Symbol (get_or ws (i * 68 + 1) 0) (get_or ws (i * 68 + 2) 0) (get_or ws (i * 68 + 3) 0)
  unfolding cell_in of_kind
  cell_in_symbol e = ap (λ (k : ℕ). of_kind k (get_or ws (i * 68 + 1) 0) (get_or ws (i * 68 + 2) 0) (get_or ws (i * 68 + 3) 0)) e

  pub cell_in_empty2 : get_or ws (i * 68) 0 ≡ 3 → cell_in ws i ≡ Empty2
  unfolding cell_in of_kind
  cell_in_empty2 e = ap (λ (k : ℕ). of_kind k (get_or ws (i * 68 + 1) 0) (get_or ws (i * 68 + 2) 0) (get_or ws (i * 68 + 3) 0)) e

  pub cell_in_above : get_or ws (i * 68) 0 ≡ 4 → cell_in ws i ≡ Above (get_or ws (i * 68 + 2) 0) (get_or ws (i * 68 + 3) 0)
  unfolding cell_in of_kind
  cell_in_above e = ap (λ (k : ℕ). of_kind k (get_or ws (i * 68 + 1) 0) (get_or ws (i * 68 + 2) 0) (get_or ws (i * 68 + 3) 0)) e

  pub cell_in_empty1 : (get_or ws (i * 68) 0 ≡ 2 → ⊥) → (get_or ws (i * 68) 0 ≡ 3 → ⊥) → (get_or ws (i * 68) 0 ≡ 4 → ⊥) → cell_in ws i ≡ Empty1
  unfolding cell_in of_kind
  cell_in_empty1 e f g = rw (of_kind, ne_eqb _ _ e, ne_eqb _ _ f, ne_eqb _ _ g)

-- ---- a part is written over

pub part_put : (ws part : List ℕ) (at n : ℕ) → n ≡ length part → at + length part ≤ length ws → take at ws ++ (part ++ drop n (drop at ws)) ≡ sets ws at part
part_put ws part at n e fits =
    let d : at + n ≡ at + length part = omega arith in
    ap (λ (r : List ℕ). take at ws ++ (part ++ r)) (drop-drop n at ws ∙ ap (λ (k : ℕ). drop k ws) d)
    ∙ sym (append_assoc (take at ws) part (drop (at + length part) ws))
    ∙ sym (sets-eq part ws at fits)

-- ---- a cell's fields are written, and then 64 zeros

sets_append : (vs ns l : List ℕ) (i : ℕ) → sets l i (vs ++ ns) ≡ sets (sets l i vs) (i + length vs) ns
sets_append [] ns l i = ap (λ (k : ℕ). sets l k ns) (sym (add-zero i))
sets_append (v ∷ vs) ns l i =
    let e : suc i + length vs ≡ i + suc (length vs) = omega arith in
    sets_append vs ns (set l i v) (suc i) ∙ ap (λ (k : ℕ). sets (sets (set l i v) (suc i) vs) k ns) e

-- part over the n words from `at` on
abbrev pub over : List ℕ → ℕ → ℕ → List ℕ → List ℕ
over ws at n part = take at ws ++ (part ++ drop n (drop at ws))

pub put_is : (ws part blank : List ℕ) (at n m : ℕ) (c : Cell) → at + 68 ≤ length ws → n ≡ 4 → m ≡ 64 → part ≡ fields c
    → blank ≡ zeros (length (take m (drop (at + 4) (over ws at n part)))) → over (over ws at n part) (at + 4) m blank ≡ sets ws at (fields c ++ zeros 64)
put_is ws part blank at n m c fits sn sm e z =
    let f : length (fields c) ≡ 4 = fields_length c in
    let l : length part ≡ 4 = ap length e ∙ f in
    let first : over ws at n part ≡ sets ws at part = part_put ws part at n (omega arith) (omega arith) in
    let long : length (sets ws at part) ≡ length ws = length-sets ws at part in
    let count : length (take m (drop (at + 4) (sets ws at part))) ≡ 64 = simp (length-take, length-drop) (omega arith) in
    let blank_is : blank ≡ zeros 64 = z ∙ ap (λ (t : List ℕ). zeros (length (take m (drop (at + 4) t)))) first ∙ ap zeros count in
    let len : length blank ≡ 64 = ap length blank_is ∙ length_zeros 64 in
    let at_end : at + 4 ≡ at + length (fields c) = omega arith in
    ap (λ (t : List ℕ). over t (at + 4) m blank) first
    ∙ part_put (sets ws at part) blank (at + 4) m (omega arith) (omega arith)
    ∙ ap₂ (λ (x y : List ℕ). sets (sets ws at x) (at + 4) y) e blank_is
    ∙ ap (λ (k : ℕ). sets (sets ws at (fields c)) k (zeros 64)) at_end
    ∙ sym (sets_append (fields c) (zeros 64) ws at)
