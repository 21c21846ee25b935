-- What holds of cells and choices that are written one after another: the cells before them are kept, and these follow.
-- Assumes nothing.
use Prim.Native.Nat.{ℕ, zero, suc, ◌+◌, ◌*◌, ◌-◌, ◌^◌, ◌<◌, ◌≤◌}
use Rattle.std.specs.Prelude.{◌≡◌, get_or, drop}
use Rattle.std.proofs.Math.Path.{refl, ap, ap₂, sym}
use Rattle.std.proofs.Common.{◌∙◌, add-zero, add-one, get_or-take, get_or-drop}
use mathlib.Core.List.{List, [], ◌∷◌, ◌++◌, map, zip_with, append-nil, append_assoc}
use native.Mathlib.Omega.{arith}
use Rattle.std.proofs.Math.ListN.{length, take, get_or-append}
use Rattle.std.proofs.Math.Seq.{length-take-le, take-suc, take-length}
use Rattle.stacks.specs.Stack as Stack
use Rattle.stacks.specs.Stack.{rewrite, push1, push2, copy, pop1, pop2, collapse1, collapse2, new_cells}
use Rattle.stacks.specs.System.{Rule}
use Rattle.files.specs.Case.{operation_of, rule_bytes, rule_of}
use Rattle.bytes_in.specs.Records.{record_at}
use Rattle.walks.specs.Cell as walks
use Rattle.walks.specs.Cell.{cells_after, root_after}
use Rattle.walks.specs.Cell.Laws.{length_cells_after}
use Rattle.walks.specs.Guide.{Guided, chooses}
use Rattle.case_records.specs.declared.Operation.{Operation}
use Rattle.case_records.specs.Values.{the_operation}
use Rattle.cell_memory.specs.Memory.{cell_of, value_of, guided_cell, guided_in, with_cell}
use Rattle.cell_memory.specs.Memory.Laws.{cell_of_value_of, guided_in_same, choosing, length_with_cell, with_cell_other, with_cell_guided, length_with_choice, with_choice_other, with_choice_guided, length_with_choices, with_choices_other, with_choices_guided}
use Rattle.cell_steps.specs.Steps.{put_from, put_cell, with_cells, cell_number, CellsPut, symbol_of, CellChoices, one, all, choice_of, with_chosen, with_all_chosen, step_chosen, step_choices, plain, guided_by}

-- ---- cells from a number on

-- the k cells from number n on
unfoldable guided_from : ℕ → ℕ → List ℕ → List Guided
guided_from n zero ws = []
guided_from n (suc k) ws = guided_cell ws n ∷ guided_from (n + 1) k ws

guided_in_from : (n k : ℕ) (ws : List ℕ) → guided_in (n + k) ws ≡ guided_in n ws ++ guided_from n k ws
unfolding guided_from guided_in
guided_in_from n zero ws = ap (λ (i : ℕ). guided_in i ws) (add-zero n) ∙ sym (append-nil (guided_in n ws))
guided_in_from n (suc k) ws =
    let e : n + suc k ≡ n + 1 + k = omega arith in
    ap (λ (i : ℕ). guided_in i ws) e ∙ guided_in_from (n + 1) k ws
    ∙ ap (λ (i : ℕ). guided_in i ws ++ guided_from (n + 1) k ws) (add-one n)
    ∙ append_assoc (guided_in n ws) (guided_cell ws n ∷ []) (guided_from (n + 1) k ws)

guided_from_same : (n k : ℕ) (ws vs : List ℕ) → ((i : ℕ) → n ≤ i → guided_cell ws i ≡ guided_cell vs i) → guided_from n k ws ≡ guided_from n k vs
unfolding guided_from
guided_from_same n zero ws vs h = refl
guided_from_same n (suc k) ws vs h = ap₂ ◌∷◌ (h n (omega arith)) (guided_from_same (n + 1) k ws vs λ i l. h i (omega arith))

-- ---- words that are written one after another

-- each of the list fits
abbrev pub AllFit : {X : Type 0} → (X → Type 0) → List X → Type 0
AllFit ChoicesFit [] = Unit {0}
AllFit ChoicesFit (x ∷ xs) = ChoicesFit x × AllFit ChoicesFit xs

module _ {X : Type 0} (put : List ℕ → ℕ → X → List ℕ) where
  put_from_append : (xs ys : List X) (ws : List ℕ) (n : ℕ) → put_from put ws n (xs ++ ys) ≡ put_from put (put_from put ws n xs) (n + length xs) ys
  unfolding put_from
  put_from_append [] ys ws n = ap (λ (i : ℕ). put_from put ws i ys) (sym (add-zero n))
  put_from_append (x ∷ xs) ys ws n =
      let e : n + 1 + length xs ≡ n + suc (length xs) = omega arith in
      put_from_append xs ys (put ws n x) (n + 1) ∙ ap (λ (i : ℕ). put_from put (put_from put (put ws n x) (n + 1) xs) i ys) e

  -- one is written
  pub put_one : {us : List ℕ} (ws : List ℕ) (n : ℕ) (x : X) → us ≡ put ws n x → us ≡ put_from put ws n (x ∷ [])
  unfolding put_from
  put_one ws n x e = e

  -- one is written, and then more
  pub put_then : {vs us : List ℕ} (ws : List ℕ) (n : ℕ) (x : X) (xs : List X) → vs ≡ put ws n x → us ≡ put_from put vs (n + 1) xs
      → us ≡ put_from put ws n (x ∷ xs)
  unfolding put_from
  put_then ws n x xs e f = f ∙ ap (λ (l : List ℕ). put_from put l (n + 1) xs) e

  -- some are written, and then more
  pub put_more : {vs us : List ℕ} (ws : List ℕ) (n : ℕ) (xs ys : List X) → vs ≡ put_from put ws n xs → us ≡ put_from put vs (n + length xs) ys
      → us ≡ put_from put ws n (xs ++ ys)
  put_more ws n xs ys e f = f ∙ ap (λ (l : List ℕ). put_from put l (n + length xs) ys) e ∙ sym (put_from_append xs ys ws n)

  -- where what is written for one cell keeps the others, the cells before are kept
  put_from_before : (ChoicesFit : X → Type 0)
      → ((ws : List ℕ) (n : ℕ) (x : X) → ChoicesFit x → (i : ℕ) → (i ≡ n → ⊥) → guided_cell (put ws n x) i ≡ guided_cell ws i)
      → (xs : List X) → AllFit ChoicesFit xs → (ws : List ℕ) (n i : ℕ) → i < n → guided_cell (put_from put ws n xs) i ≡ guided_cell ws i
  unfolding put_from
  put_from_before ChoicesFit other [] h ws n i l = refl
  put_from_before ChoicesFit other (x ∷ xs) h ws n i l =
      let d : i ≡ n → ⊥ = omega arith in
      put_from_before ChoicesFit other xs h.1 (put ws n x) (n + 1) i (omega arith) ∙ other ws n x h.0 i d

-- ---- cells one after another

module _ (put : List ℕ → ℕ → walks.Cell → List ℕ) where
  pub cells_none : (ws : List ℕ) (n : ℕ) (cs : List walks.Cell) → CellsPut put ws n cs 0 ws
  unfolding put_from
  cells_none ws n cs = record { within = omega arith; is = refl }

  cells_next : {ws us vs : List ℕ} {n : ℕ} {cs : List walks.Cell} {i : ℕ} {c : walks.Cell} → CellsPut put ws n cs i us → i < length cs
      → c ≡ cell_number cs i → vs ≡ put us (n + i) c → CellsPut put ws n cs (i + 1) vs
  unfolding put_from cell_number
  cells_next {ws} {us} {vs} {n} {cs} {i} {c} h l e f =
      let k : length (take i cs) ≡ i = length-take-le i cs h.within in
      let g : vs ≡ put us (n + length (take i cs)) (get_or cs i walks.empty1) = f ∙ λ j. put us (n + sym k j) (e j) in
      record {
        within = omega arith;
        is = put_more put ws n (take i cs) (get_or cs i walks.empty1 ∷ []) h.is g
            ∙ ap (put_from put ws n) (sym (ap (λ (m : ℕ). take m cs) (add-one i) ∙ take-suc cs i walks.empty1 l));
      }

  cells_all : {ws us : List ℕ} {n : ℕ} {cs : List walks.Cell} {i : ℕ} → CellsPut put ws n cs i us → length cs ≤ i → us ≡ put_from put ws n cs
  cells_all {ws} {us} {n} {cs} {i} h l =
      let e : i ≡ length cs = omega (arith, h.within) in
      h.is ∙ ap (put_from put ws n) (ap (λ (k : ℕ). take k cs) e ∙ take-length cs)

  -- of an operation
  module _ (op : Stack.Operation) {ws us : List ℕ} (n a u s t : ℕ) {i : ℕ} (h : CellsPut put ws n (cells_after op n a u s t) i us) where
    pub step_next : {vs : List ℕ} {c : walks.Cell} → i < new_cells op → c ≡ cell_number (cells_after op n a u s t) i → vs ≡ put us (n + i) c
        → CellsPut put ws n (cells_after op n a u s t) (i + 1) vs
    step_next l e f = let k : length (cells_after op n a u s t) ≡ new_cells op = length_cells_after op n a u s t in cells_next h (omega arith) e f

    pub step_all : new_cells op ≤ i → us ≡ put_from put ws n (cells_after op n a u s t)
    step_all l = let k : length (cells_after op n a u s t) ≡ new_cells op = length_cells_after op n a u s t in cells_all h (omega arith)

-- ---- cells

length_with_cells : (cs : List walks.Cell) (ws : List ℕ) (n : ℕ) → length (with_cells ws n cs) ≡ length ws
unfolding put_from
length_with_cells [] ws n = refl
length_with_cells (c ∷ cs) ws n = length_with_cells cs (with_cell ws n (value_of c)) (n + 1) ∙ length_with_cell ws n (value_of c)

all_fit : (cs : List walks.Cell) → AllFit (λ (c : walks.Cell). Unit {0}) cs
all_fit [] = tt
all_fit (c ∷ cs) = (tt, all_fit cs)

with_cells_before : (cs : List walks.Cell) (ws : List ℕ) (n i : ℕ) → i < n → guided_cell (with_cells ws n cs) i ≡ guided_cell ws i
with_cells_before cs =
    put_from_before put_cell (λ c. Unit {0}) (λ ws n c h i d. with_cell_other ws n (value_of c) i d) cs (all_fit cs)

cells_plain : (cs : List walks.Cell) (ws : List ℕ) (n : ℕ) → (n + length cs) * 68 ≤ length ws → guided_from n (length cs) (with_cells ws n cs) ≡ map plain cs
unfolding put_from guided_from
cells_plain [] ws n h = refl
cells_plain (c ∷ cs) ws n h =
    let l : length (with_cell ws n (value_of c)) ≡ length ws = length_with_cell ws n (value_of c) in
    let g : guided_cell (with_cell ws n (value_of c)) n ≡ plain (cell_of (value_of c)) = with_cell_guided ws n (value_of c) (omega arith) in
    ap₂ ◌∷◌
    (with_cells_before cs (with_cell ws n (value_of c)) (n + 1) n (omega arith) ∙ g ∙ ap plain (cell_of_value_of c))
    (cells_plain cs (with_cell ws n (value_of c)) (n + 1) (omega arith))

-- ---- choices

-- the state exists, or there is a number for each state
abbrev pub ChoicesFit : CellChoices → Type 0
ChoicesFit (one q n) = q < 64
ChoicesFit (all ns) = length ns ≡ 64

length_with_chosen : (ws : List ℕ) (n : ℕ) (f : CellChoices) → ChoicesFit f → length (with_chosen ws n f) ≡ length ws
unfolding with_chosen
length_with_chosen ws n (one q k) h = length_with_choice ws n q k h
length_with_chosen ws n (all ns) h = length_with_choices ws n ns h

with_chosen_other : (ws : List ℕ) (n : ℕ) (f : CellChoices) → ChoicesFit f → (i : ℕ) → (i ≡ n → ⊥) → guided_cell (with_chosen ws n f) i ≡ guided_cell ws i
unfolding with_chosen
with_chosen_other ws n (one q k) h i d = with_choice_other ws n q k h i d
with_chosen_other ws n (all ns) h i d = with_choices_other ws n ns h i d

with_chosen_guided : (ws : List ℕ) (n : ℕ) (f : CellChoices) → ChoicesFit f → n * 68 + 68 ≤ length ws → {c : walks.Cell} → guided_cell ws n ≡ plain c
    → guided_cell (with_chosen ws n f) n ≡ record { cell = c; choice = choice_of f }
unfolding with_chosen choice_of choosing chooses
with_chosen_guided ws n (one q k) h l g =
    with_choice_guided ws n q k h l ∙ λ i. record { cell = (g i).cell; choice = choosing q k (g i).choice }
with_chosen_guided ws n (all ns) h l g = with_choices_guided ws n ns h l ∙ λ i. record { cell = (g i).cell; choice = λ q. get_or ns q 0 }

-- cells that have no choices have those that are written
chosen_guided : (fs : List CellChoices) (cs : List walks.Cell) (ws : List ℕ) (n : ℕ) → AllFit ChoicesFit fs → length fs ≡ length cs → (n + length cs) * 68 ≤ length ws
    → guided_from n (length cs) ws ≡ map plain cs → guided_from n (length cs) (with_all_chosen ws n fs) ≡ guided_by cs (map choice_of fs)
unfolding put_from guided_from zip_with
chosen_guided [] [] ws n h e l g = refl
chosen_guided [] (c ∷ cs) ws n h e l g = absurd (omega arith)
chosen_guided (f ∷ fs) [] ws n h e l g = absurd (omega arith)
chosen_guided (f ∷ fs) (c ∷ cs) ws n h e l g =
    let first : guided_cell ws n ≡ plain c = cc in
    let rest : guided_from (n + 1) (length cs) ws ≡ map plain cs = cc in
    let size : length (with_chosen ws n f) ≡ length ws = length_with_chosen ws n f h.0 in
    let kept : guided_from (n + 1) (length cs) (with_chosen ws n f) ≡ guided_from (n + 1) (length cs) ws =
    guided_from_same (n + 1) (length cs) (with_chosen ws n f) ws (λ i m. let d : i ≡ n → ⊥ = omega arith in with_chosen_other ws n f h.0 i d) in
    ap₂ ◌∷◌
    (put_from_before with_chosen ChoicesFit with_chosen_other fs h.1 (with_chosen ws n f) (n + 1) n (omega arith) ∙ with_chosen_guided ws n f h.0 (omega arith) first)
    (chosen_guided fs cs (with_chosen ws n f) (n + 1) h.1 (omega arith) (omega arith) (kept ∙ rest))

-- cells and then their choices
pub written_guided : (cs : List walks.Cell) (fs : List CellChoices) (ws : List ℕ) (n : ℕ) → AllFit ChoicesFit fs → length fs ≡ length cs → (n + length cs) * 68 ≤ length ws
    → guided_in (n + length cs) (with_all_chosen (with_cells ws n cs) n fs) ≡ guided_in n ws ++ guided_by cs (map choice_of fs)
written_guided cs fs ws n h e l =
    let size : length (with_cells ws n cs) ≡ length ws = length_with_cells cs ws n in
    guided_in_from n (length cs) (with_all_chosen (with_cells ws n cs) n fs)
    ∙ ap₂ ◌++◌
    (guided_in_same n (with_all_chosen (with_cells ws n cs) n fs) ws λ i m.
    put_from_before with_chosen ChoicesFit with_chosen_other fs h (with_cells ws n cs) n i m ∙ with_cells_before cs ws n i m)
    (chosen_guided fs cs (with_cells ws n cs) n h e (omega arith) (cells_plain cs ws n l))

-- ---- a step

module _ (r number p' edge : ℕ) (es ms : List ℕ) where
  length_step_chosen : (op : Stack.Operation) → length (step_chosen r number p' edge es ms op) ≡ new_cells op
  unfolding step_chosen new_cells
  length_step_chosen (rewrite b) = refl
  length_step_chosen (push1 b) = refl
  length_step_chosen (push2 b) = refl
  length_step_chosen copy = refl
  length_step_chosen pop1 = refl
  length_step_chosen pop2 = refl
  length_step_chosen collapse1 = refl
  length_step_chosen collapse2 = refl

  step_chosen_fit : r < 64 → p' < 64 → length es ≡ 64 → length ms ≡ 64 → (op : Stack.Operation) → AllFit ChoicesFit (step_chosen r number p' edge es ms op)
  unfolding step_chosen
  step_chosen_fit h k e m (rewrite b) = (h, (k, tt))
  step_chosen_fit h k e m (push1 b) = (m, (h, (k, tt)))
  step_chosen_fit h k e m (push2 b) = (m, (h, (k, tt)))
  step_chosen_fit h k e m copy = (m, (e, (h, (k, tt))))
  step_chosen_fit h k e m pop1 = (k, tt)
  step_chosen_fit h k e m pop2 = tt
  step_chosen_fit h k e m collapse1 = (k, tt)
  step_chosen_fit h k e m collapse2 = tt

  -- the cells of a step are written, and then their choices
  pub step_guided : {vs us : List ℕ} (op : Stack.Operation) (n a u s t : ℕ) (ws : List ℕ) → (n + new_cells op) * 68 ≤ length ws → r < 64 → p' < 64
      → length es ≡ 64 → length ms ≡ 64 → vs ≡ with_cells ws n (cells_after op n a u s t) → us ≡ with_all_chosen vs n (step_chosen r number p' edge es ms op)
      → guided_in (n + new_cells op) us ≡ guided_in n ws ++ guided_by (cells_after op n a u s t) (step_choices r number p' edge es ms op)
  unfolding step_choices
  step_guided op n a u s t ws l h k e m cells choices =
      let cs : List walks.Cell = cells_after op n a u s t in
      let fs : List CellChoices = step_chosen r number p' edge es ms op in
      let size : length (cells_after op n a u s t) ≡ new_cells op = length_cells_after op n a u s t in
      ap₂ guided_in
      (ap (λ (i : ℕ). n + i) (sym size))
      (choices ∙ ap (λ (l : List ℕ). with_all_chosen l n fs) cells)
      ∙ written_guided cs fs ws n (step_chosen_fit h k e m op) (length_step_chosen op ∙ sym size) (omega arith)

-- ---- an operation by value

-- the first cell of a list, and one of the others
pub at_first : (x : walks.Cell) (xs : List walks.Cell) {i : ℕ} → i ≡ 0 → x ≡ cell_number (x ∷ xs) i
unfolding cell_number
at_first x xs e = ap (λ (j : ℕ). get_or (x ∷ xs) j walks.empty1) (sym e)

pub at_next : (x : walks.Cell) (xs : List walks.Cell) (i : ℕ) {v : walks.Cell} → (i ≡ 0 → ⊥) → v ≡ cell_number xs (i - 1) → v ≡ cell_number (x ∷ xs) i
unfolding cell_number
at_next x xs i h f =
    let e : suc (i - 1) ≡ i = omega arith in
    f ∙ ap (λ (j : ℕ). get_or (x ∷ xs) j walks.empty1) e

-- one of the first two of four, and one of the others
pub at_lower : (a b x y : walks.Cell) (i : ℕ) {v : walks.Cell} → i < 2 → v ≡ cell_number (a ∷ b ∷ []) i → v ≡ cell_number (a ∷ b ∷ x ∷ y ∷ []) i
unfolding cell_number
at_lower a b x y i h f = f ∙ sym (get_or-append (a ∷ b ∷ []) (x ∷ y ∷ []) walks.empty1 i h)

pub at_upper : (a b x y : walks.Cell) (i : ℕ) {v : walks.Cell} → 2 ≤ i → v ≡ cell_number (x ∷ y ∷ []) (i - 2) → v ≡ cell_number (a ∷ b ∷ x ∷ y ∷ []) i
at_upper a b x y i h f =
    let d : i ≡ 0 → ⊥ = omega arith in
    let d' : i - 1 ≡ 0 → ⊥ = omega arith in
    let e : i - 2 ≡ i - 1 - 1 = omega arith in
    at_next a (b ∷ x ∷ y ∷ []) i d (at_next b (x ∷ y ∷ []) (i - 1) d' (f ∙ ap (cell_number (x ∷ y ∷ [])) e))

-- the new cells of the operation that op is are those of op
pub cell_by : {v : walks.Cell} {op o : Operation} (n a u s t i : ℕ) → op ≡ o → v ≡ cell_number (cells_after (the_operation o) n a u s t) i
    → v ≡ cell_number (cells_after (the_operation op) n a u s t) i
cell_by n a u s t i e h = h ∙ ap (λ (x : Operation). cell_number (cells_after (the_operation x) n a u s t) i) (sym e)

-- an operation with one new cell or none
pub cell_one : {op o : Operation} (n a u s t i : ℕ) (v : walks.Cell) → op ≡ o → cells_after (the_operation o) n a u s t ≡ v ∷ []
    → i < new_cells (the_operation op) → v ≡ cell_number (cells_after (the_operation op) n a u s t) i
cell_one {op} {o} n a u s t i v e f h =
    let l : length (cells_after (the_operation op) n a u s t) ≡ new_cells (the_operation op) = length_cells_after (the_operation op) n a u s t in
    let k : length (cells_after (the_operation op) n a u s t) ≡ 1 = ap (λ (x : Operation). length (cells_after (the_operation x) n a u s t)) e ∙ ap length f in
    let z : i ≡ 0 = omega arith in
    cell_by n a u s t i e (at_first v [] z ∙ ap (λ (cs : List walks.Cell). cell_number cs i) (sym f))

pub cell_none : {op o : Operation} (n a u s t i : ℕ) → op ≡ o → cells_after (the_operation o) n a u s t ≡ []
    → walks.empty1 ≡ cell_number (cells_after (the_operation op) n a u s t) i
unfolding cell_number
cell_none n a u s t i e f = cell_by n a u s t i e (ap (λ (cs : List walks.Cell). get_or cs i walks.empty1) (sym f))

pub chosen_by : {out : List ℕ} {op o : Operation} (ws : List ℕ) (n r number p' edge : ℕ) (es ms : List ℕ) → op ≡ o
    → out ≡ with_all_chosen ws n (step_chosen r number p' edge es ms (the_operation o)) → out ≡ with_all_chosen ws n (step_chosen r number p' edge es ms (the_operation op))
chosen_by ws n r number p' edge es ms e h = h ∙ ap (λ (x : Operation). with_all_chosen ws n (step_chosen r number p' edge es ms (the_operation x))) (sym e)

-- the root cell fits 16 bits
pub root_small : (op : Stack.Operation) (n u t : ℕ) → n ≤ 4096 → u < 2 ^ 16 → t < 2 ^ 16 → root_after op n u t < 2 ^ 16
unfolding root_after
root_small (rewrite b) n u t h i j = omega arith
root_small (push1 b) n u t h i j = omega arith
root_small (push2 b) n u t h i j = omega arith
root_small copy n u t h i j = omega arith
root_small pop1 n u t h i j = omega arith
root_small pop2 n u t h i j = j
root_small collapse1 n u t h i j = omega arith
root_small collapse2 n u t h i j = i

pub new_few : (op : Stack.Operation) → new_cells op ≤ 4
unfolding new_cells
new_few (rewrite b) = omega arith
new_few (push1 b) = omega arith
new_few (push2 b) = omega arith
new_few copy = omega arith
new_few pop1 = omega arith
new_few pop2 = omega arith
new_few collapse1 = omega arith
new_few collapse2 = omega arith

-- an operation of a file names no symbol above its byte b
symbol_below : (code b : ℕ) → symbol_of (operation_of code b) ≤ b
unfolding symbol_of operation_of
symbol_below zero b = omega arith
symbol_below (suc zero) b = omega arith
symbol_below (suc (suc zero)) b = omega arith
symbol_below (suc (suc (suc zero))) b = omega arith
symbol_below (suc (suc (suc (suc zero)))) b = omega arith
symbol_below (suc (suc (suc (suc (suc zero))))) b = omega arith
symbol_below (suc (suc (suc (suc (suc (suc zero)))))) b = omega arith
symbol_below (suc (suc (suc (suc (suc (suc (suc zero))))))) b = omega arith
symbol_below (suc (suc (suc (suc (suc (suc (suc (suc k)))))))) b = omega arith

-- the symbols of a rule of a file are bytes
pub rule_symbols : (n : ℕ) (body : List ℕ) {σ : Rule} → ((i : ℕ) → get_or body i 0 < 256) → σ ≡ rule_of (rule_bytes (record_at 5 n body))
    → (σ.symbol < 256) × (symbol_of σ.operation < 256)
unfolding rule_of rule_bytes record_at
rule_symbols n body h e =
    let one : 1 < 5 = omega arith in
    let three : 3 < 5 = omega arith in
    let a : get_or (take 5 (drop (n * 5) body)) 1 0 ≡ get_or body (n * 5 + 1) 0 = rw (get_or-take, get_or-drop) in
    let b : get_or (take 5 (drop (n * 5) body)) 3 0 ≡ get_or body (n * 5 + 3) 0 = rw (get_or-take, get_or-drop) in
    let k = h (n * 5 + 1) in
    let l = h (n * 5 + 3) in
    let m = symbol_below (get_or (take 5 (drop (n * 5) body)) 2 0) (get_or (take 5 (drop (n * 5) body)) 3 0) in
    rw e (omega arith, omega arith)
