-- Lent cells, step by step: one move and one edge, the choices of a cell by value, one start cell, and all start cells.
-- Assumes nothing.
use Rattle.std.specs.Prelude.{ℕ, zero, suc, ◌+◌, ◌*◌, ◌<◌, ◌≤◌, Bool, false, ◌≡◌, refl, length, get_or, eqb}
use Rattle.std.proofs.Math.Path.{ap}
use Rattle.std.proofs.Common.{sym, ◌∙◌, subst, arith, ext_get_or}
use mathlib.Core.List.{List, [], ◌∷◌, zip_with}
use borrow.Author.Tests.{eqb-true, eqb-false, eq-eqb, ne_eqb}
use Rattle.words.specs.Laws.Tests.{by_test}
use Rattle.stacks.specs.Stack.{nil1, Annotation, of1}
use Rattle.replies.specs.declared.Acceptance.{Acceptance}
use Rattle.automata.specs.Automaton.{Automaton, Move, Edge, edges}
use Rattle.rounds.specs.Won.{is_won, move_round, edge_round}
use Rattle.walks.specs.Cell as walks
use Rattle.walks.specs.Cell.{empty1, symbol, stacks, stack_at}
use Rattle.walks.specs.Cell.Formed.{Formed, cell_at}
use Rattle.walks.specs.Cell.Laws.{length_stacks}
use Rattle.walks.specs.Guide.{Guided, no_guided, least_choice}
use Rattle.bytes_in.specs.Records.{record_at}
use Rattle.cell_memory.specs.declared.Cell.{Cell}
use Rattle.cell_memory.specs.declared.Cell.TheVariants.{Empty1, Symbol, Empty2, Above}
use Rattle.cell_memory.specs.Memory.{cell_of, value_of, guided_cell, guided_in, with_cell}
use Rattle.cell_memory.specs.Memory.Laws.{value_of_cell_of, length_guided_in, guided_in_at}
use Rattle.acceptance_words.specs.Rows.{round_in}
use Rattle.acceptance.specs.Cells.{PartsBelow, annotation_order_at}
use Rattle.start_records.specs.Body.{cell_read, cells_in}
use Rattle.start_records.specs.Body.Laws.{cells_in_at}
use Rattle.acceptance.specs.Cells.Laws.{refers_parts, StatesBelow}
use Rattle.least_choices.specs.Choices.{least_met}
use Rattle.least_choices.specs.Starts.{move_met, edge_met, AcceptedIn, choices_by, with_start, start_cells}
use Rattle.least_choices.specs.Starts.Laws.{start_cell, length_with_start, with_start_other, with_start_guided}

-- ---- one move and one edge

module _ (a k : ℕ) (f g : ℕ → Acceptance) (m : Move) where
  pub met_not : (m.symbol ≡ a → ⊥) → false ≡ move_met a k f g m
  unfolding move_met
  met_not h = rw (move_met, ne_eqb m.symbol a h)

  pub met_reads : m.symbol ≡ a → {w : Acceptance} {r : Bool} → w ≡ move_round k f g m → r ≡ is_won w → r ≡ move_met a k f g m
  unfolding move_met
  met_reads e {w} {r} is won = rw (move_met, eq-eqb m.symbol a e) (won ∙ ap is_won is)

pub met_edge : (f g : ℕ → Acceptance) (e : Edge) {w : Acceptance} {r : Bool} → w ≡ edge_round f g e → r ≡ is_won w → r ≡ edge_met f g e
unfolding edge_met
met_edge f g e is won = won ∙ ap is_won is

-- ---- the choices of a cell by value

module _ (A : Automaton) (k : ℕ) (rounds : List ℕ) (i : ℕ) (c : Cell) (cells : List ℕ) where
  pub by_empty1 : c ≡ Empty1 → cells ≡ choices_by A k rounds i (cell_of c) cells
  unfolding choices_by cell_of
  by_empty1 e = rw e

  pub by_symbol : (a u s : ℕ) {out : List ℕ} → c ≡ Symbol a u s
      → out ≡ least_met (λ m. m.state) (move_met a k (round_in rounds u) (round_in rounds s)) i 0 A.moves cells
      → out ≡ choices_by A k rounds i (cell_of c) cells
  unfolding choices_by cell_of
  by_symbol a u s e h = rw e h

  pub by_empty2 : c ≡ Empty2 → cells ≡ choices_by A k rounds i (cell_of c) cells
  unfolding choices_by cell_of
  by_empty2 e = rw e

  pub by_above : (w t : ℕ) {out : List ℕ} → c ≡ Above w t
      → out ≡ least_met (λ e. e.state) (edge_met (round_in rounds w) (round_in rounds t)) i 0 (edges A) cells → out ≡ choices_by A k rounds i (cell_of c) cells
  unfolding choices_by cell_of
  by_above w t e h = rw e h

-- ---- one start cell

pub start_put : (A : Automaton) (n : ℕ) (body rounds : List ℕ) {i k : ℕ} (c : Cell) (cells : List ℕ) {put out : List ℕ} → i < n
    → cell_of c ≡ cell_read (record_at 6 i body) → k ≡ annotation_order_at (cells_in n body) (cell_of c) → put ≡ with_cell cells i c
    → out ≡ choices_by A k rounds i (cell_of c) put → out ≡ with_start A (cells_in n body) rounds i cells
unfolding with_start
start_put A n body rounds {i} {k} c cells {put} h e f g w =
    w
    ∙ ap (λ (o : ℕ). choices_by A o rounds i (cell_of c) put) f
    ∙ ap (choices_by A (annotation_order_at (cells_in n body) (cell_of c)) rounds i (cell_of c))
    (g ∙ ap (with_cell cells i) (sym (value_of_cell_of c)))
    ∙ ap (λ (x : walks.Cell). choices_by A (annotation_order_at (cells_in n body) x) rounds i x (with_cell cells i (value_of x))) (cells_in_at n body h e)

-- it refers to cells before it
pub start_parts : (n : ℕ) (body : List ℕ) {i : ℕ} {c : walks.Cell} → Formed (cells_in n body) → i < n → c ≡ cell_read (record_at 6 i body)
    → PartsBelow i c
start_parts n body {i} F l e =
    subst (PartsBelow i) (sym (cells_in_at n body l e)) (refers_parts (cells_in n body) i (cell_at (cells_in n body) i) (F.refers i))

-- ---- all start cells

-- The first i start cells stand there.
pub record StartTaken (A : Automaton) (starts : List walks.Cell) (before now : List ℕ) (i : ℕ) : Type 0 where
  pub long : length now ≡ length before
  pub there : (j : ℕ) → j < i → guided_cell now j ≡ start_cell A starts j

pub taken_none : (A : Automaton) (starts : List walks.Cell) (cells : List ℕ) → StartTaken A starts cells cells 0
taken_none A starts cells = record { long = refl; there = λ j h. absurd (omega arith) }

pub taken_more : {A : Automaton} {starts : List walks.Cell} {rounds c₀ c c' : List ℕ} {n i : ℕ} → StartTaken A starts c₀ c i → Formed starts → StatesBelow A
    → AcceptedIn A starts rounds n → length starts ≡ n → i < n → i * 68 + 68 ≤ length c₀ → c' ≡ with_start A starts rounds i c
    → StartTaken A starts c₀ c' (i + 1)
taken_more {A} {starts} {rounds} {c₀} {c} {c'} {n} {i} h F small W e l fits w =
    let len : length c ≡ length c₀ = h.long in
    let all : AcceptedIn A starts rounds (length starts) = subst (AcceptedIn A starts rounds) (sym e) W in
    record {
      long = ap length w ∙ length_with_start A small starts rounds i c ∙ h.long;
      there = λ j b. ap (λ (x : List ℕ). guided_cell x j) w ∙ by_test (eqb j i)
          (λ t.
          let z : j ≡ i = eqb-true j i t in
          ap (guided_cell (with_start A starts rounds i c)) z
          ∙ with_start_guided A starts F small all i c (omega arith) (omega arith)
          ∙ ap (start_cell A starts) (sym z))
          (λ t.
          let d : j ≡ i → ⊥ = eqb-false j i t in
          with_start_other A small starts rounds i c j d ∙ h.there j (omega arith));
    }

length_zip_with : {X Y Z : Type 0} (f : X → Y → Z) (xs : List X) (ys : List Y) → length ys ≡ length xs → length (zip_with f xs ys) ≡ length xs
unfolding zip_with
length_zip_with f [] ys e = refl
length_zip_with f (x ∷ xs) [] e = absurd (omega arith)
length_zip_with f (x ∷ xs) (y ∷ ys) e = ap suc (length_zip_with f xs ys (omega arith))

get_or_zip_with : {X Y Z : Type 0} (f : X → Y → Z) (xs : List X) (ys : List Y) (x₀ : X) (y₀ : Y) (z₀ : Z) (i : ℕ) → i < length xs → i < length ys
    → get_or (zip_with f xs ys) i z₀ ≡ f (get_or xs i x₀) (get_or ys i y₀)
unfolding zip_with
get_or_zip_with f [] ys x₀ y₀ z₀ i h k = absurd (omega arith)
get_or_zip_with f (x ∷ xs) [] x₀ y₀ z₀ i h k = absurd (omega arith)
get_or_zip_with f (x ∷ xs) (y ∷ ys) x₀ y₀ z₀ zero h k = refl
get_or_zip_with f (x ∷ xs) (y ∷ ys) x₀ y₀ z₀ (suc i) h k = get_or_zip_with f xs ys x₀ y₀ z₀ i (omega arith) (omega arith)

pub taken_all : {A : Automaton} {starts : List walks.Cell} {c₀ c : List ℕ} {i n : ℕ} → StartTaken A starts c₀ c i → length starts ≡ n → n ≤ i
    → guided_in n c ≡ start_cells A starts
unfolding stack_at
taken_all {A} {starts} {c₀} {c} {i} {n} h e l =
    let f : walks.Cell → Annotation → Guided = λ x u. record { cell = x; choice = least_choice A u } in
    let us : length (stacks starts) ≡ length starts = length_stacks starts in
    let len : length (guided_in n c) ≡ n = length_guided_in n c in
    let both : length (zip_with f starts (stacks starts)) ≡ length starts = length_zip_with f starts (stacks starts) us in
    ext_get_or no_guided (guided_in n c) (start_cells A starts) (omega arith)
    (λ j b.
    guided_in_at n c j (omega arith) ∙ h.there j (omega arith)
    ∙ sym (get_or_zip_with f starts (stacks starts) empty1 (of1 nil1) no_guided j (omega arith) (omega arith)))
