-- The decorated stack of each cell of a walk, by one left-to-right pass over its cells, and the decorated walk that a walk stands for.
-- Assumes nothing.
use Rattle.std.specs.Prelude.{ℕ, ◌<◌, ◌≡◌, get_or}
use Rattle.std.proofs.Math.Path.{refl, ap, ap₂, sym, subst}
use Rattle.std.proofs.Common.{◌∙◌, arith}
use mathlib.Core.List.{List, [], ◌∷◌, ◌++◌, map, zip_with, append-nil, append_assoc, map-append}
use Rattle.std.proofs.Math.ListN.{length, length-map, get_or-map}
use Rattle.stacks.specs.Stack.{Stack1, nil1, cons1, Stack2, cons2, Annotation, of1, of2}
use Rattle.automata.specs.Automaton.{Automaton}
use Rattle.walks.specs.Cell.{Cell, empty1, symbol, empty2, above, order1, order2, stack_at, stack_of, stacks_from, stacks}
use Rattle.walks.specs.Cell.Formed.{cell_order, cell_at, order_at, Formed}
use Rattle.walks.specs.Cell.Values.{pass, Valuation, value_at, value_by, value_of, values, value_before, value_at_lem, get_or_map_below}
use Rattle.walks.specs.Cell.Laws.{stacks_from_pass, length_stacks}
use Rattle.walks.specs.Guide.{Guided, no_guided, Walk, least_choice, start_walk}
use Rattle.soundness.specs.Decorated.{Decorated1, nil1', cons1', Decorated2, nil2', cons2', DecoratedAnnotation, of1', of2', erase1, erase2, erase_annotation, decorate1, decorate2, decorate_annotation, DecoratedWalk, erased, decorated}

-- ---- the decorated stacks of cells

unfoldable pub order1' : DecoratedAnnotation → Decorated1
order1' (of1' s) = s
order1' (of2' t) = nil1'

unfoldable pub order2' : DecoratedAnnotation → Decorated2
order2' (of1' s) = nil2'
order2' (of2' t) = t

-- decorated stacks as values of cells: a cell's choices stand at its top
abbrev pub decorated_kind : Valuation Guided (ℕ → ℕ) DecoratedAnnotation
decorated_kind =
    record {
      cell = λ g. g.cell;
      extra = λ g. g.choice;
      make = λ c f. record { cell = c; choice = f };
      cell_make = λ c f. refl;
      extra_make = λ c f. refl;
      none1 = of1' nil1';
      none2 = of2' nil2';
      symbol_by = λ f a u s. of1' (cons1' a u (order1' s) f);
      above_by = λ f w t. of2' (cons2' (order1' w) (order2' t) f);
    }

-- the decorated stack of cell n
unfoldable pub annotation_at : List Guided → ℕ → DecoratedAnnotation
annotation_at cells n = value_at decorated_kind (values decorated_kind cells) n

-- the cells without their choices
abbrev pub bare : List Guided → List Cell
bare cells = map (λ g. g.cell) cells

-- the control and the decorated stack of the root cell
unfoldable pub decorated_of : Walk → DecoratedWalk
decorated_of w = record { control = w.control; stack = order2' (annotation_at w.cells w.root) }

-- The cells of a walk refer to lower cells of the right order, and its root is a cell of order 2.
pub record WalkFormed (w : Walk) : Type 0 where
  pub formed : Formed (bare w.cells)
  pub root_exists : w.root < length w.cells
  pub root_order : order_at (bare w.cells) w.root ≡ 2

-- ---- orders

unfoldable pub annotation_order' : DecoratedAnnotation → ℕ
annotation_order' (of1' s) = 1
annotation_order' (of2' t) = 2

pub annotation_of1' : (v : DecoratedAnnotation) → annotation_order' v ≡ 1 → v ≡ of1' (order1' v)
unfolding annotation_order' order1'
annotation_of1' (of1' s) e = refl
annotation_of1' (of2' t) e = absurd (omega arith)

pub annotation_of2' : (v : DecoratedAnnotation) → annotation_order' v ≡ 2 → v ≡ of2' (order2' v)
unfolding annotation_order' order2'
annotation_of2' (of1' s) e = absurd (omega arith)
annotation_of2' (of2' t) e = refl

pub value_by_order : (xs : List DecoratedAnnotation) (c : Cell) (f : ℕ → ℕ) → annotation_order' (value_by decorated_kind xs c f) ≡ cell_order c
unfolding annotation_order' value_by cell_order
value_by_order xs empty1 f = refl
value_by_order xs (symbol a u s) f = refl
value_by_order xs empty2 f = refl
value_by_order xs (above w t) f = refl

pub bare_at : (cells : List Guided) (n : ℕ) → n < length cells → cell_at (bare cells) n ≡ (get_or cells n no_guided).cell
bare_at cells n h = get_or_map_below (λ g. g.cell) cells n no_guided empty1 h

pub annotation_order_lem : (cells : List Guided) (n : ℕ) → n < length cells → annotation_order' (annotation_at cells n) ≡ order_at (bare cells) n
unfolding annotation_at order_at value_of
annotation_order_lem cells n h =
    ap annotation_order' (value_before decorated_kind cells no_guided n h)
    ∙ value_by_order _ (get_or cells n no_guided).cell (get_or cells n no_guided).choice ∙ ap cell_order (sym (bare_at cells n h))

-- the decorated stack of a cell, by those of the cells that it refers to
pub annotation_at_lem : (cells : List Guided) → Formed (bare cells) → (n : ℕ) → n < length cells
    → annotation_at cells n ≡ value_by decorated_kind (values decorated_kind cells) (get_or cells n no_guided).cell (get_or cells n no_guided).choice
unfolding annotation_at value_of
annotation_at_lem cells x n h = value_at_lem decorated_kind cells no_guided x n h

-- ---- without the choices

pub pass_map : {A B C D : Type 0} (f : List B → A → B) (g : List D → C → D) (h : B → D) (k : A → C)
    → ((xs : List B) (c : A) → h (f xs c) ≡ g (map h xs) (k c)) → (xs : List B) (cs : List A) → map h (pass f xs cs) ≡ pass g (map h xs) (map k cs)
unfolding pass
pass_map f g h k e xs [] = refl
pass_map {D = D} f g h k e xs (c ∷ cs) =
    pass_map f g h k e (xs ++ (f xs c ∷ [])) cs
    ∙ ap (λ (l : List D). pass g l (map k cs))
    (map-append h xs (f xs c ∷ []) ∙ ap (λ (y : D). map h xs ++ (y ∷ [])) (e xs c))

erase_order1 : (v : DecoratedAnnotation) → erase1 (order1' v) ≡ order1 (erase_annotation v)
unfolding erase1 order1 order1'
erase_order1 (of1' s) = refl
erase_order1 (of2' t) = refl

erase_order2 : (v : DecoratedAnnotation) → erase2 (order2' v) ≡ order2 (erase_annotation v)
unfolding erase1 order2 order2'
erase_order2 (of1' s) = refl
erase_order2 (of2' t) = refl

erase_at : (xs : List DecoratedAnnotation) (n : ℕ) → erase_annotation (value_at decorated_kind xs n) ≡ stack_at (map erase_annotation xs) n
unfolding value_at stack_at erase1
erase_at xs n = sym (get_or-map erase_annotation xs n (of1' nil1'))

erase_value_by : (xs : List DecoratedAnnotation) (c : Cell) (f : ℕ → ℕ) → erase_annotation (value_by decorated_kind xs c f) ≡ stack_of (map erase_annotation xs) c
unfolding value_by stack_of erase1
erase_value_by xs empty1 f = refl
erase_value_by xs (symbol a u s) f =
    ap₂ (λ (x : Annotation) (y : Stack1). of1 (cons1 a x y)) (erase_at xs u) (erase_order1 (value_at decorated_kind xs s) ∙ ap order1 (erase_at xs s))
erase_value_by xs empty2 f = refl
erase_value_by xs (above w t) f =
    ap₂ (λ (x : Stack1) (y : Stack2). of2 (cons2 x y))
    (erase_order1 (value_at decorated_kind xs w) ∙ ap order1 (erase_at xs w)) (erase_order2 (value_at decorated_kind xs t) ∙ ap order2 (erase_at xs t))

-- without its choices the decorated stack of a cell is the stack of the cell
pub erase_annotation_lem : (cells : List Guided) (n : ℕ) → erase_annotation (annotation_at cells n) ≡ stack_at (stacks (bare cells)) n
unfolding annotation_at values stacks value_of
erase_annotation_lem cells n =
    erase_at (values decorated_kind cells) n
    ∙ ap (λ (us : List Annotation). stack_at us n)
    (pass_map (value_of decorated_kind) stack_of erase_annotation (λ g. g.cell) (λ xs g. erase_value_by xs g.cell g.choice) [] cells
    ∙ sym (stacks_from_pass [] (bare cells)))

pub erase_walk : (w : Walk) → erased (decorated_of w) ≡ record { control = w.control; stack = order2 (stack_at (stacks (bare w.cells)) w.root) }
unfolding erased decorated_of
erase_walk w = λ i. record { control = w.control; stack = (erase_order2 (annotation_at w.cells w.root) ∙ ap order2 (erase_annotation_lem w.cells w.root)) i }

-- ---- the start: "all start cells are taken first", with their least choices

module _ (A : Automaton) where
  abbrev start_cell : Cell → Annotation → Guided
  start_cell c u = record { cell = c; choice = least_choice A u }

  -- the stacks of the cells that follow
  later : List Annotation → List Cell → List Annotation
  later us [] = []
  later us (c ∷ cs) = stack_of us c ∷ later (us ++ (stack_of us c ∷ [])) cs

  stacks_later : (us : List Annotation) (cs : List Cell) → stacks_from us cs ≡ us ++ later us cs
  unfolding stacks_from later
  stacks_later us [] = sym (append-nil us)
  stacks_later us (c ∷ cs) = stacks_later (us ++ (stack_of us c ∷ [])) cs ∙ append_assoc us (stack_of us c ∷ []) (later (us ++ (stack_of us c ∷ [])) cs)

  decorate_order1 : (v : Annotation) → order1' (decorate_annotation A v) ≡ decorate1 A (order1 v)
  unfolding decorate1 order1 order1'
  decorate_order1 (of1 s) = refl
  decorate_order1 (of2 t) = refl

  decorate_order2 : (v : Annotation) → order2' (decorate_annotation A v) ≡ decorate2 A (order2 v)
  unfolding decorate1 order2 order2'
  decorate_order2 (of1 s) = refl
  decorate_order2 (of2 t) = refl

  decorate_at : (us : List Annotation) (n : ℕ) → value_at decorated_kind (map (decorate_annotation A) us) n ≡ decorate_annotation A (stack_at us n)
  unfolding value_at stack_at decorate1
  decorate_at us n = get_or-map (decorate_annotation A) us n (of1 nil1)

  decorate_cell : (us : List Annotation) (c : Cell)
      → value_by decorated_kind (map (decorate_annotation A) us) c (least_choice A (stack_of us c)) ≡ decorate_annotation A (stack_of us c)
  unfolding value_by stack_of decorate1
  decorate_cell us empty1 = refl
  decorate_cell us (symbol a u s) =
      ap₂ (λ (x : DecoratedAnnotation) (y : Decorated1). of1' (cons1' a x y (least_choice A (stack_of us (symbol a u s)))))
      (decorate_at us u) (ap order1' (decorate_at us s) ∙ decorate_order1 (stack_at us s))
  decorate_cell us empty2 = refl
  decorate_cell us (above w t) =
      ap₂ (λ (x : Decorated1) (y : Decorated2). of2' (cons2' x y (least_choice A (stack_of us (above w t)))))
      (ap order1' (decorate_at us w) ∙ decorate_order1 (stack_at us w)) (ap order2' (decorate_at us t) ∙ decorate_order2 (stack_at us t))

  decorate_pass : (us : List Annotation) (cs : List Cell)
      → pass (value_of decorated_kind) (map (decorate_annotation A) us) (zip_with start_cell cs (later us cs)) ≡ map (decorate_annotation A) (us ++ later us cs)
  unfolding pass later zip_with value_of
  decorate_pass us [] = ap (map (decorate_annotation A)) (sym (append-nil us))
  decorate_pass us (c ∷ cs) =
      let x : Annotation = stack_of us c in
      let rest : List Annotation = later (us ++ (x ∷ [])) cs in
      ap (λ (y : DecoratedAnnotation). pass (value_of decorated_kind) (map (decorate_annotation A) us ++ (y ∷ [])) (zip_with start_cell cs rest)) (decorate_cell us c)
      ∙ ap (λ (l : List DecoratedAnnotation). pass (value_of decorated_kind) l (zip_with start_cell cs rest)) (sym (map-append (decorate_annotation A) us (x ∷ [])))
      ∙ decorate_pass (us ++ (x ∷ [])) cs
      ∙ ap (map (decorate_annotation A)) (append_assoc us (x ∷ []) rest)

  -- the decorated stack of a start cell is its stack with the least choices
  pub start_annotation : (cells : List Cell) (n : ℕ) → annotation_at (zip_with start_cell cells (stacks cells)) n ≡ decorate_annotation A (stack_at (stacks cells) n)
  unfolding annotation_at values stacks
  start_annotation cells n =
      let z : stacks_from [] cells ≡ later [] cells = stacks_later [] cells in
      ap (λ (us : List Annotation). value_at decorated_kind (pass (value_of decorated_kind) [] (zip_with start_cell cells us)) n) z
      ∙ ap (λ (xs : List DecoratedAnnotation). value_at decorated_kind xs n) (decorate_pass [] cells)
      ∙ decorate_at (later [] cells) n
      ∙ ap (λ (us : List Annotation). decorate_annotation A (stack_at us n)) (sym z)

  -- the decorated walk of a start is the least-choice decoration of its configuration
  pub start_decorated : (cells : List Cell) (p root : ℕ)
      → decorated_of (start_walk A cells p root) ≡ decorated A (record { control = p; stack = order2 (stack_at (stacks cells) root) })
  unfolding decorated_of decorated start_walk
  start_decorated cells p root = λ i.
      record { control = p; stack = (ap order2' (start_annotation cells root) ∙ decorate_order2 (stack_at (stacks cells) root)) i }

  bare_zip : (cs : List Cell) (us : List Annotation) → length us ≡ length cs → bare (zip_with start_cell cs us) ≡ cs
  unfolding zip_with
  bare_zip [] us e = refl
  bare_zip (c ∷ cs) [] e = absurd (omega arith)
  bare_zip (c ∷ cs) (u ∷ us) e = ap (λ (l : List Cell). c ∷ l) (bare_zip cs us (omega arith))

  -- the cells of the start walk are those of the file
  pub start_bare : (cells : List Cell) (p root : ℕ) → bare (start_walk A cells p root).cells ≡ cells
  unfolding start_walk
  start_bare cells p root = bare_zip cells (stacks cells) (length_stacks cells)

  pub start_formed : (cells : List Cell) (p root : ℕ) → Formed cells → root < length cells → order_at cells root ≡ 2 → WalkFormed (start_walk A cells p root)
  unfolding start_walk
  start_formed cells p root x h e =
      let b : bare (start_walk A cells p root).cells ≡ cells = start_bare cells p root in
      record {
        formed = subst Formed (sym b) x;
        root_exists = subst (λ (k : ℕ). root < k) (sym (ap length b) ∙ length-map (start_walk A cells p root).cells (λ g. g.cell)) h;
        root_order = ap (λ (l : List Cell). order_at l root) b ∙ e;
      }
