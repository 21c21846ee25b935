-- The step on cells is the step of the decorated walk that the walk stands for.
-- Assumes nothing.
use Prim.Native.Nat.{ℕ, suc, ◌<◌}
use Rattle.std.specs.Prelude.{◌≡◌, ltb}
use Rattle.std.proofs.Math.Path.{refl, ap, sym, subst}
use Rattle.std.proofs.Common.{◌∙◌}
use Rattle.std.proofs.Math.Option.{Option, none, some, some-injective, none-ne-some}
use mathlib.Core.List.{List, [], ◌∷◌, ◌++◌, zip_with, map-append}
use native.Mathlib.Omega.{arith}
use Rattle.std.proofs.Math.ListN.{length, get_elem?}
use Rattle.std.proofs.lemmas.List.{length-map}
use Rattle.words.specs.Laws.Tests.{by_test}
use Rattle.stacks.specs.Stack.{Operation, rewrite, push1, push2, copy, pop1, pop2, collapse1, collapse2}
use Rattle.stacks.specs.System.{Rule}
use Rattle.automata.specs.Automaton.{Automaton, edge_at, move_at}
use Rattle.automata.specs.Derivation.{Derivation, result_of, first_derivation}
use Rattle.automata.specs.Saturation.{Saturated, before, own_moves}
use Rattle.walks.specs.Cell.{Cell, empty1, symbol, empty2, above, cells_after, root_after}
use Rattle.walks.specs.Cell.Formed.{cell_order, cell_at, order_at, Formed, formed_symbol, formed_above, Takes, TopFormed, formed_after}
use Rattle.walks.specs.Cell.Values.{value_by, values, HasValue, make_from, root_value, root_stands}
use Rattle.walks.specs.Guide.{Guided, Walk, Top, guided_at, top_on, top_of, choices_after, Next, arrived, to, stuck, moved, by_derivation, at_top, next}
use Rattle.soundness.specs.Decorated.{Decorated1, Decorated2, cons2', DecoratedAnnotation, of1', of2', DecoratedWalk, DecoratedTop, top_of as topOf', choices_of, after_decorated, DecoratedNext, arrived as arrived', to as to', stuck as stuck', leaves, by_derivation as byDerivation', at_top as atTop', next as next'}
use Rattle.guidance.specs.Run.{added}
use Rattle.guidance.specs.Decoration.{order1', order2', decorated_kind, annotation_at, bare, decorated_of, WalkFormed, annotation_order', annotation_of1', annotation_of2', bare_at, annotation_order_lem, annotation_at_lem}

-- ---- the top

-- the top of the decorated walk, by the cells of a top
unfoldable pub decorated_top : List Guided → Top → DecoratedTop
decorated_top cells x =
    record { a = x.a; u = annotation_at cells x.u; s = order1' (annotation_at cells x.s); t = order2' (annotation_at cells x.t); move = x.move }

-- neither has a top, or the cells of the one stand for the stacks of the other
pub data SameTop (cells : List Guided) : Option Top → Option DecoratedTop → Type 0 where
  no_top : SameTop cells none none
  a_top : (x : Top) → TopFormed (bare cells) x.u x.s x.t → SameTop cells (some x) (some (decorated_top cells x))

module _ (A : Automaton) (w : Walk) (F : WalkFormed w) where
  abbrev cells : List Guided
  cells = w.cells

  -- the values of the cells
  abbrev notes : List DecoratedAnnotation
  notes = values decorated_kind cells

  guided_cell_lem : (n : ℕ) → n < length cells → cell_at (bare cells) n ≡ (guided_at w n).cell
  unfolding guided_at
  guided_cell_lem n h = bare_at cells n h

  guided_annotation : (n : ℕ) → n < length cells → annotation_at cells n ≡ value_by decorated_kind notes (guided_at w n).cell (guided_at w n).choice
  unfolding guided_at
  guided_annotation n h = annotation_at_lem cells F.formed n h

  -- order-1 cell c, which is d, on order-2 cell t
  same_on : (c t : ℕ) (f : ℕ → ℕ) (d : Cell) → c < length cells → t < length cells → order_at (bare cells) t ≡ 2
      → cell_at (bare cells) c ≡ d → cell_order d ≡ 1
      → SameTop cells (top_on w c (edge_at A (f w.control)).first t d)
      (topOf' A w.control (cons2' (order1' (value_by decorated_kind notes d (guided_at w c).choice)) (order2' (annotation_at cells t)) f))
  unfolding top_on topOf' value_by order1' cell_order decorated_top annotation_at
  same_on c t f empty1 hc ht ot e o = no_top
  same_on c t f (symbol a u s) hc ht ot e o =
      let r = formed_symbol F.formed e in
      let hu : u < c = r.0 in
      let hs : s < c = r.1 in
      a_top (record { a = a; u = u; s = s; t = t; move = (guided_at w c).choice (edge_at A (f w.control)).first })
      (record {
        u_exists = rw (length-map cells (λ (g : Guided). g.cell)) (omega arith);
        s_exists = rw (length-map cells (λ (g : Guided). g.cell)) (omega arith);
        t_exists = rw (length-map cells (λ (g : Guided). g.cell)) ht;
        s_order = r.2;
        t_order = ot;
      })
  same_on c t f empty2 hc ht ot e o = absurd (omega arith)
  same_on c t f (above x y) hc ht ot e o = absurd (omega arith)

  -- the root, which is d
  same_root : (d : Cell) → cell_at (bare cells) w.root ≡ d → cell_order d ≡ 2
      → SameTop cells (top_of A w d) (topOf' A w.control (order2' (value_by decorated_kind notes d (guided_at w w.root).choice)))
  unfolding top_of topOf' value_by order2' cell_order order_at annotation_at
  same_root empty1 e o = absurd (omega arith)
  same_root (symbol a u s) e o = absurd (omega arith)
  same_root empty2 e o = no_top
  same_root (above c t) e o =
      let r = formed_above F.formed e in
      let h : w.root < length cells = F.root_exists in
      let hc : c < w.root = r.0 in
      let ht : t < w.root = r.1 in
      let lc : c < length cells = omega arith in
      let lt : t < length cells = omega arith in
      let q : cell_at (bare cells) c ≡ (guided_at w c).cell = guided_cell_lem c lc in
      let g : ℕ → ℕ = (guided_at w w.root).choice in
      subst (λ (v : DecoratedAnnotation). SameTop cells (top_of A w (above c t)) (topOf' A w.control (cons2' (order1' v) (order2' (annotation_at cells t)) g)))
      (sym (guided_annotation c lc)) (same_on c t g (guided_at w c).cell lc lt r.3 q (ap cell_order (sym q) ∙ r.2))

  pub same_top : SameTop cells (top_of A w (guided_at w w.root).cell) (topOf' A w.control (order2' (annotation_at cells w.root)))
  unfolding order_at
  same_top =
      let q = guided_cell_lem w.root F.root_exists in
      subst (λ (v : DecoratedAnnotation). SameTop cells (top_of A w (guided_at w w.root).cell) (topOf' A w.control (order2' v)))
      (sym (guided_annotation w.root F.root_exists)) (same_root (guided_at w w.root).cell q (ap cell_order (sym q) ∙ F.root_order))

-- ---- the new cells

-- the new cells of an operation, with their choices
added_make : (A : Automaton) (d : Derivation) (p' : ℕ) (op : Operation) (n : ℕ) (x : Top)
    → added A d p' op n x ≡ make_from decorated_kind 0 (choices_of (choices_after A d p' op)) (cells_after op n x.a x.u x.s x.t)
unfolding added make_from cells_after choices_after zip_with
added_make A d p' (rewrite b) n x = refl
added_make A d p' (push1 b) n x = refl
added_make A d p' (push2 b) n x = refl
added_make A d p' copy n x = refl
added_make A d p' pop1 n x = refl
added_make A d p' pop2 n x = refl
added_make A d p' collapse1 n x = refl
added_make A d p' collapse2 n x = refl

make_from_bare : (i : ℕ) (f : ℕ → ℕ → ℕ) (cs : List Cell) → bare (make_from decorated_kind i f cs) ≡ cs
unfolding make_from
make_from_bare i f [] = refl
make_from_bare i f (c ∷ cs) = ap (λ (l : List Cell). c ∷ l) (make_from_bare (suc i) f cs)

-- the value that the new cells give the root is the stack that the operation leaves
after_annotation : (op : Operation) (fs : List (ℕ → ℕ)) (a : ℕ) (u : DecoratedAnnotation) (s : Decorated1) (t : Decorated2) {v : Decorated2}
    → after_decorated op fs a u s t ≡ some v → root_value decorated_kind op (choices_of fs) a u (of1' s) (of2' t) ≡ of2' v
unfolding after_decorated root_value order1' order2'
after_annotation (rewrite b) fs a u s t {v} e = ap of2' (some-injective _ v e)
after_annotation (push1 b) fs a u s t {v} e = ap of2' (some-injective _ v e)
after_annotation (push2 b) fs a u s t {v} e = ap of2' (some-injective _ v e)
after_annotation copy fs a u s t {v} e = ap of2' (some-injective _ v e)
after_annotation pop1 fs a u s t {v} e = ap of2' (some-injective _ v e)
after_annotation pop2 fs a u s t {v} e = ap of2' (some-injective _ v e)
after_annotation collapse1 fs a (of1' u) s t {v} e = ap of2' (some-injective _ v e)
after_annotation collapse1 fs a (of2' u) s t {v} e = absurd (none-ne-some v e)
after_annotation collapse2 fs a (of1' u) s t {v} e = absurd (none-ne-some v e)
after_annotation collapse2 fs a (of2' u) s t {v} e = ap of2' (some-injective _ v e)

-- an operation that leaves a stack takes the annotation's order
after_takes : (op : Operation) (fs : List (ℕ → ℕ)) (a : ℕ) (u : DecoratedAnnotation) (s : Decorated1) (t : Decorated2) {v : Decorated2}
    → after_decorated op fs a u s t ≡ some v → Takes op (annotation_order' u)
unfolding after_decorated annotation_order'
after_takes (rewrite b) fs a u s t e = tt
after_takes (push1 b) fs a u s t e = tt
after_takes (push2 b) fs a u s t e = tt
after_takes copy fs a u s t e = tt
after_takes pop1 fs a u s t e = tt
after_takes pop2 fs a u s t e = tt
after_takes collapse1 fs a (of1' u) s t e = refl
after_takes collapse1 fs a (of2' u) s t {v} e = absurd (none-ne-some v e)
after_takes collapse2 fs a (of1' u) s t {v} e = absurd (none-ne-some v e)
after_takes collapse2 fs a (of2' u) s t e = refl

-- ---- a step

module _ (rules : List Rule) (T : Saturated) (w : Walk) (F : WalkFormed w) (x : Top) (X : TopFormed (bare w.cells) x.u x.s x.t)
    (d : Derivation) (ρ : Rule) {v : Decorated2}
    (e : after_decorated ρ.operation (choices_after T.table d ρ.next ρ.operation) x.a (annotation_at w.cells x.u)
    (order1' (annotation_at w.cells x.s)) (order2' (annotation_at w.cells x.t)) ≡ some v) where
  abbrev old : List Guided
  old = w.cells

  abbrev choices : List (ℕ → ℕ)
  choices = choices_after T.table d ρ.next ρ.operation

  abbrev new : List Guided
  new = added T.table d ρ.next ρ.operation (length old) x

  abbrev root : ℕ
  root = root_after ρ.operation (length old) x.u x.t

  exists : {n : ℕ} → n < length (bare old) → n < length old
  exists {n} h = rw (length-map old (λ (g : Guided). g.cell)) at h

  root_annotation : HasValue decorated_kind (old ++ new) root (of2' v)
  unfolding annotation_at
  root_annotation =
      let u : HasValue decorated_kind old x.u (annotation_at old x.u) = record { exists = exists X.u_exists; is = refl } in
      let s : HasValue decorated_kind old x.s (of1' (order1' (annotation_at old x.s))) =
      record { exists = exists X.s_exists; is = annotation_of1' (annotation_at old x.s) (annotation_order_lem old x.s (exists X.s_exists) ∙ X.s_order) } in
      let t : HasValue decorated_kind old x.t (of2' (order2' (annotation_at old x.t))) =
      record { exists = exists X.t_exists; is = annotation_of2' (annotation_at old x.t) (annotation_order_lem old x.t (exists X.t_exists) ∙ X.t_order) } in
      let r = root_stands decorated_kind (choices_of choices) x.a u s t ρ.operation in
      let q = after_annotation ρ.operation choices x.a (annotation_at old x.u) (order1' (annotation_at old x.s)) (order2' (annotation_at old x.t)) e in
      subst (λ (l : List Guided). HasValue decorated_kind (old ++ l) root (of2' v))
      (sym (added_make T.table d ρ.next ρ.operation (length old) x)) (record { exists = r.exists; is = r.is ∙ q })

  new_bare : bare new ≡ cells_after ρ.operation (length old) x.a x.u x.s x.t
  new_bare =
      ap (λ (l : List Guided). bare l) (added_make T.table d ρ.next ρ.operation (length old) x)
      ∙ make_from_bare 0 (choices_of choices) (cells_after ρ.operation (length old) x.a x.u x.s x.t)

  new_formed : Formed (bare (old ++ new))
  new_formed =
      let takes : Takes ρ.operation (order_at (bare old) x.u) = subst (Takes ρ.operation) (annotation_order_lem old x.u (exists X.u_exists))
      (after_takes ρ.operation choices x.a (annotation_at old x.u) (order1' (annotation_at old x.s)) (order2' (annotation_at old x.t)) e) in
      let l : length (bare old) ≡ length old = length-map old (λ (g : Guided). g.cell) in
      subst Formed
      (ap (λ (k : ℕ). bare old ++ cells_after ρ.operation k x.a x.u x.s x.t) l
      ∙ ap (λ (m : List Cell). bare old ++ m) (sym new_bare) ∙ sym (map-append (λ g. g.cell) old new))
      (formed_after x.a F.formed X ρ.operation takes)

  pub moved_formed : WalkFormed (moved rules T w x d ρ)
  unfolding moved added annotation_at annotation_order'
  moved_formed =
      record {
        formed = new_formed;
        root_exists = root_annotation.exists;
        root_order = sym (annotation_order_lem (old ++ new) root root_annotation.exists) ∙ ap annotation_order' root_annotation.is;
      }

  pub moved_decorated : decorated_of (moved rules T w x d ρ) ≡ record { control = ρ.next; stack = v }
  unfolding moved added decorated_of annotation_at order2'
  moved_decorated = λ i. record { control = ρ.next; stack = ap order2' root_annotation.is i }

-- ---- the answers of both

-- The answers agree. Where the decorated walk is stuck at a collapse whose annotation has the wrong order, the step on cells goes on; no walk
-- that arrives comes there.
pub data SameNext : Next → DecoratedNext → Type 0 where
  both_arrive : SameNext arrived arrived'
  both_go : {n : ℕ} {v : Walk} {z : DecoratedWalk} → WalkFormed v → decorated_of v ≡ z → SameNext (to n v) (to' n z)
  both_stuck : SameNext stuck stuck'
  wrong_order : {n : ℕ} {v : Walk} → SameNext (to n v) stuck'

module _ (rules : List Rule) (T : Saturated) (w : Walk) (F : WalkFormed w) where
  same_after : (x : Top) → TopFormed (bare w.cells) x.u x.s x.t → (d : Derivation) (ρ : Rule) (n : ℕ) (o : Option Decorated2)
      → after_decorated ρ.operation (choices_after T.table d ρ.next ρ.operation) x.a (annotation_at w.cells x.u)
      (order1' (annotation_at w.cells x.s)) (order2' (annotation_at w.cells x.t)) ≡ o
      → SameNext (to n (moved rules T w x d ρ)) (leaves n ρ.next o)
  unfolding leaves
  same_after x X d ρ n none e = wrong_order
  same_after x X d ρ n (some v) e = both_go (moved_formed rules T w F x X d ρ e) (moved_decorated rules T w F x X d ρ e)

  same_rule : (x : Top) → TopFormed (bare w.cells) x.u x.s x.t → (d : Derivation) (o : Option Rule) → get_elem? rules d.rule ≡ o
      → SameNext (by_derivation rules T w x (some d)) (byDerivation' rules T (decorated_top w.cells x) (some d))
  unfolding by_derivation byDerivation' decorated_top
  same_rule x X d none e = rw (by_derivation, byDerivation', e) both_stuck
  same_rule x X d (some ρ) e = rw (by_derivation, byDerivation', e) (same_after x X d ρ d.rule _ refl)

  same_derivation : (x : Top) → TopFormed (bare w.cells) x.u x.s x.t → (o : Option Derivation)
      → SameNext (by_derivation rules T w x o) (byDerivation' rules T (decorated_top w.cells x) o)
  unfolding by_derivation byDerivation'
  same_derivation x X none = both_stuck
  same_derivation x X (some d) = same_rule x X d (get_elem? rules d.rule) refl

  same_at : {o : Option Top} {z : Option DecoratedTop} → SameTop w.cells o z → SameNext (at_top rules T w o) (atTop' rules T z)
  unfolding at_top atTop' decorated_top
  same_at no_top = both_arrive
  same_at (a_top x X) = by_test (ltb x.move (own_moves T.sizes))
      (λ e. rw (at_top, atTop', e) both_arrive)
      (λ e. rw (at_top, atTop', e) (same_derivation x X (first_derivation (before T x.move) rules (result_of T.table (move_at T.table x.move)))))

  -- the step on cells is the decorated step
  pub same_next : SameNext (next rules T w) (next' rules T (decorated_of w))
  unfolding next next' decorated_of
  same_next = same_at (same_top T.table w F)
