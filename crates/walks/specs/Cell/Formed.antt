-- Cells that refer to lower cells of the right order, which the new cells of an operation keep.
-- Assumes nothing.
use Prim.Native.Nat.{ℕ, zero, suc, ◌+◌, ◌-◌, ◌<◌, ◌≤◌}
use Rattle.std.specs.Prelude.{◌≡◌, ◌⊎◌, get_or, ltb}
use Rattle.std.proofs.Math.Path.{refl}
use Rattle.std.proofs.Common.{ap, sym, ◌∙◌, subst, inl, inr, add-zero, zero-add, get_or-append-add, ltb-true, ltb-false}
use mathlib.Core.List.{List, [], ◌∷◌, ◌++◌}
use native.Mathlib.Omega.{arith}
use Rattle.std.proofs.Math.ListN.{length, get_or-append, get_or-eq_default}
use Rattle.words.specs.Laws.Tests.{by_test}
use Rattle.stacks.specs.Stack.{Operation, rewrite, push1, push2, copy, pop1, pop2, collapse1, collapse2}
use Rattle.walks.specs.Cell.{Cell, empty1, symbol, empty2, above, cells_after}

-- ---- orders and references

-- the order of the stack that a cell stands for
unfoldable pub cell_order : Cell → ℕ
cell_order empty1 = 1
cell_order (symbol a u s) = 1
cell_order empty2 = 2
cell_order (above w t) = 2

abbrev pub cell_at : List Cell → ℕ → Cell
cell_at cells n = get_or cells n empty1

-- the order of cell n
unfoldable pub order_at : List Cell → ℕ → ℕ
order_at cells n = cell_order (cell_at cells n)

-- cell c, having number n, refers to lower numbers, and the stack of which it is made to cells of the right order
abbrev pub Refers : List Cell → ℕ → Cell → Type 0
Refers cells n empty1 = Unit {0}
Refers cells n (symbol a u s) = (u < n) × (s < n) × (order_at cells s ≡ 1)
Refers cells n empty2 = Unit {0}
Refers cells n (above w t) = (w < n) × (t < n) × (order_at cells w ≡ 1) × (order_at cells t ≡ 2)

-- every cell refers so
pub record Formed (cells : List Cell) : Type 0 where
  pub refers : (n : ℕ) → Refers cells n (cell_at cells n)

pub formed_below : (cells : List Cell) → ((n : ℕ) → n < length cells → Refers cells n (cell_at cells n)) → Formed cells
formed_below cells h = record {
  refers = λ n. by_test (ltb n (length cells))
      (λ e. h n (ltb-true n (length cells) e))
      (λ e. rw (get_or-eq_default cells empty1 (ltb-false n (length cells) e)) tt);
}

pub formed_symbol : {cells : List Cell} {n a u s : ℕ} → Formed cells → cell_at cells n ≡ symbol a u s → (u < n) × (s < n) × (order_at cells s ≡ 1)
formed_symbol {cells} {n} x e = subst (Refers cells n) e (x.refers n)

pub formed_above : {cells : List Cell} {n w t : ℕ} → Formed cells → cell_at cells n ≡ above w t
    → (w < n) × (t < n) × (order_at cells w ≡ 1) × (order_at cells t ≡ 2)
formed_above {cells} {n} x e = subst (Refers cells n) e (x.refers n)

-- ---- the new cells refer to lower ones of the right order

pub order_at_old : (cells more : List Cell) (n : ℕ) → n < length cells → order_at (cells ++ more) n ≡ order_at cells n
unfolding order_at
order_at_old cells more n h = ap cell_order (get_or-append cells more empty1 n h)

pub order_at_new : (cells more : List Cell) (k : ℕ) {n : ℕ} → length cells + k ≡ n → order_at (cells ++ more) n ≡ order_at more k
unfolding order_at
order_at_new cells more k e = rw (← e) (ap cell_order (get_or-append-add cells more k empty1))

-- cells of number n and following, of those given, refer so
abbrev pub ReferFrom : List Cell → ℕ → List Cell → Type 0
ReferFrom cells n [] = Unit {0}
ReferFrom cells n (c ∷ cs) = Refers cells n c × ReferFrom cells (suc n) cs

pub refers_at : (cells : List Cell) (n : ℕ) (cs : List Cell) (k : ℕ) {m : ℕ} → n + k ≡ m → ReferFrom cells n cs → Refers cells m (cell_at cs k)
refers_at cells n [] k e h = tt
refers_at cells n (c ∷ cs) zero e h = subst (λ (m : ℕ). Refers cells m c) (sym (add-zero n) ∙ e) h.0
refers_at cells n (c ∷ cs) (suc k) e h = refers_at cells (suc n) cs k (omega arith) h.1

pub formed : {cells : List Cell} → ReferFrom cells 0 cells → Formed cells
formed {cells} h = record { refers = λ n. refers_at cells 0 cells n (zero-add n) h }

pub refers_old : (cells more : List Cell) (n : ℕ) (c : Cell) → n ≤ length cells → Refers cells n c → Refers (cells ++ more) n c
refers_old cells more n empty1 l h = tt
refers_old cells more n (symbol a u s) l h =
    let k : s < n = h.1 in
    (h.0, k, order_at_old cells more s (omega arith) ∙ h.2)
refers_old cells more n empty2 l h = tt
refers_old cells more n (above w t) l h =
    let j : w < n = h.0 in
    let k : t < n = h.1 in
    (j, k, order_at_old cells more w (omega arith) ∙ h.2, order_at_old cells more t (omega arith) ∙ h.3)

pub formed_append : {cells : List Cell} (more : List Cell) → Formed cells → ReferFrom (cells ++ more) (length cells) more → Formed (cells ++ more)
formed_append {cells} more x h = record { refers = λ n. go n (by_number n) }
  where
    by_number : (n : ℕ) → (n < length cells) ⊎ ((k : ℕ) × (length cells + k ≡ n))
    by_number n = by_test (ltb n (length cells))
        (λ e. inl (ltb-true n (length cells) e))
        (λ e. let l = ltb-false n (length cells) e in inr (n - length cells, omega arith))

    go : (n : ℕ) → (n < length cells) ⊎ ((k : ℕ) × (length cells + k ≡ n)) → Refers (cells ++ more) n (cell_at (cells ++ more) n)
    go n (inl l) = rw (get_or-append cells more empty1 n l) (refers_old cells more n (cell_at cells n) (omega arith) (x.refers n))
    go n (inr r) =
        let e : cell_at (cells ++ more) n ≡ cell_at more r.0 = ap (cell_at (cells ++ more)) (sym r.1) ∙ get_or-append-add cells more r.0 empty1 in
        rw e (refers_at (cells ++ more) (length cells) more r.0 r.1 h)

-- the operation takes an annotation of this order
abbrev pub Takes : Operation → ℕ → Type 0
Takes (rewrite b) k = Unit {0}
Takes (push1 b) k = Unit {0}
Takes (push2 b) k = Unit {0}
Takes copy k = Unit {0}
Takes pop1 k = Unit {0}
Takes pop2 k = Unit {0}
Takes collapse1 k = k ≡ 1
Takes collapse2 k = k ≡ 2

-- cells u, s and t of a top: s has order 1 and t order 2
pub record TopFormed (cells : List Cell) (u s t : ℕ) : Type 0 where
  pub u_exists : u < length cells
  pub s_exists : s < length cells
  pub t_exists : t < length cells
  pub s_order : order_at cells s ≡ 1
  pub t_order : order_at cells t ≡ 2

module _ (a : ℕ) {cells : List Cell} {u s t : ℕ} (x : Formed cells) (y : TopFormed cells u s t) where
  -- the orders of s and t, and of a new cell, where more cells follow
  s_kept : (more : List Cell) → order_at (cells ++ more) s ≡ 1
  s_kept more = order_at_old cells more s y.s_exists ∙ y.s_order

  t_kept : (more : List Cell) → order_at (cells ++ more) t ≡ 2
  t_kept more = order_at_old cells more t y.t_exists ∙ y.t_order

  first_order : (more : List Cell) → order_at (cells ++ more) (length cells) ≡ order_at more 0
  first_order more = order_at_new cells more 0 (add-zero (length cells))

  formed_push : (b v : ℕ) → v < length cells
      → Formed (cells ++ symbol a u s ∷ symbol b v (length cells) ∷ above (length cells + 1) t ∷ [])
  unfolding order_at cell_order
  formed_push b v l =
      let n : ℕ = length cells in
      let more : List Cell = symbol a u s ∷ symbol b v n ∷ above (n + 1) t ∷ [] in
      formed_append more x (
        (y.u_exists, y.s_exists, s_kept more),
        (
          (omega arith, omega arith, first_order more),
          ((omega arith, omega arith, order_at_new cells more 1 refl, t_kept more), tt),
        ),
      )

  pub formed_after : (op : Operation) → Takes op (order_at cells u) → Formed (cells ++ cells_after op (length cells) a u s t)
  unfolding cells_after order_at cell_order
  formed_after (rewrite b) z =
      let n : ℕ = length cells in
      let more : List Cell = symbol b u s ∷ above n t ∷ [] in
      formed_append more x (
        (y.u_exists, y.s_exists, s_kept more),
        ((omega arith, omega arith, first_order more, t_kept more), tt),
      )
  formed_after (push1 b) z = formed_push b s y.s_exists
  formed_after (push2 b) z = formed_push b t y.t_exists
  formed_after copy z =
      let n : ℕ = length cells in
      let more : List Cell = symbol a u s ∷ above n t ∷ symbol a u s ∷ above (n + 2) (n + 1) ∷ [] in
      formed_append more x (
        (y.u_exists, y.s_exists, s_kept more),
        (
          (omega arith, omega arith, first_order more, t_kept more),
          (
            (omega arith, omega arith, s_kept more),
            ((omega arith, omega arith, order_at_new cells more 2 refl, order_at_new cells more 1 refl), tt),
          ),
        ),
      )
  formed_after pop1 z = formed_append (above s t ∷ []) x ((y.s_exists, y.t_exists, s_kept (above s t ∷ []), t_kept (above s t ∷ [])), tt)
  formed_after pop2 z = formed_append [] x tt
  formed_after collapse1 z =
      formed_append (above u t ∷ []) x
      ((y.u_exists, y.t_exists, order_at_old cells (above u t ∷ []) u y.u_exists ∙ z, t_kept (above u t ∷ [])), tt)
  formed_after collapse2 z = formed_append [] x tt
