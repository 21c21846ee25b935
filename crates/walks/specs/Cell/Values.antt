-- Values that cells get by one left-to-right pass, each by those of the cells that it refers to: what holds for every kind of value.
-- Stacks are one kind, and stacks whose cells carry choices another.
-- Assumes nothing.
use Prim.Native.Nat.{ℕ, zero, suc, ◌+◌, ◌<◌}
use Rattle.std.specs.Prelude.{◌≡◌, get_or, take}
use Rattle.std.proofs.Math.Path.{refl, ap₂, sym}
use Rattle.std.proofs.Common.{ap, ◌∙◌, subst, add-zero, not-suc-le-zero, le_of_suc-le-suc, get_or-take}
use mathlib.Core.List.{List, [], ◌∷◌, ◌++◌, map, append-nil, append_assoc}
use Rattle.std.proofs.Math.Nat.{zero-add}
use native.Mathlib.Omega.{arith}
use Rattle.std.proofs.Math.ListN.{length, length-append, get_or-append}
use Rattle.std.proofs.Math.Seq.{get_or_at, take_at}
use Rattle.stacks.specs.Stack.{Operation, rewrite, push1, push2, copy, pop1, pop2, collapse1, collapse2}
use Rattle.walks.specs.Cell.{Cell, empty1, symbol, empty2, above, cells_after, root_after}
use Rattle.walks.specs.Cell.Formed.{Refers, Formed}

-- ---- one left-to-right pass, in which f gives the value of an element by those of the elements before it

module _ {A B : Type 0} (f : List B → A → B) where
  -- the values xs, then those of the elements that follow them
  unfoldable pub pass : List B → List A → List B
  pass xs [] = xs
  pass xs (c ∷ cs) = pass (xs ++ (f xs c ∷ [])) cs

  pub pass_append : (xs : List B) (cs ds : List A) → pass xs (cs ++ ds) ≡ pass (pass xs cs) ds
  unfolding pass
  pass_append xs [] ds = refl
  pass_append xs (c ∷ cs) ds = pass_append (xs ++ (f xs c ∷ [])) cs ds

  pub length_pass : (xs : List B) (cs : List A) → length (pass xs cs) ≡ length xs + length cs
  unfolding pass
  length_pass xs [] = sym (add-zero (length xs))
  length_pass xs (c ∷ cs) =
      let p : length (pass (xs ++ (f xs c ∷ [])) cs) ≡ length (xs ++ (f xs c ∷ [])) + length cs = length_pass (xs ++ (f xs c ∷ [])) cs in
      let q : length (xs ++ (f xs c ∷ [])) ≡ length xs + 1 = length-append xs (f xs c ∷ []) in
      omega arith

  pub pass_extends : (xs : List B) (cs : List A) → (ys : List B) × (pass xs cs ≡ xs ++ ys)
  unfolding pass
  pass_extends xs [] = ([], sym (append-nil xs))
  pass_extends xs (c ∷ cs) =
      let r = pass_extends (xs ++ (f xs c ∷ [])) cs in
      (f xs c ∷ r.0, r.1 ∙ append_assoc xs (f xs c ∷ []) r.0)

  -- the value of each element is what f gives by the values before it
  pub pass_at : (xs : List B) (cs : List A) (d : B) (c : A) (n k : ℕ) → n < length cs → length xs + n ≡ k
      → get_or (pass xs cs) k d ≡ f (take k (pass xs cs)) (get_or cs n c)
  unfolding pass
  pass_at xs [] d c n k h e = absurd (not-suc-le-zero h)
  pass_at xs (x ∷ cs) d c zero k h e =
      let r = pass_extends (xs ++ (f xs x ∷ [])) cs in
      let p : pass (xs ++ (f xs x ∷ [])) cs ≡ xs ++ (f xs x ∷ r.0) = r.1 ∙ append_assoc xs (f xs x ∷ []) r.0 in
      let l : length xs ≡ k = sym (add-zero (length xs)) ∙ e in
      rw (p, get_or_at xs (f xs x) r.0 d k l, take_at xs (f xs x ∷ r.0) k l)
  pass_at xs (x ∷ cs) d c (suc n) k h e =
      let q : length (xs ++ (f xs x ∷ [])) ≡ length xs + 1 = length-append xs (f xs x ∷ []) in
      pass_at (xs ++ (f xs x ∷ [])) cs d c n k (le_of_suc-le-suc h) (omega arith)

pub pass_same : {A B : Type 0} (f g : List B → A → B) → ((xs : List B) (c : A) → f xs c ≡ g xs c) → (xs : List B) (cs : List A) → pass f xs cs ≡ pass g xs cs
unfolding pass
pass_same f g h xs [] = refl
pass_same {B = B} f g h xs (c ∷ cs) = ap (λ (x : B). pass f (xs ++ (x ∷ [])) cs) (h xs c) ∙ pass_same f g h (xs ++ (g xs c ∷ [])) cs

pub get_or_map_below : {A B : Type 0} (f : A → B) (l : List A) (i : ℕ) (d : A) (e : B) → i < length l → get_or (map f l) i e ≡ f (get_or l i d)
get_or_map_below f [] i d e h = absurd (not-suc-le-zero h)
get_or_map_below f (x ∷ xs) zero d e h = refl
get_or_map_below f (x ∷ xs) (suc i) d e h = get_or_map_below f xs i d e (le_of_suc-le-suc h)

-- ---- kinds of values

-- A kind of value: an element of C is a cell with something of F; an empty stack has the value none1 or none2, and another cell a value by
-- those of the cells that it refers to.
pub record Valuation (C F X : Type 0) : Type 0 where
  pub cell : C → Cell
  pub extra : C → F
  pub make : Cell → F → C
  pub cell_make : (c : Cell) (f : F) → cell (make c f) ≡ c
  pub extra_make : (c : Cell) (f : F) → extra (make c f) ≡ f
  pub none1 : X
  pub none2 : X
  pub symbol_by : F → ℕ → X → X → X
  pub above_by : F → X → X → X

module _ {C F X : Type 0} (K : Valuation C F X) where
  unfoldable pub value_at : List X → ℕ → X
  value_at xs n = get_or xs n K.none1

  -- the value of a cell with f, by the values of the cells before it
  unfoldable pub value_by : List X → Cell → F → X
  value_by xs empty1 f = K.none1
  value_by xs (symbol a u s) f = K.symbol_by f a (value_at xs u) (value_at xs s)
  value_by xs empty2 f = K.none2
  value_by xs (above w t) f = K.above_by f (value_at xs w) (value_at xs t)

  unfoldable pub value_of : List X → C → X
  value_of xs c = value_by xs (K.cell c) (K.extra c)

  unfoldable pub values : List C → List X
  values cs = pass value_of [] cs

  pub value_of_make : (xs : List X) (c : Cell) (f : F) → value_of xs (K.make c f) ≡ value_by xs c f
  unfolding value_of
  value_of_make xs c f = rw (K.cell_make c f, K.extra_make c f)

  pub length_values : (cs : List C) → length (values cs) ≡ length cs
  unfolding values
  length_values cs = length_pass value_of [] cs ∙ zero-add (length cs)

  pub values_append : (cs more : List C) → values (cs ++ more) ≡ pass value_of (values cs) more
  unfolding values
  values_append cs more = pass_append value_of [] cs more

  -- adding cells changes no earlier one
  pub values_extend : (cs more : List C) → (xs : List X) × (values (cs ++ more) ≡ values cs ++ xs)
  values_extend cs more = let r = pass_extends value_of (values cs) more in (r.0, values_append cs more ∙ r.1)

  pub value_kept : (cs more : List C) (n : ℕ) → n < length cs → value_at (values (cs ++ more)) n ≡ value_at (values cs) n
  unfolding value_at
  value_kept cs more n h =
      let r = values_extend cs more in
      rw r.1 (get_or-append (values cs) r.0 K.none1 n (rw (length_values cs) h))

  pub value_before : (cs : List C) (d : C) (n : ℕ) → n < length cs → value_at (values cs) n ≡ value_of (take n (values cs)) (get_or cs n d)
  unfolding value_at values
  value_before cs d n h = pass_at value_of [] cs K.none1 d n n h (zero-add n)

  -- by lower cells alone
  value_by_take : (xs : List X) (cells : List Cell) (n : ℕ) (c : Cell) (f : F) → Refers cells n c → value_by (take n xs) c f ≡ value_by xs c f
  unfolding value_by value_at
  value_by_take xs cells n empty1 f h = refl
  value_by_take xs cells n (symbol a u s) f h = ap₂ (K.symbol_by f a) (get_or-take n xs u K.none1 h.0) (get_or-take n xs s K.none1 h.1)
  value_by_take xs cells n empty2 f h = refl
  value_by_take xs cells n (above w t) f h = ap₂ (K.above_by f) (get_or-take n xs w K.none1 h.0) (get_or-take n xs t K.none1 h.1)

  -- where cells refer to lower ones, each has the value that the values of all give it
  pub value_at_lem : (cs : List C) (d : C) → Formed (map K.cell cs) → (n : ℕ) → n < length cs → value_at (values cs) n ≡ value_of (values cs) (get_or cs n d)
  unfolding value_of
  value_at_lem cs d x n h =
      value_before cs d n h
      ∙ value_by_take (values cs) (map K.cell cs) n (K.cell (get_or cs n d)) (K.extra (get_or cs n d))
      (subst (Refers (map K.cell cs) n) (get_or_map_below K.cell cs n d empty1 h) (x.refers n))

  -- ---- the new cells of an operation

  -- cell n has the value v
  pub record HasValue (cs : List C) (n : ℕ) (v : X) : Type 0 where
    pub exists : n < length cs
    pub is : value_at (values cs) n ≡ v

  pub stands_kept : {cs : List C} {n : ℕ} {v : X} (more : List C) → HasValue cs n v → HasValue (cs ++ more) n v
  stands_kept {cs} {n} more x =
      let l : length (cs ++ more) ≡ length cs + length more = length-append cs more in
      let h = x.exists in
      record { exists = omega arith; is = value_kept cs more n h ∙ x.is }

  pub stands_new : (cs : List C) (c : Cell) (f : F) {n : ℕ} → length cs ≡ n → HasValue (cs ++ K.make c f ∷ []) n (value_by (values cs) c f)
  unfolding value_at pass
  stands_new cs c f {n} e =
      let l : length (cs ++ K.make c f ∷ []) ≡ length cs + 1 = length-append cs (K.make c f ∷ []) in
      record {
        exists = omega arith;
        is = rw (values_append cs (K.make c f ∷ []))
            (get_or_at (values cs) (value_of (values cs) (K.make c f)) [] K.none1 n (length_values cs ∙ e) ∙ value_of_make (values cs) c f);
      }

  pub stands_symbol : {cs : List C} {u s n : ℕ} {U S : X} (f : F) (a : ℕ) → HasValue cs u U → HasValue cs s S → length cs ≡ n
      → HasValue (cs ++ K.make (symbol a u s) f ∷ []) n (K.symbol_by f a U S)
  unfolding value_by
  stands_symbol {cs} {u} {s} f a x y e =
      let r = stands_new cs (symbol a u s) f e in
      record { exists = r.exists; is = r.is ∙ ap₂ (K.symbol_by f a) x.is y.is }

  pub stands_above : {cs : List C} {w t n : ℕ} {W T : X} (f : F) → HasValue cs w W → HasValue cs t T → length cs ≡ n
      → HasValue (cs ++ K.make (above w t) f ∷ []) n (K.above_by f W T)
  unfolding value_by
  stands_above {cs} {w} {t} f x y e =
      let r = stands_new cs (above w t) f e in
      record { exists = r.exists; is = r.is ∙ ap₂ (K.above_by f) x.is y.is }

  -- cells added one after another
  stands_then : (cs : List C) (c : C) (more : List C) {n : ℕ} {v : X} → HasValue (cs ++ c ∷ [] ++ more) n v → HasValue (cs ++ c ∷ more) n v
  stands_then cs c more {n} {v} x = subst (λ (l : List C). HasValue l n v) (append_assoc cs (c ∷ []) more) x

  length_more : (cs : List C) (c : C) → length (cs ++ c ∷ []) ≡ length cs + 1
  length_more cs c = length-append cs (c ∷ [])

  -- the cells with f i, f (i + 1) and so on
  unfoldable pub make_from : ℕ → (ℕ → F) → List Cell → List C
  make_from i f [] = []
  make_from i f (c ∷ cs) = K.make c (f i) ∷ make_from (suc i) f cs

  -- the value of the root that an operation leaves of symbol a with U, then S, then T
  unfoldable pub root_value : Operation → (ℕ → F) → ℕ → X → X → X → X
  root_value (rewrite b) f a U S T = K.above_by (f 1) (K.symbol_by (f 0) b U S) T
  root_value (push1 b) f a U S T = K.above_by (f 2) (K.symbol_by (f 1) b S (K.symbol_by (f 0) a U S)) T
  root_value (push2 b) f a U S T = K.above_by (f 2) (K.symbol_by (f 1) b T (K.symbol_by (f 0) a U S)) T
  root_value copy f a U S T = K.above_by (f 3) (K.symbol_by (f 2) a U S) (K.above_by (f 1) (K.symbol_by (f 0) a U S) T)
  root_value pop1 f a U S T = K.above_by (f 0) S T
  root_value pop2 f a U S T = T
  root_value collapse1 f a U S T = K.above_by (f 0) U T
  root_value collapse2 f a U S T = U

  module _ (f : ℕ → F) (a : ℕ) {cs : List C} {u s t : ℕ} {U S T : X} (x : HasValue cs u U) (y : HasValue cs s S) (z : HasValue cs t T) where
    -- a push: b annotated by cell v, then a annotated u, then s
    push_stands : (b : ℕ) {v : ℕ} {N : X} → HasValue cs v N
        → HasValue (cs ++ K.make (symbol a u s) (f 0) ∷ K.make (symbol b v (length cs)) (f 1) ∷ K.make (above (length cs + 1) t) (f 2) ∷ [])
        (length cs + 2) (K.above_by (f 2) (K.symbol_by (f 1) b N (K.symbol_by (f 0) a U S)) T)
    push_stands b {v} {N} k =
        let n : ℕ = length cs in
        let c : C = K.make (symbol a u s) (f 0) in
        let d : C = K.make (symbol b v n) (f 1) in
        let r : C = K.make (above (n + 1) t) (f 2) in
        let l = length_more cs c in
        let m = length_more (cs ++ c ∷ []) d in
        let e : length (cs ++ c ∷ [] ++ d ∷ []) ≡ n + 2 = omega arith in
        let p = stands_symbol (f 1) b (stands_kept (c ∷ []) k) (stands_symbol (f 0) a x y refl) l in
        stands_then cs c (d ∷ r ∷ []) (stands_then (cs ++ c ∷ []) d (r ∷ [])
        (stands_above (f 2) p (stands_kept (d ∷ []) (stands_kept (c ∷ []) z)) e))

    copy_stands : HasValue
        (cs ++ K.make (symbol a u s) (f 0) ∷ K.make (above (length cs) t) (f 1) ∷ K.make (symbol a u s) (f 2)
        ∷ K.make (above (length cs + 2) (length cs + 1)) (f 3) ∷ [])
        (length cs + 3) (K.above_by (f 3) (K.symbol_by (f 2) a U S) (K.above_by (f 1) (K.symbol_by (f 0) a U S) T))
    copy_stands =
        let n : ℕ = length cs in
        let c : C = K.make (symbol a u s) (f 0) in
        let d : C = K.make (above n t) (f 1) in
        let g : C = K.make (symbol a u s) (f 2) in
        let r : C = K.make (above (n + 2) (n + 1)) (f 3) in
        let l = length_more cs c in
        let m = length_more (cs ++ c ∷ []) d in
        let k = length_more (cs ++ c ∷ [] ++ d ∷ []) g in
        let e : length (cs ++ c ∷ [] ++ d ∷ []) ≡ n + 2 = omega arith in
        let h : length (cs ++ c ∷ [] ++ d ∷ [] ++ g ∷ []) ≡ n + 3 = omega arith in
        let p = stands_above (f 1) (stands_symbol (f 0) a x y refl) (stands_kept (c ∷ []) z) l in
        let q = stands_symbol (f 2) a (stands_kept (d ∷ []) (stands_kept (c ∷ []) x)) (stands_kept (d ∷ []) (stands_kept (c ∷ []) y)) e in
        stands_then cs c (d ∷ g ∷ r ∷ []) (stands_then (cs ++ c ∷ []) d (g ∷ r ∷ []) (stands_then (cs ++ c ∷ [] ++ d ∷ []) g (r ∷ [])
        (stands_above (f 3) q (stands_kept (g ∷ []) p) h)))

    pub root_stands : (op : Operation)
        → HasValue (cs ++ make_from 0 f (cells_after op (length cs) a u s t)) (root_after op (length cs) u t) (root_value op f a U S T)
    unfolding cells_after root_after root_value make_from
    root_stands (rewrite b) =
        let c : C = K.make (symbol b u s) (f 0) in
        stands_then cs c (K.make (above (length cs) t) (f 1) ∷ [])
        (stands_above (f 1) (stands_symbol (f 0) b x y refl) (stands_kept (c ∷ []) z) (length_more cs c))
    root_stands (push1 b) = push_stands b y
    root_stands (push2 b) = push_stands b z
    root_stands copy = copy_stands
    root_stands pop1 = stands_above (f 0) y z refl
    root_stands pop2 = stands_kept [] z
    root_stands collapse1 = stands_above (f 0) x z refl
    root_stands collapse2 = stands_kept [] x
