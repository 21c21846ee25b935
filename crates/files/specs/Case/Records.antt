-- What the tests of a case's head, rules, edges and moves say, one record at a time, and the order of entries and inner edges.
-- Assumes nothing.
use Rattle.std.specs.Prelude.{ℕ, zero, suc, ◌+◌, ◌<◌, ◌≤◌, Bool, true, false, not, ◌&&◌, ◌||◌, ◌≡◌, refl, ◌⊎◌, eqb, ltb, leb}
use Rattle.std.proofs.lemmas.Bool.{false≢true, eqb-false, not-true}
use Rattle.std.proofs.Common.{ap, sym, arith, eqb-true, ltb-true, ltb-false, leb-true, lt-ltb, le-ltb}
use Rattle.std.proofs.Math.Logic.{⊎_map}
use mathlib.Core.List.Memᴰ
use mathlib.Core.List.{List, map, Memᴰ}
use Rattle.words.proofs.Sets.Laws.{All, has_in}
use Rattle.words.specs.Lists.{only}
use Rattle.words.specs.Lists.Laws.{every_in, only_out}
use Rattle.words.specs.Laws.Tests.{and_left, and_right, or_cases}
use Rattle.words.specs.Order.{rising}
use Rattle.words.specs.Order.Laws.{sorted_rising, sorted_out}
use Rattle.automata.specs.Automaton.{Move, Edge, Entry, choice_key}
use Rattle.files.specs.Case.{Head, inner1, inner2, existing2, head_right, RuleBytes, rule_right, EdgeBytes, edge_right, entries_of, inner_edges, annotation_right, move_right}

-- ---- sets of inner states

-- an inner order-1 state
abbrev pub Inner1 : Head → ℕ → Type 0
Inner1 h r = r < h.J

-- an inner order-2 state
abbrev pub Inner2 : Head → ℕ → Type 0
Inner2 h q = (h.P ≤ q) × (q < h.P + h.I)

pub inner1_all : (h : Head) (s : ℕ) → inner1 h s ≡ true → All s (Inner1 h)
unfolding inner1
inner1_all h s e r i = ltb-true r h.J (every_in (λ q. ltb q h.J) e (has_in i))

pub inner2_all : (h : Head) (s : ℕ) → inner2 h s ≡ true → All s (Inner2 h)
unfolding inner2
inner2_all h s e q i =
    let f = every_in (λ q. leb h.P q && ltb q (h.P + h.I)) e (has_in i) in
    (leb-true h.P q (and_left (leb h.P q) _ f), ltb-true q (h.P + h.I) (and_right (leb h.P q) _ f))

pub existing2_all : (h : Head) (s : ℕ) → existing2 h s ≡ true → All s (λ q. q < h.P + h.I)
unfolding existing2
existing2_all h s e q i = ltb-true q (h.P + h.I) (every_in (λ q. ltb q (h.P + h.I)) e (has_in i))

-- ---- body 1

pub record HeadBounds (h : Head) : Type 0 where
  pub controls_some : 1 ≤ h.P
  pub controls_few : h.P ≤ 8
  pub inner2_few : h.I ≤ 8
  pub inner1_few : h.J ≤ 16
  pub symbols_some : 1 ≤ h.A
  pub symbols_few : h.A ≤ 32
  pub final2_exists : All h.final2 (λ q. q < h.P + h.I)
  pub final1_inner : All h.final1 (Inner1 h)

pub head_bounds : (h : Head) → head_right h ≡ true → HeadBounds h
unfolding head_right
head_bounds h e =
    let a : Bool = leb 1 h.P in
    let b : Bool = a && leb h.P 8 in
    let c : Bool = b && leb h.I 8 in
    let d : Bool = c && leb h.J 16 in
    let f : Bool = d && leb 1 h.A in
    let g : Bool = f && leb h.A 32 in
    let i : Bool = g && existing2 h h.final2 in
    let ei = and_left i _ e in
    let eg = and_left g _ ei in
    let ef = and_left f _ eg in
    let ed = and_left d _ ef in
    let ec = and_left c _ ed in
    let eb = and_left b _ ec in
    record {
      controls_some = leb-true 1 h.P (and_left a _ eb);
      controls_few = leb-true h.P 8 (and_right a _ eb);
      inner2_few = leb-true h.I 8 (and_right b _ ec);
      inner1_few = leb-true h.J 16 (and_right c _ ed);
      symbols_some = leb-true 1 h.A (and_right d _ ef);
      symbols_few = leb-true h.A 32 (and_right f _ eg);
      final2_exists = existing2_all h h.final2 (and_right g _ ei);
      final1_inner = inner1_all h h.final1 (and_right i _ e);
    }

-- ---- a rule

pub record RuleBounds (h : Head) (x : RuleBytes) : Type 0 where
  pub control_exists : x.p < h.P
  pub symbol_exists : x.a < h.A
  pub code_least : 1 ≤ x.code
  pub code_most : x.code ≤ 8
  pub next_exists : x.next < h.P
  pub b_exists : x.code < 4 → x.b < h.A
  pub b_unused : 4 ≤ x.code → x.b ≡ 0

pub rule_bounds : (h : Head) (x : RuleBytes) → rule_right h x ≡ true → RuleBounds h x
unfolding rule_right
rule_bounds h x e =
    let a : Bool = ltb x.p h.P in
    let b : Bool = a && ltb x.a h.A in
    let c : Bool = b && leb 1 x.code in
    let d : Bool = c && leb x.code 8 in
    let f : Bool = d && ltb x.next h.P in
    let ef = and_left f _ e in
    let ed = and_left d _ ef in
    let ec = and_left c _ ed in
    let eb = and_left b _ ec in
    let last = and_right f _ e in
    record {
      control_exists = ltb-true x.p h.P (and_left a _ eb);
      symbol_exists = ltb-true x.a h.A (and_right a _ eb);
      code_least = leb-true 1 x.code (and_right b _ ec);
      code_most = leb-true x.code 8 (and_right c _ ed);
      next_exists = ltb-true x.next h.P (and_right d _ ef);
      b_exists = λ l. ltb-true x.b h.A (rw (lt-ltb x.code 4 l) at last);
      b_unused = λ l. eqb-true x.b 0 (rw (le-ltb x.code 4 l) at last);
    }

-- ---- an edge

pub record EdgeBounds (h : Head) (x : EdgeBytes) : Type 0 where
  pub entry_second : x.state < h.P → (x.first ≡ 254) ⊎ (x.first ≡ 255)
  pub inner_second : h.P ≤ x.state → Inner1 h x.first
  pub state_exists : x.state < h.P + h.I
  pub set_inner : All x.S (Inner2 h)

pub edge_bounds : (h : Head) (x : EdgeBytes) → edge_right h x ≡ true → EdgeBounds h x
unfolding edge_right
edge_bounds h x e =
    let a : Bool = elim (ltb x.state h.P) [ true ↦ eqb x.first 254 || eqb x.first 255 | false ↦ ltb x.first h.J ] in
    let b : Bool = a && ltb x.state (h.P + h.I) in
    let eb = and_left b _ e in
    let ea = and_left a _ eb in
    record {
      entry_second = λ l. ⊎_map (eqb-true x.first 254) (eqb-true x.first 255)
          (or_cases (eqb x.first 254) (eqb x.first 255) (rw (lt-ltb x.state h.P l) at ea));
      inner_second = λ l. ltb-true x.first h.J (rw (le-ltb x.state h.P l) at ea);
      state_exists = ltb-true x.state (h.P + h.I) (and_right a _ eb);
      set_inner = inner2_all h x.S (and_right b _ e);
    }

-- ---- a move

-- of an annotation of order k and its set
pub record AnnotationBounds (h : Head) (k B : ℕ) : Type 0 where
  pub order_small : k ≤ 2
  pub none_empty : k ≡ 0 → B ≡ 0
  pub empty_none : B ≡ 0 → k ≡ 0
  pub annotation1_inner : k ≡ 1 → All B (Inner1 h)
  pub annotation2_inner : k ≡ 2 → All B (Inner2 h)

pub annotation_bounds : (h : Head) (k B : ℕ) → annotation_right h k B ≡ true → AnnotationBounds h k B
unfolding annotation_right
annotation_bounds h zero B e =
    record {
      order_small = omega arith;
      none_empty = λ z. eqb-true B 0 e;
      empty_none = λ z. refl;
      annotation1_inner = λ z. absurd (omega arith);
      annotation2_inner = λ z. absurd (omega arith);
    }
annotation_bounds h (suc zero) B e =
    let n = eqb-false B 0 (not-true (eqb B 0) (and_left (not (eqb B 0)) _ e)) in
    record {
      order_small = omega arith;
      none_empty = λ z. absurd (omega arith);
      empty_none = λ z. absurd (n z);
      annotation1_inner = λ z. inner1_all h B (and_right (not (eqb B 0)) _ e);
      annotation2_inner = λ z. absurd (omega arith);
    }
annotation_bounds h (suc (suc zero)) B e =
    let n = eqb-false B 0 (not-true (eqb B 0) (and_left (not (eqb B 0)) _ e)) in
    record {
      order_small = omega arith;
      none_empty = λ z. absurd (omega arith);
      empty_none = λ z. absurd (n z);
      annotation1_inner = λ z. absurd (omega arith);
      annotation2_inner = λ z. inner2_all h B (and_right (not (eqb B 0)) _ e);
    }
annotation_bounds h (suc (suc (suc k))) B e = absurd (false≢true e)

pub record MoveBounds (h : Head) (n : ℕ) (m : Move) : Type 0 where
  pub state_exists : m.state < n
  pub symbol_exists : m.symbol < h.A
  pub annotation : AnnotationBounds h m.order m.B
  pub rest_inner : All m.R (Inner1 h)

pub move_bounds : (h : Head) (n : ℕ) (m : Move) → move_right h n m ≡ true → MoveBounds h n m
unfolding move_right
move_bounds h n m e =
    let a : Bool = ltb m.state n in
    let b : Bool = a && ltb m.symbol h.A in
    let c : Bool = b && annotation_right h m.order m.B in
    let ec = and_left c _ e in
    let eb = and_left b _ ec in
    record {
      state_exists = ltb-true m.state n (and_left a _ eb);
      symbol_exists = ltb-true m.symbol h.A (and_right a _ eb);
      annotation = annotation_bounds h m.order m.B (and_right b _ ec);
      rest_inner = inner1_all h m.R (and_right c _ e);
    }

-- ---- entries and inner edges

pub entries_out : (h : Head) (xs : List EdgeBytes) {e : Entry} → Memᴰ e (entries_of h xs)
    → (x : EdgeBytes) × Memᴰ x xs × (x.state < h.P) × (e.control ≡ x.state) × (e.S ≡ x.S)
unfolding entries_of
entries_out h xs {e} j =
    let r = Memᴰ.of_map (λ (x : EdgeBytes). record { control = x.state; S = x.S }) (only (λ x. ltb x.state h.P) xs) j in
    let o = only_out (λ x. ltb x.state h.P) xs r.1 in
    (r.0, o.0, ltb-true r.0.state h.P o.1, ap (λ (y : Entry). y.control) (sym r.2), ap (λ (y : Entry). y.S) (sym r.2))

pub inner_out : (h : Head) (xs : List EdgeBytes) {e : Edge} → Memᴰ e (inner_edges h xs)
    → (x : EdgeBytes) × Memᴰ x xs × (h.P ≤ x.state) × (e ≡ record { state = x.state; first = x.first; S = x.S })
unfolding inner_edges
inner_out h xs {e} j =
    let l : List EdgeBytes = only (λ x. not (ltb x.state h.P)) xs in
    let f : EdgeBytes → Edge = λ x. record { state = x.state; first = x.first; S = x.S } in
    let r = Memᴰ.of_map f l (sorted_out choice_key (map f l) j) in
    let o = only_out (λ x. not (ltb x.state h.P)) xs r.1 in
    (r.0, o.0, ltb-false r.0.state h.P (not-true (ltb r.0.state h.P) o.1), sym r.2)

pub inner_edges_rising : (h : Head) (xs : List EdgeBytes) → rising choice_key (inner_edges h xs) ≡ true
unfolding inner_edges
inner_edges_rising h xs =
    sorted_rising choice_key
    (map (λ (x : EdgeBytes). record { state = x.state; first = x.first; S = x.S }) (only (λ x. not (ltb x.state h.P)) xs))
