-- What membership in the list of derivations means: one record for each kind of operation, in both directions.
-- Assumes nothing.
use Prim.Native.Nat.{ℕ, zero, suc, ◌+◌}
use Rattle.std.specs.Prelude.{Bool, true, ◌||◌, ◌≡◌, ◌⊎◌, get_or, eqb}
use Rattle.std.proofs.Math.Bool.{or-true}
use Rattle.std.proofs.Math.Path.{refl, ap, sym}
use Rattle.std.proofs.Common.{◌∙◌, subst, eqb-true, eq-eqb}
use Rattle.std.proofs.Math.Logic.{⊎_elim, ⊎_map}
use Rattle.std.proofs.Math.Option.{Option, none, some, some-injective, none-ne-some}
use mathlib.Core.List.Memᴰ
use mathlib.Core.List.{List, [], ◌∷◌, Memᴰ}
use Rattle.std.proofs.Math.Nat.{add-zero, zero-add}
use native.Mathlib.Omega.{arith}
use Rattle.std.proofs.Math.ListN.{get_elem?}
use Rattle.words.specs.Sets.{join, single, members}
use Rattle.words.specs.Laws.Tests.{or_cases}
use Rattle.words.specs.Lists.{each, when}
use Rattle.words.specs.Lists.Laws.{each_in, each_out, when_in, when_out, first_some, some_first}
use Rattle.words.specs.Order.{same}
use Rattle.words.specs.Order.Laws.{same_eq, eq_same}
use Rattle.stacks.specs.Stack.{Operation, rewrite, push1, push2, copy, pop1, pop2, collapse1, collapse2}
use Rattle.stacks.specs.System.{Rule}
use Rattle.automata.specs.Automaton.{Automaton, Move, no_entry, move_at, entry_set}
use Rattle.automata.specs.Derivation.{Result, result_key, Derivation, Joins, no_joins, joins_of, readings, named, edge_sets, join_all, control_moves, control_entries, conclude, by_rewrite, by_push1, by_push2, by_copy, by_pop1, by_pop2, by_collapse1, by_collapse2, derivations_by, derivations_from, derivations, first_derivation}
use Rattle.automata.specs.Automaton.Laws.{MoveOf, EdgeOf, EntryIs, EntryMove, entry_set_is, entry_move_set}
use Rattle.automata.specs.Derivation.Numbers.{Paired, control_moves_in, control_moves_out, control_entries_in, control_entries_out, readings_in, readings_out, edge_choices_in, edge_choices_out}

-- ---- what a derivation by each operation says

-- the derivation by rule n, which is ρ, with result (joins), S
abbrev pub conclusion : ℕ → Rule → List ℕ → List ℕ → List ℕ → ℕ → Joins → Derivation
conclusion n ρ premise es ms S j =
    record {
      rule = n;
      premise = premise;
      edges = es;
      moves = ms;
      result = record { control = ρ.control; S = S; symbol = ρ.symbol; order = j.order; B = j.B; R = j.R };
    }

-- all of d but its rule's number
pub record Concludes (ρ : Rule) (premise es ms : List ℕ) (S : ℕ) (j : Joins) (d : Derivation) : Type 0 where
  pub premise_is : d.premise ≡ premise
  pub edges_are : d.edges ≡ es
  pub moves_are : d.moves ≡ ms
  pub control_is : d.result.control ≡ ρ.control
  pub set_is : d.result.S ≡ S
  pub symbol_is : d.result.symbol ≡ ρ.symbol
  pub order_is : d.result.order ≡ j.order
  pub B-is : d.result.B ≡ j.B
  pub R-is : d.result.R ≡ j.R

pub concludes : (n : ℕ) (ρ : Rule) (premise es ms : List ℕ) (S : ℕ) (j : Joins) → Concludes ρ premise es ms S j (conclusion n ρ premise es ms S j)
concludes n ρ premise es ms S j =
    record {
      premise_is = refl;
      edges_are = refl;
      moves_are = refl;
      control_is = refl;
      set_is = refl;
      symbol_is = refl;
      order_is = refl;
      B-is = refl;
      R-is = refl;
    }

module _ (A : Automaton) (ρ : Rule) where
  pub record ByRewrite (b : ℕ) (d : Derivation) : Type 0 where
    pub move : ℕ
    pub S : ℕ
    pub premise : EntryMove A ρ.next S b move
    pub concluded : Concludes ρ (move ∷ []) [] [] S (joins_of (move_at A move)) d

  -- a push of order k, where the joins begin with those of `start`, and the result's S is that of `set`
  pub record ByPush (k b : ℕ) (start : Move → Joins) (set : ℕ → Move → ℕ) (d : Derivation) : Type 0 where
    pub move : ℕ
    pub S : ℕ
    pub premise : EntryMove A ρ.next S b move
    pub order_fits_holds : ((move_at A move).order ≡ 0) ⊎ ((move_at A move).order ≡ k)
    pub reading : Paired (MoveOf A ρ.symbol) (members (move_at A move).R) d.moves
    pub joins : Joins
    pub joined : join_all A (start (move_at A move)) d.moves ≡ some joins
    pub concluded : Concludes ρ (move ∷ []) [] d.moves (set S (move_at A move)) joins d

  pub record ByCopy (d : Derivation) : Type 0 where
    pub move : ℕ
    pub S : ℕ
    pub premise : EntryMove A ρ.next S ρ.symbol move
    pub chosen : Paired (EdgeOf A) (members S) d.edges
    pub reading : Paired (MoveOf A ρ.symbol) (members (named A d.edges)) d.moves
    pub joins : Joins
    pub joined : join_all A (joins_of (move_at A move)) d.moves ≡ some joins
    pub concluded : Concludes ρ (move ∷ []) d.edges d.moves (edge_sets A d.edges) joins d

  -- pop 1 and collapse 1, whose joins go by the premise's order-1 state
  pub record ByEntry (joins : ℕ → Joins) (d : Derivation) : Type 0 where
    pub entry : ℕ
    pub S : ℕ
    pub premise : EntryIs A ρ.next S entry
    pub concluded : Concludes ρ (entry ∷ []) [] [] S (joins (A.J + entry)) d

  abbrev pub Says : Operation → Derivation → Type 0
  Says (rewrite b) d = ByRewrite b d
  Says (push1 b) d = ByPush 1 b (λ m. record { order = 0; B = 0; R = m.B }) (λ S m. S) d
  Says (push2 b) d = ByPush 2 b (λ m. no_joins) (λ S m. join S m.B) d
  Says copy d = ByCopy d
  Says pop1 d = ByEntry (λ r. record { order = 0; B = 0; R = single r }) d
  Says pop2 d = Concludes ρ [] [] [] (single ρ.next) no_joins d
  Says collapse1 d = ByEntry (λ r. record { order = 1; B = single r; R = 0 }) d
  Says collapse2 d = Concludes ρ [] [] [] 0 (record { order = 2; B = single ρ.next; R = 0 }) d

  -- a result goes to symbol a of an entry of p, the rule's own
  pub says_goes : (o : Operation) (d : Derivation) → Says o d → (d.result.control ≡ ρ.control) × (d.result.symbol ≡ ρ.symbol)
  says_goes (rewrite b) d h = (h.concluded.control_is, h.concluded.symbol_is)
  says_goes (push1 b) d h = (h.concluded.control_is, h.concluded.symbol_is)
  says_goes (push2 b) d h = (h.concluded.control_is, h.concluded.symbol_is)
  says_goes copy d h = (h.concluded.control_is, h.concluded.symbol_is)
  says_goes pop1 d h = (h.concluded.control_is, h.concluded.symbol_is)
  says_goes pop2 d h = (h.control_is, h.symbol_is)
  says_goes collapse1 d h = (h.concluded.control_is, h.concluded.symbol_is)
  says_goes collapse2 d h = (h.control_is, h.symbol_is)

-- d is by a rule of its number, and says what that rule's operation asks
pub record Derives (A : Automaton) (rules : List Rule) (d : Derivation) : Type 0 where
  pub rule : Rule
  pub numbered : get_elem? rules d.rule ≡ some rule
  pub says : Says A rule rule.operation d

-- ---- every derivation in the list says so

-- what holds of d if it is in one of the lists that f gives
from_each : {C D : Type 0} {l : List C} {f : C → List D} {d : D} {X : Type 0} → Memᴰ d (each l f) → ((x : C) → Memᴰ x l → Memᴰ d (f x) → X) → X
from_each {l = l} {f = f} j k = let r = each_out l f j in k r.0 r.1 r.2

module _ (A : Automaton) (n : ℕ) (ρ : Rule) where
  -- what holds of d if it is concluded
  from_conclude : (X : Derivation → Type 0) {premise es ms : List ℕ} {S : ℕ} (o : Option Joins) {d : Derivation}
      → Memᴰ d (conclude A n ρ premise es ms S o) → ((j : Joins) → o ≡ some j → X (conclusion n ρ premise es ms S j)) → X d
  unfolding conclude
  from_conclude X none i k = absurd (Memᴰ.not-nil i)
  from_conclude X (some j) i k = rw (Memᴰ.eq_of_singleton i) (k j refl)

  concluded_out : {premise es ms : List ℕ} {S : ℕ} {j : Joins} {d : Derivation}
      → Memᴰ d (conclude A n ρ premise es ms S (some j)) → (d.rule ≡ n) × Concludes ρ premise es ms S j d
  unfolding conclude
  concluded_out {premise} {es} {ms} {S} {j} i = rw (Memᴰ.eq_of_singleton i) (refl, concludes n ρ premise es ms S j)

  pub concluded_in : {premise es ms : List ℕ} {S : ℕ} {j : Joins} (o : Option Joins) {d : Derivation} → d.rule ≡ n → o ≡ some j
      → Concludes ρ premise es ms S j d → Memᴰ d (conclude A n ρ premise es ms S o)
  unfolding conclude
  concluded_in o e f c = rw (f, conclude) (Memᴰ.head (λ i.
      record {
        rule = e i;
        premise = c.premise_is i;
        edges = c.edges_are i;
        moves = c.moves_are i;
        result = record { control = c.control_is i; S = c.set_is i; symbol = c.symbol_is i; order = c.order_is i; B = c.B-is i; R = c.R-is i };
      }))

  -- the derivations by a push of order k
  abbrev pushes : ℕ → ℕ → (Move → Joins) → (ℕ → Move → ℕ) → List Derivation
  pushes k b start set = each (control_moves A ρ.next b) (λ i.
      when (eqb (move_at A i).order 0 || eqb (move_at A i).order k)
      (each (readings A ρ.symbol (move_at A i).R) (λ ms.
      conclude A n ρ (i ∷ []) [] ms (set (entry_set A (move_at A i).state) (move_at A i)) (join_all A (start (move_at A i)) ms))))

  -- the derivations by an entry
  abbrev by_entries : (ℕ → Joins) → List Derivation
  by_entries joins = each (control_entries A ρ.next) (λ e. conclude A n ρ (e ∷ []) [] [] (entry_set A (A.J + e)) (some (joins (A.J + e))))

  rewrite_out : (b : ℕ) {d : Derivation} → Memᴰ d (by_rewrite A n ρ b) → (d.rule ≡ n) × ByRewrite A ρ b d
  unfolding by_rewrite
  rewrite_out b j = from_each j λ i k h.
      let c = concluded_out h in
      (c.0, record { move = i; S = entry_set A (move_at A i).state; premise = control_moves_out A ρ.next b k; concluded = c.1 })

  pushes_out : (k b : ℕ) (start : Move → Joins) (set : ℕ → Move → ℕ) {d : Derivation} → Memᴰ d (pushes k b start set)
      → (d.rule ≡ n) × ByPush A ρ k b start set d
  pushes_out k b start set j = from_each j λ i z h.
      let w = when_out (eqb (move_at A i).order 0 || eqb (move_at A i).order k) _ h in
      from_each w.1 λ ms y g.
      from_conclude (λ d. (d.rule ≡ n) × ByPush A ρ k b start set d) (join_all A (start (move_at A i)) ms) g λ x e. (
        refl,
        record {
          move = i;
          S = entry_set A (move_at A i).state;
          premise = control_moves_out A ρ.next b z;
          order_fits_holds = ⊎_map (eqb-true _ _) (eqb-true _ _) (or_cases (eqb (move_at A i).order 0) _ w.0);
          reading = readings_out A ρ.symbol (move_at A i).R y;
          joins = x;
          joined = e;
          concluded = concludes n ρ (i ∷ []) [] ms _ x;
        },
      )

  copy_out : {d : Derivation} → Memᴰ d (by_copy A n ρ) → (d.rule ≡ n) × ByCopy A ρ d
  unfolding by_copy
  copy_out j = from_each j λ i z h. from_each h λ es w f. from_each f λ ms y g.
      from_conclude (λ d. (d.rule ≡ n) × ByCopy A ρ d) (join_all A (joins_of (move_at A i)) ms) g λ x e. (
        refl,
        record {
          move = i;
          S = entry_set A (move_at A i).state;
          premise = control_moves_out A ρ.next ρ.symbol z;
          chosen = edge_choices_out A (entry_set A (move_at A i).state) w;
          reading = readings_out A ρ.symbol (named A es) y;
          joins = x;
          joined = e;
          concluded = concludes n ρ (i ∷ []) es ms (edge_sets A es) x;
        },
      )

  by_entries_out : (joins : ℕ → Joins) {d : Derivation} → Memᴰ d (by_entries joins) → (d.rule ≡ n) × ByEntry A ρ joins d
  by_entries_out joins j = from_each j λ e k h.
      let p = control_entries_out A ρ.next k in
      let c = concluded_out (rw (entry_set_is A p) at h) in
      (c.0, record { entry = e; S = (get_or A.entries e no_entry).S; premise = p; concluded = c.1 })

  pub derivations_by_out : (op : Operation) {d : Derivation} → Memᴰ d (derivations_by A n ρ op) → (d.rule ≡ n) × Says A ρ op d
  unfolding derivations_by by_push1 by_push2 by_pop1 by_pop2 by_collapse1 by_collapse2
  derivations_by_out (rewrite b) j = rewrite_out b j
  derivations_by_out (push1 b) j = pushes_out 1 b _ _ j
  derivations_by_out (push2 b) j = pushes_out 2 b _ _ j
  derivations_by_out copy j = copy_out j
  derivations_by_out pop1 j = by_entries_out _ j
  derivations_by_out pop2 j = concluded_out j
  derivations_by_out collapse1 j = by_entries_out _ j
  derivations_by_out collapse2 j = concluded_out j

  -- ---- whatever says so is in the list

  rewrite_in : (b : ℕ) {d : Derivation} → d.rule ≡ n → ByRewrite A ρ b d → Memᴰ d (by_rewrite A n ρ b)
  unfolding by_rewrite
  rewrite_in b e h = each_in _ (control_moves_in A h.premise) (rw (entry_move_set A h.premise) (concluded_in _ e refl h.concluded))

  pushes_in : (k b : ℕ) (start : Move → Joins) (set : ℕ → Move → ℕ) {d : Derivation} → d.rule ≡ n → ByPush A ρ k b start set d → Memᴰ d (pushes k b start set)
  pushes_in k b start set {d} e h =
      let m : Move = move_at A h.move in
      let fits : eqb m.order 0 || eqb m.order k ≡ true = ⊎_elim
      (λ z. ap (λ (t : Bool). t || eqb m.order k) (eq-eqb _ _ z))
      (λ z. ap (λ (t : Bool). eqb m.order 0 || t) (eq-eqb _ _ z) ∙ or-true (eqb m.order 0))
      h.order_fits_holds in
      each_in _ (control_moves_in A h.premise) (when_in (eqb m.order 0 || eqb m.order k) fits
      (each_in _ (readings_in A m.R h.reading) (rw (entry_move_set A h.premise) (concluded_in _ e h.joined h.concluded))))

  copy_in : {d : Derivation} → d.rule ≡ n → ByCopy A ρ d → Memᴰ d (by_copy A n ρ)
  unfolding by_copy
  copy_in e h =
      each_in _ (control_moves_in A h.premise)
      (each_in _ (rw (entry_move_set A h.premise) (edge_choices_in A h.S h.chosen))
      (each_in _ (readings_in A (named A _) h.reading) (concluded_in _ e h.joined h.concluded)))

  by_entries_in : (joins : ℕ → Joins) {d : Derivation} → d.rule ≡ n → ByEntry A ρ joins d → Memᴰ d (by_entries joins)
  by_entries_in joins e h = each_in _ (control_entries_in A h.premise) (rw (entry_set_is A h.premise) (concluded_in _ e refl h.concluded))

  pub derivations_by_in : (op : Operation) {d : Derivation} → d.rule ≡ n → Says A ρ op d → Memᴰ d (derivations_by A n ρ op)
  unfolding derivations_by by_push1 by_push2 by_pop1 by_pop2 by_collapse1 by_collapse2
  derivations_by_in (rewrite b) e h = rewrite_in b e h
  derivations_by_in (push1 b) e h = pushes_in 1 b _ _ e h
  derivations_by_in (push2 b) e h = pushes_in 2 b _ _ e h
  derivations_by_in copy e h = copy_in e h
  derivations_by_in pop1 e h = by_entries_in _ e h
  derivations_by_in pop2 e h = concluded_in _ e refl h
  derivations_by_in collapse1 e h = by_entries_in _ e h
  derivations_by_in collapse2 e h = concluded_in _ e refl h

-- ---- all rules

module _ (A : Automaton) where
  derivations_from_out : (n : ℕ) (rules : List Rule) {d : Derivation} → Memᴰ d (derivations_from A n rules)
      → (k : ℕ) × (d.rule ≡ n + k) × (ρ : Rule) × (get_elem? rules k ≡ some ρ) × Says A ρ ρ.operation d
  unfolding derivations_from
  derivations_from_out n [] j = absurd (Memᴰ.not-nil j)
  derivations_from_out n (ρ ∷ rules) {d} j = ⊎_elim
      (λ i. let r = derivations_by_out A n ρ ρ.operation i in (0, r.0 ∙ sym (add-zero n), ρ, refl, r.1))
      (λ i.
      let r = derivations_from_out (suc n) rules i in
      let e : d.rule ≡ suc n + r.0 = r.1 in
      (suc r.0, omega arith, r.2, r.3, r.4))
      (Memᴰ.append_cases (derivations_by A n ρ ρ.operation) j)

  derivations_from_in : (n k : ℕ) (rules : List Rule) {ρ : Rule} {d : Derivation} → d.rule ≡ n + k → get_elem? rules k ≡ some ρ → Says A ρ ρ.operation d
      → Memᴰ d (derivations_from A n rules)
  unfolding derivations_from
  derivations_from_in n k [] {ρ} e g h = absurd (none-ne-some ρ g)
  derivations_from_in n zero (x ∷ rules) {ρ} {d} e g h =
      let z : x ≡ ρ = some-injective x ρ g in
      Memᴰ.append_left (derivations_from A (suc n) rules)
      (derivations_by_in A n x x.operation (e ∙ add-zero n) (subst (λ (y : Rule). Says A y y.operation d) (sym z) h))
  derivations_from_in n (suc k) (x ∷ rules) {d = d} e g h =
      let z : d.rule ≡ suc n + k = omega arith in
      Memᴰ.append_right (derivations_by A n x x.operation) (derivations_from_in (suc n) k rules z g h)

  pub derivations_out : (rules : List Rule) {d : Derivation} → Memᴰ d (derivations A rules) → Derives A rules d
  unfolding derivations
  derivations_out rules {d} j =
      let r = derivations_from_out 0 rules j in
      let e : d.rule ≡ r.0 = r.1 ∙ zero-add r.0 in
      record { rule = r.2; numbered = ap (get_elem? rules) e ∙ r.3; says = r.4 }

  pub derivations_in : (rules : List Rule) {d : Derivation} → Derives A rules d → Memᴰ d (derivations A rules)
  unfolding derivations
  derivations_in rules {d} h = derivations_from_in 0 d.rule rules (sym (zero-add d.rule)) h.numbered h.says

-- ---- the first derivation

pub result_key_eq : (x y : Result) → result_key x ≡ result_key y → x ≡ y
unfolding result_key
result_key_eq x y e = λ i. record {
  control = get_or (e i) 0 0;
  S = get_or (e i) 1 0;
  symbol = get_or (e i) 2 0;
  order = get_or (e i) 3 0;
  B = get_or (e i) 4 0;
  R = get_or (e i) 5 0;
}

-- a result of a derivation has a first derivation
pub first_derivation_in : (A : Automaton) (rules : List Rule) (x : Result) {d : Derivation} → Memᴰ d (derivations A rules) → d.result ≡ x
    → (f : Derivation) × (first_derivation A rules x ≡ some f)
unfolding first_derivation
first_derivation_in A rules x {d} j e =
    some_first (λ y. same (result_key y.result) (result_key x)) j (eq_same (result_key d.result) (result_key x) (ap result_key e))

-- the first derivation of a result is in the list, and it has that result
pub first_derivation_out : (A : Automaton) (rules : List Rule) (x : Result) {d : Derivation} → first_derivation A rules x ≡ some d
    → Memᴰ d (derivations A rules) × (d.result ≡ x)
unfolding first_derivation
first_derivation_out A rules x {d} e =
    let h = first_some (λ y. same (result_key y.result) (result_key x)) (derivations A rules) e in
    (h.0, result_key_eq d.result x (same_eq (result_key d.result) (result_key x) h.1))
