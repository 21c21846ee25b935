-- The loops over the moves and the entries for a premise.
-- Assumes nothing.
use Rattle.std.specs.Prelude.{ℕ, ◌<◌, ◌+◌, Bool, false, ◌≡◌, refl, List, [], length, get_or, None, Some, Option as Found}
use Rattle.std.proofs.Math.Bool.{true, ◌&&◌}
use Rattle.std.proofs.lemmas.Bool.{false≢true}
use Rattle.std.proofs.Math.Path.{ap, ap₂, sym}
use Rattle.std.proofs.Common.{◌∙◌, arith, eq-eqb, ne_eqb}
use Rattle.std.proofs.Math.Option.{Option, none, some, map}
use Rattle.std.proofs.Math.Dec.{eqb}
use Rattle.words.specs.Order.{same}
use Rattle.stacks.specs.Stack.{Operation}
use Rattle.automata.specs.Automaton.{Automaton, Move, Entry, no_move, no_entry, move_at, entry_at, entry_of, entry_set}
use Rattle.automata.specs.Automaton.Laws.{entry_set_is}
use Rattle.automata.specs.Derivation.{Result, Joins, control_moves, control_entries}
use Rattle.walks.specs.Guide.{first_or_zero}
use Rattle.tables.specs.declared.Table.{Table}
use Rattle.tables.specs.Rows.{row_at, rows_in}
use Rattle.tables.specs.Rows.Laws.{length_rows_in, get_or_rows_in}
use Rattle.tables.specs.Layouts.{move_row, entry_row}
use Rattle.tables.specs.Held.{automaton_of, table_of}
use Rattle.tables.specs.Held.Laws.{row_move}
use Rattle.first_reading.specs.First.{only_if, is_some, first_below}
use Rattle.first_reading.specs.First.Laws.{only_if_yes, only_if_no, at_place, first_of_places}
use Rattle.first_reading.specs.Answer.{Answers, NotFoundBelow, Unchanged}
use Rattle.first_reading.specs.Answer.Laws.{answer_map, answers_none, answers_eq, answers_from, passed_hit}
use Rattle.first_reading.specs.Search.{joins_key, wanted, Numbers, no_numbers}
use Rattle.first_derivation.specs.Search.{PremiseNumbers, with_premise, by_move, by_entry, first_move, first_entry}
use Rattle.first_derivation.specs.Premises.{writes_edges, writes_moves, FindsDerivation, step_edges, step_moves, move_gives, entry_gives, Finds, TriesPremise, premise_of, FindsMove}

-- ---- a premise is found, or none

number_of : (i : ℕ) (t : Bool) (o : Option Numbers) → is_some (only_if t (map (with_premise i) o)) ≡ true
    → some i ≡ premise_of (only_if t (map (with_premise i) o))
unfolding is_some only_if first_or_zero
number_of i true none h = absurd (false≢true h)
number_of i true (some n) h = refl
number_of i false o h = absurd (false≢true h)

module _ (A : Automaton) (op : Operation) where
  pub finds_by : {o : Option PremiseNumbers} {es₀ es ms₀ ms : List ℕ} (i : ℕ) → some i ≡ premise_of o
      → Answers o (step_edges A op) (step_moves A op) true es₀ es ms₀ ms → Finds A op o (Some i) es₀ es ms₀ ms
  unfolding is_some
  finds_by i e h = record { number = e; written = h }

  pub finds_nothing : {o : Option PremiseNumbers} (es ms : List ℕ) → o ≡ none → Finds A op o None es es ms ms
  unfolding is_some
  finds_nothing es ms e = record { number = ap premise_of (sym e); written = answers_none es ms e }

  pub finds_from : {o : Option PremiseNumbers} {r : Found ℕ} {es₀ es fs ms₀ ms ns : List ℕ} → Unchanged es₀ es → Unchanged ms₀ ms → Finds A op o r es fs ms ns → Finds A op o r es₀ fs ms₀ ns
  finds_from h k f = record { number = f.number; written = answers_from h k f.written }

-- ---- a move

module _ (z : Table) (inner entries moves : List ℕ) (a : ℕ) (x : Result) (op : Operation) (p' b : ℕ) where
  abbrev A : Automaton
  A = automaton_of z inner entries moves

  pub moves_below : first_move A a x op p' b ≡ first_below z.moves (move_gives A a x op p' b)
  unfolding first_move move_gives control_moves move_at at_place
  moves_below =
      first_of_places (λ m. eqb m.symbol b && entry_of A p' m.state) (rows_in move_row z.moves moves) no_move _
      ∙ ap (λ (k : ℕ). first_below k (move_gives A a x op p' b)) (length_rows_in move_row z.moves moves)

  -- the premise that the loop found
  pub move_found : {i : ℕ} {es₀ es ms₀ ms : List ℕ} → NotFoundBelow z.moves (move_gives A a x op p' b) i → i < z.moves
      → TriesPremise A a x op p' b i true es₀ es ms₀ ms
      → FindsMove A a x op p' b (Some i) es₀ es ms₀ ms
  unfolding move_gives
  move_found {i} h l g =
      let s : is_some (move_gives A a x op p' b i) ≡ true = sym g.edges.success in
      let e : first_move A a x op p' b ≡ move_gives A a x op p' b i = moves_below ∙ passed_hit h l s in
      finds_by A op i
      (number_of i (eqb (move_at A i).symbol b && entry_of A p' (move_at A i).state) (by_move A a x op i) s ∙ ap premise_of (sym e))
      (answers_eq e g)

  module _ (i : ℕ) (below : i < z.moves) (m : Move) (is : m ≡ row_at move_row moves i) where
    move_is : m ≡ move_at A i
    move_is = row_move z inner entries moves i m below is

    gives_is : move_gives A a x op p' b i ≡ only_if (eqb m.symbol b && entry_of A p' m.state) (map (with_premise i) (by_move A a x op i))
    unfolding move_gives
    gives_is = ap (λ (k : Move). only_if (eqb k.symbol b && entry_of A p' k.state) (map (with_premise i) (by_move A a x op i))) (sym move_is)

    pub other_move : (m.symbol ≡ b → ⊥) → move_gives A a x op p' b i ≡ none
    other_move h = gives_is ∙ only_if_no _ _ (ap (λ (t : Bool). t && entry_of A p' m.state) (ne_eqb m.symbol b h))

    pub other_entry : m.symbol ≡ b → entry_of (table_of z entries []) p' m.state ≡ false → move_gives A a x op p' b i ≡ none
    unfolding entry_of entry_at
    other_entry e h = gives_is ∙ only_if_no _ _ (ap₂ ◌&&◌ (eq-eqb m.symbol b e) h)

    pub move_gives_lem : {t : Bool} {es₀ es ms₀ ms : List ℕ} → m.symbol ≡ b → entry_of (table_of z entries []) p' m.state ≡ true
        → FindsDerivation A a x op i t es₀ es ms₀ ms → TriesPremise A a x op p' b i t es₀ es ms₀ ms
    unfolding entry_of entry_at step_edges step_moves first_or_zero
    move_gives_lem e h g =
        answers_eq (gives_is ∙ only_if_yes _ _ (ap₂ ◌&&◌ (eq-eqb m.symbol b e) h))
        (record {
          edges = answer_map (with_premise i) (writes_edges A op i) (step_edges A op) (λ n ws. refl) g.edges;
          moves = answer_map (with_premise i) (writes_moves A op i) (step_moves A op) (λ n ws. refl) g.moves;
        })

-- ---- an entry

is_some_three : {B C : Type 0} (f : B → C) (u v w : Bool) (y : B) → is_some (only_if u (map f (only_if v (only_if w (some y))))) ≡ u && (v && w)
unfolding is_some only_if
is_some_three f true true true y = refl
is_some_three f true true false y = refl
is_some_three f true false w y = refl
is_some_three f false v w y = refl

module _ (z : Table) (entries : List ℕ) (x : Result) (joins : ℕ → Joins) (p' : ℕ) where
  abbrev E : Automaton
  E = table_of z entries []

  pub entries_below : first_entry E x joins p' ≡ first_below z.entries (entry_gives E x joins p')
  unfolding first_entry entry_gives control_entries at_place
  entries_below =
      first_of_places (λ e. eqb e.control p') (rows_in entry_row z.entries entries) no_entry _
      ∙ ap (λ (k : ℕ). first_below k (entry_gives E x joins p')) (length_rows_in entry_row z.entries entries)

  pub entry_found : {e : ℕ} → NotFoundBelow z.entries (entry_gives E x joins p') e → e < z.entries → is_some (entry_gives E x joins p' e) ≡ true
      → some e ≡ premise_of (first_entry E x joins p')
  unfolding entry_gives
  entry_found {e} h l s =
      number_of e (eqb (get_or E.entries e no_entry).control p') (by_entry E x joins e) s
      ∙ ap premise_of (sym (entries_below ∙ passed_hit h l s))

  module _ (e : ℕ) (below : e < z.entries) (g : Entry) (is : g ≡ row_at entry_row entries e) where
    entry_is : get_or E.entries e no_entry ≡ g
    entry_is = get_or_rows_in entry_row z.entries entries e no_entry below ∙ sym is

    set_is : entry_set E (z.inner1 + e) ≡ g.S
    set_is =
        let h : length (rows_in entry_row z.entries entries) ≡ z.entries = length_rows_in entry_row z.entries entries in
        entry_set_is E (record { below = omega arith; control_is = refl; set_is = refl }) ∙ ap (λ (k : Entry). k.S) entry_is

    gives_entry : is_some (entry_gives E x joins p' e) ≡ eqb g.control p' && (eqb g.S x.S && same (joins_key (joins (z.inner1 + e))) (wanted x))
    unfolding entry_gives by_entry
    gives_entry =
        is_some_three (with_premise e) (eqb (get_or E.entries e no_entry).control p') (eqb (entry_set E (z.inner1 + e)) x.S)
        (same (joins_key (joins (z.inner1 + e))) (wanted x)) no_numbers
        ∙ ap₂ (λ (k : Entry) (s : ℕ). eqb k.control p' && (eqb s x.S && same (joins_key (joins (z.inner1 + e))) (wanted x))) entry_is set_is

    pub other_control : (g.control ≡ p' → ⊥) → false ≡ is_some (entry_gives E x joins p' e)
    other_control h =
        sym (gives_entry ∙ ap (λ (t : Bool). t && (eqb g.S x.S && same (joins_key (joins (z.inner1 + e))) (wanted x))) (ne_eqb g.control p' h))

    pub other_set : g.control ≡ p' → (g.S ≡ x.S → ⊥) → false ≡ is_some (entry_gives E x joins p' e)
    other_set f h =
        sym (gives_entry ∙ ap₂ (λ (t u : Bool). t && (u && same (joins_key (joins (z.inner1 + e))) (wanted x))) (eq-eqb g.control p' f) (ne_eqb g.S x.S h))

    pub entry_gives_lem : {t : Bool} → g.control ≡ p' → g.S ≡ x.S → t ≡ same (joins_key (joins (z.inner1 + e))) (wanted x) → t ≡ is_some (entry_gives E x joins p' e)
    entry_gives_lem f h u =
        u ∙ sym (gives_entry ∙ ap₂ (λ (v w : Bool). v && (w && same (joins_key (joins (z.inner1 + e))) (wanted x))) (eq-eqb g.control p' f) (eq-eqb g.S x.S h))
