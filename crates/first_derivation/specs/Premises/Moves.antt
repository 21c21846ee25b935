-- A move as the premise: what each operation's search answers is what `by_move` says.
-- Assumes nothing.
use Rattle.std.specs.Prelude.{ℕ, ◌<◌, Bool, true, false, ◌&&◌, ◌||◌, ◌≡◌, refl, List, []}
use Rattle.std.proofs.Math.Path.{ap, ap₂, sym, subst}
use Rattle.std.proofs.Common.{◌∙◌}
use Rattle.std.proofs.Math.Option.{Option, none, some, map}
use Rattle.std.proofs.Math.Dec.{eqb}
use Rattle.std.proofs.Math.Logic.{◌⊎◌, ⊎_elim}
use Rattle.words.specs.Sets.{join, members}
use Rattle.words.proofs.Sets.Laws.{join_empty_left}
use Rattle.words.specs.Order.{same}
use Rattle.stacks.specs.Stack.{Operation, rewrite, push1, push2, copy, pop1, pop2, collapse1, collapse2}
use Rattle.automata.specs.Automaton.{Automaton, Move, move_at, entry_at, entry_set}
use Rattle.automata.specs.Derivation.{Result, joins_of, named}
use Rattle.tables.specs.declared.Table.{Table}
use Rattle.tables.specs.Rows.{row_at}
use Rattle.tables.specs.Layouts.{move_row}
use Rattle.tables.specs.Held.{automaton_of, table_of}
use Rattle.tables.specs.Held.Laws.{row_move}
use Rattle.case_records.specs.declared.Operation.{Operation as OperationWords}
use Rattle.case_records.specs.declared.Operation.TheVariants.{Pop1, Pop2, Collapse1, Collapse2}
use Rattle.case_records.specs.Values.{the_operation}
use Rattle.first_reading.specs.First.{only_if, is_some}
use Rattle.first_reading.specs.Answer.{written_all}
use Rattle.first_reading.specs.Answer.Laws.{answer_eq, answer_by, answer_still, answers_none}
use Rattle.first_reading.specs.Search.{joins_key, wanted, Numbers, no_numbers, only_moves, first_edges}
use Rattle.first_reading.specs.Words as Words
use Rattle.first_reading.specs.Words.{moves_in, FindsEdges}
use Rattle.first_reading.specs.Words.Edges.{reading_moves}
use Rattle.first_derivation.specs.Search.{by_move}
use Rattle.first_derivation.specs.Premises.{rewritten, pushed, reads_moves, edge_states, read_states, writes_edges, writes_moves, FindsDerivation, FindsPush}

is_some_both : {B : Type 0} (u v : Bool) (y : B) → is_some (only_if u (only_if v (some y))) ≡ u && v
unfolding is_some only_if
is_some_both true true y = refl
is_some_both true false y = refl
is_some_both false v y = refl

module _ (z : Table) (inner entries moves : List ℕ) (a : ℕ) (x : Result) (i : ℕ) (below : i < z.moves) (m : Move) (is : m ≡ row_at move_row moves i) (S : ℕ)
    (set : S ≡ entry_set (table_of z entries []) m.state) where
  abbrev A : Automaton
  A = automaton_of z inner entries moves

  move_is : m ≡ move_at A i
  move_is = row_move z inner entries moves i m below is

  set_is : S ≡ entry_set A (move_at A i).state
  unfolding entry_set entry_at
  set_is = set ∙ ap (λ (k : Move). entry_set A k.state) move_is

  pub rewrite_derives : {op : Operation} {b : ℕ} {t : Bool} (es ms : List ℕ) → op ≡ rewrite b → t ≡ rewritten S m x → FindsDerivation A a x op i t es es ms ms
  unfolding by_move rewritten writes_edges writes_moves edge_states read_states written_all
  rewrite_derives {op} {b} {t} es ms o e =
      let s : t ≡ is_some (by_move A a x (rewrite b) i) =
      e ∙ ap₂ (λ (k : ℕ) (n : Move). eqb k x.S && same (joins_key (joins_of n)) (wanted x)) set_is move_is
      ∙ sym (is_some_both (eqb (entry_set A (move_at A i).state) x.S) (same (joins_key (joins_of (move_at A i))) (wanted x)) no_numbers) in
      subst (λ (p : Operation). FindsDerivation A a x p i t es es ms ms) (sym o)
      (record { edges = answer_still es (λ n. refl) s; moves = answer_still ms (λ n. refl) s })

  pushed_moves : (k s r : ℕ) → pushed (moves_in z.moves moves) a x k s r m ≡ pushed A a x k s r m
  unfolding pushed
  pushed_moves k s r =
      ap (λ (o : Option (List ℕ)). only_if (eqb m.order 0 || eqb m.order k) (only_if (eqb s x.S) (map only_moves o)))
      (reading_moves z inner entries moves a (wanted x) (members m.R) (record { order = 0; B = 0; R = r }))

  -- a push of which `by_move` says that it is `pushed`
  push_derives : (op : Operation) {t : Bool} (k s r : ℕ) {ms₀ ms : List ℕ} (es : List ℕ) → by_move A a x op i ≡ pushed A a x k s r m
      → ((n : Numbers) (ws : List ℕ) → writes_edges A op i n ws ≡ ws) → ((n : Numbers) (ws : List ℕ) → reads_moves (members m.R) n ws ≡ writes_moves A op i n ws)
      → FindsPush (moves_in z.moves moves) a x k s r m t ms₀ ms → FindsDerivation A a x op i t es es ms₀ ms
  push_derives op {t} k s r {ms₀} {ms} es e none_written written h =
      let g : FindsPush A a x k s r m t ms₀ ms = answer_eq (sym (pushed_moves k s r)) h in
      record {
        edges = answer_eq e (answer_still es (λ n. none_written n es) g.success);
        moves = answer_eq e (answer_by written g);
      }

  pub push1_derives : {op : Operation} {b : ℕ} {t : Bool} {ms₀ ms : List ℕ} (es : List ℕ) → op ≡ push1 b
      → FindsPush (moves_in z.moves moves) a x 1 S m.B m t ms₀ ms → FindsDerivation A a x op i t es es ms₀ ms
  unfolding by_move pushed writes_edges writes_moves reads_moves edge_states read_states written_all
  push1_derives {op} {b} {t} {ms₀} {ms} es o h =
      subst (λ (p : Operation). FindsDerivation A a x p i t es es ms₀ ms) (sym o)
      (push_derives (push1 b) 1 S m.B es
      (sym (ap₂ (λ (s : ℕ) (n : Move). pushed A a x 1 s n.B n) set_is move_is))
      (λ n ws. refl) (λ n ws. ap (λ (k : Move). written_all (members k.R) n.moves ws) move_is) h)

  pub push2_derives : {op : Operation} {b s : ℕ} {t : Bool} {ms₀ ms : List ℕ} (es : List ℕ) → op ≡ push2 b → s ≡ join S m.B
      → FindsPush (moves_in z.moves moves) a x 2 s 0 m t ms₀ ms → FindsDerivation A a x op i t es es ms₀ ms
  unfolding by_move pushed writes_edges writes_moves reads_moves edge_states read_states written_all
  push2_derives {op} {b} {s} {t} {ms₀} {ms} es o j h =
      subst (λ (p : Operation). FindsDerivation A a x p i t es es ms₀ ms) (sym o)
      (push_derives (push2 b) 2 s 0 es
      (sym (ap (λ (k : ℕ). pushed A a x 2 k 0 m) j ∙ ap₂ (λ (k : ℕ) (n : Move). pushed A a x 2 (join k n.B) 0 n) set_is move_is))
      (λ n ws. refl) (λ n ws. ap (λ (k : Move). written_all (members k.R) n.moves ws) move_is) h)

  pub copy_derives : {op : Operation} {t : Bool} {es₀ es ms₀ ms : List ℕ} → op ≡ copy
      → FindsEdges A a x (joins_of m) (members S) 0 0 t es₀ es ms₀ ms
      → FindsDerivation A a x op i t es₀ es ms₀ ms
  unfolding by_move writes_edges writes_moves edge_states read_states Words.writes_edges Words.writes_moves
  copy_derives {op} {t} {es₀} {es} {ms₀} {ms} o h =
      let e : by_move A a x copy i ≡ first_edges A a (wanted x) (joins_of m) x.S (members S) 0 0 =
      sym (ap₂ (λ (s : ℕ) (n : Move). first_edges A a (wanted x) (joins_of n) x.S (members s) 0 0) set_is move_is) in
      subst (λ (p : Operation). FindsDerivation A a x p i t es₀ es ms₀ ms) (sym o)
      (record {
        edges = answer_eq e (answer_by (λ n ws. ap (λ (s : ℕ). written_all (members s) n.edges ws) set_is) h.edges);
        moves = answer_eq e (answer_by (λ n ws. ap (λ (s : ℕ). written_all (members s) n.moves ws) (join_empty_left (named A n.edges))) h.moves);
      })

-- the other operations have no move as their premise
pub no_move_lem : (A : Automaton) (a : ℕ) (x : Result) (i : ℕ) {op op' : Operation} (es ms : List ℕ) → op ≡ op' → by_move A a x op' i ≡ none
    → FindsDerivation A a x op i false es es ms ms
no_move_lem A a x i es ms o e = answers_none es ms (ap (λ (p : Operation). by_move A a x p i) o ∙ e)

pub no_move_by : (A : Automaton) (a : ℕ) (x : Result) (i : ℕ)
    → (by_move A a x pop1 i ≡ none) × (by_move A a x pop2 i ≡ none) × (by_move A a x collapse1 i ≡ none) × (by_move A a x collapse2 i ≡ none)
unfolding by_move
no_move_by A a x i = (refl, refl, refl, refl)

-- the four that take no move
pub no_move_gives : (A : Automaton) (a : ℕ) (x : Result) (i : ℕ) {v : OperationWords} (es ms : List ℕ)
    → (v ≡ Pop1) ⊎ ((v ≡ Pop2) ⊎ ((v ≡ Collapse1) ⊎ (v ≡ Collapse2))) → FindsDerivation A a x (the_operation v) i false es es ms ms
no_move_gives A a x i es ms is =
    let no = no_move_by A a x i in
    ⊎_elim (λ e. no_move_lem A a x i es ms (ap the_operation e) no.0)
    (λ f. ⊎_elim (λ e. no_move_lem A a x i es ms (ap the_operation e) no.1)
    (λ g. ⊎_elim (λ e. no_move_lem A a x i es ms (ap the_operation e) no.2) (λ e. no_move_lem A a x i es ms (ap the_operation e) no.3) g) f) is
