-- The saturated table is least: every closed automaton that contains the own one contains the table after each number of rounds. With more
-- rules each of these tables contains the one with fewer.
-- Assumes nothing.
use Prim.Native.Nat.{ℕ, zero, suc}
use Rattle.std.specs.Prelude.{true, ◌≡◌, refl}
use Rattle.std.proofs.Common.{ap, ap₂, sym, ◌∙◌}
use Rattle.std.proofs.Math.Path.{subst}
use Rattle.std.proofs.Math.Logic.{⊎_elim}
use Rattle.std.proofs.Math.Option.{some}
use mathlib.Core.List.Memᴰ
use mathlib.Core.List.{List, [], ◌∷◌, Memᴰ}
use Rattle.words.specs.Lists.Laws.{get_elem?_in}
use Rattle.stacks.specs.System.{Rule}
use Rattle.automata.specs.Automaton.{Automaton, Move, move_at, entry_at}
use Rattle.automata.specs.Automaton.Laws.{entry, move_at_in, entry_at_some, entry_move_at}
use Rattle.automata.specs.Derivation.{Result, Derivation, derivations}
use Rattle.automata.specs.Saturation.{held, add, add_all, extend, results, round, table_after}
use Rattle.automata.proofs.Saturation.Laws.{StandsFor, held_stands, results_out}
use Rattle.automata.specs.Facts.{RuleFacts, TableFacts, OwnFacts, Extends, Closed, Once}
use Rattle.automata.specs.Facts.Laws.{extends_refl}
use Rattle.rounds.specs.Entries.{with_entry_out}
use Rattle.rounds.specs.Added.{new_move, added, added_out, add_extends, add_entry}
use Rattle.rounds.specs.Rounds.{round_extends, round_holds}
use Rattle.rounds.specs.Kept.{after_facts}
use Rattle.rounds.specs.Contains.{Same, SameMove, Contains}
use Rattle.rounds.specs.Contains.Laws.{matched_map, same_kept, same_in_kept, same_move_kept, contains_kept, contains_self}
use Rattle.rounds.specs.Monotone.{SameResult, results_same}

-- D holds the like of result x of A
pub record LikeHeld (A D : Automaton) (x : Result) : Type 0 where
  pub result : Result
  pub same : SameResult A D x result
  pub number : ℕ
  pub stands : StandsFor D number result

pub same_result_kept : {A A' D D' : Automaton} {x y : Result} → Extends A A' → Extends D D' → SameResult A D x y → SameResult A' D' x y
same_result_kept {x = x} a d s =
    record {
      control_same = s.control_same;
      set_same = s.set_same;
      symbol_same = s.symbol_same;
      order_same = s.order_same;
      annotation_same = matched_map (same_in_kept a d x.order) s.annotation_same;
      rest_same = matched_map (λ r t z. same_kept a d z) s.rest_same;
    }

-- ---- adding what is held by the other

module _ {A D : Automaton} (c : Contains A D) (x : Result) (l : LikeHeld A D x) where
  -- the move of D that stands for the like
  abbrev like : Move
  like = move_at D l.number

  -- the like of x's entry is x's entry
  like_entry : entry_at D like.state ≡ some (entry x.control x.S)
  like_entry = entry_move_at D l.stands.move ∙ ap some (ap₂ entry l.same.control_same l.same.set_same)

  new_move_same : SameMove (add A x) D (new_move A x) like
  unfolding new_move
  new_move_same =
      record {
        state_same = Same.entry (add_entry A x) like_entry;
        symbol_same = l.stands.move.symbol_is ∙ l.same.symbol_same;
        order_same = l.stands.order_is ∙ l.same.order_same;
        annotation_same = rw l.stands.B-is (matched_map (same_in_kept (add_extends A x) (extends_refl D) x.order) l.same.annotation_same);
        rest_same = rw l.stands.R-is (matched_map (λ r t z. same_kept (add_extends A x) (extends_refl D) z) l.same.rest_same);
      }

  pub add_contains : Contains (add A x) D
  unfolding add new_move
  add_contains =
      record {
        same_J = c.same_J;
        final1_in = λ r h. let (s, k, z) = c.final1_in r h in (s, k, same_kept (add_extends A x) (extends_refl D) z);
        final2_in = c.final2_in;
        inner_in = c.inner_in;
        entries_in = λ e j. ⊎_elim (c.entries_in e)
            (λ z. let (n, q, g) = entry_at_some D like.state like_entry in Memᴰ.cast z (get_elem?_in D.entries n g))
            (with_entry_out x.control x.S A.entries j);
        moves_in_holds = λ m j. ⊎_elim
            (λ i. let (n, k, s) = c.moves_in_holds m i in (n, k, same_move_kept (add_extends A x) (extends_refl D) s))
            (λ i. (like, move_at_in D l.number l.stands.move.below, subst (λ (w : Move). SameMove (add A x) D w like) (sym (Memᴰ.eq_of_singleton i)) new_move_same))
            (Memᴰ.append_cases A.moves j);
      }

pub add_all_contains : {A D : Automaton} → Contains A D → (xs : List Result) → ((x : Result) → Memᴰ x xs → LikeHeld A D x) → Contains (add_all A xs) D
unfolding add_all
add_all_contains c [] f = c
add_all_contains {A} {D} c (x ∷ xs) f = add_all_contains {A = add A x} (add_contains c x (f x (Memᴰ.head refl))) xs (λ y j.
    let l = f y (Memᴰ.tail j) in
    record { result = l.result; same = same_result_kept (add_extends A x) (extends_refl D) l.same; number = l.number; stands = l.stands })

pub extend_contains : {A D : Automaton} → Contains A D → (xs : List Result) → ((x : Result) → Memᴰ x xs → LikeHeld A D x) → Contains (extend A xs) D
unfolding extend
extend_contains {A} c xs f = add_all_contains c (added A xs) (λ x j. f x (added_out A xs j).0)

-- ---- rounds

-- Where C contains A, what extends C and holds the results of these and more rules from C contains the next table of A.
pub round_contains : {A C D : Automaton} → Contains A C → {P : ℕ} → TableFacts P A → Once C.entries → (rules more : List Rule)
    → ((ρ : Rule) → Memᴰ ρ rules → Memᴰ ρ more) → Extends C D
    → ((f : Derivation) → Memᴰ f (derivations C more) → held D f.result ≡ true) → Contains (round rules A) D
unfolding round
round_contains {A} {C} {D} c F once rules more sub e h = extend_contains (contains_kept e c) (results rules A) λ x j.
    let (d, i, z) = results_out rules A j in
    let (f, k, s) = results_same c F once sub i in
    let (n, y) = held_stands D f.result (h f k) in
    record {
      result = f.result;
      same = same_result_kept (extends_refl A) e (subst (λ (y : Result). SameResult A C y f.result) z s);
      number = n;
      stands = y;
    }

module _ {P : ℕ} (rules : List Rule) (rule_facts : (ρ : Rule) → Memᴰ ρ rules → RuleFacts P ρ) {own : Automaton} (F : TableFacts P own) where
  -- a closed automaton that contains the own one contains the table after n rounds
  pub closed_contains : {C : Automaton} → Contains own C → Once C.entries → Closed rules C → (n : ℕ) → Contains (table_after rules own n) C
  unfolding table_after
  closed_contains c once h zero = c
  closed_contains {C} c once h (suc n) =
      round_contains (closed_contains c once h n) (after_facts rules rule_facts F n) once rules rules (λ ρ j. j) (extends_refl C) h.closed

  -- with more rules the table after n rounds contains that with fewer
  pub more_contains : OwnFacts P own → (more : List Rule) → ((ρ : Rule) → Memᴰ ρ more → RuleFacts P ρ) → ((ρ : Rule) → Memᴰ ρ rules → Memᴰ ρ more)
      → (n : ℕ) → Contains (table_after rules own n) (table_after more own n)
  unfolding table_after
  more_contains O more more-facts sub zero = contains_self own F O
  more_contains O more more-facts sub (suc n) =
      let C : Automaton = table_after more own n in
      round_contains (more_contains O more more-facts sub n) (after_facts rules rule_facts F n) (after_facts more more-facts F n).entry_once rules more sub
      (round_extends more C) (λ f j. round_holds more C j)
