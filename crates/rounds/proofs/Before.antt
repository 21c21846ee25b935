-- What the moves of the table after any number of rounds have: the own ones are the own automaton's, and each other one has a first
-- derivation from the table before its round, in which all moves have smaller numbers.
-- Assumes nothing.
use Rattle.std.specs.Prelude.{ℕ, ◌+◌, ◌≤◌, ◌<◌, ◌≡◌, length}
use Rattle.std.proofs.Math.Path.{ap, ap₂}
use Rattle.std.proofs.Common.{sym, ◌∙◌, subst, le_of_lt, arith}
use Rattle.std.proofs.Math.Option.{some}
use mathlib.Core.List.{List, Memᴰ}
use Rattle.stacks.specs.System.{Rule}
use Rattle.automata.specs.Automaton.{Automaton, move_at}
use Rattle.automata.specs.Derivation.{Result, Derivation, derivations, result_of, first_derivation}
use Rattle.automata.proofs.Derivation.Laws.{first_derivation_in, first_derivation_out}
use Rattle.automata.specs.Saturation.{Size, table_after, Saturated, size_of, up_to, last_up_to, before, own_moves}
use Rattle.automata.proofs.Saturation.Laws.{StandsFor, stands_result, before_extends, before_small}
use Rattle.automata.specs.Facts.{RuleFacts, TableFacts, Extends}
use Rattle.rounds.specs.Rounds.{own_extends}
use Rattle.rounds.specs.First.{AddedAfter, added_after, derived}
use Rattle.rounds.specs.Sizes.{AfterRounds, up_to_after, last_up_to_round, own_moves_is}
use Rattle.rounds.specs.Kept.{after_facts}

-- Of a move of the table past the own ones.
pub record Later (rules : List Rule) (own : Automaton) (T : Saturated) (i : ℕ) : Type 0 where
  pub rounds_before : ℕ
  pub before_after : before T i ≡ table_after rules own rounds_before
  pub own_before : Extends own (before T i)
  pub before_table : Extends (before T i) T.table
  pub smaller : length (before T i).moves ≤ i
  pub derivation : Derivation
  pub is_first : first_derivation (before T i) rules (result_of T.table (move_at T.table i)) ≡ some derivation
  pub derives : Memᴰ derivation (derivations (before T i) rules)
  pub stands : StandsFor T.table i derivation.result

module _ {rules : List Rule} {own : Automaton} {T : Saturated} (s : AfterRounds rules own T) where
  pub table_extends : Extends own T.table
  table_extends = subst (Extends own) (sym s.table_is) (own_extends rules own s.rounds)

  -- the number of own moves is known from the sizes
  pub own_moves_own : own_moves T.sizes ≡ length own.moves
  own_moves_own = ap own_moves s.sizes_are ∙ own_moves_is rules own s.rounds

  -- the table before the round that adds move i is that after the rounds before
  pub before_is : {n i : ℕ} → AddedAfter rules own n i → n < s.rounds → before T i ≡ table_after rules own n
  unfolding before
  before_is {n} {i} a h =
      let none : Size = record { moves = 0; entries = 0 } in
      let z : last_up_to none T.sizes i ≡ size_of (table_after rules own n) =
      ap (λ (l : List Size). last_up_to none l i) s.sizes_are ∙ last_up_to_round rules own none a s.rounds h in
      ap₂ up_to z s.table_is ∙ up_to_after rules own n s.rounds (le_of_lt h)

  -- from any derivation of what move i stands for
  later_by : (n : ℕ) {i : ℕ} {d : Derivation} → before T i ≡ table_after rules own n → Memᴰ d (derivations (table_after rules own n) rules)
      → StandsFor T.table i d.result → Later rules own T i
  later_by n {i} {d} b j stands = go (first_derivation_in (before T i) rules x {d = d} (rw b j) (sym (stands_result T.table stands)))
    where
      x : Result
      x = result_of T.table (move_at T.table i)

      go : (f : Derivation) × (first_derivation (before T i) rules x ≡ some f) → Later rules own T i
      go (f, e) =
          let h : Memᴰ f (derivations (before T i) rules) × (f.result ≡ x) = first_derivation_out (before T i) rules x {d = f} e in
          record {
            rounds_before = n;
            before_after = b;
            own_before = rw b (own_extends rules own n);
            before_table = before_extends T i;
            smaller = before_small T i;
            derivation = f;
            is_first = e;
            derives = h.0;
            stands = subst (StandsFor T.table i) (sym (stands_result T.table stands) ∙ sym h.1) stands;
          }

  pub later : (i : ℕ) → length own.moves ≤ i → i < length T.table.moves → Later rules own T i
  later i l h =
      let (n, k, a) = added_after rules own s.rounds i l (rw s.table_is at h) in
      let (d, j, f, stands) = derived rules own a s.rounds k in
      later_by n (before_is a k) j (rw s.table_is stands)

  -- it is a move of an entry
  pub later_entry : (i : ℕ) → length own.moves ≤ i → i < length T.table.moves → T.table.J ≤ (move_at T.table i).state
  later_entry i l h =
      let m = (later i l h).stands.move in
      let e : (move_at T.table i).state ≡ T.table.J + m.entry = m.state_is in
      omega arith

  -- ---- facts

  module _ {P : ℕ} (rule_facts : (ρ : Rule) → Memᴰ ρ rules → RuleFacts P ρ) (F : TableFacts P own) where
    pub table_facts : TableFacts P T.table
    table_facts = subst (TableFacts P) (sym s.table_is) (after_facts rules rule_facts F s.rounds)
