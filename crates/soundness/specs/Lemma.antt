-- The lemma: every move of the table is right about each symbol cell that chooses it. By induction on the move's number, as the first
-- derivation of a move uses only moves of smaller number.
-- Assumes nothing.
use Prim.Native.Nat.{ℕ, ◌<◌}
use Rattle.std.specs.Prelude.{◌≡◌}
use Rattle.std.proofs.Common.{lt_of_lt_of_le}
use Rattle.std.proofs.Math.Option.{some}
use mathlib.Core.List.{List, Memᴰ}
use Rattle.std.proofs.Math.ListN.{get_elem?}
use Rattle.stacks.specs.System.{Rule}
use Rattle.automata.specs.Automaton.{Automaton, move_at}
use Rattle.automata.specs.Derivation.{Derivation, result_of, first_derivation}
use Rattle.automata.proofs.Derivation.Laws.{Says, derivations_out, first_derivation_out}
use Rattle.automata.proofs.Derivation.Kept.{says_kept}
use Rattle.automata.specs.Saturation.{Saturated, before}
use Rattle.automata.proofs.Saturation.Laws.{before_extends, before_small}
use Rattle.soundness.specs.Facts.{SaturatedFacts}
use Rattle.soundness.specs.Used.{used_moves, says_below}

module _ {P : ℕ} {own : Automaton} {rules : List Rule} {T : Saturated} (F : SaturatedFacts P own rules T) where
  -- a derivation from the rounds before that of move i, whose result is that move
  pub record From (i : ℕ) (d : Derivation) : Type 0 where
    pub rule : Rule
    pub numbered : get_elem? rules d.rule ≡ some rule
    pub says : Says T.table rule rule.operation d
    pub uses_smaller : (j : ℕ) → Memᴰ j (used_moves rule.operation d) → j < i
    pub result_is : d.result ≡ result_of T.table (move_at T.table i)

  pub first_from_lem : (i : ℕ) {d : Derivation} → first_derivation (before T i) rules (result_of T.table (move_at T.table i)) ≡ some d → From i d
  first_from_lem i {d} e =
      let f = first_derivation_out (before T i) rules (result_of T.table (move_at T.table i)) e in
      let h = derivations_out (before T i) rules f.0 in
      let o = h.rule.operation in
      record {
        rule = h.rule;
        numbered = h.numbered;
        says = says_kept (before_extends T i) h.rule d o h.says;
        uses_smaller = λ j k. lt_of_lt_of_le (says_below (before T i) h.rule d o h.says j k) (before_small T i);
        result_is = f.1;
      }
