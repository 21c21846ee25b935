-- First derivations: each move past the own ones is added by one round, is a move of an entry, and has a first derivation from the table
-- before that round.
-- Assumes nothing.
use Prim.Native.Nat.{ℕ, zero, suc, ◌≤◌, ◌<◌}
use Rattle.std.specs.Prelude.{false, ◌≡◌, length, ltb}
use Rattle.std.proofs.Common.{sym}
use Rattle.std.proofs.Math.Option.{some}
use mathlib.Core.List.{List, Memᴰ}
use native.Mathlib.Omega.{arith}
use borrow.Author.Tests.{ltb-true, ltb-false}
use Rattle.words.specs.Laws.Tests.{by_test}
use Rattle.stacks.specs.System.{Rule}
use Rattle.automata.specs.Automaton.{Automaton, move_at}
use Rattle.automata.specs.Derivation.{result_of, Derivation, derivations, first_derivation}
use Rattle.automata.proofs.Derivation.Laws.{first_derivation_in}
use Rattle.automata.specs.Saturation.{held, table_after}
use Rattle.automata.proofs.Saturation.Laws.{StandsFor, stands_result, stands_kept}
use Rattle.rounds.specs.Rounds.{round_new, after_extends}

module _ (rules : List Rule) (own : Automaton) where
  -- the round after the first n rounds adds move i
  pub record AddedAfter (n i : ℕ) : Type 0 where
    pub not_before : length (table_after rules own n).moves ≤ i
    pub then_there : i < length (table_after rules own (suc n)).moves

  -- each move past the own ones is added by a round
  pub added_after : (N i : ℕ) → length own.moves ≤ i → i < length (table_after rules own N).moves → (n : ℕ) × (n < N) × AddedAfter n i
  unfolding table_after
  added_after zero i l h = absurd (omega arith)
  added_after (suc N) i l h = by_test (ltb i (length (table_after rules own N).moves))
      (λ t. let (n, k, a) = added_after N i l (ltb-true i (length (table_after rules own N).moves) t) in (n, omega arith, a))
      (λ t. (N, omega arith, record { not_before = ltb-false i (length (table_after rules own N).moves) t; then_there = h }))

  -- in every later table it stands for the result of a derivation from the table before its round, and that was not held there
  pub derived : {n i : ℕ} → AddedAfter n i → (N : ℕ) → n < N
      → (d : Derivation) × Memᴰ d (derivations (table_after rules own n) rules) × (held (table_after rules own n) d.result ≡ false)
      × StandsFor (table_after rules own N) i d.result
  unfolding table_after
  derived {n} {i} a N h =
      let (d, j, f, s) = round_new rules (table_after rules own n) i a.not_before a.then_there in
      (d, j, f, stands_kept (after_extends rules own (suc n) N h) s)

  pub first_derivation_lem : {n i : ℕ} → AddedAfter n i → (N : ℕ) → n < N
      → (d : Derivation) × (first_derivation (table_after rules own n) rules (result_of (table_after rules own N) (move_at (table_after rules own N) i)) ≡ some d)
  first_derivation_lem {n} {i} a N h =
      let (d, j, f, s) = derived a N h in
      first_derivation_in (table_after rules own n) rules (result_of (table_after rules own N) (move_at (table_after rules own N) i)) j (sym (stands_result (table_after rules own N) s))
