-- Rounds: each keeps what was there and holds all results of the table before; one that adds no move changes nothing, and its table is
-- closed.
-- Assumes nothing.
use Prim.Native.Nat.{ℕ, zero, suc, ◌≤◌, ◌<◌}
use Rattle.std.specs.Prelude.{true, false, ◌≡◌, length}
use Rattle.std.proofs.Math.Path.{refl, ap, subst}
use Rattle.std.proofs.Common.{sym, ◌∙◌, arith}
use mathlib.Core.List.{List, Memᴰ}
use Rattle.words.specs.Laws.Numbers.{upward}
use Rattle.stacks.specs.System.{Rule}
use Rattle.automata.specs.Automaton.{Automaton}
use Rattle.automata.specs.Derivation.{Result, Derivation, derivations}
use Rattle.automata.specs.Saturation.{held, results, round, table_after}
use Rattle.automata.specs.Facts.{Extends, Closed}
use Rattle.automata.specs.Facts.Laws.{extends_refl, extends_trans, moves_grow}
use Rattle.automata.proofs.Saturation.Laws.{StandsFor, results_in, results_out}
use Rattle.rounds.specs.Added.{extend_extends, extend_holds, extend_nothing, extend_held, extend_new}

module _ (rules : List Rule) where
  -- ---- one round

  pub round_extends : (A : Automaton) → Extends A (round rules A)
  unfolding round
  round_extends A = extend_extends A (results rules A)

  -- after a round every result of the table before is held
  pub round_holds : (A : Automaton) {d : Derivation} → Memᴰ d (derivations A rules) → held (round rules A) d.result ≡ true
  unfolding round
  round_holds A j = extend_holds A (results_in rules A j)

  -- a round that adds no move changes nothing
  pub still_same : (A : Automaton) → length (round rules A).moves ≡ length A.moves → round rules A ≡ A
  unfolding round
  still_same A e = (extend_nothing A (results rules A) e).0

  -- and its table is closed
  pub still_closed : (A : Automaton) → length (round rules A).moves ≡ length A.moves → Closed rules A
  unfolding round
  still_closed A e = record { closed = λ d j. (extend_nothing A (results rules A) e).1 d.result (results_in rules A j) }

  pub closed_same : (A : Automaton) → Closed rules A → round rules A ≡ A
  unfolding round
  closed_same A c = extend_held A (results rules A) (λ x j. let (d, i, e) = results_out rules A j in ap (held A) (sym e) ∙ c.closed d i)

  -- a round that changes the number of moves adds a move
  pub round_adds : (A : Automaton) → (length (round rules A).moves ≡ length A.moves → ⊥) → length A.moves < length (round rules A).moves
  round_adds A n = let g = moves_grow (round_extends A) in omega arith

  -- a move that a round adds is the result of a derivation from the table before
  pub round_new : (A : Automaton) (i : ℕ) → length A.moves ≤ i → i < length (round rules A).moves
      → (d : Derivation) × Memᴰ d (derivations A rules) × (held A d.result ≡ false) × StandsFor (round rules A) i d.result
  unfolding round
  round_new A i l h =
      let (x, j, n, s) = extend_new A (results rules A) i l h in
      let (d, k, e) = results_out rules A j in
      (d, k, ap (held A) e ∙ n, subst (λ (y : Result). StandsFor (round rules A) i y) (sym e) s)

  -- ---- the table after n rounds

  pub after_suc : (own : Automaton) (n : ℕ) → table_after rules own (suc n) ≡ round rules (table_after rules own n)
  unfolding table_after
  after_suc own n = refl

  pub after_next : (own : Automaton) (n : ℕ) → Extends (table_after rules own n) (table_after rules own (suc n))
  unfolding table_after
  after_next own n = round_extends (table_after rules own n)

  pub own_extends : (own : Automaton) (n : ℕ) → Extends own (table_after rules own n)
  unfolding table_after
  own_extends own zero = extends_refl own
  own_extends own (suc n) = extends_trans (own_extends own n) (after_next own n)

  pub after_extends : (own : Automaton) (n m : ℕ) → n ≤ m → Extends (table_after rules own n) (table_after rules own m)
  after_extends own n m h =
      upward (λ k. Extends (table_after rules own n) (table_after rules own k)) n (extends_refl (table_after rules own n)) (λ k l x. extends_trans x (after_next own k)) m h

  -- from a closed table on, rounds change nothing
  pub after_closed : (own : Automaton) (n m : ℕ) → n ≤ m → Closed rules (table_after rules own n) → table_after rules own m ≡ table_after rules own n
  after_closed own n m h c =
      upward (λ k. table_after rules own k ≡ table_after rules own n) n refl
      (λ k l e. after_suc own k ∙ ap (round rules) e ∙ closed_same (table_after rules own n) c) m h
