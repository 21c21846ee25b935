-- Limits of rounds on lent tables, as the code works them out and as the definition tests them.
-- Assumes nothing.
use Prim.Native.Nat.{ℕ, ◌+◌, ◌-◌, ◌*◌, ◌/◌, ◌≤◌, ◌<◌, min}
use Rattle.std.specs.Prelude.{true, false, ◌≡◌, ◌⊎◌, List, Option as Answer}
use Rattle.std.proofs.Common.{subst₂, inl, inr}
use Rattle.std.proofs.Math.Nat.{min-le_left, min-le_right, le-min}
use native.Mathlib.Omega.{arith}
use Rattle.std.proofs.Math.ListN.{length}
use Rattle.words.specs.Laws.Tests.{by_test}
use Rattle.stacks.specs.System.{Rule}
use Rattle.automata.specs.Automaton.{Automaton}
use Rattle.automata.specs.Saturation.{within}
use Rattle.rounds.specs.Limits.{KeepsLimits, within_keeps, keeps_within}
use Rattle.services.specs.Memory.{lent, entry_width}
use Rattle.tables.specs.declared.Table.{Table}
use Rattle.one_round.specs.Rounding.{Standing, Rounded}
use Rattle.saturation.specs.Running.{most_moves, most_entries}

module _ (m e J : ℕ) (small : J ≤ 64) (A : Automaton) (same : A.J ≡ J) where
  pub fits_within : length A.moves ≤ most_moves m → length A.entries ≤ most_entries e J → within (lent m e) A ≡ true
  unfolding most_moves most_entries lent
  fits_within a b =
      let c : min (e / entry_width) (64 - J) ≤ e / entry_width = min-le_left (e / entry_width) (64 - J) in
      let d : min (e / entry_width) (64 - J) ≤ 64 - J = min-le_right (e / entry_width) (64 - J) in
      keeps_within (lent m e) A (record { moves_fit = a; entries_fit = omega arith; states_fit = omega arith })

  pub within_fits : within (lent m e) A ≡ true → (length A.moves ≤ most_moves m) × (length A.entries ≤ most_entries e J)
  unfolding most_moves most_entries lent
  within_fits h =
      let k : KeepsLimits (lent m e) A = within_keeps (lent m e) A h in
      let a : length A.entries ≤ e / entry_width = k.entries_fit in
      let b : A.J + length A.entries ≤ 64 = k.states_fit in
      (k.moves_fit, le-min a (omega arith))

  pub over_without : (most_moves m < length A.moves) ⊎ (most_entries e J < length A.entries) → within (lent m e) A ≡ false
  over_without o = by_test (within (lent m e) A) (λ h. absurd (no o (within_fits h))) (λ h. h)
    where
      no : (most_moves m < length A.moves) ⊎ (most_entries e J < length A.entries) → (length A.moves ≤ most_moves m) × (length A.entries ≤ most_entries e J) → ⊥
      no (inl l) f = let g : length A.moves ≤ most_moves m = f.0 in omega arith
      no (inr l) f = let g : length A.entries ≤ most_entries e J = f.1 in omega arith

-- ---- the same limits by other numbers

pub standing_limits : (z : Table) (m e m' e' : ℕ) (inner entries moves : List ℕ) → m' ≡ m → e' ≡ e → Standing z m e inner entries moves → Standing z m' e' inner entries moves
standing_limits z m e m' e' inner entries moves p q s = rw (p, q) s

pub rounded_limits : (rules : List Rule) (inner : List ℕ) (z : Table) (m e m' e' : ℕ) (entries moves : List ℕ) (r : Answer Table) (entries' moves' : List ℕ)
    → m' ≡ m → e' ≡ e → Rounded rules inner z m' e' entries moves r entries' moves' → Rounded rules inner z m e entries moves r entries' moves'
rounded_limits rules inner z m e m' e' entries moves r entries' moves' p q h =
    subst₂ (λ (x y : ℕ). Rounded rules inner z x y entries moves r entries' moves') p q h

pub pending_room : (m most room : ℕ) → most ≡ most_moves m → 6144 ≤ room → most * 6 ≤ room
unfolding most_moves
pending_room m most room e h =
    let a : min (m / 5) 1024 ≤ 1024 = min-le_right (m / 5) 1024 in
    omega arith
