-- `rising_moves::build`: what its loops keep.
use Prim.Native.Nat.{◌-◌, ◌≤◌}
use Rattle.chains.specs.Chains.{Chained}
use Rattle.move_index.specs.Keys.{state_key_at}
use Rattle.rising_moves.specs.Rising.{from_last, control_key_at}
use Rattle.rising_moves.specs.Rising.Laws.{first_keys}
use Rattle.rising_moves.proofs.build.Given as goal

abbrev pub invariant-loop-i : goal.invariant-loop-i
invariant-loop-i l =
    Chained (from_last (first_keys l.z.moves (state_key_at l.moves))) (1024 - l.i) l.states
    × Chained (from_last (first_keys l.z.moves (control_key_at l.z l.entries l.moves))) (1024 - l.i) l.controls × (l.i ≤ l.z.moves)
