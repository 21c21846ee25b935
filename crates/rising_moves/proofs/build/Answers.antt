-- `rising_moves::build` meets its contract.
-- Assumes nothing.
use Prim.Native.Nat.{ℕ, ◌-◌, ◌<◌}
use native.Mathlib.Omega.{arith}
use Rattle.chains.specs.Chains.Laws.{chained_up_to}
use Rattle.move_index.specs.Keys.{state_key_at}
use Rattle.rising_moves.specs.Rising.{control_key_at}
use Rattle.rising_moves.specs.Rising.Laws.{first_keys, keys_there, entered, rising_none, states_rise, controls_rise}
use Rattle.rising_moves.proofs.build.Goals as goal

pub loop-i-init : goal.loop-i-init
loop-i-init c = (rising_none _ _ c.requires.2 c.requires.3, rising_none _ _ c.requires.2 c.requires.4, omega arith)

pub loop-i-preserved : goal.loop-i-preserved
loop-i-preserved c =
    let args = c.args in
    let i = c.loop-i.i in
    let inv = c.loop-i.invariant in
    let few = c.requires.2 in
    let some = c.loop-i-test.true in
    let by_state : ℕ → ℕ = state_key_at args.moves.now in
    let by_control : ℕ → ℕ = control_key_at args.z args.entries.now args.moves.now in
    let n = args.z.moves in
    let there : i - 1 < args.z.moves = omega arith in (
      entered (first_keys n by_state) i some (omega arith) (c.enter.ensures.by_index (first_keys n by_state) (keys_there n by_state (i - 1) there)) inv.0,
      entered (first_keys n by_control) i some (omega arith) (c.enter.ensures.controls (first_keys n by_control) (keys_there n by_control (i - 1) there)) inv.1,
      omega arith,
    )

pub returns : goal.returns
returns c =
    let loop = c.loop-i in
    let done = c.loop-i-test.false in
    record { by_state = states_rise _ _ (chained_up_to _ _ _ _ (omega arith) (omega arith) loop.invariant.0); by_control = controls_rise _ _ _ (chained_up_to _ _ _ _ (omega arith) (omega arith) loop.invariant.1) }
