-- `move_index::words_key` meets its contract.
-- Assumes nothing.
use Prim.Native.Nat.{ℕ, ◌+◌, ◌*◌, ◌%◌}
use mathlib.Core.Path.{ap}
use Rattle.move_index.specs.Keys.{words_key}
use Rattle.move_index.proofs.words_key.Goals as goal

pub returns-clause-value : goal.returns-clause-value
unfolding words_key
returns-clause-value c =
    let m = c.args.m in
    ap (λ (k : ℕ). ((m.b % 65521) * 1021 + (m.r % 65521) * 577 + ((m.order % 4) * 683 + k)) % 2039) c.state_key.ensures.value
