-- `bytes_in::number4` meets its contract.
-- Assumes nothing.
use native.Mathlib.Omega.{arith}
use Rattle.bytes_in.specs.Laws.Fields.{field_bytes4}
use Rattle.bytes_in.proofs.number4.Goals as goal

pub returns-clause-value : goal.returns-clause-value
returns-clause-value c = omega (arith, field_bytes4 c.args.at c.args.b.now)
