-- `bytes_in::number2` meets its contract.
-- Assumes nothing.
use native.Mathlib.Omega.{arith}
use Rattle.bytes_in.specs.Laws.Fields.{field_bytes2}
use Rattle.bytes_in.proofs.number2.Goals as goal

pub returns-clause-value : goal.returns-clause-value
returns-clause-value c = omega (arith, field_bytes2 c.args.at c.args.b.now)
