-- `bytes_in::number8` meets its contract.
-- Assumes nothing.
use native.Mathlib.Omega.{arith}
use Rattle.bytes_in.specs.Laws.Fields.{field_bytes8}
use Rattle.bytes_in.proofs.number8.Goals as goal

pub returns : goal.returns
returns c = omega (arith, field_bytes8 c.args.at c.args.b.now)
