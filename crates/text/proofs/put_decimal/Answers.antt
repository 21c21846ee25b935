-- `text::put_decimal` meets its contract.
-- Assumes nothing.
use native.Mathlib.Omega.{arith}
use Rattle.services.specs.Listing.Decimal.{decimal_length64}
use Rattle.text.proofs.put_decimal.Goals as goal

pub put_digits-requires : goal.put_digits-requires
put_digits-requires c = omega (arith, decimal_length64 c.args.n (omega arith))

pub returns-clause-within : goal.returns-clause-within
returns-clause-within c = omega (arith, decimal_length64 c.args.n (omega arith))
