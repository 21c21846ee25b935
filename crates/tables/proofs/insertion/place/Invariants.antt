-- `tables::insertion::place`: what its loops keep. The invariant: the first i rows come before x.
use Prim.Native.Nat.{ℕ, ◌<◌}
use mathlib.Core.Bool.{true}
use mathlib.Core.Path.{◌≡◌}
use lib.ListN.{length}
use Rattle.words.specs.Order.{less}
use Rattle.tables.specs.Insertion.{row_words}
use Rattle.tables.proofs.insertion.place.Given as goal

abbrev pub invariant-loop-i : goal.invariant-loop-i
invariant-loop-i l = (j : ℕ) → j < l.i → less (row_words (length l.x) l.t j) l.x ≡ true
