-- `results::by_entries`: what its loops keep.
use mathlib.Core.Path.{◌≡◌}
use lib.ListN.{length}
use Rattle.results.specs.Entries.Laws.{EntriesUpTo}
use Rattle.results.proofs.by_entries.Given as goal

abbrev pub invariant-loop-i : goal.invariant-loop-i
invariant-loop-i l =
    EntriesUpTo l.by.table l.by.entries.now l.by.moves.now l.to.control l.to.symbol l.kind l.q l.to.room l.n l.initial.out l.i l.k l.out
    × (length l.out ≡ length l.initial.out)
