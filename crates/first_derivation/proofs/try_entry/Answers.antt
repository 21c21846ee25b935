-- `first_derivation::try_entry` meets its contract.
-- Assumes nothing.
use mathlib.Core.Bool.{false}
use mathlib.Core.Path.{◌≡◌}
use Rattle.std.proofs.Math.Logic.{⊎_elim}
use native.Mathlib.Omega.{arith}
use Rattle.tables.specs.Records.{as_result}
use Rattle.tables.specs.View.{entries_in}
use Rattle.first_reading.specs.First.{is_some}
use Rattle.first_derivation.specs.Search.{entry_joins}
use Rattle.first_derivation.specs.Premises.{entry_gives}
use Rattle.first_derivation.specs.Premises.Loops.{other_control, other_set, entry_gives_lem}
use Rattle.first_derivation.proofs.try_entry.Goals as goal
use Rattle.first_derivation.proofs.try_entry.Goals.{then-g-p, else-g-p}

pub returns-then-g-x : goal.returns-then-g-x
returns-then-g-x c =
    entry_gives_lem c.args.tables.now.table _ _ _ _ _ c.requires _ c.entry_at-g.ensures c.if-g-x.true.0 c.if-g-x.true.1 c.entry_joins.ensures

pub returns-else-g-x : goal.returns-else-g-x
returns-else-g-x c =
    let row = c.entry_at-g.ensures in
    let none : false ≡ is_some (entry_gives (entries_in c.args.tables.now) (as_result c.args.x) (entry_joins c.args.collapse) c.args.p c.args.e) =
    ⊎_elim (λ e. other_set c.args.tables.now.table _ _ _ _ _ c.requires _ row e.0 e.1) (λ e. other_control c.args.tables.now.table _ _ _ _ _ c.requires _ row e) c.if-g-x.either in
    elim c.if-g-p.branch [ then-g-p w ↦ grind (arith, none) | else-g-p w ↦ grind (arith, none) ]
