-- `own_target::in_target` meets its contract.
-- Assumes nothing.
use native.Mathlib.Omega.{arith}
use Rattle.files.proofs.Case.Laws.{case_in_place}
use Rattle.own_target.specs.Target.Laws.{own_room, own_named}
use Rattle.own_target.proofs.in_target.Goals as goal

pub load_case-table-requires : goal.load_case-table-requires
load_case-table-requires c =
    let sound = c.requires.0 in
    (case_in_place _ sound, own_room _ sound _ _ _ (omega arith) (omega arith) (omega arith))

pub root_accepted-requires : goal.root_accepted-requires
root_accepted-requires c =
    let p = c.requires in
    let t = c.load_case-table in
    (own_named _ p.0 t.result _ _ _ t.ensures.moves_after (omega arith) (omega arith) (omega arith), p.1)

pub invariant_of-tables : goal.invariant_of-tables
invariant_of-tables c =
    let t = c.load_case-table in
    let named = own_named _ c.requires.0 t.result _ _ _ t.ensures.moves_after (omega arith) (omega arith) (omega arith) in
    record { edges_stand = named.edges_stand; entries_stand = named.entries_stand; moves_stand = record { moves_lent = named.moves_named.moves_lent } }
