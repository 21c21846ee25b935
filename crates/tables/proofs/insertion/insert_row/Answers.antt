-- `tables::insertion::insert_row` meets its contract.
-- Assumes nothing.
use Prim.Native.Nat.{◌<◌}
use mathlib.Core.Path.{refl, sym, ◌∙◌}
use native.Mathlib.Omega.{arith}
use Rattle.tables.specs.Insertion.Laws.{rows_fit, row_more, place_within, insert_has, insert_full, insert_put}
use borrow.Author.Rules.{rules}
use Rattle.tables.proofs.insertion.insert_row.Goals as goal

pub returns-then-holds-clause-value : goal.returns-then-holds-clause-value
returns-then-holds-clause-value c = (insert_has _ _ _ _ c.requires.1 (sym c.holds.ensures ∙ c.if-holds.true)).0

pub returns-then-holds-clause-t_after : goal.returns-then-holds-clause-t_after
returns-then-holds-clause-t_after c = (insert_has _ _ _ _ c.requires.1 (sym c.holds.ensures ∙ c.if-holds.true)).1

pub returns-then-n-room-clause-value : goal.returns-then-n-room-clause-value
returns-then-n-room-clause-value c =
    let fit = rows_fit c.args.x.now c.args.t.now _ _ c.requires.0 c.requires.1 in
    (insert_full _ _ _ _ fit (sym c.holds.ensures ∙ c.if-holds.false) c.if-n-room.true).0

pub returns-then-n-room-clause-t_after : goal.returns-then-n-room-clause-t_after
returns-then-n-room-clause-t_after c =
    let fit = rows_fit c.args.x.now c.args.t.now _ _ c.requires.0 c.requires.1 in
    (insert_full _ _ _ _ fit (sym c.holds.ensures ∙ c.if-holds.false) c.if-n-room.true).1

pub overflow_mul-i : goal.overflow_mul-i
overflow_mul-i c =
    let fit = rows_fit c.args.x.now c.args.t.now _ _ c.requires.0 c.requires.1 in
    let within = place_within c.args.x.now c.args.t.now _ _ c.place-i.ensures in
    search rules

pub put_between-requires : goal.put_between-requires
put_between-requires c =
    let within = place_within c.args.x.now c.args.t.now _ _ c.place-i.ensures in
    let less : c.args.n < c.args.room = omega (arith, c.requires.1, c.if-n-room.false) in
    let more = row_more c.args.x.now c.args.t.now _ _ c.requires.0 less in
    (within, more)

pub returns-clause-value : goal.returns-clause-value
returns-clause-value c =
    let fit = rows_fit c.args.x.now c.args.t.now _ _ c.requires.0 c.requires.1 in
    let new = sym c.holds.ensures ∙ c.if-holds.false in
    let less : c.args.n < c.args.room = omega (arith, c.requires.1, c.if-n-room.false) in
    (insert_put _ _ _ _ fit new _ _ _ less c.requires.0 c.place-i.ensures refl c.put_between.ensures).0

pub returns-clause-t_after : goal.returns-clause-t_after
returns-clause-t_after c =
    let fit = rows_fit c.args.x.now c.args.t.now _ _ c.requires.0 c.requires.1 in
    let new = sym c.holds.ensures ∙ c.if-holds.false in
    let less : c.args.n < c.args.room = omega (arith, c.requires.1, c.if-n-room.false) in
    (insert_put _ _ _ _ fit new _ _ _ less c.requires.0 c.place-i.ensures refl c.put_between.ensures).1
