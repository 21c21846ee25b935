-- What holds of results collected in a table with room for so many.
-- Assumes nothing.
use Rattle.std.specs.Prelude.{ℕ, ◌+◌, ◌*◌, ◌≤◌, ◌<◌, ◌≡◌, leb}
use Rattle.std.proofs.Math.Path.{ap, sym}
use Rattle.std.proofs.Common.{◌∙◌}
use Rattle.std.proofs.Math.Option.{Option, some}
use mathlib.Core.List.{List}
use native.Mathlib.Omega.{arith}
use Rattle.std.proofs.Math.ListN.{length}
use borrow.Author.Tests.{le-leb, lt-leb, leb-true, leb-false}
use Rattle.words.specs.Order.{insert}
use Rattle.words.specs.Laws.Tests.{by_test}
use Rattle.automata.specs.Derivation.{Result, result_key}
use Rattle.tables.specs.Rows.{rows_in}
use Rattle.tables.specs.Layouts.{result_row}
use Rattle.tables.specs.Laws.Exact.{result_exact}
use Rattle.tables.specs.Insertion.{with_row, inserted_in}
use Rattle.tables.specs.Insertion.Laws.{layout_length, layout_inserted}
use Rattle.tables.specs.Pending.{limited, insert_within, pending_in}

pub limited_fits : (room : ℕ) (l : List Result) → length l ≤ room → limited room l ≡ some l
unfolding limited
limited_fits room l h = rw (limited, le-leb (length l) room h)

pub limited_over : (room : ℕ) (l : List Result) → room < length l → limited room l ≡ Option.none
unfolding limited
limited_over room l h = rw (limited, lt-leb (length l) room h)

pub pending_fits : (room n : ℕ) (t : List ℕ) → n ≤ room → pending_in room n t ≡ some (rows_in result_row n t)
unfolding pending_in
pending_fits room n t h = rw (pending_in, le-leb n room h)

pub pending_over : (room n : ℕ) (t : List ℕ) → room < n → pending_in room n t ≡ Option.none
unfolding pending_in
pending_over room n t h = rw (pending_in, lt-leb n room h)

module _ (room : ℕ) (x : Result) where
  -- there was no room before
  pub insert_over : (n : ℕ) (t : List ℕ) → room < n → pending_in room n t ≡ insert_within room x (pending_in room n t)
  unfolding insert_within
  insert_over n t h = pending_over room n t h ∙ sym (ap (insert_within room x) (pending_over room n t h))

  -- x is inserted, where there is room for it
  pub insert_within_lem : (n r : ℕ) (t t' : List ℕ) → n ≤ room → room * 6 ≤ length t → r ≡ length (with_row n (result_key x) t)
      → t' ≡ inserted_in room n (result_key x) t
      → (pending_in room r t' ≡ insert_within room x (pending_in room n t)) × (r ≤ room + 1)
  unfolding insert_within
  insert_within_lem n r t t' h b e f =
      let l : List Result = insert result_key x (rows_in result_row n t) in
      let fits : n * 6 ≤ length t = omega arith in
      let (len, few) = layout_length result_row result_exact n t fits r x e in
      let before : insert_within room x (pending_in room n t) ≡ limited room l = ap (insert_within room x) (pending_fits room n t h) in (
        by_test (leb r room)
            (λ q.
            let k : r ≤ room = leb-true r room q in
            pending_fits room r t' k
            ∙ ap some (layout_inserted result_row result_exact n t fits room r t' x e f k).rows
            ∙ sym (before ∙ limited_fits room l (omega arith)))
            (λ q.
            let k : room < r = leb-false r room q in
            pending_over room r t' k ∙ sym (before ∙ limited_over room l (omega arith))),
        omega arith,
      )
