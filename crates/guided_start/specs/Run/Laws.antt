-- The guided run from a start on a table that is there, as the code comes to it: not accepted, short at the start, or the walk.
-- Assumes nothing.
use Rattle.std.specs.Prelude.{ℕ, ◌*◌, ◌/◌, ◌≤◌, ◌<◌, min, Bool, true, false, ◌≡◌, List, [], length}
use Rattle.std.proofs.Math.Path.{refl, ap, sym}
use Rattle.std.proofs.Common.{ap₂, ◌∙◌, subst, arith}
use Rattle.std.proofs.Math.Nat.{min-le_left, min-le_right}
use Rattle.automata.specs.Saturation.{Saturated}
use Rattle.replies.specs.declared.Acceptance.{Acceptance}
use Rattle.replies.specs.declared.Reply.{Reply}
use Rattle.replies.specs.declared.Halt.TheVariants.{CellsShort}
use Rattle.walks.specs.Guide.{Report, walked_by, no_run, start_walk, guided}
use Rattle.files.specs.Case.{rules_of}
use Rattle.files.specs.Start.{Start, start_of, starts_of, cells_of, start_at}
use Rattle.words.specs.Lists.{zeros}
use Rattle.words.specs.Laws.Tests.{by_test}
use Rattle.services.specs.Judge.{more_to_add}
use Rattle.services.specs.Guide.{GuideInput, accepted, cell_words, cells_lent, start_named, guide_walk, guide_run, open_start}
use Rattle.services.proofs.Guide.Laws.{walk_short, walk_goes}
use Rattle.services.specs.Memory.Laws.{padded_none}
use Rattle.bytes_in.specs.Records.{record_at, body_of}
use Rattle.rounds.specs.Won.{is_won}
use Rattle.rounds.specs.Won.Laws.{round2_accepts}
use Rattle.acceptance.specs.Cells.{RoundsStand}
use Rattle.acceptance.specs.Cells.Laws.{StatesBelow}
use Rattle.guided_walk.specs.Turns.{Leaves}
use Rattle.sound_files.specs.Starts.{start_round}
use Rattle.sound_files.specs.Sound.{StartSound}
use Rattle.sound_files.specs.Sound.Rounds.{start_read, start_listed, start_since}
use Rattle.guided_start.specs.Run.{guide_input, table_input, lent_cells, short_at_start, unaccepted}

-- they are in the slice, and at most 4,096
pub lent_fit : (words : ℕ) {c : ℕ} → c ≡ lent_cells words → (c * 68 ≤ words) × (c ≤ 4096)
lent_fit words e =
    let a : min (words / 68) 4096 ≤ words / 68 = min-le_left (words / 68) 4096 in
    let b : min (words / 68) 4096 ≤ 4096 = min-le_right (words / 68) 4096 in
    (omega arith, omega arith)

pub leaves_same : {o p : Report} {n : ℕ} {r : Reply} {trace : List ℕ} → o ≡ p → Leaves p n r trace → Leaves o n r trace
leaves_same {n = n} {r = r} {trace = trace} e = subst (λ (q : Report). Leaves q n r trace) (sym e)

-- ---- the start

module _ (x : GuideInput) (there : x.number < length (starts_of x.start)) where
  same_start : start_at x.start x.number ≡ start_named x
  unfolding start_at start_named
  same_start = refl

  -- the start that was read is the one named
  pub named : {s : Start} {body : List ℕ} → body ≡ body_of x.start 0 3 → s ≡ start_of (record_at 3 x.number body) → s ≡ start_named x
  named b e = start_read x.start x.number there b e ∙ same_start

  -- its answer says whether it is accepted
  pub tested : (T : Saturated) {rounds : List ℕ} {a : Acceptance} {t : Bool} → StatesBelow T.table → StartSound x.start
      → RoundsStand T (cells_of x.start) rounds (length (cells_of x.start)) → a ≡ start_round rounds (start_at x.start x.number)
      → t ≡ is_won a → t ≡ accepted T.table x.start (start_named x)
  unfolding accepted
  tested T B sound R e is =
      is
      ∙ ap is_won (e ∙ start_since T B x.start sound R (start_at x.start x.number) (start_listed x.start x.number there))
      ∙ round2_accepts T _ _
      ∙ ap (accepted T.table x.start) same_start

-- ---- the run

-- it does not depend on the lengths of the tables, nor on the rounds that are asked for
pub run_tables : (case start : List ℕ) (number rounds m m' e e' c t : ℕ) (T : Saturated)
    → guide_run (guide_input case start number rounds m e c t) T ≡ guide_run (table_input case start number m' e' c t) T
unfolding guide_run guide_walk cells_lent start_named
run_tables case start number rounds m m' e e' c t T = refl

module _ (x : GuideInput) (T : Saturated) where
  pub run_not : accepted T.table x.start (start_named x) ≡ false → guide_run x T ≡ record { reply = unaccepted (more_to_add x.case T); trace = [] }
  unfolding guide_run unaccepted no_run open_start
  run_not e =
      rw (guide_run, e)
      (by_test (more_to_add x.case T) (λ m. rw (m, unaccepted) refl) (λ m. rw (m, unaccepted) refl))

  module _ (yes : accepted T.table x.start (start_named x) ≡ true) where
    pub run_short : cells_lent x < length (cells_of x.start) → guide_run x T ≡ walked_by (CellsShort (record { steps = 0; cells = 0 })) []
    unfolding guide_run
    run_short l = rw (guide_run, yes) (walk_short x T l)

    pub run_goes : length (cells_of x.start) ≤ cells_lent x
        → guide_run x T ≡ guided (rules_of x.case) T (cells_lent x) x.trace []
        (start_walk T.table (cells_of x.start) (start_named x).control (start_named x).root)
    unfolding guide_run
    run_goes l = rw (guide_run, yes) (walk_goes x T l)

-- ---- as the code comes to it

cells_are : (x : GuideInput) → lent_cells x.cells ≡ cells_lent x
unfolding cells_lent cell_words
cells_are x = refl

module _ (x : GuideInput) (T : Saturated) {t : Bool} (is : t ≡ accepted T.table x.start (start_named x)) {trace : List ℕ} where
  pub leaves_not : t ≡ false → {more : Bool} → more ≡ more_to_add x.case T → {r : Reply} → r ≡ unaccepted more → trace ≡ zeros x.trace
      → Leaves (guide_run x T) x.trace r trace
  leaves_not f m e z =
      leaves_same (run_not x T (sym is ∙ f)) (record { reply_is = e ∙ ap unaccepted m; trace_is = z ∙ sym (padded_none x.trace) })

  module _ (yes : t ≡ true) {c n : ℕ} (lent : c ≡ lent_cells x.cells) (count : n ≡ length (cells_of x.start)) where
    pub leaves_short : {r : Reply} → c < n → r ≡ short_at_start → trace ≡ zeros x.trace → Leaves (guide_run x T) x.trace r trace
    unfolding walked_by
    leaves_short l e z =
        let k = cells_are x in
        leaves_same (run_short x T (sym is ∙ yes) (omega arith)) (record { reply_is = e; trace_is = z ∙ sym (padded_none x.trace) })

    pub leaves_walk : {r : Reply} {s : Start} → n ≤ c → s ≡ start_named x
        → Leaves (guided (rules_of x.case) T c x.trace [] (start_walk T.table (cells_of x.start) s.control s.root)) x.trace r trace
        → Leaves (guide_run x T) x.trace r trace
    leaves_walk {r} {s} l e =
        let d : c ≡ cells_lent x = lent ∙ cells_are x in
        leaves_same
        (run_goes x T (sym is ∙ yes) (omega arith)
        ∙ ap₂ (λ (k : ℕ) (y : Start). guided (rules_of x.case) T k x.trace [] (start_walk T.table (cells_of x.start) y.control y.root))
        (sym d) (sym e))
