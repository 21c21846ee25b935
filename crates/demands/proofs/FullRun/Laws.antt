-- The full run of a start is one, whatever tables are lent. A guide's halt in the words of the walk is its halt in document 01's words.
-- Assumes nothing.
use Prim.Native.Nat.{ℕ, suc, ◌+◌, ◌-◌, ◌*◌, ◌≤◌, ◌<◌, min}
use Rattle.std.specs.Prelude.{true, ◌≡◌, refl, eqb, leb}
use Rattle.std.proofs.Math.Path.{ap}
use Rattle.std.proofs.Common.{sym, ◌∙◌, lt_trans, lt_of_le_of_lt, eqb-true, leb-true, leb-false}
use Rattle.std.proofs.Math.Option.{some, some-injective, none-ne-some}
use mathlib.Core.List.{List}
use native.Mathlib.Omega.{arith}
use Rattle.std.proofs.Math.ListN.{length}
use Rattle.std.proofs.lemmas.Bool.{eqb-false}
use Rattle.words.specs.Laws.Tests.{by_test}
use Rattle.words.specs.Laws.Options.{by_option}
use Rattle.stacks.specs.System.{Rule}
use Rattle.automata.specs.Automaton.{Automaton}
use Rattle.automata.specs.Facts.{states}
use Rattle.automata.specs.Saturation.{Size, Saturated, within, all_rounds}
use Rattle.rounds.specs.Limits.{KeepsLimits, within_keeps, keeps_within, saturate_some, held_table}
use Rattle.walks.specs.Guide.{Walk, arrived, to, next, walk_after, trace_after}
use Rattle.files.specs.Case.{case_refusal, own_of, rules_of}
use Rattle.services.specs.Memory.{lent, entry_width}
use Rattle.services.specs.Saturate.{Lent, saturated}
use Rattle.guidance.specs.Halt.{Reason, arrival, trace_full, cells_short, cells_of_steps}
use Rattle.guidance.specs.Run.{trace_short, run_first, run_trace, run_join, run_split, trace_take, run_cells_used, walk_after_to}
use Rattle.guidance.specs.Prefix.{ArrivesAfter, FirstHalt, arrives_last}
use Rattle.guidance.specs.Prefix
use Rattle.demands.specs.Size.{SaturatedTable}
use Rattle.demands.specs.Size.Laws.{saturated_table_lem}
use Rattle.demands.specs.FullRun.{saturated_table, walk_from, full_walk, full_trace, full_next, FullRun, used, HaltsAfter, has_arrived, is_full, is_short, Stops}

-- ---- the table

-- what keeps the limits of some lent tables keeps those of the largest tables that count
within_most : (z : Size) (A : Automaton) → within z A ≡ true → within (record { moves = 1024; entries = 64 }) A ≡ true
within_most z A h =
    let k : KeepsLimits z A = within_keeps z A h in
    let m : length A.moves ≤ min z.moves 1024 = k.moves_fit in
    let s : states A ≤ 64 = k.states_fit in
    keeps_within (record { moves = 1024; entries = 64 }) A (record { moves_fit = omega arith; entries_fit = omega arith; states_fit = s })

-- The table of the rounds run is the same for all lent tables that hold it.
pub saturated_is : (x : Lent) (rounds : ℕ) {T : Saturated} → saturated x rounds ≡ some T → saturated_table x.case rounds ≡ some T
unfolding saturated saturated_table
saturated_is x rounds {T} e =
    let z : Size = lent x.moves x.entries in
    let s = saturate_some (rules_of x.case) z (own_of x.case) rounds e in
    held_table (rules_of x.case) z (record { moves = 1024; entries = 64 }) rounds (own_of x.case) e (within_most z T.table s.limits_kept)

-- That of all rounds is the saturated table of a sound case.
pub full_saturated : (case : List ℕ) {T : Saturated} → case_refusal case ≡ 0 → saturated_table case all_rounds ≡ some T → SaturatedTable case T.table
unfolding saturated saturated_table lent
full_saturated case sound e = saturated_table_lem (record { case = case; moves = 5120; entries = 64 * entry_width }) sound e

-- Tables of 1,024 moves and 64 entries are enough: with them and with longer ones a case is refused for size exactly if the table of the rounds
-- run has more than 1,024 moves or 64 order-1 states.
pub enough_lent : (x : Lent) (rounds : ℕ) → 5120 ≤ x.moves → 64 * entry_width ≤ x.entries → saturated x rounds ≡ saturated_table x.case rounds
unfolding saturated saturated_table lent
enough_lent x rounds h k =
    by_option (saturated_table x.case rounds)
    (λ o. by_option (saturated x rounds) (λ q. q ∙ sym o) (λ T q. absurd (none-ne-some T (sym o ∙ saturated_is x rounds q))))
    (λ T o.
    let z : Size = record { moves = 1024; entries = 64 } in
    let s = saturate_some (rules_of x.case) z (own_of x.case) rounds o in
    let f : KeepsLimits z T.table = within_keeps z T.table s.limits_kept in
    let m : length T.table.moves ≤ min 1024 1024 = f.moves_fit in
    let n : length T.table.entries ≤ 64 = f.entries_fit in
    let w = keeps_within (lent x.moves x.entries) T.table (record { moves_fit = omega arith; entries_fit = omega arith; states_fit = f.states_fit }) in
    held_table (rules_of x.case) z (lent x.moves x.entries) rounds (own_of x.case) o w ∙ sym o)

-- ---- the full run

module _ (case : List ℕ) (rounds : ℕ) {T : Saturated} (e : saturated_table case rounds ≡ some T) where
  pub full_walk_lem : (start : List ℕ) (n m : ℕ) → full_walk case start rounds n m ≡ walk_after (rules_of case) T m (walk_from start n T.table)
  unfolding full_walk
  full_walk_lem start n m = rw (full_walk, e)

  pub full_trace_lem : (start : List ℕ) (n m : ℕ) → full_trace case start rounds n m ≡ trace_after (rules_of case) T m (walk_from start n T.table)
  unfolding full_trace
  full_trace_lem start n m = rw (full_trace, e)

  pub full_next_lem : (w : Walk) → full_next case rounds w ≡ next (rules_of case) T w
  unfolding full_next
  full_next_lem w = rw (full_next, e)

-- the first m steps are at most m
pub full_short : (case start : List ℕ) (rounds n m : ℕ) → length (full_trace case start rounds n m) ≤ m
unfolding full_trace
full_short case start rounds n m =
    by_option (saturated_table case rounds)
    (λ o. rw (full_trace, o) (omega arith))
    (λ T o. rw (full_trace_lem case rounds o start n m) (trace_short (rules_of case) T m (walk_from start n T.table)))

-- the table on which a full run goes
full_table : {case start : List ℕ} {rounds n : ℕ} {ns : List ℕ} {w : Walk} → FullRun case start rounds n ns w → (T : Saturated) × (saturated_table case rounds ≡ some T)
unfolding full_walk
full_table {case} {start} {rounds} {n} {ns} {w} r =
    let e : full_walk case start rounds n (length ns) ≡ some w = r.walk_is in
    by_option (saturated_table case rounds) (λ o. absurd (none-ne-some w (rw (full_walk, o) at e))) (λ T o. (T, o))

module _ {case start : List ℕ} {rounds n : ℕ} where
  -- it arrives after as many steps as it has rule numbers
  full_arrives : {ns : List ℕ} {w : Walk} {T : Saturated} → saturated_table case rounds ≡ some T → FullRun case start rounds n ns w
      → ArrivesAfter (rules_of case) T (length ns) (walk_from start n T.table) w
  full_arrives {ns} {w} e r =
      record {
        run_is = sym (full_walk_lem case rounds e start n (length ns)) ∙ r.walk_is;
        arrives = sym (full_next_lem case rounds e w) ∙ r.arrives;
      }

  -- It is one run: the case file, the start file, the number of the start and the number of rounds leave only one.
  pub one_full_run : {ns ms : List ℕ} {w v : Walk} → FullRun case start rounds n ns w → FullRun case start rounds n ms v → (ns ≡ ms) × (w ≡ v)
  one_full_run {ns} {ms} {w} {v} r s =
      let (T, e) = full_table r in
      let a = full_arrives e r in
      let b = full_arrives e s in
      let k : length ms ≤ length ns = arrives_last (rules_of case) T (length ns) (walk_from start n T.table) a (length ms) b.run_is in
      let l : length ns ≤ length ms = arrives_last (rules_of case) T (length ms) (walk_from start n T.table) b (length ns) a.run_is in
      let z : length ns ≡ length ms = omega arith in (
        sym r.trace_is ∙ ap (full_trace case start rounds n) z ∙ s.trace_is,
        some-injective w v (sym r.walk_is ∙ ap (full_walk case start rounds n) z ∙ s.walk_is),
      )

-- ---- the halt

-- with more cells and a longer trace a guide halts after no fewer steps
pub stops_later : {rules : List Rule} {first : ℕ} {ns : List ℕ} {c c' t t' : ℕ} (s : Stops rules first ns c t) (q : Stops rules first ns c' t') → c ≤ c' → t ≤ t'
    → s.steps ≤ q.steps
stops_later {rules} {first} {ns} {c} {c'} {t} {t'} s q h k =
    by_test (leb s.steps q.steps) (λ z. leb-true _ _ z) (λ z. absurd (sooner (leb-false _ _ z) q.halts))
  where
    -- a trace that is full before that halts s there
    full : t < q.steps → q.steps < s.steps → q.steps < length ns → ⊥
    full l m n = s.least t trace_full (lt_trans l m) (is_full (lt_trans l n) refl)

    sooner : q.steps < s.steps → {r : Reason} → HaltsAfter rules first ns c' t' q.steps r → ⊥
    sooner l (has_arrived e) = s.least q.steps arrival l (has_arrived e)
    sooner l (is_full m e) = by_test (eqb q.steps t)
        (λ z. s.least q.steps trace_full l (is_full m (eqb-true _ _ z)))
        (λ z. let d : q.steps ≡ t → ⊥ = eqb-false _ _ z in full (omega arith) l m)
    sooner l (is_short m e g) = by_test (eqb q.steps t)
        (λ z. s.least q.steps trace_full l (is_full m (eqb-true _ _ z)))
        (λ z. s.least q.steps cells_short l (is_short m (eqb-false _ _ z) (lt_of_le_of_lt h g)))

module _ (rules : List Rule) (T : Saturated) (M : ℕ) (w : Walk) {v : Walk} (a : ArrivesAfter rules T M w v) where
  pub length_trace : length (trace_after rules T M w) ≡ M
  length_trace = run_trace rules T M w a.run_is

  -- where the run has arrived, all its steps are done
  arrived_last : (m : ℕ) {u : Walk} → walk_after rules T m w ≡ some u → next rules T u ≡ arrived → m ≡ M
  arrived_last m {u} h e =
      let l : m ≤ M = arrives_last rules T M w a m h in
      let k : M ≤ m = arrives_last rules T m w (record { run_is = h; arrives = e }) M a.run_is in
      omega arith

  -- where a step follows, there are more steps
  onward_below : (m : ℕ) {u x : Walk} {n : ℕ} → walk_after rules T m w ≡ some u → next rules T u ≡ to n x
      → (m < M) × (walk_after rules T (suc m) w ≡ some x)
  unfolding walk_after
  onward_below m {u} {x} {n} h e =
      let s : walk_after rules T (m + 1) w ≡ some x = run_join rules T m 1 w h ∙ walk_after_to rules T u e 0 in
      let z : m + 1 ≡ suc m = omega arith in
      let j : walk_after rules T (suc m) w ≡ some x = rw z at s in
      (arrives_last rules T M w a (suc m) j, j)

  -- the cells used after m steps
  pub cells_after_lem : (m : ℕ) {u : Walk} → m ≤ M → walk_after rules T m w ≡ some u
      → length u.cells ≡ used rules (length w.cells) (trace_after rules T M w) m
  unfolding used
  cells_after_lem m l h = run_cells_used rules T m w h ∙ ap (λ (ns : List ℕ). length w.cells + cells_of_steps rules ns) (trace_take rules T m M w l)

  -- the walk before the last step goes on
  goes_on : (m : ℕ) → m < M → (u : Walk) × (n : ℕ) × (x : Walk) × (walk_after rules T m w ≡ some u) × (next rules T u ≡ to n x)
  goes_on m l =
      let z : m + suc (M - suc m) ≡ M = omega arith in
      let (u, h, k) = run_split rules T m (suc (M - suc m)) w {v = v} (rw z a.run_is) in
      let (n, x, e, _) = run_first rules T u (M - suc m) k in
      (u, n, x, h, e)

  module _ (c t : ℕ) where
    to_halts : (m : ℕ) {u : Walk} {r : Reason} → walk_after rules T m w ≡ some u → Prefix.Halts rules T c t m u r
        → HaltsAfter rules (length w.cells) (trace_after rules T M w) c t m r
    to_halts m h (Prefix.has_arrived e) = has_arrived (arrived_last m h e ∙ sym length_trace)
    to_halts m h (Prefix.is_full n x e f) = let l : m < M = (onward_below m h e).0 in is_full (rw length_trace l) f
    to_halts m h (Prefix.is_short n x e f g) =
        let (l, j) = onward_below m h e in
        is_short (rw length_trace l) f (rw (← cells_after_lem (suc m) l j) g)

    from_halts : (m : ℕ) {r : Reason} → HaltsAfter rules (length w.cells) (trace_after rules T M w) c t m r → m < M
        → (u : Walk) × (walk_after rules T m w ≡ some u) × Prefix.Halts rules T c t m u r
    from_halts m (has_arrived e) l = let z : m ≡ M = e ∙ length_trace in absurd (omega arith)
    from_halts m (is_full _ f) l = let (u, n, x, h, e) = goes_on m l in (u, h, Prefix.is_full n x e f)
    from_halts m (is_short _ f g) l =
        let (u, n, x, h, e) = goes_on m l in
        (u, h, Prefix.is_short n x e f (rw (cells_after_lem (suc m) l (onward_below m h e).1) g))

    -- the walk's halt is that of its full run
    pub stop_halts : (x : FirstHalt rules T c t w) → HaltsAfter rules (length w.cells) (trace_after rules T M w) c t x.steps x.reason
    stop_halts x = to_halts x.steps x.run_is x.halts

    pub stop_least : (x : FirstHalt rules T c t w) → x.steps ≤ M → (k : ℕ) (r : Reason) → k < x.steps
        → HaltsAfter rules (length w.cells) (trace_after rules T M w) c t k r → ⊥
    stop_least x l k r b h = let (u, e, g) = from_halts k h (omega arith) in x.least k u r b e g
