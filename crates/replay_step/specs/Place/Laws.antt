-- What a step answers is what document 01's line of the rule's operation leaves.
-- Assumes nothing.
use Rattle.std.specs.Prelude.{ℕ, Result, Ok, Err, ◌+◌, ◌*◌, ◌<◌, ◌≤◌, true, false, ◌≡◌, refl, length}
use Rattle.std.proofs.Math.Path.{ap, subst}
use Rattle.std.proofs.Common.{sym, ◌∙◌, arith}
use Rattle.std.proofs.Math.Option.{none, some}
use mathlib.Core.List.{List, ◌++◌}
use Rattle.std.proofs.Math.ListN.{get_elem?}
use Rattle.words.specs.Lists.Laws.{get_elem?_below, get_elem?_past}
use Rattle.stacks.specs.Stack.{Operation, new_cells}
use Rattle.stacks.specs.System.{Configuration, Rule, step}
use Rattle.walks.specs.Cell.{Cell, order2, stack_at, stacks, cells_after, root_after}
use Rattle.walks.specs.Cell.Formed.{order_at}
use Rattle.walks.specs.Cell.Laws.{length_cells_after}
use Rattle.files.specs.Case.{rule_bytes, rule_of}
use Rattle.services.specs.Replay.{taken}
use Rattle.services.proofs.Replay.Laws.{taken_is}
use Rattle.bytes_in.specs.Records.{record_at}
use Rattle.tables.specs.Rows.{first_of}
use Rattle.tables.specs.Rows.Laws.{length_first_of, get_or_first_of}
use Rattle.results.specs.Collecting.{rule_in, rules_in}
use Rattle.cell_steps.specs.declared.Top.{Top}
use Rattle.cell_steps.specs.Steps.{put_from}
use Rattle.start_records.specs.Body.{cells_in}
use Rattle.start_records.specs.Body.Laws.{length_cells_in}
use Rattle.replay_cells.specs.CellBytes.{put_bytes}
use Rattle.replay_cells.specs.CellBytes.Laws.{cells_in_puts}
use Rattle.replay_step.specs.declared.Place.{Place}
use Rattle.replay_step.specs.declared.Stop.{Stop}
use Rattle.replay_step.specs.declared.Stop.TheVariants.{Fails, Short}
use Rattle.replay_step.specs.Top.{top_in, rule_fits}
use Rattle.replay_step.specs.Top.Laws.{StepOnCells, no_top, fits_not, fits}
use Rattle.replay_step.specs.Place.{place_configuration, PlaceStands, Moved, RuleShort, RuleGoes, RuleAnswers, StepAnswers}

-- ---- the new cells

-- the cells after those of the operation are written
new_cells_lem : (op : Operation) (n a u s t : ℕ) (bytes : List ℕ) {bytes' : List ℕ} → (n + new_cells op) * 6 ≤ length bytes
    → bytes' ≡ put_from put_bytes bytes n (cells_after op n a u s t) → cells_in (n + new_cells op) bytes' ≡ cells_in n bytes ++ cells_after op n a u s t
new_cells_lem op n a u s t bytes h e =
    let l : length (cells_after op n a u s t) ≡ new_cells op = length_cells_after op n a u s t in
    (λ i. cells_in (n + sym l i) (e i)) ∙ cells_in_puts (cells_after op n a u s t) bytes n (omega arith)

pub moved_by : (op : Operation) (p' : ℕ) (x : Top) (w : Place) {bytes bytes' : List ℕ} {root more : ℕ} → (w.cells + new_cells op) * 6 ≤ length bytes
    → bytes' ≡ put_from put_bytes bytes w.cells (cells_after op w.cells x.symbol x.annotation x.rest x.below)
    → root ≡ root_after op w.cells x.annotation x.below → more ≡ new_cells op
    → Moved op p' x w bytes (record { control = p'; root = root; cells = w.cells + more }) bytes'
moved_by op p' x w {bytes} {bytes'} h e r m =
    record {
      control_is = refl;
      root_is = r;
      cells_are = ap (λ (k : ℕ). w.cells + k) m;
      added = ap (λ (k : ℕ). cells_in (w.cells + k) bytes') m ∙ new_cells_lem op w.cells x.symbol x.annotation x.rest x.below bytes h e;
    }

-- ---- by one rule

module _ {w : Place} {bytes : List ℕ} (P : PlaceStands w bytes) where
  abbrev cells : List Cell
  cells = cells_in w.cells bytes

  long : length (cells_in w.cells bytes) ≡ w.cells
  long = length_cells_in w.cells bytes

  there : w.root < length (cells_in w.cells bytes)
  there = subst (λ (n : ℕ). w.root < n) (sym long) P.root_exists

  pub place_none : none ≡ top_in (cells_in w.cells bytes) w.root → (ρ : Rule) → step ρ (place_configuration w bytes) ≡ none
  unfolding step
  place_none e ρ = no_top P.formed w.root there P.root_order ρ w.control (sym e)

  module _ (ρ : Rule) (x : Top) (e : some x ≡ top_in (cells_in w.cells bytes) w.root) {k : ℕ} (o : k ≡ order_at (cells_in w.cells bytes) x.annotation) where
    pub place_not : rule_fits ρ w.control x.symbol k ≡ false → step ρ (place_configuration w bytes) ≡ none
    unfolding step
    place_not f =
        fits_not P.formed w.root there P.root_order ρ w.control x (sym e) (ap (rule_fits ρ w.control x.symbol) (sym o) ∙ f)

    module _ (f : rule_fits ρ w.control x.symbol k ≡ true) where
      on_cells : StepOnCells cells (place_configuration w bytes).stack ρ w.control (root_after ρ.operation w.cells x.annotation x.below)
          (cells ++ cells_after ρ.operation w.cells x.symbol x.annotation x.rest x.below)
      on_cells =
          subst (λ (n : ℕ). StepOnCells cells (place_configuration w bytes).stack ρ w.control (root_after ρ.operation n x.annotation x.below)
          (cells ++ cells_after ρ.operation n x.symbol x.annotation x.rest x.below)) long
          (fits P.formed w.root there P.root_order ρ w.control x (sym e) (ap (rule_fits ρ w.control x.symbol) (sym o) ∙ f))

      pub place_short : (most : ℕ) → most < w.cells + new_cells ρ.operation → RuleShort ρ most w bytes
      unfolding step
      place_short most l = record { left = _; applies = on_cells.leaves; lacks = l }

      pub place_goes : {v : Place} {bytes' : List ℕ} (most : ℕ) → ρ.next < 64 → Moved ρ.operation ρ.next x w bytes v bytes'
          → w.cells + new_cells ρ.operation ≤ most → most * 6 ≤ length bytes → length bytes' ≡ length bytes → RuleGoes ρ most w bytes v bytes'
      unfolding step
      place_goes {v} {bytes'} most small M l room same =
          let cells' : List Cell = cells_in v.cells bytes' in
          let s : StepOnCells cells (place_configuration w bytes).stack ρ w.control v.root (cells_in v.cells bytes') =
          subst (λ (c : List Cell). StepOnCells cells (place_configuration w bytes).stack ρ w.control v.root c) (sym M.added)
          (subst (λ (r : ℕ). StepOnCells cells (place_configuration w bytes).stack ρ w.control r
          (cells ++ cells_after ρ.operation w.cells x.symbol x.annotation x.rest x.below)) (sym M.root_is) on_cells) in
          let c : v.cells ≡ w.cells + new_cells ρ.operation = M.cells_are in
          record {
            applies = s.leaves
                ∙ ap (λ (p : ℕ). some (record { control = p; stack = order2 (stack_at (stacks (cells_in v.cells bytes')) v.root) })) (sym M.control_is);
            cells_are = c;
            within = omega arith;
            stands = record {
              cells_there = omega arith;
              formed = s.formed;
              root_exists = subst (λ (n : ℕ). v.root < n) (length_cells_in v.cells bytes') s.root_exists;
              root_order = s.root_order;
              control_small = subst (λ (p : ℕ). p < 64) (sym M.control_is) small;
            };
          }

-- ---- by the rule of a number

rules_past : (count k : ℕ) (body : List ℕ) → count ≤ k → get_elem? (rules_in count body) k ≡ none
unfolding rules_in
rules_past count k body h =
    let l : length (first_of count (rule_in body)) ≡ count = length_first_of count (rule_in body) in
    get_elem?_past (first_of count (rule_in body)) k (omega arith)

rules_at : (count k : ℕ) (body : List ℕ) → k < count → get_elem? (rules_in count body) k ≡ some (rule_in body k)
unfolding rules_in
rules_at count k body h =
    let l : length (first_of count (rule_in body)) ≡ count = length_first_of count (rule_in body) in
    get_elem?_below (first_of count (rule_in body)) k (rule_in body k) (omega arith) ∙ ap some (get_or_first_of count (rule_in body) k (rule_in body k) h)

pub missing_rule : (count k : ℕ) (body : List ℕ) (d : Configuration) → count ≤ k → taken (rules_in count body) k d ≡ none
unfolding taken
missing_rule count k body d h = rw (taken, rules_past count k body h)

module _ (count k : ℕ) (body : List ℕ) (h : k < count) {ρ : Rule} (e : ρ ≡ rule_of (rule_bytes (record_at 5 k body))) where
  numbered : get_elem? (rules_in count body) k ≡ some ρ
  unfolding rule_in
  numbered = rules_at count k body h ∙ ap some (sym e)

  pub taken_not : (d : Configuration) → step ρ d ≡ none → taken (rules_in count body) k d ≡ none
  unfolding taken
  taken_not d f = rw (taken, numbered, f)

  -- what is answered for the rule is what is answered for its number
  pub by_number : (most : ℕ) (w : Place) (bytes : List ℕ) (r : Result Place Stop) (bytes' : List ℕ) → RuleAnswers ρ most w bytes r bytes'
      → StepAnswers (rules_in count body) most k w bytes r bytes'
  by_number most w bytes (Err Fails) bytes' a = taken_not (place_configuration w bytes) a
  by_number most w bytes (Err Short) bytes' a =
      record { step_is = _; applies = taken_is (rules_in count body) k (place_configuration w bytes) numbered a.applies; lacks = a.lacks }
  by_number most w bytes (Ok v) bytes' a =
      record {
        more = new_cells ρ.operation;
        applies = taken_is (rules_in count body) k (place_configuration w bytes) numbered a.applies;
        cells_are = a.cells_are;
        within = a.within;
        stands = a.stands;
      }
