-- The walk from a start: its cells in lent cells, the case's rules, and its answer.
-- Assumes nothing.
use Rattle.std.specs.Prelude.{ℕ, ◌*◌, ◌≤◌, ◌≡◌, List, [], length}
use Rattle.std.proofs.Math.Path.{ap}
use Rattle.std.proofs.Common.{ap₂, sym, ◌∙◌, subst, arith}
use Rattle.stacks.specs.System.{Rule}
use Rattle.automata.specs.Automaton.{Automaton}
use Rattle.automata.specs.Saturation.{Saturated}
use Rattle.replies.specs.declared.Reply.{Reply}
use Rattle.walks.specs.Cell.{Cell, stacks, stack_at}
use Rattle.walks.specs.Cell.Formed.{Formed}
use Rattle.walks.specs.Guide as walks
use Rattle.walks.specs.Guide.{start_walk, guided}
use Rattle.files.specs.Bytes.{count_of}
use Rattle.files.specs.Case.{case_refusal, rules_of}
use Rattle.files.proofs.Case.Laws.{case_placed_lem}
use Rattle.files.specs.Start.{cells_of}
use Rattle.bytes_in.specs.Records.{body_of}
use Rattle.case_file.specs.Forms.{HoldsRules}
use Rattle.tables.specs.declared.Table.{Table}
use Rattle.saturation.specs.declared.after_rounds.AfterRounds.{AfterRounds}
use Rattle.results.specs.Collecting.{rules_in}
use Rattle.saturate.specs.Case.Laws.{rules_are, rules_stand}
use Rattle.cell_memory.specs.Memory.{guided_in}
use Rattle.rounds.specs.Won.{accepts_stack}
use Rattle.saturation.specs.Held.{saturated_by}
use Rattle.acceptance.specs.Cells.Laws.{states_below, cell_won}
use Rattle.start_records.specs.Body.{cells_in}
use Rattle.least_choices.specs.Starts.{Prepared, start_cells}
use Rattle.guided_step.specs.declared.Walk.{Walk}
use Rattle.guided_step.specs.Walks.{walk_in}
use Rattle.guided_walk.specs.Turns.{RunStands, Leaves}
use Rattle.sound_files.specs.Sound.Laws.{cells_count, cells_few, cells_lent_holds}
use Rattle.sound_files.specs.Sound.Rounds.{cells_are}
use Rattle.guided_start.specs.Tables.{TablesStand}
use Rattle.guided_start.specs.Tables.Laws.{reading_few}
use Rattle.guided_start.specs.Run.Laws.{leaves_same}
use Rattle.guided_start.specs.Walk.{ReadyBy}

-- ---- the start's cells

module _ (file : List ℕ) {body : List ℕ} {n : ℕ} (b : body ≡ body_of file 1 6) (count : n ≡ count_of file 1) where
  pub cells_number : n ≡ length (cells_of file)
  cells_number = count ∙ sym (cells_count file)

  -- what is asked before they are written
  pub prepared : {case : List ℕ} (run : AfterRounds) {rounds : List ℕ} → ReadyBy case file run rounds → Prepared run.tables body n rounds
  prepared run {rounds} r =
      let T : Saturated = saturated_by run in
      let few = cells_few file r.start_is.in_place in
      let room = r.start_rounds.rounds_lent in
      let e = cells_number in
      record {
        stands = r.tables.stands;
        few = r.tables.few;
        body_lent = (cells_lent_holds file r.start_is.in_place {words = 256} count b (omega arith)).0;
        formed = subst Formed (sym (cells_are file b count)) r.start_is.formed;
        rounds_lent = omega arith;
        accepted_in_holds = record {
          won_is = λ i l q. cell_won T (states_below r.tables.stands) (cells_of file) r.start_rounds.rounds_stand i (omega arith) q
              ∙ ap (λ (cells : List Cell). accepts_stack T.table (stack_at (stacks cells) i) q) (sym (cells_are file b count));
        };
      }

  -- once written, they are those of the walk from the start
  pub walk_starts : (A : Automaton) (w : Walk) (cells : List ℕ) {p root : ℕ} → w.control ≡ p → w.root ≡ root → w.cells ≡ n
      → guided_in n cells ≡ start_cells A (cells_in n body) → walk_in w cells ≡ start_walk A (cells_of file) p root
  unfolding start_walk
  walk_starts A w cells c r k is =
      λ i. record {
        control = c i;
        root = r i;
        cells = (ap (λ (j : ℕ). guided_in j cells) k ∙ is ∙ ap (start_cells A) (cells_are file b count)) i;
      }

-- ---- the case's rules

module _ (case : List ℕ) (sound : case_refusal case ≡ 0) {body : List ℕ} {count : ℕ} (h : HoldsRules case body count) where
  -- what is asked for the walk
  pub run_stands : {z : Table} {inner entries moves : List ℕ} {k : ℕ} {sizes cells : List ℕ} {most : ℕ} → TablesStand z inner entries moves k sizes
      → most * 68 ≤ length cells → most ≤ 4096 → RunStands z body count cells most
  run_stands t l m =
      let n = (case_placed_lem case sound).rules_count in
      let e = h.count_is in
      record {
        tables_few = reading_few t;
        rules_stand = rules_stand case sound body count h;
        rules_few = omega arith;
        cells_lent_holds = l;
        cells_few = m;
      }

  -- what it leaves, where it begins with the walk v
  pub walk_leaves : (T : Saturated) (most n : ℕ) {w v : walks.Walk} {r : Reply} {trace : List ℕ} → w ≡ v
      → Leaves (guided (rules_in count body) T most n [] w) n r trace → Leaves (guided (rules_of case) T most n [] v) n r trace
  walk_leaves T most n e =
      leaves_same (ap₂ (λ (l : List Rule) (u : walks.Walk). guided l T most n [] u) (sym (rules_are case sound body count h)) (sym e))
