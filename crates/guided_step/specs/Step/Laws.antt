-- What the answers of the code say of one step.
-- Assumes nothing.
use Rattle.std.specs.Prelude.{ℕ, ◌≤◌, ◌<◌, ◌≡◌, List, [], get_or, replicate, None, Some, Option as Found}
use Rattle.std.proofs.Math.Path.{ap, sym, subst}
use Rattle.std.proofs.Common.{◌∙◌}
use Rattle.std.proofs.Math.Option.{Option, some}
use Rattle.std.proofs.Math.ListN.{get_elem?}
use borrow.Author.Tests.{lt-ltb, le-ltb}
use Rattle.words.specs.Lists.Laws.{get_elem?_some}
use Rattle.stacks.specs.Stack.{Operation}
use Rattle.stacks.specs.System.{Rule}
use Rattle.automata.specs.Automaton.{Automaton, Move, no_move, move_at}
use Rattle.automata.specs.Derivation.{Result, Derivation, result_of, first_derivation}
use Rattle.automata.proofs.Derivation.Laws.{Derives, derivations_out, first_derivation_out}
use Rattle.automata.proofs.Derivation.Kept.{says_kept}
use Rattle.automata.specs.Saturation.{Saturated, last_up_to, before, own_moves}
use Rattle.automata.proofs.Saturation.Laws.{before_extends}
use Rattle.walks.specs.Guide as walks
use Rattle.walks.specs.Guide.{first_or_zero, chooses_all, by_derivation, at_top}
use Rattle.tables.specs.declared.Table.{Table}
use Rattle.tables.specs.Rows.{first_of, rows_in}
use Rattle.tables.specs.Rows.Laws.{length_first_of, get_or_first_of}
use Rattle.tables.specs.Layouts.{move_row}
use Rattle.tables.specs.Held.{automaton_of, table_of, EdgesStand, EntriesStand, MovesStand}
use Rattle.results.specs.Collecting.{rule_in, rules_in}
use Rattle.saturation.specs.Sizes.{the_size}
use Rattle.saturation.specs.Layout.{size_row}
use Rattle.first_reading.specs.Words.{TablesFew}
use Rattle.first_derivation.specs.declared.Derivation.{Derivation as DerivationWords}
use Rattle.first_derivation.specs.Premises.{edge_states, read_states}
use Rattle.first_derivation.specs.Derived.{operation_by, FindsFirst, StatesSmall}
use Rattle.first_derivation.specs.Derived.Choices.{by_state, Blank, blank_zeros, missing_none, found_some, edges_chosen, moves_chosen, operation_is}
use Rattle.cell_steps.specs.declared.Top.{Top}
use Rattle.guided_step.specs.declared.Next.{Next}
use Rattle.guided_step.specs.declared.Next.TheVariants.{Arrived, Stuck, To}
use Rattle.guided_step.specs.declared.Walk.{Walk}
use Rattle.guided_step.specs.declared.Tip.{Tip}
use Rattle.guided_step.specs.Walks.{walk_in, top_by, tip_of}
use Rattle.guided_step.specs.Walks.Laws.{top_of_moves}
use Rattle.guided_step.specs.Earlier.{table_up_to}
use Rattle.guided_step.specs.Earlier.Laws.{table_up_to_lem, up_to_edges, up_to_entries, up_to_moves, up_to_few, result_table}
use Rattle.saturation.specs.Held.{saturated_in}
use Rattle.guided_step.specs.Step.{FindsBefore, StepSmall, Taken, Gives, AtTop, NextIs}
use Rattle.guided_step.specs.Step.Chosen.{holds_kept, Sized, says_small}

-- ---- the table before a move's round

module _ (z : Table) (inner entries moves : List ℕ) (k : ℕ) (sizes : List ℕ) (i : ℕ) where
  abbrev T : Saturated
  T = saturated_in z inner entries moves k sizes

  -- the table that the code makes is this one
  pub before_is : {b : Table} → b ≡ table_up_to z (last_up_to (the_size 0 0) (rows_in size_row k sizes) i) → automaton_of b inner entries moves ≡ before T i
  unfolding before
  before_is e =
      ap (λ (b : Table). automaton_of b inner entries moves) e ∙ table_up_to_lem z inner entries moves (last_up_to (the_size 0 0) (rows_in size_row k sizes) i)

  module _ {b : Table} (e : b ≡ table_up_to z (last_up_to (the_size 0 0) (rows_in size_row k sizes) i)) where
    pub before_edges : EdgesStand z inner → EdgesStand b inner
    before_edges h = subst (λ (b : Table). EdgesStand b inner) (sym e) (up_to_edges (last_up_to (the_size 0 0) (rows_in size_row k sizes) i) h)

    pub before_entries : EntriesStand z entries → EntriesStand b entries
    before_entries h = subst (λ (b : Table). EntriesStand b entries) (sym e) (up_to_entries (last_up_to (the_size 0 0) (rows_in size_row k sizes) i) h)

    pub before_moves : MovesStand z moves → MovesStand b moves
    before_moves h = subst (λ (b : Table). MovesStand b moves) (sym e) (up_to_moves (last_up_to (the_size 0 0) (rows_in size_row k sizes) i) h)

    pub before_few : TablesFew z → TablesFew b
    before_few h = subst TablesFew (sym e) (up_to_few (last_up_to (the_size 0 0) (rows_in size_row k sizes) i) h)

  pub before_small : {b : Table} → b ≡ table_up_to z (last_up_to (the_size 0 0) (rows_in size_row k sizes) i) → StatesSmall (automaton_of b inner entries moves) → StatesSmall (before T i)
  before_small e h = subst StatesSmall (before_is e) h

  -- the search for a first derivation, as the code calls it
  pub finds_before : {rules : List Rule} {b : Table} {x : Result} {m : Move} {r : Found DerivationWords} {es₀ es ms₀ ms : List ℕ}
      → b ≡ table_up_to z (last_up_to (the_size 0 0) (rows_in size_row k sizes) i) → m ≡ get_or (rows_in move_row z.moves moves) i no_move
      → x ≡ result_of (table_of z entries []) m → FindsFirst (automaton_of b inner entries moves) rules x r es₀ es ms₀ ms
      → FindsBefore rules T i r es₀ es ms₀ ms
  unfolding move_at
  finds_before {rules} {b} {x} {m} {r} {es₀} {es} {ms₀} {ms} e f g h =
      let y : x ≡ result_of T.table (move_at T.table i) = g ∙ result_table z inner entries moves m ∙ ap (result_of T.table) f in
      subst (λ (A : Automaton). FindsFirst A rules (result_of T.table (move_at T.table i)) r es₀ es ms₀ ms) (before_is e)
      (subst (λ (u : Result). FindsFirst (automaton_of b inner entries moves) rules u r es₀ es ms₀ ms) y h)

-- ---- the step at a top

module _ (rules : List Rule) (T : Saturated) (x : Top) (i : ℕ) where
  abbrev X : Result
  X = result_of T.table (move_at T.table i)

  pub step_arrived : {es ms : List ℕ} {o : ℕ} → o ≡ own_moves T.sizes → i < o → AtTop rules T x i Arrived es ms
  unfolding at_top
  step_arrived e h = record { gives = λ w. rw (at_top, lt-ltb i (own_moves T.sizes) (subst (λ (n : ℕ). i < n) e h)) }

  pub step_stuck : {o : ℕ} {r : Found DerivationWords} {es₀ es ms₀ ms : List ℕ} → o ≡ own_moves T.sizes → o ≤ i → r ≡ None
      → FindsFirst (before T i) rules X r es₀ es ms₀ ms → AtTop rules T x i Stuck es ms
  unfolding at_top by_derivation
  step_stuck {r = r} {es₀} {es} {ms₀} {ms} e h m f =
      let g : FindsFirst (before T i) rules X None es₀ es ms₀ ms = subst (λ (a : Found DerivationWords). FindsFirst (before T i) rules X a es₀ es ms₀ ms) m f in
      record { gives = λ w. rw (at_top, le-ltb i (own_moves T.sizes) (subst (λ (n : ℕ). n ≤ i) e h), (missing_none g).0, by_derivation) }

  -- by the first derivation and its rule
  goes_by : (w : walks.Walk) {d : Derivation} {ρ : Rule} {n : ℕ} → own_moves T.sizes ≤ i → first_derivation (before T i) rules X ≡ some d
      → get_elem? rules d.rule ≡ some ρ → d.rule ≡ n → at_top rules T w (some (top_by x i)) ≡ walks.to n (walks.moved rules T w (top_by x i) d ρ)
  unfolding at_top by_derivation
  goes_by w {d} {ρ} h e g k =
      rw (at_top, le-ltb i (own_moves T.sizes) h, e, by_derivation, g) (ap (λ (m : ℕ). walks.to m (walks.moved rules T w (top_by x i) d ρ)) k)

  taken : {d : Derivation} {n p : ℕ} {r : Found DerivationWords} {es₀ es ms₀ ms : List ℕ} → own_moves T.sizes ≤ i → Sized T.table → StatesSmall (before T i)
      → Blank es₀ → Blank ms₀ → FindsFirst (before T i) rules X r es₀ es ms₀ ms → first_derivation (before T i) rules X ≡ some d → d.rule ≡ n
      → first_or_zero d.premise ≡ p → Derives (before T i) rules d → (w : walks.Walk) → Taken rules T w (at_top rules T w (some (top_by x i))) x n p es ms
  taken {d} {n} {p} {r} {es₀} {es} {ms₀} {ms} h few small be bm f e k q D w =
      let ρ : Rule = D.rule in
      let op : operation_by rules d.rule ≡ ρ.operation = operation_is rules d.rule D.numbered in
      let edges_are : by_state es ≡ chooses_all (edge_states (before T i) ρ.operation (first_or_zero d.premise)) d.edges =
      edges_chosen f e small be ∙ ap (λ (o : Operation). chooses_all (edge_states (before T i) o (first_or_zero d.premise)) d.edges) op in
      let moves_are : by_state ms ≡ chooses_all (read_states (before T i) ρ.operation (first_or_zero d.premise) d.edges) d.moves =
      moves_chosen f e small bm ∙ ap (λ (o : Operation). chooses_all (read_states (before T i) o (first_or_zero d.premise) d.edges) d.moves) op in
      record {
        derivation = d;
        rule = ρ;
        move = i;
        goes = goes_by w h e D.numbered k;
        numbered = ap (get_elem? rules) (sym k) ∙ D.numbered;
        premise_is = sym q;
        holds = holds_kept (before_extends T i) ρ d ρ.operation es ms D.says edges_are moves_are;
        small = subst (StepSmall T.table ρ.operation) q (says_small few ρ d ρ.operation (says_kept (before_extends T i) ρ d ρ.operation D.says));
      }

  pub step_to : {o n p : ℕ} {r : Found DerivationWords} {es₀ es ms₀ ms : List ℕ} → o ≡ own_moves T.sizes → o ≤ i → Sized T.table → StatesSmall (before T i)
      → es₀ ≡ replicate 64 0 → ms₀ ≡ replicate 64 0 → r ≡ Some (record { rule = n; premise = p }) → FindsFirst (before T i) rules X r es₀ es ms₀ ms → AtTop rules T x i (To x n p) es ms
  step_to {o} {n} {p} {r} {es₀} {es} {ms₀} {ms} e h few small be bm m f =
      let g = found_some (subst (λ (a : Found DerivationWords). FindsFirst (before T i) rules X a es₀ es ms₀ ms) m f) in
      record {
        gives = taken (subst (λ (k : ℕ). k ≤ i) e h) few small (subst Blank (sym be) blank_zeros) (subst Blank (sym bm) blank_zeros) f g.1 g.2 g.3
            (derivations_out (before T i) rules (first_derivation_out (before T i) rules X g.1).0);
      }

-- the rule of a step is in the body
pub rule_numbered : (count : ℕ) (body : List ℕ) (n : ℕ) {ρ : Rule} → get_elem? (rules_in count body) n ≡ some ρ → (n < count) × (ρ ≡ rule_in body n)
unfolding rules_in
rule_numbered count body n e =
    let g = get_elem?_some (first_of count (rule_in body)) n e in
    let l : n < count = subst (λ (k : ℕ). n < k) (length_first_of count (rule_in body)) g.0 in
    (l, sym (g.1 (rule_in body n)) ∙ get_or_first_of count (rule_in body) n (rule_in body n) l)

-- ---- the step of a walk

module _ (rules : List Rule) (z : Table) (inner entries moves : List ℕ) (k : ℕ) (sizes : List ℕ) (w : Walk) (cells : List ℕ) where
  abbrev S : Saturated
  S = saturated_in z inner entries moves k sizes

  abbrev W : walks.Walk
  W = walk_in w cells

  -- the top that the code finds is that of the walk
  abbrev TipIs : Found Tip → Type 0
  TipIs t = tip_of t ≡ walks.top_of (automaton_of z inner entries []) W (walks.guided_at W w.root).cell

  next_at : {o : Option walks.Top} → o ≡ walks.top_of (automaton_of z inner entries []) W (walks.guided_at W w.root).cell
      → at_top rules S W o ≡ walks.next rules S W
  unfolding walks.next
  next_at e = ap (at_top rules S W) (e ∙ top_of_moves z inner entries moves W (walks.guided_at W w.root).cell)

  -- "the walk has also arrived where no move is needed"
  pub next_empty : {t : Found Tip} {es ms : List ℕ} → TipIs t → t ≡ None → NextIs rules S W Arrived es ms
  unfolding at_top
  next_empty h e = record { gives = sym (next_at (ap tip_of (sym e) ∙ h)) }

  pub next_to : {t : Found Tip} {x : Top} {i : ℕ} {r : Next} {es ms : List ℕ} → TipIs t → t ≡ Some (record { top = x; number = i }) → AtTop rules S x i r es ms → NextIs rules S W r es ms
  next_to {r = r} {es} {ms} h e g = record { gives = subst (λ (o : walks.Next). Gives rules S W o r es ms) (next_at (ap tip_of (sym e) ∙ h)) (g.gives W) }
