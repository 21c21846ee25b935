-- What a sound case gives for the rounds on its tables.
-- Assumes nothing.
use Prim.Native.Nat.{ℕ, suc, ◌+◌, ◌/◌, ◌≤◌, ◌<◌, min}
use Rattle.std.proofs.Math.Bool.{Bool, true, not}
use Rattle.std.specs.Prelude.{false, ◌≡◌, leb, ltb, Option as Answer, Some, None}
use Rattle.std.proofs.Math.Path.{ap, sym, subst}
use Rattle.std.proofs.Common.{ap₂, ◌∙◌, subst₂, zero-add, add-zero, add-one, leb-true, leb-false}
use mathlib.Core.List.{List, [], ◌∷◌, map}
use Rattle.std.proofs.Math.Option.{none}
use Rattle.std.proofs.Math.Nat.{min-le_left, le-min}
use native.Mathlib.Omega.{arith}
use Rattle.std.proofs.Math.ListN.{length, get_or, length-map, get_or-map}
use Rattle.words.specs.Lists.{only, zeros}
use Rattle.words.specs.Lists.Laws.{get_or_in, length_only}
use Rattle.words.specs.Laws.Tests.{by_test}
use Rattle.words.specs.Order.{insert, sorted}
use Rattle.words.specs.Order.Laws.{by_place, insert_before, insert_after, insert_held}
use Rattle.stacks.specs.System.{Rule}
use Rattle.automata.specs.Automaton.{Automaton, Edge, no_edge, choice_key}
use Rattle.automata.specs.Saturation.{within, saturate, adds_move}
use Rattle.rounds.specs.Limits.{KeepsLimits, within_keeps, keeps_within, saturate_from_exceeds}
use Rattle.files.specs.Bytes.{count_of, records, records_of}
use Rattle.files.specs.Bytes.Laws.{records_at, length_records, length_records_of}
use Rattle.files.specs.Case.{case_refusal, Head, head, entries_of, own_of, rules_of, RuleBytes, rule_of, rule_bytes, EdgeBytes, inner_edges, edge_records, move_of, move_records}
use Rattle.files.proofs.Case.Laws.{case_placed_lem, case_head, case_rules, case_inner_lem, case_moves_few, case_states_few, case_edges_few, case_table}
use Rattle.automata.specs.Facts.Laws.{move_at_facts}
use Rattle.bytes_in.specs.Records.{record_at}
use Rattle.case_file.specs.Forms.{HoldsRules}
use Rattle.services.specs.Memory.{lent, entry_width, counted}
use Rattle.services.specs.Memory.Laws.{length_with_counts}
use Rattle.tables.specs.declared.Table.{Table}
use Rattle.tables.specs.Rows.{Layout, row_at, put_row}
use Rattle.tables.specs.Rows.Laws.{first_of_list, length_rows_in, get_or_rows_in}
use Rattle.tables.specs.Layouts.{edge_row, entry_row, move_row}
use Rattle.tables.specs.Held.{automaton_of}
use Rattle.tables.specs.Counts.{CountsStand}
use Rattle.tables.specs.Laws.Filled.{Filled, filled_zeros, filled_put}
use Rattle.case_tables.specs.WrittenRows.{written}
use Rattle.case_tables.specs.Own.{RoomForOwn}
use Rattle.results.specs.Collecting.{rule_in, rules_in, RulesStand}
use Rattle.one_round.specs.Rounding.{Standing}
use Rattle.added_results.specs.Adding.{StatesExist}
use Rattle.saturation.specs.Running.{most_moves, most_entries, Given, Ends}
use Rattle.saturation.specs.declared.Saturated.{Saturated as SaturatedWords}
use Rattle.saturate.specs.Case.{CaseEnds}

-- ---- lengths of sorted lists

module _ {A : Type 0} (key : A → List ℕ) where
  length_insert : (x : A) (l : List A) → length (insert key x l) ≤ suc (length l)
  unfolding insert
  length_insert x [] = omega arith
  length_insert x (y ∷ l) = by_place key x y
      (λ h. rw (insert_before key x y l h) (omega arith))
      (λ h. rw (insert_held key x y l h) (omega arith))
      (λ h. let k : length (insert key x l) ≤ suc (length l) = length_insert x l in rw (insert_after key x y l h) (omega arith))

  length_sorted : (l : List A) → length (sorted key l) ≤ length l
  unfolding sorted
  length_sorted [] = omega arith
  length_sorted (x ∷ l) =
      let a : length (sorted key l) ≤ length l = length_sorted l in
      let b : length (insert key x (sorted key l)) ≤ suc (length (sorted key l)) = length_insert x (sorted key l) in
      omega arith

-- ---- tables that were written

filled_written : {A : Type 0} (L : Layout A) (t : List ℕ) (k : ℕ) (l : List A) → Filled L k t → Filled L (k + length l) (written L t k l)
unfolding written
filled_written L t k [] f = subst (λ (n : ℕ). Filled L n t) (sym (add-zero k)) f
filled_written L t k (a ∷ l) f =
    let e : suc k + length l ≡ k + suc (length l) = omega arith in
    subst (λ (n : ℕ). Filled L n (written L (put_row L t k a) (suc k) l)) e
    (filled_written L (put_row L t k a) (suc k) l (subst (λ (n : ℕ). Filled L n (put_row L t k a)) (add-one k) (filled_put L k t a f)))

-- records written into zeros
pub filled_own : {A : Type 0} (L : Layout A) (t₀ t : List ℕ) (l : List A) (n : ℕ) → t₀ ≡ zeros (length t₀) → t ≡ written L t₀ 0 l → n ≡ length l → Filled L n t
filled_own L t₀ t l n z e q =
    subst (λ (x : List ℕ). Filled L n x) (sym e)
    (subst (λ (k : ℕ). Filled L k (written L t₀ 0 l)) (zero-add (length l) ∙ sym q)
    (filled_written L t₀ 0 l (subst (Filled L 0) (sym z) (filled_zeros L (length t₀)))))

module _ (file : List ℕ) (sound : case_refusal file ≡ 0) where
  pub long_enough : 33 ≤ length file
  long_enough = (case_placed_lem file sound).long_enough

  -- there are no more inner edges than edges
  pub inner_few : length (own_of file).inner ≤ 64
  unfolding own_of inner_edges
  inner_few =
      let xs : List EdgeBytes = edge_records file in
      let inside : EdgeBytes → Bool = λ x. not (ltb x.state (head file).P) in
      let edge : EdgeBytes → Edge = λ x. record { state = x.state; first = x.first; S = x.S } in
      let a : length (inner_edges (head file) xs) ≤ length (map edge (only inside xs)) = length_sorted choice_key (map edge (only inside xs)) in
      let b : length (map edge (only inside xs)) ≡ length (only inside xs) = length-map (only inside xs) edge in
      let c : length (only inside xs) ≤ length xs = length_only inside xs in
      let d : length xs ≤ 64 = case_edges_few file sound in
      omega arith

  -- ---- rules

  module _ (body : List ℕ) (count : ℕ) (h : HoldsRules file body count) where
    no_rule : Rule
    no_rule = rule_of (rule_bytes [])

    rule_at : (i : ℕ) → i < count → rule_in body i ≡ get_or (rules_of file) i no_rule
    unfolding rule_in rules_of record_at no_rule
    rule_at i l =
        ap (λ (x : List ℕ). rule_of (rule_bytes x)) (sym (records_at count 5 body i l))
        ∙ sym (get_or-map rule_of (map rule_bytes (records count 5 body)) i (rule_bytes [])
        ∙ ap rule_of (get_or-map rule_bytes (records count 5 body) i []))
        ∙ ap (λ (xs : List RuleBytes). get_or (map rule_of xs) i (rule_of (rule_bytes []))) h.rules_are

    rules_number : length (rules_of file) ≡ count
    unfolding rules_of
    rules_number =
        ap (λ (xs : List RuleBytes). length (map rule_of xs)) (sym h.rules_are)
        ∙ length-map (map rule_bytes (records count 5 body)) rule_of
        ∙ length-map (records count 5 body) rule_bytes
        ∙ length_records count 5 body

    pub rules_are : rules_in count body ≡ rules_of file
    unfolding rules_in
    rules_are = first_of_list (rules_of file) count (rule_in body) no_rule rules_number rule_at

    pub rules_stand : RulesStand count body
    rules_stand =
        record {
          rules_lent = h.rules_fit;
          nexts_small = λ i l.
              let n : length (rules_of file) ≡ count = rules_number in
              let f : (get_or (rules_of file) i no_rule).next < (head file).P = (case_rules file sound (get_or_in (rules_of file) i no_rule (omega arith))).next_exists in
              let b : (head file).P ≤ 8 = (case_head file sound).controls_few in
              let q : (rule_in body i).next ≡ (get_or (rules_of file) i no_rule).next = ap (λ (ρ : Rule). ρ.next) (rule_at i l) in
              omega arith;
        }

  -- ---- the case's own table

  module _ (m e : ℕ) where
    -- too many moves, or too many entries
    own_moves_holds : length (own_of file).moves ≡ count_of file 3
    unfolding own_of move_records
    own_moves_holds = length-map (records_of file 3 19) move_of ∙ length_records_of file 3 19

    pub moves_over : m / 5 < count_of file 3 → false ≡ within (lent m e) (own_of file)
    unfolding lent
    moves_over h = by_test (within (lent m e) (own_of file)) (λ w. absurd (no w)) (λ w. sym w)
      where
        no : within (lent m e) (own_of file) ≡ true → ⊥
        no w =
            let a : length (own_of file).moves ≤ min (m / 5) 1024 = (within_keeps (lent m e) (own_of file) w).moves_fit in
            let b : min (m / 5) 1024 ≤ m / 5 = min-le_left (m / 5) 1024 in
            let c : length (own_of file).moves ≡ count_of file 3 = own_moves_holds in
            omega arith

    pub entries_tell : (n : ℕ) → count_of file 3 ≤ m / 5 → n ≡ length (own_of file).entries → leb n (e / entry_width) ≡ within (lent m e) (own_of file)
    unfolding lent
    entries_tell n h q = by_test (leb n (e / entry_width)) (λ t. t ∙ sym (keeps_within (lent m e) (own_of file) (keeps (leb-true n (e / entry_width) t))))
        (λ t. by_test (within (lent m e) (own_of file)) (λ w. absurd (no (leb-false n (e / entry_width) t) w)) (λ w. t ∙ sym w))
      where
        keeps : n ≤ e / entry_width → KeepsLimits (lent m e) (own_of file)
        keeps b =
            let c : length (own_of file).moves ≡ count_of file 3 = own_moves_holds in
            record {
              moves_fit = le-min (omega arith) (case_moves_few file sound);
              entries_fit = omega arith;
              states_fit = case_states_few file sound;
            }

        no : e / entry_width < n → within (lent m e) (own_of file) ≡ true → ⊥
        no b w = let a : length (own_of file).entries ≤ e / entry_width = (within_keeps (lent m e) (own_of file) w).entries_fit in omega arith

    pub total_is : (h : Head) (n : ℕ) → h ≡ head file → n ≡ length (entries_of h (edge_records file)) → n ≡ length (own_of file).entries
    unfolding own_of
    total_is h n q r = r ∙ ap (λ (x : Head). length (entries_of x (edge_records file))) q

    -- there is room for the own tables
    pub own_room : (inner entries moves : List ℕ) → 192 ≤ length inner → length entries ≡ e → length moves ≡ m → within (lent m e) (own_of file) ≡ true → RoomForOwn file inner entries moves
    unfolding lent
    own_room inner entries moves ri le lm w =
        let k : KeepsLimits (lent m e) (own_of file) = within_keeps (lent m e) (own_of file) w in
        let a : length (own_of file).moves ≤ min (m / 5) 1024 = k.moves_fit in
        let b : length (own_of file).entries ≤ e / entry_width = k.entries_fit in
        let c : min (m / 5) 1024 ≤ m / 5 = min-le_left (m / 5) 1024 in
        let d : length (own_of file).moves ≡ count_of file 3 = own_moves_holds in
        let f : count_of file 2 ≤ 64 = (case_placed_lem file sound).edges_count in
        record { inner_room = omega arith; entry_room = omega arith; move_room = omega arith; states_few = k.states_fit }

    module _ (z : Table) (inner entries moves : List ℕ) (own : automaton_of z inner entries moves ≡ own_of file) where
      edges_number : z.edges ≡ length (own_of file).inner
      edges_number = sym (length_rows_in edge_row z.edges inner) ∙ ap (λ (A : Automaton). length A.inner) own

      pub entries_number : z.entries ≡ length (own_of file).entries
      entries_number = sym (length_rows_in entry_row z.entries entries) ∙ ap (λ (A : Automaton). length A.entries) own

      pub counted_number : z.entries ≡ length (counted (own_of file))
      unfolding counted
      counted_number = entries_number ∙ sym (length_with_counts (own_of file).moves (own_of file).J (own_of file).entries)

      pub moves_number : z.moves ≡ length (own_of file).moves
      moves_number = sym (length_rows_in move_row z.moves moves) ∙ ap (λ (A : Automaton). length A.moves) own

      states_number : z.inner1 ≡ (own_of file).J
      states_number = ap (λ (A : Automaton). A.J) own

      first_below_lem : (i : ℕ) → i < z.edges → (row_at edge_row inner i).first < 64
      unfolding own_of
      first_below_lem i h =
          let n : z.edges ≡ length (own_of file).inner = edges_number in
          let f : (get_or (own_of file).inner i no_edge).first < (head file).J = (case_inner_lem file sound (get_or_in (own_of file).inner i no_edge (omega arith))).to_inner in
          let b : (head file).J ≤ 16 = (case_head file sound).inner1_few in
          let q : row_at edge_row inner i ≡ get_or (own_of file).inner i no_edge =
          sym (get_or_rows_in edge_row z.edges inner i no_edge h) ∙ ap (λ (A : Automaton). get_or A.inner i no_edge) own in
          let p : (row_at edge_row inner i).first ≡ (get_or (own_of file).inner i no_edge).first = ap (λ (x : Edge). x.first) q in
          omega arith

      pub given : 192 ≤ length inner → length entries ≡ e → length moves ≡ m → within (lent m e) (own_of file) ≡ true → CountsStand z entries moves → Given z inner entries moves
      unfolding lent
      given ri le lm w counts =
          let k : KeepsLimits (lent m e) (own_of file) = within_keeps (lent m e) (own_of file) w in
          let a : length (own_of file).moves ≤ min (m / 5) 1024 = k.moves_fit in
          let b : length (own_of file).entries ≤ e / entry_width = k.entries_fit in
          let c : min (m / 5) 1024 ≤ m / 5 = min-le_left (m / 5) 1024 in
          let ni : z.edges ≡ length (own_of file).inner = edges_number in
          let ne : z.entries ≡ length (own_of file).entries = entries_number in
          let nm : z.moves ≡ length (own_of file).moves = moves_number in
          let ns : z.inner1 ≡ (own_of file).J = states_number in
          let few : length (own_of file).inner ≤ 64 = inner_few in
          let states : (own_of file).J + length (own_of file).entries ≤ 64 = case_states_few file sound in
          let most : length (own_of file).moves ≤ 1024 = case_moves_few file sound in
          record {
            edges = record { edges_lent = omega arith; firsts_small = first_below_lem };
            entries_stand = record { entries_lent = omega arith; states_few = omega arith };
            moves_stand = record { moves_lent = omega arith };
            moves_few = omega arith;
            states_exist = subst StatesExist (sym own) (record { exists = λ i b. (move_at_facts (case_table file sound) i b).state_exists });
            counts = counts;
          }

      -- ---- the end

      same : (rounds : ℕ) (body : List ℕ) (count : ℕ) → HoldsRules file body count → length entries ≡ e → length moves ≡ m
          → saturate (rules_in count body) (lent (length moves) (length entries)) rounds (automaton_of z inner entries moves)
          ≡ saturate (rules_of file) (lent m e) rounds (own_of file)
      same rounds body count r le lm =
          ap₂ (λ (rules : List Rule) (A : Automaton). saturate rules (lent (length moves) (length entries)) rounds A) (rules_are body count r) own
          ∙ ap₂ (λ (x y : ℕ). saturate (rules_of file) (lent x y) rounds (own_of file)) lm le

      -- the rounds' end is the case's, where the tables were all zero before
      pub case_ends : (rounds : ℕ) (body : List ℕ) (count : ℕ) → HoldsRules file body count → length entries ≡ e → length moves ≡ m
          → Filled entry_row z.entries entries → Filled move_row z.moves moves
          → (r : Answer SaturatedWords) (entries' moves' sizes : List ℕ)
          → Ends (rules_in count body) rounds inner z entries moves r entries' moves' sizes
          → CaseEnds file rounds m e r inner entries' moves' sizes
      case_ends rounds body count r le lm fe fm (Some x) entries' moves' sizes h =
          record {
            saturated = sym (same rounds body count r le lm) ∙ h.saturated;
            count = h.count;
            more_is = h.more_is ∙ ap (λ (rules : List Rule). adds_move rules (automaton_of x.table inner entries' moves')) (rules_are body count r);
            standing = limits_same x.table entries' moves' lm le h.standing;
            entries_filled = h.entries_filled fe;
            moves_filled = h.moves_filled fm;
            sizes_few = h.few;
          }
        where
          limits_same : (z' : Table) (entries' moves' : List ℕ) → length moves ≡ m → length entries ≡ e
              → Standing z' (most_moves (length moves)) (most_entries (length entries) z.inner1) inner entries' moves'
              → Standing z' (most_moves m) (most_entries e (own_of file).J) inner entries' moves'
          limits_same z' entries' moves' lm le s =
              subst₂ (λ (x y : ℕ). Standing z' x y inner entries' moves') (ap most_moves lm) (ap₂ most_entries le states_number) s
      case_ends rounds body count r le lm fe fm None entries' moves' sizes h = sym (same rounds body count r le lm) ∙ h

    -- the case's own table passes a limit
    pub case_over : within (lent m e) (own_of file) ≡ false → (rounds : ℕ) → saturate (rules_of file) (lent m e) rounds (own_of file) ≡ none
    unfolding saturate
    case_over w rounds = saturate_from_exceeds (rules_of file) (lent m e) rounds [] (own_of file) w
