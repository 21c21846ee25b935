-- What a case file without a refusal gives: the bounds of its head, rules, edges and moves, the facts and bounds of its rules and own
-- automaton, and the widths of its numbers where the file is of bytes.
-- Assumes nothing.
use Rattle.std.specs.Prelude.{ℕ, zero, suc, ◌+◌, ◌-◌, ◌*◌, ◌<◌, ◌≤◌, Bool, true, ◌&&◌, ◌≡◌, get_or, drop, eqb, ltb}
use Rattle.std.proofs.lemmas.Bool.{false≢true}
use Rattle.std.proofs.Math.Path.{refl, ap, subst}
use Rattle.std.proofs.Common.{◌∙◌, length-take, length-drop}
use Rattle.std.proofs.Math.Logic.{⊎_elim}
use mathlib.Core.List.Memᴰ
use mathlib.Core.List.{List, [], ◌∷◌, ◌++◌, map, Memᴰ}
use Rattle.std.proofs.Math.Nat.{le_trans}
use native.Mathlib.Omega.{arith}
use Rattle.std.proofs.Math.ListN.{length, length-map}
use borrow.Author.Tests.{eqb-true, eq-eqb, ltb-true, ltb-false, leb-true, not-false}
use Rattle.words.specs.Lists.{every}
use Rattle.words.specs.Lists.Laws.{every_in, places_from_in, places_from_out}
use Rattle.words.specs.Laws.Tests.{by_test, and_left, and_right}
use Rattle.words.proofs.Sets.Laws.{Has, All, all_empty, has_join_right, join_cases}
use Rattle.words.proofs.Sets.Listed.{in_set_of, set_of_in}
use Rattle.words.specs.Order.{rising}
use Rattle.stacks.specs.System.{Rule}
use Rattle.automata.specs.Automaton.{Move, Edge, Entry, no_move, no_entry, entry_key, move_at}
use Rattle.automata.specs.Facts.{RuleFacts, InnerFacts, TableFacts, OwnFacts, RuleBounded, Bounded, of_order, states}
use Rattle.files.specs.Bytes.{Body, placed, bodies_placed, count_of, offset_of, records, records_of}
use Rattle.files.specs.Bytes.Laws.{numbered, unrefused, bodies_first, placed_bodies, placed_within, length_records_of}
use Rattle.files.specs.Codes.{our_codes}
use Rattle.files.specs.Case.{case_bodies, code_body, form, form_of, case_placed, codes_of, head, head_right, RuleBytes, rule_right, rule_of, rule_records, EdgeBytes, edge_bytes, edge_right, edge_key, edge_records, entry_records, entries_of, final_entries, inner_edges, move_of, move_right, move_key, move_records, states1, records_right, increasing, case_tests, case_refusal, own_of, rules_of}
use Rattle.files.specs.Case.Records.{HeadBounds, head_bounds, RuleBounds, rule_bounds, EdgeBounds, edge_bounds, AnnotationBounds, MoveBounds, move_bounds}
use Rattle.files.specs.Case.Records.{entries_out, inner_out, inner_edges_rising}
use Rattle.words.specs.Order.Rising.{rising_once}

-- ---- the places of the bodies

-- the form of a file whose bodies are in place: its bodies and its codes
pub data CaseForm (file : List ℕ) : Type 0 where
  without_codes : get_or file 0 0 ≡ 4 → placed case_bodies file ≡ true → codes_of file ≡ our_codes → CaseForm file
  with_codes : get_or file 0 0 ≡ 5 → placed (case_bodies ++ code_body 8 ∷ []) file ≡ true → codes_of file ≡ get_or (records_of file 4 8) 0 [] → CaseForm file

pub case_form : (file : List ℕ) → case_placed file ≡ true → CaseForm file
unfolding case_placed form form_of codes_of
case_form file e = by_test (eqb (get_or file 0 0) 4)
    (λ p. without_codes (eqb-true _ 4 p) (rw (case_placed, p) at e) (rw (codes_of, p)))
    (λ p. by_test (eqb (get_or file 0 0) 5)
    (λ q. with_codes (eqb-true _ 5 q) (rw (case_placed, p, q) at e) (rw (codes_of, p, q)))
    (λ q. absurd (false≢true (rw (case_placed, p, q) at e))))

-- where the bodies of a case file end, and their counts
pub record CasePlaces (file : List ℕ) : Type 0 where
  pub long_enough : 33 ≤ length file
  pub head_ends : offset_of file 0 + count_of file 0 * 14 ≤ length file
  pub rules_end : offset_of file 1 + count_of file 1 * 5 ≤ length file
  pub edges_end : offset_of file 2 + count_of file 2 * 4 ≤ length file
  pub moves_end : offset_of file 3 + count_of file 3 * 19 ≤ length file
  pub head_count : count_of file 0 ≡ 1
  pub rules_count : count_of file 1 ≤ 256
  pub edges_count : count_of file 2 ≤ 64
  pub moves_count : count_of file 3 ≤ 1024

-- where the record of codes ends
pub record CodesPlaces (file : List ℕ) : Type 0 where
  pub line_there : 41 ≤ length file
  pub codes_end : offset_of file 4 + 8 ≤ length file
  pub codes_count : count_of file 4 ≡ 1

-- the four bodies of every case, and what follows them
four_places : (file : List ℕ) (start : ℕ) (rest : List Body) → 33 ≤ start → bodies_placed file 0 start (case_bodies ++ rest) ≡ true
    → CasePlaces file × (end : ℕ) × (bodies_placed file 4 end rest ≡ true)
unfolding case_bodies
four_places file start rest l e =
    let a = bodies_first file 0 _ _ _ e in
    let b = bodies_first file 1 _ _ _ a.1 in
    let c = bodies_first file 2 _ _ _ b.1 in
    let d = bodies_first file 3 _ _ _ c.1 in
    let within = placed_within file 4 _ rest d.1 in (
      record {
        long_enough = omega arith;
        head_ends = omega arith;
        rules_end = omega arith;
        edges_end = omega arith;
        moves_end = omega arith;
        head_count = omega arith;
        rules_count = b.0.count_most;
        edges_count = c.0.count_most;
        moves_count = d.0.count_most;
      },
      _,
      d.1,
    )

coded_places : (file : List ℕ) → placed (case_bodies ++ code_body 8 ∷ []) file ≡ true → CasePlaces file × CodesPlaces file
unfolding case_bodies code_body
coded_places file e =
    let p = four_places file 41 (code_body 8 ∷ []) (omega arith) (placed_bodies _ file e) in
    let l = bodies_first file 4 _ _ _ p.2 in
    let within = placed_within file 5 _ [] l.1 in
    let long = placed_within file 0 _ _ (placed_bodies _ file e) in
    (p.0, record { line_there = omega arith; codes_end = omega arith; codes_count = omega arith })

pub case_places : (file : List ℕ) → case_placed file ≡ true → CasePlaces file
unfolding case_bodies
case_places file e = elim (case_form file e) [
  | without_codes x p y ↦ (four_places file 33 [] (omega arith) (placed_bodies _ file p)).0
  | with_codes x p y ↦ (coded_places file p).0
]

-- a file of first byte 5 has the record of codes
pub codes_places : (file : List ℕ) → case_placed file ≡ true → get_or file 0 0 ≡ 5 → CodesPlaces file
codes_places file e f = elim (case_form file e) [
  | without_codes x p y ↦ absurd (omega arith)
  | with_codes x p y ↦ (coded_places file p).1
]

-- there are eight codes
pub length_codes : (file : List ℕ) → case_placed file ≡ true → length (codes_of file) ≡ 8
unfolding our_codes records_of records
length_codes file e = elim (case_form file e) [
  | without_codes x p y ↦ ap length y
  | with_codes x p y ↦
      let c : CodesPlaces file = (coded_places file p).1 in
      let l : offset_of file 4 + 8 ≤ length file = c.codes_end in
      let d : length (drop (offset_of file 4) file) ≡ length file - offset_of file 4 = length-drop (offset_of file 4) file in
      ap length y ∙ rw c.codes_count (simp length-take (omega arith))
]

-- the bounds of each record of a case
pub record CaseBounds (file : List ℕ) : Type 0 where
  pub rule : {x : RuleBytes} → Memᴰ x (rule_records file) → RuleBounds (head file) x
  pub edge : {x : EdgeBytes} → Memᴰ x (edge_records file) → EdgeBounds (head file) x
  pub states_few : states1 file ≤ 64
  pub move : {m : Move} → Memᴰ m (move_records file) → MoveBounds (head file) (states1 file) m

-- the four tests, and what each says
tests_parts : (a b c d : Bool) → a && b && c && d ≡ true → ((a ≡ true) × (b ≡ true)) × ((c ≡ true) × (d ≡ true))
tests_parts a b c d e =
    let abc = and_left (a && b && c) d e in
    let ab = and_left (a && b) c abc in
    ((and_left a b ab, and_right a b ab), (and_right (a && b) c abc, and_right (a && b && c) d e))

pub records_bounds : (file : List ℕ) → records_right file ≡ true → CaseBounds file
unfolding records_right
records_bounds file e =
    let ((rules, edges), (few, moves)) = tests_parts _ _ _ _ e in
    record {
      rule = λ {x} j. rule_bounds (head file) x (every_in (rule_right (head file)) rules j);
      edge = λ {x} j. edge_bounds (head file) x (every_in (edge_right (head file)) edges j);
      states_few = leb-true (states1 file) 64 few;
      move = λ {m} j. move_bounds (head file) (states1 file) m (every_in (move_right (head file) (states1 file)) moves j);
    }

-- ---- entries as they are written

-- no edge
abbrev pub no_edge_bytes : EdgeBytes
no_edge_bytes = record { state = 0; first = 0; S = 0 }

-- the file's entries as they are written
abbrev pub entries_written : List ℕ → List EdgeBytes
entries_written file = entry_records (head file) (edge_records file)

-- ---- a case without a refusal

module _ (file : List ℕ) (sound : case_refusal file ≡ 0) where
  pub case_in_place : case_placed file ≡ true
  unfolding case_refusal case_tests numbered every
  case_in_place = not-false (case_placed file) (unrefused file refl sound (Memᴰ.head refl))

  pub case_placed_lem : CasePlaces file
  case_placed_lem = case_places file case_in_place

  pub case_head : HeadBounds (head file)
  unfolding case_refusal case_tests numbered every
  case_head = head_bounds (head file) (not-false (head_right (head file)) (unrefused file refl sound (Memᴰ.tail (Memᴰ.head refl))))

  pub case_bounds : CaseBounds file
  unfolding case_refusal case_tests numbered every
  case_bounds = records_bounds file
      (not-false (records_right file) (unrefused file refl sound (Memᴰ.tail (Memᴰ.tail (Memᴰ.tail (Memᴰ.head refl))))))

  case_increasing : increasing file ≡ true
  unfolding case_refusal case_tests numbered every
  case_increasing = not-false (increasing file)
      (unrefused file refl sound (Memᴰ.tail (Memᴰ.tail (Memᴰ.tail (Memᴰ.tail (Memᴰ.head refl))))))

  edges_increasing : rising edge_key (edge_records file) && rising entry_key (entries_of (head file) (edge_records file)) ≡ true
  unfolding increasing
  edges_increasing = and_left (rising edge_key (edge_records file) && rising entry_key (entries_of (head file) (edge_records file))) _ case_increasing

  pub case_entries_rising : rising entry_key (entries_of (head file) (edge_records file)) ≡ true
  case_entries_rising = and_right (rising edge_key (edge_records file)) _ edges_increasing

  pub case_moves_rising : rising move_key (move_records file) ≡ true
  unfolding increasing
  case_moves_rising = and_right (rising edge_key (edge_records file) && rising entry_key (entries_of (head file) (edge_records file))) _ case_increasing

  -- ---- sizes

  pub case_edges_few : length (edge_records file) ≤ 64
  unfolding edge_records
  case_edges_few = rw (length-map (records_of file 2 4) edge_bytes, length_records_of file 2 4) case_placed_lem.edges_count

  pub case_moves_few : length (own_of file).moves ≤ 1024
  unfolding own_of move_records
  case_moves_few = rw (length-map (records_of file 3 19) move_of, length_records_of file 3 19) case_placed_lem.moves_count

  pub case_states_few : (own_of file).J + length (own_of file).entries ≤ 64
  unfolding own_of states1
  case_states_few = case_bounds.states_few

  -- ---- facts of the rules and the inner edges

  pub case_rules : {ρ : Rule} → Memᴰ ρ (rules_of file) → RuleFacts (head file).P ρ
  unfolding rules_of rule_of
  case_rules {ρ} j =
      let r = Memᴰ.of_map rule_of (rule_records file) j in
      let b = case_bounds.rule r.1 in
      record {
        control_exists = subst (λ (τ : Rule). τ.control < (head file).P) r.2 b.control_exists;
        next_exists = subst (λ (τ : Rule). τ.next < (head file).P) r.2 b.next_exists;
      }

  pub case_inner_lem : {e : Edge} → Memᴰ e (inner_edges (head file) (edge_records file)) → InnerFacts (head file).P (head file).J e
  case_inner_lem {e} j =
      let r = inner_out (head file) (edge_records file) j in
      let b = case_bounds.edge r.1 in
      rw r.3 (record {
        from_inner = r.2;
        to_inner = b.inner_second r.2;
        set_inner = λ q i. (b.set_inner q i).0;
      })

  -- ---- final entries

  -- an entry is final only if it is written with 254
  pub final_written : (e : ℕ) → Has (own_of file).final1 ((own_of file).J + e) → (e < length (entries_written file)) × ((get_or (entries_written file) e no_edge_bytes).first ≡ 254)
  unfolding own_of final_entries
  final_written e h =
      ⊎_elim
      (λ k. let l : (head file).J + e < (head file).J = case_head.final1_inner ((head file).J + e) k in absurd (omega arith))
      (λ k.
      let (i, q, b, t) = places_from_out (head file).J _ (entries_written file) (set_of_in _ k) in
      let z : e ≡ i = omega arith in
      (omega arith, ap (λ (n : ℕ). (get_or (entries_written file) n no_edge_bytes).first) z ∙ eqb-true _ 254 (t no_edge_bytes)))
      (join_cases (head file).final1 _ h)

  -- the final order-1 states exist
  case_finals : All (own_of file).final1 (λ r. r < states (own_of file))
  unfolding own_of entries_of
  case_finals r h = by_test (ltb r (head file).J)
      (λ t. let l : r < (head file).J = ltb-true r (head file).J t in omega arith)
      (λ t.
      let l : (head file).J ≤ r = ltb-false r (head file).J t in
      let z : r ≡ (head file).J + (r - (head file).J) = omega arith in
      let (b, _) = final_written (r - (head file).J) (subst (Has (own_of file).final1) z h) in
      let entry : EdgeBytes → Entry = λ x. record { control = x.state; S = x.S } in
      let n : length (map entry (entries_written file)) ≡ length (entries_written file) = length-map (entries_written file) entry in
      omega arith)

  -- ---- facts of the own automaton

  pub case_table : TableFacts (head file).P (own_of file)
  unfolding own_of states1
  case_table =
      record {
        final1_exists = case_finals;
        inner_facts = λ e j. case_inner_lem j;
        inner_rising = inner_edges_rising (head file) (edge_records file);
        entry_control_holds = λ e j. let r = entries_out (head file) (edge_records file) j in rw r.3 r.2;
        entry_once = λ i j hi hj e. rising_once entry_key (entries_of (head file) (edge_records file)) no_entry i j case_entries_rising hi hj e;
        move_facts = λ m j.
            let b = case_bounds.move j in
            record {
              state_exists = b.state_exists;
              order_small = b.annotation.order_small;
              none_empty = b.annotation.none_empty;
              empty_none = b.annotation.empty_none;
            };
      }

  pub case_own : OwnFacts (head file).P (own_of file)
  unfolding own_of
  case_own =
      record {
        entry_inner = λ e j.
            let r = entries_out (head file) (edge_records file) j in
            rw r.4 (λ q i. ((case_bounds.edge r.1).set_inner q i).0);
        rest_inner = λ m j. (case_bounds.move j).rest_inner;
        annotation1_inner = λ m j e. (case_bounds.move j).annotation.annotation1_inner e;
        annotation2_inner = λ m j e q i. ((case_bounds.move j).annotation.annotation2_inner e q i).0;
      }

  -- each own move is there once
  pub case_moves_once : (i j : ℕ) → i < length (own_of file).moves → j < length (own_of file).moves → move_at (own_of file) i ≡ move_at (own_of file) j → i ≡ j
  unfolding own_of move_at
  case_moves_once i j hi hj e = rising_once move_key (move_records file) no_move i j case_moves_rising hi hj (ap move_key e)

  -- ---- what is named exists

  pub case_rules_bounded : (ρ : Rule) → Memᴰ ρ (rules_of file) → RuleBounded ((head file).P + (head file).I) (head file).A ρ
  unfolding rules_of rule_of
  case_rules_bounded ρ j =
      let r = Memᴰ.of_map rule_of (rule_records file) j in
      let b = case_bounds.rule r.1 in
      let l : r.0.next < (head file).P = b.next_exists in
      record {
        symbol_below = subst (λ (τ : Rule). τ.symbol < (head file).A) r.2 b.symbol_exists;
        next_below = subst (λ (τ : Rule). τ.next < (head file).P + (head file).I) r.2 (omega arith);
      }

  -- an annotation names states of its order
  case_annotation : (k B n : ℕ) → (head file).J ≤ n → AnnotationBounds (head file) k B → All B (λ q. q < of_order ((head file).P + (head file).I) n k)
  case_annotation zero B n h b = rw (b.none_empty refl) (all_empty _)
  case_annotation (suc zero) B n h b = λ q i. le_trans (b.annotation1_inner refl q i) h
  case_annotation (suc (suc zero)) B n h b = λ q i. (b.annotation2_inner refl q i).1
  case_annotation (suc (suc (suc k))) B n h b = let l : suc (suc (suc k)) ≤ 2 = b.order_small in absurd (omega arith)

  pub case_bounded : Bounded ((head file).P + (head file).I) (head file).A (own_of file)
  unfolding own_of
  case_bounded =
      record {
        inner_below = λ e j. let r = inner_out (head file) (edge_records file) j in rw r.3 (λ q i. ((case_bounds.edge r.1).set_inner q i).1);
        entry_below = λ e j. let r = entries_out (head file) (edge_records file) j in rw r.4 (λ q i. ((case_bounds.edge r.1).set_inner q i).1);
        move_below = λ m j.
            let b = case_bounds.move j in
            let h : (head file).J ≤ states (own_of file) = omega arith in
            record {
              symbol_below = b.symbol_exists;
              annotation_below = case_annotation m.order m.B (states (own_of file)) h b.annotation;
              rest_below = λ r i. le_trans (b.rest_inner r i) h;
            };
      }

-- ---- final entries, the other way

-- an entry that is written with 254 is final
pub written_final : (file : List ℕ) (e : ℕ) → e < length (entries_written file) → (get_or (entries_written file) e no_edge_bytes).first ≡ 254
    → Has (own_of file).final1 ((own_of file).J + e)
unfolding own_of final_entries
written_final file e l h =
    has_join_right (head file).final1
    (in_set_of (places_from_in (head file).J (λ x. eqb x.first 254) (entries_written file) no_edge_bytes e l (eq-eqb _ 254 h)))
