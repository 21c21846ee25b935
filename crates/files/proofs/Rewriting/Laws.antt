-- A case that is refused with none of 1, 2 and 12 decodes to the same as its rewriting.
-- Assumes nothing.
use Rattle.std.specs.Prelude.{ℕ, ◌+◌, ◌*◌, ◌<◌, ◌≤◌, true, ◌≡◌, get_or}
use Rattle.std.proofs.Math.Bool.{not}
use Rattle.std.proofs.Math.Path.{refl, ap, ap₂}
use Rattle.std.proofs.Common.{sym, ◌∙◌, length-drop}
use mathlib.Core.List.{List, [], ◌∷◌, map}
use native.Mathlib.Omega.{arith}
use borrow.Author.Tests.{eq-eqb}
use Rattle.std.proofs.Math.ListN.{length}
use Rattle.std.proofs.lemmas.List.{length-map}
use Rattle.words.specs.Laws.Tests.{by_test}
use Rattle.files.specs.Bytes.{placed, count_of, offset_of, records_of}
use Rattle.files.specs.Bytes.Laws.{first_hit_fails, first_hit_passes, length_records_of}
use Rattle.files.specs.Codes.{our_codes, codes_right, in_our_codes}
use Rattle.files.specs.Codes.Laws.{ours_right, ours_again}
use Rattle.files.specs.Writing.{Part, encode, decode, decode_from}
use Rattle.files.specs.Writing.Laws.{Sized, sized_records, PartFits, PartsFit, length_encode, first_encode, encode_placed, decode_encode}
use Rattle.files.specs.Case.{case_bodies, form, form_of, case_placed, codes_of, Head, head_of, head, head_right, rule_bytes, rule_of, rule_records, EdgeBytes, edge_bytes, edge_records, entries_of, move_of, move_records, states1, records_right, increasing, case_tests, case_refusal, own_of, rules_of}
use Rattle.files.proofs.Case.Laws.{CasePlaces, case_places, length_codes}
use Rattle.files.specs.Case.Refusal.{refusal_by, refusal_is}
use Rattle.files.specs.Rewriting.{ruled, rewriting, Readable, SameCase}

-- ---- the parts of the rewriting

pub sized_rules : (codes : List ℕ) (xs : List (List ℕ)) → Sized 5 (map (in_our_codes codes) xs)
unfolding in_our_codes
sized_rules codes [] = tt
sized_rules codes (x ∷ xs) = (refl, sized_rules codes xs)

sized_of : (file : List ℕ) (n size : ℕ) → offset_of file n + count_of file n * size ≤ length file → Sized size (records_of file n size)
unfolding records_of
sized_of file n size l =
    let d = length-drop (offset_of file n) file in
    sized_records (count_of file n) size _ (omega arith)

-- a part whose numbers are in range
part_fits : (x : Part) → x.body.kind < 65536 → x.body.most < 65536 → x.body.least ≤ length x.records → length x.records ≤ x.body.most
    → Sized x.body.size x.records → PartFits x
part_fits x k m l h s = record { kind_fits = k; count_fits = omega arith; count_least = l; count_most = h; sized = s }

no_part : Part
no_part = record { body = record { kind = 0; least = 0; most = 0; size = 0 }; records = [] }

module _ (file : List ℕ) (p : CasePlaces file) where
  parts : List Part
  parts = map (ruled (codes_of file)) (decode case_bodies file)

  -- how many records each part has
  record PartCounts : Type 0 where
    pub heads : length (records_of file 0 14) ≡ 1
    pub rules : length (map (in_our_codes (codes_of file)) (records_of file 1 5)) ≤ 256
    pub edges : length (records_of file 2 4) ≤ 64
    pub moves : length (records_of file 3 19) ≤ 1024

  part_counts : PartCounts
  part_counts =
      record {
        heads = length_records_of file 0 14 ∙ p.head_count;
        rules = rw (length-map (records_of file 1 5) (in_our_codes (codes_of file)), length_records_of file 1 5) p.rules_count;
        edges = rw (length_records_of file 2 4) p.edges_count;
        moves = rw (length_records_of file 3 19) p.moves_count;
      }

  parts_short : PartsFit parts → length (encode 4 parts) < 4294967296
  unfolding parts ruled decode decode_from case_bodies
  parts_short f =
      let n : PartCounts = part_counts in
      let l = length_encode 4 parts f in
      omega arith

  parts_fit : PartsFit parts
  unfolding parts ruled decode decode_from case_bodies
  parts_fit =
      let n : PartCounts = part_counts in (
        part_fits _ (omega arith) (omega arith) (omega arith) (omega arith) (sized_of file 0 14 p.head_ends),
        (
          part_fits _ (omega arith) (omega arith) (omega arith) (omega arith) (sized_rules (codes_of file) (records_of file 1 5)),
          (
            part_fits _ (omega arith) (omega arith) (omega arith) (omega arith) (sized_of file 2 4 p.edges_end),
            (part_fits _ (omega arith) (omega arith) (omega arith) (omega arith) (sized_of file 3 19 p.moves_end), tt),
          ),
        ),
      )

  -- reading the rewriting gives the parts
  read_parts : decode case_bodies (rewriting file) ≡ parts
  unfolding parts ruled rewriting decode decode_from case_bodies
  read_parts = decode_encode 4 parts parts_fit (parts_short parts_fit)

  placed_parts : placed case_bodies (rewriting file) ≡ true
  unfolding parts ruled rewriting decode decode_from case_bodies
  placed_parts = encode_placed 4 parts parts_fit (parts_short parts_fit)

  part_read : (i : ℕ) → (get_or (decode case_bodies (rewriting file)) i no_part).records ≡ (get_or parts i no_part).records
  part_read i = ap (λ (l : List Part). (get_or l i no_part).records) read_parts

  pub same_heads : records_of (rewriting file) 0 14 ≡ records_of file 0 14
  unfolding parts ruled decode decode_from case_bodies
  same_heads = part_read 0

  pub rules_rewritten : records_of (rewriting file) 1 5 ≡ map (in_our_codes (codes_of file)) (records_of file 1 5)
  unfolding parts ruled decode decode_from case_bodies
  rules_rewritten = part_read 1

  pub same_edges : records_of (rewriting file) 2 4 ≡ records_of file 2 4
  unfolding parts ruled decode decode_from case_bodies
  same_edges = part_read 2

  pub same_moves : records_of (rewriting file) 3 19 ≡ records_of file 3 19
  unfolding parts ruled decode decode_from case_bodies
  same_moves = part_read 3

  -- the rewriting is a file of first byte 4, whose codes are ours
  pub rewriting_first : get_or (rewriting file) 0 0 ≡ 4
  unfolding rewriting
  rewriting_first = first_encode 4 (map (ruled (codes_of file)) (decode case_bodies file))

  pub rewriting_placed : case_placed (rewriting file) ≡ true
  unfolding case_placed form form_of
  rewriting_placed = rw (case_placed, eq-eqb (get_or (rewriting file) 0 0) 4 rewriting_first) placed_parts

  pub rewriting_codes : codes_of (rewriting file) ≡ our_codes
  unfolding codes_of form form_of
  rewriting_codes = rw (codes_of, eq-eqb (get_or (rewriting file) 0 0) 4 rewriting_first)

  -- ---- what it decodes to

  head_same : head (rewriting file) ≡ head file
  unfolding head
  head_same = ap (λ (l : List (List ℕ)). head_of (get_or l 0 [])) same_heads

  edges_same : edge_records (rewriting file) ≡ edge_records file
  unfolding edge_records
  edges_same = ap (map edge_bytes) same_edges

  moves_same : move_records (rewriting file) ≡ move_records file
  unfolding move_records
  moves_same = ap (map move_of) same_moves

  module _ (few : length (codes_of file) ≤ 8) where
    rules_same : rule_records (rewriting file) ≡ rule_records file
    unfolding rule_records
    rules_same =
        ap₂ (λ (codes : List ℕ) (l : List (List ℕ)). map (λ x. rule_bytes (in_our_codes codes x)) l) rewriting_codes rules_rewritten
        ∙ read_again (records_of file 1 5)
      where
        read_again : (l : List (List ℕ)) → map (λ x. rule_bytes (in_our_codes our_codes x)) (map (in_our_codes (codes_of file)) l) ≡ map (λ x. rule_bytes (in_our_codes (codes_of file) x)) l
        read_again [] = refl
        read_again (x ∷ l) = ap₂ ◌∷◌ (ap rule_bytes (ours_again (codes_of file) x few)) (read_again l)

    states_same : states1 (rewriting file) ≡ states1 file
    unfolding states1
    states_same = ap₂ (λ (h : Head) (es : List EdgeBytes). h.J + length (entries_of h es)) head_same edges_same

    bounds_same : records_right (rewriting file) ≡ records_right file
    unfolding records_right
    bounds_same = rw (head_same, rules_same, edges_same, moves_same, states_same)

    order_same : increasing (rewriting file) ≡ increasing file
    unfolding increasing
    order_same = rw (head_same, edges_same, moves_same)

    own_same : own_of (rewriting file) ≡ own_of file
    unfolding own_of
    own_same = rw (head_same, edges_same, moves_same)

    rules_decoded : rules_of (rewriting file) ≡ rules_of file
    unfolding rules_of
    rules_decoded = ap (map rule_of) rules_same

-- ---- the refusal

module _ (file : List ℕ) (r : Readable file) where
  pub is_placed : case_placed file ≡ true
  unfolding case_refusal case_tests
  is_placed = by_test (case_placed file) (λ e. e) (λ e. absurd (r.in_place (first_hit_fails _ _ file (ap not e))))

  pub head_in_range : head_right (head file) ≡ true
  unfolding case_refusal case_tests
  head_in_range = by_test (head_right (head file)) (λ e. e)
      (λ e. absurd (r.in_range (first_hit_passes _ _ file (ap not is_placed) ∙ first_hit_fails _ _ file (ap not e))))

  pub codes_differ : codes_right (codes_of file) ≡ true
  unfolding case_refusal case_tests
  codes_differ = by_test (codes_right (codes_of file)) (λ e. e)
      (λ e. absurd (r.codes_apart (first_hit_passes _ _ file (ap not is_placed) ∙ first_hit_passes _ _ file (ap not head_in_range) ∙ first_hit_fails _ _ file (ap not e))))

  refusal_same : case_refusal file ≡ case_refusal (rewriting file)
  refusal_same =
      let p : CasePlaces file = case_places file is_placed in
      let l : length (codes_of file) ≡ 8 = length_codes file is_placed in
      let place : case_placed file ≡ case_placed (rewriting file) = is_placed ∙ sym (rewriting_placed file p) in
      let range : head_right (head file) ≡ head_right (head (rewriting file)) = ap head_right (sym (head_same file p)) in
      let codes : codes_right (codes_of file) ≡ codes_right (codes_of (rewriting file)) = codes_differ ∙ sym (ap codes_right (rewriting_codes file p) ∙ ours_right) in
      let bounds : records_right file ≡ records_right (rewriting file) = sym (bounds_same file p (omega arith)) in
      let order : increasing file ≡ increasing (rewriting file) = sym (order_same file p (omega arith)) in
      refusal_is file ∙ (λ i. refusal_by (place i) (range i) (codes i) (bounds i) (order i)) ∙ sym (refusal_is (rewriting file))

  pub same_case : SameCase file (rewriting file)
  same_case =
      let p : CasePlaces file = case_places file is_placed in
      let l : length (codes_of file) ≡ 8 = length_codes file is_placed in
      record {
        same_refusal = refusal_same;
        same_head = sym (head_same file p);
        same_own = sym (own_same file p (omega arith));
        same_rules = sym (rules_decoded file p (omega arith));
      }
