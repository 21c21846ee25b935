-- The form of a case by its first byte, its record of codes, and its rules in our codes.
-- Assumes nothing.
use Prim.Native.Nat.{ℕ, ◌*◌, ◌≤◌}
use Rattle.std.specs.Prelude.{Bool, true, false, ◌≡◌, length, replicate, eqb}
use Rattle.std.proofs.Math.Bool.{not}
use Rattle.std.proofs.lemmas.Bool.{false≢true}
use Rattle.std.proofs.Math.Path.{ap, ap₂, sym}
use Rattle.std.proofs.Common.{◌∙◌, arith}
use mathlib.Core.List.{List, [], ◌∷◌, ◌++◌, map, map-map}
use Rattle.std.proofs.Math.ListN.{get_or, take, drop}
use Rattle.std.proofs.lemmas.List.{length-replicate}
use Rattle.std.proofs.Math.Seq.{sets, length-sets}
use borrow.Author.Tests.{eq-eqb, ne_eqb, eqb-true, eqb-false}
use Rattle.words.specs.Laws.Tests.{by_test}
use Rattle.words.specs.Lists.Laws.{length_zero}
use Rattle.files.specs.Bytes.{placed, count_of, offset_of, records, records_of}
use Rattle.files.specs.Codes.{our_codes, codes_right, in_our_codes}
use Rattle.files.specs.Codes.Laws.{ours_right}
use Rattle.files.specs.Writing.{flat}
use Rattle.files.specs.Case.{case_bodies, code_body, form_of, form, case_placed, codes_of, rule_bytes, rule_records}
use Rattle.files.proofs.Case.Laws.{without_codes, with_codes, case_form, CodesPlaces, case_places, codes_places}
use Rattle.bytes_in.specs.Records.{body_of}
use Rattle.bytes_in.specs.Records.Laws.{records_here}
use Rattle.operations.specs.Laws.Rules.{read_ours}
use Rattle.std.specs.Prelude.{Option as Answer, Some, None}
use Rattle.std.proofs.Math.Option.{Option, none, some}
use Rattle.files.specs.Case.{Form}
use Rattle.case_file.specs.declared.Form.{Form as FormValue}
use Rattle.case_file.specs.declared.Form.TheVariants.{Plain, Coded}
use Rattle.case_file.specs.Forms.{the_form, codes_in, has_codes, our_rules, HoldsRules}

-- ---- the form by the first byte

module _ (first : ℕ) where
  pub form_four : first ≡ 4 → the_form (Some Plain) ≡ form_of first
  unfolding form_of the_form
  form_four e = rw (form_of, eq-eqb first 4 e)

  pub form_five : first ≡ 5 → the_form (Some Coded) ≡ form_of first
  unfolding form_of the_form
  form_five e = let d : first ≡ 4 → ⊥ = λ z. absurd (omega arith) in rw (form_of, ne_eqb first 4 d, eq-eqb first 5 e)

  pub form_none : (first ≡ 4 → ⊥) → (first ≡ 5 → ⊥) → the_form None ≡ form_of first
  unfolding form_of the_form
  form_none d e = rw (form_of, ne_eqb first 4 d, ne_eqb first 5 e)

-- ---- the places of the bodies

module _ (file : List ℕ) where
  pub no_bytes : length file ≡ 0 → false ≡ case_placed file
  unfolding case_placed form form_of
  no_bytes e = ap case_placed (sym (length_zero file e))

  -- the bodies of a form are in place
  unfoldable placed_by : Option Form → Bool
  placed_by none = false
  placed_by (some f) = placed f.bodies file

  module _ {first : ℕ} {f : Answer FormValue} (e : first ≡ get_or file 0 0) (l : the_form f ≡ form_of first) where
    by_form : {g : Answer FormValue} → f ≡ g → placed_by (the_form g) ≡ case_placed file
    unfolding case_placed form placed_by
    by_form q = ap placed_by (ap the_form (sym q) ∙ l ∙ ap form_of e)

    pub placed_plain : {r : Bool} → f ≡ Some Plain → r ≡ placed case_bodies file → r ≡ case_placed file
    unfolding placed_by the_form
    placed_plain q p = p ∙ by_form q

    pub placed_coded : {r : Bool} → f ≡ Some Coded → r ≡ placed (case_bodies ++ code_body 8 ∷ []) file → r ≡ case_placed file
    unfolding placed_by the_form
    placed_coded q p = p ∙ by_form q

    pub placed_none : f ≡ None → false ≡ case_placed file
    unfolding placed_by the_form
    placed_none q = by_form q

  -- ---- the record of codes

  pub codes_tell : {first : ℕ} → first ≡ get_or file 0 0 → eqb first 5 ≡ has_codes file
  unfolding has_codes form the_form codes_in
  codes_tell {first} e =
      let has : Option Form → Bool = λ o. not (eqb (codes_in o) 0) in
      let same : has (form_of first) ≡ has (form_of (get_or file 0 0)) = ap (λ (k : ℕ). has (form_of k)) e in
      by_test (eqb first 5)
      (λ t. t ∙ ap has (form_five first (eqb-true first 5 t)) ∙ same)
      (λ t.
      by_test (eqb first 4)
      (λ q. t ∙ ap has (form_four first (eqb-true first 4 q)) ∙ same)
      (λ q. t ∙ ap has (form_none first (eqb-false first 4 q) (eqb-false first 5 t)) ∙ same))

  module _ (in_place : case_placed file ≡ true) where
    -- a file has a record, and then first byte 5, or it has none
    pub record_there : has_codes file ≡ true → CodesPlaces file
    unfolding has_codes form the_form codes_in
    record_there h = elim (case_form file in_place) [
      | without_codes x p y ↦
          let z : codes_in (form_of (get_or file 0 0)) ≡ 0 = sym (ap codes_in (form_four (get_or file 0 0) x)) in
          absurd (false≢true (sym (ap (λ (k : ℕ). not (eqb k 0)) z) ∙ h))
      | with_codes x p y ↦ codes_places file in_place x
    ]

    pub record_is : has_codes file ≡ true → {part : List ℕ} → part ≡ body_of file 4 8 → part ≡ codes_of file
    unfolding has_codes form the_form codes_in body_of records_of records
    record_is h {part} e = elim (case_form file in_place) [
      | without_codes x p y ↦
          let z : codes_in (form_of (get_or file 0 0)) ≡ 0 = sym (ap codes_in (form_four (get_or file 0 0) x)) in
          absurd (false≢true (sym (ap (λ (k : ℕ). not (eqb k 0)) z) ∙ h))
      | with_codes x p y ↦
          let bytes : List ℕ = drop (offset_of file 4) file in
          let n : count_of file 4 ≡ 1 = (codes_places file in_place x).codes_count in
          e ∙ ap (λ (k : ℕ). take (k * 8) bytes) n ∙ sym (y ∙ ap (λ (k : ℕ). get_or (records k 8 bytes) 0 []) n)
    ]

    pub no_record : has_codes file ≡ false → codes_of file ≡ our_codes
    unfolding has_codes form the_form codes_in
    no_record h = elim (case_form file in_place) [
      | without_codes x p y ↦ y
      | with_codes x p y ↦
          let z : codes_in (form_of (get_or file 0 0)) ≡ 8 = sym (ap codes_in (form_five (get_or file 0 0) x)) in
          absurd (false≢true (sym h ∙ ap (λ (k : ℕ). not (eqb k 0)) z))
    ]

    pub ours_pass : has_codes file ≡ false → true ≡ codes_right (codes_of file)
    ours_pass h = sym (ap codes_right (no_record h) ∙ ours_right)

    -- ---- rules in our codes

    -- the codes by which the rules were written are the file's
    pub rules_ours : {codes body out : List ℕ} {n : ℕ} (rules : List ℕ) → codes ≡ codes_of file → body ≡ body_of file 1 5 → n ≡ count_of file 1
        → out ≡ sets rules 0 (flat (map (in_our_codes codes) (records n 5 body))) → out ≡ sets rules 0 (our_rules file)
    unfolding our_rules
    rules_ours {codes} {body} {out} {n} rules e b c p =
        p ∙ ap₂ (λ (k : List ℕ) (l : List (List ℕ)). sets rules 0 (flat (map (in_our_codes k) l))) e (records_here file 1 5 body n b c)

    -- the rules are read back as the file's
    rules_back : {out : List ℕ} {n : ℕ} (rules : List ℕ) → 1280 ≤ length rules → n ≡ count_of file 1 → out ≡ sets rules 0 (our_rules file)
        → map rule_bytes (records n 5 out) ≡ rule_records file
    unfolding our_rules rule_records records_of
    rules_back {out} {n} rules l c p =
        let f : List ℕ → List ℕ = in_our_codes (codes_of file) in
        let bytes : List ℕ = drop (offset_of file 1) file in
        let few : count_of file 1 ≤ 256 = (case_places file in_place).rules_count in
        ap₂ (λ (k : ℕ) (r : List ℕ). map rule_bytes (records k 5 r)) c p
        ∙ ap (map rule_bytes) (read_ours (codes_of file) bytes rules (count_of file 1) (omega arith))
        ∙ map-map rule_bytes (in_our_codes (codes_of file)) (records (count_of file 1) 5 bytes)

    -- rules that were written into new memory
    pub holds_rules : {out : List ℕ} {n : ℕ} → n ≡ count_of file 1 → out ≡ sets (replicate 1280 0) 0 (our_rules file) → HoldsRules file out n
    holds_rules {out} {n} c p =
        let few : count_of file 1 ≤ 256 = (case_places file in_place).rules_count in
        let room : length (replicate {A = ℕ} 1280 0) ≡ 1280 = length-replicate {A = ℕ} 1280 0 in
        let long : length out ≡ length (replicate {A = ℕ} 1280 0) = ap length p ∙ length-sets (replicate {A = ℕ} 1280 0) 0 (our_rules file) in
        record { rules_fit = omega arith; rules_are = rules_back (replicate {A = ℕ} 1280 0) (omega arith) c p; count_is = c }
