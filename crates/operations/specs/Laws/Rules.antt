-- Rules in our codes, written one after another.
-- Assumes nothing.
use Rattle.std.specs.Prelude.{ℕ, suc, ◌+◌, ◌*◌, ◌<◌, ◌≤◌, ◌≡◌, refl, List, [], ◌∷◌, ◌++◌, map, length, drop, set}
use Rattle.std.proofs.Common.{ap, ap₂, sym, ◌∙◌, add-zero, arith}
use Rattle.std.proofs.lemmas.List.{length-map}
use Rattle.std.proofs.lemmas.List.Edits.{sets, sets-eq}
use Rattle.std.proofs.Math.Seq.{length-sets}
use Rattle.words.specs.Lists.{each}
use Rattle.words.specs.Lists.Laws.{each_append, each_one}
use Rattle.files.specs.Bytes.{records}
use Rattle.files.specs.Bytes.Laws.{length_records}
use Rattle.files.specs.Codes.{in_our_codes}
use Rattle.files.specs.Writing.{flat}
use Rattle.files.specs.Writing.Laws.{length_flat, records_flat}
use Rattle.files.proofs.Rewriting.Laws.{sized_rules}
use Rattle.bytes_in.specs.Records.{record_at}
use Rattle.bytes_in.specs.Records.Laws.{map_more}

-- stores one after another
sets_append : (vs ws l : List ℕ) (i : ℕ) → sets l i (vs ++ ws) ≡ sets (sets l i vs) (i + length vs) ws
sets_append [] ws l i = ap (λ (k : ℕ). sets l k ws) (sym (add-zero i))
sets_append (v ∷ vs) ws l i =
    let e : suc i + length vs ≡ i + suc (length vs) = omega arith in
    sets_append vs ws (set l i v) (suc i) ∙ ap (λ (k : ℕ). sets (sets (set l i v) (suc i) vs) k ws) e

-- the first i rules of the body are written
pub record RulesPut (codes body rules₀ : List ℕ) (n i : ℕ) (rules : List ℕ) : Type 0 where
  pub within : i ≤ n
  pub is : rules ≡ sets rules₀ 0 (flat (map (in_our_codes codes) (records i 5 body)))
  pub long : length rules ≡ length rules₀

pub put_none : (codes body rules : List ℕ) (n : ℕ) → RulesPut codes body rules n 0 rules
unfolding records flat each
put_none codes body rules n = record { within = omega arith; is = refl; long = refl }

pub put_more : {codes body rules₀ rules out : List ℕ} {n i : ℕ} → RulesPut codes body rules₀ n i rules → i < n
    → out ≡ sets rules (i * 5) (in_our_codes codes (record_at 5 i body)) → RulesPut codes body rules₀ n (i + 1) out
unfolding flat
put_more {codes} {body} {rules₀} {rules} {out} {n} {i} p l e =
    let xs : List (List ℕ) = map (in_our_codes codes) (records i 5 body) in
    let x : List ℕ = in_our_codes codes (record_at 5 i body) in
    let count : length xs ≡ i = length-map (records i 5 body) (in_our_codes codes) ∙ length_records i 5 body in
    let bytes : length (flat xs) ≡ length xs * 5 = length_flat 5 xs (sized_rules codes (records i 5 body)) in
    let at : 0 + length (flat xs) ≡ i * 5 = omega arith in
    let all : flat (map (in_our_codes codes) (records (i + 1) 5 body)) ≡ flat xs ++ x =
    ap flat (map_more (in_our_codes codes) 5 body i) ∙ each_append xs (x ∷ []) (λ y. y) ∙ ap (λ (r : List ℕ). flat xs ++ r) (each_one x (λ y. y)) in
    record {
      within = omega arith;
      is =
          e
          ∙ ap₂ (λ (r : List ℕ) (k : ℕ). sets r k x) p.is (sym at)
          ∙ sym (sets_append (flat xs) x rules₀ 0)
          ∙ ap (sets rules₀ 0) (sym all);
      long = ap length e ∙ length-sets rules (i * 5) x ∙ p.long;
    }

pub put_all : {codes body rules₀ rules : List ℕ} {n i : ℕ} → RulesPut codes body rules₀ n i rules → n ≤ i
    → rules ≡ sets rules₀ 0 (flat (map (in_our_codes codes) (records n 5 body)))
put_all {codes} {body} {rules₀} {n = n} {i} p l =
    let w : i ≤ n = p.within in
    let z : i ≡ n = omega arith in
    p.is ∙ ap (λ (k : ℕ). sets rules₀ 0 (flat (map (in_our_codes codes) (records k 5 body)))) z

-- the rules that were written are read back
pub read_ours : (codes body rules₀ : List ℕ) (n : ℕ) → n * 5 ≤ length rules₀
    → records n 5 (sets rules₀ 0 (flat (map (in_our_codes codes) (records n 5 body)))) ≡ map (in_our_codes codes) (records n 5 body)
read_ours codes body rules₀ n l =
    let xs : List (List ℕ) = map (in_our_codes codes) (records n 5 body) in
    let count : length xs ≡ n = length-map (records n 5 body) (in_our_codes codes) ∙ length_records n 5 body in
    let bytes : length (flat xs) ≡ length xs * 5 = length_flat 5 xs (sized_rules codes (records n 5 body)) in
    let fits : 0 + length (flat xs) ≤ length rules₀ = omega arith in
    ap₂ (λ (k : ℕ) (r : List ℕ). records k 5 r) (sym count) (sets-eq (flat xs) rules₀ 0 fits)
    ∙ records_flat 5 xs (drop (0 + length (flat xs)) rules₀) (sized_rules codes (records n 5 body))
