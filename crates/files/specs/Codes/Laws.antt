-- What holds of a record of codes: which of our codes a tool's code stands for.
-- Assumes nothing.
use Rattle.std.specs.Prelude.{ℕ, zero, suc, ◌+◌, ◌<◌, ◌≤◌, Bool, true, not, ◌&&◌, ◌≡◌, refl, length, get_or, eqb}
use Rattle.std.proofs.Common.{ap, sym, ◌∙◌, arith, eqb-true, eq-eqb, ne_eqb}
use mathlib.Core.List.{List, [], ◌∷◌, Memᴰ}
use Rattle.std.proofs.lemmas.Bool.{eqb-false, not-true}
use Rattle.words.specs.Laws.Tests.{by_test, and_left, and_right}
use Rattle.words.specs.Lists.Laws.{get_or_in}
use Rattle.files.specs.Codes.{our_codes, number_from, our_code, codes_right, in_our_codes}

-- ---- one code

pub number_here : (n : ℕ) (c : ℕ) (cs : List ℕ) (x : ℕ) → c ≡ x → number_from n (c ∷ cs) x ≡ n
unfolding number_from
number_here n c cs x e = rw (number_from, eq-eqb c x e)

pub number_later : (n : ℕ) (c : ℕ) (cs : List ℕ) (x : ℕ) → (c ≡ x → ⊥) → number_from n (c ∷ cs) x ≡ number_from (suc n) cs x
unfolding number_from
number_later n c cs x e = rw (number_from, ne_eqb c x e)

number_below : (n : ℕ) (codes : List ℕ) (x : ℕ) → 1 ≤ n → number_from n codes x < n + length codes
unfolding number_from
number_below n [] x l = omega arith
number_below n (c ∷ cs) x l = by_test (eqb c x)
    (λ e. rw (number_here n c cs x (eqb-true c x e)) (omega arith))
    (λ e.
    let k : number_from (suc n) cs x < suc n + length cs = number_below (suc n) cs x (omega arith) in
    rw (number_later n c cs x (eqb-false c x e)) (omega arith))

-- a tool's code stands for one of our operations or none
pub our_code_few : (codes : List ℕ) (x : ℕ) → our_code codes x ≤ length codes
unfolding our_code
our_code_few codes x = let l : number_from 1 codes x < 1 + length codes = number_below 1 codes x (omega arith) in omega arith

-- ---- codes that are there, and codes that are not

number_there : {x : ℕ} (n : ℕ) {codes : List ℕ} → 1 ≤ n → Memᴰ x codes → number_from n codes x ≡ 0 → ⊥
number_there {x = x} n l (Memᴰ.head {x = c} {xs = cs} e) z = let z' : n ≡ 0 = sym (number_here n c cs x (sym e)) ∙ z in omega arith
number_there {x = x} n l (Memᴰ.tail {x = c} {xs = cs} j) z = by_test (eqb c x)
    (λ e. let z' : n ≡ 0 = sym (number_here n c cs x (eqb-true c x e)) ∙ z in omega arith)
    (λ e. number_there (suc n) (omega arith) j (sym (number_later n c cs x (eqb-false c x e)) ∙ z))

number_missing : (n : ℕ) (codes : List ℕ) (x : ℕ) → (Memᴰ x codes → ⊥) → number_from n codes x ≡ 0
unfolding number_from
number_missing n [] x h = refl
number_missing n (c ∷ cs) x h =
    number_later n c cs x (λ e. h (Memᴰ.head (sym e))) ∙ number_missing (suc n) cs x (λ j. h (Memᴰ.tail j))

-- a code that is in the record stands for an operation
pub code_there : {codes : List ℕ} {x : ℕ} → Memᴰ x codes → our_code codes x ≡ 0 → ⊥
unfolding our_code
code_there j z = number_there 1 (omega arith) j z

-- a code that is not in the record stands for none
pub code_missing : (codes : List ℕ) (x : ℕ) → (Memᴰ x codes → ⊥) → our_code codes x ≡ 0
unfolding our_code
code_missing codes x h = number_missing 1 codes x h

-- ---- a right record

-- of a record's first byte and those after it
pub record FirstCode (c : ℕ) (cs : List ℕ) : Type 0 where
  pub not_zero : c ≡ 0 → ⊥
  pub not_again : our_code cs c ≡ 0
  pub others : codes_right cs ≡ true

pub codes_first : (c : ℕ) (cs : List ℕ) → codes_right (c ∷ cs) ≡ true → FirstCode c cs
unfolding codes_right
codes_first c cs e =
    let a : Bool = not (eqb c 0) in
    let b : Bool = a && eqb (our_code cs c) 0 in
    record {
      not_zero = eqb-false c 0 (not-true (eqb c 0) (and_left a _ (and_left b _ e)));
      not_again = eqb-true (our_code cs c) 0 (and_right a _ (and_left b _ e));
      others = and_right b _ e;
    }

number_at : (n : ℕ) (codes : List ℕ) (i : ℕ) → codes_right codes ≡ true → i < length codes → number_from n codes (get_or codes i 0) ≡ n + i
number_at n [] zero r l = absurd (omega arith)
number_at n [] (suc i) r l = absurd (omega arith)
number_at n (c ∷ cs) zero r l = let e : n ≡ n + 0 = omega arith in number_here n c cs c refl ∙ e
number_at n (c ∷ cs) (suc i) r l =
    let f = codes_first c cs r in
    let k : i < length cs = omega arith in
    let e : suc n + i ≡ n + suc i = omega arith in
    number_later n c cs (get_or cs i 0) (λ q. code_there (get_or_in cs i 0 k) (ap (our_code cs) (sym q) ∙ f.not_again))
    ∙ number_at (suc n) cs i f.others k
    ∙ e

-- "The record's nth byte, from 1, is the tool's code for our operation n."
pub code_at : (codes : List ℕ) (i : ℕ) → codes_right codes ≡ true → i < length codes → our_code codes (get_or codes i 0) ≡ 1 + i
unfolding our_code
code_at codes i r l = number_at 1 codes i r l

-- ---- our own codes

pub ours_right : codes_right our_codes ≡ true
unfolding our_codes codes_right our_code number_from
ours_right = refl

-- each stands for itself
pub our_own : (k : ℕ) → k ≤ 8 → our_code our_codes k ≡ k
unfolding our_codes our_code number_from
our_own zero l = refl
our_own (suc zero) l = refl
our_own (suc (suc zero)) l = refl
our_own (suc (suc (suc zero))) l = refl
our_own (suc (suc (suc (suc zero)))) l = refl
our_own (suc (suc (suc (suc (suc zero))))) l = refl
our_own (suc (suc (suc (suc (suc (suc zero)))))) l = refl
our_own (suc (suc (suc (suc (suc (suc (suc zero))))))) l = refl
our_own (suc (suc (suc (suc (suc (suc (suc (suc zero)))))))) l = refl
our_own (suc (suc (suc (suc (suc (suc (suc (suc (suc k))))))))) l = absurd (omega arith)

-- a rule in our codes stays as it is when it is read by ours
pub ours_again : (codes x : List ℕ) → length codes ≤ 8 → in_our_codes our_codes (in_our_codes codes x) ≡ in_our_codes codes x
unfolding in_our_codes
ours_again codes x l =
    let few : our_code codes (get_or x 2 0) ≤ length codes = our_code_few codes (get_or x 2 0) in
    ap (λ (k : ℕ). get_or x 0 0 ∷ get_or x 1 0 ∷ k ∷ get_or x 3 0 ∷ get_or x 4 0 ∷ []) (our_own (our_code codes (get_or x 2 0)) (omega arith))
