-- The last element of a key, chains of no element, and chains with an element more.
-- Assumes nothing.
use Rattle.std.specs.Prelude.{ℕ, zero, suc, ◌+◌, ◌-◌, ◌≤◌, ◌<◌, ◌≡◌, List, length, get_or, set, replicate, eqb, Option, Some}
use Rattle.std.proofs.Math.Path.{refl}
use Rattle.std.proofs.Common.{ap, sym, ◌∙◌, subst, ⊎_elim, eq-or-lt_of_le, le_of_suc-le-suc, add-one, arith, length-set, get_or-set_same, get_or-set_other}
use Rattle.std.proofs.lemmas.List.{length-replicate, get_or-replicate}
use borrow.Author.Tests.{eqb-true, eqb-false, eq-eqb, ne_eqb}
use Rattle.words.specs.Laws.Tests.{by_test}
use Rattle.chains.specs.Chains.{number_after, last_below, Chained}

-- ---- the last element of a key

module _ (key : ℕ → ℕ) (k : ℕ) where
  last_yes : (n : ℕ) → key n ≡ k → last_below key k (suc n) ≡ suc n
  unfolding last_below
  last_yes n e = rw (last_below, eq-eqb (key n) k e)

  last_no : (n : ℕ) → (key n ≡ k → ⊥) → last_below key k (suc n) ≡ last_below key k n
  unfolding last_below
  last_no n e = rw (last_below, ne_eqb (key n) k e)

  last_start : last_below key k 0 ≡ 0
  unfolding last_below
  last_start = refl

  pub last_below_lem : (n : ℕ) → last_below key k n ≤ n
  last_below_lem zero = let e : last_below key k 0 ≡ 0 = last_start in omega arith
  last_below_lem (suc n) =
      by_test (eqb (key n) k)
      (λ t. let e : last_below key k (suc n) ≡ suc n = last_yes n (eqb-true (key n) k t) in omega arith)
      (λ f. let e : last_below key k (suc n) ≡ last_below key k n = last_no n (eqb-false (key n) k f) in
      let h : last_below key k n ≤ n = last_below_lem n in
      omega arith)

  -- a chain goes down
  pub last_less : (c r : ℕ) → 0 < c → r ≡ last_below key k (c - 1) → r < c
  last_less c r h e = let b : last_below key k (c - 1) ≤ c - 1 = last_below_lem (c - 1) in omega arith

  -- the element before element i has a lower number
  pub chain_falls : (i : ℕ) (next r : Option ℕ) → next ≡ Some i → number_after r ≡ last_below key k i → number_after r < number_after next
  chain_falls i next r s e =
      let n : number_after next ≡ i + 1 = ap number_after s in
      let b : last_below key k i ≤ i = last_below_lem i in
      omega arith

  pub last_key : (n i : ℕ) → last_below key k n ≡ suc i → (i < n) × (key i ≡ k)
  last_key zero i e = let z : last_below key k 0 ≡ 0 = last_start in absurd (omega arith)
  last_key (suc n) i e =
      by_test (eqb (key n) k)
      (λ t. let q : key n ≡ k = eqb-true (key n) k t in
      let z : last_below key k (suc n) ≡ suc n = last_yes n q in
      let s : i ≡ n = omega arith in
      (omega arith, ap key s ∙ q))
      (λ f. let (b, q) = last_key n i (sym (last_no n (eqb-false (key n) k f)) ∙ e) in
      (omega arith, q))

  -- nothing with key k stands above the last
  pub last_none : (n i : ℕ) → last_below key k n ≤ i → i < n → key i ≡ k → ⊥
  last_none zero i l h q = omega arith
  last_none (suc n) i l h q =
      by_test (eqb (key n) k)
      (λ t. let z : last_below key k (suc n) ≡ suc n = last_yes n (eqb-true (key n) k t) in omega arith)
      (λ f. let z : last_below key k (suc n) ≡ last_below key k n = last_no n (eqb-false (key n) k f) in
      ⊎_elim
      (λ (e : i ≡ n). eqb-false (key n) k f (ap key (sym e) ∙ q))
      (λ (b : i < n). last_none n i (omega arith) b q)
      (eq-or-lt_of_le (le_of_suc-le-suc h)))

-- keys of the elements below n decide
last_same : (key key' : ℕ → ℕ) (k n : ℕ) → ((i : ℕ) → i < n → key i ≡ key' i) → last_below key k n ≡ last_below key' k n
last_same key key' k zero h = last_start key k ∙ sym (last_start key' k)
last_same key key' k (suc n) h =
    let s : key n ≡ key' n = h n (omega arith) in
    by_test (eqb (key n) k)
    (λ t. let q : key n ≡ k = eqb-true (key n) k t in last_yes key k n q ∙ sym (last_yes key' k n (sym s ∙ q)))
    (λ f. let q : key n ≡ k → ⊥ = eqb-false (key n) k f in
    last_no key k n q ∙ last_same key key' k n (λ i l. h i (omega arith)) ∙ sym (last_no key' k n (λ e. q (s ∙ e))))

-- ---- chains

pub chained_none : (key : ℕ → ℕ) → Chained key 0 (replicate 3072 0)
chained_none key =
    record {
      long = length-replicate {A = ℕ} 3072 0;
      few = omega arith;
      lasts = λ k h. get_or-replicate {A = ℕ} 3072 k 0 0 (omega arith) ∙ sym (last_start key k);
      befores = λ i h. absurd (omega arith);
    }

pub chained_same : (key key' : ℕ → ℕ) (n : ℕ) (t : List ℕ) → ((i : ℕ) → i < n → key i ≡ key' i) → Chained key n t → Chained key' n t
chained_same key key' n t h c =
    record {
      long = c.long;
      few = c.few;
      lasts = λ k l. c.lasts k l ∙ last_same key key' k n h;
      befores =
          λ i l. c.befores i l
          ∙ ap (λ (k : ℕ). last_below key k i) (h i l)
          ∙ last_same key key' (key' i) i (λ j b. h j (omega arith));
    }

-- the number of elements by its bounds
pub chained_up_to : (key : ℕ → ℕ) (i n : ℕ) (t : List ℕ) → i ≤ n → n ≤ i → Chained key i t → Chained key n t
chained_up_to key i n t l h c = subst (λ (k : ℕ). Chained key k t) (let e : i ≡ n = omega arith in e) c

-- element i, whose key is k, is entered as the last
pub chained_more : (key : ℕ → ℕ) (k i : ℕ) (t : List ℕ) → k < 2048 → i < 1024 → key i ≡ k → Chained key i t
    → Chained key (i + 1) (set (set t (2048 + i) (get_or t k 0)) k (i + 1))
chained_more key k i t b f e c =
    record { long = long; few = omega arith; lasts = lasts; befores = befores }
  where
    linked : List ℕ
    linked = set t (2048 + i) (get_or t k 0)

    entered : List ℕ
    entered = set linked k (i + 1)

    linked_long : length linked ≡ 3072
    linked_long = length-set t (2048 + i) (get_or t k 0) ∙ c.long

    long : length entered ≡ 3072
    long = length-set linked k (i + 1) ∙ linked_long

    lasts : (j : ℕ) → j < 2048 → get_or entered j 0 ≡ last_below key j (i + 1)
    lasts j h =
        by_test (eqb (key i) j)
        (λ t. let q : key i ≡ j = eqb-true (key i) j t in
        ap (λ (m : ℕ). get_or entered m 0) (sym q ∙ e)
        ∙ get_or-set_same linked k (i + 1) 0 (omega (arith, linked_long))
        ∙ add-one i
        ∙ sym (ap (λ (m : ℕ). last_below key j m) (add-one i) ∙ last_yes key j i q))
        (λ f. let q : key i ≡ j → ⊥ = eqb-false (key i) j f in
        get_or-set_other linked k j (i + 1) 0 (λ z. q (e ∙ sym z))
        ∙ get_or-set_other t (2048 + i) j (get_or t k 0) 0 (λ z. omega arith)
        ∙ c.lasts j h
        ∙ sym (ap (λ (m : ℕ). last_below key j m) (add-one i) ∙ last_no key j i q))

    befores : (j : ℕ) → j < i + 1 → get_or entered (2048 + j) 0 ≡ last_below key (key j) j
    befores j h =
        get_or-set_other linked k (2048 + j) (i + 1) 0 (λ z. omega arith)
        ∙ ⊎_elim
        (λ (q : j ≡ i). ap (λ (m : ℕ). get_or linked (2048 + m) 0) q
        ∙ get_or-set_same t (2048 + i) (get_or t k 0) 0 (omega (arith, c.long))
        ∙ c.lasts k b
        ∙ ap (λ (m : ℕ). last_below key m i) (sym e)
        ∙ ap (λ (m : ℕ). last_below key (key m) m) (sym q))
        (λ (q : j < i). get_or-set_other t (2048 + i) (2048 + j) (get_or t k 0) 0 (λ z. omega arith) ∙ c.befores j q)
        (eq-or-lt_of_le (let l : j ≤ i = omega arith in l))
