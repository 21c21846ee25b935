-- Numbers: what holds from a number on, and below a number; two numbers as one; numbers that grow and have a bound.
-- Assumes nothing.
use Rattle.std.specs.Prelude.{ℕ, zero, suc, ◌+◌, ◌*◌, ◌≤◌, ◌<◌, ◌≡◌, eqb, ltb}
use Rattle.std.proofs.Common.{ap, sym, subst, suc-mul, mul-le-mul_right, arith, eqb-true, ltb-true, ltb-false}
use Rattle.std.proofs.lemmas.Bool.{eqb-false}
use Rattle.words.specs.Laws.Tests.{by_test}

-- from n on, step by step
pub upward : (P : ℕ → Type 0) (n : ℕ) → P n → ((k : ℕ) → n ≤ k → P k → P (suc k)) → (m : ℕ) → n ≤ m → P m
upward P n x f zero h = let e : n ≡ 0 = omega arith in subst P e x
upward P n x f (suc m) h = by_test (eqb n (suc m))
    (λ t. subst P (eqb-true n (suc m) t) x)
    (λ t. let d : n ≡ suc m → ⊥ = eqb-false n (suc m) t in let l : n ≤ m = omega arith in f m l (upward P n x f m l))

-- what holds below n and at n holds below n + 1
pub below_suc : (P : ℕ → Type 0) (n : ℕ) → ((m : ℕ) → m < n → P m) → P n → (m : ℕ) → m < suc n → P m
below_suc P n f x m h = by_test (eqb m n)
    (λ t. subst P (sym (eqb-true m n t)) x)
    (λ t. let d : m ≡ n → ⊥ = eqb-false m n t in f m (omega arith))

-- ---- two numbers as one

-- a below n and b below k as one number below n * k
pub paired_below : (n k a b : ℕ) → a < n → b < k → a * k + b < n * k
paired_below n k a b h l =
    let p : suc a * k ≤ n * k = mul-le-mul_right k h in
    let q : suc a * k ≡ a * k + k = suc-mul a k in
    omega arith

-- the number with the lesser first part is the lesser
paired_less : (k a b c d : ℕ) → b < k → a < c → a * k + b < c * k + d
paired_less k a b c d l h =
    let p : suc a * k ≤ c * k = mul-le-mul_right k h in
    let q : suc a * k ≡ a * k + k = suc-mul a k in
    omega arith

-- both can be read off the one number
pub paired_parts : (k a b c d : ℕ) → b < k → d < k → a * k + b ≡ c * k + d → (a ≡ c) × (b ≡ d)
paired_parts k a b c d hb hd e = by_test (ltb a c)
    (λ t. let l : a * k + b < c * k + d = paired_less k a b c d hb (ltb-true a c t) in absurd (omega arith))
    (λ t. by_test (ltb c a)
    (λ u. let l : c * k + d < a * k + b = paired_less k c d a b hd (ltb-true c a u) in absurd (omega arith))
    (λ u.
    let g : c ≤ a = ltb-false a c t in
    let h : a ≤ c = ltb-false c a u in
    let q : a ≡ c = omega arith in
    let p : a * k ≡ c * k = ap (λ (x : ℕ). x * k) q in
    let r : b ≡ d = omega arith in
    (q, r)))

-- ---- numbers that grow

-- numbers that grow and have a bound are equal somewhere to the next
pub stops : (f : ℕ → ℕ) (k : ℕ) → ((n : ℕ) → f n ≤ f (suc n)) → ((n : ℕ) → f n ≤ k) → (n : ℕ) × (f (suc n) ≡ f n)
stops f k grows bound = go (suc k) 0 (omega arith)
  where
    go : (m n : ℕ) → k < m + f n → (n : ℕ) × (f (suc n) ≡ f n)
    go zero n h = let l : f n ≤ k = bound n in absurd (omega arith)
    go (suc m) n h = by_test (eqb (f (suc n)) (f n))
        (λ t. (n, eqb-true (f (suc n)) (f n) t))
        (λ t.
        let d : f (suc n) ≡ f n → ⊥ = eqb-false (f (suc n)) (f n) t in
        let l : f n ≤ f (suc n) = grows n in
        go m (suc n) (omega arith))
