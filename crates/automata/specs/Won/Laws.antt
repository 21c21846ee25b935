-- What the least number that passes a test is.
-- Assumes nothing.
use Prim.Native.Nat.{ℕ, zero, suc, ◌+◌, ◌≤◌, ◌<◌}
use Rattle.std.specs.Prelude.{Bool, true, false, ◌≡◌, eqb}
use Rattle.std.proofs.Math.Path.{refl, ap}
use Rattle.std.proofs.Common.{sym, ◌∙◌}
use native.Mathlib.Omega.{arith}
use borrow.Author.Tests.{eqb-true, eqb-false}
use Rattle.words.specs.Laws.Tests.{by_test}
use Rattle.replies.specs.declared.Acceptance.{Acceptance}
use Rattle.replies.specs.declared.Acceptance.TheVariants.{Never, Since}
use Rattle.automata.specs.Won.{least_from}

module _ (test : ℕ → Bool) where
  -- r is the least of the numbers from n on that passes
  pub record LeastFrom (n r : ℕ) : Type 0 where
    pub from : n ≤ r
    pub passes : test r ≡ true
    pub least : (m : ℕ) → n ≤ m → m < r → test m ≡ false

  pub least_some : (n k r : ℕ) → r < n + k → LeastFrom n r → least_from test n k ≡ Since r
  unfolding least_from
  least_some n zero r l h = let f = h.from in absurd (omega arith)
  least_some n (suc k) r l h =
      let f = h.from in
      by_test (eqb n r)
      (λ e.
      let same : n ≡ r = eqb-true n r e in
      rw (least_from, ap test same ∙ h.passes) (ap Since same))
      (λ e.
      let differs : n ≡ r → ⊥ = eqb-false n r e in
      rw (least_from, h.least n (omega arith) (omega arith))
      (least_some (suc n) k r (omega arith) (record { from = omega arith; passes = h.passes; least = λ m a b. h.least m (omega arith) b })))

  pub least_none : (n k : ℕ) → ((m : ℕ) → n ≤ m → m < n + k → test m ≡ false) → least_from test n k ≡ Never
  unfolding least_from
  least_none n zero h = refl
  least_none n (suc k) h =
      rw (least_from, h n (omega arith) (omega arith)) (least_none (suc n) k (λ m a b. h m (omega arith) (omega arith)))

  -- the answer is right: it is the least number that passes, or none passes
  abbrev pub Right : ℕ → ℕ → Acceptance → Type 0
  Right n k Never = (m : ℕ) → n ≤ m → m < n + k → test m ≡ false
  Right n k (Since r) = (r < n + k) × LeastFrom n r

  later_right : (n k : ℕ) (a : Acceptance) → test n ≡ false → Right (suc n) k a → Right n (suc k) a
  later_right n k Never f h = λ m a b. by_test (eqb n m) (λ e. ap test (sym (eqb-true n m e)) ∙ f) (λ e.
      let differs : n ≡ m → ⊥ = eqb-false n m e in
      h m (omega arith) (omega arith))
  later_right n k (Since r) f (l, h) =
      let from = h.from in (
        omega arith,
        record {
          from = omega arith;
          passes = h.passes;
          least = λ m a b. by_test (eqb n m) (λ e. ap test (sym (eqb-true n m e)) ∙ f) (λ e.
              let differs : n ≡ m → ⊥ = eqb-false n m e in
              h.least m (omega arith) b);
        },
      )

  pub least_right : (n k : ℕ) → Right n k (least_from test n k)
  unfolding least_from
  least_right n zero = λ m a b. absurd (omega arith)
  least_right n (suc k) =
      by_test (test n)
      (λ e. rw (least_from, e) (omega arith, record { from = omega arith; passes = e; least = λ m a b. absurd (omega arith) }))
      (λ e. rw (least_from, e) (later_right n k (least_from test (suc n) k) e (least_right (suc n) k)))
