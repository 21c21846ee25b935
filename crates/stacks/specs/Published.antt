-- Definitions 1 and 2 of source document 001 at n = 2, in its own notation, without its rules p → P. Its collapse is defined from order 1
-- upward. That document 01's table and steps are these is in Published/Laws.antt.
-- Assumes nothing.
use Rattle.std.specs.Prelude.{ℕ, ◌≡◌}
use Rattle.std.proofs.Math.Option.{Option, none, some}
use mathlib.Core.List.{List, Memᴰ}
use Rattle.stacks.specs.Stack.{Stack1, nil1, cons1, Stack2, nil2, cons2, Annotation, of1, of2}
use Rattle.stacks.specs.Stack.{Operation, rewrite, push1, push2, copy, pop1, pop2, collapse1, collapse2}
use Rattle.stacks.specs.System.{Configuration, Rule}

infixr 60 ◌:₁◌
infixr 60 ◌:₂◌
infixl 70 ◌annotated◌
-- ---- Definition 1: the stacks are Stack1 and Stack2

-- a^u: what an order-1 stack is a sequence of
pub record Character : Type 0 where
  pub symbol : ℕ
  pub annotation : Annotation

abbrev pub ◌annotated◌ : ℕ → Annotation → Character
a annotated u = record { symbol = a; annotation = u }

-- "Given an order-n stack w, we define top_{n+1}(w) = w"
abbrev pub top₃ : Stack2 → Stack2
top₃ w = w

-- "top_n([w_1 .. w_ℓ]_n) = w_1 when ℓ > 0; top_n([ ]_n) = [ ]_{n-1} otherwise"
abbrev pub top₂ : Stack2 → Stack1
top₂ nil2 = nil1
top₂ (cons2 w t) = w

-- "top_k([w_1 .. w_ℓ]_n) = top_k(w_1) when k < n and ℓ > 0", "undefined if top_{k'}(w) is empty for any k' > k"
abbrev pub top₁ : Stack2 → Option ℕ
top₁ nil2 = none
top₁ (cons2 nil1 t) = none
top₁ (cons2 (cons1 a u s) t) = some a

-- "if v = [v_1 .. v_ℓ]_k then u :_k v = [u v_1 .. v_ℓ]_k"
abbrev pub ◌:₂◌ : Stack1 → Stack2 → Stack2
u :₂ v = cons2 u v

-- "if v = [v_1 .. v_ℓ]_{k'} with k' > k, u :_k v = [u :_k v_1, .., v_ℓ]_{k'}"; none where v has no v_1
abbrev pub ◌:₁◌ : Character → Stack2 → Option Stack2
c :₁ nil2 = none
c :₁ cons2 s t = some (cons2 (cons1 c.symbol c.annotation s) t)

-- ---- the operations

-- 𝒪₂; the last three stand for push_b^1, push_b^2 and rew_b
pub data Published : Type 0 where
  pop₁ pop₂ push₂ collapse₁ collapse₂ : Published
  push¹ push² rew : ℕ → Published

-- The operation takes the first stack to the second: a constructor for each equation of the list "1. We set .." to "5. We set ..".
pub data Performs : Published → Stack2 → Stack2 → Type 0 where
  -- "pop_k(u :_k v) = v"
  pops₁ : (c : Character) {v w : Stack2} → c :₁ v ≡ some w → Performs pop₁ w v
  pops₂ : (u : Stack1) {v w : Stack2} → u :₂ v ≡ w → Performs pop₂ w v
  -- "push_k(u :_k v) = u :_k u :_k v"
  pushes₂ : (u : Stack1) (v : Stack2) {w w' : Stack2} → u :₂ v ≡ w → u :₂ u :₂ v ≡ w' → Performs push₂ w w'
  -- "collapse_k(a^u' :_1 u :_(k+1) v) = u' :_(k+1) v", where u' is of order k, "and n > k ≥ 1"
  collapses₁ : (a : ℕ) (u' u : Stack1) (v : Stack2) {w w' : Stack2}
      → a annotated of1 u' :₁ u :₂ v ≡ some w → u' :₂ v ≡ w' → Performs collapse₁ w w'
  -- "and collapse_n(a^u :_1 v) = u when u is order-n"
  collapses₂ : (a : ℕ) (v : Stack2) {u w : Stack2} → a annotated of2 u :₁ v ≡ some w → Performs collapse₂ w u
  -- "push_b^k(w) = b^u :_1 w where u = top_{k+1}(pop_k(w))"
  pushes¹ : {b : ℕ} (u : Stack1) {v w w' : Stack2}
      → Performs pop₁ w v → top₂ v ≡ u → b annotated of1 u :₁ w ≡ some w' → Performs (push¹ b) w w'
  pushes² : {b : ℕ} (u : Stack2) {v w w' : Stack2}
      → Performs pop₂ w v → top₃ v ≡ u → b annotated of2 u :₁ w ≡ some w' → Performs (push² b) w w'
  -- "rew_b(a^u :_1 v) = b^u :_1 v"
  rewrites : (a : ℕ) {b : ℕ} (u : Annotation) (v : Stack2) {w w' : Stack2}
      → a annotated u :₁ v ≡ some w → b annotated u :₁ v ≡ some w' → Performs (rew b) w w'

-- ---- Definition 2

-- (p, a, o, p')
pub record PublishedRule : Type 0 where
  pub control : ℕ
  pub symbol : ℕ
  pub operation : Published
  pub next : ℕ

-- "We write ⟨p,w⟩ → ⟨p',w'⟩ to denote a transition from a rule (p,a,o,p') with top_1(w) = a and w' = o(w)."
pub record Transition (ρ : PublishedRule) (c d : Configuration) : Type 0 where
  pub from_control : c.control ≡ ρ.control
  pub top_symbol : top₁ c.stack ≡ some ρ.symbol
  pub performs : Performs ρ.operation c.stack d.stack
  pub to_control : d.control ≡ ρ.next

-- a finite sequence of transitions from rules of the list
pub data Transitions (rules : List PublishedRule) : Configuration → Configuration → Type 0 where
  nothing : {c : Configuration} → Transitions rules c c
  and_then : {c d e : Configuration} (ρ : PublishedRule)
      → Memᴰ ρ rules → Transition ρ c d → Transitions rules d e → Transitions rules c e

-- ---- document 01's operations and rules as published ones

unfoldable pub published : Operation → Published
published (rewrite b) = rew b
published (push1 b) = push¹ b
published (push2 b) = push² b
published copy = push₂
published pop1 = pop₁
published pop2 = pop₂
published collapse1 = collapse₁
published collapse2 = collapse₂

unfoldable pub published_rule : Rule → PublishedRule
published_rule ρ =
    record {
      control = ρ.control;
      symbol = ρ.symbol;
      operation = published ρ.operation;
      next = ρ.next;
    }
