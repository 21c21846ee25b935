-- One automaton contains another: it has its inner edges and entries, and its moves, where entries are compared by (p, S) and not by
-- number.
-- Assumes nothing.
pub mod Laws
use Rattle.std.specs.Prelude.{ℕ, zero, suc, ◌<◌, ◌≡◌}
use Rattle.std.proofs.Math.Option.{some}
use mathlib.Core.List.{Memᴰ}
use Rattle.words.proofs.Sets.Laws.{Has, All}
use Rattle.automata.specs.Automaton.{Automaton, Move, Edge, Entry, entry_at}

-- ---- the same state, set and move

-- X holds of each member of a and some member of b, and the other way
pub record Matched (X : ℕ → ℕ → Type 0) (a b : ℕ) : Type 0 where
  pub forth : All a (λ n. (m : ℕ) × Has b m × X n m)
  pub back : All b (λ m. (n : ℕ) × Has a n × X n m)

module _ (A C : Automaton) where
  -- order-1 state r of A and s of C are one inner state, or are entries of one (p, S)
  pub data Same (r s : ℕ) : Type 0 where
    inner : r < A.J → s ≡ r → Same r s
    entry : {e : Entry} → entry_at A r ≡ some e → entry_at C s ≡ some e → Same r s

  -- the same member of annotation sets of order k: of order-1 states at order 1, of order-2 states at order 2, and none at order 0
  abbrev pub SameIn : ℕ → ℕ → ℕ → Type 0
  SameIn zero n m = ⊥
  SameIn (suc zero) n m = Same n m
  SameIn (suc (suc k)) n m = n ≡ m

  pub record SameMove (m n : Move) : Type 0 where
    pub state_same : Same m.state n.state
    pub symbol_same : n.symbol ≡ m.symbol
    pub order_same : n.order ≡ m.order
    pub annotation_same : Matched (SameIn m.order) m.B n.B
    pub rest_same : Matched Same m.R n.R

  -- C contains A
  pub record Contains : Type 0 where
    pub same_J : C.J ≡ A.J
    pub final1_in : All A.final1 (λ r. (s : ℕ) × Has C.final1 s × Same r s)
    pub final2_in : All A.final2 (Has C.final2)
    pub inner_in : (e : Edge) → Memᴰ e A.inner → Memᴰ e C.inner
    pub entries_in : (e : Entry) → Memᴰ e A.entries → Memᴰ e C.entries
    pub moves_in_holds : (m : Move) → Memᴰ m A.moves → (n : Move) × Memᴰ n C.moves × SameMove m n
