-- "The work ends when a round adds none." It always does: the tables after rounds have only so many entries and moves, whatever the number of
-- rounds, so that some round adds none, and the table before it is closed.
-- Assumes nothing.
use Rattle.std.specs.Prelude.{ℕ, zero, suc, ◌+◌, ◌*◌, ◌^◌, ◌≤◌, ◌<◌, ◌≡◌, refl, length}
use Rattle.std.proofs.Common.{ap, sym, ◌∙◌, subst, le_trans, zero-add, add-zero, arith}
use mathlib.Core.List.{List, Memᴰ}
use Rattle.words.specs.Laws.Numbers.{paired_below, paired_parts, stops, below_suc}
use Rattle.words.specs.Lists.Once.{once_shorter, below, length_below, below_in}
use Rattle.words.proofs.Sets.Laws.{all_below}
use Rattle.words.specs.Laws.Tests.{by_test}
use Rattle.stacks.specs.System.{Rule}
use Rattle.automata.specs.Automaton.{Automaton, Move, Entry, no_move, no_entry, entry_key, move_at}
use Rattle.automata.specs.Saturation.{table_after, adds_move}
use Rattle.automata.specs.Facts.{RuleFacts, MoveFacts, TableFacts, RuleBounded, MoveBounded, Bounded, of_order, states, Closed}
use Rattle.automata.specs.Facts.Laws.{moves_grow}
use Rattle.rounds.specs.Bounded.{after_bounded}
use Rattle.rounds.specs.Kept.{after_facts}
use Rattle.rounds.specs.Once.{after_moves_once}
use Rattle.rounds.specs.Rounds.{after_suc, after_next, own_extends, still_closed}
use Rattle.rounds.specs.LeastClosed.{MovesOnce}
use Rattle.rounds.specs.Limits.{Adds, adds_some, nothing_closed}

-- ---- entries

-- an entry as one number, where S is below 2 ^ Q
abbrev entry_code : ℕ → Entry → ℕ
entry_code Q e = e.control * 2 ^ Q + e.S

entry_code_once : (Q : ℕ) {d e : Entry} → d.S < 2 ^ Q → e.S < 2 ^ Q → entry_code Q d ≡ entry_code Q e → d ≡ e
entry_code_once Q {d} {e} h k z =
    let (p, q) = paired_parts (2 ^ Q) d.control d.S e.control e.S h k z in
    λ i. record { control = p i; S = q i }

-- where there are P controls and Q order-2 states, there are at most P * 2 ^ Q entries
pub entries_few : {P Q K : ℕ} {A : Automaton} → TableFacts P A → Bounded Q K A → length A.entries ≤ P * 2 ^ Q
entries_few {P} {Q} {K} {A} F G =
    subst (λ (n : ℕ). length A.entries ≤ n) (length_below (P * 2 ^ Q))
    (once_shorter (λ (e : Entry) (n : ℕ). (e.S < 2 ^ Q) × (entry_code Q e ≡ n)) no_entry A.entries (below (P * 2 ^ Q))
    (λ i j l m e. F.entry_once i j l m (ap entry_key e))
    (λ e i.
    let s : e.S < 2 ^ Q = all_below Q e.S (G.entry_below e i) in
    let l : entry_code Q e < P * 2 ^ Q = paired_below P (2 ^ Q) e.control e.S (F.entry_control_holds e i) s in
    (entry_code Q e, below_in (P * 2 ^ Q) (entry_code Q e) l, (s, refl)))
    (λ d e n x y. entry_code_once Q x.0 y.0 (x.1 ∙ sym y.1)))

-- ---- moves

-- of no order are there more states than of both
of_order_both : (Q n k : ℕ) → of_order Q n k ≤ n + Q
of_order_both Q n zero = omega arith
of_order_both Q n (suc zero) = omega arith
of_order_both Q n (suc (suc k)) = omega arith

-- the parts of a move are below the numbers of states, of symbols, of orders and of sets, where there are N order-1 states
record Small (Q K N : ℕ) (m : Move) : Type 0 where
  state_small : m.state < N
  symbol_small : m.symbol < K
  order_small : m.order < 3
  B-small : m.B < 2 ^ (N + Q)
  R-small : m.R < 2 ^ N

small : {Q K n N : ℕ} {m : Move} → n ≤ N → MoveFacts n m → MoveBounded Q K n m → Small Q K N m
small {Q} {K} {n} {N} {m} l f g =
    record {
      state_small = le_trans f.state_exists l;
      symbol_small = g.symbol_below;
      order_small = let h : m.order ≤ 2 = f.order_small in omega arith;
      B-small = all_below (N + Q) m.B (λ q i.
          let h : q < of_order Q n m.order = g.annotation_below q i in
          let k : of_order Q n m.order ≤ n + Q = of_order_both Q n m.order in
          omega arith);
      R-small = all_below N m.R (λ r i. le_trans (g.rest_below r i) l);
    }

-- a move as one number
abbrev move_code : ℕ → ℕ → ℕ → Move → ℕ
move_code Q K N m = (((m.state * K + m.symbol) * 3 + m.order) * 2 ^ (N + Q) + m.B) * 2 ^ N + m.R

-- the number of such moves
abbrev most_moves : ℕ → ℕ → ℕ → ℕ
most_moves Q K N = N * K * 3 * 2 ^ (N + Q) * 2 ^ N

code_below : {Q K N : ℕ} {m : Move} → Small Q K N m → move_code Q K N m < most_moves Q K N
code_below {Q} {K} {N} {m} h =
    paired_below _ (2 ^ N) _ m.R
    (paired_below _ (2 ^ (N + Q)) _ m.B
    (paired_below _ 3 _ m.order (paired_below N K m.state m.symbol h.state_small h.symbol_small) h.order_small)
    h.B-small)
    h.R-small

code_once : {Q K N : ℕ} {m n : Move} → Small Q K N m → Small Q K N n → move_code Q K N m ≡ move_code Q K N n → m ≡ n
code_once {Q} {K} {N} {m} {n} h k e =
    let (a, r) = paired_parts (2 ^ N) _ m.R _ n.R h.R-small k.R-small e in
    let (b, s) = paired_parts (2 ^ (N + Q)) _ m.B _ n.B h.B-small k.B-small a in
    let (c, t) = paired_parts 3 _ m.order _ n.order h.order_small k.order_small b in
    let (d, u) = paired_parts K m.state m.symbol n.state n.symbol h.symbol_small k.symbol_small c in
    λ i. record { state = d i; symbol = u i; order = t i; B = s i; R = r i }

-- at most so many moves, where there are P controls, Q order-2 states, K symbols and J inner order-1 states
unfoldable pub move_bound : ℕ → ℕ → ℕ → ℕ → ℕ
move_bound P Q K J = most_moves Q K (J + P * 2 ^ Q)

pub moves_few : {P Q K : ℕ} {A : Automaton} → TableFacts P A → Bounded Q K A → MovesOnce A → length A.moves ≤ move_bound P Q K A.J
unfolding move_bound move_at
moves_few {P} {Q} {K} {A} F G once =
    subst (λ (n : ℕ). length A.moves ≤ n) (length_below (most_moves Q K N))
    (once_shorter (λ (m : Move) (n : ℕ). Small Q K N m × (move_code Q K N m ≡ n)) no_move A.moves (below (most_moves Q K N))
    once
    (λ m i. (move_code Q K N m, below_in (most_moves Q K N) (move_code Q K N m) (code_below (at m i)), (at m i, refl)))
    (λ m k n x y. code_once x.0 y.0 (x.1 ∙ sym y.1)))
  where
    N : ℕ
    N = A.J + P * 2 ^ Q

    at : (m : Move) → Memᴰ m A.moves → Small Q K N m
    at m i =
        let k : length A.entries ≤ P * 2 ^ Q = entries_few F G in
        let h : states A ≤ N = omega arith in
        small h (F.move_facts m i) (G.move_below m i)

-- ---- the rounds

module _ {P Q K : ℕ} (rules : List Rule) (rule_facts : (ρ : Rule) → Memᴰ ρ rules → RuleFacts P ρ)
    (rule-bounded : (ρ : Rule) → Memᴰ ρ rules → RuleBounded Q K ρ) {own : Automaton} (F : TableFacts P own) (G : Bounded Q K own)
    (once : MovesOnce own) where
  -- no table after rounds has more moves
  pub after_moves_few : (n : ℕ) → length (table_after rules own n).moves ≤ move_bound P Q K own.J
  after_moves_few n =
      subst (λ (J : ℕ). length (table_after rules own n).moves ≤ move_bound P Q K J) (own_extends rules own n).same_J
      (moves_few (after_facts rules rule_facts F n) (after_bounded rules rule-bounded G n) (after_moves_once rules rule_facts F once n))

  -- "The work ends": after some number of rounds the table is closed
  pub work_ends : (n : ℕ) × Closed rules (table_after rules own n)
  work_ends =
      let (n, e) = stops (λ n. length (table_after rules own n).moves) (move_bound P Q K own.J) (λ n. moves_grow (after_next rules own n)) after_moves_few in
      (n, still_closed rules (table_after rules own n) (rw (after_suc rules own n) at e))

-- "The rounds that added something": where some table after rounds is closed, the first rounds each add a move, and the round after them adds
-- none.
pub rounds_end : (rules : List Rule) (own : Automaton) (n : ℕ) → Closed rules (table_after rules own n)
    → (m : ℕ) × ((k : ℕ) → k < m → Adds rules own k) × Closed rules (table_after rules own m)
rounds_end rules own n c = go n 0 (λ k l. absurd (omega arith)) (subst (λ (m : ℕ). Closed rules (table_after rules own m)) (sym (zero-add n)) c)
  where
    -- after m rounds that each add a move, and k rounds before a closed table
    go : (k m : ℕ) → ((i : ℕ) → i < m → Adds rules own i) → Closed rules (table_after rules own (m + k))
        → (r : ℕ) × ((i : ℕ) → i < r → Adds rules own i) × Closed rules (table_after rules own r)
    go zero m before h = (m, before, subst (λ (i : ℕ). Closed rules (table_after rules own i)) (add-zero m) h)
    go (suc k) m before h =
        by_test (adds_move rules (table_after rules own m))
        (λ t.
        let e : m + suc k ≡ suc m + k = omega arith in
        let g : Adds rules own m = rw (after_suc rules own m) (adds_some rules (table_after rules own m) t) in
        go k (suc m) (below_suc (Adds rules own) m before g) (subst (λ (i : ℕ). Closed rules (table_after rules own i)) e h))
        (λ t. (m, before, nothing_closed rules (table_after rules own m) t))
