-- The table after rounds is the least closed set where it is closed. Any two least closed sets keep the same limits, and where the table of a
-- round passes one, the closed table passes it.
-- Assumes nothing.
use Rattle.std.specs.Prelude.{ℕ, false, ◌≡◌, leb}
use Rattle.std.proofs.lemmas.Bool.{false≢true}
use Rattle.std.proofs.Common.{ap, sym, ◌∙◌, subst, le_of_lt as lt-le, leb-true, leb-false}
use mathlib.Core.List.{List, Memᴰ}
use Rattle.words.specs.Laws.Tests.{by_test, equal_tests}
use Rattle.stacks.specs.System.{Rule}
use Rattle.automata.specs.Automaton.{Automaton}
use Rattle.automata.specs.Saturation.{table_after, Size, within, Saturated}
use Rattle.automata.specs.Facts.{RuleFacts, TableFacts, OwnFacts, Closed}
use Rattle.rounds.specs.Rounds.{own_extends, after_extends, after_closed}
use Rattle.rounds.specs.Kept.{after_facts}
use Rattle.rounds.specs.Limits.{IsSaturated, within_part}
use Rattle.rounds.specs.Contains.{Contains}
use Rattle.rounds.specs.Contains.Laws.{contains_kept, contains_self}
use Rattle.rounds.specs.Least.{closed_contains}
use Rattle.rounds.specs.Once.{after_moves_once, within_contained}
use Rattle.rounds.specs.LeastClosed.{MovesOnce, LeastClosed}

-- ---- two least closed sets

-- each contains the other
least_contains : {rules : List Rule} {own A C : Automaton} → LeastClosed rules own A → LeastClosed rules own C → Contains A C
least_contains {C = C} a c = a.least C c.contains_own c.entries_once c.closed

-- so they keep the same limits
pub least_within : (lent : Size) {rules : List Rule} {own A C : Automaton} → LeastClosed rules own A → LeastClosed rules own C → within lent A ≡ within lent C
least_within lent {A = A} {C = C} a c =
    equal_tests (within lent A) (within lent C)
    (within_contained c.entries_once lent c.moves_once (least_contains c a))
    (within_contained a.entries_once lent a.moves_once (least_contains a c))

-- ---- the table after rounds

module _ {P : ℕ} (rules : List Rule) (rule_facts : (ρ : Rule) → Memᴰ ρ rules → RuleFacts P ρ) {own : Automaton} (F : TableFacts P own) (once : MovesOnce own) where
  -- where it is closed it is the least closed set
  pub closed_least : OwnFacts P own → (n : ℕ) → Closed rules (table_after rules own n) → LeastClosed rules own (table_after rules own n)
  closed_least O n c =
      record {
        contains_own = contains_kept (own_extends rules own n) (contains_self own F O);
        entries_once = (after_facts rules rule_facts F n).entry_once;
        moves_once = after_moves_once rules rule_facts F once n;
        closed = c;
        least = λ C d o h. closed_contains rules rule_facts F d o h n;
      }

  -- so a closed table of at most n rounds is the least closed set
  pub saturated_least : OwnFacts P own → {lent : Size} {n : ℕ} {T : Saturated} → IsSaturated rules lent own n T → Closed rules T.table → LeastClosed rules own T.table
  saturated_least O s c =
      subst (LeastClosed rules own) (sym s.after.table_is) (closed_least O s.after.rounds (subst (Closed rules) s.after.table_is c))

-- where the table after some number of rounds passes a limit, the closed table passes it
pub closed_exceeds : (rules : List Rule) (lent : Size) (own : Automaton) (n : ℕ) → Closed rules (table_after rules own n) → (m : ℕ)
    → within lent (table_after rules own m) ≡ false → within lent (table_after rules own n) ≡ false
closed_exceeds rules lent own n c m h =
    by_test (within lent (table_after rules own n))
    (λ t. absurd (false≢true (sym h ∙ by_test (leb m n)
    (λ l. within_part lent (after_extends rules own m n (leb-true m n l)) t)
    (λ l. ap (within lent) (after_closed rules own n m (lt-le (leb-false m n l)) c) ∙ t))))
    (λ t. t)
