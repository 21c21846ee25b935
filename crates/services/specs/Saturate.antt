-- The service saturate.
-- Assumes nothing.
use Rattle.std.specs.Prelude.{ℕ, Bool, true, false, List, [], ◌∷◌, ◌++◌, length, eqb}
use Rattle.std.proofs.Math.Option.{Option, none, some}
use Rattle.automata.specs.Saturation.{Saturated, saturate, all_rounds}
use Rattle.replies.specs.declared.Saturation.{Saturation}
use Rattle.files.specs.Bytes.{Test, first_hit, tests_on}
use Rattle.files.specs.Case.{case_tests, own_of, rules_of}
use Rattle.services.specs.Memory.{padded, move_table, entry_table, lent}
use Rattle.words.specs.Lists.{zeros}

-- a case file and the lengths of the move and entry tables lent
pub record Lent : Type 0 where
  pub case : List ℕ
  pub moves : ℕ
  pub entries : ℕ

-- the case's table after at most n rounds, where it keeps the limits
unfoldable pub saturated : Lent → ℕ → Option Saturated
saturated x n = saturate (rules_of x.case) (lent x.moves x.entries) n (own_of x.case)

unfoldable pub too_large : Lent → ℕ → Bool
too_large x n = elim (saturated x n) [ none ↦ true | some T ↦ false ]

-- refusal 9: "9 concerns the rounds run."
unfoldable pub size_tests : {X : Type 0} → (X → Lent) → (X → ℕ) → List (Test X)
size_tests lent rounds = record { fails = λ x. too_large (lent x) (rounds x); refusal = 9 } ∷ []

-- refusals 1 to 4, 9 and 12
unfoldable pub saturate_refusal : Lent → ℕ
saturate_refusal = first_hit (tests_on (λ x. x.case) case_tests ++ size_tests (λ x. x) (λ x. all_rounds))

-- the reply, and both lent slices afterwards
pub record SaturateDone : Type 0 where
  pub reply : Saturation
  pub moves : List ℕ
  pub entries : List ℕ

-- "All zero" in a refusal, with 0 moves and 0 entries.
unfoldable pub saturate_refused : Lent → ℕ → SaturateDone
saturate_refused x n =
    record { reply = record { code = n; moves = 0; entries = 0 }; moves = zeros x.moves; entries = zeros x.entries }

-- "Saturate fills a move table .. and an entry table ..; only whole records count, the rest is zero."
unfoldable pub saturate_filled : Lent → Saturated → SaturateDone
saturate_filled x T =
    record {
      reply = record { code = 0; moves = length T.table.moves; entries = length T.table.entries };
      moves = padded x.moves (move_table T.table);
      entries = padded x.entries (entry_table T.table);
    }

unfoldable pub saturate_answer : Lent → ℕ → SaturateDone
saturate_answer x n = elim (eqb n 0) [
  | true ↦ elim (saturated x all_rounds) [ none ↦ saturate_refused x 9 | some T ↦ saturate_filled x T ]
  | false ↦ saturate_refused x n
]

-- saturate(case, moves, entries): all rounds
unfoldable pub saturate_service : Lent → SaturateDone
saturate_service x = saturate_answer x (saturate_refusal x)
