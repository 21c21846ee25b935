-- The refusal of a case is that of the first of its five tests that fails.
-- Assumes nothing.
use Rattle.std.specs.Prelude.{ℕ, Bool, true, false, not, ◌≡◌, refl, List}
use Rattle.files.specs.Bytes.{first_hit}
use Rattle.files.specs.Codes.{codes_right}
use Rattle.files.specs.Case.{case_placed, codes_of, head, head_right, records_right, increasing, case_tests, case_refusal}

-- the number of the first test that fails
unfoldable pub refusal_by : Bool → Bool → Bool → Bool → Bool → ℕ
refusal_by false head-right codes-right records-right ordered = 1
refusal_by true false codes-right records-right ordered = 2
refusal_by true true false records-right ordered = 12
refusal_by true true true false ordered = 3
refusal_by true true true true false = 4
refusal_by true true true true true = 0

pub refusal_is : (file : List ℕ)
    → case_refusal file ≡ refusal_by (case_placed file) (head_right (head file)) (codes_right (codes_of file)) (records_right file) (increasing file)
unfolding case_refusal case_tests first_hit refusal_by
refusal_is file =
    go (case_placed file) (head_right (head file)) (codes_right (codes_of file)) (records_right file) (increasing file)
  where
    go : (p h c r s : Bool)
        → elim (not p) [
          | true ↦ 1
          | false ↦ elim (not h) [
            | true ↦ 2
            | false ↦ elim (not c) [ true ↦ 12 | false ↦ elim (not r) [ true ↦ 3 | false ↦ elim (not s) [ true ↦ 4 | false ↦ 0 ] ] ]
          ]
        ]
        ≡ refusal_by p h c r s
    go false h c r s = refl
    go true false c r s = refl
    go true true false r s = refl
    go true true true false s = refl
    go true true true true false = refl
    go true true true true true = refl
