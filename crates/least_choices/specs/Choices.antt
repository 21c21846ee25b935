-- Lent cells after one of them has got its choices by a pass over numbered elements, from the last to the first: for each state the number
-- that is written last remains, which is the least.
-- Assumes nothing.
pub mod Laws
use Rattle.std.specs.Prelude.{ℕ, suc, Bool, true, false, List, [], ◌∷◌}
use Rattle.cell_memory.specs.Memory.{with_choice}

-- the lent cells where cell i chooses n for state q, if the test holds
unfoldable pub choice_if : Bool → ℕ → ℕ → ℕ → List ℕ → List ℕ
choice_if true i q n cells = with_choice cells i q n
choice_if false i q n cells = cells

-- the lent cells where cell i chooses, for each state, the least number of an element of that state that is met, the first element having
-- number n; the other choices are kept
unfoldable pub least_met : {X : Type 0} → (X → ℕ) → (X → Bool) → ℕ → ℕ → List X → List ℕ → List ℕ
least_met state met i n [] cells = cells
least_met state met i n (x ∷ xs) cells = choice_if (met x) i (state x) n (least_met state met i (suc n) xs cells)
