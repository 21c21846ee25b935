-- What the searches of the code answer: whether they succeed, and the words that they leave in a slice.
-- Assumes nothing.
pub mod Laws
use Rattle.std.specs.Prelude.{ℕ, ◌≤◌, Bool, ◌≡◌, List, [], ◌∷◌, length, set}
use Rattle.std.proofs.Math.Option.{Option, none, some}
use Rattle.first_reading.specs.First.{is_some, first_below}

-- the words with these numbers for these states
unfoldable pub written_all : List ℕ → List ℕ → List ℕ → List ℕ
written_all [] ns ws = ws
written_all (q ∷ qs) [] ws = ws
written_all (q ∷ qs) (n ∷ ns) ws = set (written_all qs ns ws) q n

module _ {B : Type 0} where
  -- the words after a search: w says how a success is written, and without one nothing is
  unfoldable pub written_by : (B → List ℕ → List ℕ) → Option B → List ℕ → List ℕ
  written_by w none ws = ws
  written_by w (some y) ws = w y ws

  -- A search for o answers t and makes the words ws of ws₀.
  pub record Answer (o : Option B) (w : B → List ℕ → List ℕ) (t : Bool) (ws₀ ws : List ℕ) : Type 0 where
    pub success : t ≡ is_some o
    pub words : ws ≡ written_by w o ws₀

  -- A search for o answers t, and makes es of es₀ in one slice and ms of ms₀ in another.
  pub record Answers (o : Option B) (we wm : B → List ℕ → List ℕ) (t : Bool) (es₀ es ms₀ ms : List ℕ) : Type 0 where
    pub edges : Answer o we t es₀ es
    pub moves : Answer o wm t ms₀ ms

  -- A loop over the numbers below n has come to i: the search f has not succeeded.
  pub record NotFoundBelow (n : ℕ) (f : ℕ → Option B) (i : ℕ) : Type 0 where
    pub below : i ≤ n
    pub fails : first_below i f ≡ none

-- a slice is as it was
pub record Unchanged (ws₀ ws : List ℕ) : Type 0 where
  pub same : ws ≡ ws₀
  pub long : length ws ≡ length ws₀
