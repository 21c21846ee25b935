-- The starts of a body, and what is asked of them.
-- Assumes nothing.
pub mod Laws
use Rattle.std.specs.Prelude.{ℕ, ◌*◌, ◌≤◌, ◌<◌, List, length}
use Rattle.replies.specs.declared.Acceptance.{Acceptance}
use Rattle.files.specs.Start.{Start, start_of}
use Rattle.bytes_in.specs.Records.{record_at}
use Rattle.acceptance_words.specs.Rows.{round_in}

-- since when a start is accepted, by these words of the file's cells
unfoldable pub start_round : List ℕ → Start → Acceptance
start_round rounds x = round_in rounds x.root x.control

-- The starts are in the body; each names a state below 64 and one of so many cells.
pub record StartsStand (n : ℕ) (body : List ℕ) (cells : ℕ) : Type 0 where
  pub starts_lent : n * 3 ≤ length body
  pub controls_small : (i : ℕ) → i < n → (start_of (record_at 3 i body)).control < 64
  pub roots_there : (i : ℕ) → i < n → (start_of (record_at 3 i body)).root < cells
