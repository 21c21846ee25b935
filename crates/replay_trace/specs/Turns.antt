-- The steps of a replay on lent bytes: what they come to.
-- Assumes nothing.
pub mod Laws
use Rattle.std.specs.Prelude.{ℕ, Result, Ok, Err, ◌≤◌, ◌≡◌, List, [], length, drop}
use Rattle.stacks.specs.System.{Rule}
use Rattle.automata.specs.Automaton.{Automaton}
use Rattle.replies.specs.declared.Replayed.{Replayed}
use Rattle.services.specs.Replay.{replayed}
use Rattle.replay_step.specs.declared.Place.{Place}
use Rattle.replay_step.specs.Place.{place_configuration, PlaceStands}

-- After i of the rule numbers ks the replay stands at v, and what it answers from there it answers from w, whatever the target is.
pub record TraceFollows (rules : List Rule) (most : ℕ) (ks : List ℕ) (w : Place) (bytes : List ℕ) (i : ℕ) (v : Place) (bytes' : List ℕ) : Type 0 where
  pub steps_there : i ≤ length ks
  pub same : (own : Automaton) → replayed rules own most 0 w.cells (place_configuration w bytes) ks
      ≡ replayed rules own most i v.cells (place_configuration v bytes') (drop i ks)
  pub within : v.cells ≤ most
  pub stands : PlaceStands v bytes'
  pub long : length bytes' ≡ length bytes

-- What the rule numbers ks come to from w: an answer of replay, whatever the target is, or a place after all of them.
abbrev pub TraceEnds : List Rule → ℕ → List ℕ → Place → List ℕ → Result Place Replayed → List ℕ → Type 0
TraceEnds rules most ks w bytes (Err r) bytes' = (own : Automaton) → replayed rules own most 0 w.cells (place_configuration w bytes) ks ≡ r
TraceEnds rules most ks w bytes (Ok v) bytes' = TraceFollows rules most ks w bytes (length ks) v bytes'
