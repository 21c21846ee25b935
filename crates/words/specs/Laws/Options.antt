-- Options: what the toolchain's library lacks.
-- Assumes nothing.
use Rattle.std.specs.Prelude.{◌≡◌, refl}
use Rattle.std.proofs.Math.Option.{Option, none, some}

-- by what an option is
pub by_option : {A : Type 0} (o : Option A) {X : Type 0} → (o ≡ none → X) → ((a : A) → o ≡ some a → X) → X
by_option none f g = f refl
by_option (some a) f g = g a refl
