-- What holds of the words of the code.
-- Assumes nothing.
use Rattle.std.specs.Prelude.{Bool, ◌≡◌, eqb}
use Rattle.std.proofs.Math.Bool.{true, false, ◌&&◌, and-true}
use Rattle.std.proofs.Math.Path.{refl, ap₂}
use Rattle.std.proofs.Common.{◌∙◌}
use Rattle.std.proofs.Math.Option.{none, some}
use mathlib.Core.List.{[], ◌∷◌}
use borrow.Author.Tests.{eq-eqb, ne_eqb}
use Rattle.words.specs.Sets.{part_of}
use Rattle.words.specs.Order.{same}
use Rattle.automata.specs.Derivation.{Result, Joins}
use Rattle.first_reading.specs.First.{only_if}
use Rattle.first_reading.specs.Search.{joins_key, wanted, within}
use Rattle.first_reading.specs.Search.Laws.{same_cons}

-- ---- joins that are parts

module _ (x : Result) (k : Joins) where
  parts : (u v : Bool) → part_of k.B x.B ≡ u → part_of k.R x.R ≡ v → within x (some k) ≡ only_if (u && v) (some k)
  unfolding within
  parts u v e f = ap₂ (λ (s t : Bool). only_if (s && t) (some k)) e f

  pub within_no_B : part_of k.B x.B ≡ false → within x (some k) ≡ none
  unfolding only_if
  within_no_B e = parts false (part_of k.R x.R) e refl

  pub within_no_R : part_of k.B x.B ≡ true → part_of k.R x.R ≡ false → within x (some k) ≡ none
  unfolding only_if
  within_no_R e f = parts true false e f

  pub within_yes : part_of k.B x.B ≡ true → part_of k.R x.R ≡ true → within x (some k) ≡ some k
  unfolding only_if
  within_yes e f = parts true true e f

-- ---- the joins wanted

module _ (j : Joins) (x : Result) where
  pub wanted_order : (j.order ≡ x.order → ⊥) → same (joins_key j) (wanted x) ≡ false
  unfolding joins_key wanted same
  wanted_order h = rw (ne_eqb j.order x.order h, same)

  pub wanted_B : j.order ≡ x.order → (j.B ≡ x.B → ⊥) → same (joins_key j) (wanted x) ≡ false
  unfolding joins_key wanted same
  wanted_B e h = rw (eq-eqb j.order x.order e, ne_eqb j.B x.B h, same)

  pub wanted_R : j.order ≡ x.order → j.B ≡ x.B → same (joins_key j) (wanted x) ≡ eqb j.R x.R
  unfolding joins_key wanted same
  wanted_R e f =
      same_cons j.order x.order (j.B ∷ j.R ∷ []) (x.B ∷ x.R ∷ [])
      ∙ ap₂ ◌&&◌ (eq-eqb j.order x.order e) (same_cons j.B x.B (j.R ∷ []) (x.R ∷ []) ∙ ap₂ ◌&&◌ (eq-eqb j.B x.B f) (same_cons j.R x.R [] []))
      ∙ and-true (eqb j.R x.R)
