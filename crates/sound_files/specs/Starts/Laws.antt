-- What the starts of a body name.
-- Assumes nothing.
use Rattle.std.specs.Prelude.{ℕ, ◌<◌, ◌≡◌, List}
use Rattle.std.proofs.Common.{ap, sym, subst}
use Rattle.files.specs.Start.{Start, start_of}
use Rattle.bytes_in.specs.Records.{record_at}
use Rattle.sound_files.specs.Starts.{StartsStand}

-- start number i, as it was read, names a cell and a state
pub start_stands : {n cells : ℕ} {body : List ℕ} {i : ℕ} {x : Start} → StartsStand n body cells → i < n → x ≡ start_of (record_at 3 i body)
    → (x.root < cells) × (x.control < 64)
start_stands {cells = cells} {i = i} h l e = (
  subst (λ (k : ℕ). k < cells) (ap (λ (y : Start). y.root) (sym e)) (h.roots_there i l),
  subst (λ (k : ℕ). k < 64) (ap (λ (y : Start). y.control) (sym e)) (h.controls_small i l),
)
