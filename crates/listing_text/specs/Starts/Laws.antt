-- One line more, and all lines.
-- Assumes nothing.
use Rattle.std.specs.Prelude.{ℕ, ◌+◌, ◌*◌, ◌≤◌, ◌≡◌, List, length}
use Rattle.std.proofs.Math.Path.{refl, sym}
use Rattle.std.proofs.Common.{ap, ◌∙◌, add-zero, arith}
use Rattle.files.specs.Start.{Files}
use Rattle.services.specs.Listing.{start_line, start_lines}
use Rattle.text.specs.Written.{Written}
use Rattle.text.specs.Written.Laws.{written_then, written_same}
use Rattle.text.specs.Laws.Lines.{start_lines_next}
use Rattle.listing_text.specs.Starts.{Lined}

module _ {f : Files} where
  pub lined_none : (l : List ℕ) (at : ℕ) → Lined f l at 0 l at
  unfolding start_lines
  lined_none l at = record { written = record { place = sym (add-zero at); is = refl }; short = omega arith; long = refl }

  pub lined_next : {before middle after : List ℕ} {at n between end : ℕ} → Lined f before at n middle between
      → Written middle between (start_line f n) after end → end ≤ between + 66 → length after ≡ length middle → Lined f before at (n + 1) after end
  lined_next {n = n} h w e l =
      let s = h.short in
      record { written = written_same (sym (start_lines_next f n)) (written_then h.written w); short = omega arith; long = l ∙ h.long }

  -- n being the number of the starts
  pub lined_all : {before after : List ℕ} {at n m end : ℕ} → Lined f before at n after end → n ≡ m → m ≤ 64
      → Written before at (start_lines f 0 m) after end × (end ≤ at + 64 * 66)
  lined_all h e l = let s = h.short in (written_same (ap (start_lines f 0) e) h.written, omega arith)
