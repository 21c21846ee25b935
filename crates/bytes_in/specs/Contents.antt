-- Tables of contents, line by line.
-- Assumes nothing.
pub mod Laws
use Rattle.std.specs.Prelude.{ℕ, ◌+◌, ◌*◌, true, false, ◌≡◌, List, map, drop, Option, Some, None}
use Rattle.files.specs.Bytes.{Body, count_of, line_right, bodies_placed}
use Rattle.bytes_in.specs.declared.Body.{Body as BodyValue}

-- the body that a value of the code stands for
abbrev pub the_body : BodyValue → Body
the_body b = record { kind = b.kind; least = b.least; most = b.most; size = b.size }

-- where the body after that of line n begins, which itself begins at the offset, or none where the line is wrong
unfoldable pub next_body : List ℕ → ℕ → ℕ → Body → Option ℕ
next_body file n offset b = elim (line_right file n offset b) [ true ↦ Some (offset + count_of file n * b.size) | false ↦ None ]

-- the bodies that a table stands for
abbrev pub the_bodies : List BodyValue → List Body
the_bodies table = map the_body table

-- the bodies from line i on are placed, which says the same as that all are
abbrev pub PlacedFrom : List ℕ → List BodyValue → ℕ → ℕ → ℕ → Type 0
PlacedFrom file table first i offset =
    bodies_placed file 0 first (the_bodies table) ≡ bodies_placed file i offset (the_bodies (drop i table))
