-- The head of a case file whose bodies are in place, and its entries.
-- Assumes nothing.
use Rattle.std.specs.Prelude.{ℕ, ◌+◌, ◌*◌, ◌<◌, ◌≤◌, ◌≡◌, List, [], ◌∷◌, ◌++◌, map, length, get_or, take}
use Rattle.std.proofs.Common.{ap, ap₂, sym, ◌∙◌, length-append, take_all, arith, lt-ltb, le-ltb}
use Rattle.std.proofs.lemmas.List.{map-append}
use Rattle.words.specs.Lists.{only}
use Rattle.words.specs.Lists.Laws.{only_append}
use Rattle.files.specs.Bytes.{count_of, offset_of, records}
use Rattle.files.specs.Case.{Head, head_of, head, EdgeBytes, edge_bytes, entries_of}
use Rattle.files.proofs.Case.Laws.{CasePlaces}
use Rattle.bytes_in.specs.Records.{record_at, body_of}
use Rattle.bytes_in.specs.Records.Laws.{length_body, records_here, map_more}

-- ---- the head

pub head_length : (file part : List ℕ) → CasePlaces file → part ≡ body_of file 0 14 → length part ≡ 14
head_length file part p e =
    let ends : offset_of file 0 + count_of file 0 * 14 ≤ length file = omega arith in
    let l : length part ≡ count_of file 0 * 14 = ap length e ∙ length_body file 0 14 ends in
    omega arith

pub head_here : (file part : List ℕ) → CasePlaces file → part ≡ body_of file 0 14 → head_of part ≡ head file
unfolding head records
head_here file part p e =
    let all : take 14 part ≡ part = take_all 14 part (omega (arith, head_length file part p e)) in
    ap head_of (sym all ∙ ap (λ (xs : List (List ℕ)). get_or xs 0 []) (records_here file 0 14 part 1 e (sym p.head_count)))

-- ---- entries

pub entries_append : (h : Head) (xs ys : List EdgeBytes) → entries_of h (xs ++ ys) ≡ entries_of h xs ++ entries_of h ys
unfolding entries_of
entries_append h xs ys = simp (only_append, map-append)

pub entry_yes : (h : Head) (x : EdgeBytes) → x.state < h.P → entries_of h (x ∷ []) ≡ record { control = x.state; S = x.S } ∷ []
unfolding entries_of only
entry_yes h x l = rw (only, lt-ltb _ _ l)

pub entry_no : (h : Head) (x : EdgeBytes) → h.P ≤ x.state → entries_of h (x ∷ []) ≡ []
unfolding entries_of only
entry_no h x l = rw (only, le-ltb _ _ l)

-- one edge more
pub entries_more : (h : Head) (b : List ℕ) (i count one : ℕ) (x : EdgeBytes)
    → count ≡ length (entries_of h (map edge_bytes (records i 4 b)))
    → one ≡ length (entries_of h (x ∷ []))
    → x ≡ edge_bytes (record_at 4 i b)
    → count + one ≡ length (entries_of h (map edge_bytes (records (i + 1) 4 b)))
entries_more h b i count one x e f g =
    rw (map_more edge_bytes 4 b i, entries_append, length-append)
    (ap₂ ◌+◌ e (f ∙ ap (λ (y : EdgeBytes). length (entries_of h (y ∷ []))) g))
