-- The number of an entry [p,S], and the entries with [p,S].
-- Assumes nothing.
use Rattle.std.specs.Prelude.{ℕ, suc, ◌+◌, ◌≤◌, ◌<◌, true, false, ◌&&◌, ◌≡◌, refl, ◌⊎◌, length, get_or, eqb}
use Rattle.std.proofs.lemmas.Bool.{false≢true}
use Rattle.std.proofs.Common.{ap, ap₂, sym, ◌∙◌, inl, inr, ⊎_elim, arith, length-append, eqb-true, eq-eqb}
use Rattle.std.proofs.Math.Logic.{⊎_map}
use Rattle.std.proofs.Math.Option.{some}
use mathlib.Core.List.Memᴰ
use mathlib.Core.List.{List, [], ◌∷◌, ◌++◌, Memᴰ, append-nil}
use Rattle.std.proofs.Math.ListN.{get_elem?}
use Rattle.std.proofs.Math.Seq.{get_or-append_seam}
use Rattle.words.specs.Laws.Tests.{by_test, and_left, and_right}
use Rattle.words.specs.Lists.Laws.{get_elem?_some, get_elem?_below, get_or_in, last_or_before}
use Rattle.automata.specs.Automaton.{Entry, no_entry, entry_key}
use Rattle.automata.specs.Automaton.Laws.{entry, entry_key_eq}
use Rattle.automata.specs.Saturation.{is_entry, entry_number, with_entry}
use Rattle.automata.specs.Facts.{Once}

-- ---- the number of an entry

pub is_entry_out : (p S : ℕ) (e : Entry) → is_entry p S e ≡ true → e ≡ entry p S
unfolding is_entry
is_entry_out p S e h =
    ap₂ entry
    (eqb-true e.control p (and_left (eqb e.control p) (eqb e.S S) h))
    (eqb-true e.S S (and_right (eqb e.control p) (eqb e.S S) h))

pub is_entry_in : (p S : ℕ) → is_entry p S (entry p S) ≡ true
unfolding is_entry
is_entry_in p S = ap₂ ◌&&◌ (eq-eqb p p refl) (eq-eqb S S refl)

-- [p,S] is not there, or is at its number
pub data EntryPlaced (p S : ℕ) (es : List Entry) : Type 0 where
  new : ((e : Entry) → Memᴰ e es → is_entry p S e ≡ false) → with_entry p S es ≡ es ++ entry p S ∷ [] → entry_number p S es ≡ length es → EntryPlaced p S es
  old : with_entry p S es ≡ es → get_elem? es (entry_number p S es) ≡ some (entry p S) → EntryPlaced p S es

pub placed : (p S : ℕ) (es : List Entry) → EntryPlaced p S es
unfolding with_entry entry_number
placed p S [] = new (λ e j. absurd (Memᴰ.not-nil j)) refl refl
placed p S (e ∷ es) = by_test (is_entry p S e) (λ h. old (rw (with_entry, h)) (rw (entry_number, h) (ap some (is_entry_out p S e h)))) (λ h. go h (placed p S es))
  where
    go : is_entry p S e ≡ false → EntryPlaced p S es → EntryPlaced p S (e ∷ es)
    go h (new n w k) = new
        (λ x j. ⊎_elim (λ z. ap (is_entry p S) z ∙ h) (λ i. n x i) (Memᴰ.cases_cons j))
        (rw (with_entry, h) (ap (λ (l : List Entry). e ∷ l) w))
        (rw (entry_number, h) (ap suc k))
    go h (old w k) = old (rw (with_entry, h) (ap (λ (l : List Entry). e ∷ l) w)) (rw (entry_number, h) k)

-- the entries that with_entry appends
pub with_entry_appends : (p S : ℕ) (es : List Entry) → (more : List Entry) × (with_entry p S es ≡ es ++ more)
with_entry_appends p S es = go (placed p S es)
  where
    go : EntryPlaced p S es → (more : List Entry) × (with_entry p S es ≡ es ++ more)
    go (new n w k) = (entry p S ∷ [], w)
    go (old w k) = ([], w ∙ sym (append-nil es))

pub with_entry_grows : (p S : ℕ) (es : List Entry) → length es ≤ length (with_entry p S es)
with_entry_grows p S es =
    let (more, e) = with_entry_appends p S es in
    let l : length (with_entry p S es) ≡ length es + length more = ap length e ∙ length-append es more in
    omega arith

pub entry_number_at : (p S : ℕ) (es : List Entry) → get_elem? (with_entry p S es) (entry_number p S es) ≡ some (entry p S)
entry_number_at p S es = go (placed p S es)
  where
    go : EntryPlaced p S es → get_elem? (with_entry p S es) (entry_number p S es) ≡ some (entry p S)
    go (new n w k) =
        let h : length es < length (es ++ entry p S ∷ []) = rw (length-append es (entry p S ∷ [])) (omega arith) in
        rw (w, k) (get_elem?_below (es ++ entry p S ∷ []) (length es) no_entry h ∙ ap some (get_or-append_seam es (entry p S) [] no_entry))
    go (old w k) = rw w k

pub entry_number_below : (p S : ℕ) (es : List Entry) → entry_number p S es < length (with_entry p S es)
entry_number_below p S es = (get_elem?_some (with_entry p S es) (entry_number p S es) (entry_number_at p S es)).0

pub with_entry_out : (p S : ℕ) (es : List Entry) {e : Entry} → Memᴰ e (with_entry p S es) → Memᴰ e es ⊎ (e ≡ entry p S)
with_entry_out p S es {e} j = go (placed p S es)
  where
    go : EntryPlaced p S es → Memᴰ e es ⊎ (e ≡ entry p S)
    go (new n w k) = ⊎_map (λ i. i) Memᴰ.eq_of_singleton (Memᴰ.append_cases es (rw w at j))
    go (old w k) = inl (rw w at j)

-- ---- each entry once

pub once_append : (p S : ℕ) (es : List Entry) → ((e : Entry) → Memᴰ e es → is_entry p S e ≡ false) → Once es → Once (es ++ entry p S ∷ [])
once_append p S es n h i j li lj e = go (last_or_before es (entry p S) i no_entry li) (last_or_before es (entry p S) j no_entry lj)
  where
    At : ℕ → Type 0
    At k = ((k < length es) × (get_or (es ++ entry p S ∷ []) k no_entry ≡ get_or es k no_entry)) ⊎ ((k ≡ length es) × (get_or (es ++ entry p S ∷ []) k no_entry ≡ entry p S))

    apart : (k : ℕ) → k < length es → entry_key (get_or es k no_entry) ≡ entry_key (entry p S) → ⊥
    apart k l z = false≢true (sym (n (get_or es k no_entry) (get_or_in es k no_entry l)) ∙ ap (is_entry p S) (entry_key_eq (get_or es k no_entry) (entry p S) z) ∙ is_entry_in p S)

    go : At i → At j → i ≡ j
    go (inl x) (inl y) = h i j x.0 y.0 (ap entry_key (sym x.1) ∙ e ∙ ap entry_key y.1)
    go (inl x) (inr y) = absurd (apart i x.0 (ap entry_key (sym x.1) ∙ e ∙ ap entry_key y.1))
    go (inr x) (inl y) = absurd (apart j y.0 (ap entry_key (sym y.1) ∙ sym e ∙ ap entry_key x.1))
    go (inr x) (inr y) = x.0 ∙ sym y.0

pub with_entry_once : (p S : ℕ) (es : List Entry) → Once es → Once (with_entry p S es)
with_entry_once p S es h = go (placed p S es)
  where
    go : EntryPlaced p S es → Once (with_entry p S es)
    go (new n w k) = rw w (once_append p S es n h)
    go (old w k) = rw w h
