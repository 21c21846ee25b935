-- What holds of the collecting of results. Offered one by one, results end up as the definition of a round has them: those that are not held,
-- sorted, each once.
-- Assumes nothing.
use Rattle.std.specs.Prelude.{ℕ, ◌+◌, ◌≤◌, ◌<◌, Bool, ◌≡◌, ◌⊎◌, get_or, take, leb}
use Rattle.std.proofs.Math.Bool.{true, false, not}
use Rattle.std.proofs.Math.Path.{refl, ap, sym}
use Rattle.std.proofs.Common.{◌∙◌, subst, inl, inr, ⊎_elim, le_trans, arith, take_all, add-one}
use Rattle.std.proofs.Math.Option.{Option, some}
use mathlib.Core.List.Memᴰ
use mathlib.Core.List.{List, [], ◌∷◌, ◌++◌, Memᴰ}
use Rattle.std.proofs.Math.ListN.{length}
use borrow.Author.Tests.{leb-true, leb-false}
use Rattle.words.specs.Lists.{each, when, only, places, places_from}
use Rattle.words.specs.Lists.Laws.{only_yes, only_no, each_append, each_one, places_take}
use Rattle.words.specs.Laws.Tests.{by_test}
use Rattle.words.specs.Order.{insert, sorted, rising}
use Rattle.words.specs.Order.Laws.{insert_out, insert_in, insert_key, insert_rising, sorted_unique}
use Rattle.automata.specs.Automaton.{Automaton}
use Rattle.automata.specs.Derivation.{Result, result_key}
use Rattle.automata.proofs.Derivation.Laws.{result_key_eq}
use Rattle.automata.specs.Saturation.{held}
use Rattle.tables.specs.Insertion.Laws.{length_insert}
use Rattle.tables.specs.Pending.{limited, insert_within, pending_in}
use Rattle.tables.specs.Pending.Laws.{limited_fits, limited_over, pending_over}
use Rattle.offers.specs.Offers.{offer, offer_all, Collects}

-- ---- results offered one after another

module _ (leave : Result → Bool) (room : ℕ) where
  pub offer_all_append : (kept : Option (List Result)) (xs ys : List Result) → offer_all leave room kept (xs ++ ys) ≡ offer_all leave room (offer_all leave room kept xs) ys
  unfolding offer_all
  offer_all_append kept [] ys = refl
  offer_all_append kept (x ∷ xs) ys = offer_all_append (offer leave room kept x) xs ys

  pub offer_left : (kept : Option (List Result)) (x : Result) → leave x ≡ true → offer leave room kept x ≡ kept
  unfolding offer
  offer_left kept x e = rw (offer, e)

  pub offer_kept : (kept : Option (List Result)) (x : Result) → leave x ≡ false → offer leave room kept x ≡ insert_within room x kept
  unfolding offer
  offer_kept kept x e = rw (offer, e)

  pub offer_none : (x : Result) → offer leave room Option.none x ≡ Option.none
  unfolding offer insert_within
  offer_none x = by_test (leave x) (λ e. rw (offer, e)) (λ e. rw (offer, e))

  pub offer_all_none : (xs : List Result) → offer_all leave room Option.none xs ≡ Option.none
  unfolding offer_all
  offer_all_none [] = refl
  offer_all_none (x ∷ xs) = ap (λ (o : Option (List Result)). offer_all leave room o xs) (offer_none x) ∙ offer_all_none xs

-- ---- the end, as a list that is sorted

-- l with the elements of the second list inserted, the first one first
insert_all : List Result → List Result → List Result
insert_all l [] = l
insert_all l (x ∷ xs) = insert_all (insert result_key x l) xs

length_insert_all : (l xs : List Result) → length l ≤ length (insert_all l xs)
unfolding insert_all
length_insert_all l [] = omega arith
length_insert_all l (x ∷ xs) = le_trans (length_insert result_key x l) (length_insert_all (insert result_key x l) xs)

insert_all_rising : (l xs : List Result) → rising result_key l ≡ true → rising result_key (insert_all l xs) ≡ true
unfolding insert_all
insert_all_rising l [] h = h
insert_all_rising l (x ∷ xs) h = insert_all_rising (insert result_key x l) xs (insert_rising result_key x l h)

insert_keeps : (x : Result) (l : List Result) → Memᴰ x (insert result_key x l)
insert_keeps x l = let r = insert_key result_key x l in Memᴰ.cast (sym (result_key_eq r.0 x r.2)) r.1

insert_all_left : (l xs : List Result) {y : Result} → Memᴰ y l → Memᴰ y (insert_all l xs)
unfolding insert_all
insert_all_left l [] j = j
insert_all_left l (x ∷ xs) j = insert_all_left (insert result_key x l) xs (insert_in result_key x j)

insert_all_right : {y : Result} (l : List Result) {xs : List Result} → Memᴰ y xs → Memᴰ y (insert_all l xs)
unfolding insert_all
insert_all_right {y = y} l (Memᴰ.head {x = x} {xs = xs} e) = insert_all_left (insert result_key x l) xs (Memᴰ.cast e (insert_keeps x l))
insert_all_right l (Memᴰ.tail {x = x} j) = insert_all_right (insert result_key x l) j

insert_all_out : (l xs : List Result) {y : Result} → Memᴰ y (insert_all l xs) → Memᴰ y l ⊎ Memᴰ y xs
unfolding insert_all
insert_all_out l [] j = inl j
insert_all_out l (x ∷ xs) j = ⊎_elim
    (λ i. ⊎_elim (λ e. inr (Memᴰ.head e)) (λ k. inl k) (insert_out result_key x l i))
    (λ i. inr (Memᴰ.tail i))
    (insert_all_out (insert result_key x l) xs j)

insert_all_sorted : (xs : List Result) → insert_all [] xs ≡ sorted result_key xs
unfolding rising
insert_all_sorted xs =
    sym
    (sorted_unique result_key result_key_eq xs (insert_all [] xs) (insert_all_rising [] xs refl)
    (λ y j. insert_all_right [] j)
    (λ y j. ⊎_elim (λ i. absurd (Memᴰ.not-nil i)) (λ i. i) (insert_all_out [] xs j)))

module _ (leave : Result → Bool) (room : ℕ) where
  offer_all_insert_all : (xs l : List Result) → length l ≤ room
      → offer_all leave room (some l) xs ≡ limited room (insert_all l (only (λ x. not (leave x)) xs))
  unfolding offer_all insert_all only insert_within
  offer_all_insert_all [] l h = sym (limited_fits room l h)
  offer_all_insert_all (x ∷ xs) l h = by_test (leave x)
      (λ e. ap (λ (o : Option (List Result)). offer_all leave room o xs) (offer_left leave room (some l) x e)
      ∙ offer_all_insert_all xs l h
      ∙ ap (λ (k : List Result). limited room (insert_all l k)) (sym (only_no (λ y. not (leave y)) x xs (ap not e))))
      (λ e. ap (λ (o : Option (List Result)). offer_all leave room o xs) (offer_kept leave room (some l) x e)
      ∙ kept (offer_all_insert_all xs (insert result_key x l))
      ∙ ap (λ (k : List Result). limited room (insert_all l k)) (sym (only_yes (λ y. not (leave y)) x xs (ap not e))))
    where
      kept : (length (insert result_key x l) ≤ room
          → offer_all leave room (some (insert result_key x l)) xs ≡ limited room (insert_all (insert result_key x l) (only (λ y. not (leave y)) xs)))
          → offer_all leave room (insert_within room x (some l)) xs ≡ limited room (insert_all (insert result_key x l) (only (λ y. not (leave y)) xs))
      kept next = by_test (leb (length (insert result_key x l)) room)
          (λ e. let b : length (insert result_key x l) ≤ room = leb-true (length (insert result_key x l)) room e in
          ap (λ (o : Option (List Result)). offer_all leave room o xs) (limited_fits room (insert result_key x l) b) ∙ next b)
          (λ e. let b : room < length (insert result_key x l) = leb-false (length (insert result_key x l)) room e in
          let k : length (insert result_key x l) ≤ length (insert_all (insert result_key x l) (only (λ y. not (leave y)) xs)) =
          length_insert_all (insert result_key x l) (only (λ y. not (leave y)) xs) in
          ap (λ (o : Option (List Result)). offer_all leave room o xs) (limited_over room (insert result_key x l) b)
          ∙ offer_all_none leave room xs
          ∙ sym (limited_over room (insert_all (insert result_key x l) (only (λ y. not (leave y)) xs)) (omega arith)))

  -- where it begins with none, the collecting ends with the results that are not left out, sorted, each once, if there is room for them
  pub offered_all : (xs : List Result) → offer_all leave room (some []) xs ≡ limited room (sorted result_key (only (λ x. not (leave x)) xs))
  offered_all xs =
      offer_all_insert_all xs [] (omega arith) ∙ ap (limited room) (insert_all_sorted (only (λ x. not (leave x)) xs))

-- ---- the rows of a table that collects

module _ {A : Automaton} {room : ℕ} where
  pub collects_none : (n : ℕ) (t : List ℕ) → n ≤ room + 1 → Collects A room n t [] n t
  unfolding offer_all
  collects_none n t h = record { collected = refl; number = h }

  pub collects_then : {n r r' : ℕ} {t t' t'' : List ℕ} {xs ys : List Result} → Collects A room n t xs r t' → Collects A room r t' ys r' t'' → Collects A room n t (xs ++ ys) r' t''
  collects_then {n = n} {t = t} {xs = xs} {ys = ys} h k =
      record {
        collected = k.collected
            ∙ ap (λ (o : Option (List Result)). offer_all (held A) room o ys) h.collected
            ∙ sym (offer_all_append (held A) room (pending_in room n t) xs ys);
        number = k.number;
      }

  pub collects_same : {n r : ℕ} {t t' : List ℕ} {xs ys : List Result} → xs ≡ ys → Collects A room n t xs r t' → Collects A room n t ys r t'
  collects_same {n = n} {r = r} {t = t} {t' = t'} e h = subst (λ (l : List Result). Collects A room n t l r t') e h

  -- a result that is left out, and one that is not
  pub collects_held : {n : ℕ} {t : List ℕ} (x : Result) → n ≤ room + 1 → held A x ≡ true → Collects A room n t (x ∷ []) n t
  unfolding offer_all
  collects_held {n} {t} x h e = record { collected = sym (offer_left (held A) room (pending_in room n t) x e); number = h }

  pub collects_new : {n r : ℕ} {t t' : List ℕ} (x : Result) → r ≤ room + 1 → held A x ≡ false → pending_in room r t' ≡ insert_within room x (pending_in room n t)
      → Collects A room n t (x ∷ []) r t'
  unfolding offer_all
  collects_new {n} {t = t} x h e f = record { collected = f ∙ sym (offer_kept (held A) room (pending_in room n t) x e); number = h }

  -- there was no room before
  pub collects_over : (n : ℕ) (t : List ℕ) (xs : List Result) → n ≤ room + 1 → room < n → Collects A room n t xs n t
  collects_over n t xs h l =
      record {
        collected = pending_over room n t l ∙ sym (ap (λ (o : Option (List Result)). offer_all (held A) room o xs) (pending_over room n t l) ∙ offer_all_none (held A) room xs);
        number = h;
      }

-- ---- loops over the elements of a list

module _ (A : Automaton) (room : ℕ) {X : Type 0} (test : X → Bool) (l : List X) (d : X) (f : ℕ → List Result) where
  -- What the first i elements give, of those that pass the test, was offered.
  pub record OfferedBelow (n : ℕ) (t : List ℕ) (i r : ℕ) (t' : List ℕ) : Type 0 where
    pub within : i ≤ length l
    pub offered : Collects A room n t (each (places test (take i l)) f) r t'
    pub long : length t' ≡ length t

  pub passed_none : (n : ℕ) (t : List ℕ) → n ≤ room + 1 → OfferedBelow n t 0 n t
  unfolding places places_from each
  passed_none n t h = record { within = omega arith; offered = collects_none n t h; long = refl }

  pub passed_more : {n i r r' : ℕ} {t t' t'' : List ℕ} → OfferedBelow n t i r t' → i < length l → Collects A room r t' (when (test (get_or l i d)) (f i)) r' t''
      → length t'' ≡ length t' → OfferedBelow n t (i + 1) r' t''
  unfolding each when
  passed_more {i = i} h b k e =
      record {
        within = omega arith;
        offered = collects_same turn (collects_then h.offered k);
        long = e ∙ h.long;
      }
    where
      each_when : (b : Bool) → each (when b (i ∷ [])) f ≡ when b (f i)
      each_when true = each_one i f
      each_when false = refl

      turn : each (places test (take i l)) f ++ when (test (get_or l i d)) (f i) ≡ each (places test (take (i + 1) l)) f
      turn =
          ap (λ (k : List Result). each (places test (take i l)) f ++ k) (sym (each_when (test (get_or l i d))))
          ∙ sym (each_append (places test (take i l)) (when (test (get_or l i d)) (i ∷ [])) f)
          ∙ ap (λ (k : List ℕ). each k f) (sym (places_take test l i d b))
          ∙ ap (λ (k : ℕ). each (places test (take k l)) f) (sym (add-one i))

  pub passed_all : {n i r : ℕ} {t t' : List ℕ} → OfferedBelow n t i r t' → length l ≤ i → Collects A room n t (each (places test l) f) r t'
  passed_all {i = i} h b = collects_same (ap (λ (k : List X). each (places test k) f) (take_all i l b)) h.offered
