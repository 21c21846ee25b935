-- Results offered in other numbers: what is held, and what is offered beside it, adds nothing. So lists with the same results, but for those
-- that are held, are collected alike.
-- Assumes nothing.
use Rattle.std.specs.Prelude.{ℕ, ◌+◌, ◌≤◌, ◌<◌, min, Bool, true, ◌≡◌, ◌⊎◌, length, get_or, take}
use Rattle.std.proofs.Math.Path.{refl, ap, sym}
use Rattle.std.proofs.Common.{◌∙◌, inl, inr, arith, length-take, get_or-take}
use Rattle.std.proofs.Math.Logic.{⊎_elim}
use Rattle.std.proofs.Math.Option.{Option}
use mathlib.Core.List.Memᴰ
use mathlib.Core.List.{List, [], ◌∷◌, ◌++◌, Memᴰ}
use Rattle.words.specs.Lists.{each, places}
use Rattle.words.specs.Lists.Laws.{each_out, places_out}
use Rattle.automata.specs.Automaton.{Automaton}
use Rattle.automata.specs.Derivation.{Result}
use Rattle.automata.specs.Saturation.{held}
use Rattle.tables.specs.Pending.{pending_in}
use Rattle.offers.specs.Offers.{offer, offer_all, Collects, AllHeld, Covered}
use Rattle.offers.specs.Offers.Laws.{offer_left, collects_none, collects_then, OfferedBelow}
use Rattle.offers.specs.Offers.Again.{offer_all_swap, offer_twice, offer_all_both}

-- ---- results offered again, one by one

module _ (room : ℕ) (leave : Result → Bool) where
  -- a result that was offered
  offer_in : (ys : List Result) (kept : Option (List Result)) {x : Result} → Memᴰ x ys
      → offer leave room (offer_all leave room kept ys) x ≡ offer_all leave room kept ys
  unfolding offer_all
  offer_in [] kept m = absurd (Memᴰ.not-nil m)
  offer_in (y ∷ ys) kept {x} m =
      ⊎_elim
      (λ e. ap (offer leave room (offer_all leave room (offer leave room kept y) ys)) e
      ∙ sym (offer_all_swap room leave ys (offer leave room kept y) y)
      ∙ ap (λ (o : Option (List Result)). offer_all leave room o ys) (offer_twice room leave kept y))
      (λ i. offer_in ys (offer leave room kept y) i)
      (Memᴰ.cases_cons m)

  absorbed_all : (ys xs : List Result) (kept : Option (List Result)) → ((x : Result) → Memᴰ x xs → (leave x ≡ true) ⊎ Memᴰ x ys)
      → offer_all leave room (offer_all leave room kept ys) xs ≡ offer_all leave room kept ys
  unfolding offer_all
  absorbed_all ys [] kept h = refl
  absorbed_all ys (x ∷ xs) kept h =
      ap (λ (o : Option (List Result)). offer_all leave room o xs)
      (⊎_elim (λ e. offer_left leave room (offer_all leave room kept ys) x e) (λ i. offer_in ys kept i) (h x (Memᴰ.head refl)))
      ∙ absorbed_all ys xs kept (λ y i. h y (Memᴰ.tail i))

  offered_alike : (xs ys : List Result) (kept : Option (List Result)) → ((x : Result) → Memᴰ x xs → (leave x ≡ true) ⊎ Memᴰ x ys)
      → ((x : Result) → Memᴰ x ys → (leave x ≡ true) ⊎ Memᴰ x xs) → offer_all leave room kept xs ≡ offer_all leave room kept ys
  offered_alike xs ys kept h k =
      sym (absorbed_all xs ys kept k) ∙ offer_all_both room leave xs ys kept ∙ absorbed_all ys xs kept h

-- ---- the rows of a table that collects

module _ {A : Automaton} {room : ℕ} where
  pub collects_alike : {n r : ℕ} {t t' : List ℕ} {xs ys : List Result} → Covered A xs ys → Covered A ys xs → Collects A room n t xs r t' → Collects A room n t ys r t'
  collects_alike {n} {t = t} {xs = xs} {ys = ys} h k c =
      record { collected = c.collected ∙ offered_alike room (held A) xs ys (pending_in room n t) h.covered k.covered; number = c.number }

  -- results that are all held
  -- results that are all held
  pub collects_all_held : (n : ℕ) (t : List ℕ) (xs : List Result) → n ≤ room + 1 → AllHeld A xs → Collects A room n t xs n t
  collects_all_held n t xs b h =
      collects_alike (record { covered = λ x m. absurd (Memᴰ.not-nil m) }) (record { covered = λ x m. inl (h.all_held x m) }) (collects_none n t b)

-- ---- what is covered

module _ {A : Automaton} where
  pub held_none : AllHeld A []
  held_none = record { all_held = λ x m. absurd (Memᴰ.not-nil m) }

  pub covered_in : {xs ys : List Result} → ((x : Result) → Memᴰ x xs → Memᴰ x ys) → Covered A xs ys
  covered_in h = record { covered = λ x m. inr (h x m) }

  pub covered_same : {xs : List Result} → Covered A xs xs
  covered_same = covered_in (λ x m. m)

  pub covered_held : {xs ys : List Result} → AllHeld A xs → Covered A xs ys
  covered_held h = record { covered = λ x m. inl (h.all_held x m) }

  pub covered_trans : {xs ys zs : List Result} → Covered A xs ys → Covered A ys zs → Covered A xs zs
  covered_trans h k = record { covered = λ x m. ⊎_elim (λ e. inl e) (λ i. k.covered x i) (h.covered x m) }

-- ---- results gathered in a loop

module _ (A : Automaton) (room n : ℕ) (t : List ℕ) (full : List Result) where
  -- From n rows of t to r rows of t' results of `full` were offered, and with them all lists that are done.
  pub record Gathered (done : List Result → Type 0) (r : ℕ) (t' : List ℕ) : Type 0 where
    pub got : List Result
    pub collected : Collects A room n t got r t'
    pub sound : Covered A got full
    pub covers : (xs : List Result) → done xs → Covered A xs got
    pub long : length t' ≡ length t

module _ {A : Automaton} {room n : ℕ} {t : List ℕ} {full : List Result} where
  pub gathered_none : {done : List Result → Type 0} → n ≤ room + 1 → ((xs : List Result) → done xs → AllHeld A xs) → Gathered A room n t full done n t
  gathered_none b h =
      record { got = []; collected = collects_none n t b; sound = covered_held held_none; covers = λ xs d. covered_held (h xs d); long = refl }

  -- one list more
  pub gathered_more : {done done' : List Result → Type 0} {r r' : ℕ} {t' t'' : List ℕ} (ys : List Result) → Gathered A room n t full done r t'
      → Collects A room r t' ys r' t'' → length t'' ≡ length t' → Covered A ys full → ((xs : List Result) → done' xs → done xs ⊎ Covered A xs ys)
      → Gathered A room n t full done' r' t''
  gathered_more ys g c l s h =
      record {
        got = g.got ++ ys;
        collected = collects_then g.collected c;
        sound = record { covered = λ x m. ⊎_elim (λ i. g.sound.covered x i) (λ i. s.covered x i) (Memᴰ.append_cases g.got m) };
        covers = λ xs d. ⊎_elim
            (λ e. covered_trans (g.covers xs e) (covered_in (λ x m. Memᴰ.append_left ys m)))
            (λ k. covered_trans k (covered_in (λ x m. Memᴰ.append_right g.got m)))
            (h xs d);
        long = l ∙ g.long;
      }

  -- nothing more
  pub gathered_same : {done done' : List Result → Type 0} {r r' : ℕ} {t' t'' : List ℕ} → Gathered A room n t full done r t'
      → ((xs : List Result) → done' xs → done xs ⊎ AllHeld A xs) → t'' ≡ t' → r' ≡ r → Gathered A room n t full done' r' t''
  gathered_same g h et er = rw (et, er)
      (record {
        got = g.got;
        collected = g.collected;
        sound = g.sound;
        covers = λ xs d. ⊎_elim (λ e. g.covers xs e) (λ k. covered_held k) (h xs d);
        long = g.long;
      })

  -- all that is wanted was done
  pub gathered_all : {done : List Result → Type 0} {r : ℕ} {t' : List ℕ} → Gathered A room n t full done r t'
      → ((x : Result) → Memᴰ x full → (held A x ≡ true) ⊎ ((xs : List Result) × done xs × Memᴰ x xs)) → Collects A room n t full r t'
  gathered_all g h =
      collects_alike g.sound
      (record { covered = λ x m. ⊎_elim (λ e. inl e) (λ w. (g.covers w.0 w.1).covered x w.2) (h x m) })
      g.collected

-- ---- loops over the elements of a list

module _ (A : Automaton) (room : ℕ) {X : Type 0} (test : X → Bool) (l : List X) (d : X) (f : ℕ → List Result) where
  -- what the first i elements give is held, so the loop may begin with element i
  pub passed_past : (n : ℕ) (t : List ℕ) (i : ℕ) → n ≤ room + 1 → i ≤ length l → ((k : ℕ) → k < i → test (get_or l k d) ≡ true → AllHeld A (f k))
      → OfferedBelow A room test l d f n t i n t
  passed_past n t i h b k =
      let len : length (take i l) ≡ min i (length l) = length-take i l in
      record {
        within = b;
        offered = collects_all_held n t (each (places test (take i l)) f) h
            (record {
              all_held = λ x m.
                  let w = each_out (places test (take i l)) f m in
                  let v = places_out test (take i l) d w.1 in
                  let c : w.0 < i = omega (arith, v.0, len) in
                  (k w.0 c (ap test (sym (get_or-take i l w.0 d c)) ∙ v.1)).all_held x w.2;
            });
        long = refl;
      }
