-- What a premise gives, by what is read for it.
-- Assumes nothing.
use Rattle.std.specs.Prelude.{ℕ, Bool, true, false, List, [], ◌∷◌}
use Rattle.std.proofs.Math.Path.{◌≡◌, refl, ap, sym}
use Rattle.std.proofs.Common.{◌∙◌, arith}
use Rattle.words.specs.Sets.{join, members}
use Rattle.words.specs.Lists.{when}
use Rattle.automata.specs.Automaton.{Automaton, Move}
use Rattle.automata.specs.Derivation.{joins_of}
use Rattle.tables.specs.declared.Table.{Table}
use Rattle.tables.specs.declared.Result.{Result as ResultWords}
use Rattle.tables.specs.Records.{as_result}
use Rattle.joins.specs.Joining.{the_joins}
use Rattle.readings.specs.declared.Goal.{Goal}
use Rattle.readings.specs.Before.{HeldBefore}
use Rattle.readings.specs.Readings.{the_result, reads_to, edges_to, ByMoves}
use Rattle.readings.specs.Readings.Inner.{reads_alone}
use Rattle.readings.specs.Gathering.{ReadsAll, CollectsAll}
use Rattle.readings.proofs.Gathering.Laws.{held_same, reads_all_same, collects_all_same}
use Rattle.premises.specs.declared.MoveUse.{MoveUse}
use Rattle.premises.specs.declared.MoveUse.TheVariants.{Rewritten, Pushed1, Pushed2, Copied}
use Rattle.premises.specs.declared.Push.{Push}
use Rattle.premises.specs.declared.Reads.{Reads}
use Rattle.premises.specs.declared.Reads.TheVariants.{Nothing, Rest, Edges}
use Rattle.premises.specs.Premises.{order_fits, premise_results, premise_gives}
use Rattle.premises.specs.Reads.{reads_of, push_gives, copy_gives}

-- ---- by what is read

-- the push of a premise, or one of zeros
push_in : Reads → Push
push_in Nothing = record { order = 0; s = 0; rest = 0 }
push_in (Rest push) = push
push_in Edges = record { order = 0; s = 0; rest = 0 }

module _ (to : Goal) (S : ℕ) (m : Move) (A : Automaton) where
  pub by_nothing : (k : MoveUse) (x : ResultWords) → reads_of k S m ≡ Nothing → x ≡ the_result to.control S to.symbol m.order m.B m.R → as_result x ∷ [] ≡ premise_gives to k S m A
  unfolding reads_of premise_results
  by_nothing Rewritten x e f = ap (λ (y : ResultWords). as_result y ∷ []) f
  by_nothing Pushed1 x e f = let z : ◌≡◌ {A = ℕ} 0 1 = cc in absurd (omega arith)
  by_nothing Pushed2 x e f = let z : ◌≡◌ {A = ℕ} 0 1 = cc in absurd (omega arith)
  by_nothing Copied x e f = let z : ◌≡◌ {A = ℕ} 0 1 = cc in absurd (omega arith)

  pub by_rest : (k : MoveUse) (push : Push) → reads_of k S m ≡ Rest push → push_gives to push m A ≡ premise_gives to k S m A
  unfolding reads_of premise_results push_gives push_in
  by_rest Rewritten push e = let z : ◌≡◌ {A = ℕ} 0 1 = cc in absurd (omega arith)
  by_rest Pushed1 push e = ap (λ (x : Reads). push_gives to (push_in x) m A) (sym e)
  by_rest Pushed2 push e = ap (λ (x : Reads). push_gives to (push_in x) m A) (sym e)
  by_rest Copied push e = let z : ◌≡◌ {A = ℕ} 0 1 = cc in absurd (omega arith)

  pub by_edges : (k : MoveUse) → reads_of k S m ≡ Edges → copy_gives to S m A ≡ premise_gives to k S m A
  unfolding reads_of premise_results copy_gives
  by_edges Rewritten e = let z : ◌≡◌ {A = ℕ} 0 1 = cc in absurd (omega arith)
  by_edges Pushed1 e = let z : ◌≡◌ {A = ℕ} 0 1 = cc in absurd (omega arith)
  by_edges Pushed2 e = let z : ◌≡◌ {A = ℕ} 0 1 = cc in absurd (omega arith)
  by_edges Copied e = refl

module _ (to : Goal) (S : ℕ) (m : Move) (k : MoveUse) where
  pub rest_held : (push : Push) → reads_of k S m ≡ Rest push → (A : Automaton) (new : Bool) → HeldBefore A to new (premise_gives to k S m) → HeldBefore A to new (push_gives to push m)
  rest_held push e A new h = held_same (premise_gives to k S m) (push_gives to push m) (sym (by_rest to S m _ k push e)) h

  pub rest_collected : (push : Push) → reads_of k S m ≡ Rest push → (A : Automaton) {room n r : ℕ} {t t' memo : List ℕ} → CollectsAll A room n t (push_gives to push m) r t' memo
      → CollectsAll A room n t (premise_gives to k S m) r t' memo
  rest_collected push e A c = collects_all_same (push_gives to push m) (premise_gives to k S m) (by_rest to S m A k push e) c

  pub edges_held : reads_of k S m ≡ Edges → (A : Automaton) (new : Bool) → HeldBefore A to new (premise_gives to k S m) → HeldBefore A to new (copy_gives to S m)
  edges_held e A new h = held_same (premise_gives to k S m) (copy_gives to S m) (sym (by_edges to S m _ k e)) h

  pub edges_collected : reads_of k S m ≡ Edges → (A : Automaton) {room n r : ℕ} {t t' memo : List ℕ} → CollectsAll A room n t (copy_gives to S m) r t' memo → CollectsAll A room n t (premise_gives to k S m) r t' memo
  edges_collected e A c = collects_all_same (copy_gives to S m) (premise_gives to k S m) (by_edges to S m A k e) c

-- ---- in the code

module _ (k : MoveUse) (S : ℕ) (m : Move) where
  pub reads_rewritten : k ≡ Rewritten → Nothing ≡ reads_of k S m
  unfolding reads_of
  reads_rewritten e = sym (ap (λ (x : MoveUse). reads_of x S m) e)

  pub reads_pushed1 : k ≡ Pushed1 → Rest (record { order = 1; s = S; rest = m.B }) ≡ reads_of k S m
  unfolding reads_of
  reads_pushed1 e = sym (ap (λ (x : MoveUse). reads_of x S m) e)

  pub reads_copied : k ≡ Copied → Edges ≡ reads_of k S m
  unfolding reads_of
  reads_copied e = sym (ap (λ (x : MoveUse). reads_of x S m) e)

  pub reads_pushed2 : (all : ℕ) → k ≡ Pushed2 → all ≡ join S m.B → Rest (record { order = 2; s = all; rest = 0 }) ≡ reads_of k S m
  unfolding reads_of
  reads_pushed2 all e f = ap (λ (x : ℕ). Rest (record { order = 2; s = x; rest = 0 })) f ∙ sym (ap (λ (x : MoveUse). reads_of x S m) e)

-- ---- pushes

pub push_alone : (to : Goal) (push : Push) (m : Move) → ByMoves (push_gives to push m)
unfolding push_gives
push_alone to push m A B e = ap (when (order_fits push.order m)) (reads_alone to push.s (members m.R) (the_joins 0 0 push.rest) A B e)

module _ (to : Goal) (push : Push) (m : Move) (fits : Bool) (f : fits ≡ order_fits push.order m) where
  -- a push that does not fit gives nothing
  pub push_none : fits ≡ false → (A : Automaton) → [] ≡ push_gives to push m A
  unfolding push_gives when
  push_none g A = ap (λ (x : Bool). when x (reads_to to push.s (members m.R) (the_joins 0 0 push.rest) A)) (sym g ∙ f)

  module _ (g : fits ≡ true) where
    push_reads : (A : Automaton) → reads_to to push.s (members m.R) (the_joins 0 0 push.rest) A ≡ push_gives to push m A
    unfolding push_gives when
    push_reads A = ap (λ (x : Bool). when x (reads_to to push.s (members m.R) (the_joins 0 0 push.rest) A)) (sym g ∙ f)

    pub push_held : (A : Automaton) (new : Bool) → HeldBefore A to new (push_gives to push m) → HeldBefore A to new (reads_to to push.s (members m.R) (the_joins 0 0 push.rest))
    push_held A new h = held_same (push_gives to push m) (reads_to to push.s (members m.R) (the_joins 0 0 push.rest)) (sym (push_reads _)) h

    pub push_read : (z : Table) (entries moves : List ℕ) {room n r : ℕ} {t t' memo memo' : List ℕ} → ReadsAll z entries moves room n t memo (reads_to to push.s (members m.R) (the_joins 0 0 push.rest)) r t' memo'
        → ReadsAll z entries moves room n t memo (push_gives to push m) r t' memo'
    push_read z entries moves c = reads_all_same (reads_to to push.s (members m.R) (the_joins 0 0 push.rest)) (push_gives to push m) z entries moves (push_reads _) c

-- ---- copies

module _ (to : Goal) (S : ℕ) (m : Move) where
  pub copy_held : (A : Automaton) (new : Bool) → HeldBefore A to new (copy_gives to S m) → HeldBefore A to new (edges_to to 0 (joins_of m) (members S) 0)
  unfolding copy_gives
  copy_held A new h = held_same (copy_gives to S m) (edges_to to 0 (joins_of m) (members S) 0) refl h

  pub copy_collected : (A : Automaton) {room n r : ℕ} {t t' memo : List ℕ} → CollectsAll A room n t (edges_to to 0 (joins_of m) (members S) 0) r t' memo → CollectsAll A room n t (copy_gives to S m) r t' memo
  unfolding copy_gives
  copy_collected A c = collects_all_same (edges_to to 0 (joins_of m) (members S) 0) (copy_gives to S m) refl c
