-- What need not be looked at: readings without a newer move, and what is known of the readings that follow an old move or an old edge.
-- Assumes nothing.
use Rattle.std.specs.Prelude.{ℕ, ◌+◌, ◌<◌, Bool, true, false, not, ◌||◌, ◌&&◌, ◌≡◌, refl, length, leb}
use Rattle.std.proofs.lemmas.Bool.{false≢true, not-true}
use Rattle.std.proofs.Common.{sym, ◌∙◌, subst, arith, leb-true, leb-false}
use Rattle.std.proofs.Math.Option.{some}
use mathlib.Core.List.{List, ◌∷◌, Memᴰ}
use Rattle.std.proofs.Math.ListN.{length-take}
use Rattle.words.specs.Sets.{part_of, member, members}
use Rattle.words.proofs.Sets.Laws.{Has, in_has, part_has}
use Rattle.words.specs.Laws.Tests.{by_test, and_left, and_right}
use Rattle.sets.specs.Without.{without}
use Rattle.automata.specs.Automaton.{Automaton, edges, move_at, moves_of}
use Rattle.automata.specs.Automaton.Laws.{moves_of_out, length_edges}
use Rattle.automata.specs.Derivation.{Joins, join_move}
use Rattle.automata.specs.Saturation.{up_to}
use Rattle.automata.proofs.Saturation.Laws.{up_to_extends}
use Rattle.offers.specs.Offers.{AllHeld}
use Rattle.readings.specs.declared.Before.{Before}
use Rattle.readings.specs.declared.Goal.{Goal}
use Rattle.readings.specs.Readings.{read_results, reads_to}
use Rattle.readings.specs.Readings.Order.{read_together}
use Rattle.readings.specs.Readings.Earlier.{read_old, read_all_old}
use Rattle.readings.specs.Before.{table_before, Settles, Known, HeldBefore}

-- ---- the sizes of the earlier table

module _ (A : Automaton) (w : Before) where
  pub move_earlier : (i : ℕ) → i < w.moves → i < length A.moves → i < length (table_before w A).moves
  unfolding up_to
  move_earlier i b l = let e = length-take w.moves A.moves in omega (arith, e)

  pub edge_earlier : (i : ℕ) → i < length A.inner + w.entries → i < length (edges A) → i < length (edges (table_before w A))
  unfolding up_to
  edge_earlier i b l =
      let e = length-take w.entries A.entries in
      let f = length_edges A in
      let g = length_edges (table_before w A) in
      omega (arith, e, f, g)

-- ---- what is newer

pub newer_no : (new : Bool) (first i : ℕ) (r : Bool) → r ≡ new || leb first i → r ≡ false → (new ≡ false) × (i < first)
newer_no true first i r e f = absurd (false≢true (sym f ∙ e))
newer_no false first i r e f = (refl, leb-false first i (sym e ∙ f))

-- ---- in the code

pub newer_else : (new b : Bool) → new ≡ false → b ≡ new || b
newer_else new b e = rw e refl

pub settled_else : (new b r : Bool) → new ≡ false → r ≡ b → r ≡ not new && b
settled_else new b r e f = rw e f

-- ---- readings

module _ (A : Automaton) (w : Before) (p a : ℕ) where
  -- nothing new was used so far, and no state left has a newer move
  pub settled_held : (S left : ℕ) (j : Joins) (new r : Bool) → Settles A w a → Known A new (read_results (table_before w A) p a S (members left) j)
      → r ≡ not new && part_of left w.settled → r ≡ true → AllHeld A (read_results A p a S (members left) j)
  settled_held S left j new r s k e t =
      let n : not new ≡ true = and_left (not new) _ (sym e ∙ t) in
      let h : part_of left w.settled ≡ true = and_right (not new) _ (sym e ∙ t) in
      record {
        all_held = λ x m. (k.known (not-true new n)).all_held x
            (read_all_old (up_to_extends _ A) p a S (members left) j
            (λ q i c d. by_test (leb w.moves i)
            (λ v. let g = moves_of_out A q a d in
            absurd (s.settles i (leb-true w.moves i v) g.below g.symbol_is (subst (Has w.settled) (sym g.state_is) (part_has left w.settled h q (in_has left c)))))
            (λ v. move_earlier A w i (leb-false w.moves i v) (moves_of_out A q a d).below))
            m);
      }

  -- one member of the states left first
  pub known_apart : (S s q others : ℕ) (j : Joins) (new : Bool) → member s q ≡ true → others ≡ without s q → Known A new (read_results (table_before w A) p a S (members s) j)
      → Known A new (read_results (table_before w A) p a S (q ∷ members others) j)
  known_apart S s q others j new h e k =
      rw e (record { known = λ n. record { all_held = λ x m. (k.known n).all_held x (read_together (table_before w A) p a S s q h j m) } })

  -- by move i of the first state
  pub known_move : (S r : ℕ) (rs : List ℕ) (j l : Joins) (i : ℕ) (new newer : Bool) → Memᴰ i (moves_of A r a) → join_move j (move_at A i) ≡ some l
      → newer ≡ new || leb w.moves i → Known A new (read_results (table_before w A) p a S (r ∷ rs) j) → Known A newer (read_results (table_before w A) p a S rs l)
  known_move S r rs j l i new newer m e d k =
      record {
        known = λ n. let (o, b) = newer_no new w.moves i newer d n in
            record {
              all_held = λ x h. (k.known o).all_held x
                  (read_old (up_to_extends _ A) p a S r rs j i m (move_earlier A w i b (moves_of_out A r a m).below) e h);
            };
      }

-- ---- what is held, handed on

module _ (A : Automaton) (to : Goal) (S : ℕ) where
  -- all of it, where no state left has a newer move
  pub held_settled : (new : Bool) (left : ℕ) (j : Joins) (r : Bool) → HeldBefore A to new (reads_to to S (members left) j)
      → r ≡ not new && part_of left to.before.settled → r ≡ true → AllHeld A (reads_to to S (members left) j A)
  held_settled new left j r h e f = settled_held A to.before to.control to.symbol S left j new r h.settles h.known e f

  -- one member of the states left first
  pub held_apart : (new : Bool) (left q others : ℕ) (j : Joins) → member left q ≡ true → others ≡ without left q → HeldBefore A to new (reads_to to S (members left) j)
      → HeldBefore A to new (reads_to to S (q ∷ members others) j)
  held_apart new left q others j m e h =
      record { settles = h.settles; known = known_apart A to.before to.control to.symbol S left q others j new m e h.known }

  -- by move i of the first state
  pub held_move : (new newer : Bool) (q : ℕ) (rs : List ℕ) (j l : Joins) (i : ℕ) → Memᴰ i (moves_of A q to.symbol) → join_move j (move_at A i) ≡ some l → newer ≡ new || leb to.before.moves i
      → HeldBefore A to new (reads_to to S (q ∷ rs) j) → HeldBefore A to newer (reads_to to S rs l)
  held_move new newer q rs j l i m e f h =
      record { settles = h.settles; known = known_move A to.before to.control to.symbol S q rs j l i new newer m e f h.known }
