-- What the slices hold after the search where they held zeros before: the choices of the derivation that was found.
-- Assumes nothing.
use Rattle.std.specs.Prelude.{ℕ, ◌<◌, ◌≤◌, ◌≡◌, refl, length, get_or, set, replicate, eqb, ltb, None, Some, Option as Found}
use Rattle.std.proofs.Math.Path.{ap, fun_ext}
use Rattle.std.proofs.Common.{sym, ◌∙◌, arith, length-set, get_or-set_same, get_or-set_other, eqb-true, ltb-true, ltb-false}
use Rattle.std.proofs.Math.Option.{Option, none, some, map, some-injective, some-ne-none}
use mathlib.Core.List.{List, [], ◌∷◌, Memᴰ}
use Rattle.std.proofs.Math.ListN.{get_elem?, get_or-eq_default}
use Rattle.std.proofs.lemmas.List.{length-replicate, get_or-replicate}
use Rattle.std.proofs.lemmas.Bool.{eqb-false}
use Rattle.words.specs.Laws.Tests.{by_test}
use Rattle.stacks.specs.System.{Rule}
use Rattle.automata.specs.Automaton.{Automaton}
use Rattle.automata.specs.Derivation.{Result, Derivation, first_derivation}
use Rattle.walks.specs.Guide.{first_or_zero, chooses_all}
use Rattle.first_reading.specs.First.{is_some}
use Rattle.first_reading.specs.Answer.{written_all, written_by}
use Rattle.first_reading.specs.Answer.Laws.{answers_fails}
use Rattle.first_derivation.specs.declared.Derivation.{Derivation as DerivationWords}
use Rattle.first_derivation.specs.Premises.{edge_states, read_states}
use Rattle.first_derivation.specs.Derived.{operation_by, derivation_edges, derivation_moves, step_of, FindsFirst, StatesSmall}
use Rattle.first_derivation.specs.Derived.Small.{Below, edges_below, reads_below}

-- words by state
abbrev pub by_state : List ℕ → ℕ → ℕ
by_state ws = λ q. get_or ws q 0

-- 64 words, all zero
pub record Blank (ws : List ℕ) : Type 0 where
  pub long : length ws ≡ 64
  pub zero : (q : ℕ) → get_or ws q 0 ≡ 0

pub blank_zeros : Blank (replicate 64 0)
blank_zeros =
    let ws : List ℕ = replicate 64 0 in
    let l : length ws ≡ 64 = length-replicate {A = ℕ} 64 0 in
    record {
      long = l;
      zero = λ q. by_test (ltb q 64)
          (λ e. get_or-replicate 64 q 0 0 (ltb-true q 64 e))
          (λ e. let h : 64 ≤ q = ltb-false q 64 e in get_or-eq_default ws 0 {n = q} (omega arith));
    }

-- ---- numbers written for states

pub length_written_all : (qs ns ws : List ℕ) → length (written_all qs ns ws) ≡ length ws
unfolding written_all
length_written_all [] ns ws = refl
length_written_all (q ∷ qs) [] ws = refl
length_written_all (q ∷ qs) (n ∷ ns) ws = length-set (written_all qs ns ws) q n ∙ length_written_all qs ns ws

-- a state that is not among those that choose
chooses_other : (qs ns : List ℕ) (q : ℕ) → (Memᴰ q qs → ⊥) → chooses_all qs ns q ≡ 0
unfolding chooses_all
chooses_other [] ns q h = refl
chooses_other (p ∷ qs) [] q h = refl
chooses_other (p ∷ qs) (n ∷ ns) q h = by_test (eqb p q)
    (λ e. absurd (h (Memᴰ.head (sym (eqb-true p q e)))))
    (λ e. rw (chooses_all, e) (chooses_other qs ns q (λ i. h (Memᴰ.tail i))))

chooses_below : (qs ns ws : List ℕ) → ((q : ℕ) → get_or ws q 0 ≡ 0) → (q : ℕ) → q < length ws → get_or (written_all qs ns ws) q 0 ≡ chooses_all qs ns q
unfolding written_all chooses_all
chooses_below [] ns ws z q h = z q
chooses_below (p ∷ qs) [] ws z q h = z q
chooses_below (p ∷ qs) (n ∷ ns) ws z q h =
    let l : length (written_all qs ns ws) ≡ length ws = length_written_all qs ns ws in
    by_test (eqb p q)
    (λ e. rw (chooses_all, e)
    (ap (λ (k : ℕ). get_or (set (written_all qs ns ws) k n) q 0) (eqb-true p q e) ∙ get_or-set_same (written_all qs ns ws) q n 0 (omega arith)))
    (λ e. rw (chooses_all, e) (get_or-set_other (written_all qs ns ws) p q n 0 (λ k. eqb-false p q e (sym k)) ∙ chooses_below qs ns ws z q h))

-- the words by state are the choices
pub written_chooses : (qs ns : List ℕ) {ws : List ℕ} → Blank ws → Below qs → by_state (written_all qs ns ws) ≡ chooses_all qs ns
written_chooses qs ns {ws} b small = fun_ext λ q.
    let l : length ws ≡ 64 = b.long in
    let k : length (written_all qs ns ws) ≡ length ws = length_written_all qs ns ws in
    by_test (ltb q 64)
    (λ e. let h : q < 64 = ltb-true q 64 e in chooses_below qs ns ws b.zero q (omega arith))
    (λ e.
    let h : 64 ≤ q = ltb-false q 64 e in
    get_or-eq_default (written_all qs ns ws) 0 (omega arith) ∙ sym (chooses_other qs ns q (λ i. let s : q < 64 = small q i in absurd (omega arith))))

-- ---- the derivation that was found

-- the operation of a rule that is there
pub operation_is : (rules : List Rule) (n : ℕ) {ρ : Rule} → get_elem? rules n ≡ some ρ → operation_by rules n ≡ ρ.operation
unfolding operation_by
operation_is rules n h = rw (operation_by, h)

module _ {A : Automaton} {rules : List Rule} {x : Result} {es₀ es ms₀ ms : List ℕ} where
  -- no derivation is found, and the slices are as they were
  pub missing_none : FindsFirst A rules x None es₀ es ms₀ ms → (first_derivation A rules x ≡ none) × (es ≡ es₀) × (ms ≡ ms₀)
  unfolding is_some
  missing_none h = answers_fails h.written

  -- a derivation with these numbers is found
  pub found_some : {n i : ℕ} → FindsFirst A rules x (Some (record { rule = n; premise = i })) es₀ es ms₀ ms
      → (d : Derivation) × (first_derivation A rules x ≡ some d) × (d.rule ≡ n) × (first_or_zero d.premise ≡ i)
  found_some {n} {i} h = go (first_derivation A rules x) refl h.numbers
    where
      go : (o : Option Derivation) → first_derivation A rules x ≡ o → some (record { rule = n; premise = i }) ≡ map step_of (first_derivation A rules x)
          → (d : Derivation) × (first_derivation A rules x ≡ some d) × (d.rule ≡ n) × (first_or_zero d.premise ≡ i)
      go none e k = absurd (some-ne-none _ (k ∙ ap (map step_of) e))
      go (some d) e k =
          let s = some-injective _ (step_of d) (k ∙ ap (map step_of) e) in
          (d, e, sym (ap (λ t. t.rule) s), sym (ap (λ t. t.premise) s))

  module _ {r : Found DerivationWords} {d : Derivation} (h : FindsFirst A rules x r es₀ es ms₀ ms) (is : first_derivation A rules x ≡ some d) where
    pub edges_written : es ≡ derivation_edges A rules d es₀
    unfolding written_by
    edges_written = h.written.edges.words ∙ ap (λ (o : Option Derivation). written_by (derivation_edges A rules) o es₀) is

    pub moves_written : ms ≡ derivation_moves A rules d ms₀
    unfolding written_by
    moves_written = h.written.moves.words ∙ ap (λ (o : Option Derivation). written_by (derivation_moves A rules) o ms₀) is

    -- The slices hold the choices of the derivation, for every state.
    pub edges_chosen : StatesSmall A → Blank es₀ → by_state es ≡ chooses_all (edge_states A (operation_by rules d.rule) (first_or_zero d.premise)) d.edges
    unfolding derivation_edges
    edges_chosen s b =
        ap by_state edges_written
        ∙ written_chooses (edge_states A (operation_by rules d.rule) (first_or_zero d.premise)) d.edges b (edges_below s (operation_by rules d.rule) (first_or_zero d.premise))

    pub moves_chosen : StatesSmall A → Blank ms₀ → by_state ms ≡ chooses_all (read_states A (operation_by rules d.rule) (first_or_zero d.premise) d.edges) d.moves
    unfolding derivation_moves
    moves_chosen s b =
        ap by_state moves_written
        ∙ written_chooses (read_states A (operation_by rules d.rule) (first_or_zero d.premise) d.edges) d.moves b
        (reads_below s (operation_by rules d.rule) (first_or_zero d.premise) d.edges)
