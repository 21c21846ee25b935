-- A turn of the replay: the next rule number of the trace, and what its step answers.
-- Assumes nothing.
use Rattle.std.specs.Prelude.{ℕ, Result, Ok, Err, ◌+◌, ◌*◌, ◌/◌, ◌≤◌, ◌<◌, ◌≡◌, refl, List, [], ◌∷◌, length, get_or, drop}
use Rattle.std.proofs.Common.{ap, sym, ◌∙◌, subst, add-one, arith, drop-cons}
use Rattle.std.proofs.lemmas.List.{length-map}
use Rattle.stacks.specs.System.{Rule}
use Rattle.automata.specs.Automaton.{Automaton}
use Rattle.replies.specs.declared.Replayed.TheVariants.{Refused, FailsAt}
use Rattle.walks.specs.Cell.Values.{get_or_map_below}
use Rattle.files.specs.Bytes.{number, field, records}
use Rattle.files.specs.Bytes.Laws.{length_records, records_at}
use Rattle.services.specs.Replay.{rule_numbers, replayed}
use Rattle.services.proofs.Replay.Laws.{replayed_fails, replayed_short, replayed_goes}
use Rattle.replay_step.specs.declared.Place.{Place}
use Rattle.replay_step.specs.declared.Stop.{Stop}
use Rattle.replay_step.specs.declared.Stop.TheVariants.{Fails, Short}
use Rattle.replay_step.specs.Place.{place_configuration, PlaceStands, StepAnswers}
use Rattle.replay_trace.specs.Turns.{TraceFollows}

-- ---- the rule numbers of a trace

pub length_numbers : (trace : List ℕ) → length (rule_numbers trace) ≡ length trace / 2
unfolding rule_numbers
length_numbers trace = length-map (records (length trace / 2) 2 trace) number ∙ length_records (length trace / 2) 2 trace

-- rule number i is that of two bytes
numbers_at : (trace : List ℕ) (i : ℕ) → i < length trace / 2 → get_or (rule_numbers trace) i 0 ≡ field (i * 2) 2 trace
unfolding rule_numbers field
numbers_at trace i h =
    let l : length (records (length trace / 2) 2 trace) ≡ length trace / 2 = length_records (length trace / 2) 2 trace in
    get_or_map_below number (records (length trace / 2) 2 trace) i [] 0 (omega arith) ∙ ap number (records_at (length trace / 2) 2 trace i h)

numbers_left : (trace : List ℕ) (i : ℕ) {k : ℕ} → i < length trace / 2 → k ≡ field (i * 2) 2 trace
    → drop i (rule_numbers trace) ≡ k ∷ drop (i + 1) (rule_numbers trace)
numbers_left trace i h e =
    let l = length_numbers trace in
    drop-cons (rule_numbers trace) i 0 (omega arith)
    ∙ λ j. (numbers_at trace i h ∙ sym e) j ∷ drop (sym (add-one i) j) (rule_numbers trace)

-- ---- no step

pub follows_none : (rules : List Rule) (most : ℕ) (trace : List ℕ) {w : Place} {bytes : List ℕ} → PlaceStands w bytes → w.cells ≤ most
    → TraceFollows rules most (rule_numbers trace) w bytes 0 w bytes
follows_none rules most trace P l = record { steps_there = omega arith; same = λ own. refl; within = l; stands = P; long = refl }

-- ---- a step

module _ {rules : List Rule} {most : ℕ} (trace : List ℕ) {w : Place} {bytes : List ℕ} {i : ℕ} {v : Place} {bytes' : List ℕ}
    (F : TraceFollows rules most (rule_numbers trace) w bytes i v bytes') {k : ℕ} (h : i < length trace / 2) (e : k ≡ field (i * 2) 2 trace) where
  -- what is answered, where the rule numbers left begin with k
  answer_from : (own : Automaton) → replayed rules own most 0 w.cells (place_configuration w bytes) (rule_numbers trace)
      ≡ replayed rules own most i v.cells (place_configuration v bytes') (k ∷ drop (i + 1) (rule_numbers trace))
  answer_from own = F.same own ∙ ap (replayed rules own most i v.cells (place_configuration v bytes')) (numbers_left trace i h e)

  module _ {r : Result Place Stop} (bytes'' : List ℕ) (a : StepAnswers rules most k v bytes' r bytes'') where
    answers : {q : Result Place Stop} → r ≡ q → StepAnswers rules most k v bytes' q bytes''
    answers f = subst (λ (q : Result Place Stop). StepAnswers rules most k v bytes' q bytes'') f a

    pub turn_fails : r ≡ Err Fails → (own : Automaton) → replayed rules own most 0 w.cells (place_configuration w bytes) (rule_numbers trace) ≡ FailsAt i
    turn_fails f own = answer_from own ∙ replayed_fails rules own most i v.cells (place_configuration v bytes') k _ (answers f)

    pub turn_short : r ≡ Err Short → (own : Automaton) → replayed rules own most 0 w.cells (place_configuration w bytes) (rule_numbers trace) ≡ Refused 11
    turn_short f own =
        let s = answers f in
        answer_from own ∙ replayed_short rules own most i v.cells (place_configuration v bytes') k _ s.applies s.lacks

    pub turn_goes : (u : Place) → r ≡ Ok u → length bytes'' ≡ length bytes' → TraceFollows rules most (rule_numbers trace) w bytes (i + 1) u bytes''
    turn_goes u f l =
        let s = answers f in
        let n = length_numbers trace in
        let c : u.cells ≡ v.cells + s.more = s.cells_are in
        let fit : v.cells + s.more ≤ most = omega (arith, s.within) in
        record {
          steps_there = omega arith;
          same = λ own. answer_from own
              ∙ replayed_goes rules own most i v.cells (place_configuration v bytes') k _ s.applies fit
              ∙ λ j. replayed rules own most (sym (add-one i) j) (sym c j) (place_configuration u bytes'') (drop (i + 1) (rule_numbers trace));
          within = s.within;
          stands = s.stands;
          long = l ∙ F.long;
        }

-- ---- all steps

pub follows_all : {rules : List Rule} {most : ℕ} (trace : List ℕ) {w : Place} {bytes : List ℕ} {i : ℕ} {v : Place} {bytes' : List ℕ}
    → TraceFollows rules most (rule_numbers trace) w bytes i v bytes' → length trace / 2 ≤ i
    → TraceFollows rules most (rule_numbers trace) w bytes (length (rule_numbers trace)) v bytes'
follows_all {rules} {most} trace {w} {bytes} {i} {v} {bytes'} F h =
    let l = length_numbers trace in
    let e : i ≡ length (rule_numbers trace) = omega (arith, F.steps_there) in
    subst (λ (n : ℕ). TraceFollows rules most (rule_numbers trace) w bytes n v bytes') e F
