-- Each record as words and back.
-- Assumes nothing.
use Rattle.std.specs.Prelude.{ℕ, ◌<◌, ◌≡◌, refl, length, get_or}
use Rattle.std.proofs.Common.{arith}
use Rattle.automata.specs.Automaton.{Move, Entry, Edge, choice_key}
use Rattle.automata.specs.Derivation.{Result, result_key}
use Rattle.services.specs.Memory.{Counted, move_words, entry_words, entry_width}
use Rattle.tables.specs.Rows.{first_of}
use Rattle.tables.specs.Records.{new_words, move_from, entry_from, counted_from, edge_from, result_from}

pub move_length : (x : Move) → length (move_words x) ≡ 5
unfolding move_words
move_length x = refl

pub move_words_lem : (f : ℕ → ℕ) → move_words (move_from f) ≡ first_of 5 f
unfolding move_words first_of
move_words_lem f = refl

pub move_back : (x : Move) → move_from (λ j. get_or (move_words x) j 0) ≡ x
unfolding move_words
move_back x = refl

pub move_same : (f g : ℕ → ℕ) → ((j : ℕ) → j < 5 → f j ≡ g j) → move_from f ≡ move_from g
move_same f g h = λ i. record { state = h 0 (omega arith) i; symbol = h 1 (omega arith) i; order = h 2 (omega arith) i; B = h 3 (omega arith) i; R = h 4 (omega arith) i }

pub new_length : (x : Entry) → length (new_words x) ≡ entry_width
unfolding new_words entry_words
new_length x = refl

pub entry_back : (x : Entry) → entry_from (λ j. get_or (new_words x) j 0) ≡ x
unfolding new_words entry_words
entry_back x = refl

pub entry_same : (f g : ℕ → ℕ) → ((j : ℕ) → j < entry_width → f j ≡ g j) → entry_from f ≡ entry_from g
entry_same f g h = λ i. record { control = h 0 (omega arith) i; S = h 1 (omega arith) i }

pub counted_length : (x : Counted) → length (entry_words x) ≡ entry_width
unfolding entry_words
counted_length x = refl

pub counted_words : (f : ℕ → ℕ) → entry_words (counted_from f) ≡ first_of entry_width f
unfolding entry_words first_of
counted_words f = refl

pub counted_back : (x : Counted) → counted_from (λ j. get_or (entry_words x) j 0) ≡ x
unfolding entry_words
counted_back x = refl

pub counted_same : (f g : ℕ → ℕ) → ((j : ℕ) → j < entry_width → f j ≡ g j) → counted_from f ≡ counted_from g
counted_same f g h = λ i. record { entry = entry_same f g h i; moves = h 2 (omega arith) i }

pub edge_length : (x : Edge) → length (choice_key x) ≡ 3
unfolding choice_key
edge_length x = refl

pub edge_words : (f : ℕ → ℕ) → choice_key (edge_from f) ≡ first_of 3 f
unfolding choice_key first_of
edge_words f = refl

pub edge_back : (x : Edge) → edge_from (λ j. get_or (choice_key x) j 0) ≡ x
unfolding choice_key
edge_back x = refl

pub edge_same : (f g : ℕ → ℕ) → ((j : ℕ) → j < 3 → f j ≡ g j) → edge_from f ≡ edge_from g
edge_same f g h = λ i. record { state = h 0 (omega arith) i; first = h 1 (omega arith) i; S = h 2 (omega arith) i }

pub result_length : (x : Result) → length (result_key x) ≡ 6
unfolding result_key
result_length x = refl

pub result_words : (f : ℕ → ℕ) → result_key (result_from f) ≡ first_of 6 f
unfolding result_key first_of
result_words f = refl

pub result_back : (x : Result) → result_from (λ j. get_or (result_key x) j 0) ≡ x
unfolding result_key
result_back x = refl

pub result_same : (f g : ℕ → ℕ) → ((j : ℕ) → j < 6 → f j ≡ g j) → result_from f ≡ result_from g
result_same f g h = λ i. record { control = h 0 (omega arith) i; S = h 1 (omega arith) i; symbol = h 2 (omega arith) i; order = h 3 (omega arith) i; B = h 4 (omega arith) i; R = h 5 (omega arith) i }
