-- How long the words of lent memory are, where they stand, and words written over zeros.
-- Assumes nothing.
use Rattle.std.specs.Prelude.{ℕ, zero, suc, ◌+◌, ◌-◌, ◌*◌, ◌≤◌, ◌≡◌, refl, List, [], ◌∷◌, ◌++◌, length, get_or, drop}
use Rattle.std.proofs.Common.{ap, sym, ◌∙◌, zero-add, zero-mul, suc-mul, arith, length-append}
use Rattle.std.proofs.Math.Nat.{sub-zero}
use Rattle.std.proofs.lemmas.List.Edits.{sets, sets-eq}
use Rattle.words.specs.Lists.{each, zeros}
use Rattle.words.specs.Lists.Laws.{length_zeros, drop_zeros}
use Rattle.automata.specs.Automaton.{Automaton, Move, Entry}
use Rattle.services.specs.Memory.{padded, with_counts, counted, move_words, entry_words, entry_width, move_table, entry_table}

pub padded_none : (n : ℕ) → padded n [] ≡ zeros n
unfolding padded
padded_none n = ap zeros (sub-zero n)

pub length_padded : (n : ℕ) (ws : List ℕ) → length ws ≤ n → length (padded n ws) ≡ n
unfolding padded
length_padded n ws h =
    let e : length (padded n ws) ≡ length ws + (n - length ws) = length-append ws (zeros (n - length ws)) ∙ ap (λ (k : ℕ). length ws + k) (length_zeros (n - length ws)) in
    omega arith

-- words written from the start of a slice that is all zero
pub sets_zeros : (n : ℕ) (ws : List ℕ) → length ws ≤ n → sets (zeros n) 0 ws ≡ padded n ws
unfolding padded
sets_zeros n ws h =
    let l : length (zeros n) ≡ n = length_zeros n in
    sets-eq ws (zeros n) 0 (omega arith)
    ∙ ap (λ (k : ℕ). ws ++ drop k (zeros n)) (zero-add (length ws))
    ∙ ap (λ (zs : List ℕ). ws ++ zs) (drop_zeros (length ws) n)

-- zeros behind words change none, as there is 0 past their end
get_or_zeros : (ws : List ℕ) (k i : ℕ) → get_or (ws ++ zeros k) i 0 ≡ get_or ws i 0
get_or_zeros [] zero i = refl
get_or_zeros [] (suc k) zero = refl
get_or_zeros [] (suc k) (suc i) = get_or_zeros [] k i
get_or_zeros (w ∷ ws) k zero = refl
get_or_zeros (w ∷ ws) k (suc i) = get_or_zeros ws k i

pub get_or_padded : (n : ℕ) (ws : List ℕ) (i : ℕ) → get_or (padded n ws) i 0 ≡ get_or ws i 0
unfolding padded
get_or_padded n ws i = get_or_zeros ws (n - length ws) i

-- records of one size, one after another
length_each : {A : Type 0} (k : ℕ) (f : A → List ℕ) (l : List A) → ((x : A) → length (f x) ≡ k) → length (each l f) ≡ length l * k
unfolding each
length_each k f [] h = sym (zero-mul k)
length_each k f (x ∷ xs) h =
    let e : length (f x ++ each xs f) ≡ length (f x) + length (each xs f) = length-append (f x) (each xs f) in
    let r : length (each xs f) ≡ length xs * k = length_each k f xs h in
    let m : suc (length xs) * k ≡ length xs * k + k = suc-mul (length xs) k in
    let w : length (f x) ≡ k = h x in
    omega arith

pub length_move_table : (A : Automaton) → length (move_table A) ≡ length A.moves * 5
unfolding move_table move_words
length_move_table A = length_each 5 move_words A.moves (λ m. refl)

pub length_with_counts : (ms : List Move) (r : ℕ) (es : List Entry) → length (with_counts ms r es) ≡ length es
unfolding with_counts
length_with_counts ms r [] = refl
length_with_counts ms r (e ∷ es) = ap suc (length_with_counts ms (suc r) es)

pub length_entry_table : (A : Automaton) → length (entry_table A) ≡ length A.entries * entry_width
unfolding entry_table entry_words counted
length_entry_table A =
    length_each entry_width entry_words (counted A) (λ c. refl)
    ∙ ap (λ (n : ℕ). n * entry_width) (length_with_counts A.moves A.J A.entries)
