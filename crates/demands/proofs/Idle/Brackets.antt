-- Programs that print a start in another way than document 02 states. The answer that each gives at a model contradicts what is stated of brackets, read
-- alone.
-- Assumes nothing.
use Rattle.std.specs.Prelude.{ℕ, ◌≡◌, refl, List, get_or, take, drop}
use Rattle.std.proofs.Common.{ap, sym, ◌∙◌}
use Rattle.std.proofs.lemmas.Bool.{eqb-false}
use Rattle.stacks.specs.Stack.{nil1, cons1, Stack2, nil2, cons2, Annotation, of1, of2, annotation_order}
use Rattle.replies.specs.declared.Brackets.TheVariants.{Refused, Printed}
use Rattle.replies.specs.Numbers.{brackets_number, brackets_length}
use Rattle.words.specs.Lists.{zeros}
use Rattle.services.specs.Memory.{padded}
use Rattle.services.specs.Listing.{ascii}
use Rattle.services.specs.Brackets.{BracketsInput, BracketsDone, brackets_service}
use Rattle.models.specs.Computing.{computed}
use Rattle.models.specs.Files.{case_collapse, start_collapse, case_brackets, start_brackets}
use Rattle.demands.specs.Demand1.{BracketsStates}
use Rattle.demands.proofs.Determined.{brackets_only}
use Rattle.demands.specs.Brackets.{Distinct}
use Rattle.demands.proofs.BracketsProof.{prints_told}
use Rattle.demands.proofs.Instances.{brackets_a}

-- ---- the inputs, beside those of model A

-- symbol 0 annotated by the order-2 stack [[0]], with 20 bytes lent
unfoldable pub brackets_collapse : BracketsInput
brackets_collapse = record { case = case_collapse; start = start_collapse; number = 1; text = 20 }

-- symbol 0 annotated by the empty order-1 stack, start 0, and by the empty order-2 stack, start 1
unfoldable pub brackets_either : ℕ → BracketsInput
brackets_either n = record { case = case_brackets; start = start_brackets; number = n; text = 11 }

-- ---- the one answer that demand 1 leaves

reply_is : (x : BracketsInput) (d : BracketsDone) → BracketsStates x d → d.reply ≡ (brackets_service x).reply
reply_is x d s = ap (λ (e : BracketsDone). e.reply) (brackets_only x d s)

text_is : (x : BracketsInput) (d : BracketsDone) → BracketsStates x d → d.text ≡ (brackets_service x).text
text_is x d s = ap (λ (e : BracketsDone). e.text) (brackets_only x d s)

-- byte i of a text that such an answer leaves
byte_is : (x : BracketsInput) (d : BracketsDone) (i : ℕ) {text : List ℕ} → BracketsStates x d → d.text ≡ text
    → get_or text i 0 ≡ get_or (brackets_service x).text i 0
byte_is x d i s e = ap (λ (l : List ℕ). get_or l i 0) (sym e ∙ text_is x d s)

-- ---- the annotation's order left out

pub order_left_out : (d : BracketsDone) → d.text ≡ padded 14 (ascii "[[1 {[]}]]") → BracketsStates (brackets_a 1 14) d → ⊥
unfolding computed brackets_a
order_left_out d e s = eqb-false 123 49 refl (byte_is (brackets_a 1 14) d 4 s e)

-- a stack of one symbol
abbrev alone : ℕ → Annotation → Stack2
alone a u = cons2 (cons1 a u nil1) nil2

orders_differ : (a : ℕ) → alone a (of1 nil1) ≡ alone a (of2 nil2) → ⊥
unfolding annotation_order
orders_differ a e = let z : of1 nil1 ≡ of2 nil2 = cc in eqb-false 1 2 refl (ap annotation_order z)

-- Whatever a printer puts there, if it puts the same for both orders, two stacks print alike.
pub orders_alike : (print : Stack2 → List ℕ) (a : ℕ) → print (alone a (of1 nil1)) ≡ print (alone a (of2 nil2)) → Distinct print → ⊥
orders_alike print a e distinct = orders_differ a (distinct _ _ e)

pub orders_printed_alike : (d e : BracketsDone) (k m : ℕ) → d.reply ≡ Printed k → e.reply ≡ Printed m → take k d.text ≡ take m e.text
    → BracketsStates (brackets_either 0) d → BracketsStates (brackets_either 1) e → ⊥
unfolding computed brackets_either
orders_printed_alike d e k m f g h s t = orders_differ 0 (prints_told (brackets_either 0) (brackets_either 1) d e k m s t f g h)

-- ---- 13 with the first bytes of the text left in place, and as many bytes printed as fit

pub left_in_place : (d : BracketsDone) → d.text ≡ take 10 (ascii "[[1 1{[]}]]") → BracketsStates (brackets_a 1 10) d → ⊥
unfolding computed brackets_a
left_in_place d e s = eqb-false 91 0 refl (byte_is (brackets_a 1 10) d 0 s e)

pub cut_short : (d : BracketsDone) (k : ℕ) → d.reply ≡ Printed k → BracketsStates (brackets_a 1 10) d → ⊥
unfolding computed brackets_a
cut_short d k e s = eqb-false 0 13 refl (ap brackets_number (sym e ∙ reply_is (brackets_a 1 10) d s))

-- ---- a space after the last symbol

pub space_after_last : (d : BracketsDone) → d.text ≡ padded 14 (ascii "[[1 1{[]} ]]") → BracketsStates (brackets_a 1 14) d → ⊥
unfolding computed brackets_a
space_after_last d e s = eqb-false 32 93 refl (byte_is (brackets_a 1 14) d 9 s e)

-- ---- an order-2 annotation printed as a single order-1 stack

pub annotation_flat : (d : BracketsDone) → d.text ≡ padded 20 (ascii "[[0 2{[0 1{[]}]}]]") → BracketsStates brackets_collapse d → ⊥
unfolding computed brackets_collapse
annotation_flat d e s = eqb-false 48 91 refl (byte_is brackets_collapse d 7 s e)

-- ---- the lowest stack first

pub bottom_first : (d : BracketsDone) → d.text ≡ ascii "[[1 1{[]}][0 1{[]}]]" → BracketsStates (brackets_a 0 20) d → ⊥
unfolding computed brackets_a
bottom_first d e s = eqb-false 49 48 refl (byte_is (brackets_a 0 20) d 2 s e)

-- ---- bytes after the text left as they were

pub untouched_after : (d : BracketsDone) → (drop 11 d.text ≡ zeros 3 → ⊥) → BracketsStates (brackets_a 1 14) d → ⊥
unfolding computed brackets_a
untouched_after d h s = h (ap (drop 11) (text_is (brackets_a 1 14) d s))

-- ---- "Refusing every file", also with 13, and 13 before 7

pub refuses_brackets : (d : BracketsDone) (n : ℕ) → d.reply ≡ Refused n → BracketsStates (brackets_a 1 14) d → ⊥
unfolding computed brackets_a
refuses_brackets d n e s = eqb-false 0 11 refl (ap brackets_length (sym e ∙ reply_is (brackets_a 1 14) d s))

pub thirteen_for_seven : (d : BracketsDone) → d.reply ≡ Refused 13 → BracketsStates (brackets_a 3 0) d → ⊥
unfolding computed brackets_a
thirteen_for_seven d e s = eqb-false 13 7 refl (ap brackets_number (sym e ∙ reply_is (brackets_a 3 0) d s))

-- ---- nothing printed, with length 0

pub prints_nothing : (d : BracketsDone) → d.reply ≡ Printed 0 → BracketsStates (brackets_a 1 14) d → ⊥
unfolding computed brackets_a
prints_nothing d e s = eqb-false 0 11 refl (ap brackets_length (sym e ∙ reply_is (brackets_a 1 14) d s))
