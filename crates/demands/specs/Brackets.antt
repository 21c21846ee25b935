-- The promises of brackets: no two stacks print alike, the text is printed exactly where it fits, and what is lent does not change it. The proofs are in
-- Brackets/Proof.antt.
-- Assumes nothing.
use Rattle.std.specs.Prelude.{ℕ, ◌≤◌, ◌≡◌, ◌↔◌, List, ◌++◌, length, take}
use Rattle.stacks.specs.Stack.{Stack2}
use Rattle.replies.specs.declared.Brackets.{Brackets}
use Rattle.replies.specs.declared.Brackets.TheVariants.{Refused, Printed}
use Rattle.files.specs.Start.{configuration_at}
use Rattle.services.specs.Brackets.{stack_text, BracketsInput, root_text, BracketsDone, brackets_service}
use Rattle.demands.specs.Refusals.{Returned, TextLonger, brackets_early}
use Rattle.demands.specs.Demand1.{BracketsStates}

-- ---- "No two different order-2 stacks print alike."

-- a printer gives different stacks different texts
abbrev pub Distinct : (Stack2 → List ℕ) → Type 0
Distinct print = (t r : Stack2) → print t ≡ print r → t ≡ r

abbrev pub NoneAlike : Type 0
NoneAlike = Distinct stack_text

-- Nor does it matter what follows: a text at the front of bytes tells the stack, and what follows it.
abbrev pub FrontTold : Type 0
FrontTold = (t r : Stack2) (x y : List ℕ) → stack_text t ++ x ≡ stack_text r ++ y → (t ≡ r) × (x ≡ y)

-- The same of what is printed, whoever prints it: where demand 1 holds of two answers and their texts are alike, the starts have one stack.
abbrev pub PrintsTold : Type 0
PrintsTold =
    (x y : BracketsInput) (d e : BracketsDone) (k m : ℕ) → BracketsStates x d → BracketsStates y e → d.reply ≡ Printed k → e.reply ≡ Printed m
    → take k d.text ≡ take m e.text → (configuration_at x.start x.number).stack ≡ (configuration_at y.start y.number).stack

-- ---- when each answer is given

-- "The reply is the text's length", where no refusal 1 to 7 or 12 applies and the bytes lent suffice; 13 exactly where only they do not.
pub record PrintsExactly (x : BracketsInput) (reply : Brackets) : Type 0 where
  pub printed : (k : ℕ) → (reply ≡ Printed k) ↔ (Returned brackets_early x 0 × (k ≡ length (root_text x)) × (k ≤ x.text))
  pub longer : (reply ≡ Refused 13) ↔ (Returned brackets_early x 0 × TextLonger x)

abbrev pub BracketsExactly : Type 0
BracketsExactly = (x : BracketsInput) → PrintsExactly x (brackets_service x).reply

-- ---- what is lent

-- What is printed of a start depends on its file and number alone, and not on how many bytes are lent, nor on the case.
abbrev pub SameText : Type 0
SameText =
    (x y : BracketsInput) (d e : BracketsDone) (k m : ℕ) → x.start ≡ y.start → x.number ≡ y.number → BracketsStates x d → BracketsStates y e
    → d.reply ≡ Printed k → e.reply ≡ Printed m → (k ≡ m) × (take k d.text ≡ take m e.text)
