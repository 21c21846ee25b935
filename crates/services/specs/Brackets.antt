-- A start as brackets: the text of a stack, the service that prints the stack of a start, and the text that the program `show` prints.
-- Assumes nothing.
pub mod Laws
use Rattle.std.specs.Prelude.{ℕ, true, false, List, [], ◌∷◌, ◌++◌, length, take, eqb, ltb}
use Rattle.words.specs.Lists.{zeros}
use Rattle.stacks.specs.Stack.{Stack1, nil1, cons1, Stack2, nil2, cons2, Annotation, of1, of2}
use Rattle.replies.specs.declared.Brackets.{Brackets}
use Rattle.replies.specs.declared.Brackets.TheVariants.{Refused, Printed}
use Rattle.files.specs.Bytes.{Test, first_hit, tests_on}
use Rattle.files.specs.Case.{case_tests}
use Rattle.files.specs.Start.{Files, start_tests, configuration_at}
use Rattle.services.specs.Memory.{padded}
use Rattle.services.specs.Guide.{number_tests}
use Rattle.services.specs.Listing.{ascii, decimal, refused_text}

-- ---- the text of a stack

-- "a space between symbols": what stands before these further symbols
unfoldable pub between : Stack1 → List ℕ
between nil1 = []
between (cons1 a u s) = ascii " "

unfoldable mutual
  -- The symbols of an order-1 stack, "top first, each symbol as its number, a space between symbols", "and its annotation in braces after it".
  pub symbols_text : Stack1 → List ℕ
  symbols_text nil1 = []
  symbols_text (cons1 a u s) = decimal a ++ ascii " " ++ annotation_text u ++ between s ++ symbols_text s

  -- The order-1 stacks of an order-2 stack, top first, each in square brackets, "nothing between stacks".
  pub stacks_text : Stack2 → List ℕ
  stacks_text nil2 = []
  stacks_text (cons2 w t) = ascii "[" ++ symbols_text w ++ ascii "]" ++ stacks_text t

  -- "A symbol's annotation may hold either. The annotation's order, 1 or 2, stands before its brace, after the symbol and a space."
  pub annotation_text : Annotation → List ℕ
  annotation_text (of1 s) = ascii "1{[" ++ symbols_text s ++ ascii "]}"
  annotation_text (of2 t) = ascii "2{[" ++ stacks_text t ++ ascii "]}"

-- an order-2 stack "as nested square brackets"
unfoldable pub stack_text : Stack2 → List ℕ
stack_text t = ascii "[" ++ stacks_text t ++ ascii "]"

-- ---- the service

-- the two files, the number of a start, and the bytes lent for the text
pub record BracketsInput : Type 0 where
  pub case : List ℕ
  pub start : List ℕ
  pub number : ℕ
  pub text : ℕ

unfoldable pub brackets_files : BracketsInput → Files
brackets_files x = record { case = x.case; start = x.start }

-- "The start's root as nested square brackets."
unfoldable pub root_text : BracketsInput → List ℕ
root_text x = stack_text (configuration_at x.start x.number).stack

-- refusal 13: "the text is longer than the bytes lent, after 7"
unfoldable pub length_tests : List (Test BracketsInput)
length_tests = record { fails = λ x. ltb x.text (length (root_text x)); refusal = 13 } ∷ []

-- "1 to 7 and 12 hold here too", and 13
unfoldable pub brackets_refusal : BracketsInput → ℕ
brackets_refusal =
    first_hit
    (tests_on (λ x. x.case) case_tests
    ++ (tests_on brackets_files start_tests ++ (number_tests (λ x. x.start) (λ x. x.number) ++ length_tests)))

-- the reply, and the lent bytes afterwards
pub record BracketsDone : Type 0 where
  pub reply : Brackets
  pub text : List ℕ

-- "The reply is the text's length; bytes after it are zero."
unfoldable pub brackets_answer : BracketsInput → ℕ → BracketsDone
brackets_answer x n = elim (eqb n 0) [
  | true ↦ record { reply = Printed (length (root_text x)); text = padded x.text (root_text x) }
  | false ↦ record { reply = Refused n; text = zeros x.text }
]

-- brackets(case, start, number, text)
unfoldable pub brackets_service : BracketsInput → BracketsDone
brackets_service x = brackets_answer x (brackets_refusal x)

-- ---- the program

-- what `show` lends: 65,536 bytes
unfoldable pub show_input : Files → ℕ → BracketsInput
show_input f n = record { case = f.case; start = f.start; number = n; text = 65536 }

-- The text and a line end. A refusal prints only `refused` and its number.
unfoldable pub shown : Brackets → List ℕ → List ℕ
shown (Refused n) text = refused_text n
shown (Printed k) text = take k text ++ ascii "\n"

unfoldable pub show_text : Files → ℕ → List ℕ
show_text f n = shown (brackets_service (show_input f n)).reply (brackets_service (show_input f n)).text
