-- Small models that tell document 01's readings from wrong ones, as automata and rules. (The worked models themselves are proved from the
-- bytes of their files in the crate `models`, which also shows that model A's file decodes to the records here.)
-- Assumes nothing.
use Rattle.std.specs.Prelude.{true, false, ◌≡◌, refl, List, [], ◌∷◌}
use Rattle.stacks.specs.Stack.{Stack2, nil1, cons1, nil2, cons2, Annotation, of1, of2, copy, push2, collapse2}
use Rattle.stacks.specs.System.{Rule}
use Rattle.automata.specs.Automaton.{Automaton}
use Rattle.automata.specs.Acceptance.{accepts2}
use Rattle.automata.specs.Saturation.{table_after}
use Rattle.automata.specs.Computing.{computed}

-- ---- "Joining the annotation set of an order-2 push to R instead of S"

-- model A: the target is control 1 on symbol 1; rule 0 pushes symbol 1 at order 2, rule 1 collapses it
unfoldable pub rules_a : List Rule
rules_a =
    record { control = 0; symbol = 0; operation = push2 1; next = 0 }
    ∷ record { control = 0; symbol = 1; operation = collapse2; next = 1 }
    ∷ []

unfoldable pub own_a : Automaton
own_a =
    record {
      J = 0;
      final1 = 0;
      final2 = 0;
      inner = [];
      entries = record { control = 1; S = 0 } ∷ [];
      moves = record { state = 0; symbol = 1; order = 0; B = 0; R = 0 } ∷ [];
    }

-- after one round: entry [0,empty] with (1, order 2 {1}, empty)
unfoldable pub first_a : Automaton
first_a =
    record {
      J = 0;
      final1 = 0;
      final2 = 0;
      inner = [];
      entries = record { control = 1; S = 0 } ∷ record { control = 0; S = 0 } ∷ [];
      moves =
          record { state = 0; symbol = 1; order = 0; B = 0; R = 0 }
          ∷ record { state = 1; symbol = 1; order = 2; B = 2; R = 0 }
          ∷ [];
    }

-- after two rounds: entry [0,empty] with (1, order 2 {1}, empty), then [0,{1}] with (0, empty, empty)
unfoldable pub table_a : Automaton
table_a =
    record {
      J = 0;
      final1 = 0;
      final2 = 0;
      inner = [];
      entries = record { control = 1; S = 0 } ∷ record { control = 0; S = 0 } ∷ record { control = 0; S = 2 } ∷ [];
      moves =
          record { state = 0; symbol = 1; order = 0; B = 0; R = 0 }
          ∷ record { state = 1; symbol = 1; order = 2; B = 2; R = 0 }
          ∷ record { state = 2; symbol = 0; order = 0; B = 0; R = 0 }
          ∷ [];
    }

pub push_joins_S : table_after rules_a own_a 2 ≡ table_a
unfolding computed rules_a own_a table_a
push_joins_S = refl

-- ---- "Letting a set of order-1 states accept an order-2 annotation of the same bits"

-- control 0 accepts symbol 0 annotated, at order 1, by what inner order-1 state 0 accepts, the empty stack
unfoldable pub order_one : Automaton
order_one =
    record {
      J = 1;
      final1 = 1;
      final2 = 0;
      inner = [];
      entries = record { control = 0; S = 0 } ∷ [];
      moves = record { state = 1; symbol = 0; order = 1; B = 1; R = 0 } ∷ [];
    }

-- symbol 0 annotated u, alone
unfoldable pub alone : Annotation → Stack2
alone u = cons2 (cons1 0 u nil1) nil2

-- an order-1 annotation is accepted, and an order-2 one is not, though order-2 state 0 accepts it
pub order1_accepted : accepts2 order_one (alone (of1 nil1)) 0 ≡ true
unfolding computed order_one alone
order1_accepted = refl

pub order2_refused : accepts2 order_one (alone (of2 (alone (of1 nil1)))) 0 ≡ false
unfolding computed order_one alone
order2_refused = refl

-- ---- "Treating an empty set in a copy as a failed reading; it has exactly one"

-- control 1 on symbol 0 is the target; the rule copies and goes to control 1
unfoldable pub rules_copy : List Rule
rules_copy = record { control = 0; symbol = 0; operation = copy; next = 1 } ∷ []

unfoldable pub own_copy : Automaton
own_copy =
    record {
      J = 0;
      final1 = 0;
      final2 = 0;
      inner = [];
      entries = record { control = 1; S = 0 } ∷ [];
      moves = record { state = 0; symbol = 0; order = 0; B = 0; R = 0 } ∷ [];
    }

-- the copy is accepted after one round, by the one reading of the empty set
pub empty_reading : accepts2 (table_after rules_copy own_copy 1) (alone (of1 nil1)) 0 ≡ true
unfolding computed rules_copy own_copy alone
empty_reading = refl
