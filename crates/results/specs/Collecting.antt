-- The rules of a body and the results of a round.
-- Assumes nothing.
pub mod Laws
use Rattle.std.specs.Prelude.{ℕ, ◌*◌, ◌≤◌, ◌<◌, not, ◌≡◌, List, length}
use Rattle.words.specs.Lists.{only}
use Rattle.words.specs.Order.{sorted}
use Rattle.stacks.specs.System.{Rule}
use Rattle.automata.specs.Automaton.{Automaton}
use Rattle.automata.specs.Derivation.{Result, result_key}
use Rattle.automata.specs.Saturation.{held, results}
use Rattle.files.specs.Case.{rule_of, rule_bytes}
use Rattle.bytes_in.specs.Records.{record_at}
use Rattle.case_records.specs.declared.rules.Rules.{Rules}
use Rattle.tables.specs.declared.Table.{Table}
use Rattle.tables.specs.Rows.{first_of}
use Rattle.tables.specs.Held.{automaton_of}
use Rattle.readings.specs.declared.Before.{Before}
use Rattle.readings.specs.Indexed.{Indexed}
use Rattle.readings.specs.Before.{table_before}
use Rattle.readings.specs.Memo.{MemoBefore}
use Rattle.premises.specs.Settled.{SettledBy}

-- rule number i of a body
unfoldable pub rule_in : List ℕ → ℕ → Rule
rule_in body i = rule_of (rule_bytes (record_at 5 i body))

-- the first rules of a body
unfoldable pub rules_in : ℕ → List ℕ → List Rule
rules_in count body = first_of count (rule_in body)

-- the same by the rules as one value
abbrev pub rules_held : Rules → List Rule
rules_held r = rules_in r.count r.body.now

-- The rules are in the body, and go to controls below 64.
pub record RulesStand (count : ℕ) (body : List ℕ) : Type 0 where
  pub rules_lent : count * 5 ≤ length body
  pub nexts_small : (i : ℕ) → i < count → (rule_in body i).next < 64

-- the results that are not yet held, sorted, each once: what a round adds
unfoldable pub new_results : List Rule → Automaton → List Result
new_results rules A = sorted result_key (only (λ x. not (held A x)) (results rules A))

-- A round can be worked out: its tables stand with the index of the moves, all that the table of the round before gives is held, the memo
-- table has no row of this round, and no state is known to be settled.
pub record RoundReady (z : Table) (inner entries moves states words : List ℕ) (t : Before) (count : ℕ) (body memo : List ℕ) : Type 0 where
  pub indexed : Indexed z inner entries moves states words
  pub rules_stand : RulesStand count body
  pub settled_by : SettledBy (automaton_of z inner entries moves) t (results (rules_in count body) (table_before t (automaton_of z inner entries moves)))
  pub memo_before : MemoBefore z.moves memo
  pub none_settled : t.settled ≡ 0

-- The same, but for the tables and their index: they stand in a struct that says so.
pub record RoundKnown (A : Automaton) (t : Before) (count : ℕ) (body memo : List ℕ) : Type 0 where
  pub rules_stand : RulesStand count body
  pub settled_by : SettledBy A t (results (rules_in count body) (table_before t A))
  pub memo_before : MemoBefore (length A.moves) memo
  pub none_settled : t.settled ≡ 0
