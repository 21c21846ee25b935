-- Forms by numbers, and a file's rules in our codes.
-- Assumes nothing.
pub mod Laws
use Rattle.std.specs.Prelude.{ℕ, ◌*◌, ◌≤◌, Bool, not, ◌≡◌, List, [], ◌∷◌, ◌++◌, map, length, eqb, Option as Answer, Some, None}
use Rattle.std.proofs.Math.Option.{Option, none, some}
use Rattle.case_file.specs.declared.Form.{Form as FormValue}
use Rattle.case_file.specs.declared.Form.TheVariants.{Plain, Coded}
use Rattle.files.specs.Bytes.{count_of, records, records_of}
use Rattle.files.specs.Codes.{in_our_codes}
use Rattle.files.specs.Writing.{flat}
use Rattle.files.specs.Case.{case_bodies, code_body, Form, form, codes_of, rule_bytes, rule_records}

-- the form that an answer of the code stands for
unfoldable pub the_form : Answer FormValue → Option Form
the_form None = none
the_form (Some Plain) = some (record { bodies = case_bodies; codes = 0 })
the_form (Some Coded) = some (record { bodies = case_bodies ++ code_body 8 ∷ []; codes = 8 })

-- the codes of a form's record
unfoldable pub codes_in : Option Form → ℕ
codes_in none = 0
codes_in (some f) = f.codes

-- the file has a record of codes
unfoldable pub has_codes : List ℕ → Bool
has_codes file = not (eqb (codes_in (form file)) 0)

-- the bytes of the file's rules, in our codes
unfoldable pub our_rules : List ℕ → List ℕ
our_rules file = flat (map (in_our_codes (codes_of file)) (records_of file 1 5))

-- these bytes hold the file's rules, in our codes
pub record HoldsRules (file rules : List ℕ) (count : ℕ) : Type 0 where
  pub rules_fit : count * 5 ≤ length rules
  pub rules_are : map rule_bytes (records count 5 rules) ≡ rule_records file
  pub count_is : count ≡ count_of file 1
