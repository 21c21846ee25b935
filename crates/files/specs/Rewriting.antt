-- A case rewritten to our codes.
-- Assumes nothing.
use Rattle.std.specs.Prelude.{ℕ, true, false, ◌≡◌, List, map, eqb}
use Rattle.files.specs.Codes.{in_our_codes}
use Rattle.files.specs.Writing.{Part, encode, decode}
use Rattle.files.specs.Case.{case_bodies, codes_of, head, case_refusal, own_of, rules_of}

-- the rules' body with our codes, and each other body as it is
unfoldable pub ruled : List ℕ → Part → Part
ruled codes x = elim (eqb x.body.kind 2) [
  | true ↦ record { body = x.body; records = map (in_our_codes codes) x.records }
  | false ↦ x
]

-- "The case rewritten to our codes": the file of first byte 4 with the same other bodies.
unfoldable pub rewriting : List ℕ → List ℕ
rewriting file = encode 4 (map (ruled (codes_of file)) (decode case_bodies file))

-- a case file that is refused with none of 1, 2 and 12
pub record Readable (file : List ℕ) : Type 0 where
  pub in_place : case_refusal file ≡ 1 → ⊥
  pub in_range : case_refusal file ≡ 2 → ⊥
  pub codes_apart : case_refusal file ≡ 12 → ⊥

-- two case files with the same refusal that decode to the same case
pub record SameCase (one other : List ℕ) : Type 0 where
  pub same_refusal : case_refusal one ≡ case_refusal other
  pub same_head : head one ≡ head other
  pub same_own : own_of one ≡ own_of other
  pub same_rules : rules_of one ≡ rules_of other
