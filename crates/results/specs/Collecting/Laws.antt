-- The loop over the rules of a body, and what it ends with.
-- Assumes nothing.
use Rattle.std.specs.Prelude.{ℕ, ◌+◌, ◌≤◌, ◌<◌, ◌≡◌, length}
use Rattle.std.proofs.Math.Bool.{not}
use Rattle.std.proofs.Math.Path.{refl, ap}
use Rattle.std.proofs.Common.{sym, ◌∙◌, subst}
use Rattle.std.proofs.Math.Option.{Option}
use mathlib.Core.List.{List, [], ◌∷◌, ◌++◌, Memᴰ}
use native.Mathlib.Omega.{arith}
use Rattle.words.specs.Lists.{each, only}
use Rattle.words.specs.Lists.Laws.{each_append, each_one, each_in, get_or_in}
use Rattle.words.specs.Order.{sorted}
use Rattle.stacks.specs.System.{Rule}
use Rattle.automata.specs.Automaton.{Automaton}
use Rattle.automata.specs.Derivation.{Result, result_key}
use Rattle.automata.specs.Saturation.{held, results}
use Rattle.files.specs.Case.{rule_of, rule_bytes}
use Rattle.bytes_in.specs.Records.{record_at}
use Rattle.tables.specs.declared.Table.{Table}
use Rattle.tables.specs.Rows.{first_of, rows_in}
use Rattle.tables.specs.Rows.Laws.{first_of_more, length_first_of, get_or_first_of, length_rows_in}
use Rattle.tables.specs.Layouts.{move_row}
use Rattle.tables.specs.Held.{automaton_of}
use Rattle.tables.specs.Pending.{limited, pending_in}
use Rattle.tables.specs.Pending.Laws.{pending_fits}
use Rattle.offers.specs.Offers.{Collects, offer_all}
use Rattle.offers.specs.Offers.Laws.{offered_all, collects_none, collects_then, collects_same}
use Rattle.readings.specs.declared.Before.{Before}
use Rattle.readings.specs.Before.{table_before}
use Rattle.readings.specs.Memo.{MemoBefore}
use Rattle.premises.specs.Settled.{SettledBy}
use Rattle.premises.specs.Settled.Laws.{settled_within}
use Rattle.results.specs.Rules.{rule_results}
use Rattle.results.specs.Rules.Laws.{results_are}
use Rattle.results.specs.Collecting.{rule_in, rules_in, RulesStand, new_results, RoundReady, RoundKnown}

module _ (A : Automaton) (room : ℕ) (body t : List ℕ) where
  -- The results of the first i rules were offered.
  pub record RulesUpTo (i n : ℕ) (t' : List ℕ) : Type 0 where
    pub offered : Collects A room 0 t (each (rules_in i body) (rule_results A)) n t'
    pub long : length t' ≡ length t

  pub rules_none : RulesUpTo 0 0 t
  unfolding rules_in first_of each
  rules_none = record { offered = collects_none 0 t (omega arith); long = refl }

  pub rules_more : (i n n' : ℕ) (t' t'' : List ℕ) (ρ : Rule) → RulesUpTo i n t' → ρ ≡ rule_of (rule_bytes (record_at 5 i body))
      → Collects A room n t' (rule_results A ρ) n' t'' → length t'' ≡ length t' → RulesUpTo (i + 1) n' t''
  unfolding rules_in rule_in
  rules_more i n n' t' t'' ρ h e c l =
      record {
        offered = collects_same
            (sym
            (ap (λ (k : List Rule). each k (rule_results A)) (first_of_more i (rule_in body))
            ∙ each_append (first_of i (rule_in body)) (rule_in body i ∷ []) (rule_results A)
            ∙ ap (λ (k : List Result). each (first_of i (rule_in body)) (rule_results A) ++ k) (each_one (rule_in body i) (rule_results A) ∙ ap (rule_results A) (sym e))))
            (collects_then h.offered c);
        long = l ∙ h.long;
      }

  pub rules_all : (count i n : ℕ) (t' : List ℕ) → RulesUpTo i n t' → i ≤ count → count ≤ i → pending_in room n t' ≡ limited room (new_results (rules_in count body) A)
  unfolding new_results rows_in first_of
  rules_all count i n t' h b l =
      let e : i ≡ count = omega arith in
      h.offered.collected
      ∙ ap (λ (o : Option (List Result)). offer_all (held A) room o (each (rules_in i body) (rule_results A))) (pending_fits room 0 t (omega arith))
      ∙ offered_all (held A) room (each (rules_in i body) (rule_results A))
      ∙ ap (λ (k : List Result). limited room (sorted result_key (only (λ x. not (held A x)) k))) (sym (results_are (rules_in i body) A))
      ∙ ap (λ (k : ℕ). limited room (sorted result_key (only (λ x. not (held A x)) (results (rules_in k body) A)))) e

pub next_small : (count i : ℕ) (body : List ℕ) (ρ : Rule) → RulesStand count body → i < count → ρ ≡ rule_of (rule_bytes (record_at 5 i body)) → ρ.next < 64
unfolding rule_in
next_small count i body ρ h l e = subst (λ (k : ℕ). k < 64) (ap (λ (x : Rule). x.next) (sym e)) (h.nexts_small i l)

-- what the table of the round before gives by one rule
pub settled_rule : (A : Automaton) (t : Before) (count i : ℕ) (body : List ℕ) (ρ : Rule) → i < count → ρ ≡ rule_of (rule_bytes (record_at 5 i body))
    → SettledBy A t (results (rules_in count body) (table_before t A)) → SettledBy A t (rule_results (table_before t A) ρ)
unfolding rules_in rule_in
settled_rule A t count i body ρ l e s =
    settled_within A t (results (rules_in count body) (table_before t A)) (rule_results (table_before t A) ρ)
    (λ x m. subst (Memᴰ x) (sym (results_are (rules_in count body) (table_before t A)))
    (each_in (rule_results (table_before t A))
    (subst (λ (y : Rule). Memᴰ y (first_of count (rule_in body))) (get_or_first_of count (rule_in body) i (rule_in body i) l ∙ sym e)
    (get_or_in (first_of count (rule_in body)) i (rule_in body i) (let n = length_first_of count (rule_in body) in omega (arith, n)))) m)) s

-- ---- a round that can be worked out

pub round_known : {z : Table} {inner entries moves states words : List ℕ} {t : Before} {count : ℕ} {body memo : List ℕ}
    → RoundReady z inner entries moves states words t count body memo → RoundKnown (automaton_of z inner entries moves) t count body memo
round_known {z} {moves = moves} {memo = memo} h =
    record {
      rules_stand = h.rules_stand;
      settled_by = h.settled_by;
      memo_before = subst (λ n. MemoBefore n memo) (sym (length_rows_in move_row z.moves moves)) h.memo_before;
      none_settled = h.none_settled;
    }
