-- `operations::put_rules`: what its loops keep.
use Rattle.operations.specs.Laws.Rules.{RulesPut}
use Rattle.operations.proofs.put_rules.Given as goal

abbrev pub invariant-loop-i : goal.invariant-loop-i
invariant-loop-i l = RulesPut l.codes l.body l.initial.rules l.n l.i l.rules
