-- `replay_trace::replay_trace`: what its loops keep.
use Rattle.services.specs.Replay.{rule_numbers}
use Rattle.results.specs.Collecting.{rules_in}
use Rattle.replay_trace.specs.Turns.{TraceFollows}
use Rattle.replay_trace.proofs.replay_trace.Given as goal

abbrev pub invariant-loop-i : goal.invariant-loop-i
invariant-loop-i l = TraceFollows (rules_in l.count l.body) l.most (rule_numbers l.trace) l.initial.v l.initial.cells l.i l.v l.cells
