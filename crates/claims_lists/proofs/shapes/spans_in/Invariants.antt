use Rattle.std.proofs.Common.{◌≡◌}
use Rattle.claims_lists.specs.Spans.{spans_in}
use Rattle.claims_lists.proofs.shapes.spans_in.Given as goal

abbrev pub invariant-loop-function : goal.invariant-loop-function
invariant-loop-function l = l.spans.items ≡ spans_in l.layout l.function
