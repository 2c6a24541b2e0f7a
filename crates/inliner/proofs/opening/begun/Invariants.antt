use Rattle.std.proofs.Common.{◌≡◌, ◌+◌, drop, map}
use Rattle.high_code.specs.Code.{joined}
use Rattle.high_ir.specs.Tree.{End, Mark, Then}
use Rattle.high_ir.specs.View.{expr_of, statements_of}
use Rattle.inliner.specs.Opening.{assigned}
use Rattle.inliner.proofs.opening.begun.Given as goal

abbrev pub invariant-loop-i : goal.invariant-loop-i
invariant-loop-i l = joined (statements_of l.parts.items) (assigned (l.base + l.i) (map expr_of (drop l.i l.call.values.now)) End) ≡ Then (Mark l.call.function) (assigned l.base (map expr_of l.call.values.now) End)
