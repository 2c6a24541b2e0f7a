use Rattle.std.proofs.Common.{◌≡◌, drop}
use Rattle.high_code.specs.Code.{assigns_any}
use Rattle.high_ir.specs.View.{statements_of}
use Rattle.make_pieces.proofs.changes.+assigns.Given as goal

abbrev pub invariant-assigns_any-loop-statement : goal.invariant-assigns_any-loop-statement
invariant-assigns_any-loop-statement l = assigns_any l.x (statements_of (drop l.statement-index l.statements)) ≡ assigns_any l.x (statements_of l.statements)
