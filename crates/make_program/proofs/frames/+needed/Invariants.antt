use Rattle.std.proofs.Common.{◌≡◌, drop, max}
use Rattle.high_code.specs.Code.{frame_needed_all}
use Rattle.high_ir.specs.View.{statements_of}
use Rattle.make_program.proofs.frames.+needed.Given as goal

abbrev pub invariant-frame_needed_all-loop-statement : goal.invariant-frame_needed_all-loop-statement
invariant-frame_needed_all-loop-statement l = max l.needed (frame_needed_all (statements_of (drop l.statement-index l.statements))) ≡ frame_needed_all (statements_of l.statements)
