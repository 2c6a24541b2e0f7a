use Rattle.std.proofs.Common.{◌≡◌, ◌-◌}
use Rattle.high_code.specs.Code.{joined}
use Rattle.high_ir.specs.Standing.{marks_of}
use Rattle.high_ir.specs.Tree.{End}
use Rattle.high_ir.specs.View.{statement_of, statements_of}
use Rattle.high_unrolled.specs.Starts.{repeated, starts}
use Rattle.unroller.specs.View.{copied, progress_of}
use Rattle.unroller.proofs.walk.Walk.starts.Given as goal

abbrev pub invariant-loop : goal.invariant-loop
invariant-loop l = record {
  code : joined (statements_of l.made.items) (starts (l.count - l.counter) (progress_of l.self).place.marks (statement_of l.body) End) ≡ starts l.count (progress_of l.fn.self).place.marks (statement_of l.body) End;
  progress : copied (progress_of l.self) (repeated (l.count - l.counter) (marks_of (statement_of l.body))) ≡ copied (progress_of l.fn.self) (repeated l.count (marks_of (statement_of l.body)));
}
