use Rattle.std.proofs.Common.{◌≡◌, ◌<◌, ℕ, true}
use Rattle.high_ir.specs.Programs.{program_of}
use Rattle.inliner.specs.Inlining.{by_rank, swept}
use Rattle.inliner.specs.Sites.{is_open}
use Rattle.inliner.specs.View.{IsSizedMaking, making_of}
use Rattle.inliner.proofs.settling.settle.Given as goal

abbrev pub invariant-loop-sweeps : goal.invariant-loop-sweeps
invariant-loop-sweeps l = record {
  order : l.order.items ≡ by_rank (program_of l.program).functions;
  made : making_of l.making ≡ swept l.limit (program_of l.program) l.sweeps;
  sized : IsSizedMaking l.making;
  wanted : (n : ℕ) → n < l.sweeps → is_open l.limit (swept l.limit (program_of l.program) n) ≡ true;
}
