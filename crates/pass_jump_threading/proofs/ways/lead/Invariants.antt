use Rattle.std.specs.Prelude.{All}
use Rattle.low_ir.specs.View.{function_of}
use Rattle.pass_jump_threading.specs.Facts.{known_in}
use Rattle.pass_jump_threading.specs.Planning.{IsSeen, Leads}
use Rattle.pass_jump_threading.proofs.ways.lead.Given as goal

abbrev pub invariant-loop : goal.invariant-loop
invariant-loop l = All (IsSeen l.seen) (function_of l.function).loops → Leads (function_of l.function) (known_in l.held l.facts) l.block l.at
