use Rattle.high_ir.specs.View.{function_of, statement_of}
use Rattle.high_cases.proofs.Samples.{tens_made}
use Rattle.high_cases.proofs.looping.nested.Goals as goal

pub around-requires : goal.around-requires
around-requires c = tens_made (statement_of c.in_ok-body.body) (function_of c.in_ok-main.main) c.in_ok-body.ensures c.in_ok-main.ensures
