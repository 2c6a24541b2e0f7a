use Rattle.high_ir.specs.View.{function_of, statement_of}
use Rattle.high_cases.proofs.Samples.{counting_made}
use Rattle.high_cases.proofs.looping.counting.Goals as goal

pub around-requires : goal.around-requires
around-requires c =
    counting_made c.args.first c.args.limit c.args.by.min c.args.by.max c.args.of (statement_of c.in_ok-body.body) (function_of c.in_ok-main.main) c.in_ok-body.ensures c.in_ok-main.ensures
