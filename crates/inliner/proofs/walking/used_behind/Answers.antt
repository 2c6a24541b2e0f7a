use Rattle.std.proofs.Common.{arith, ap}
use Rattle.high_ir.specs.View.{function_of}
use Rattle.inliner.specs.View.{site_of}
use Rattle.inliner.proofs.Fitted.{behind_made}
use Rattle.inliner.proofs.walking.used_behind.Goals as goal

pub returns : goal.returns
returns c =
    behind_made 0 c.args.used 0 (site_of c.args.call.now) (function_of c.args.function.now) _ _ _ (omega arith) (omega (arith, ap (λ m. m.operations) c.requires.body)) (omega arith)
