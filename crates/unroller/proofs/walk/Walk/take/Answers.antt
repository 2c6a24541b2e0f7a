use Rattle.std.proofs.lemmas.Bool.{le-ltb, lt-ltb}
use Rattle.high_ir.specs.View.{statement_of}
use Rattle.high_unrolled.specs.Factor.{as_loop}
use Rattle.unroller.specs.View.{progress_of}
use Rattle.unroller.proofs.Progress.{long_code, long_goes, short_code, short_goes}
use Rattle.unroller.proofs.walk.Walk.take.Goals as goal

pub returns-then-by-factor-clause-code : goal.returns-then-by-factor-clause-code
returns-then-by-factor-clause-code c =
    let by = c.args.by in
    short_code c.args.factor (progress_of c.args.self.now).place _ (as_loop by.id by.min by.max (statement_of c.args.body.now)) c.in_ok-take_short.ensures.code (lt-ltb by.max c.args.factor c.if-by-factor.true)

pub returns-then-by-factor-clause-progress : goal.returns-then-by-factor-clause-progress
returns-then-by-factor-clause-progress c =
    let by = c.args.by in
    short_goes c.args.factor c.growth-grown.result (progress_of c.args.self.now) _ (as_loop by.id by.min by.max (statement_of c.args.body.now)) c.growth-grown.ensures c.in_ok-take_short.ensures.progress (lt-ltb by.max c.args.factor c.if-by-factor.true)

pub returns-clause-code : goal.returns-clause-code
returns-clause-code c =
    let by = c.args.by in
    long_code c.args.factor (progress_of c.args.self.now).place _ (as_loop by.id by.min by.max (statement_of c.args.body.now)) c.in_ok-take_long.ensures.code (le-ltb by.max c.args.factor c.if-by-factor.false)

pub returns-clause-progress : goal.returns-clause-progress
returns-clause-progress c =
    let by = c.args.by in
    long_goes c.args.factor c.growth-grown.result (progress_of c.args.self.now) _ (as_loop by.id by.min by.max (statement_of c.args.body.now)) c.growth-grown.ensures c.in_ok-take_long.ensures.progress (le-ltb by.max c.args.factor c.if-by-factor.false)
