use Rattle.std.proofs.Common.{◌≡◌, ◌+◌, ◌-◌, suc, arith, ◌∙◌}
use Rattle.high_ir.specs.Standing.{marks_of}
use Rattle.high_ir.specs.View.{statement_of}
use Rattle.unroller.specs.View.{progress_of}
use Rattle.unroller.proofs.Progress.{repeated_all, repeated_more, starts_all, starts_more}
use Rattle.unroller.proofs.walk.Walk.starts.Goals as goal

pub loop-preserved : goal.loop-preserved
loop-preserved c =
    let body = statement_of c.args.body.now in
    let left = c.args.count - c.loop.counter in
    let less = c.args.count - (c.loop.counter + 1) in
    let one : c.args.count - c.loop.counter ≡ suc (c.args.count - (c.loop.counter + 1)) = omega (arith, c.loop-test.true) in
    record {
      code =
          starts_more left less body c.loop.made.items _ _ (progress_of c.loop.self) _ one c.in_ok-remarked.ensures.code c.in_ok-remarked.ensures.progress c.in_ok-push.ensures.items
          ∙ c.loop.invariant.code;
      progress = repeated_more left less (marks_of body) (progress_of c.loop.self) _ one c.in_ok-remarked.ensures.progress ∙ c.loop.invariant.progress;
    }

pub returns-clause-code : goal.returns-clause-code
returns-clause-code c =
    let none : c.args.count - c.loop.counter ≡ 0 = omega (arith, c.loop-test.false) in
    starts_all (c.args.count - c.loop.counter) c.loop.self.marks (statement_of c.args.body.now) c.loop.made.items none ∙ c.loop.invariant.code

pub returns-clause-progress : goal.returns-clause-progress
returns-clause-progress c =
    let none : c.args.count - c.loop.counter ≡ 0 = omega (arith, c.loop-test.false) in
    repeated_all (c.args.count - c.loop.counter) (marks_of (statement_of c.args.body.now)) (progress_of c.loop.self) none ∙ c.loop.invariant.progress
