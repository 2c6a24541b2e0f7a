use Rattle.std.proofs.Common.{ℕ, ◌<◌, [], length, refl, subst}
use Rattle.std.specs.Prelude.{Vec}
use Rattle.std.specs.Global.{Global}
use Rattle.std.proofs.lemmas.Result.{MatchResult-weaker}
use Rattle.low_make.specs.View.{claims_of}
use Rattle.lower_definition.specs.Calls.{passed_to}
use Rattle.low_make.proofs.Sites.{view_set}
use Rattle.low_make.proofs.passing.pass_to.Goals as goal

pub returns-in-Some : goal.returns-in-Some
returns-in-Some c =
    let passed = c.args.passed.now in
    let there : c.args.function < length passed.items = subst (λ n. c.args.function < n) passed.ok.0 (c.in-Some.ensures.variant.0 refl) in
    MatchResult-weaker c.pass.result c.pass.ensures (λ _ same.
    view_set (λ (v : Vec (Vec ℕ Global) Global). claims_of v.items) passed.items c.args.function c.in-Some.claims.now c.pass.new.claims (passed_to c.args.caller.now.objects (claims_of c.args.caller.now.own.now) c.args.arrays.now) []
    there c.in-Some.ensures.value same) (λ memory none_passed. none_passed)
