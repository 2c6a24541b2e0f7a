use Rattle.std.proofs.Common.{◌≡◌, ◌∙◌, false, true, get_or, rules, sym, below_more}
use Rattle.std.proofs.lemmas.Bool.{false≢true}
use Rattle.response_analysis.specs.Equation.{IsResponse}
use Rattle.response_analysis.proofs.Found.{unlike_long, unlike_at, like_all}
use Rattle.response_analysis.proofs.checking.are_responses.Goals as goal

pub returns-then-responses-tasks : goal.returns-then-responses-tasks
returns-then-responses-tasks c = unlike_long c.args.tasks.now c.args.responses.now c.if-responses-tasks.true

pub returns-then-not-is_response : goal.returns-then-not-is_response
returns-then-not-is_response c =
    let f : c.is_response.result ≡ false = search rules in
    unlike_at c.args.tasks.now c.args.responses.now c.loop-i.i c.loop-i-test.true (λ h. false≢true (sym f ∙ c.is_response.ensures.1 h))

pub loop-i-preserved : goal.loop-i-preserved
loop-i-preserved c =
    let t : c.is_response.result ≡ true = search rules in
    below_more (λ k. IsResponse c.args.tasks.now k (get_or c.args.responses.now k 0)) c.loop-i.i c.loop-i.invariant (c.is_response.ensures.0 t)

pub returns : goal.returns
returns c = like_all c.args.tasks.now c.args.responses.now c.loop-i.i c.if-responses-tasks.false c.loop-i.invariant c.loop-i-test.false
