use Rattle.std.proofs.Common.{rules, ◌≡◌, ◌≤◌, ◌∙◌, arith, ap, subst, length, true, All, Bool, List}
use Rattle.std.proofs.lemmas.Result.{IfOk-weaker}
use Rattle.rv_core.specs.Table.{table_of}
use Rattle.code_flow_system.specs.declared.claims.FactClaim.{FactClaim}
use Rattle.code_flow_system.specs.Claims.{Claims}
use Rattle.path_fit.specs.Fitting.{LoopsFit}
use Rattle.path_flows.specs.CountLaws.{HasBounds}
use Rattle.path_ranges.specs.Limits.{LooseCountsAreFew, LooseValuesBelow}
use Rattle.path_conditions.specs.Searching.{CanSearch}
use Rattle.path_fact_fit.specs.Few.{IsFewFact}
use Rattle.path_fact_fit.proofs.FewLemmas.{searched}
use Rattle.path_fact_fit.proofs.fit.can_search.Goals as goal

pub returns : goal.returns
returns c =
    let t = table_of c.args.costs.now in
    let s = c.args.system.now in
    let fit : LoopsFit s c.args.shapes.now c.args.spans.now = search rules in
    let loops = c.loops.ensures.value ∙ ap (λ (x : Claims). x.loops) c.claims-2.ensures in
    let facts = c.facts-facts.ensures.value ∙ ap (λ (x : Claims). x.facts) c.claims.ensures in
    let have : All HasBounds c.loops.result.now = search rules in
    let bounds = subst (All HasBounds) loops have in
    let values : LooseValuesBelow t s = search rules in
    let at_most : length c.facts-facts.result.now ≤ 32 = let n = c.if-facts-gt32.false in omega (arith, n) in
    let few = subst (λ (x : List FactClaim). length x ≤ 32) facts at_most in
    let have_few : All IsFewFact c.facts-facts.result.now = search rules in
    let few_facts = subst (All IsFewFact) facts have_few in
    IfOk-weaker c.counts_fit.result (λ (fits : Bool). fits ≡ true → LooseCountsAreFew s) (λ (can : Bool). can ≡ true → CanSearch t s c.args.shapes.now c.args.spans.now)
    (λ can h yes. searched t s c.args.shapes.now c.args.spans.now fit bounds values (h yes) few few_facts) c.counts_fit.ensures
