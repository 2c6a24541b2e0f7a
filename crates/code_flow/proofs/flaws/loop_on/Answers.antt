use Rattle.std.proofs.Common.{◌+◌, ap, ◌∙◌, arith, length, None}
use Rattle.code_flow_system.specs.Claims.{loop_flaws, fact_flaws}
use Rattle.code_flow.specs.Faults.{first_from}
use Rattle.code_flow.proofs.FlawLemmas.{first_from-here, first_from-later, length-loop_flaws}
use Rattle.code_flow.proofs.flaws.loop_on.Goals as goal

pub returns-in-Some : goal.returns-in-Some
returns-in-Some c = first_from-here (loop_flaws None c.args.claims.now.loops) (fact_flaws c.args.claims.now.facts) c.args.from c.in-Some.n (c.in-Some.ensures ∙ ap (λ xs. first_from c.args.from (loop_flaws None xs)) c.loops-loops.ensures.value)

pub returns-in-None : goal.returns-in-None
returns-in-None c =
    let e = c.in-None.ensures ∙ ap (λ xs. first_from c.args.from (loop_flaws None xs)) c.loops-loops.ensures.value in
    let l = ap length c.loops-loops.ensures.value in
    let k = length-loop_flaws None c.args.claims.now.loops in
    c.fact_flaw.ensures ∙ (ap (λ xs. first_from (c.args.from + length c.loops-loops.result.now) (fact_flaws xs)) c.facts.ensures.value ∙ first_from-later (loop_flaws None c.args.claims.now.loops) (fact_flaws c.args.claims.now.facts) c.args.from (c.args.from + length c.loops-loops.result.now) e (omega arith))
