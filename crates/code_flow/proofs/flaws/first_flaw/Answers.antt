use Rattle.std.proofs.Common.{◌++◌, ap, ◌∙◌, arith, length, None}
use Rattle.code_flow_system.specs.Claims.{exit_flaws, never_flaws, region_flaws, loop_flaws, fact_flaws}
use Rattle.code_flow.specs.Faults.{first_from}
use Rattle.code_flow.proofs.FlawLemmas.{first_from-here, first_from-later, length-exit_flaws}
use Rattle.code_flow.proofs.flaws.first_flaw.Goals as goal

pub returns-in-Some : goal.returns-in-Some
returns-in-Some c = first_from-here (exit_flaws None c.args.claims.now.exits) (never_flaws None c.args.claims.now.nevers ++ (region_flaws None c.args.claims.now.regions ++ (loop_flaws None c.args.claims.now.loops ++ (fact_flaws c.args.claims.now.facts)))) 0 c.in-Some.n (c.in-Some.ensures ∙ ap (λ xs. first_from 0 (exit_flaws None xs)) c.exits-exits.ensures.value)

pub returns-in-None : goal.returns-in-None
returns-in-None c =
    let e = c.in-None.ensures ∙ ap (λ xs. first_from 0 (exit_flaws None xs)) c.exits-exits.ensures.value in
    let l = ap length c.exits-exits.ensures.value in
    let k = length-exit_flaws None c.args.claims.now.exits in
    c.never_on.ensures ∙ first_from-later (exit_flaws None c.args.claims.now.exits) (never_flaws None c.args.claims.now.nevers ++ (region_flaws None c.args.claims.now.regions ++ (loop_flaws None c.args.claims.now.loops ++ (fact_flaws c.args.claims.now.facts)))) 0 (length c.exits-exits.result.now) e (omega arith)
