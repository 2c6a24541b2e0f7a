use Rattle.std.proofs.Common.{◌+◌, ◌++◌, ap, ◌∙◌, arith, length, None}
use Rattle.code_flow_system.specs.Claims.{never_flaws, region_flaws, loop_flaws, fact_flaws}
use Rattle.code_flow.specs.Faults.{first_from}
use Rattle.code_flow.proofs.FlawLemmas.{first_from-here, first_from-later, length-never_flaws}
use Rattle.code_flow.proofs.flaws.never_on.Goals as goal

pub returns-in-Some : goal.returns-in-Some
returns-in-Some c = first_from-here (never_flaws None c.args.claims.now.nevers) (region_flaws None c.args.claims.now.regions ++ (loop_flaws None c.args.claims.now.loops ++ (fact_flaws c.args.claims.now.facts))) c.args.from c.in-Some.n (c.in-Some.ensures ∙ ap (λ xs. first_from c.args.from (never_flaws None xs)) c.nevers-nevers.ensures.value)

pub returns-in-None : goal.returns-in-None
returns-in-None c =
    let e = c.in-None.ensures ∙ ap (λ xs. first_from c.args.from (never_flaws None xs)) c.nevers-nevers.ensures.value in
    let l = ap length c.nevers-nevers.ensures.value in
    let k = length-never_flaws None c.args.claims.now.nevers in
    c.region_on.ensures ∙ first_from-later (never_flaws None c.args.claims.now.nevers) (region_flaws None c.args.claims.now.regions ++ (loop_flaws None c.args.claims.now.loops ++ (fact_flaws c.args.claims.now.facts))) c.args.from (c.args.from + length c.nevers-nevers.result.now) e (omega arith)
