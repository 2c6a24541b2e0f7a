use Rattle.std.proofs.Common.{◌<◌, ◌^◌, arith, ap, sym, ◌∙◌}
use Rattle.code_flow_system.specs.Claims.{flaws}
use Rattle.code_flow_system.specs.Moves.{code_by, code_of}
use Rattle.code_flow.specs.Faults.{lesser, first_from, false_exits}
use Rattle.code_flow.proofs.ListLemmas.{if_some}
use Rattle.code_flow.proofs.SystemLemmas.{first_bad-below}
use Rattle.code_flow.proofs.faults.first_bad.Goals as goal

pub returns-clause-value : goal.returns-clause-value
returns-clause-value c =
    c.earlier.ensures
    ∙ (ap (λ o. lesser o c.false_exit.result) c.first_flaw.ensures
    ∙ ap (λ o. lesser (first_from 0 (flaws c.args.claims.now)) o) (c.false_exit.ensures ∙ ap (λ xs. first_from 0 (false_exits (code_by c.args.image.now xs) c.args.walk.now xs)) c.exits-exits.ensures.value))

pub returns-clause-small : goal.returns-clause-small
returns-clause-small c = if_some c.earlier.result (λ n. n < 2 ^ 32) (λ n h.
    let b = first_bad-below (code_of c.args.image.now c.args.claims.now) c.args.walk.now c.args.claims.now n (sym (returns-clause-value c) ∙ h) in
    let f = c.exits-exits.ensures.few in omega arith)
