use Rattle.std.proofs.Common.{◌+◌, ◌*◌, ◌∙◌, arith, ap, ℕ, get_or}
use Rattle.code_flow_system.specs.Certificates.{listed}
use Rattle.path_fact_columns.proofs.AddLemmas.{raised_next, raised_all}
use Rattle.path_fact_columns.proofs.adding.add_flow.Goals as goal

pub loop-i-preserved : goal.loop-i-preserved
loop-i-preserved c =
    let t = c.loop-i-test.true in
    let l = c.requires.long in
    raised_next c.args.often (listed c.args.parts.now) c.args.moves.now c.args.amounts.now c.loop-i.i 0 c.index-moves-i.result c.raised.result c.loop-i.amounts l (omega (arith, t, l)) c.index-moves-i.is c.loop-i.invariant
    (c.raised.ensures ∙ ap (λ (k : ℕ). get_or c.loop-i.amounts c.loop-i.i 0 + c.args.often * k) c.made.ensures.value)

pub returns : goal.returns
returns c = c.loop-i.invariant ∙ raised_all c.args.often (listed c.args.parts.now) c.args.moves.now c.args.amounts.now c.loop-i.i c.requires.long c.loop-i-test.false
