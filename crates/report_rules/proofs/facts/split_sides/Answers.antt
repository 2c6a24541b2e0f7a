use Rattle.std.proofs.Common.{◌+◌, map, take, sym, subst}
use Rattle.report_rules.specs.FactForms.{AreSides}
use Rattle.report_rules.proofs.FactLemmas.{found_at, rest_whole}
use Rattle.report_rules.proofs.facts.split_sides.Goals as goal

pub returns-in-Some : goal.returns-in-Some
returns-in-Some c =
    subst (λ right. AreSides (map (λ w. w.now) c.args.words.now) (map (λ w. w.now) (take c.loop-i.i c.args.words.now)) c.in-Some.op (map (λ w. w.now) right))
    (sym (rest_whole c.args.words.now (c.loop-i.i + 1)))
    (found_at (λ w. w.now) c.args.words.now c.loop-i.i _ c.in-Some.op c.loop-i-test.true c.in-Some.ensures c.loop-i.invariant)
