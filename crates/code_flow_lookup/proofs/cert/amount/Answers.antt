use Rattle.std.proofs.Common.{sym, ap, ◌∙◌, rules, pos, get_or, FitsSigned}
use Rattle.std.specs.Int.{w128}
use Rattle.std.proofs.lemmas.Int.{to_z-of_z}
use Rattle.code_flow_lookup.proofs.RunLemmas.{same_test}
use Rattle.code_flow_lookup.proofs.LookLemmas.{first_part, part_here, no_part, listed-those}
use Rattle.code_flow_lookup.proofs.cert.amount.Goals as goal

pub returns-then-here-i : goal.returns-then-here-i
returns-then-here-i c =
    let f : FitsSigned w128 (get_or c.parts_at-here.result.now c.loop-i.i (record { at = 0; number = 0; part = pos 0 })).part = search rules in
    to_z-of_z w128 (get_or c.parts_at-here.result.now c.loop-i.i (record { at = 0; number = 0; part = pos 0 })).part f
    ∙ sym (part_here c.parts_at-here.result.now c.loop-i.i c.args.number (record { at = 0; number = 0; part = pos 0 }) c.loop-i-test.true (same_test _ _ c.if-here-i.true))
    ∙ sym c.loop-i.invariant
    ∙ ap (λ ps. first_part ps c.args.number) c.parts_at-here.ensures
    ∙ listed-those c.args.parts.now c.args.at c.args.number c.requires.ascending c.requires.parts

pub returns : goal.returns
returns c =
    sym (no_part c.parts_at-here.result.now c.loop-i.i c.args.number c.loop-i-test.false)
    ∙ sym c.loop-i.invariant
    ∙ ap (λ ps. first_part ps c.args.number) c.parts_at-here.ensures
    ∙ listed-those c.args.parts.now c.args.at c.args.number c.requires.ascending c.requires.parts
