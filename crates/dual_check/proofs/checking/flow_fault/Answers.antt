use Rattle.std.proofs.Common.{◌≡◌, true, false, refl, sym, ◌∙◌}
use Rattle.rv_core.specs.Table.{table_of}
use Rattle.dual_check.proofs.FlowLemmas.{counts_positive}
use Rattle.dual_check.proofs.ClaimLemmas.{are_met}
use Rattle.dual_check.proofs.VerdictLemmas.{greatest_from}
use Rattle.dual_check.proofs.checking.flow_fault.Goals as goal

pub returns-in-Some-first_unmet-clause-some : goal.returns-in-Some-first_unmet-clause-some
returns-in-Some-first_unmet-clause-some c =
    (c.requires.bound, c.requires.mark, c.in_default.ensures.none refl, sym c.first_unmet.ensures ∙ c.in-Some-first_unmet.is)

pub returns-then-not-is_reached-clause-some : goal.returns-then-not-is_reached-clause-some
returns-then-not-is_reached-clause-some c =
    let met = are_met c.args.system.now c.args.cert.now (counts_positive c.args.system.now c.args.cert.now) (sym c.first_unmet.ensures ∙ c.in_default-first_unmet.is) in
    (c.requires.bound, c.requires.mark, c.in_default.ensures.none refl, met, λ h. let e : true ≡ false = sym (c.is_reached.ensures.1 h) ∙ c.if-not-is_reached.true in cc)

pub returns-clause-none : goal.returns-clause-none
returns-clause-none c =
    let met = are_met c.args.system.now c.args.cert.now (counts_positive c.args.system.now c.args.cert.now) (sym c.first_unmet.ensures ∙ c.in_default-first_unmet.is) in
    λ n. greatest_from (table_of c.args.costs.now) c.args.system.now c.args.cert.now (c.in_default.ensures.none refl) met (c.is_reached.ensures.0 c.if-not-is_reached.false)

pub first_unmet-requires-clause-flow : goal.first_unmet-requires-clause-flow
first_unmet-requires-clause-flow c = c.in_default.ensures.none refl
