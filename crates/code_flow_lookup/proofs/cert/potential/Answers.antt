use Rattle.std.proofs.Common.{ap, ◌∙◌, rules, pos, get_or, FitsSigned}
use Rattle.std.specs.Int.{w128}
use Rattle.std.proofs.lemmas.Int.{to_z-of_z}
use Rattle.code_flow_lookup.proofs.LookLemmas.{first_value, no_value, some_value, coefficient-those}
use Rattle.code_flow_lookup.proofs.cert.potential.Goals as goal

pub returns-then-is_empty : goal.returns-then-is_empty
returns-then-is_empty c = no_value _ _ c.is_empty.ensures c.if-is_empty.true ∙ ap first_value c.potentials_at-given.ensures ∙ coefficient-those _ _ c.requires

pub returns : goal.returns
returns c =
    let f : FitsSigned w128 (get_or c.potentials_at-given.result.now 0 (0, pos 0)).1 = search rules in
    to_z-of_z w128 (get_or c.potentials_at-given.result.now 0 (0, pos 0)).1 f
    ∙ some_value c.potentials_at-given.result.now (0, pos 0) _ c.is_empty.ensures c.if-is_empty.false ∙ ap first_value c.potentials_at-given.ensures ∙ coefficient-those _ _ c.requires
