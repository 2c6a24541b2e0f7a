use Rattle.std.proofs.Common.{◌∙◌, FitsSigned}
use Rattle.std.specs.Int.{w128}
use Rattle.std.proofs.lemmas.Int.{to_z-of_z}
use Rattle.dual_check.proofs.LookupLemmas.{never_same, never_by-at}
use Rattle.dual_check.proofs.multipliers.multiplier.Goals as goal

pub returns : goal.returns
returns c =
    let f : FitsSigned w128 c.any_multiplier.result = record { sfits = c.any_multiplier.type_inv } in
    to_z-of_z w128 c.any_multiplier.result f
    ∙ c.any_multiplier.ensures
    ∙ never_same _ _ _ _ _ _ c.args.limit c.as_slice.ensures c.as_slice-2.ensures c.as_slice-3.ensures
    ∙ never_by-at c.args.system.now.claims.nevers c.args.cert.now.nevers c.args.system.now.claims.loops c.args.cert.now.loops c.args.system.now.claims.facts c.args.cert.now.facts c.args.limit c.requires.nevers c.requires.loops c.requires.facts
