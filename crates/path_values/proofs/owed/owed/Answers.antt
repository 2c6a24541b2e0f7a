use Rattle.std.proofs.Common.{rules, FitsSigned, ◌^◌, ◌∙◌, sym, subst, refl}
use mir.Val.{to_z, of_z}
use Rattle.std.specs.Int.{w128}
use Rattle.std.proofs.lemmas.Int.{to_z-of_z}
use Rattle.rv_core.specs.Table.{table_of}
use Rattle.code_flow_system.specs.Certificates.{limits, held, fall, row_size, potential, scaled_price}
use Rattle.path_places.specs.Duals.{owed}
use Rattle.path_values.specs.Owed.{IsNarrowNumber}
use Rattle.path_values.proofs.OwedLemmas.{wide_none, narrow_some, owed_is}
use Rattle.path_values.proofs.owed.owed.Goals as goal

pub returns-in-None-clause-value : goal.returns-in-None-clause-value
returns-in-None-clause-value c =
    let price = scaled_price (table_of c.args.costs.now) c.args.system.now c.args.plain.now in
    let p = potential c.args.plain.now in
    let ls = limits c.args.system.now.claims c.args.plain.now in
    wide_none (2 ^ 126) (row_size price p ls c.args.step.now) (owed price p ls c.args.step.now) (c.in-None.ensures.none.0 refl)

pub returns-in-Some-clause-value : goal.returns-in-Some-clause-value
returns-in-Some-clause-value c =
    let price = scaled_price (table_of c.args.costs.now) c.args.system.now c.args.plain.now in
    let p = potential c.args.plain.now in
    let ls = limits c.args.system.now.claims c.args.plain.now in
    let m = c.args.step.now in
    let f : FitsSigned w128 c.shortage.result = search rules in
    narrow_some (2 ^ 126) (row_size price p ls m) (owed price p ls m) (to_z w128 (of_z w128 c.shortage.result)) (λ le. c.in-Some.ensures.none.1 le)
    (to_z-of_z w128 c.shortage.result f ∙ (c.shortage.ensures.value ∙ owed_is (price m) (fall p m) (held ls m.at) c.in-Some.left.total c.in-Some.ensures.total))

pub returns-in-Some-clause-small : goal.returns-in-Some-clause-small
returns-in-Some-clause-small c =
    let f : FitsSigned w128 c.shortage.result = search rules in
    subst IsNarrowNumber (sym (to_z-of_z w128 c.shortage.result f)) c.shortage.ensures.small
