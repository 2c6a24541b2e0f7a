use Rattle.std.proofs.Common.{◌≤◌, List, All, length, sym, subst, ◌∙◌}
use Rattle.std.specs.Prelude.{IfOk}
use Rattle.rv_core.specs.Table.{table_of}
use Rattle.low_ir.specs.Placings.{placed_of}
use Rattle.claims_image.specs.Images.{laid_of}
use Rattle.claims_definition.specs.declared.item.LaidItem.{LaidItem}
use Rattle.claims_definition.specs.Movables.{movable_of}
use Rattle.spm_placement.specs.declared.item.Item.{Item}
use Rattle.spm_placement.specs.Gains.{HasFewVisits}
use Rattle.spm_placement.specs.Sets.{AreBest, HasSmallGain, HasWholeWords}
use Rattle.compile_report.specs.Sources.{names_of, tree_of}
use Rattle.wcc_compile.proofs.Gaining.{gains_are, gains_few}
use Rattle.wcc_compile.proofs.stages.chosen.Goals as goal

pub gains_by-requires-clause-ascending : goal.gains_by-requires-clause-ascending
gains_by-requires-clause-ascending c = c.requires.laid_out.reported.form.parts_ascend

pub gains_by-requires-clause-few : goal.gains_by-requires-clause-few
gains_by-requires-clause-few c =
    let s = c.args.source.now in
    let b = c.args.first.now in
    let of = c.requires.made_of in
    subst (All (λ (i : LaidItem). HasFewVisits b.report.cert.flow.parts (movable_of i))) (sym c.deref.ensures.value)
    (c.flows_visit_few.ensures of.text (names_of s) (tree_of s) s.facts b.made c.args.options.now.costs b.report of.is_source of.is_made c.requires.laid_out.reported)

pub choose-requires-clause-count : goal.choose-requires-clause-count
choose-requires-clause-count c =
    let options = c.args.options.now in
    let s = c.args.source.now in
    let b = c.args.first.now in
    subst (λ (items : List Item). length items ≤ 131072) (sym c.deref-2.ensures.value)
    (gains_few options s b c.requires c.items_are_few.ensures c.in_ok-gains.gains.items (gains_are options s b c.requires c.in_ok-gains.gains.items c.deref.result.now c.in_ok-gains.ensures.values c.deref.ensures.value))

pub choose-requires-clause-sizes : goal.choose-requires-clause-sizes
choose-requires-clause-sizes c =
    let options = c.args.options.now in
    let b = c.args.first.now in
    let are = gains_are options c.args.source.now b c.requires c.in_ok-gains.gains.items c.deref.result.now c.in_ok-gains.ensures.values c.deref.ensures.value in
    subst (All HasWholeWords) (sym (c.deref-2.ensures.value ∙ are))
    (c.items_are_whole.ensures (table_of options.costs) b.report.cert.flow.parts (laid_of b.made.placement (placed_of b.made.code)) c.requires.laid_out.made.in_memory.keeps_low.claims.settled)

pub choose-requires-clause-gains : goal.choose-requires-clause-gains
choose-requires-clause-gains c = subst (All HasSmallGain) (sym c.deref-2.ensures.value) c.in_ok-gains.ensures.small

pub returns : goal.returns
returns c =
    let options = c.args.options.now in
    let are = gains_are options c.args.source.now c.args.first.now c.requires c.in_ok-gains.gains.items c.deref.result.now c.in_ok-gains.ensures.values c.deref.ensures.value in
    subst (λ (items : List Item). IfOk c.choose.result (λ ids. AreBest items options.spm ids.items)) (c.deref-2.ensures.value ∙ are) c.choose.ensures
