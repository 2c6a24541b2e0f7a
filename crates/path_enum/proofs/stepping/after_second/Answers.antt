use Rattle.std.proofs.Common.{◌<◌, arith, sym, subst, List, length}
use Rattle.wcc_base.specs.declared.compare.Compare.{Compare}
use Rattle.rv_core.specs.Table.{table_of}
use Rattle.simplex_laws.specs.RoundLaws.{IsOptimum}
use Rattle.simplex_rounds.specs.declared.pricing.Multipliers.{Multipliers}
use Rattle.path_enum.specs.Steps.{IsAnswered, IsAsked}
use Rattle.path_enum.proofs.NextLemmas.{ops_few, second_is, second_some, second_narrow, second_signs}
use Rattle.path_enum.proofs.StillLemmas.{improved, is_still}
use Rattle.path_enum.proofs.stepping.after_second.Goals as goal

pub second_multipliers-requires-clause-few : goal.second_multipliers-requires-clause-few
second_multipliers-requires-clause-few c = let l = ops_few c.args.searched.system.now.claims.facts c.args.ops.now c.requires.ops c.requires.searchable.few in omega (arith, l)

pub ask-requires-clause-scale : goal.ask-requires-clause-scale
ask-requires-clause-scale c =
    let t = table_of c.args.searched.costs.now in
    let s = c.args.searched.system.now in
    let cs = c.args.columns.now in
    let ends = subst (λ (os : List Compare). IsOptimum cs os c.args.table.now) c.requires.ops c.requires.well.0 in
    let k = second_is _ _ (length cs) _ _ c.args.table.now c.in-Some.multipliers c.loop_factor-times.ensures c.requires.ops (rw c.in-Some.is at c.in_ok-multipliers.ensures.value) in
    second_some t s c.args.searched.shapes.now c.args.searched.spans.now c.requires.searchable cs c.args.table.now ends c.in-Some.multipliers k.0 k.1

pub ask-requires-clause-narrow : goal.ask-requires-clause-narrow
ask-requires-clause-narrow c =
    let t = table_of c.args.searched.costs.now in
    let s = c.args.searched.system.now in
    let cs = c.args.columns.now in
    let ends = subst (λ (os : List Compare). IsOptimum cs os c.args.table.now) c.requires.ops c.requires.well.0 in
    let k = second_is _ _ (length cs) _ _ c.args.table.now c.in-Some.multipliers c.loop_factor-times.ensures c.requires.ops (rw c.in-Some.is at c.in_ok-multipliers.ensures.value) in
    second_narrow t s c.args.searched.shapes.now c.args.searched.spans.now c.requires.searchable cs c.args.table.now ends c.in-Some.multipliers k.0 k.1

pub ask-requires-clause-signs : goal.ask-requires-clause-signs
ask-requires-clause-signs c =
    let t = table_of c.args.searched.costs.now in
    let s = c.args.searched.system.now in
    let cs = c.args.columns.now in
    let ends = subst (λ (os : List Compare). IsOptimum cs os c.args.table.now) c.requires.ops c.requires.well.0 in
    let k = second_is _ _ (length cs) _ _ c.args.table.now c.in-Some.multipliers c.loop_factor-times.ensures c.requires.ops (rw c.in-Some.is at c.in_ok-multipliers.ensures.value) in
    second_signs t s c.args.searched.shapes.now c.args.searched.spans.now c.requires.searchable cs c.args.table.now ends c.in-Some.multipliers k.0 k.1

pub improves-requires-clause-few : goal.improves-requires-clause-few
improves-requires-clause-few c = let l = ops_few c.args.searched.system.now.claims.facts c.args.ops.now c.requires.ops c.requires.searchable.few in omega (arith, l)

pub improves-requires-clause-scale : goal.improves-requires-clause-scale
improves-requires-clause-scale c =
    let t = table_of c.args.searched.costs.now in
    let s = c.args.searched.system.now in
    let ls = c.args.searched.shapes.now in
    let ps = c.args.searched.spans.now in
    let cs = c.args.columns.now in
    let b = c.args.table.now in
    let y = c.in-Some.multipliers in
    let a = c.in-Found.answer in
    let ends = subst (λ (os : List Compare). IsOptimum cs os c.args.table.now) c.requires.ops c.requires.well.0 in
    let k = second_is _ _ (length cs) _ _ c.args.table.now c.in-Some.multipliers c.loop_factor-times.ensures c.requires.ops (rw c.in-Some.is at c.in_ok-multipliers.ensures.value) in
    let h : IsAnswered t s ls ps y a = subst (IsAsked t s ls ps y) c.in-Found.is c.in_ok-cert.ensures in
    subst (λ (u : Multipliers). 0 < u.scale) (sym h.multipliers) (second_some t s ls ps c.requires.searchable cs b ends y k.0 k.1)

pub returns-then-improves : goal.returns-then-improves
returns-then-improves c =
    let t = table_of c.args.searched.costs.now in
    let s = c.args.searched.system.now in
    let ls = c.args.searched.shapes.now in
    let ps = c.args.searched.spans.now in
    let cs = c.args.columns.now in
    let b = c.args.table.now in
    let y = c.in-Some.multipliers in
    let a = c.in-Found.answer in
    let ends = subst (λ (os : List Compare). IsOptimum cs os c.args.table.now) c.requires.ops c.requires.well.0 in
    let k = second_is _ _ (length cs) _ _ c.args.table.now c.in-Some.multipliers c.loop_factor-times.ensures c.requires.ops (rw c.in-Some.is at c.in_ok-multipliers.ensures.value) in
    let h : IsAnswered t s ls ps y a = subst (IsAsked t s ls ps y) c.in-Found.is c.in_ok-cert.ensures in
    improved t s ls ps c.requires.searchable cs b ends y k.0 k.1 c.args.ops.now c.requires.ops a h (c.improves.ensures.0 c.if-improves.true)

pub weighed-requires-clause-still : goal.weighed-requires-clause-still
weighed-requires-clause-still c =
    let t = table_of c.args.searched.costs.now in
    let s = c.args.searched.system.now in
    let ls = c.args.searched.shapes.now in
    let ps = c.args.searched.spans.now in
    let cs = c.args.columns.now in
    let b = c.args.table.now in
    let y = c.in-Some.multipliers in
    let a = c.in-Found.answer in
    let ends = subst (λ (os : List Compare). IsOptimum cs os c.args.table.now) c.requires.ops c.requires.well.0 in
    let k = second_is _ _ (length cs) _ _ c.args.table.now c.in-Some.multipliers c.loop_factor-times.ensures c.requires.ops (rw c.in-Some.is at c.in_ok-multipliers.ensures.value) in
    let h : IsAnswered t s ls ps y a = subst (IsAsked t s ls ps y) c.in-Found.is c.in_ok-cert.ensures in
    is_still t s ls ps c.requires.searchable cs b ends y k.0 k.1 c.args.ops.now c.requires.ops a h c.improves.result c.improves.ensures.1 c.if-improves.false c.args.asked.now c.requires.answers
