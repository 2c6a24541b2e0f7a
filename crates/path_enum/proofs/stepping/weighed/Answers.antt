use Rattle.std.proofs.Common.{◌≡◌, ◌∙◌, refl, sym, ap, subst, List, length, Option}
use Rattle.std.specs.Option.{IsSome}
use Rattle.rv_core.specs.Table.{table_of}
use Rattle.code_flow_system.specs.declared.cert.Cert.{Cert}
use Rattle.code_flow_system.specs.declared.cert.Mark.TheVariants.{Greatest}
use Rattle.simplex_rounds.specs.declared.weighing.Weight.{Weight}
use Rattle.path_fact_columns.specs.Adding.{mixed_parts, AreWeights}
use Rattle.path_enum.specs.Weighing.{IsCommonOf}
use Rattle.path_enum.specs.Steps.{IsAccepted}
use Rattle.path_enum.proofs.StillLemmas.{weights_fit, cert_there, weighed_greatest}
use Rattle.path_enum.proofs.stepping.weighed.Goals as goal

pub mixed-requires-clause-weights : goal.mixed-requires-clause-weights
mixed-requires-clause-weights c =
    let t = table_of c.args.searched.costs.now in
    let s = c.args.searched.system.now in
    let ls = c.args.searched.shapes.now in
    let ps = c.args.searched.spans.now in
    let ys = c.args.asked.now in
    let cs = c.args.columns.now in
    let b = c.args.table.now in
    let a = c.args.answer in
    let n = c.loop_factor.result in
    let m = c.in-Some.all in
    let ws = c.in_ok-weights.weights.items in
    let common = subst (λ (vs : List Weight). IsCommonOf n vs m) c.deref.ensures.value c.in-Some.ensures in
    subst (λ (vs : List Weight). AreWeights (length ys) m vs) (sym c.deref-2.ensures.value) (weights_fit t s ls ps c.requires.searchable ys cs b a c.requires.still n m c.loop_factor.ensures ws c.in_ok-weights.ensures.value common _ c.requires.shape c.requires.rows)

pub unwrap-cert-requires : goal.unwrap-cert-requires
unwrap-cert-requires c =
    let t = table_of c.args.searched.costs.now in
    let s = c.args.searched.system.now in
    let ls = c.args.searched.shapes.now in
    let ps = c.args.searched.spans.now in
    let ys = c.args.asked.now in
    let cs = c.args.columns.now in
    let b = c.args.table.now in
    let a = c.args.answer in
    let n = c.loop_factor.result in
    let m = c.in-Some.all in
    let ws = c.in_ok-weights.weights.items in
    let common = subst (λ (vs : List Weight). IsCommonOf n vs m) c.deref.ensures.value c.in-Some.ensures in
    subst (λ (o : Option Cert). IsSome o) (sym (cert_there t s ls ps c.requires.searchable ys cs b a c.requires.still n m c.loop_factor.ensures ws c.in_ok-weights.ensures.value common c.solved_are_greatest.ensures)) refl

pub returns : goal.returns
returns c =
    let t = table_of c.args.searched.costs.now in
    let s = c.args.searched.system.now in
    let ls = c.args.searched.shapes.now in
    let ps = c.args.searched.spans.now in
    let ys = c.args.asked.now in
    let cs = c.args.columns.now in
    let b = c.args.table.now in
    let a = c.args.answer in
    let n = c.loop_factor.result in
    let m = c.in-Some.all in
    let ws = c.in_ok-weights.weights.items in
    let common = subst (λ (vs : List Weight). IsCommonOf n vs m) c.deref.ensures.value c.in-Some.ensures in
    let parts = c.in_ok-parts.ensures ∙ ap (λ (vs : List Weight). mixed_parts t s ls ps ys m vs) c.deref-2.ensures.value in
    subst (λ (x : Cert). IsAccepted t s x × (x.mark ≡ Greatest)) (sym c.greatest.ensures) (weighed_greatest t s ls ps c.requires.searchable ys cs b a c.requires.still n m c.loop_factor.ensures ws c.in_ok-weights.ensures.value common c.solved_are_greatest.ensures c.unwrap-cert.result c.unwrap-cert.ensures c.in_ok-parts.parts.items parts)
