use Rattle.std.proofs.Common.{rules, ◌≡◌, ◌∙◌, ◌≤ℤ◌, ◌^◌, pos, refl, sym, ap, subst, List, All, FitsSigned}
use Rattle.std.specs.Int.{w128}
use Rattle.std.proofs.lemmas.Int.{to_z-of_z}
use Rattle.rv_core.specs.Table.{table_of}
use Rattle.code_flow_system.specs.declared.cert.Cert.{Cert}
use Rattle.code_flow_system.specs.declared.cert.Mark.TheVariants as marks
use Rattle.code_flow_system.specs.declared.cert.Part.{Part}
use Rattle.code_flow_system.specs.declared.claims.FactClaim.{FactClaim}
use Rattle.code_flow_system.specs.Certificates.{listed}
use Rattle.code_flow_system.specs.Counts.{count}
use Rattle.path_conditions.specs.Natural.{both_totals}
use Rattle.path_fact_kinds.specs.Columns.{column_of}
use Rattle.path_enum.specs.Steps.{IsAccepted}
use Rattle.path_enum.proofs.StepLemmas.{no_flow, answered}
use Rattle.path_enum.proofs.asking.ask.Goals as goal

pub returns-then-is_negative : goal.returns-then-is_negative
returns-then-is_negative c =
    let t = table_of c.args.searched.costs.now in
    let s = c.args.searched.system.now in
    let n = c.args.multipliers.scale in
    let ys = c.args.multipliers.facts in
    let a = c.in_ok-answer.answer in
    subst (λ (x : Cert). IsAccepted t s x × (x.mark ≡ marks.Empty)) (sym c.empty.ensures)
    (no_flow t s c.args.searched.shapes.now c.args.searched.spans.now c.requires.searchable n ys c.requires.scale c.requires.narrow a c.in_ok-answer.ensures.value c.in_ok-answer.ensures.best (c.is_negative.ensures.negative c.if-is_negative.true) c.requires.signs c.unwrap.result c.unwrap.ensures, refl)

pub column-requires-clause-small : goal.column-requires-clause-small
column-requires-clause-small c =
    let s = c.args.searched.system.now in
    let best = c.in_ok-answer.ensures.best.best (c.is_negative.ensures.other c.if-is_negative.false) in
    subst (λ (us : List Part). All (λ (f : FactClaim). both_totals f (count (listed us) s.moves) ≤ℤ pos (2 ^ 66)) s.claims.facts) (sym c.as_slice.ensures) best.totals

pub returns : goal.returns
returns c =
    let t = table_of c.args.searched.costs.now in
    let s = c.args.searched.system.now in
    let n = c.args.multipliers.scale in
    let ys = c.args.multipliers.facts in
    let a = c.in_ok-answer.answer in
    let fits : FitsSigned w128 c.in_ok-answer.answer.worth = search rules in
    let column = c.in_ok-column.ensures ∙ ap (λ us. column_of t s (listed us)) c.as_slice.ensures in
    answered t s c.args.searched.shapes.now c.args.searched.spans.now c.requires.searchable n ys c.requires.scale c.requires.narrow a c.in_ok-answer.ensures.value c.in_ok-answer.ensures.best (c.is_negative.ensures.other c.if-is_negative.false) c.requires.signs _ refl refl (to_z-of_z w128 c.in_ok-answer.answer.worth fits) column
