use Rattle.std.proofs.Common.{◌≡◌, ◌∙◌, sym, ap, subst, Option, Some}
use Rattle.std.specs.Prelude.{IfSome}
use Rattle.rv_core.specs.Table.{table_of}
use Rattle.code_flow_system.specs.declared.cert.Cert.{Cert}
use Rattle.path_enum.specs.Steps.{IsBound}
use Rattle.path_enum.proofs.GuessLemmas.{more_kept}
use Rattle.path_enum.proofs.guessing.judged.Goals as goal

pub returns-in-None : goal.returns-in-None
returns-in-None c =
    let t = table_of c.args.searched.costs.now in
    let s = c.args.searched.system.now in
    let ls = c.args.searched.shapes.now in
    let ps = c.args.searched.spans.now in
    more_kept t s ls ps c.args.guesses c.in_ok-guesses-in-None.guesses c.args.answer.multipliers _ c.requires.guesses c.requires.asked tt (sym c.in-None.is ∙ c.requires.answer.cert) c.in_ok-guesses-in-None.ensures.asked c.in_ok-guesses-in-None.ensures.least

pub returns : goal.returns
returns c =
    let t = table_of c.args.searched.costs.now in
    let s = c.args.searched.system.now in
    let ls = c.args.searched.shapes.now in
    let ps = c.args.searched.spans.now in
    let b = c.in-Bound.cert in
    let same : Some b ≡ c.args.answer.cert = ap Some c.in-Bound.ensures ∙ sym c.in-Some.is in
    more_kept t s ls ps c.args.guesses c.in_ok-guesses-in-Bound.guesses c.args.answer.multipliers (Some b) c.requires.guesses c.requires.asked (subst (λ (o : Option Cert). IfSome o (IsBound t s)) (sym same) c.requires.answer.bound) (same ∙ c.requires.answer.cert) c.in_ok-guesses-in-Bound.ensures.asked c.in_ok-guesses-in-Bound.ensures.least
