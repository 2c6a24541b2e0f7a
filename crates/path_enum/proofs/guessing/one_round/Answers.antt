use Rattle.std.proofs.Common.{sym, subst}
use Rattle.rv_core.specs.Table.{table_of}
use Rattle.simplex_rounds.specs.declared.pricing.Multipliers.{Multipliers}
use Rattle.path_enum.specs.Steps.{IsAnswered, IsAsked}
use Rattle.path_enum.proofs.GuessLemmas.{guess_narrow, guess_signs, guess_asked, answer_kept, either_kept}
use Rattle.path_enum.proofs.guessing.one_round.Goals as goal

pub ask-requires-clause-narrow : goal.ask-requires-clause-narrow
ask-requires-clause-narrow c =
    let t = table_of c.args.searched.costs.now in
    let s = c.args.searched.system.now in
    let ls = c.args.searched.shapes.now in
    let ps = c.args.searched.spans.now in
    guess_narrow t s ls ps c.args.ops.now c.requires.ops c.loop_factor.result c.in_ok-guess.guess c.loop_factor.ensures c.in_ok-guess.ensures

pub ask-requires-clause-signs : goal.ask-requires-clause-signs
ask-requires-clause-signs c =
    let t = table_of c.args.searched.costs.now in
    let s = c.args.searched.system.now in
    let ls = c.args.searched.shapes.now in
    let ps = c.args.searched.spans.now in
    guess_signs t s ls ps c.args.ops.now c.requires.ops c.loop_factor.result c.in_ok-guess.guess c.in_ok-guess.ensures

pub returns-in_ok-guesses-in-Found : goal.returns-in_ok-guesses-in-Found
returns-in_ok-guesses-in-Found c =
    let t = table_of c.args.searched.costs.now in
    let s = c.args.searched.system.now in
    let ls = c.args.searched.shapes.now in
    let ps = c.args.searched.spans.now in
    let y = c.in_ok-guess.guess in
    let a = c.in-Found.answer in
    let is = subst (IsAsked t s ls ps y) c.in-Found.is c.in_ok-cert.ensures in
    let asked = guess_asked t s ls ps c.args.ops.now c.requires.ops c.loop_factor.result y a c.loop_factor.ensures c.in_ok-guess.ensures is in
    let own = subst (λ (z : Multipliers). IsAnswered t s ls ps z a) (sym is.multipliers) is in
    let kept = answer_kept t s ls ps c.args.guesses c.in_ok-guesses-in-Found.guesses a c.requires.guesses asked own c.in_ok-guesses-in-Found.ensures.asked c.in_ok-guesses-in-Found.ensures.least in
    either_kept t s ls ps c.args.guesses.least.cycles c.in_ok-guesses-in-Found.guesses c.goes_on.result kept c.goes_on.ensures
