use Rattle.std.proofs.Common.{subst, Option}
use Rattle.std.specs.Prelude.{IfSome}
use Rattle.rv_core.specs.Table.{table_of}
use Rattle.simplex_rounds.specs.declared.pricing.Multipliers.{Multipliers}
use Rattle.path_cutting_planes.specs.Guesses.{IsGuess}
use Rattle.path_enum.specs.Steps.{IsAsked}
use Rattle.path_enum.proofs.GuessLemmas.{guess_narrow, guess_signs, guess_asked}
use Rattle.path_enum.proofs.guessing.tried.Goals as goal

pub ask-requires-clause-narrow : goal.ask-requires-clause-narrow
ask-requires-clause-narrow c =
    let t = table_of c.args.searched.costs.now in
    let s = c.args.searched.system.now in
    let ls = c.args.searched.shapes.now in
    let ps = c.args.searched.spans.now in
    let os = c.args.guess.ops.now in
    let n = c.loop_factor-times.result in
    let g = subst (λ (o : Option Multipliers). IfSome o (IsGuess os n)) c.in-Some.is c.in_ok-multipliers.ensures in
    guess_narrow t s ls ps os c.requires.ops n c.in-Some.multipliers c.loop_factor-times.ensures g

pub ask-requires-clause-signs : goal.ask-requires-clause-signs
ask-requires-clause-signs c =
    let t = table_of c.args.searched.costs.now in
    let s = c.args.searched.system.now in
    let ls = c.args.searched.shapes.now in
    let ps = c.args.searched.spans.now in
    let os = c.args.guess.ops.now in
    let n = c.loop_factor-times.result in
    let g = subst (λ (o : Option Multipliers). IfSome o (IsGuess os n)) c.in-Some.is c.in_ok-multipliers.ensures in
    guess_signs t s ls ps os c.requires.ops n c.in-Some.multipliers g

pub judged-requires-clause-asked : goal.judged-requires-clause-asked
judged-requires-clause-asked c =
    let t = table_of c.args.searched.costs.now in
    let s = c.args.searched.system.now in
    let ls = c.args.searched.shapes.now in
    let ps = c.args.searched.spans.now in
    let os = c.args.guess.ops.now in
    let n = c.loop_factor-times.result in
    let y = c.in-Some.multipliers in
    let g = subst (λ (o : Option Multipliers). IfSome o (IsGuess os n)) c.in-Some.is c.in_ok-multipliers.ensures in
    let is = subst (IsAsked t s ls ps y) c.in-Found.is c.in_ok-cert.ensures in
    guess_asked t s ls ps os c.requires.ops n y c.in-Found.answer c.loop_factor-times.ensures g is
