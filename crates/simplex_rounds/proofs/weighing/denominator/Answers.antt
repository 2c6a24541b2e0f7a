use Rattle.std.proofs.Common.{◌≡◌, ◌∙◌, arith, sym, false}
use Rattle.simplex_rounds.proofs.Multiples.{wide_before}
use Rattle.simplex_rounds.proofs.StepLemmas.{denominator_wide, multiple_wide}
use Rattle.simplex_rounds.proofs.weighing.denominator.Goals as goal

pub returns-then-not-is_narrow : goal.returns-then-not-is_narrow
returns-then-not-is_narrow c =
    let no : c.is_narrow.result ≡ false = grind (arith, c.if-not-is_narrow.true) in
    wide_before c.args.times 1 c.args.weights.now (omega arith) c.requires.positive (sym c.is_narrow.ensures ∙ no)

pub returns-then-not-is_narrow-2 : goal.returns-then-not-is_narrow-2
returns-then-not-is_narrow-2 c =
    let no : c.is_narrow-in-loop-i.result ≡ false = grind (arith, c.if-not-is_narrow-2.true) in
    denominator_wide c.args.times c.loop-i.all c.loop-i.i _ c.args.weights.now _ c.loop-i-test.true c.loop-i.invariant.2 c.requires.positive c.loop-i.invariant.0 (sym c.is_narrow-in-loop-i.ensures ∙ no)

pub returns-then-not-is_narrow-3 : goal.returns-then-not-is_narrow-3
returns-then-not-is_narrow-3 c =
    let no : c.is_narrow-in-loop-i-2.result ≡ false = grind (arith, c.if-not-is_narrow-3.true) in
    multiple_wide c.args.times c.loop-i.all c.loop-i.i _ c.multiple-all.result c.args.weights.now _ c.loop-i-test.true c.requires.positive c.loop-i.invariant.0 c.multiple-all.ensures.value c.multiple-all.ensures.positive (sym c.is_narrow-in-loop-i-2.ensures ∙ no)
