use Rattle.std.proofs.Common.{◌≡◌, ◌∙◌, ap, sym, subst, ◌<◌, length, map, arith}
use Rattle.std.specs.Prelude.{Some, slice_get}
use Rattle.types_tree.specs.View.{function_of, program_of}
use Rattle.facts_most.proofs.Table.{below_filling, filling_ends, filling_found, filling_passed, found_right, function_at, length_functions}
use Rattle.facts_most.proofs.functions.fill.Goals as goal
use Rattle.facts_most.proofs.functions.fill.Goals.{then-rank_of-rank, else-rank_of-rank}

pub loop-f-preserved : goal.loop-f-preserved
loop-f-preserved c =
    let program = program_of c.args.program.now in
    let bounds = c.args.bounds.now in
    let ranks = c.args.ranks.now in
    let r = c.requires.ranked in
    let f = c.loop-f.f in
    let fs = c.as_slice-functions.result.now in
    let same = c.as_slice-functions.ensures.value in
    let most = c.loop-f.most in
    let size : length program.functions ≡ length fs = length_functions c.args.program.now.functions.items ∙ ap length (sym same) in
    let within : f < length program.functions = omega (arith, size, c.loop-f-test.true) in
    elim c.if-rank_of-rank.branch [
      | then-rank_of-rank w ↦
          let function = w.index-functions-f.result in
          let here = subst (λ xs. slice_get (map function_of xs) f ≡ Some (function_of function)) same (function_at fs f function c.loop-f-test.true w.index-functions-f.is) in
          let right = found_right program bounds ranks r f c.args.rank (function_of function) most (below_filling program bounds ranks r c.args.rank f most c.loop-f.invariant) (sym c.rank_of.ensures ∙ w.if-rank_of-rank.true) here in
          rw (w.most-is, w.set.ensures) (filling_found program bounds ranks r c.args.rank f w.function_most-found.result most c.loop-f.invariant within (w.function_most-found.ensures ∙ right))
      | else-rank_of-rank w ↦
          rw w.most-is (filling_passed program bounds ranks r c.args.rank f most c.loop-f.invariant (λ e. w.if-rank_of-rank.false (c.rank_of.ensures ∙ e)))
    ]

pub returns : goal.returns
returns c =
    let program = program_of c.args.program.now in
    let fs = c.as_slice-functions.result.now in
    let size : length program.functions ≡ length fs = length_functions c.args.program.now.functions.items ∙ ap length (sym c.as_slice-functions.ensures.value) in
    filling_ends program c.args.bounds.now c.args.ranks.now c.requires.ranked c.args.rank c.loop-f.f c.loop-f.most (omega (arith, size, c.loop-f-test.false)) c.loop-f.invariant
