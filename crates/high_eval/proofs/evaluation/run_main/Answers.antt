use Rattle.std.proofs.Common.{◌≡◌, ◌+◌, ◌<◌, ℕ, suc, List, [], IfOk, Option, Some, ap, arith, map, subst, sym, ◌∙◌}
use Rattle.std.proofs.lemmas.List.{length-map}
use Rattle.high_ir.specs.declared.high.Function.{Function}
use Rattle.high_ir.specs.Meaning.{Given}
use Rattle.high_ir.specs.Runs.{calls, rank_or}
use Rattle.high_ir.specs.View.{function_of}
use Rattle.high_eval.specs.Ends.{given_of}
use Rattle.high_eval.proofs.Calling.{rank_at}
use Rattle.high_eval.proofs.evaluation.run_main.Goals as goal

pub returns : goal.returns
returns c =
    let p = c.args.program.now in
    let fs = p.functions.items in
    let within : p.main < _ = subst (λ n. p.main < n) (length-map fs function_of) p.is_high.main in
    let rank = c.from.ensures ∙ sym (rank_at fs p.main c.index.result.now within c.index.ensures) in
    let depth : c.from.result + 1 ≡ suc (rank_or (map function_of fs) p.main 0) = omega (arith, rank) in
    let does : List Function → ℕ → Option Given = λ gs n. calls Some (map function_of gs) n p.main [] [] c.args.state.now.world c.args.state.now.trace in
    subst (λ o. IfOk c.call.result (λ r. o ≡ given_of r c.call.new.state)) (ap (λ gs. does gs (c.from.result + 1)) c.deref.ensures.value ∙ ap (does fs) depth) c.call.ensures.given
