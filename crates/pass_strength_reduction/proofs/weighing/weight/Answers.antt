use Rattle.std.proofs.Common.{◌≡◌, ◌≤◌, ap, map, suc, subst, sym, ◌∙◌}
use Rattle.low_ir.specs.Room.{weights}
use Rattle.low_ir.specs.View.{function_of}
use Rattle.pass_strength_reduction.specs.Weighing.{Bounds, worth_in}
use Rattle.pass_strength_reduction.proofs.Weights.{weights_bounded}
use Rattle.pass_strength_reduction.proofs.weighing.weight.Goals as goal

pub returns : goal.returns
returns c =
    let ws = c.in_ok-worths.worths.items in
    let fs = map function_of c.args.functions.now in
    let main = c.args.main in
    let bounds : Bounds ws fs = subst (λ w. Bounds w fs) c.deref.ensures.value (c.are_bounded.ensures c.if-not-are_bounded.false) in
    let is : c.worth_of.result ≡ worth_in ws main = c.worth_of.ensures ∙ ap (λ w. worth_in w main) c.deref-2.ensures.value in
    subst (λ n. weights fs (suc main) main ≤ n) (sym is) (weights_bounded ws fs bounds (suc main) main)
