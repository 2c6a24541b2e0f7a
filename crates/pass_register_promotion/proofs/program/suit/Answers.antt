use Rattle.std.proofs.Common.{rules, ◌≡◌, ◌+◌, ◌<◌, ◌≤◌, arith, length, map, subst}
use Rattle.std.specs.Prelude.{slice_index_or}
use Rattle.low_ir.specs.Programs.{low_of}
use Rattle.low_ir.specs.View.{function_of}
use Rattle.pass_register_promotion_law.specs.Promoting.{residents_at}
use Rattle.pass_register_promotion_law.specs.Suiting.{MayReside}
use Rattle.pass_register_promotion.specs.Residents.{of_function, row_of, table_of}
use Rattle.low_parts.proofs.Functions.{below_step, none_below}
use Rattle.pass_register_promotion.proofs.program.suit.Goals as goal

pub loop-function-preserved : goal.loop-function-preserved
loop-function-preserved c =
    let low = low_of c.args.low.now in
    let table = table_of (map row_of c.args.rows.now) in
    let hss = map of_function c.args.residents.now in
    let number = c.loop-function.number in
    let i = c.loop-function.function-index in
    let x = c.function-item.result in
    let at : number ≡ i = c.loop-function.invariant.number in
    let next : c.in-Some.next ≡ number + 1 = search rules in
    let here : MayReside low table number (function_of x) (residents_at hss number) = subst (MayReside low table number (function_of x)) c.residents_at-own.ensures (c.may_reside.ensures c.if-not-may_reside.false) in
    record {
      number = omega (arith, next, at);
      all = below_step (λ f fn. MayReside low table f fn (residents_at hss f)) c.args.low.now.functions.items i x
          (subst (λ xs. i < length xs) c.deref-function-items.ensures.value c.loop-function-test.true)
          (subst (λ xs. x ≡ slice_index_or xs i x) c.deref-function-items.ensures.value c.function-item.is)
          (subst (λ n. MayReside low table n (function_of x) (residents_at hss n)) at here) c.loop-function.invariant.all;
    }

pub returns : goal.returns
returns c = λ done.
    none_below (λ f fn. MayReside (low_of c.args.low.now) (table_of (map row_of c.args.rows.now)) f fn (residents_at (map of_function c.args.residents.now) f)) c.args.low.now.functions.items c.loop-function.function-index
    (subst (λ xs. length xs ≤ c.loop-function.function-index) c.deref-function-items.ensures.value c.loop-function-test.false) c.loop-function.invariant.all
