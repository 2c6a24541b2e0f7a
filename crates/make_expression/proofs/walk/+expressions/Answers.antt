use Rattle.std.proofs.Common.{◌-◌, ◌<◌, ap, arith, length, subst, sym, ◌∙◌}
use Rattle.types_tree.specs.Tree.{And, Assign, Or, Step, Update}
use Rattle.types_tree.specs.View.{expr_of, exprs_of, place_of}
use Rattle.plan_definition.specs.Values.{called, finished, made, passing, plain}
use Rattle.make_expression.specs.Makes.{Makes}
use Rattle.make_expression.proofs.Making.{converted_makes, made_at, made_of_call, makes_each, makes_same, size_at, size_of_call}
use Rattle.make_expression.proofs.walk.+expressions.Goals as goal

pub made-passing-requires : goal.made-passing-requires
made-passing-requires t c =
    (omega (arith, c.decreases, size_of_call c.args.expr.now c.in-Call.callee c.in-Call.arguments c.in-Call.at c.deref-in-Call.result.now c.in-Call.is c.deref-in-Call.ensures.value), tt)

pub passing-passed_behind-requires : goal.passing-passed_behind-requires
passing-passed_behind-requires t c =
    let below : c.loop-i.i - 1 < length c.args.arguments.now = omega (arith, c.loop-i.invariant.within, c.loop-i-test.true) in
    (omega (arith, c.decreases, size_at c.args.arguments.now (c.loop-i.i - 1) c.index-arguments-i.result below c.index-arguments-i.is), tt)

pub made-returns-in_ok-call-in-Call : goal.made-returns-in_ok-call-in-Call
made-returns-in_ok-call-in-Call t c =
    let homes = c.args.scope.now.homes.now in
    let call = called c.args.purpose c.in-Call.callee c.args.k in
    makes_each c.finished-in-Call.result c.args.purpose (made homes c.args.purpose (expr_of c.args.expr.now) c.args.k) c.finished-in-Call.ensures (λ v same.
    makes_same c.args.purpose v (made homes c.args.purpose (expr_of c.args.expr.now) c.args.k)
    (same
    ∙ ap (finished c.args.purpose) (c.in_ok-call-in-Call.ensures ∙ ap call (c.in_ok-passing-in-Call.ensures ∙ ap (λ xs. passing homes (exprs_of xs) c.args.k) c.deref-in-Call.ensures.value))
    ∙ sym (made_of_call homes c.args.purpose c.args.expr.now c.in-Call.callee c.in-Call.arguments c.in-Call.at c.args.k c.in-Call.is)))

pub made-returns-in_ok-operand-in-Cast : goal.made-returns-in_ok-operand-in-Cast
made-returns-in_ok-operand-in-Cast t c =
    let homes = c.args.scope.now.homes.now in
    let operand = c.in_ok-operand-in-Cast.operand in
    let made_of : Makes (plain c.args.purpose) operand (made homes (plain c.args.purpose) (expr_of c.in-Cast.operand.value) c.args.k) =
    subst (λ q. Makes q operand (made homes q (expr_of c.in-Cast.operand.value) c.args.k)) c.plain.ensures
    (subst (λ x. Makes c.plain.result operand (made homes c.plain.result (expr_of x) c.args.k)) c.deref-in-Cast.ensures c.in_ok-operand-in-Cast.ensures) in
    makes_each c.converted.result c.args.purpose (made homes c.args.purpose (expr_of c.args.expr.now) c.args.k) c.converted.ensures (λ v same.
    made_at homes c.args.purpose c.args.expr.now _ c.args.k v c.in-Cast.is
    (converted_makes c.in-Cast.to c.args.purpose operand v (made homes (plain c.args.purpose) (expr_of c.in-Cast.operand.value) c.args.k) made_of same))

pub made-returns-in_ok-operand-in-Convert : goal.made-returns-in_ok-operand-in-Convert
made-returns-in_ok-operand-in-Convert t c =
    let homes = c.args.scope.now.homes.now in
    let operand = c.in_ok-operand-in-Convert.operand in
    let made_of : Makes (plain c.args.purpose) operand (made homes (plain c.args.purpose) (expr_of c.in-Convert.operand.value) c.args.k) =
    subst (λ q. Makes q operand (made homes q (expr_of c.in-Convert.operand.value) c.args.k)) c.plain-in-Convert.ensures
    (subst (λ x. Makes c.plain-in-Convert.result operand (made homes c.plain-in-Convert.result (expr_of x) c.args.k)) c.deref-in-Convert.ensures c.in_ok-operand-in-Convert.ensures) in
    makes_each c.converted-in-Convert.result c.args.purpose (made homes c.args.purpose (expr_of c.args.expr.now) c.args.k) c.converted-in-Convert.ensures (λ v same.
    made_at homes c.args.purpose c.args.expr.now _ c.args.k v c.in-Convert.is
    (converted_makes c.in-Convert.to c.args.purpose operand v (made homes (plain c.args.purpose) (expr_of c.in-Convert.operand.value) c.args.k) made_of same))

pub made-returns-in-And : goal.made-returns-in-And
made-returns-in-And t c =
    let homes = c.args.scope.now.homes.now in
    makes_each c.conjunction.result c.args.purpose (made homes c.args.purpose (expr_of c.args.expr.now) c.args.k) c.conjunction.ensures (λ v same.
    made_at homes c.args.purpose c.args.expr.now _ c.args.k v c.in-And.is
    (makes_same c.args.purpose v (made homes c.args.purpose (And (expr_of c.in-And.left.value) (expr_of c.in-And.right.value) c.in-And.at) c.args.k)
    (same c.in-And.at
    ∙ ap (λ x. made homes c.args.purpose (And (expr_of x) (expr_of c.deref-in-And-2.result.now) c.in-And.at) c.args.k) c.deref-in-And.ensures
    ∙ ap (λ y. made homes c.args.purpose (And (expr_of c.in-And.left.value) (expr_of y) c.in-And.at) c.args.k) c.deref-in-And-2.ensures)))

pub made-returns-in-Or : goal.made-returns-in-Or
made-returns-in-Or t c =
    let homes = c.args.scope.now.homes.now in
    makes_each c.disjunction.result c.args.purpose (made homes c.args.purpose (expr_of c.args.expr.now) c.args.k) c.disjunction.ensures (λ v same.
    made_at homes c.args.purpose c.args.expr.now _ c.args.k v c.in-Or.is
    (makes_same c.args.purpose v (made homes c.args.purpose (Or (expr_of c.in-Or.left.value) (expr_of c.in-Or.right.value) c.in-Or.at) c.args.k)
    (same c.in-Or.at
    ∙ ap (λ x. made homes c.args.purpose (Or (expr_of x) (expr_of c.deref-in-Or-2.result.now) c.in-Or.at) c.args.k) c.deref-in-Or.ensures
    ∙ ap (λ y. made homes c.args.purpose (Or (expr_of c.in-Or.left.value) (expr_of y) c.in-Or.at) c.args.k) c.deref-in-Or-2.ensures)))

pub made-returns-in-Step : goal.made-returns-in-Step
made-returns-in-Step t c =
    let homes = c.args.scope.now.homes.now in
    makes_each c.stepped_place.result c.args.purpose (made homes c.args.purpose (expr_of c.args.expr.now) c.args.k) c.stepped_place.ensures (λ v steps.
    made_at homes c.args.purpose c.args.expr.now _ c.args.k v c.in-Step.is
    (subst (λ x. Makes c.args.purpose v (made homes c.args.purpose (Step c.in-Step.fix c.in-Step.operator c.in-Step.kind (place_of x) c.in-Step.at) c.args.k)) c.deref-in-Step.ensures
    (steps c.in-Step.at)))

pub made-returns-in-Assign : goal.made-returns-in-Assign
made-returns-in-Assign t c =
    let homes = c.args.scope.now.homes.now in
    makes_each c.assigned_place.result c.args.purpose (made homes c.args.purpose (expr_of c.args.expr.now) c.args.k) c.assigned_place.ensures (λ v assigns.
    made_at homes c.args.purpose c.args.expr.now _ c.args.k v c.in-Assign.is
    (subst (λ x. Makes c.args.purpose v (made homes c.args.purpose (Assign (place_of c.in-Assign.target.value) (expr_of x) c.in-Assign.at) c.args.k)) c.deref-in-Assign-2.ensures
    (subst (λ x. Makes c.args.purpose v (made homes c.args.purpose (Assign (place_of x) (expr_of c.deref-in-Assign-2.result.now) c.in-Assign.at) c.args.k)) c.deref-in-Assign.ensures
    (assigns c.in-Assign.at))))

pub made-returns-in-Update : goal.made-returns-in-Update
made-returns-in-Update t c =
    let homes = c.args.scope.now.homes.now in
    let updates = Update c.in-Update.operator c.in-Update.kind c.in-Update.to in
    makes_each c.updated_place.result c.args.purpose (made homes c.args.purpose (expr_of c.args.expr.now) c.args.k) c.updated_place.ensures (λ v changes.
    made_at homes c.args.purpose c.args.expr.now _ c.args.k v c.in-Update.is
    (subst (λ x. Makes c.args.purpose v (made homes c.args.purpose (updates (place_of c.in-Update.target.value) (expr_of x) c.in-Update.at) c.args.k)) c.deref-in-Update-2.ensures
    (subst (λ x. Makes c.args.purpose v (made homes c.args.purpose (updates (place_of x) (expr_of c.deref-in-Update-2.result.now) c.in-Update.at) c.args.k)) c.deref-in-Update.ensures
    (changes c.in-Update.at))))
