use Rattle.std.proofs.Common.{◌≡◌, ◌+◌, [], ◌∷◌, ◌++◌, arith, ap, map, sym, ◌∙◌}
use Rattle.std.proofs.Math.ListN.{drop_of_length-le}
use Rattle.std.proofs.lemmas.List.{get_or_default}
use Rattle.high_code.specs.Code.{alone, joined}
use Rattle.high_ir.specs.Tree.{End, Mark, Then}
use Rattle.high_ir.specs.View.{expr_of, statements_of}
use Rattle.high_ir.specs.declared.statement.Statement as statements
use Rattle.high_parts.proofs.Making.{joined_end}
use Rattle.high_renumber.proofs.Walks.{statements_pushed}
use Rattle.inliner.specs.Opening.{assigned}
use Rattle.inliner.proofs.Walks.{assigned_more}
use Rattle.inliner.proofs.opening.begun.Goals as goal

pub loop-i-init : goal.loop-i-init
loop-i-init c =
    let call = c.args.call.now in
    let z : c.args.base + 0 ≡ c.args.base = omega arith in
    ap (λ xs. joined (statements_of xs) (assigned (c.args.base + 0) (map expr_of call.values.now) End)) (c.in_ok-push.ensures.items ∙ ap (λ xs. xs ++ statements.Mark call.function ∷ []) c.new-parts.ensures.items)
    ∙ ap (λ n. Then (Mark call.function) (assigned n (map expr_of call.values.now) End)) z

pub loop-i-preserved : goal.loop-i-preserved
loop-i-preserved c =
    let call = c.args.call.now in
    let before = statements_of c.loop-i.parts.items in
    assigned_more c.args.base c.loop-i.i before _ c.args.call.now.values.now _ c.loop-i-test.true (get_or_default call.values.now c.loop-i.i c.index-call-i.result _ c.loop-i-test.true)
    (statements_pushed c.loop-i.parts.items _ c.in_ok-set.field-0 c.in_ok-push-2.ensures.items ∙ ap (λ x. joined before (alone x)) c.in_ok-set.ensures)
    ∙ c.loop-i.invariant

pub returns : goal.returns
returns c =
    let call = c.args.call.now in
    let made = statements_of c.loop-i.parts.items in
    sym (joined_end made)
    ∙ sym (ap (λ xs. joined made (assigned (c.args.base + c.loop-i.i) (map expr_of xs) End)) (drop_of_length-le call.values.now c.loop-i-test.false))
    ∙ c.loop-i.invariant
