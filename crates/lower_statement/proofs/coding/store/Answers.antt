use Rattle.std.proofs.Common.{ℕ, ◌++◌, ap, ◌∙◌}
use Rattle.high_ir.specs.View.{expr_of}
use Rattle.low_ir.specs.Code.{Address, Do, Store}
use Rattle.low_ir.specs.declared.object.Kind.{Kind}
use Rattle.low_ir.specs.View.{address_of, base_of}
use Rattle.lower_expression.specs.View.{code_of, offset_in, scope_of, shares_of, valued_of}
use Rattle.lower_definition.specs.Objects.{scale_of}
use Rattle.lower_definition.specs.Operators.{only}
use Rattle.lower_definition.specs.Values.{Coded, index_of, offset_of, operand}
use Rattle.lower_statement.proofs.Stores.{element_stores}
use Rattle.lower_statement.proofs.coding.store.Goals as goal

pub returns : goal.returns
returns c = λ free.
    let scope = scope_of c.args.scope.now in
    let shares = shares_of c.args.shares.now in
    let offset = offset_in c.offset_of.new.coder c.in_ok-offset.offset in
    let value = valued_of c.operand.new.coder c.in_ok-value.value in
    let stored : Kind → Address ℕ → Coded = λ (kind : Kind) (a : Address ℕ). record { code = value.code ++ only (Do (Store kind a value.value)); free = value.free } in
    element_stores shares c.args.array.kind (index_of scope shares (expr_of c.args.index.now) c.args.coder.now.free) (code_of c.args.coder.now) (base_of c.args.array.base) free offset (operand scope shares (expr_of c.args.value.now)) value _
    (c.in_ok-offset.ensures ∙ ap (offset_of shares (scale_of c.args.array.kind)) c.in_ok-index.ensures)
    c.in_ok-value.ensures
    (c.in_ok-push.ensures ∙ ap (λ k. stored k (address_of c.at.result)) c.kind_of.ensures ∙ ap (stored _) (c.at.ensures c.offset_of.new.coder))
