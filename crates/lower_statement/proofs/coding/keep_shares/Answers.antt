use Rattle.std.proofs.Common.{[], ap, sym, ◌∙◌}
use Rattle.high_ir.specs.Tree.{Element}
use Rattle.high_ir.specs.View.{expr_of}
use Rattle.lower_expression.specs.View.{scope_of, shares_of as shares_said}
use Rattle.lower_expression.proofs.Shares.{shares_append}
use Rattle.lower_definition.specs.Values.{scaled_in, shares_from}
use Rattle.lower_statement.proofs.coding.keep_shares.Goals as goal

pub returns : goal.returns
returns c =
    let scope = scope_of c.args.scope.now in
    let first = c.args.first in
    let at = scaled_in scope (Element c.args.array (expr_of c.args.index.now)) in
    let value = scaled_in scope (expr_of c.args.value.now) in
    c.in_ok-shares_in.ensures
    ∙ ap (λ s. shares_from first s value) (c.in_ok-shares_at.ensures ∙ ap (λ xs. shares_from first (shares_said xs) at) c.new-shares.ensures.items)
    ∙ sym (shares_append first [] at value)
