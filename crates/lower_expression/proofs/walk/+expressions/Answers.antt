use Rattle.std.specs.Prelude.{option_map}
use Rattle.std.proofs.Common.{ℕ, ◌++◌, ap, sym, ◌∙◌}
use Rattle.std.proofs.lemmas.Result.{MatchResult-weaker}
use Rattle.high_ir.specs.View.{expr_of}
use Rattle.low_ir.specs.Code.{Address, Do, Load}
use Rattle.low_ir.specs.declared.object.Kind.{Kind}
use Rattle.low_ir.specs.View.{address_of, base_of}
use Rattle.lower_expression.specs.View.{code_of, offset_in, scope_of, shares_of}
use Rattle.lower_definition.specs.Objects.{scale_of}
use Rattle.lower_definition.specs.Operators.{only}
use Rattle.lower_definition.specs.Values.{Coded, index_of, offset_of}
use Rattle.lower_expression.proofs.Loads.{element_loads}
use Rattle.lower_expression.proofs.walk.+expressions.Goals as goal

pub element_into-returns-in_ok-offset-in-Some : goal.element_into-returns-in_ok-offset-in-Some
element_into-returns-in_ok-offset-in-Some t c =
    let scope = scope_of c.args.scope.now in
    let shares = shares_of c.args.shares.now in
    let coder = c.offset_of-in-Some.new.coder in
    let base = base_of c.in-Some.base in
    let loaded : Kind → Address ℕ → Coded = λ (kind : Kind) (a : Address ℕ). record { code = code_of coder ++ only (Do (Load kind c.args.into a)); free = coder.free } in
    MatchResult-weaker c.push-in-Some.result c.push-in-Some.ensures (λ _ pushed.
    element_loads scope shares c.args.array c.args.into (code_of c.args.coder.now) (index_of scope shares (expr_of c.args.index.now) c.args.coder.now.free) base (offset_in coder c.in_ok-offset-in-Some.offset) _
    (sym c.in_ok-base_of.ensures ∙ ap (option_map base_of) c.in-Some.is)
    (c.in_ok-offset-in-Some.ensures ∙ ap (offset_of shares (scale_of c.args.array.kind)) c.in_ok-index-in-Some.ensures)
    (pushed ∙ ap (λ k. loaded k (address_of c.at.result)) c.kind_of.ensures ∙ ap (loaded _) (c.at.ensures coder))) (λ memory no_code. no_code)
