use Rattle.std.proofs.Common.{◌≡◌, ℕ, ◌+◌, ◌++◌, List, Option, Some, ap, length, sym, ◌∙◌}
use Rattle.std.specs.Prelude.{option_map}
use Rattle.high_ir.specs.Tree as high
use Rattle.high_ir.specs.View.{expr_of}
use Rattle.lower_expression.specs.Behind.{after}
use Rattle.lower_expression.specs.View.{scope_of, shares_of as shares_said}
use Rattle.low_ir.specs.Code.{Base}
use Rattle.low_ir.specs.View.{base_of as base_at}
use Rattle.lower_definition.specs.Objects.{scale_of}
use Rattle.lower_definition.specs.Statements.{keep_code, shares_of, store_at}
use Rattle.lower_definition.specs.Values.{Coded, Share, index_of, offset_of, operand, scaled_in}
use Rattle.lower_statement.specs.Sharing.{shared_first}
use Rattle.lower_statement.proofs.coding.keep_code.Goals as goal

pub returns-in-Some : goal.returns-in-Some
returns-in-Some c =
    let scope = scope_of c.args.scope.now in
    let array = c.args.array in
    let t = c.args.free in
    let index = expr_of c.args.index.now in
    let value = expr_of c.kept_value-value.result.now in
    let all = shares_of scope (scaled_in scope (high.Element array index) ++ scaled_in scope value) t in
    let free = t + length all in
    let stored = λ (k : Coded) (s : List Share) (b : Option (Base ℕ)). after k.code (store_at b array.kind free (offset_of s (scale_of array.kind) (index_of scope s index k.free)) (operand scope s value)) in
    let first : shares_said c.deref.result.now ≡ all = ap shares_said c.deref.ensures.value ∙ c.in_ok-shares.ensures in
    let second : shares_said c.deref-in-Some.result.now ≡ all = ap shares_said c.deref-in-Some.ensures.value ∙ c.in_ok-shares.ensures in
    c.in_ok-store.ensures free
    ∙ ap (λ k. stored k (shares_said c.deref-in-Some.result.now) (Some (base_at c.in-Some.base))) (c.in_ok-coder.ensures ∙ ap (λ s. shared_first s t) first)
    ∙ ap (λ s. stored (shared_first all t) s (Some (base_at c.in-Some.base))) second
    ∙ ap (stored (shared_first all t) all) (sym (ap (option_map base_at) c.in-Some.is) ∙ c.in_ok-base.ensures)
    ∙ ap (λ v. keep_code scope array index v t) c.kept_value-value.ensures
