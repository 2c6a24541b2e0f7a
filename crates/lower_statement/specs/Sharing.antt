-- The instructions of a statement behind those of its shared registers.
use Rattle.std.specs.Prelude.{ℕ, ◌+◌, List, ◌++◌, length}
use Rattle.high_ir.specs.Tree as high
use Rattle.lower_definition.specs.Statements.{shares_of}
use Rattle.lower_definition.specs.Values.{Scope, Share, Coded, Valued, operand, scaled_in, share_code}

abbrev pub shared_first : List Share → ℕ → Coded
shared_first shares t = record { code = share_code shares; free = t + length shares }

-- the value of an expression, shared registers first
abbrev pub value_by : Scope → List Share → high.Expr → ℕ → Valued
value_by scope shares e t =
    let v = operand scope shares e (t + length shares) in
    record { code = share_code shares ++ v.code; value = v.value; free = v.free }

abbrev pub returned_value : Scope → high.Expr → ℕ → Valued
returned_value scope e t = value_by scope (shares_of scope (scaled_in scope e) t) e t
