-- What the parts of a statement need.
use Rattle.std.proofs.Common.{◌≡◌, ap, ◌∙◌}
use Rattle.std.specs.Prelude.{Vec}
use Rattle.std.specs.Global.{Global}
use Rattle.high_code.specs.Code.{frame_needed, frame_needed_all}
use Rattle.high_ir.proofs.Rows.{statement_of-Seq}
use Rattle.high_ir.specs.View.{statement_of, statements_of}
use Rattle.high_ir.specs.declared.statement.Statement as statements

pub needed_seq : (s : statements.Statement) (v : Vec statements.Statement Global) → s ≡ statements.Seq v → frame_needed (statement_of s) ≡ frame_needed_all (statements_of v.items)
needed_seq s v is = ap (λ s. frame_needed (statement_of s)) is ∙ ap frame_needed (statement_of-Seq v)
