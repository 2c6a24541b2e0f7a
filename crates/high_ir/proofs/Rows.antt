-- Lists of statements within a statement, as the code keeps them and as the views have them.
use Rattle.std.proofs.Common.{◌≡◌, refl, ap, ◌∙◌}
use Rattle.std.specs.Prelude.{Vec}
use Rattle.std.specs.Global.{Global}
use mathlib.Core.Former.{Count}
use Rattle.high_ir.specs.declared.statement.Statement as statements
use Rattle.high_ir.specs.Tree.{Seq, Then}
use Rattle.high_ir.specs.View.{row_of, statement_of, statements_of}

row_of-items : (m : _) (row : statements.Row_of-Statement m) → row_of row ≡ statements_of (statements.items-the_row-Statement m row)
row_of-items m statements.end_of-Statement = refl
row_of-items m (statements.more_of-Statement statement rest) = ap (Then (statement_of statement)) (row_of-items _ rest)

abbrev parts_of : statements.Statement → (n : Count) × statements.Row_of-Statement n
parts_of (statements.Seq' shape row) = (_, row)
parts_of _ = (_, statements.end_of-Statement)

pub statement_of-Seq : (v : Vec statements.Statement Global) → statement_of (statements.Seq v) ≡ Seq (statements_of v.items)
statement_of-Seq v =
    let row = parts_of (statements.Seq v) in
    ap Seq (row_of-items row.0 row.1 ∙ ap statements_of (statements.items_hidden-the_row-Statement-0 v))
