-- Where the blocks of a statement stand.
use Rattle.std.specs.Prelude.{ℕ, List, length}
use Rattle.high_ir.specs.Tree.{Statement}
use Rattle.low_ir.specs.Code.{Block, Note}
use Rattle.lower_definition.specs.Values.{Scope}
use Rattle.lower_definition.specs.Statements.{piece}
use Rattle.lower_nesting.specs.Segments.{AllInside}

abbrev pub LoopsStandInside : Type 0
LoopsStandInside =
    (scope : Scope) (s : Statement) (exits : List ℕ) (n t : ℕ) (k : Block ℕ Note) → AllInside n (length (piece scope s exits n t k).new) (piece scope s exits n t k).loops
