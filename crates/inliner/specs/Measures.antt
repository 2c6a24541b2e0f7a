-- How large a statement is, where its returns are as large as is said.
use Rattle.std.specs.Prelude.{ℕ, ◌+◌, max, List, Option, Some, None, length, sum_by}
use Rattle.high_ir.specs.Size.{depth, expr_depth, expr_nodes, expr_operations, greatest, nodes, operations}
use Rattle.high_ir.specs.Tree.{Expr, Statement, Set, Put, Get, Keep, Mark, Seq, If, Loop, Block, Leave, Call, Return, Statements, End, Then, Function}
use Rattle.inliner.specs.declared.measuring.Measure.{Measure}
use Rattle.inliner.specs.declared.measuring.Returns.{Returns}
use Rattle.inliner.specs.declared.measuring.Returns.TheVariants.{Kept, Written, Dropped}
use Rattle.inliner.specs.declared.sizes.Sizes.{Sizes}

abbrev pub measure : (nodes operations depth : ℕ) → Measure
measure n o d = record { nodes = n; operations = o; depth = d }

-- of no parts, of one more part, and of what holds these parts
abbrev pub no_part : Measure
no_part = measure 0 0 0

abbrev pub beside : Measure → Measure → Measure
beside a b = measure (a.nodes + b.nodes) (a.operations + b.operations) (max a.depth b.depth)

abbrev pub within : Measure → Measure
within a = measure (a.nodes + 1) (a.operations + 1) (a.depth + 1)

abbrev pub expr_measure : Expr → Measure
expr_measure e = measure (expr_nodes e) (expr_operations e) (expr_depth e)

-- a value that is passed is one operation more
abbrev pub passed_measure : Expr → Measure
passed_measure e = measure (expr_nodes e) (expr_operations e + 1) (expr_depth e)

-- the values and the arrays of a call
abbrev pub values_measure : List Expr → Measure
values_measure es = measure (sum_by expr_nodes es) (sum_by expr_operations es + length es) (greatest expr_depth es)

abbrev pub arrays_measure : {B : Type 0} → List B → Measure
arrays_measure bs = measure (length bs) (length bs) (greatest (λ b. 1) bs)

-- a return of a value, as it stands or as it becomes in the place of a call
abbrev pub return_measure : Returns → Expr → Measure
return_measure Kept e = within (expr_measure e)
return_measure Written e = within (beside (within (expr_measure e)) (within no_part))
return_measure Dropped e = within no_part

module _ (returns : Returns) where
  abbrev mutual
    pub measured : Statement → Measure
    measured (Set x e) = within (expr_measure e)
    measured (Put e) = within (expr_measure e)
    measured (Get x) = within no_part
    measured (Keep array i e) = within (beside (expr_measure i) (expr_measure e))
    measured (Mark m) = within no_part
    measured (Seq parts) = within (measured_all parts)
    measured (If test first other) = within (beside (expr_measure test) (beside (measured first) (measured other)))
    measured (Loop id least most body) = within (measured body)
    measured (Block body) = within (measured body)
    measured (Leave d) = within no_part
    measured (Call f values arrays into) = within (beside (values_measure values) (arrays_measure arrays))
    measured (Return e) = return_measure returns e

    pub measured_all : Statements → Measure
    measured_all End = no_part
    measured_all (Then first rest) = beside (measured first) (measured_all rest)

-- what the body of a function becomes in the place of a call
abbrev pub returns_into : Option ℕ → Returns
returns_into None = Dropped
returns_into (Some x) = Written

abbrev pub sizes_of : Function → Sizes
sizes_of f = record { whole = measured Kept f.body; written = measured Written f.body; dropped = measured Dropped f.body }

abbrev pub size_into : Sizes → Option ℕ → Measure
size_into s None = s.dropped
size_into s (Some x) = s.written
