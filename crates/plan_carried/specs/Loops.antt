-- The loops of a typed program in the order of the source, fillings included: their numbers, and those that they have in the plan.
use Rattle.std.specs.Prelude.{ℕ, ◌+◌, ◌-◌, List, [], ◌∷◌, ◌++◌, Option, Some, None}
use Rattle.facts_definitions.specs.Most.{bounds_at}
use Rattle.facts_definitions.specs.Starts.{starts}
use Rattle.facts_definitions.specs.declared.facts.Bounds.{Bounds as BodyStarts}
use Rattle.facts_definitions.specs.declared.facts.Starts.{Starts}
use Rattle.facts_loops.specs.Loops.{SourceLoop}
use Rattle.types_tree.specs.Tree as c
use Rattle.high_ir.specs.Standing.{Bounded, Bounds}
use Rattle.plan_definition.specs.Statements.{loops_before}

-- the starts of a loop as the high form has them
abbrev pub as_bounds : Starts → Bounds
as_bounds s = record { least = s.least; most = s.most }

-- a loop of a source as passes see loops
abbrev pub bounded : SourceLoop → Bounded
bounded l = record { id = l.number; bounds = as_bounds l.starts }

-- a loop of the source, by its number from 0 on; its number in the plan, and how often each entry of it starts its body
pub record Planned : Type 0 where
  pub old : ℕ
  pub id : ℕ
  pub bounds : Bounds

abbrev pub in_plan : Planned → Bounded
in_plan l = record { id = l.id; bounds = l.bounds }

abbrev pub in_source : Planned → Bounded
in_source l = record { id = l.old; bounds = l.bounds }

abbrev pub planned_loop : (old id : ℕ) → Starts → Planned
planned_loop old id s = record { old = old; id = id; bounds = as_bounds s }

-- where loops have these bounds of body starts
module _ (bounds : List BodyStarts) where
  -- a filling starts once for each element that is left over
  abbrev pub filling_loops : (shift : ℕ) → Option ℕ → List Planned
  filling_loops shift None = []
  filling_loops shift (Some number) = planned_loop (number - 1) (number - 1 - shift) (record { least = (bounds_at bounds number).max; most = (bounds_at bounds number).max }) ∷ []

  abbrev pub initial_loops : (shift : ℕ) → c.Initial → List Planned
  initial_loops shift c.Absent = []
  initial_loops shift (c.Value e) = []
  initial_loops shift (c.Listed values comma number) = filling_loops shift number

  abbrev pub objects_loops : (shift : ℕ) → List c.Object → List Planned
  objects_loops shift [] = []
  objects_loops shift (c.Declared object shape initial at ∷ rest) = initial_loops shift initial ++ objects_loops shift rest

  abbrev pub declaration_loops : (shift : ℕ) → c.Declaration → List Planned
  declaration_loops shift (c.Objects specifiers objects at) = objects_loops shift objects
  declaration_loops shift (c.Prototype specifiers name params at) = []

  -- the fillings in the head of a `for` stand before its loop in the plan
  abbrev pub start_loops : c.ForStart → List Planned
  start_loops c.NoStart = []
  start_loops (c.StartValue e) = []
  start_loops (c.StartDeclaration declaration) = declaration_loops 1 declaration

  abbrev mutual
    pub statement_loops : c.Statement → List Planned
    statement_loops (c.Block items at) = items_loops items
    statement_loops (c.Empty at) = []
    statement_loops (c.Evaluate e at) = []
    statement_loops (c.Marker number pragma) = []
    statement_loops (c.If test first at) = statement_loops first
    statement_loops (c.IfElse test first second at) = statement_loops first ++ statement_loops second
    statement_loops (c.While number bound test body at) = planned_loop (number - 1) (number - 1) (starts (c.While number bound test body at) (bounds_at bounds number)) ∷ statement_loops body
    statement_loops (c.Do number bound body test at) = planned_loop (number - 1) (number - 1) (starts (c.Do number bound body test at) (bounds_at bounds number)) ∷ statement_loops body
    statement_loops (c.For number bound start test step body at) =
        planned_loop (number - 1) (number - 1 + loops_before start) (starts (c.For number bound start test step body at) (bounds_at bounds number)) ∷ (start_loops start ++ statement_loops body)
    statement_loops (c.Switch test items at) = items_loops items
    statement_loops (c.Break at) = []
    statement_loops (c.Continue at) = []
    statement_loops (c.Return value at) = []

    pub items_loops : c.Items → List Planned
    items_loops c.NoItem = []
    items_loops (c.WithDeclaration declaration rest) = declaration_loops 0 declaration ++ items_loops rest
    items_loops (c.WithStatement statement rest) = statement_loops statement ++ items_loops rest
    items_loops (c.WithRestriction pragma rest) = items_loops rest
    items_loops (c.WithLabel label rest) = items_loops rest

  abbrev pub functions_loops : List c.Function → List Planned
  functions_loops [] = []
  functions_loops (c.Defined specifiers name name_at params first body body_at at ∷ rest) = items_loops body ++ functions_loops rest
