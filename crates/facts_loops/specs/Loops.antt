-- The loops of a typed program in the order of the source, fillings included: their numbers, and how often each entry starts the body.
use Rattle.std.specs.Prelude.{ℕ, ◌-◌, ◌==◌, List, [], ◌∷◌, ◌++◌, Option, Some, None, if◌then◌else◌}
use Rattle.facts_definitions.specs.Most.{bounds_at}
use Rattle.facts_definitions.specs.Starts.{starts}
use Rattle.facts_definitions.specs.declared.facts.Bounds.{Bounds}
use Rattle.facts_definitions.specs.declared.facts.Facts.{Facts}
use Rattle.facts_definitions.specs.declared.facts.Starts.{Starts}
use Rattle.types_tree.specs.Tree as c

-- a loop by its number from 0 on, and how often each entry of it starts its body, the last test among the starts
pub record SourceLoop : Type 0 where
  pub number : ℕ
  pub starts : Starts

-- where the tree numbers loops from 1 on
abbrev pub numbered : ℕ → Starts → SourceLoop
numbered number s = record { number = number - 1; starts = s }

-- where loops have these bounds of body starts
module _ (bounds : List Bounds) where
  -- a filling starts once for each element that is left over
  abbrev pub filling_loops : Option ℕ → List SourceLoop
  filling_loops None = []
  filling_loops (Some number) = numbered number (record { least = (bounds_at bounds number).max; most = (bounds_at bounds number).max }) ∷ []

  abbrev pub initial_loops : c.Initial → List SourceLoop
  initial_loops c.Absent = []
  initial_loops (c.Value e) = []
  initial_loops (c.Listed values comma number) = filling_loops number

  abbrev pub objects_loops : List c.Object → List SourceLoop
  objects_loops [] = []
  objects_loops (c.Declared object shape initial at ∷ rest) = initial_loops initial ++ objects_loops rest

  abbrev pub declaration_loops : c.Declaration → List SourceLoop
  declaration_loops (c.Objects specifiers objects at) = objects_loops objects
  declaration_loops (c.Prototype specifiers name params at) = []

  abbrev pub start_loops : c.ForStart → List SourceLoop
  start_loops c.NoStart = []
  start_loops (c.StartValue e) = []
  start_loops (c.StartDeclaration declaration) = declaration_loops declaration

  abbrev mutual
    -- a loop, and then those within it
    pub statement_loops : c.Statement → List SourceLoop
    statement_loops (c.Block items at) = items_loops items
    statement_loops (c.Empty at) = []
    statement_loops (c.Evaluate e at) = []
    statement_loops (c.Marker number pragma) = []
    statement_loops (c.If test first at) = statement_loops first
    statement_loops (c.IfElse test first second at) = statement_loops first ++ statement_loops second
    statement_loops (c.While number bound test body at) = numbered number (starts (c.While number bound test body at) (bounds_at bounds number)) ∷ statement_loops body
    statement_loops (c.Do number bound body test at) = numbered number (starts (c.Do number bound body test at) (bounds_at bounds number)) ∷ statement_loops body
    statement_loops (c.For number bound start test step body at) =
        numbered number (starts (c.For number bound start test step body at) (bounds_at bounds number)) ∷ (start_loops start ++ statement_loops body)
    statement_loops (c.Switch test items at) = items_loops items
    statement_loops (c.Break at) = []
    statement_loops (c.Continue at) = []
    statement_loops (c.Return value at) = []

    pub items_loops : c.Items → List SourceLoop
    items_loops c.NoItem = []
    items_loops (c.WithDeclaration declaration rest) = declaration_loops declaration ++ items_loops rest
    items_loops (c.WithStatement statement rest) = statement_loops statement ++ items_loops rest
    items_loops (c.WithRestriction pragma rest) = items_loops rest
    items_loops (c.WithLabel label rest) = items_loops rest

  abbrev pub functions_loops : List c.Function → List SourceLoop
  functions_loops [] = []
  functions_loops (c.Defined specifiers name name_at params first body body_at at ∷ rest) = items_loops body ++ functions_loops rest

abbrev pub source_loops : c.Program → Facts → List SourceLoop
source_loops program facts = functions_loops facts.bounds program.functions

-- the starts of the loop that has a number
abbrev pub starts_of : List SourceLoop → ℕ → Option Starts
starts_of [] k = None
starts_of (l ∷ ls) k = if l.number == k then Some l.starts else starts_of ls k
