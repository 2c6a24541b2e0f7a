-- The loops of a plan, with the numbers that they have in the source, are the loops of the source.
use Rattle.std.proofs.Common.{◌≡◌, ℕ, List, [], ◌∷◌, ◌++◌, map, Option, Some, None, refl, sym, ap, ◌∙◌}
use Rattle.std.proofs.lemmas.List.{map-append}
use Rattle.facts_definitions.specs.Most.{bounds_at}
use Rattle.facts_definitions.specs.Starts.{starts}
use Rattle.facts_definitions.specs.declared.facts.Bounds.{Bounds}
use Rattle.facts_definitions.specs.declared.facts.Starts.{Starts}
use Rattle.facts_loops.specs.Loops as source
use Rattle.facts_loops.specs.Loops.{SourceLoop, numbered}
use Rattle.types_tree.specs.Tree as c
use Rattle.plan_carried.specs.Loops.{Planned, bounded, declaration_loops, filling_loops, functions_loops, in_source, initial_loops, items_loops, objects_loops, start_loops, statement_loops}

-- loops of a plan are those of a source
abbrev AreThose : List Planned → List SourceLoop → Type 0
AreThose ls ms = map in_source ls ≡ map bounded ms

both : (ks ls : List Planned) (xs ys : List SourceLoop) → AreThose ks xs → AreThose ls ys → AreThose (ks ++ ls) (xs ++ ys)
both ks ls xs ys h k = map-append in_source ks ls ∙ ap (λ l. l ++ map in_source ls) h ∙ ap (λ l. map bounded xs ++ l) k ∙ sym (map-append bounded xs ys)

-- a loop before others
before : (number : ℕ) (s : Starts) (ls : List Planned) (ms : List SourceLoop) → AreThose ls ms → bounded (numbered number s) ∷ map in_source ls ≡ map bounded (numbered number s ∷ ms)
before number s ls ms h = ap (λ l. bounded (numbered number s) ∷ l) h

module _ (bounds : List Bounds) where
  filling_is : (shift : ℕ) (number : Option ℕ) → AreThose (filling_loops bounds shift number) (source.filling_loops bounds number)
  filling_is shift None = refl
  filling_is shift (Some number) = refl

  initial_is : (shift : ℕ) (initial : c.Initial) → AreThose (initial_loops bounds shift initial) (source.initial_loops bounds initial)
  initial_is shift c.Absent = refl
  initial_is shift (c.Value e) = refl
  initial_is shift (c.Listed values comma number) = filling_is shift number

  objects_are : (shift : ℕ) (objects : List c.Object) → AreThose (objects_loops bounds shift objects) (source.objects_loops bounds objects)
  objects_are shift [] = refl
  objects_are shift (c.Declared object shape initial at ∷ rest) =
      both (initial_loops bounds shift initial) (objects_loops bounds shift rest) (source.initial_loops bounds initial) (source.objects_loops bounds rest) (initial_is shift initial) (objects_are shift rest)

  declaration_is : (shift : ℕ) (declaration : c.Declaration) → AreThose (declaration_loops bounds shift declaration) (source.declaration_loops bounds declaration)
  declaration_is shift (c.Objects specifiers objects at) = objects_are shift objects
  declaration_is shift (c.Prototype specifiers name params at) = refl

  start_is : (start : c.ForStart) → AreThose (start_loops bounds start) (source.start_loops bounds start)
  start_is c.NoStart = refl
  start_is (c.StartValue e) = refl
  start_is (c.StartDeclaration declaration) = declaration_is 1 declaration

  mutual
    statement_is : (s : c.Statement) → AreThose (statement_loops bounds s) (source.statement_loops bounds s)
    statement_is (c.Block items at) = items_are items
    statement_is (c.Empty at) = refl
    statement_is (c.Evaluate e at) = refl
    statement_is (c.Marker number pragma) = refl
    statement_is (c.If test first at) = statement_is first
    statement_is (c.IfElse test first second at) =
        both (statement_loops bounds first) (statement_loops bounds second) (source.statement_loops bounds first) (source.statement_loops bounds second) (statement_is first) (statement_is second)
    statement_is (c.While number bound test body at) =
        before number (starts (c.While number bound test body at) (bounds_at bounds number)) (statement_loops bounds body) (source.statement_loops bounds body) (statement_is body)
    statement_is (c.Do number bound body test at) =
        before number (starts (c.Do number bound body test at) (bounds_at bounds number)) (statement_loops bounds body) (source.statement_loops bounds body) (statement_is body)
    statement_is (c.For number bound start test step body at) =
        before number (starts (c.For number bound start test step body at) (bounds_at bounds number))
        (start_loops bounds start ++ statement_loops bounds body) (source.start_loops bounds start ++ source.statement_loops bounds body)
        (both (start_loops bounds start) (statement_loops bounds body) (source.start_loops bounds start) (source.statement_loops bounds body) (start_is start) (statement_is body))
    statement_is (c.Switch test items at) = items_are items
    statement_is (c.Break at) = refl
    statement_is (c.Continue at) = refl
    statement_is (c.Return value at) = refl

    items_are : (items : c.Items) → AreThose (items_loops bounds items) (source.items_loops bounds items)
    items_are c.NoItem = refl
    items_are (c.WithDeclaration declaration rest) =
        both (declaration_loops bounds 0 declaration) (items_loops bounds rest) (source.declaration_loops bounds declaration) (source.items_loops bounds rest) (declaration_is 0 declaration) (items_are rest)
    items_are (c.WithStatement statement rest) =
        both (statement_loops bounds statement) (items_loops bounds rest) (source.statement_loops bounds statement) (source.items_loops bounds rest) (statement_is statement) (items_are rest)
    items_are (c.WithRestriction pragma rest) = items_are rest
    items_are (c.WithLabel label rest) = items_are rest

  pub functions_are : (fs : List c.Function) → AreThose (functions_loops bounds fs) (source.functions_loops bounds fs)
  functions_are [] = refl
  functions_are (c.Defined specifiers name name_at params first body body_at at ∷ rest) =
      both (items_loops bounds body) (functions_loops bounds rest) (source.items_loops bounds body) (source.functions_loops bounds rest) (items_are body) (functions_are rest)
