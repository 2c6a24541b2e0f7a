-- The loops that are listed are those of the source.
use Rattle.std.proofs.Common.{◌≡◌, refl, ap, ◌∙◌, sym, ℕ, ◌+◌, ◌-◌, List, [], ◌∷◌, ◌++◌, map, Option, Some, None}
use Rattle.std.proofs.lemmas.List.{map-append}
use Rattle.facts_definitions.specs.declared.facts.Bounds.{Bounds}
use Rattle.types_tree.specs.Tree as c
use Rattle.plan_carried.specs.Loops.{Planned, declaration_loops, filling_loops, functions_loops, initial_loops, items_loops, objects_loops, start_loops, statement_loops}
use Rattle.plan_carried.specs.Sources.{loop_entry}
use Rattle.plan_definition.specs.Statements.{loops_before}
use Rattle.make_loops.specs.Numbers.{declaration_numbers, filling_numbers, functions_numbers, initial_numbers, items_numbers, objects_numbers, renumbered, start_numbers, statement_numbers}
use Rattle.make_loops.specs.declared.renumbered.Renumbered.{Renumbered}
use Rattle.high_make.specs.Entries.{once}

module _ (bounds : List Bounds) where
  abbrev Lists : List Renumbered → List Planned → Type 0
  Lists numbers loops = map once numbers ≡ map loop_entry loops

  -- of lists one behind the other
  both : (a b : List Renumbered) (c d : List Planned) → Lists a c → Lists b d → Lists (a ++ b) (c ++ d)
  both a b c d e f = map-append once a b ∙ ap (λ x. x ++ map once b) e ∙ ap (λ x. map loop_entry c ++ x) f ∙ sym (map-append loop_entry c d)

  filling_listed : (shift : ℕ) (number : Option ℕ) → Lists (filling_numbers shift number) (filling_loops bounds shift number)
  filling_listed shift None = refl
  filling_listed shift (Some number) = refl

  initial_listed : (shift : ℕ) (initial : c.Initial) → Lists (initial_numbers shift initial) (initial_loops bounds shift initial)
  initial_listed shift c.Absent = refl
  initial_listed shift (c.Value e) = refl
  initial_listed shift (c.Listed values comma number) = filling_listed shift number

  objects_listed : (shift : ℕ) (objects : List c.Object) → Lists (objects_numbers shift objects) (objects_loops bounds shift objects)
  objects_listed shift [] = refl
  objects_listed shift (c.Declared object shape initial at ∷ rest) =
      both (initial_numbers shift initial) (objects_numbers shift rest) (initial_loops bounds shift initial) (objects_loops bounds shift rest) (initial_listed shift initial) (objects_listed shift rest)

  declaration_listed : (shift : ℕ) (declaration : c.Declaration) → Lists (declaration_numbers shift declaration) (declaration_loops bounds shift declaration)
  declaration_listed shift (c.Objects specifiers objects at) = objects_listed shift objects
  declaration_listed shift (c.Prototype specifiers name params at) = refl

  start_listed : (start : c.ForStart) → Lists (start_numbers start) (start_loops bounds start)
  start_listed c.NoStart = refl
  start_listed (c.StartValue e) = refl
  start_listed (c.StartDeclaration declaration) = declaration_listed 1 declaration

  mutual
    statement_listed : (s : c.Statement) → Lists (statement_numbers s) (statement_loops bounds s)
    statement_listed (c.Block items at) = items_listed items
    statement_listed (c.Empty at) = refl
    statement_listed (c.Evaluate e at) = refl
    statement_listed (c.Marker number pragma) = refl
    statement_listed (c.If test first at) = statement_listed first
    statement_listed (c.IfElse test first second at) =
        both (statement_numbers first) (statement_numbers second) (statement_loops bounds first) (statement_loops bounds second) (statement_listed first) (statement_listed second)
    statement_listed (c.While number bound test body at) = ap (λ es. once (renumbered (number - 1) (number - 1)) ∷ es) (statement_listed body)
    statement_listed (c.Do number bound body test at) = ap (λ es. once (renumbered (number - 1) (number - 1)) ∷ es) (statement_listed body)
    statement_listed (c.For number bound start test step body at) =
        ap (λ es. once (renumbered (number - 1) (number - 1 + loops_before start)) ∷ es)
        (both (start_numbers start) (statement_numbers body) (start_loops bounds start) (statement_loops bounds body) (start_listed start) (statement_listed body))
    statement_listed (c.Switch test items at) = items_listed items
    statement_listed (c.Break at) = refl
    statement_listed (c.Continue at) = refl
    statement_listed (c.Return value at) = refl

    items_listed : (items : c.Items) → Lists (items_numbers items) (items_loops bounds items)
    items_listed c.NoItem = refl
    items_listed (c.WithDeclaration declaration rest) =
        both (declaration_numbers 0 declaration) (items_numbers rest) (declaration_loops bounds 0 declaration) (items_loops bounds rest) (declaration_listed 0 declaration) (items_listed rest)
    items_listed (c.WithStatement statement rest) =
        both (statement_numbers statement) (items_numbers rest) (statement_loops bounds statement) (items_loops bounds rest) (statement_listed statement) (items_listed rest)
    items_listed (c.WithRestriction pragma rest) = items_listed rest
    items_listed (c.WithLabel label rest) = items_listed rest

  pub functions_listed : (fs : List c.Function) → Lists (functions_numbers fs) (functions_loops bounds fs)
  functions_listed [] = refl
  functions_listed (c.Defined specifiers name name_at params first body body_at at ∷ rest) =
      both (items_numbers body) (functions_numbers rest) (items_loops bounds body) (functions_loops bounds rest) (items_listed body) (functions_listed rest)
