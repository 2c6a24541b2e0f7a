-- The starts of the loops of a source can be kept.
use Rattle.std.proofs.Common.{ℕ, zero, suc, ◌≤◌, inl, inr, Bool, true, false, List, [], ◌∷◌, ◌++◌, Option, Some, None, refl, arith, All}
use Rattle.std.specs.Prelude.{max}
use Rattle.std.proofs.Math.Nat.{max-le}
use Rattle.std.proofs.lemmas.List.Elements.{All-append, All-cons, All-nil}
use Rattle.facts_definitions.specs.Most.{bounds_at}
use Rattle.facts_definitions.specs.Starts.{is_always, is_always_or_absent, leaves, starts_by}
use Rattle.facts_definitions.specs.declared.facts.Bounds.{Bounds}
use Rattle.facts_loops.specs.Loops.{SourceLoop, declaration_loops, filling_loops, functions_loops, initial_loops, items_loops, numbered, objects_loops, start_loops, statement_loops}
use Rattle.types_tree.specs.Tree as c
use Rattle.compile_capacity.specs.Turns.{CanKeep}
use Rattle.compile_capacity.proofs.Ordered.{AreOrdered, ordered_at}

abbrev pub CanStart : SourceLoop → Type 0
CanStart l = CanKeep l.starts.least l.starts.most

-- at least one start, where there may be one
once_or_none : (least most : ℕ) → least ≤ most → CanKeep (max 1 least) most
once_or_none least zero h = inr refl
once_or_none least (suc most) h = inl (max-le (omega arith) h)

starts_kept : (always left : Bool) (b : Bounds) → AreOrdered b → CanKeep (starts_by always left b).least (starts_by always left b).most
starts_kept true true b h = once_or_none b.min b.max h
starts_kept true false b h = once_or_none b.min b.max h
starts_kept false true b h = inl (max-le (omega arith) (omega (arith, h)))
starts_kept false false b h = inl (omega (arith, h))

module _ (bounds : List Bounds) (ordered : All AreOrdered bounds) where
  filling_kept : (number : Option ℕ) → All CanStart (filling_loops bounds number)
  filling_kept None = All-nil CanStart
  filling_kept (Some number) =
      let most = (bounds_at bounds number).max in
      All-cons CanStart (numbered number (record { least = most; most = most })) [] (inl (omega arith)) (All-nil CanStart)

  initial_kept : (initial : c.Initial) → All CanStart (initial_loops bounds initial)
  initial_kept c.Absent = All-nil CanStart
  initial_kept (c.Value e) = All-nil CanStart
  initial_kept (c.Listed values comma number) = filling_kept number

  objects_kept : (objects : List c.Object) → All CanStart (objects_loops bounds objects)
  objects_kept [] = All-nil CanStart
  objects_kept (c.Declared object shape initial at ∷ rest) = All-append CanStart (initial_loops bounds initial) (objects_loops bounds rest) (initial_kept initial) (objects_kept rest)

  declaration_kept : (declaration : c.Declaration) → All CanStart (declaration_loops bounds declaration)
  declaration_kept (c.Objects specifiers objects at) = objects_kept objects
  declaration_kept (c.Prototype specifiers name params at) = All-nil CanStart

  start_kept : (start : c.ForStart) → All CanStart (start_loops bounds start)
  start_kept c.NoStart = All-nil CanStart
  start_kept (c.StartValue e) = All-nil CanStart
  start_kept (c.StartDeclaration declaration) = declaration_kept declaration

  -- a loop by its number, before the loops in it
  loop_kept : (number : ℕ) (always left : Bool) (inner : List SourceLoop) → All CanStart inner → All CanStart (numbered number (starts_by always left (bounds_at bounds number)) ∷ inner)
  loop_kept number always left inner others =
      All-cons CanStart (numbered number (starts_by always left (bounds_at bounds number))) inner (starts_kept always left (bounds_at bounds number) (ordered_at bounds number ordered)) others

  mutual
    statement_kept : (s : c.Statement) → All CanStart (statement_loops bounds s)
    statement_kept (c.Block items at) = items_kept items
    statement_kept (c.Empty at) = All-nil CanStart
    statement_kept (c.Evaluate e at) = All-nil CanStart
    statement_kept (c.Marker number pragma) = All-nil CanStart
    statement_kept (c.If test first at) = statement_kept first
    statement_kept (c.IfElse test first second at) = All-append CanStart (statement_loops bounds first) (statement_loops bounds second) (statement_kept first) (statement_kept second)
    statement_kept (c.While number bound test body at) = loop_kept number (is_always test) (leaves true body) (statement_loops bounds body) (statement_kept body)
    statement_kept (c.Do number bound body test at) = loop_kept number true (leaves true body) (statement_loops bounds body) (statement_kept body)
    statement_kept (c.For number bound start test step body at) =
        loop_kept number (is_always_or_absent test) (leaves true body) (start_loops bounds start ++ statement_loops bounds body)
        (All-append CanStart (start_loops bounds start) (statement_loops bounds body) (start_kept start) (statement_kept body))
    statement_kept (c.Switch test items at) = items_kept items
    statement_kept (c.Break at) = All-nil CanStart
    statement_kept (c.Continue at) = All-nil CanStart
    statement_kept (c.Return value at) = All-nil CanStart

    items_kept : (items : c.Items) → All CanStart (items_loops bounds items)
    items_kept c.NoItem = All-nil CanStart
    items_kept (c.WithDeclaration declaration rest) = All-append CanStart (declaration_loops bounds declaration) (items_loops bounds rest) (declaration_kept declaration) (items_kept rest)
    items_kept (c.WithStatement statement rest) = All-append CanStart (statement_loops bounds statement) (items_loops bounds rest) (statement_kept statement) (items_kept rest)
    items_kept (c.WithRestriction pragma rest) = items_kept rest
    items_kept (c.WithLabel label rest) = items_kept rest

  pub functions_kept : (fs : List c.Function) → All CanStart (functions_loops bounds fs)
  functions_kept [] = All-nil CanStart
  functions_kept (c.Defined specifiers name name_at params first body body_at at ∷ rest) = All-append CanStart (items_loops bounds body) (functions_loops bounds rest) (items_kept body) (functions_kept rest)
