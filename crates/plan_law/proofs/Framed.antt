-- What fits a layout keeps to the frame of its function.
use Rattle.std.proofs.Common.{◌≡◌, ℕ, ◌<◌, Bool, true, false, List, [], ◌∷◌, Option, Some, None, refl, subst}
use Rattle.std.specs.Prelude.{◌==◌, ◌||◌}
use Rattle.std.proofs.lemmas.Bool.{eqb-true, false≢true}
use Rattle.facts_definitions.specs.declared.facts.Bounds.{Bounds}
use Rattle.types_tree.specs.Tree as c
use Rattle.high_ir.specs.declared.object.Kind.{Kind}
use Rattle.plan_definition.specs.declared.home.Home.{Home}
use Rattle.plan_definition.specs.declared.home.Home.TheVariants.{Frame, Memory}
use Rattle.plan_definition.specs.Values.{array_named}
use Rattle.plan_runs.specs.ExpressionFits.{Fit, FitArguments, FitPlace, Formal, Function, IsArgument, IsScalar, OfArray, OfWord, Signatures, parameters_of}
use Rattle.plan_runs.specs.Meets.{Layout, home, kind_at}
use Rattle.plan_runs.specs.StatementFits.{FitDeclaration, FitInitial, FitItems, FitObjects, FitOption, FitReturn, FitStart, FitStatement, FitValues, IsDeclared, among, block_declares, declares, start_declares, with_live}
use Rattle.plan_formed.specs.Framed.{AllFramed, DeclarationFramed, Framed, InitialFramed, ItemsFramed, LivesBelow, ObjectsFramed, OptionFramed, PlaceFramed, StartFramed, StatementFramed}

-- the scalars that live are in the frame
pub record LiveBelow (layout : Layout) (f : Function) : Type 0 where
  pub by : (o x : ℕ) → f.live o ≡ true → home layout o ≡ Frame x → x < f.variables

pub either : (x y : Bool) (P : Type 0) → (x || y) ≡ true → (x ≡ true → P) → (y ≡ true → P) → P
either true y P h f g = f refl
either false y P h f g = g h

module _ (layout : Layout) (signatures : Signatures) where
  scalar_below : (f : Function) (object : ℕ) → LiveBelow layout f → (h : Home) → home layout object ≡ h → IsScalar layout f object h → LivesBelow f.variables h
  scalar_below f object below (Frame x) e s = below.by object x s e
  scalar_below f object below (Memory array) e s = tt

  declared_below : (f : Function) (object : ℕ) → IsDeclared layout f object → (h : Home) → home layout object ≡ h → LivesBelow f.variables h
  declared_below f object d (Frame x) e = d.1 x e
  declared_below f object d (Memory array) e = tt

  -- an argument for an array is an array's name
  array_framed : (f : Function) (n : ℕ) (e : c.Expr) (kind : Kind) (constant : Bool) → IsArgument layout f (array_named e) kind constant → Framed layout.homes n e
  array_framed f n (c.Number constant at) kind fixed h = tt
  array_framed f n (c.Character word at) kind fixed h = tt
  array_framed f n (c.Read place) kind fixed h = absurd h
  array_framed f n (c.Array object at) kind fixed h = tt
  array_framed f n (c.Paren inner at) kind fixed h = absurd h
  array_framed f n (c.Call to arguments at) kind fixed h = absurd h
  array_framed f n (c.Step fix operator type target at) kind fixed h = absurd h
  array_framed f n (c.Signed operator type operand at) kind fixed h = absurd h
  array_framed f n (c.Cast specifiers to operand at) kind fixed h = absurd h
  array_framed f n (c.Convert to operand) kind fixed h = absurd h
  array_framed f n (c.Operate operator type left right at) kind fixed h = absurd h
  array_framed f n (c.And left right at) kind fixed h = absurd h
  array_framed f n (c.Or left right at) kind fixed h = absurd h
  array_framed f n (c.Comma left right at) kind fixed h = absurd h
  array_framed f n (c.Conditional test first second at) kind fixed h = absurd h
  array_framed f n (c.Assign target value at) kind fixed h = absurd h
  array_framed f n (c.Update operator type to target value at) kind fixed h = absurd h

  module _ (f : Function) (below : LiveBelow layout f) where
    mutual
      place_framed : (place : c.Place) → FitPlace layout signatures f place → PlaceFramed layout.homes f.variables place
      place_framed (c.Scalar object at) h = scalar_below f object below (home layout object) refl h
      place_framed (c.Element array index at) h = framed index h.1
      place_framed (c.Within inner at) h = place_framed inner h

      framed : (e : c.Expr) → Fit layout signatures f e → Framed layout.homes f.variables e
      framed (c.Number constant at) h = tt
      framed (c.Character word at) h = tt
      framed (c.Read place) h = place_framed place h
      framed (c.Array object at) h = tt
      framed (c.Paren inner at) h = framed inner h
      framed (c.Call to arguments at) h = arguments_framed arguments (parameters_of signatures to) h.0
      framed (c.Step fix operator kind target at) h = place_framed target h.0
      framed (c.Signed operator kind operand at) h = framed operand h
      framed (c.Cast specifiers to operand at) h = framed operand h
      framed (c.Convert to operand) h = framed operand h
      framed (c.Operate operator kind left right at) h = (framed left h.0, framed right h.1)
      framed (c.And left right at) h = (framed left h.0, framed right h.1)
      framed (c.Or left right at) h = (framed left h.0, framed right h.1)
      framed (c.Comma left right at) h = (framed left h.0, framed right h.1)
      framed (c.Conditional test first second at) h = (framed test h.0, framed first h.1, framed second h.2)
      framed (c.Assign target value at) h = (place_framed target h.0, framed value h.1)
      framed (c.Update operator kind to target value at) h = (place_framed target h.0, framed value h.1)

      arguments_framed : (es : c.Exprs) (parameters : List Formal) → FitArguments layout signatures f es parameters → AllFramed layout.homes f.variables es
      arguments_framed c.NoExpr parameters h = tt
      arguments_framed (c.WithExpr e rest) [] h = absurd h
      arguments_framed (c.WithExpr e rest) (OfWord kind ∷ parameters) h = (framed e h.0, arguments_framed rest parameters h.3)
      arguments_framed (c.WithExpr e rest) (OfArray kind constant ∷ parameters) h = (array_framed f f.variables e kind constant h.0, arguments_framed rest parameters h.1)

  module _ (result : Kind) (bounds : List Bounds) where
    values_framed : (f : Function) → LiveBelow layout f → (es : c.Exprs) (kind : Kind) → FitValues layout signatures result bounds f es kind → AllFramed layout.homes f.variables es
    values_framed f below c.NoExpr kind h = tt
    values_framed f below (c.WithExpr e rest) kind h = (framed f below e h.0.0, values_framed f below rest kind h.1)

    initial_framed : (f : Function) → LiveBelow layout f → (object : ℕ) (initial : c.Initial) → FitInitial layout signatures result bounds f object initial → InitialFramed layout.homes f.variables initial
    initial_framed f below object c.Absent h = tt
    initial_framed f below object (c.Value e) h = framed f below e h.1.0
    initial_framed f below object (c.Listed es comma filling) h = values_framed f below es (kind_at layout object) h.1

    objects_framed : (f : Function) → LiveBelow layout f → (objects : List c.Object) → FitObjects layout signatures result bounds f objects → ObjectsFramed layout.homes f.variables objects
    objects_framed f below [] h = tt
    objects_framed f below (c.Declared object shape initial at ∷ rest) h = (declared_below f object h.0 (home layout object) refl, initial_framed f below object initial h.1, objects_framed f below rest h.2)

    declaration_framed : (f : Function) → LiveBelow layout f → (declaration : c.Declaration) → FitDeclaration layout signatures result bounds f declaration → DeclarationFramed layout.homes f.variables declaration
    declaration_framed f below (c.Objects specifiers objects at) h = objects_framed f below objects h
    declaration_framed f below (c.Prototype specifiers name params at) h = tt

    start_framed : (f : Function) → LiveBelow layout f → (start : c.ForStart) → FitStart layout signatures result bounds f start → StartFramed layout.homes f.variables start
    start_framed f below c.NoStart h = tt
    start_framed f below (c.StartValue e) h = framed f below e h
    start_framed f below (c.StartDeclaration declaration) h = declaration_framed f below declaration h

    option_framed : (f : Function) → LiveBelow layout f → (o : Option c.Expr) → FitOption layout signatures result bounds f o → OptionFramed layout.homes f.variables o
    option_framed f below None h = tt
    option_framed f below (Some e) h = framed f below e h

    return_framed : (f : Function) → LiveBelow layout f → (o : Option c.Expr) → FitReturn layout signatures result bounds f o → OptionFramed layout.homes f.variables o
    return_framed f below None h = tt
    return_framed f below (Some e) h = framed f below e h.0

    -- what a block declares is the function's own
    among_declared : (f : Function) (objects : List c.Object) (o : ℕ) → among objects o ≡ true → FitObjects layout signatures result bounds f objects → IsDeclared layout f o
    among_declared f [] o is h = absurd (false≢true is)
    among_declared f (c.Declared object shape initial at ∷ rest) o is h =
        either (object == o) (among rest o) (IsDeclared layout f o) is (λ e. subst (IsDeclared layout f) (eqb-true object o e) h.0) (λ later. among_declared f rest o later h.2)

    declares_own : (f : Function) (declaration : c.Declaration) (o : ℕ) → declares declaration o ≡ true → FitDeclaration layout signatures result bounds f declaration → IsDeclared layout f o
    declares_own f (c.Objects specifiers objects at) o is h = among_declared f objects o is h
    declares_own f (c.Prototype specifiers name params at) o is h = absurd (false≢true is)

    pub block_own : (f : Function) (items : c.Items) (o : ℕ) → block_declares items o ≡ true → FitItems layout signatures result bounds f items → IsDeclared layout f o
    block_own f c.NoItem o is h = absurd (false≢true is)
    block_own f (c.WithDeclaration declaration rest) o is h =
        either (declares declaration o) (block_declares rest o) (IsDeclared layout f o) is (λ e. declares_own f declaration o e h.0) (λ later. block_own f rest o later h.1)
    block_own f (c.WithStatement statement rest) o is h = block_own f rest o is h.1
    block_own f (c.WithRestriction pragma rest) o is h = block_own f rest o is h
    block_own f (c.WithLabel label rest) o is h = block_own f rest o is h

    pub within_block : (f : Function) → LiveBelow layout f → (items : c.Items) → FitItems layout signatures result bounds (with_live f (block_declares items)) items → LiveBelow layout (with_live f (block_declares items))
    within_block f below items h = record { by = λ o x live e. either (f.live o) (block_declares items o) (x < f.variables) live (λ old. below.by o x old e) (λ new. (block_own (with_live f (block_declares items)) items o new h).1 x e) }

    within_start : (f : Function) → LiveBelow layout f → (start : c.ForStart) → FitStart layout signatures result bounds (with_live f (start_declares start)) start → LiveBelow layout (with_live f (start_declares start))
    within_start f below c.NoStart h = record { by = λ o x live e. either (f.live o) false (x < f.variables) live (λ old. below.by o x old e) (λ new. absurd (false≢true new)) }
    within_start f below (c.StartValue value) h = record { by = λ o x live e. either (f.live o) false (x < f.variables) live (λ old. below.by o x old e) (λ new. absurd (false≢true new)) }
    within_start f below (c.StartDeclaration declaration) h =
        record { by = λ o x live e. either (f.live o) (declares declaration o) (x < f.variables) live (λ old. below.by o x old e) (λ new. (declares_own (with_live f (declares declaration)) declaration o new h).1 x e) }

    mutual
      statement_framed : (f : Function) → LiveBelow layout f → (s : c.Statement) → FitStatement layout signatures result bounds f s → StatementFramed layout.homes f.variables s
      statement_framed f below (c.Block items at) h = items_framed (with_live f (block_declares items)) (within_block f below items h) items h
      statement_framed f below (c.Empty at) h = tt
      statement_framed f below (c.Evaluate e at) h = framed f below e h
      statement_framed f below (c.Marker number pragma) h = tt
      statement_framed f below (c.If test first at) h = (framed f below test h.0, statement_framed f below first h.1)
      statement_framed f below (c.IfElse test first second at) h = (framed f below test h.0, statement_framed f below first h.1, statement_framed f below second h.2)
      statement_framed f below (c.While number bound test body at) h = (framed f below test h.0, statement_framed f below body h.1)
      statement_framed f below (c.Do number bound body test at) h = (statement_framed f below body h.1, framed f below test h.0)
      statement_framed f below (c.For number bound start test step body at) h =
          let g = with_live f (start_declares start) in
          let inside = within_start f below start h.0 in
          (start_framed g inside start h.0, option_framed g inside test h.1, option_framed g inside step h.2, statement_framed g inside body h.3)
      statement_framed f below (c.Switch test items at) h = (framed f below test h.0, items_framed (with_live f (block_declares items)) (within_block f below items h.1) items h.1)
      statement_framed f below (c.Break at) h = tt
      statement_framed f below (c.Continue at) h = tt
      statement_framed f below (c.Return value at) h = return_framed f below value h

      pub items_framed : (f : Function) → LiveBelow layout f → (items : c.Items) → FitItems layout signatures result bounds f items → ItemsFramed layout.homes f.variables items
      items_framed f below c.NoItem h = tt
      items_framed f below (c.WithDeclaration declaration rest) h = (declaration_framed f below declaration h.0, items_framed f below rest h.1)
      items_framed f below (c.WithStatement statement rest) h = (statement_framed f below statement h.0, items_framed f below rest h.1)
      items_framed f below (c.WithRestriction pragma rest) h = items_framed f below rest h
      items_framed f below (c.WithLabel label rest) h = items_framed f below rest h
