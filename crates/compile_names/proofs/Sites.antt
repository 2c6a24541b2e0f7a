-- What holds of the names and pragmas of a tree holds of the functions and markers of its typed program.
use Rattle.std.proofs.Common.{ℕ, zero, suc, ◌+◌, List, [], ◌∷◌, ◌++◌, length, Option, Some, None}
use Rattle.std.specs.Prelude.{◌-◌, slice_get}
use Rattle.facts_definitions.specs.Sites.{count_exprs, declaration_sites, elements_of, external_sites, externals_sites, filling_sites, function_sites, initial_sites, items_sites, loop_site, object_sites, objects_sites, start_sites, statement_sites, sites_of}
use Rattle.facts_definitions.specs.declared.site.Site.{Site}
use Rattle.facts_definitions.specs.declared.site.Site.TheVariants as sites
use Rattle.types_rules.specs.DeclarationRules.{within_function}
use Rattle.types_rules.specs.Scope.{Around, Outline, after_row, entered, started, with_loop}
use Rattle.types_rules.specs.Sights.{after_external, body_around}
use Rattle.types_rules.specs.Specifiers.{kind_spelled}
use Rattle.types_rules.specs.StatementRules.{after, after_items, within_for}
use Rattle.types_rules.specs.Typing.{and_external, typed_declaration, typed_external, typed_function, typed_items, typed_label, typed_params, typed_row, typed_start, typed_statement, typed_unit}
use Rattle.c_tree.specs.Formed.{EachOf}
use Rattle.c_tree.specs.Holding.{HoldsExternal, HoldsItems, HoldsStatement}
use Rattle.c_tree.specs.Tree.{Row, Nothing, Then, Statement, Block, Empty, Evaluate, Marker, If, IfElse, While, Do, For, Switch, Break, Continue, Return, Items, NoItem, AndDeclaration, AndStatement, AndRestriction, AndLabel, External, Restriction, Declaring, Function, Whole}
use Rattle.c_tree.specs.declared.pragma.Pragma.{Pragma}
use Rattle.types_tree.specs.Tree as typed
use Rattle.types_tree.specs.declared.variable.Variable.{Variable}
use Rattle.types_value.specs.declared.kind.Kind.{Kind}

module _ (P : ℕ → Type 0) (Q : Pragma → Type 0) where
  abbrev MeetsSite : Site → Type 0
  MeetsSite (sites.Marker pragma) = Q pragma
  MeetsSite site = Unit {0}

  abbrev pub EachSite : List Site → Type 0
  EachSite [] = Unit {0}
  EachSite (s ∷ ss) = MeetsSite s × EachSite ss

  both : (xs ys : List Site) → EachSite xs → EachSite ys → EachSite (xs ++ ys)
  both [] ys h k = k
  both (x ∷ xs) ys h k = (h.0, both xs ys h.1 k)

  module _ (vs : List Variable) where
    -- declarations have no markers
    fills : (left : ℕ) (number : Option ℕ) → EachSite (filling_sites left number)
    fills left None = tt
    fills left (Some number) = (tt, tt)

    initial_meets : (elements : ℕ) (initial : typed.Initial) → EachSite (initial_sites elements initial)
    initial_meets elements typed.Absent = tt
    initial_meets elements (typed.Value value) = tt
    initial_meets elements (typed.Listed values comma filling) = fills (elements - count_exprs values) filling

    objects_meet : (objects : List typed.Object) → EachSite (objects_sites vs objects)
    objects_meet [] = tt
    objects_meet (typed.Declared object shape initial at ∷ rest) =
        both (object_sites vs (typed.Declared object shape initial at)) (objects_sites vs rest) (initial_meets (elements_of (slice_get vs object)) initial) (objects_meet rest)

    declaration_meets : (d : typed.Declaration) → EachSite (declaration_sites vs d)
    declaration_meets (typed.Objects specifiers objects at) = objects_meet objects
    declaration_meets (typed.Prototype specifiers name params at) = (tt, tt)

    start_meets : (start : typed.ForStart) → EachSite (start_sites vs start)
    start_meets typed.NoStart = tt
    start_meets (typed.StartValue value) = tt
    start_meets (typed.StartDeclaration d) = declaration_meets d

    looped : (number : ℕ) (bound : Option Pragma) (at : ℕ) (rest : List Site) → EachSite rest → EachSite (loop_site number bound at ∷ rest)
    looped number None at rest h = (tt, h)
    looped number (Some pragma) at rest h = (tt, h)

    mutual
      statement_meets : (result : Kind) (s : Statement ℕ) (a : Around) → HoldsStatement P Q s → EachSite (statement_sites vs (typed_statement result s a))
      statement_meets result (Block items at) a h = items_meet result items (entered a) typed.NoItem h tt
      statement_meets result (Empty at) a h = tt
      statement_meets result (Evaluate value at) a h = tt
      statement_meets result (Marker pragma) a h = (h, tt)
      statement_meets result (If test first at) a h = statement_meets result first a h.1
      statement_meets result (IfElse test first second at) a h =
          both (statement_sites vs (typed_statement result first a)) (statement_sites vs (typed_statement result second (after first a))) (statement_meets result first a h.1) (statement_meets result second (after first a) h.2)
      statement_meets result (While bound test body at) a h = let b = with_loop a in looped (a.loops + 1) bound at (statement_sites vs (typed_statement result body b)) (statement_meets result body b h.1)
      statement_meets result (Do bound body test at) a h = let b = with_loop a in looped (a.loops + 1) bound at (statement_sites vs (typed_statement result body b)) (statement_meets result body b h.0)
      statement_meets result (For bound start test step body at) a h =
          let b = with_loop (entered a) in
          let w = within_for start a in
          let head = start_sites vs (typed_start start b) in
          let turns = statement_sites vs (typed_statement result body w) in
          looped (a.loops + 1) bound at (head ++ turns) (both head turns (start_meets (typed_start start b)) (statement_meets result body w h.3))
      statement_meets result (Switch test items at) a h = items_meet result items (entered a) typed.NoItem h.1 tt
      statement_meets result (Break at) a h = tt
      statement_meets result (Continue at) a h = tt
      statement_meets result (Return value at) a h = tt

      -- items before others
      items_meet : (result : Kind) (items : Items ℕ) (a : Around) (rest : typed.Items) → HoldsItems P Q items → EachSite (items_sites vs rest) → EachSite (items_sites vs (typed_items result items a rest))
      items_meet result NoItem a rest h k = k
      items_meet result (AndDeclaration front d) a rest h k =
          let made = typed_declaration d (after_items front a) in
          items_meet result front a (typed.WithDeclaration made rest) h.0 (both (declaration_sites vs made) (items_sites vs rest) (declaration_meets made) k)
      items_meet result (AndStatement front s) a rest h k =
          let now = after_items front a in
          let made = typed_statement result s now in
          items_meet result front a (typed.WithStatement made rest) h.0 (both (statement_sites vs made) (items_sites vs rest) (statement_meets result s now h.1) k)
      items_meet result (AndRestriction front pragma) a rest h k = items_meet result front a (typed.WithRestriction pragma rest) h.0 (tt, k)
      items_meet result (AndLabel front label) a rest h k = items_meet result front a (typed.WithLabel (typed_label label (after_items front a)) rest) h.0 k

  -- functions: the name, and the markers in the body
  abbrev MeetsFunction : typed.Function → Type 0
  MeetsFunction (typed.Defined specifiers name name_at params first body body_at at) = P name × ((vs : List Variable) → EachSite (items_sites vs body))

  abbrev pub EachFunction : List typed.Function → Type 0
  EachFunction [] = Unit {0}
  EachFunction (f ∷ fs) = MeetsFunction f × EachFunction fs

  functions_meet : (items : Row (External ℕ)) (a : Around) (rest : List typed.Function) → EachOf (HoldsExternal P Q) items → EachFunction rest → EachFunction (typed_row after_external typed_function items a rest)
  functions_meet Nothing a rest h k = k
  functions_meet (Then front (Restriction pragma)) a rest h k = functions_meet front a rest h.0 k
  functions_meet (Then front (Declaring d)) a rest h k = functions_meet front a rest h.0 k
  functions_meet (Then front (Function specifiers name name_at params body body_at at)) a rest h k =
      let now = after_row after_external front a in
      let inside = body_around specifiers name params now in
      let items = typed_items (kind_spelled specifiers) body inside typed.NoItem in
      functions_meet front a (typed.Defined specifiers name name_at (typed_params params (within_function specifiers name params now)) (length now.variables) items body_at at ∷ rest) h.0
      ((h.1.0, λ vs. items_meet vs (kind_spelled specifiers) body inside typed.NoItem h.1.2 tt), k)

  defined_meets : (vs : List Variable) (fs : List typed.Function) (n : ℕ) → EachFunction fs → EachSite (function_sites vs (slice_get fs n))
  defined_meets vs [] n h = tt
  defined_meets vs (typed.Defined specifiers name name_at params first body body_at at ∷ fs) zero h = (tt, h.0.1 vs)
  defined_meets vs (f ∷ fs) (suc n) h = defined_meets vs fs n h.1

  module _ (program : typed.Program) (functions : EachFunction program.functions) where
    external_meets : (x : External ℕ) (a : Around) → EachSite (external_sites program (typed_external x a))
    external_meets (Restriction pragma) a = (tt, tt)
    external_meets (Declaring d) a = declaration_meets program.variables (typed_declaration d a)
    external_meets (Function specifiers name name_at params body body_at at) a = defined_meets program.variables program.functions (length a.defined) functions

    externals_meet : (items : Row (External ℕ)) (a : Around) (rest : List typed.External) → EachSite (externals_sites program rest) → EachSite (externals_sites program (typed_row after_external and_external items a rest))
    externals_meet Nothing a rest k = k
    externals_meet (Then front last) a rest k =
        let made = typed_external last (after_row after_external front a) in
        externals_meet front a (made ∷ rest) (both (external_sites program made) (externals_sites program rest) (external_meets last (after_row after_external front a)) k)

  pub unit_functions : (outline : Outline) (items : Row (External ℕ)) (at : ℕ) → EachOf (HoldsExternal P Q) items → EachFunction (typed_unit outline (Whole items at)).functions
  unit_functions outline items at h = functions_meet items (started outline) [] h tt

  pub unit_sites : (outline : Outline) (items : Row (External ℕ)) (at : ℕ) → EachOf (HoldsExternal P Q) items → EachSite (sites_of (typed_unit outline (Whole items at)))
  unit_sites outline items at h = externals_meet (typed_unit outline (Whole items at)) (unit_functions outline items at h) items (started outline) [] tt
