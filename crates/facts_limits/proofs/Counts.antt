-- The restrictions among the sites of a unit are as many as were counted in it.
use Rattle.std.proofs.Common.{◌≡◌, ℕ, ◌+◌, ◌-◌, ◌≤◌, List, [], ◌∷◌, ◌++◌, append-nil, append_assoc, length, Option, Some, None, refl, sym, ap, ◌∙◌, arith}
use Rattle.std.specs.Prelude.{slice_get}
use Rattle.facts_definitions.specs.FlowFacts.{and_one, gathered, numbered_restriction, restriction_at}
use Rattle.facts_definitions.specs.PragmaTexts.{restriction}
use Rattle.facts_definitions.specs.Sites.{count_exprs, declaration_sites, elements_of, externals_sites, filling_sites, function_sites, initial_sites, items_sites, loop_site, object_sites, objects_sites, sites_of, start_sites, statement_sites}
use Rattle.facts_definitions.specs.declared.facts.Restriction.{Restriction as Fact}
use Rattle.facts_definitions.specs.declared.site.Site.{Site}
use Rattle.facts_definitions.specs.declared.site.Site.TheVariants as sites
use Rattle.c_tree.specs.Tree.{Row, Nothing, Then, ForStart, NoStart, StartValue, StartDeclaration, Objects, Prototype, Statement, Block, Empty, Evaluate, Marker, If, IfElse, While, Do, For, Switch, Break, Continue, Return, Items, NoItem, AndDeclaration, AndStatement, AndRestriction, AndLabel, External, Restriction, Declaring, Function}
use Rattle.c_tree.specs.declared.pragma.Pragma.{Pragma}
use Rattle.types_tree.specs.Tree as typed
use Rattle.types_tree.specs.Tree.{function_name}
use Rattle.types_tree.specs.declared.variable.Variable.{Variable}
use Rattle.types_value.specs.declared.kind.Kind.{Kind}
use Rattle.types_rules.specs.Limits.{tally_externals, tally_items, tally_start, tally_statement}
use Rattle.types_rules.specs.Scope.{Around, Outline, entered, started, with_loop}
use Rattle.types_rules.specs.Sights.{after_external, external_nodes, externals_nodes}
use Rattle.types_rules.specs.Specifiers.{kind_spelled}
use Rattle.types_rules.specs.StatementRules.{after, after_items, within_for}
use Rattle.types_rules.specs.Typing.{and_external, typed_declaration, typed_items, typed_label, typed_row, typed_start, typed_statement}
use Rattle.types_seen.specs.Fronts.{Definition, begun_by, behind, external_by, function_by, functions_of}
use Rattle.types_seen.proofs.Fronts.{functions_then}
use Rattle.types_seen.proofs.Known.{named}
use Rattle.types_seen.proofs.Lists.{slice_get-behind}
use Rattle.types_seen.proofs.Rules.{NoFault, faultless_first}
use Rattle.std.proofs.lemmas.List.{length-map}

abbrev one_at : Site → ℕ
one_at (sites.Restriction pragma) = 1
one_at _ = 0

-- how many restrictions stand among sites
abbrev pub restrictions_in : List Site → ℕ
restrictions_in [] = 0
restrictions_in (site ∷ rest) = one_at site + restrictions_in rest

in_both : (xs ys : List Site) → restrictions_in (xs ++ ys) ≡ restrictions_in xs + restrictions_in ys
in_both [] ys = omega arith
in_both (x ∷ xs) ys = let more = in_both xs ys in omega (arith, more)

module _ (names : List (List ℕ)) where
  one_more : (o : Option Fact) (rest : List Fact) (n : ℕ) → length rest ≤ n → length (and_one o rest) ≤ 1 + n
  one_more None rest n h = omega (arith, h)
  one_more (Some fact) rest n h = omega (arith, h)

  none_more : (rest : List Fact) (n : ℕ) → length rest ≤ n → length (and_one None rest) ≤ 0 + n
  none_more rest n h = omega (arith, h)

  -- each of which gives one at most
  pub gathered_few : (ss : List Site) → length (gathered (restriction_at names) ss) ≤ restrictions_in ss
  gathered_few [] = omega arith
  gathered_few (sites.Restriction pragma ∷ rest) = one_more (numbered_restriction names pragma.at (restriction pragma.text)) (gathered (restriction_at names) rest) (restrictions_in rest) (gathered_few rest)
  gathered_few (sites.Bounded number pragma ∷ rest) = none_more (gathered (restriction_at names) rest) (restrictions_in rest) (gathered_few rest)
  gathered_few (sites.Unbounded number at ∷ rest) = none_more (gathered (restriction_at names) rest) (restrictions_in rest) (gathered_few rest)
  gathered_few (sites.Filling number count ∷ rest) = none_more (gathered (restriction_at names) rest) (restrictions_in rest) (gathered_few rest)
  gathered_few (sites.Marker pragma ∷ rest) = none_more (gathered (restriction_at names) rest) (restrictions_in rest) (gathered_few rest)
  gathered_few (sites.Function name ∷ rest) = none_more (gathered (restriction_at names) rest) (restrictions_in rest) (gathered_few rest)

module _ (vs : List Variable) where
  -- declarations have none
  none_filled : (left : ℕ) (number : Option ℕ) → restrictions_in (filling_sites left number) ≡ 0
  none_filled left None = refl
  none_filled left (Some number) = refl

  none_given : (elements : ℕ) (initial : typed.Initial) → restrictions_in (initial_sites elements initial) ≡ 0
  none_given elements typed.Absent = refl
  none_given elements (typed.Value value) = refl
  none_given elements (typed.Listed values comma filling) = none_filled (elements - count_exprs values) filling

  none_in_objects : (objects : List typed.Object) → restrictions_in (objects_sites vs objects) ≡ 0
  none_in_objects [] = refl
  none_in_objects (typed.Declared object shape initial at ∷ rest) =
      let both = in_both (object_sites vs (typed.Declared object shape initial at)) (objects_sites vs rest) in
      let one = none_given (elements_of (slice_get vs object)) initial in
      let others = none_in_objects rest in
      omega (arith, both, one, others)

  none_declared : (d : typed.Declaration) → restrictions_in (declaration_sites vs d) ≡ 0
  none_declared (typed.Objects specifiers objects at) = none_in_objects objects
  none_declared (typed.Prototype specifiers name params at) = refl

  start_counted : (start : ForStart ℕ) (a : Around) → restrictions_in (start_sites vs (typed_start start a)) ≡ (tally_start start).restrictions
  start_counted NoStart a = refl
  start_counted (StartValue value) a = refl
  start_counted (StartDeclaration (Objects specifiers objects at)) a = none_declared (typed_declaration (Objects specifiers objects at) a)
  start_counted (StartDeclaration (Prototype specifiers name params at)) a = none_declared (typed_declaration (Prototype specifiers name params at) a)

  no_loop : (number : ℕ) (bound : Option Pragma) (at : ℕ) → one_at (loop_site number bound at) ≡ 0
  no_loop number None at = refl
  no_loop number (Some pragma) at = refl

  mutual
    statement_counted : (result : Kind) (s : Statement ℕ) (a : Around) → restrictions_in (statement_sites vs (typed_statement result s a)) ≡ (tally_statement s).restrictions
    statement_counted result (Block items at) a = let h = items_counted result items (entered a) typed.NoItem in omega (arith, h)
    statement_counted result (Empty at) a = refl
    statement_counted result (Evaluate value at) a = refl
    statement_counted result (Marker pragma) a = refl
    statement_counted result (If test first at) a = statement_counted result first a
    statement_counted result (IfElse test first second at) a =
        let both = in_both (statement_sites vs (typed_statement result first a)) (statement_sites vs (typed_statement result second (after first a))) in
        let one = statement_counted result first a in
        let other = statement_counted result second (after first a) in
        omega (arith, both, one, other)
    statement_counted result (While bound test body at) a =
        let loop = no_loop (a.loops + 1) bound at in
        let h = statement_counted result body (with_loop a) in
        omega (arith, loop, h)
    statement_counted result (Do bound body test at) a =
        let loop = no_loop (a.loops + 1) bound at in
        let h = statement_counted result body (with_loop a) in
        omega (arith, loop, h)
    statement_counted result (For bound start test step body at) a =
        let begun = with_loop (entered a) in
        let within = within_for start a in
        let loop = no_loop (a.loops + 1) bound at in
        let both = in_both (start_sites vs (typed_start start begun)) (statement_sites vs (typed_statement result body within)) in
        let head = start_counted start begun in
        let h = statement_counted result body within in
        omega (arith, loop, both, head, h)
    statement_counted result (Switch test items at) a = let h = items_counted result items (entered a) typed.NoItem in omega (arith, h)
    statement_counted result (Break at) a = refl
    statement_counted result (Continue at) a = refl
    statement_counted result (Return value at) a = refl

    -- items before others
    items_counted : (result : Kind) (items : Items ℕ) (a : Around) (rest : typed.Items) → restrictions_in (items_sites vs (typed_items result items a rest)) ≡ (tally_items items).restrictions + restrictions_in (items_sites vs rest)
    items_counted result NoItem a rest = omega arith
    items_counted result (AndDeclaration front (Objects specifiers objects at)) a rest =
        let made = typed_declaration (Objects specifiers objects at) (after_items front a) in
        let h = items_counted result front a (typed.WithDeclaration made rest) in
        let both = in_both (declaration_sites vs made) (items_sites vs rest) in
        let none = none_declared made in
        omega (arith, h, both, none)
    items_counted result (AndDeclaration front (Prototype specifiers name params at)) a rest =
        let made = typed_declaration (Prototype specifiers name params at) (after_items front a) in
        let h = items_counted result front a (typed.WithDeclaration made rest) in
        let both = in_both (declaration_sites vs made) (items_sites vs rest) in
        let none = none_declared made in
        omega (arith, h, both, none)
    items_counted result (AndStatement front s) a rest =
        let made = typed_statement result s (after_items front a) in
        let h = items_counted result front a (typed.WithStatement made rest) in
        let both = in_both (statement_sites vs made) (items_sites vs rest) in
        let one = statement_counted result s (after_items front a) in
        omega (arith, h, both, one)
    items_counted result (AndRestriction front pragma) a rest = let h = items_counted result front a (typed.WithRestriction pragma rest) in omega (arith, h)
    items_counted result (AndLabel front label) a rest = items_counted result front a (typed.WithLabel (typed_label label (after_items front a)) rest)

-- a unit at which no rule fails: the function that is defined next has the number of those before it
module _ (program : typed.Program) (outline : Outline) where
  next_defined : (front : Row (External ℕ)) (f : typed.Function) (rest : List typed.Function) → NoFault (externals_nodes front (started outline)) → program.functions ≡ functions_of front (started outline) ++ f ∷ rest → slice_get program.functions (length (behind outline front).defined) ≡ Some f
  next_defined front f rest h is =
      let before = functions_of front (started outline) in
      let n = named outline front h in
      let count : length (behind outline front).defined ≡ length before + 0 =
      ap length (n.defined ∙ sym n.names) ∙ length-map before function_name ∙ sym (plus_none (length before)) in
      ap (λ fs. slice_get fs (length (behind outline front).defined)) is
      ∙ ap (λ k. slice_get (before ++ f ∷ rest) k) count
      ∙ slice_get-behind before (f ∷ rest) 0
    where
      plus_none : (n : ℕ) → n + 0 ≡ n
      plus_none n = omega arith

  -- parts before others
  externals_counted : (items : Row (External ℕ)) (rest : List typed.External) (functions : List typed.Function) → NoFault (externals_nodes items (started outline)) → program.functions ≡ functions_of items (started outline) ++ functions →
      restrictions_in (externals_sites program (typed_row after_external and_external items (started outline) rest)) ≡ (tally_externals items).restrictions + restrictions_in (externals_sites program rest)
  externals_counted Nothing rest functions h is = omega arith
  externals_counted (Then front (Restriction pragma)) rest functions h is =
      let passes = faultless_first (externals_nodes front (started outline)) (external_nodes (Restriction pragma) (behind outline front)) h in
      let more = externals_counted front (typed.Restriction pragma ∷ rest) functions passes is in
      omega (arith, more)
  externals_counted (Then front (Declaring (Objects specifiers objects at))) rest functions h is =
      let d = Objects specifiers objects at in
      let now = behind outline front in
      let made = typed_declaration d now in
      let passes = faultless_first (externals_nodes front (started outline)) (external_nodes (Declaring d) now) h in
      let more = externals_counted front (typed.Declaring made ∷ rest) functions passes is in
      let both = in_both (declaration_sites program.variables made) (externals_sites program rest) in
      let none = none_declared program.variables made in
      omega (arith, more, both, none)
  externals_counted (Then front (Declaring (Prototype specifiers name params at))) rest functions h is =
      let d = Prototype specifiers name params at in
      let now = behind outline front in
      let made = typed_declaration d now in
      let passes = faultless_first (externals_nodes front (started outline)) (external_nodes (Declaring d) now) h in
      let more = externals_counted front (typed.Declaring made ∷ rest) functions passes is in
      let both = in_both (declaration_sites program.variables made) (externals_sites program rest) in
      let none = none_declared program.variables made in
      omega (arith, more, both, none)
  externals_counted (Then front (Function specifiers name name_at params body body_at at)) rest functions h is =
      let d : Definition = record { specifiers = specifiers; name = name; name_at = name_at; params = params; body = body; body_at = body_at; at = at } in
      let now = behind outline front in
      let before = functions_of front (started outline) in
      let number = length now.defined in
      let f = function_by d now in
      let passes = faultless_first (externals_nodes front (started outline)) (external_nodes (external_by d) now) h in
      let listed : program.functions ≡ before ++ f ∷ functions =
      is ∙ ap (λ fs. fs ++ functions) (functions_then front (external_by d) (started outline)) ∙ append_assoc before (f ∷ []) functions in
      let found = next_defined front f functions passes listed in
      let more = externals_counted front (typed.Defining number ∷ rest) (f ∷ functions) passes listed in
      let both = in_both (function_sites program.variables (slice_get program.functions number)) (externals_sites program rest) in
      let own : restrictions_in (function_sites program.variables (slice_get program.functions number)) ≡ restrictions_in (function_sites program.variables (Some f)) = ap (λ o. restrictions_in (function_sites program.variables o)) found in
      let inside = items_counted program.variables (kind_spelled specifiers) body (begun_by d now) typed.NoItem in
      omega (arith, more, both, own, inside)

  pub unit_counted : (items : Row (External ℕ)) → NoFault (externals_nodes items (started outline)) → program.items ≡ typed_row after_external and_external items (started outline) [] → program.functions ≡ functions_of items (started outline) → restrictions_in (sites_of program) ≡ (tally_externals items).restrictions
  unit_counted items h items_are functions_are =
      let all = externals_counted items [] [] h (functions_are ∙ sym (append-nil (functions_of items (started outline)))) in
      let same = ap (λ xs. restrictions_in (externals_sites program xs)) items_are in
      omega (arith, all, same)
