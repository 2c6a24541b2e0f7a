-- The functions of a typed unit: their sizes, their numbers, and what their facts count.
use Rattle.std.proofs.Common.{◌≡◌, ℕ, ◌+◌, ◌*◌, ◌≤◌, Bool, true, false, List, [], ◌∷◌, ◌++◌, length, Some, None, refl, sym, ap, ◌∙◌, subst, arith, length-append}
use Rattle.std.specs.Prelude.{◌==◌, ◌&&◌, ◌||◌, if◌then◌else◌, nat_lt, slice_get}
use Rattle.std.proofs.lemmas.Bool.{or_parts}
use Rattle.c_tree.specs.Size.{size_external, size_row}
use Rattle.c_tree.specs.Tree.{Row, Nothing, Then, Object, Declared, Absent, Value, Listed, Param, Parameter, Declaration, Objects, Prototype, Items, External, Restriction, Declaring, Function}
use Rattle.c_tree.specs.declared.expression.Specifier.{Specifier}
use Rattle.facts_definitions.specs.FlowFacts.{Known, bounds_at_site, first_fault as first_site_fault, marker_at}
use Rattle.facts_definitions.specs.Sites.{declaration_sites, externals_sites, function_sites, items_sites}
use Rattle.facts_definitions.specs.declared.facts.Derived.{Derived}
use Rattle.facts_definitions.specs.declared.site.Site.TheVariants as sites
use Rattle.types_tree.specs.Tree as typed
use Rattle.types_rules.specs.DeclarationRules.{Base, after_declaration, after_list, after_object, after_param, after_params, base_of, elements, extent_of, has_brackets, is_no_list, redeclares, redefines, routine, with_filling, within_function}
use Rattle.types_rules.specs.ExpressionRules.{when}
use Rattle.types_rules.specs.Scope.{Around, after_row, has_scope, is_among, with_definition, with_number, with_object, with_routine, without_innermost}
use Rattle.types_rules.specs.Sights.{Node, SeenFunction, after_external, body_around, external_nodes, externals_nodes, first_fault, items_nodes, params_nodes}
use Rattle.types_rules.specs.Specifiers.{are_wrong, kind_spelled}
use Rattle.types_rules.specs.StatementRules.{in_function}
use Rattle.types_rules.specs.Types.{count}
use Rattle.types_rules.specs.Typing.{and_external, typed_declaration, typed_function, typed_items, typed_params, typed_row}
use Rattle.types_rules.specs.declared.fault.Rule.TheVariants as rules
use Rattle.plan_forms.specs.Numbers.{FunctionsNumbered, ItemsNumbered, declaration_loops, functions_loops, items_loops}
use Rattle.plan_forms.specs.ProgramCosts.{FunctionsSingle, functions_nodes}
use Rattle.plan_formed.specs.Placed.{items_markers}
use Rattle.plan_formed.specs.Units.{FunctionsPlaced, FunctionsShallow}
use Rattle.plan_formed.proofs.SourceExpressions.{none}
use Rattle.plan_formed.proofs.Faults.{behind_passes, front_passes, no_second, rest_of, rule_of, when_none}
use Rattle.plan_formed.proofs.SourceSites.{behind_passes as behind_sites, bounds, declaration_bounds, declaration_markers, front_passes as front_sites, given-append, items_bounds, items_named, markers, rest_passes}
use Rattle.plan_formed.proofs.Standing.{Moves, before_step, behind_is, declaration_moves, items_move, items_numbered, items_placed, objects_move, out_of, stays}
use Rattle.plan_formed.proofs.SourceStatements.{block_part, typed_params_nodes}

-- sizes
pub functions_single : (items : Row (External ℕ)) (a : Around) (rest : List typed.Function) → FunctionsSingle rest → FunctionsSingle (typed_row after_external typed_function items a rest)
functions_single Nothing a rest h = h
functions_single (Then front (Restriction pragma)) a rest h = functions_single front a rest h
functions_single (Then front (Declaring declaration)) a rest h = functions_single front a rest h
functions_single (Then front (Function specifiers name name_at params body body_at at)) a rest h =
    let b = after_row after_external front a in
    functions_single front a (typed_function (Function specifiers name name_at params body body_at at) b rest) ((block_part (kind_spelled specifiers) body (body_around specifiers name params b)).single, h)

pub functions_shallow : (items : Row (External ℕ)) (a : Around) (rest : List typed.Function) (depth : ℕ) → (size_row size_external items).depth ≤ depth + 2 → FunctionsShallow (4 * depth) rest → FunctionsShallow (4 * depth) (typed_row after_external typed_function items a rest)
functions_shallow Nothing a rest depth le h = h
functions_shallow (Then front (Restriction pragma)) a rest depth le h = functions_shallow front a rest depth (omega (arith, le)) h
functions_shallow (Then front (Declaring declaration)) a rest depth le h = functions_shallow front a rest depth (omega (arith, le)) h
functions_shallow (Then front (Function specifiers name name_at params body body_at at)) a rest depth le h =
    let b = after_row after_external front a in
    functions_shallow front a (typed_function (Function specifiers name name_at params body body_at at) b rest) depth (omega (arith, le)) (omega (arith, le, (block_part (kind_spelled specifiers) body (body_around specifiers name params b)).levels_are), h)

pub functions_few : (items : Row (External ℕ)) (a : Around) (rest : List typed.Function) → functions_nodes (typed_row after_external typed_function items a rest) ≤ (size_row size_external items).nodes + functions_nodes rest
functions_few Nothing a rest = omega arith
functions_few (Then front (Restriction pragma)) a rest = omega (arith, functions_few front a rest)
functions_few (Then front (Declaring declaration)) a rest = omega (arith, functions_few front a rest)
functions_few (Then front (Function specifiers name name_at params body body_at at)) a rest =
    let b = after_row after_external front a in
    omega (arith, functions_few front a (typed_function (Function specifiers name name_at params body body_at at) b rest), (block_part (kind_spelled specifiers) body (body_around specifiers name params b)).nodes_are, typed_params_nodes params (within_function specifiers name params b))

-- what stands within a function
param_stays : (param : Param ℕ) (a : Around) → Moves a (after_param param a) 0 0 0 0
param_stays (Parameter specifiers None shape at) a = stays a
param_stays (Parameter specifiers (Some name) shape at) a = record { loops_are = refl; markers_are = refl; outer_is = refl; defined_are = refl }

params_stay : (params : Row (Param ℕ)) (a : Around) → Moves a (after_params params a) 0 0 0 0
params_stay Nothing a = stays a
params_stay (Then front last) a =
    let f = params_stay front a in
    let g = param_stays last (after_params front a) in
    record { loops_are = g.loops_are ∙ f.loops_are; markers_are = g.markers_are ∙ f.markers_are; outer_is = g.outer_is ∙ f.outer_is; defined_are = g.defined_are ∙ f.defined_are }

list_stays : (params : Row (Param ℕ)) (a : Around) → Moves a (after_list params a) 0 0 0 0
list_stays params a = of (is_no_list params)
  where
    of : (b : Bool) → Moves a (if b then a else after_params params a) 0 0 0 0
    of true = stays a
    of false = params_stay params a

-- from before a part of file level to behind it
pub record Passes (a b : Around) (loops markers : ℕ) (defined : List ℕ) : Type 0 where
  pub loops_are : b.loops ≡ a.loops + loops
  pub markers_are : b.markers ≡ a.markers + markers
  pub outer_is : b.outer ≡ a.outer
  pub defined_are : b.defined ≡ defined

function_passes : (specifiers : List Specifier) (name name_at : ℕ) (params : Row (Param ℕ)) (body : Items ℕ) (body_at at : ℕ) (a : Around) →
    Passes a (after_external (Function specifiers name name_at params body body_at at) a) (items_loops (typed_items (kind_spelled specifiers) body (body_around specifiers name params a) typed.NoItem)) (items_markers (typed_items (kind_spelled specifiers) body (body_around specifiers name params a) typed.NoItem)) (with_number a.defined name)
function_passes specifiers name name_at params body body_at at a =
    let within = within_function specifiers name params a in
    let f = list_stays params within in
    let g = items_move (kind_spelled specifiers) body (body_around specifiers name params a) typed.NoItem in
    record {
      loops_are = omega (arith, f.loops_are, g.loops_are);
      markers_are = omega (arith, f.markers_are, g.markers_are);
      outer_is = ap without_innermost (g.outer_is ∙ f.outer_is) ∙ out_of a.outer (with_definition name (with_routine name (routine specifiers params) a)).scope;
      defined_are = g.defined_are ∙ f.defined_are;
    }

-- at file level nothing is filled
not_filled : (base : Base) (object : Object ℕ) (a : Around) → a.outer ≡ [] → (after_object base object a).loops ≡ a.loops
not_filled base (Declared name shape Absent at) a e = refl
not_filled base (Declared name shape (Value value) at) a e = refl
not_filled base (Declared name shape (Listed values comma) at) a e =
    ap (λ b. (with_filling ((b && has_brackets shape) && nat_lt (count values) (elements (extent_of shape (Listed values comma)))) (with_object name base.kind base.const (extent_of shape (Listed values comma)) a)).loops) (ap has_scope e)

objects_of_file : (base : Base) (objects : Row (Object ℕ)) (a : Around) → a.outer ≡ [] → (after_row (after_object base) objects a).loops ≡ a.loops
objects_of_file base Nothing a e = refl
objects_of_file base (Then front last) a e = not_filled base last (after_row (after_object base) front a) ((objects_move base front a []).outer_is ∙ e) ∙ objects_of_file base front a e

declaration_of_file : (declaration : Declaration ℕ) (a : Around) → a.outer ≡ [] → declaration_loops (typed_declaration declaration a) ≡ 0
declaration_of_file (Objects specifiers objects at) a e = none_more (after_row (after_object (base_of specifiers)) objects a).loops a.loops (declaration_loops (typed_declaration (Objects specifiers objects at) a)) (declaration_moves (Objects specifiers objects at) a).loops_are (objects_of_file (base_of specifiers) objects a e)
  where
    none_more : (x y l : ℕ) → x + 0 ≡ y + l → x ≡ y → l ≡ 0
    none_more x y l e f = omega (arith, e, f)
declaration_of_file (Prototype specifiers name params at) a e = refl

-- file level is no block, however much stands there
pub stays_outer : (items : Row (External ℕ)) (a : Around) → (after_row after_external items a).outer ≡ a.outer
stays_outer Nothing a = refl
stays_outer (Then front (Restriction pragma)) a = stays_outer front a
stays_outer (Then front (Declaring declaration)) a = (declaration_moves declaration (after_row after_external front a)).outer_is ∙ stays_outer front a
stays_outer (Then front (Function specifiers name name_at params body body_at at)) a = (function_passes specifiers name name_at params body body_at at (after_row after_external front a)).outer_is ∙ stays_outer front a

-- numbers
pub functions_numbered : (items : Row (External ℕ)) (a : Around) (rest : List typed.Function) → a.outer ≡ [] → FunctionsNumbered (after_row after_external items a).loops rest → FunctionsNumbered a.loops (typed_row after_external typed_function items a rest)
functions_numbered Nothing a rest e h = h
functions_numbered (Then front (Restriction pragma)) a rest e h = functions_numbered front a rest e h
functions_numbered (Then front (Declaring declaration)) a rest e h =
    let b = after_row after_external front a in
    functions_numbered front a rest e
    (subst (λ n. FunctionsNumbered n rest) (same (after_declaration declaration b).loops b.loops (declaration_loops (typed_declaration declaration b)) (declaration_moves declaration b).loops_are (declaration_of_file declaration b (stays_outer front a ∙ e))) h)
  where
    same : (x y l : ℕ) → x + 0 ≡ y + l → l ≡ 0 → x ≡ y
    same x y l e f = omega (arith, e, f)
functions_numbered (Then front (Function specifiers name name_at params body body_at at)) a rest e h =
    let b = after_row after_external front a in
    let inside = body_around specifiers name params b in
    let body_is = typed_items (kind_spelled specifiers) body inside typed.NoItem in
    functions_numbered front a (typed_function (Function specifiers name name_at params body body_at at) b rest) e (
      subst (λ n. ItemsNumbered n body_is) (behind_is inside.loops b.loops 0 (list_stays params (within_function specifiers name params b)).loops_are ∙ none_more b.loops) (items_numbered (kind_spelled specifiers) body inside typed.NoItem tt),
      subst (λ n. FunctionsNumbered n rest) (function_passes specifiers name name_at params body body_at at b).loops_are h,
    )
  where
    none_more : (n : ℕ) → n + 0 ≡ n
    none_more n = omega arith

-- places: where no rule fails, and so many markers stand in all
pub functions_placed : (items : Row (External ℕ)) (a : Around) (rest : List typed.Function) (total : ℕ) → first_fault (externals_nodes items a) ≡ None → (after_row after_external items a).markers ≤ total → FunctionsPlaced total rest → FunctionsPlaced total (typed_row after_external typed_function items a rest)
functions_placed Nothing a rest total h le p = p
functions_placed (Then front (Restriction pragma)) a rest total h le p =
    let b = after_row after_external front a in
    functions_placed front a rest total (front_passes (externals_nodes front a) (external_nodes (Restriction pragma) b) h) le p
functions_placed (Then front (Declaring declaration)) a rest total h le p =
    let b = after_row after_external front a in
    functions_placed front a rest total (front_passes (externals_nodes front a) (external_nodes (Declaring declaration) b) h) (before_step (after_declaration declaration b).markers b.markers 0 total (declaration_moves declaration b).markers_are le) p
functions_placed (Then front (Function specifiers name name_at params body body_at at)) a rest total h le p =
    let b = after_row after_external front a in
    let f = Function specifiers name name_at params body body_at at in
    let inside = body_around specifiers name params b in
    let kind = kind_spelled specifiers in
    let own = if is_no_list params then [] else params_nodes params (within_function specifiers name params b) in
    let nodes = items_nodes body inside (in_function kind) in
    let here = behind_passes (externals_nodes front a) (external_nodes f b) h in
    let step = function_passes specifiers name name_at params body body_at at b in
    functions_placed front a (typed_function f b rest) total (front_passes (externals_nodes front a) (external_nodes f b) h) (before (after_external f b).markers b.markers (items_markers (typed_items kind body inside typed.NoItem)) total step.markers_are le)
    (items_placed kind body inside (in_function kind) total typed.NoItem (behind_passes own nodes (rest_of (SeenFunction specifiers name params at b) (own ++ nodes) here)) le tt, p)
  where
    before : (x y z n : ℕ) → x ≡ y + z → x ≤ n → y ≤ n
    before x y z n e le = omega (arith, e, le)

-- the function that is defined next has the number of those defined before it
functions-append : (items : Row (External ℕ)) (a : Around) (rest : List typed.Function) → typed_row after_external typed_function items a rest ≡ typed_row after_external typed_function items a [] ++ rest
functions-append Nothing a rest = refl
functions-append (Then front (Restriction pragma)) a rest = functions-append front a rest
functions-append (Then front (Declaring declaration)) a rest = functions-append front a rest
functions-append (Then front (Function specifiers name name_at params body body_at at)) a rest =
    let b = after_row after_external front a in
    let f = Function specifiers name name_at params body body_at at in
    functions-append front a (typed_function f b rest)
    ∙ (sym (assoc (typed_row after_external typed_function front a []) (typed_function f b []) rest)
    ∙ ap (λ l. l ++ rest) (sym (functions-append front a (typed_function f b []))))
  where
    assoc : (xs ys zs : List typed.Function) → (xs ++ ys) ++ zs ≡ xs ++ (ys ++ zs)
    assoc [] ys zs = refl
    assoc (x ∷ xs) ys zs = ap (λ l. x ∷ l) (assoc xs ys zs)

new_number : (ns : List ℕ) (n : ℕ) → is_among n ns ≡ false → length (with_number ns n) ≡ length ns + 1
new_number ns n e = ap (λ b. length (if b then ns else ns ++ n ∷ [])) e ∙ length-append ns (n ∷ [])

-- a function at which no rule fails was not defined before
not_defined : (specifiers : List Specifier) (name : ℕ) (params : Row (Param ℕ)) (at : ℕ) (a : Around) (rest : List Node) → first_fault (SeenFunction specifiers name params at a ∷ rest) ≡ None → is_among name a.defined ≡ false
not_defined specifiers name params at a rest h =
    let rule = no_second (when (are_wrong true false specifiers) rules.Specifiers) (when (redeclares name (routine specifiers params) a || redefines name a) rules.Redeclared) (rule_of (SeenFunction specifiers name params at a) rest h) in
    let both = or_parts (redeclares name (routine specifiers params) a) (redefines name a) (when_none (redeclares name (routine specifiers params) a || redefines name a) rules.Redeclared rule) in
    first_false (is_among name a.defined) (name == a.outline.getchar) (name == a.outline.putchar) both.1
  where
    first_false : (x y z : Bool) → (x || y || z) ≡ false → x ≡ false
    first_false true y z h = h
    first_false false y z h = refl

pub defined_count : (items : Row (External ℕ)) (a : Around) → first_fault (externals_nodes items a) ≡ None → length (typed_row after_external typed_function items a []) + length a.defined ≡ length (after_row after_external items a).defined
defined_count Nothing a h = zero_plus (length a.defined)
  where
    zero_plus : (n : ℕ) → 0 + n ≡ n
    zero_plus n = omega arith
defined_count (Then front (Restriction pragma)) a h =
    defined_count front a (front_passes (externals_nodes front a) (external_nodes (Restriction pragma) (after_row after_external front a)) h)
defined_count (Then front (Declaring declaration)) a h =
    let b = after_row after_external front a in
    defined_count front a (front_passes (externals_nodes front a) (external_nodes (Declaring declaration) b) h) ∙ sym (ap length (declaration_moves declaration b).defined_are)
defined_count (Then front (Function specifiers name name_at params body body_at at)) a h =
    let b = after_row after_external front a in
    let f = Function specifiers name name_at params body body_at at in
    let own = if is_no_list params then [] else params_nodes params (within_function specifiers name params b) in
    let nodes = items_nodes body (body_around specifiers name params b) (in_function (kind_spelled specifiers)) in
    let new = not_defined specifiers name params at b (own ++ nodes) (behind_passes (externals_nodes front a) (external_nodes f b) h) in
    one (length (typed_row after_external typed_function front a (typed_function f b []))) (length (typed_row after_external typed_function front a [])) (length a.defined) (length b.defined) (length (after_external f b).defined)
    (ap length (functions-append front a (typed_function f b [])) ∙ length-append (typed_row after_external typed_function front a []) (typed_function f b []))
    (defined_count front a (front_passes (externals_nodes front a) (external_nodes f b) h))
    (ap length (function_passes specifiers name name_at params body body_at at b).defined_are ∙ new_number b.defined name new)
  where
    one : (all front d b e : ℕ) → all ≡ front + 1 → front + d ≡ b → e ≡ b + 1 → all + d ≡ e
    one all front d b e x y z = omega (arith, x, y, z)

there_is : (xs : List typed.Function) (y : typed.Function) (ys : List typed.Function) → slice_get (xs ++ y ∷ ys) (length xs) ≡ Some y
there_is [] y ys = refl
there_is (x ∷ xs) y ys = there_is xs y ys

-- a function of a unit, by the number that its external has
function_at : (front : Row (External ℕ)) (a : Around) (f : typed.Function) (rest functions : List typed.Function) → length a.defined ≡ 0 → first_fault (externals_nodes front a) ≡ None → functions ≡ typed_row after_external typed_function front a (f ∷ rest) →
    slice_get functions (length (after_row after_external front a).defined) ≡ Some f
function_at front a f rest functions none h e =
    let before = typed_row after_external typed_function front a [] in
    ap (λ fs. slice_get fs (length (after_row after_external front a).defined)) (e ∙ functions-append front a (f ∷ rest))
    ∙ (ap (λ n. slice_get (before ++ f ∷ rest) n) (sym (count_is (length before) (length a.defined) (length (after_row after_external front a).defined) (defined_count front a h) none))
    ∙ there_is before f rest)
  where
    count_is : (x y z : ℕ) → x + y ≡ z → y ≡ 0 → x ≡ z
    count_is x y z e f = omega (arith, e, f)

-- the bounds of a unit's sites are as many as the loops of its functions
module _ (program : typed.Program) (derived : List Derived) where
  abbrev bounds_of_externals : List typed.External → ℕ
  bounds_of_externals items = bounds derived program.variables (externals_sites program items)

  pub externals_bounds : (items : Row (External ℕ)) (a : Around) (rest : List typed.External) (behind : List typed.Function) → a.outer ≡ [] → length a.defined ≡ 0 → first_fault (externals_nodes items a) ≡ None → program.functions ≡ typed_row after_external typed_function items a behind →
      bounds_of_externals (typed_row after_external and_external items a rest) + functions_loops behind ≡ functions_loops (typed_row after_external typed_function items a behind) + bounds_of_externals rest
  externals_bounds Nothing a rest behind e n h is = swap (bounds_of_externals rest) (functions_loops behind)
    where
      swap : (x y : ℕ) → x + y ≡ y + x
      swap x y = omega arith
  externals_bounds (Then front (Restriction pragma)) a rest behind e n h is =
      externals_bounds front a (typed.Restriction pragma ∷ rest) behind e n (front_passes (externals_nodes front a) (external_nodes (Restriction pragma) (after_row after_external front a)) h) is
  externals_bounds (Then front (Declaring declaration)) a rest behind e n h is =
      let b = after_row after_external front a in
      let t = typed_declaration declaration b in
      let here = externals_bounds front a (typed.Declaring t ∷ rest) behind e n (front_passes (externals_nodes front a) (external_nodes (Declaring declaration) b) h) is in
      one (bounds_of_externals (typed_row after_external and_external front a (typed.Declaring t ∷ rest))) (functions_loops behind) (functions_loops (typed_row after_external typed_function front a behind)) (bounds_of_externals (typed.Declaring t ∷ rest)) (bounds derived program.variables (declaration_sites program.variables t)) (bounds_of_externals rest) (declaration_loops t)
      here (given-append (bounds_at_site derived) (declaration_sites program.variables t) (externals_sites program rest)) (declaration_bounds derived program.variables t) (declaration_of_file declaration b (stays_outer front a ∙ e))
    where
      one : (x l m y d r n : ℕ) → x + l ≡ m + y → y ≡ d + r → d ≡ n → n ≡ 0 → x + l ≡ m + r
      one x l m y d r n a b c e = omega (arith, a, b, c, e)
  externals_bounds (Then front (Function specifiers name name_at params body body_at at)) a rest behind e n h is =
      let b = after_row after_external front a in
      let source = Function specifiers name name_at params body body_at at in
      let number = length b.defined in
      let body_is = typed_items (kind_spelled specifiers) body (body_around specifiers name params b) typed.NoItem in
      let f = typed.Defined specifiers name name_at (typed_params params (within_function specifiers name params b)) (length b.variables) body_is body_at at in
      let passes = front_passes (externals_nodes front a) (external_nodes source b) h in
      let here = externals_bounds front a (typed.Defining number ∷ rest) (f ∷ behind) e n passes is in
      let found = function_at front a f behind program.functions n passes is in
      one (bounds_of_externals (typed_row after_external and_external front a (typed.Defining number ∷ rest))) (items_loops body_is) (functions_loops behind) (functions_loops (typed_row after_external typed_function front a (f ∷ behind))) (bounds_of_externals (typed.Defining number ∷ rest)) (bounds derived program.variables (function_sites program.variables (slice_get program.functions number))) (bounds_of_externals rest)
      here (given-append (bounds_at_site derived) (function_sites program.variables (slice_get program.functions number)) (externals_sites program rest))
      (ap (λ o. bounds derived program.variables (function_sites program.variables o)) found ∙ items_bounds derived program.variables body_is)
    where
      one : (x i l m y d r : ℕ) → x + (i + l) ≡ m + y → y ≡ d + r → d ≡ i → x + l ≡ m + r
      one x i l m y d r a b c = omega (arith, a, b, c)

-- where no site is at fault, the names of markers are as many as the markers that were passed
module _ (program : typed.Program) (known : Known) (names : List (List ℕ)) where
  abbrev markers_of_externals : List typed.External → ℕ
  markers_of_externals items = markers known names program.variables (externals_sites program items)

  pub externals_markers : (items : Row (External ℕ)) (a : Around) (rest : List typed.External) (behind : List typed.Function) → length a.defined ≡ 0 → first_fault (externals_nodes items a) ≡ None → program.functions ≡ typed_row after_external typed_function items a behind →
      first_site_fault known (externals_sites program (typed_row after_external and_external items a rest)) ≡ None →
      (first_site_fault known (externals_sites program rest) ≡ None) × (markers_of_externals (typed_row after_external and_external items a rest) + a.markers ≡ (after_row after_external items a).markers + markers_of_externals rest)
  externals_markers Nothing a rest behind n h is s = (s, swap (markers_of_externals rest) a.markers)
    where
      swap : (x y : ℕ) → x + y ≡ y + x
      swap x y = omega arith
  externals_markers (Then front (Restriction pragma)) a rest behind n h is s =
      let here = externals_markers front a (typed.Restriction pragma ∷ rest) behind n (front_passes (externals_nodes front a) (external_nodes (Restriction pragma) (after_row after_external front a)) h) is s in
      (rest_passes known (sites.Restriction pragma) (externals_sites program rest) here.0, here.1)
  externals_markers (Then front (Declaring declaration)) a rest behind n h is s =
      let b = after_row after_external front a in
      let t = typed_declaration declaration b in
      let own = declaration_sites program.variables t in
      let here = externals_markers front a (typed.Declaring t ∷ rest) behind n (front_passes (externals_nodes front a) (external_nodes (Declaring declaration) b) h) is s in (
        behind_sites known own (externals_sites program rest) here.0,
        one (markers_of_externals (typed_row after_external and_external front a (typed.Declaring t ∷ rest))) a.markers b.markers (markers_of_externals (typed.Declaring t ∷ rest)) (markers known names program.variables own) (markers_of_externals rest) (after_declaration declaration b).markers
            here.1 (given-append (marker_at names) own (externals_sites program rest)) (declaration_markers known names program.variables t) (declaration_moves declaration b).markers_are,
      )
    where
      one : (x m b y d r c : ℕ) → x + m ≡ b + y → y ≡ d + r → d ≡ 0 → c + 0 ≡ b + 0 → x + m ≡ c + r
      one x m b y d r c e f g h = omega (arith, e, f, g, h)
  externals_markers (Then front (Function specifiers name name_at params body body_at at)) a rest behind n h is s =
      let b = after_row after_external front a in
      let source = Function specifiers name name_at params body body_at at in
      let number = length b.defined in
      let body_is = typed_items (kind_spelled specifiers) body (body_around specifiers name params b) typed.NoItem in
      let f = typed.Defined specifiers name name_at (typed_params params (within_function specifiers name params b)) (length b.variables) body_is body_at at in
      let passes = front_passes (externals_nodes front a) (external_nodes source b) h in
      let here = externals_markers front a (typed.Defining number ∷ rest) (f ∷ behind) n passes is s in
      let found = function_at front a f behind program.functions n passes is in
      let own = function_sites program.variables (slice_get program.functions number) in
      let fault : first_site_fault known (function_sites program.variables (Some f)) ≡ None = ap (λ o. first_site_fault known (function_sites program.variables o)) (sym found) ∙ front_sites known own (externals_sites program rest) here.0 in (
        behind_sites known own (externals_sites program rest) here.0,
        one (markers_of_externals (typed_row after_external and_external front a (typed.Defining number ∷ rest))) a.markers b.markers (markers_of_externals (typed.Defining number ∷ rest)) (markers known names program.variables own) (markers_of_externals rest) (items_markers body_is) (after_external source b).markers
            here.1 (given-append (marker_at names) own (externals_sites program rest))
            (ap (λ o. markers known names program.variables (function_sites program.variables o)) found ∙ items_named known names program.variables body_is (rest_passes known (sites.Function (record { 0 = name })) (items_sites program.variables body_is) fault))
            (function_passes specifiers name name_at params body body_at at b).markers_are,
      )
    where
      one : (x m b y d r i c : ℕ) → x + m ≡ b + y → y ≡ d + r → d ≡ i → c ≡ b + i → x + m ≡ c + r
      one x m b y d r i c e f g h = omega (arith, e, f, g, h)
