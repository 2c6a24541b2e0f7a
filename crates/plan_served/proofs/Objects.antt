-- The objects of a function are as its layout says.
use Rattle.std.proofs.Common.{◌≡◌, refl, ap, ◌∙◌, sym, subst, ℕ, ◌+◌, ◌<◌, ◌≤◌, Bool, true, false, List, [], ◌∷◌, ◌++◌, length, arith, length-append, ltb-true, ltb-false}
use Rattle.std.specs.Prelude.{◌&&◌, ◌-◌, ◌==◌, not, nat_lt, slice_get, slice_index_or, is_none}
use Rattle.std.proofs.lemmas.Bool.{eq-eqb, false≢true, or_left, or_parts, or_right, true≢false}
use Rattle.std.proofs.lemmas.Option.{get_or_from_slice_get}
use Rattle.c_tree.specs.Tree.{Row, Nothing, Then, Expr, Exprs, NoExpr, AndExpr, Shape, Scalar, Unsized, Sized, Initial, Absent, Value, Listed, Object, Declared}
use Rattle.types_calls.specs.Calls.{expr_calls, exprs_calls, initial_calls, object_calls, objects_calls, shape_calls}
use Rattle.facts_definitions.specs.Most.{bounds_at, no_bounds}
use Rattle.facts_definitions.specs.Sites.{count_exprs, elements, elements_of, filling_sites, object_sites, objects_sites}
use Rattle.facts_definitions.specs.declared.facts.Bounds.{Bounds}
use Rattle.facts_definitions.specs.declared.facts.Derived.{Derived}
use Rattle.types_tree.specs.Tree as typed
use Rattle.types_tree.specs.declared.variable.Duration.TheVariants.{Automatic}
use Rattle.types_tree.specs.declared.variable.Extent.{Extent}
use Rattle.types_tree.specs.declared.variable.Extent.TheVariants.{Scalar as Single, Array as Elements, Parameter as Passed}
use Rattle.types_tree.specs.declared.variable.Variable.{Variable}
use Rattle.types_value.specs.declared.kind.Kind.{Kind as CType}
use Rattle.types_rules.specs.Constants.{constant_word}
use Rattle.types_rules.specs.DeclarationRules.{Base, after_object, any_not_constant, extent_of, is_filled, with_filling}
use Rattle.types_rules.specs.Scope.{Around, after_row, duration_in, in_block, is_array, or_zero, with_object}
use Rattle.types_rules.specs.Sights.{SeenObject, expr_nodes, list_nodes, object_nodes, objects_nodes, shape_nodes}
use Rattle.types_rules.specs.Types.{count, kind_of}
use Rattle.types_rules.specs.Typing.{and_object, filling_of, typed_initial, typed_object, typed_row, typed_shape, typed_value, value_at, values_at}
use Rattle.high_ir.specs.declared.object.Kind.{Kind}
use Rattle.high_ir.specs.declared.object.Base.{Base as Place}
use Rattle.high_ir.specs.declared.object.Base.TheVariants.{Object as Own, Parameter}
use Rattle.plan_definition.specs.declared.home.Home.{Home}
use Rattle.plan_definition.specs.declared.home.Home.TheVariants.{Frame, Memory}
use Rattle.plan_definition.specs.Operators as plan
use Rattle.plan_runs.specs.ExpressionFits.{Function, IsArrayHome, IsNamed, IsScalar, Signatures, Suits, range_of}
use Rattle.plan_runs.specs.Meets.{Layout, home, kind_at, type_in}
use Rattle.plan_runs.specs.StatementFits.{FillingFits, FitInitial, FitObjects, FitValue, FitValues, IsArrayObject, IsDeclared, among}
use Rattle.types_seen.specs.Growing.{Grows}
use Rattle.plan_served.specs.Seen.{Callable, IsObjectSeen, Knows, LivesAs, Sees}
use Rattle.plan_served.specs.Places.{AreBounds, IsHandedOver, IsHome, IsInFrame, IsInMemory, IsLaid, IsObjectBase, IsParameterBase, IsPlan, IsStored}
use Rattle.types_seen.proofs.Rules.{NoFault, faultless_first, faultless_second, parts_keep}
use Rattle.plan_served.proofs.Names.{calls_first, calls_second}
use Rattle.plan_served.proofs.Expressions.{calls_converted, fit_converted, fit_expr, range_converted, range_is}
use Rattle.types_seen.proofs.Growing.{grows_declared, grows_same, grows_then, in_same, inside_declared, slice_get-last}
use Rattle.plan_served.proofs.Seeing.{knows_before, sees_object, sees_same}
use Rattle.plan_served.proofs.Loops.{bounds_first, bounds_row}
use Rattle.types_seen.proofs.ObjectRules.{keeps_at, size_ok, unsized_ok}

abbrev is_passed_extent : Extent → Bool
is_passed_extent Single = false
is_passed_extent (Elements n) = false
is_passed_extent Passed = true

count_values : (kind : CType) (es : Exprs ℕ) (a : Around) (rest : typed.Exprs) → count_exprs (values_at kind es a rest) ≡ count es + count_exprs rest
count_values kind NoExpr a rest = omega arith
count_values kind (AndExpr front last) a rest = let h = count_values kind front a (typed.WithExpr (value_at kind last a) rest) in omega (arith, h)

-- what stands behind others
values_behind : (P : typed.Exprs → Type 0) → ((e : typed.Expr) (rest : typed.Exprs) → P (typed.WithExpr e rest) → P rest) → (kind : CType) (es : Exprs ℕ) (a : Around) (rest : typed.Exprs) → P (values_at kind es a rest) → P rest
values_behind P step kind NoExpr a rest h = h
values_behind P step kind (AndExpr front last) a rest h = step (value_at kind last a) rest (values_behind P step kind front a (typed.WithExpr (value_at kind last a) rest) h)

pub row_behind : (P : List typed.Object → Type 0) → ((o : typed.Object) (rest : List typed.Object) → P (o ∷ rest) → P rest) → (base : Base) (objects : Row (Object ℕ)) (a : Around) (rest : List typed.Object) → P (typed_row (after_object base) (and_object base) objects a rest) → P rest
row_behind P step base Nothing a rest h = h
row_behind P step base (Then front last) a rest h =
    let made = typed_object base last (after_row (after_object base) front a) in
    step made rest (row_behind P step base front a (made ∷ rest) h)

all_true : (b x : Bool) → b ≡ true → (b && true && x) ≡ x
all_true true x e = refl
all_true false x e = absurd (false≢true e)

same_place : (n : ℕ) → n + 1 - 1 ≡ n + 0
same_place n = omega arith

filling_fits : (derived : List Derived) (bounds : List Bounds) (filled : Bool) (c n loops : ℕ) → filled ≡ nat_lt c n → c ≤ n → n ≤ 262144 → AreBounds derived bounds loops (filling_sites (n - c) (filling_of filled loops)) → FillingFits bounds n c (filling_of filled loops)
filling_fits derived bounds false c n loops is le small are = let ge = ltb-false c n (sym is) in omega (arith, le, ge)
filling_fits derived bounds true c n loops is le small are =
    let b : Bounds = record { min = n - c; max = n - c } in
    let there = are.by 0 b refl in
    let lt = ltb-true c n (sym is) in
    let max_is : (bounds_at bounds (loops + 1)).max ≡ n - c = ap (λ i. (slice_index_or bounds i no_bounds).max) (same_place loops) ∙ ap (λ x. x.max) (get_or_from_slice_get bounds (loops + 0) b no_bounds there) in
    (omega (arith, max_is, lt), omega (arith, max_is, lt), omega (arith, small))

module _ (layout : Layout) (f : Function) (object : ℕ) where
  scalar_lives : (h : Home) → IsInFrame h → f.live object ≡ true → IsScalar layout f object h
  scalar_lives (Frame x) is live = live
  scalar_lives (Memory array) is live = absurd is

  named_lives : (b : Place) → IsObjectBase b → IsNamed layout f object b
  named_lives (Own n) is = tt
  named_lives (Parameter j) is = absurd is

  memory_lives : (h : Home) → IsInMemory h → IsArrayHome layout f object h
  memory_lives (Frame x) is = is
  memory_lives (Memory array) is = named_lives array.base is

  parameter_lives : (b : Place) → IsParameterBase b → f.live object ≡ true → IsNamed layout f object b
  parameter_lives (Own n) is live = absurd is
  parameter_lives (Parameter j) is live = live

  handed_lives : (h : Home) → IsHandedOver h → f.live object ≡ true → IsArrayHome layout f object h
  handed_lives (Frame x) is live = is
  handed_lives (Memory array) is live = parameter_lives array.base is live

  object_base : (b : Place) → IsObjectBase b → (n : ℕ) × (b ≡ Own n)
  object_base (Own n) is = (n, refl)
  object_base (Parameter j) is = absurd is

  pub static_scalar : (h : Home) → IsInMemory h → IsScalar layout f object h
  static_scalar (Frame x) is = absurd is
  static_scalar (Memory array) is = object_base array.base is

  pub static_array : (h : Home) → IsInMemory h → IsArrayHome layout f object h
  static_array h is = memory_lives h is

  array_object : (h : Home) → home layout object ≡ h → IsInMemory h → layout.constant object ≡ false → IsArrayObject layout object
  array_object (Frame x) e is stored = absurd is
  array_object (Memory array) e is stored = let b = object_base array.base is in record { array = array; number = b.0; lives = e; base_is = b.1; writable = stored }

  pub lives_as : (extent : Extent) → IsHome Automatic extent (home layout object) → f.live object ≡ true → LivesAs (is_array extent) layout f object
  lives_as Single is live = scalar_lives (home layout object) is live
  lives_as (Elements n) is live = memory_lives (home layout object) is
  lives_as Passed is live = handed_lives (home layout object) is live

-- the last object of a place of a function
pub last_laid : (layout : Layout) (signatures : Signatures) (number first variables : ℕ) (last : Around) → IsPlan layout signatures number first variables last → (name : ℕ) (kind : CType) (const : Bool) (extent : Extent) (a : Around) → Grows (with_object name kind const extent a) last →
    IsLaid layout (length a.variables) (record { name = record { 0 = name }; kind = kind; extent = extent; duration = duration_in (in_block a) })
last_laid layout signatures number first variables last p name kind const extent a g =
    let v : Variable = record { name = record { 0 = name }; kind = kind; extent = extent; duration = duration_in (in_block a) } in
    p.laid (length a.variables) v (g.variables_are (length a.variables) v (slice_get-last a.variables v))

pub laid_kind : (layout : Layout) (object : ℕ) (v : Variable) → IsLaid layout object v → kind_at layout object ≡ plan.kind_of v.kind
laid_kind layout object v l = ap (λ o. plan.kind_of (type_in o)) l.variable_is

-- what is known where a function's part stands
pub record At (layout : Layout) (f : Function) (first : ℕ) (a : Around) : Type 0 where
  pub sees : Sees layout f a
  pub block : in_block a ≡ true
  pub from : first ≤ length a.variables

module _ (layout : Layout) (signatures : Signatures) (result : Kind) (bounds : List Bounds) (derived : List Derived) (first : ℕ) (last : Around) where
  abbrev Plan : Function → Type 0
  Plan f = IsPlan layout signatures f.number first f.variables last

  pub at_later : (f : Function) (a b : Around) → Grows a b → b.outer ≡ a.outer → b.scope ≡ a.scope → At layout f first a → At layout f first b
  at_later f a b g outer scope h = record {
    sees = sees_same layout f a b g outer scope h.sees;
    block = in_same a b outer h.block;
    from = let m = g.more in let n = h.from in omega (arith, m, n);
  }

  -- an object that is declared in a block
  stored_in : (constant : Bool) (extent : Extent) → IsStored constant Automatic extent → (shape : Shape ℕ) (initial : Initial ℕ) → extent ≡ extent_of shape initial → constant ≡ false
  stored_in constant Single h shape initial e = h
  stored_in constant (Elements n) h shape initial e = h
  stored_in constant Passed h Scalar initial e = absurd (false≢true (ap is_passed_extent (sym e)))
  stored_in constant Passed h Unsized initial e = absurd (false≢true (ap is_passed_extent (sym e)))
  stored_in constant Passed h (Sized size) initial e = absurd (false≢true (ap is_passed_extent (sym e)))

  -- the facts on an object of a block
  pub record IsBlockObject (f : Function) (base : Base) (shape : Shape ℕ) (initial : Initial ℕ) (a : Around) : Type 0 where
    pub kind_is : kind_at layout (length a.variables) ≡ plan.kind_of base.kind
    pub stored : layout.constant (length a.variables) ≡ false
    pub home_is : IsHome Automatic (extent_of shape initial) (home layout (length a.variables))
    pub size_is : layout.sizes (length a.variables) ≡ elements (extent_of shape initial)
    pub elements_are : elements_of (slice_get layout.variables (length a.variables)) ≡ elements (extent_of shape initial)
    pub declared : IsDeclared layout f (length a.variables)

  pub block_object : (f : Function) (base : Base) (name : ℕ) (shape : Shape ℕ) (initial : Initial ℕ) (at : ℕ) (a : Around) → Plan f → in_block a ≡ true → first ≤ length a.variables → Grows (after_object base (Declared name shape initial at) a) last → IsBlockObject f base shape initial a
  block_object f base name shape initial at a p block from g =
      let extent = extent_of shape initial in
      let with = with_object name base.kind base.const extent a in
      let filled = is_filled shape initial a in
      let v : Variable = record { name = record { 0 = name }; kind = base.kind; extent = extent; duration = duration_in (in_block a) } in
      let grows : Grows with last = grows_then with (with_filling filled with) last (filling_grows filled with) g in
      let laid = last_laid layout signatures f.number first f.variables last p name base.kind base.const extent a grows in
      let below : length a.variables < length last.variables = let m = grows.more in let n = length-append a.variables (v ∷ []) in omega (arith, m, n) in
      record {
        kind_is = laid_kind layout (length a.variables) v laid;
        stored = stored_in (layout.constant (length a.variables)) extent (subst (λ b. IsStored (layout.constant (length a.variables)) (duration_in b) extent) block laid.stored) shape initial refl;
        home_is = subst (λ b. IsHome (duration_in b) extent (home layout (length a.variables))) block laid.lives;
        size_is = laid.size_is;
        elements_are = ap elements_of laid.variable_is;
        declared = (p.owned (length a.variables) from below, λ x lives. p.framed (length a.variables) x from below lives);
      }
    where
      filling_grows : (b : Bool) (x : Around) → Grows x (with_filling b x)
      filling_grows true x = grows_same x (with_filling true x) refl refl refl
      filling_grows false x = grows_same x x refl refl refl

  pub at_object : (f : Function) (base : Base) (o : Object ℕ) (a : Around) → Plan f → At layout f first a → Grows (after_object base o a) last → f.live (length a.variables) ≡ true → At layout f first (after_object base o a)
  at_object f base (Declared name shape initial at) a p h g live =
      let b = block_object f base name shape initial at a p h.block h.from g in
      let extent = extent_of shape initial in
      let with = with_object name base.kind base.const extent a in
      let filled = is_filled shape initial a in
      let seen : IsObjectSeen layout f (length a.variables) base.kind base.const (is_array extent) =
      record { kind_is = b.kind_is; stores = λ e. b.stored; lives = lives_as layout f (length a.variables) extent b.home_is live } in
      record {
        sees = filled_sees filled with (sees_object layout f name base.kind base.const extent a h.sees seen);
        block = in_same a (after_object base (Declared name shape initial at) a) (inside_declared base (Declared name shape initial at) a h.block).outer_is h.block;
        from = let m = (grows_declared base (Declared name shape initial at) a).more in let n = h.from in omega (arith, m, n);
      }
    where
      filled_sees : (b : Bool) (x : Around) → Sees layout f x → Sees layout f (with_filling b x)
      filled_sees true x s = sees_same layout f x (with_filling true x) (grows_same x (with_filling true x) refl refl refl) refl refl s
      filled_sees false x s = s

  abbrev IsValue : Function → typed.Expr → Kind → Type 0
  IsValue f e to = FitValue layout signatures result bounds f e to

  -- a value that is converted to a type
  pub fit_value : (f : Function) (kind : CType) (to : Kind) (e : Expr ℕ) (a : Around) → to ≡ plan.kind_of kind → Sees layout f a → Knows signatures a → NoFault (expr_nodes e false a) → Callable f (expr_calls (value_at kind e a)) → IsValue f (value_at kind e a) to
  fit_value f kind to e a is sees knows h c = (
    fit_converted layout signatures f (kind_of e a) kind (typed_value e a) (fit_expr layout signatures f a sees knows e h (calls_converted f (kind_of e a) kind (typed_value e a) c)),
    subst (Suits (range_of layout signatures (value_at kind e a))) (sym is) (range_converted layout signatures f (kind_of e a) kind (typed_value e a) (range_is layout signatures f a sees knows e h)),
  )

  fit_values : (f : Function) (kind : CType) (to : Kind) (es : Exprs ℕ) (a : Around) (rest : typed.Exprs) → to ≡ plan.kind_of kind → Sees layout f a → Knows signatures a → NoFault (list_nodes es a) → Callable f (exprs_calls (values_at kind es a rest)) → FitValues layout signatures result bounds f rest to → FitValues layout signatures result bounds f (values_at kind es a rest) to
  fit_values f kind to NoExpr a rest is sees knows h c r = r
  fit_values f kind to (AndExpr front last) a rest is sees knows h c r =
      let made = value_at kind last a in
      let behind = values_behind (λ l. Callable f (exprs_calls l)) (λ e l d. calls_second f (expr_calls e) (exprs_calls l) d) kind front a (typed.WithExpr made rest) c in
      fit_values f kind to front a (typed.WithExpr made rest) is sees knows (faultless_first (list_nodes front a) (expr_nodes last false a) h) c
      (fit_value f kind to last a is sees knows (faultless_second (list_nodes front a) (expr_nodes last false a) h) (calls_first f (expr_calls made) (exprs_calls rest) behind), r)

  abbrev IsInitial : Function → ℕ → typed.Initial → Type 0
  IsInitial f object initial = FitInitial layout signatures result bounds f object initial

  -- a list for an array of so many elements
  list_fits : (f : Function) (base : Base) (values : Exprs ℕ) (comma filled : Bool) (a after : Around) (object n : ℕ) → IsArrayObject layout object → kind_at layout object ≡ plan.kind_of base.kind → layout.sizes object ≡ n → elements_of (slice_get layout.variables object) ≡ n →
      Sees layout f after → Knows signatures after → NoFault (list_nodes values after) → Callable f (exprs_calls (values_at base.kind values after typed.NoExpr)) → filled ≡ nat_lt (count values) n → count values ≤ n → n ≤ 262144 →
      AreBounds derived bounds a.loops (filling_sites (elements_of (slice_get layout.variables object) - count_exprs (values_at base.kind values after typed.NoExpr)) (filling_of filled a.loops)) →
      IsInitial f object (typed.Listed (values_at base.kind values after typed.NoExpr) comma (filling_of filled a.loops))
  list_fits f base values comma filled a after object n array kind size elements sees knows h c is le small are =
      let es = values_at base.kind values after typed.NoExpr in
      let counted : count_exprs es ≡ count values = let k = count_values base.kind values after typed.NoExpr in omega (arith, k) in
      let sites : AreBounds derived bounds a.loops (filling_sites (n - count values) (filling_of filled a.loops)) =
      subst (λ k. AreBounds derived bounds a.loops (filling_sites (n - k) (filling_of filled a.loops))) counted
      (subst (λ m. AreBounds derived bounds a.loops (filling_sites (m - count_exprs es) (filling_of filled a.loops))) elements are) in (
        array,
        fit_values f base.kind (kind_at layout object) values after typed.NoExpr kind sees knows h c tt,
        subst (λ m. FillingFits bounds m (count_exprs es) (filling_of filled a.loops)) (sym size)
            (subst (λ k. FillingFits bounds n k (filling_of filled a.loops)) (sym counted) (filling_fits derived bounds filled (count values) n a.loops is le small sites)),
      )

  fit_initial : (f : Function) (base : Base) (name : ℕ) (shape : Shape ℕ) (initial : Initial ℕ) (at : ℕ) (a : Around) → Plan f → At layout f first a → Grows (after_object base (Declared name shape initial at) a) last → f.live (length a.variables) ≡ true → NoFault (object_nodes base (Declared name shape initial at) a) →
      Callable f (initial_calls (typed_initial base.kind (filling_of (is_filled shape initial a) a.loops) initial (after_object base (Declared name shape initial at) a))) →
      AreBounds derived bounds a.loops (object_sites layout.variables (typed_object base (Declared name shape initial at) a)) →
      IsInitial f (length a.variables) (typed_initial base.kind (filling_of (is_filled shape initial a) a.loops) initial (after_object base (Declared name shape initial at) a))
  fit_initial f base name shape Absent at a p h g live n c are = tt
  fit_initial f base name Unsized (Value value) at a p h g live n c are = absurd (true≢false (keeps_at base name Unsized (Value value) at a n).given)
  fit_initial f base name (Sized size) (Value value) at a p h g live n c are = absurd (true≢false (keeps_at base name (Sized size) (Value value) at a n).given)
  fit_initial f base name Scalar (Value value) at a p h g live n c are =
      let o = Declared name Scalar (Value value) at in
      let after = after_object base o a in
      let b = block_object f base name Scalar (Value value) at a p h.block h.from g in
      let nodes = parts_keep (SeenObject base o a) (expr_nodes value false after) n in (
        scalar_lives layout f (length a.variables) (home layout (length a.variables)) b.home_is live,
        fit_value f base.kind (kind_at layout (length a.variables)) value after b.kind_is (at_object f base o a p h g live).sees (knows_before signatures after last g p.knows) nodes c,
        b.stored,
      )
  fit_initial f base name Scalar (Listed values comma) at a p h g live n c are = absurd (true≢false (keeps_at base name Scalar (Listed values comma) at a n).given)
  fit_initial f base name Unsized (Listed values comma) at a p h g live n c are =
      let o = Declared name Unsized (Listed values comma) at in
      let after = after_object base o a in
      let b = block_object f base name Unsized (Listed values comma) at a p h.block h.from g in
      let k = keeps_at base name Unsized (Listed values comma) at a n in
      let nodes = parts_keep (SeenObject base o a) (list_nodes values after) n in
      let object = length a.variables in
      list_fits f base values comma (is_filled Unsized (Listed values comma) a) a after object (count values) (array_object layout f object (home layout object) refl b.home_is b.stored) b.kind_is b.size_is b.elements_are
      (at_object f base o a p h g live).sees (knows_before signatures after last g p.knows) nodes c (all_true (in_block a) (nat_lt (count values) (count values)) h.block) (omega arith) (unsized_ok (count values) k.size) are
  fit_initial f base name (Sized size) (Listed values comma) at a p h g live n c are =
      let o = Declared name (Sized size) (Listed values comma) at in
      let after = after_object base o a in
      let b = block_object f base name (Sized size) (Listed values comma) at a p h.block h.from g in
      let k = keeps_at base name (Sized size) (Listed values comma) at a n in
      let nodes = parts_keep (SeenObject base o a) (shape_nodes (Sized size) a ++ list_nodes values after) n in
      let object = length a.variables in
      let m = or_zero (constant_word size) in
      let ok = size_ok (constant_word size) (count values) (or_parts (is_none (constant_word size)) (not (in_block a) && any_not_constant values) k.constant).0 k.size in
      list_fits f base values comma (is_filled (Sized size) (Listed values comma) a) a after object m (array_object layout f object (home layout object) refl b.home_is b.stored) b.kind_is b.size_is b.elements_are
      (at_object f base o a p h g live).sees (knows_before signatures after last g p.knows) (faultless_second (shape_nodes (Sized size) a) (list_nodes values after) nodes) c (all_true (in_block a) (nat_lt (count values) m) h.block) ok.0 ok.1 are

  -- the objects of a declaration
  abbrev Covers : Function → List typed.Object → Type 0
  Covers f objects = (o : ℕ) → among objects o ≡ true → f.live o ≡ true

  covers_rest : (f : Function) (o : typed.Object) (rest : List typed.Object) → Covers f (o ∷ rest) → Covers f rest
  covers_rest f (typed.Declared object shape initial at) rest c = λ p m. c p (or_right (object == p) (among rest p) m)

  covers_first : (f : Function) (base : Base) (o : Object ℕ) (a : Around) (rest : List typed.Object) → Covers f (typed_object base o a ∷ rest) → f.live (length a.variables) ≡ true
  covers_first f base (Declared name shape initial at) a rest c = c (length a.variables) (or_left (length a.variables == length a.variables) (among rest (length a.variables)) (eq-eqb (length a.variables) (length a.variables) refl))

  pub at_row : (f : Function) (base : Base) (objects : Row (Object ℕ)) (a : Around) (rest : List typed.Object) → Plan f → At layout f first a → Grows (after_row (after_object base) objects a) last → Covers f (typed_row (after_object base) (and_object base) objects a rest) → At layout f first (after_row (after_object base) objects a)
  at_row f base Nothing a rest p h g c = h
  at_row f base (Then front last_one) a rest p h g c =
      let now = after_row (after_object base) front a in
      let made = typed_object base last_one now in
      let before = grows_then now (after_object base last_one now) last (grows_declared base last_one now) g in
      let here = at_row f base front a (made ∷ rest) p h before c in
      at_object f base last_one now p here g (covers_first f base last_one now rest (row_behind (Covers f) (covers_rest f) base front a (made ∷ rest) c))

  fit_object : (f : Function) (base : Base) (o : Object ℕ) (a : Around) (rest : List typed.Object) → Plan f → At layout f first a → Grows (after_object base o a) last → f.live (length a.variables) ≡ true → NoFault (object_nodes base o a) → Callable f (object_calls (typed_object base o a)) →
      AreBounds derived bounds a.loops (object_sites layout.variables (typed_object base o a)) → FitObjects layout signatures result bounds f rest → FitObjects layout signatures result bounds f (typed_object base o a ∷ rest)
  fit_object f base (Declared name shape initial at) a rest p h g live n c are r =
      let filling = filling_of (is_filled shape initial a) a.loops in
      let made = typed_initial base.kind filling initial (after_object base (Declared name shape initial at) a) in (
        (block_object f base name shape initial at a p h.block h.from g).declared,
        fit_initial f base name shape initial at a p h g live n (calls_second f (shape_calls (typed_shape shape a)) (initial_calls made) c) are,
        r,
      )

  pub fit_objects : (f : Function) (base : Base) (objects : Row (Object ℕ)) (a : Around) (rest : List typed.Object) → Plan f → At layout f first a → Grows (after_row (after_object base) objects a) last → NoFault (objects_nodes base objects a) →
      Callable f (objects_calls (typed_row (after_object base) (and_object base) objects a rest)) → AreBounds derived bounds a.loops (objects_sites layout.variables (typed_row (after_object base) (and_object base) objects a rest)) → Covers f (typed_row (after_object base) (and_object base) objects a rest) →
      FitObjects layout signatures result bounds f rest → FitObjects layout signatures result bounds f (typed_row (after_object base) (and_object base) objects a rest)
  fit_objects f base Nothing a rest p h g n c are covers r = r
  fit_objects f base (Then front last_one) a rest p h g n c are covers r =
      let now = after_row (after_object base) front a in
      let made = typed_object base last_one now in
      let before = grows_then now (after_object base last_one now) last (grows_declared base last_one now) g in
      let here = at_row f base front a (made ∷ rest) p h before covers in
      let live = covers_first f base last_one now rest (row_behind (Covers f) (covers_rest f) base front a (made ∷ rest) covers) in
      let calls = row_behind (λ l. Callable f (objects_calls l)) (λ o l d. calls_second f (object_calls o) (objects_calls l) d) base front a (made ∷ rest) c in
      let sites = bounds_row derived layout.variables bounds base front a (made ∷ rest) are in
      fit_objects f base front a (made ∷ rest) p h before (faultless_first (objects_nodes base front a) (object_nodes base last_one now) n) c are covers
      (fit_object f base last_one now rest p here g live (faultless_second (objects_nodes base front a) (object_nodes base last_one now) n) (calls_first f (object_calls made) (objects_calls rest) calls)
      (bounds_first derived bounds now.loops (object_sites layout.variables made) (objects_sites layout.variables rest) sites) r)
