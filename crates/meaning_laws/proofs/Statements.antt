-- The typed form of a declaration or a statement at which no rule fails fits what is seen there.
use Rattle.std.proofs.Common.{◌≡◌, refl, sym, subst, ℕ, ◌+◌, Bool, true, false, if◌then◌else◌, List, [], ◌∷◌, ◌++◌, length, Option, Some, None, arith}
use Rattle.std.specs.Prelude.{◌&&◌, not, slice_get, is_none}
use Rattle.std.proofs.lemmas.Bool.{or_parts, true≢false}
use Rattle.c_tree.specs.Tree.{Row, Nothing, Then, Expr, Exprs, Shape, Scalar, Unsized, Sized, Initial, Absent, Value, Listed, Object, Declared, Param, Parameter, Declaration, Objects, Prototype, ForStart, NoStart, StartValue, StartDeclaration, Statement, Block, Empty, Evaluate, Marker, If, IfElse, While, Do, For, Switch, Break, Continue, Return, Items, NoItem, AndDeclaration, AndStatement, AndRestriction, AndLabel}
use Rattle.types_tree.specs.Tree as typed
use Rattle.types_tree.specs.declared.variable.Extent.{Extent}
use Rattle.types_tree.specs.declared.variable.Variable.{Variable}
use Rattle.types_value.specs.Kinds.{promoted}
use Rattle.types_value.specs.declared.kind.Kind.{Kind}
use Rattle.types_rules.specs.Constants.{constant_word}
use Rattle.types_rules.specs.DeclarationRules.{Base, after_declaration, after_list, after_object, after_param, after_params, any_not_constant, base_of, extent_of, is_filled, is_no_list, param_extent, routine, with_filling}
use Rattle.types_rules.specs.Specifiers.{is_const, kind_spelled}
use Rattle.types_rules.specs.Scope.{Around, after_row, duration_in, entered, in_block, is_array, left, with_loop, with_object}
use Rattle.types_rules.specs.Sights.{SeenDeclaration, SeenObject, SeenStatement, declaration_nodes, expr_nodes, initial_nodes, items_nodes, label_nodes, list_nodes, object_nodes, objects_nodes, option_nodes, shape_nodes, start_nodes, statement_nodes, value_nodes}
use Rattle.types_rules.specs.StatementRules.{Within, after, after_items, after_start, in_loop, in_switch, within_for}
use Rattle.types_rules.specs.Types.{count, kind_of}
use Rattle.types_rules.specs.Typing.{and_object, filling_of, option_at, typed_declaration, typed_initial, typed_items, typed_label, typed_object, typed_option, typed_row, typed_start, typed_statement, typed_value, value_at, values_at}
use Rattle.types_seen.specs.Growing.{Beside, Grows}
use Rattle.types_seen.specs.Seen.{Knows, Sees}
use Rattle.types_seen.proofs.Rules.{NoFault, faultless_first, faultless_second, parts_keep}
use Rattle.types_seen.proofs.ObjectRules.{keeps_at, size_ok}
use Rattle.types_seen.proofs.Growing.{beside, declaration_grows, grows_declared, grows_object, grows_same, grows_then, in_entered, in_same, inside_declaration, inside_items, inside_start, slice_get-last}
use Rattle.types_seen.proofs.Scopes.{knows_before, sees_entered, sees_object, sees_routine, sees_same}
use Rattle.meaning_laws.specs.Scoped.{Fit, FitAll, FitDeclaration, FitInitial, FitItems, FitObjects, FitOption, FitStart, FitStatement, HasRoom, HasRoomIn, IsObject, IsOfExtent, count_values}
use Rattle.meaning_laws.proofs.Expressions.{IsKnown, IsSeen, count_at, expr_fits, list_fits, value_fits}

filled_grows : (b : Bool) (a : Around) → Grows a (with_filling b a)
filled_grows true a = grows_same a (with_loop a) refl refl refl
filled_grows false a = grows_same a a refl refl refl

module _ (functions : List typed.Function) (last : Around) (knows : Knows (IsKnown functions) last) where
  abbrev Seen : Around → Type 0
  Seen a = Sees (IsSeen last.variables) a

  abbrev IsFit : typed.Expr → Type 0
  IsFit e = Fit last.variables functions e

  -- where a part of a block stands
  pub record Stands (a : Around) : Type 0 where
    pub sees : Seen a
    pub block : in_block a ≡ true

  object_there : (name : ℕ) (kind : Kind) (const : Bool) (extent : Extent) (a : Around) → Grows (with_object name kind const extent a) last → IsObject last.variables (is_array extent) (length a.variables)
  object_there name kind const extent a g =
      let v : Variable = record { name = record { 0 = name }; kind = kind; extent = extent; duration = duration_in (in_block a) } in
      subst (IsOfExtent (is_array extent)) (sym (g.variables_are (length a.variables) v (slice_get-last a.variables v))) refl

  room_there : (name : ℕ) (kind : Kind) (const : Bool) (extent : Extent) (n : ℕ) (a : Around) → Grows (with_object name kind const extent a) last → HasRoom extent n → HasRoomIn (slice_get last.variables (length a.variables)) n
  room_there name kind const extent n a g room =
      let v : Variable = record { name = record { 0 = name }; kind = kind; extent = extent; duration = duration_in (in_block a) } in
      subst (λ o. HasRoomIn o n) (sym (g.variables_are (length a.variables) v (slice_get-last a.variables v))) room

  with_grows : (base : Base) (name : ℕ) (shape : Shape ℕ) (initial : Initial ℕ) (at : ℕ) (a : Around) → Grows (after_object base (Declared name shape initial at) a) last → Grows (with_object name base.kind base.const (extent_of shape initial) a) last
  with_grows base name shape initial at a g =
      let b = with_object name base.kind base.const (extent_of shape initial) a in
      grows_then b (with_filling (is_filled shape initial a) b) last (filled_grows (is_filled shape initial a) b) g

  filled_sees : (b : Bool) (a : Around) → Seen a → Seen (with_filling b a)
  filled_sees true a s = sees_same (IsSeen last.variables) a (with_loop a) (grows_same a (with_loop a) refl refl refl) refl refl s
  filled_sees false a s = s

  object_sees : (base : Base) (o : Object ℕ) (a : Around) → Grows (after_object base o a) last → Seen a → Seen (after_object base o a)
  object_sees base (Declared name shape initial at) a g s =
      let b = with_object name base.kind base.const (extent_of shape initial) a in
      filled_sees (is_filled shape initial a) b
      (sees_object (IsSeen last.variables) name base.kind base.const (extent_of shape initial) a s (object_there name base.kind base.const (extent_of shape initial) a (with_grows base name shape initial at a g)))

  row_sees : (base : Base) (objects : Row (Object ℕ)) (a : Around) → Grows (after_row (after_object base) objects a) last → Seen a → Seen (after_row (after_object base) objects a)
  row_sees base Nothing a g s = s
  row_sees base (Then front one) a g s =
      let now = after_row (after_object base) front a in
      object_sees base one now g (row_sees base front a (grows_then now (after_object base one now) last (grows_declared base one now) g) s)

  pub declaration_sees : (d : Declaration ℕ) (a : Around) → Grows (after_declaration d a) last → Seen a → Seen (after_declaration d a)
  declaration_sees (Objects specifiers objects at) a g s = row_sees (base_of specifiers) objects a g s
  declaration_sees (Prototype specifiers name params at) a g s = sees_routine (IsSeen last.variables) name (routine specifiers params) a tt s

  param_grows : (p : Param ℕ) (a : Around) → Grows a (after_param p a)
  param_grows (Parameter specifiers None shape at) a = grows_same a a refl refl refl
  param_grows (Parameter specifiers (Some name) shape at) a = grows_object name (kind_spelled specifiers) (is_const specifiers) (param_extent shape) a

  param_sees : (p : Param ℕ) (a : Around) → Grows (after_param p a) last → Seen a → Seen (after_param p a)
  param_sees (Parameter specifiers None shape at) a g s = s
  param_sees (Parameter specifiers (Some name) shape at) a g s =
      sees_object (IsSeen last.variables) name (kind_spelled specifiers) (is_const specifiers) (param_extent shape) a s (object_there name (kind_spelled specifiers) (is_const specifiers) (param_extent shape) a g)

  params_see : (ps : Row (Param ℕ)) (a : Around) → Grows (after_row after_param ps a) last → Seen a → Seen (after_row after_param ps a)
  params_see Nothing a g s = s
  params_see (Then front one) a g s =
      let now = after_row after_param front a in
      param_sees one now g (params_see front a (grows_then now (after_param one now) last (param_grows one now) g) s)

  pub list_sees : (ps : Row (Param ℕ)) (a : Around) → Grows (after_list ps a) last → Seen a → Seen (after_list ps a)
  list_sees ps a g s = of (is_no_list ps) g
    where
      of : (b : Bool) → Grows (if b then a else after_params ps a) last → Seen (if b then a else after_params ps a)
      of true g = s
      of false g = params_see ps a g s

  -- an expression, where what is seen is known
  here : (e : Expr ℕ) (a : Around) → Grows a last → Seen a → NoFault (expr_nodes e false a) → IsFit (typed_value e a)
  here e a g s n = expr_fits last.variables functions a s (knows_before (IsKnown functions) a last g knows) e false n

  at_kind : (kind : Kind) (e : Expr ℕ) (a : Around) → Grows a last → Seen a → NoFault (expr_nodes e false a) → IsFit (value_at kind e a)
  at_kind kind e a g s n = value_fits last.variables functions a s (knows_before (IsKnown functions) a last g knows) kind e n

  list_here : (kind : Kind) (es : Exprs ℕ) (a : Around) → Grows a last → Seen a → NoFault (list_nodes es a) → FitAll last.variables functions (values_at kind es a typed.NoExpr)
  list_here kind es a g s n = list_fits last.variables functions a s (knows_before (IsKnown functions) a last g knows) kind es typed.NoExpr n tt

  initial_fits : (base : Base) (name : ℕ) (shape : Shape ℕ) (initial : Initial ℕ) (at : ℕ) (a : Around) (filling : Option ℕ) → Grows (after_object base (Declared name shape initial at) a) last → Seen a → NoFault (object_nodes base (Declared name shape initial at) a) →
      FitInitial last.variables functions (length a.variables) (typed_initial base.kind filling initial (after_object base (Declared name shape initial at) a))
  initial_fits base name shape Absent at a filling g s n = tt
  initial_fits base name Unsized (Value value) at a filling g s n = absurd (true≢false (keeps_at base name Unsized (Value value) at a n).given)
  initial_fits base name (Sized size) (Value value) at a filling g s n = absurd (true≢false (keeps_at base name (Sized size) (Value value) at a n).given)
  initial_fits base name Scalar (Value value) at a filling g s n =
      let o = Declared name Scalar (Value value) at in
      let after = after_object base o a in (
        object_there name base.kind base.const (extent_of Scalar (Value value)) a (with_grows base name Scalar (Value value) at a g),
        at_kind base.kind value after g (object_sees base o a g s) (parts_keep (SeenObject base o a) (shape_nodes Scalar a ++ initial_nodes (Value value) after) n),
      )
  initial_fits base name Scalar (Listed values comma) at a filling g s n = absurd (true≢false (keeps_at base name Scalar (Listed values comma) at a n).given)
  initial_fits base name Unsized (Listed values comma) at a filling g s n =
      let o = Declared name Unsized (Listed values comma) at in
      let after = after_object base o a in
      let made = count_at base.kind values after typed.NoExpr in (
        room_there name base.kind base.const (extent_of Unsized (Listed values comma)) (count_values (values_at base.kind values after typed.NoExpr)) a (with_grows base name Unsized (Listed values comma) at a g) (omega (arith, made)),
        list_here base.kind values after g (object_sees base o a g s) (parts_keep (SeenObject base o a) (shape_nodes Unsized a ++ initial_nodes (Listed values comma) after) n),
      )
  initial_fits base name (Sized size) (Listed values comma) at a filling g s n =
      let o = Declared name (Sized size) (Listed values comma) at in
      let after = after_object base o a in
      let k = keeps_at base name (Sized size) (Listed values comma) at a n in
      let ok = size_ok (constant_word size) (count values) (or_parts (is_none (constant_word size)) (not (in_block a) && any_not_constant values) k.constant).0 k.size in
      let le = ok.0 in
      let made = count_at base.kind values after typed.NoExpr in (
        room_there name base.kind base.const (extent_of (Sized size) (Listed values comma)) (count_values (values_at base.kind values after typed.NoExpr)) a (with_grows base name (Sized size) (Listed values comma) at a g) (omega (arith, made, le)),
        list_here base.kind values after g (object_sees base o a g s)
            (faultless_second (shape_nodes (Sized size) a) (list_nodes values after) (parts_keep (SeenObject base o a) (shape_nodes (Sized size) a ++ initial_nodes (Listed values comma) after) n)),
      )

  object_fits : (base : Base) (o : Object ℕ) (a : Around) (rest : List typed.Object) → Grows (after_object base o a) last → Seen a → NoFault (object_nodes base o a) → FitObjects last.variables functions rest → FitObjects last.variables functions (typed_object base o a ∷ rest)
  object_fits base (Declared name shape initial at) a rest g s n r = (initial_fits base name shape initial at a (filling_of (is_filled shape initial a) a.loops) g s n, r)

  objects_fit : (base : Base) (objects : Row (Object ℕ)) (a : Around) (rest : List typed.Object) → Grows (after_row (after_object base) objects a) last → Seen a → NoFault (objects_nodes base objects a) → FitObjects last.variables functions rest →
      FitObjects last.variables functions (typed_row (after_object base) (and_object base) objects a rest)
  objects_fit base Nothing a rest g s n r = r
  objects_fit base (Then front one) a rest g s n r =
      let now = after_row (after_object base) front a in
      let before = grows_then now (after_object base one now) last (grows_declared base one now) g in
      objects_fit base front a (typed_object base one now ∷ rest) before s (faultless_first (objects_nodes base front a) (object_nodes base one now) n)
      (object_fits base one now rest g (row_sees base front a before s) (faultless_second (objects_nodes base front a) (object_nodes base one now) n) r)

  pub declaration_fits : (d : Declaration ℕ) (a : Around) → Grows (after_declaration d a) last → Seen a → NoFault (declaration_nodes d a) → FitDeclaration last.variables functions (typed_declaration d a)
  declaration_fits (Objects specifiers objects at) a g s n = objects_fit (base_of specifiers) objects a [] g s (parts_keep (SeenDeclaration (Objects specifiers objects at) a) (objects_nodes (base_of specifiers) objects a) n) tt
  declaration_fits (Prototype specifiers name params at) a g s n = tt

  start_fits : (start : ForStart ℕ) (a : Around) → Grows (after_start start a) last → Seen a → NoFault (start_nodes start a) → FitStart last.variables functions (typed_start start a)
  start_fits NoStart a g s n = tt
  start_fits (StartValue value) a g s n = here value a g s n
  start_fits (StartDeclaration d) a g s n = declaration_fits d a g s n

  start_sees : (start : ForStart ℕ) (a : Around) → Grows (after_start start a) last → Seen a → Seen (after_start start a)
  start_sees NoStart a g s = s
  start_sees (StartValue value) a g s = s
  start_sees (StartDeclaration d) a g s = declaration_sees d a g s

  option_fits : (o : Option (Expr ℕ)) (a : Around) → Grows a last → Seen a → NoFault (option_nodes o a) → FitOption last.variables functions (typed_option o a)
  option_fits None a g s n = tt
  option_fits (Some e) a g s n = here e a g s n

  return_fits : (kind : Kind) (o : Option (Expr ℕ)) (a : Around) → Grows a last → Seen a → NoFault (option_nodes o a) → FitOption last.variables functions (option_at kind o a)
  return_fits kind None a g s n = tt
  return_fits kind (Some e) a g s n = at_kind kind e a g s n

  within : (a : Around) → Stands a → Stands (entered a)
  within a h = record { sees = sees_entered (IsSeen last.variables) a h.sees; block = in_entered a }

  within_loop : (a : Around) → Stands a → Stands (with_loop a)
  within_loop a h = record { sees = sees_same (IsSeen last.variables) a (with_loop a) (grows_same a (with_loop a) refl refl refl) refl refl h.sees; block = h.block }

  stands_beside : (a b : Around) → Beside a b → Stands a → Stands b
  stands_beside a b e h = record { sees = sees_same (IsSeen last.variables) a b e.inside.grows e.inside.outer_is e.scope_is h.sees; block = in_same a b e.inside.outer_is h.block }

  stands_declaration : (d : Declaration ℕ) (a : Around) → Grows (after_declaration d a) last → Stands a → Stands (after_declaration d a)
  stands_declaration d a g h = record { sees = declaration_sees d a g h.sees; block = in_same a (after_declaration d a) (inside_declaration d a h.block).outer_is h.block }

  unleft : (b : Around) → Grows (left b) last → Grows b last
  unleft b g = grows_then b (left b) last (grows_same b (left b) refl refl refl) g

  stands_items : (items : Items ℕ) (a : Around) → Grows (after_items items a) last → Stands a → Stands (after_items items a)
  stands_items NoItem a g h = h
  stands_items (AndDeclaration front d) a g h =
      let now = after_items front a in
      stands_declaration d now g (stands_items front a (grows_then now (after_declaration d now) last (declaration_grows d now) g) h)
  stands_items (AndStatement front s) a g h =
      let now = after_items front a in
      let next = beside s now (in_same a now (inside_items front a h.block).outer_is h.block) in
      stands_beside now (after s now) next (stands_items front a (grows_then now (after s now) last next.inside.grows g) h)
  stands_items (AndRestriction front pragma) a g h = stands_items front a g h
  stands_items (AndLabel front label) a g h = stands_items front a g h

  -- of a function with a result of this type
  module _ (result : Kind) where
    mutual
      pub statement_fits : (s : Statement ℕ) (w : Within) (a : Around) → Grows (after s a) last → Stands a → NoFault (statement_nodes s a w) → FitStatement last.variables functions (typed_statement result s a)
      statement_fits (Block items at) w a g h n =
          items_fit items w (entered a) typed.NoItem (unleft (after_items items (entered a)) g) (within a h) (parts_keep (SeenStatement (Block items at) a w) (items_nodes items (entered a) w) n) tt
      statement_fits (Empty at) w a g h n = tt
      statement_fits (Evaluate value at) w a g h n = here value a g h.sees (parts_keep (SeenStatement (Evaluate value at) a w) (value_nodes value a) n)
      statement_fits (Marker pragma) w a g h n = tt
      statement_fits (If test one at) w a g h n =
          let parts = parts_keep (SeenStatement (If test one at) a w) (value_nodes test a ++ statement_nodes one a w) n in
          let next = beside one a h.block in (
            here test a (grows_then a (after one a) last next.inside.grows g) h.sees (faultless_first (value_nodes test a) (statement_nodes one a w) parts),
            statement_fits one w a g h (faultless_second (value_nodes test a) (statement_nodes one a w) parts),
          )
      statement_fits (IfElse test one two at) w a g h n =
          let between = after one a in
          let parts = parts_keep (SeenStatement (IfElse test one two at) a w) (value_nodes test a ++ (statement_nodes one a w ++ statement_nodes two between w)) n in
          let both = faultless_second (value_nodes test a) (statement_nodes one a w ++ statement_nodes two between w) parts in
          let next = beside one a h.block in
          let later = beside two between (in_same a between next.inside.outer_is h.block) in
          let g1 = grows_then between (after two between) last later.inside.grows g in (
            here test a (grows_then a between last next.inside.grows g1) h.sees (faultless_first (value_nodes test a) (statement_nodes one a w ++ statement_nodes two between w) parts),
            statement_fits one w a g1 h (faultless_first (statement_nodes one a w) (statement_nodes two between w) both),
            statement_fits two w between g (stands_beside a between next h) (faultless_second (statement_nodes one a w) (statement_nodes two between w) both),
          )
      statement_fits (While bound test body at) w a g h n =
          let head = with_loop a in
          let inner = statement_nodes body head (in_loop w) in
          let parts = parts_keep (SeenStatement (While bound test body at) a w) (value_nodes test head ++ inner) n in
          let stands = within_loop a h in
          let next = beside body head stands.block in (
            here test head (grows_then head (after body head) last next.inside.grows g) stands.sees (faultless_first (value_nodes test head) inner parts),
            statement_fits body (in_loop w) head g stands (faultless_second (value_nodes test head) inner parts),
          )
      statement_fits (Do bound body test at) w a g h n =
          let head = with_loop a in
          let behind = after body head in
          let inner = statement_nodes body head (in_loop w) in
          let parts = parts_keep (SeenStatement (Do bound body test at) a w) (inner ++ value_nodes test behind) n in
          let stands = within_loop a h in
          let next = beside body head stands.block in (
            statement_fits body (in_loop w) head g stands (faultless_first inner (value_nodes test behind) parts),
            here test behind g (stands_beside head behind next stands).sees (faultless_second inner (value_nodes test behind) parts),
          )
      statement_fits (For bound start test step body at) w a g h n =
          let head = with_loop (entered a) in
          let inside = within_for start a in
          let n0 = start_nodes start head in
          let n1 = option_nodes test inside in
          let n2 = option_nodes step inside in
          let n3 = statement_nodes body inside (in_loop w) in
          let k = parts_keep (SeenStatement (For bound start test step body at) a w) (n0 ++ (n1 ++ (n2 ++ n3))) n in
          let k1 = faultless_second n0 (n1 ++ (n2 ++ n3)) k in
          let k2 = faultless_second n1 (n2 ++ n3) k1 in
          let stands = within_loop (entered a) (within a h) in
          let begun = inside_start start head stands.block in
          let block = in_same head inside begun.outer_is stands.block in
          let next = beside body inside block in
          let g1 = unleft (after body inside) g in
          let g2 = grows_then inside (after body inside) last next.inside.grows g1 in
          let sees = start_sees start head g2 stands.sees in (
            start_fits start head g2 stands.sees (faultless_first n0 (n1 ++ (n2 ++ n3)) k),
            option_fits test inside g2 sees (faultless_first n1 (n2 ++ n3) k1),
            option_fits step inside g2 sees (faultless_first n2 n3 k2),
            statement_fits body (in_loop w) inside g1 (record { sees = sees; block = block }) (faultless_second n2 n3 k2),
          )
      statement_fits (Switch test items at) w a g h n =
          let inner = items_nodes items (entered a) (in_switch w) in
          let parts = parts_keep (SeenStatement (Switch test items at) a w) (value_nodes test a ++ inner) n in
          let g1 = unleft (after_items items (entered a)) g in
          let g2 = grows_then a (entered a) last (grows_same a (entered a) refl refl refl) (grows_then (entered a) (after_items items (entered a)) last (inside_items items (entered a) (in_entered a)).grows g1) in (
            at_kind (promoted (kind_of test a)) test a g2 h.sees (faultless_first (value_nodes test a) inner parts),
            items_fit items (in_switch w) (entered a) typed.NoItem g1 (within a h) (faultless_second (value_nodes test a) inner parts) tt,
          )
      statement_fits (Break at) w a g h n = tt
      statement_fits (Continue at) w a g h n = tt
      statement_fits (Return value at) w a g h n = return_fits result value a g h.sees (parts_keep (SeenStatement (Return value at) a w) (option_nodes value a) n)

      pub items_fit : (items : Items ℕ) (w : Within) (a : Around) (rest : typed.Items) → Grows (after_items items a) last → Stands a → NoFault (items_nodes items a w) → FitItems last.variables functions rest → FitItems last.variables functions (typed_items result items a rest)
      items_fit NoItem w a rest g h n r = r
      items_fit (AndDeclaration front d) w a rest g h n r =
          let now = after_items front a in
          let before = grows_then now (after_declaration d now) last (declaration_grows d now) g in
          items_fit front w a (typed.WithDeclaration (typed_declaration d now) rest) before h (faultless_first (items_nodes front a w) (declaration_nodes d now) n)
          (declaration_fits d now g (stands_items front a before h).sees (faultless_second (items_nodes front a w) (declaration_nodes d now) n), r)
      items_fit (AndStatement front s) w a rest g h n r =
          let now = after_items front a in
          let next = beside s now (in_same a now (inside_items front a h.block).outer_is h.block) in
          let before = grows_then now (after s now) last next.inside.grows g in
          items_fit front w a (typed.WithStatement (typed_statement result s now) rest) before h (faultless_first (items_nodes front a w) (statement_nodes s now w) n)
          (statement_fits s w now g (stands_items front a before h) (faultless_second (items_nodes front a w) (statement_nodes s now w) n), r)
      items_fit (AndRestriction front pragma) w a rest g h n r = items_fit front w a (typed.WithRestriction pragma rest) g h n r
      items_fit (AndLabel front label) w a rest g h n r =
          items_fit front w a (typed.WithLabel (typed_label label (after_items front a)) rest) g h (faultless_first (items_nodes front a w) (label_nodes label front (after_items front a)) n) r
