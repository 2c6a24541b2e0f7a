-- Other names change no size.
use Rattle.std.proofs.Common.{◌≡◌, refl, ap, ◌∙◌}
use Rattle.std.specs.Prelude.{Option, Some, None}
use Rattle.c_tree.specs.declared.size.Size.{Size}
use Rattle.c_tree.specs.Named.{named, named_all, named_shape, named_initial, named_object, named_param, named_declaration, named_label, named_start, named_statement, named_items, named_external, map_row, map_option}
use Rattle.c_tree.specs.Size.{beside, over, size, size_all, size_row, size_optional, size_shape, size_initial, size_object, size_param, size_declaration, size_label, size_start, size_statement, size_items, size_external}
use Rattle.c_tree.specs.Tree.{Row, Nothing, Then, Expr, Number, Character, Name, Paren, Index, Call, Postfix, Prefix, Cast, Binary, Conditional, Assign, Exprs, NoExpr, AndExpr, Shape, Scalar, Unsized, Sized, Initial, Absent, Value, Listed, Object, Declared, Param, Parameter, Declaration, Objects, Prototype, Label, Case, Default, ForStart, NoStart, StartValue, StartDeclaration, Statement, Block, Empty, Evaluate, Marker, If, IfElse, While, Do, For, Switch, Break, Continue, Return, Items, NoItem, AndDeclaration, AndStatement, AndRestriction, AndLabel, External, Restriction, Declaring, Function}

both : (a b c d : Size) → a ≡ b → c ≡ d → beside a c ≡ beside b d
both a b c d e g = ap (λ s. beside s c) e ∙ ap (beside b) g

mutual
  pub size_named : {M N : Type 0} (f : M → N) (t : Expr M) → size (named f t) ≡ size t
  size_named f (Number constant at) = refl
  size_named f (Character value at) = refl
  size_named f (Name name at) = refl
  size_named f (Paren inner at) = ap over (size_named f inner)
  size_named f (Index array index at) = ap over (size_named f index)
  size_named f (Call function arguments at) = ap over (size_all_named f arguments)
  size_named f (Postfix operator operand at) = ap over (size_named f operand)
  size_named f (Prefix operator operand at) = ap over (size_named f operand)
  size_named f (Cast specifiers operand at) = ap over (size_named f operand)
  size_named f (Binary operator left right at) = ap over (both _ _ _ _ (size_named f left) (size_named f right))
  size_named f (Conditional test first second at) = ap over (both _ _ _ _ (both _ _ _ _ (size_named f test) (size_named f first)) (size_named f second))
  size_named f (Assign operator target value at) = ap over (both _ _ _ _ (size_named f target) (size_named f value))

  pub size_all_named : {M N : Type 0} (f : M → N) (ts : Exprs M) → size_all (named_all f ts) ≡ size_all ts
  size_all_named f NoExpr = refl
  size_all_named f (AndExpr front last) = both _ _ _ _ (size_all_named f front) (size_named f last)

pub size_row_named : {A B : Type 0} (g : A → B) (s : A → Size) (t : B → Size) → ((x : A) → t (g x) ≡ s x) → (row : Row A) → size_row t (map_row g row) ≡ size_row s row
size_row_named g s t h Nothing = refl
size_row_named g s t h (Then front last) = both _ _ _ _ (size_row_named g s t h front) (h last)

pub size_optional_named : {M N : Type 0} (f : M → N) (t : Option (Expr M)) → size_optional (map_option (named f) t) ≡ size_optional t
size_optional_named f None = refl
size_optional_named f (Some t) = size_named f t

pub size_shape_named : {M N : Type 0} (f : M → N) (shape : Shape M) → size_shape (named_shape f shape) ≡ size_shape shape
size_shape_named f Scalar = refl
size_shape_named f Unsized = refl
size_shape_named f (Sized t) = size_named f t

size_initial_named : {M N : Type 0} (f : M → N) (initial : Initial M) → size_initial (named_initial f initial) ≡ size_initial initial
size_initial_named f Absent = refl
size_initial_named f (Value t) = size_named f t
size_initial_named f (Listed ts comma) = size_all_named f ts

pub size_object_named : {M N : Type 0} (f : M → N) (object : Object M) → size_object (named_object f object) ≡ size_object object
size_object_named f (Declared name shape initial at) = ap over (both _ _ _ _ (size_shape_named f shape) (size_initial_named f initial))

pub size_param_named : {M N : Type 0} (f : M → N) (param : Param M) → size_param (named_param f param) ≡ size_param param
size_param_named f (Parameter specifiers name shape at) = ap over (size_shape_named f shape)

pub size_objects_named : {M N : Type 0} (f : M → N) (row : Row (Object M)) → size_row size_object (map_row (named_object f) row) ≡ size_row size_object row
size_objects_named f row = size_row_named (named_object f) size_object size_object (size_object_named f) row

pub size_params_named : {M N : Type 0} (f : M → N) (row : Row (Param M)) → size_row size_param (map_row (named_param f) row) ≡ size_row size_param row
size_params_named f row = size_row_named (named_param f) size_param size_param (size_param_named f) row

pub size_declaration_named : {M N : Type 0} (f : M → N) (declaration : Declaration M) → size_declaration (named_declaration f declaration) ≡ size_declaration declaration
size_declaration_named f (Objects specifiers objects at) = ap over (size_objects_named f objects)
size_declaration_named f (Prototype specifiers name params at) = ap over (size_params_named f params)

size_label_named : {M N : Type 0} (f : M → N) (label : Label M) → size_label (named_label f label) ≡ size_label label
size_label_named f (Case value at) = ap over (size_named f value)
size_label_named f (Default at) = refl

pub size_start_named : {M N : Type 0} (f : M → N) (start : ForStart M) → size_start (named_start f start) ≡ size_start start
size_start_named f NoStart = refl
size_start_named f (StartValue t) = size_named f t
size_start_named f (StartDeclaration declaration) = size_declaration_named f declaration

mutual
  pub size_statement_named : {M N : Type 0} (f : M → N) (s : Statement M) → size_statement (named_statement f s) ≡ size_statement s
  size_statement_named f (Block items at) = ap over (size_items_named f items)
  size_statement_named f (Empty at) = refl
  size_statement_named f (Evaluate value at) = ap over (size_named f value)
  size_statement_named f (Marker pragma) = refl
  size_statement_named f (If test first at) = ap over (both _ _ _ _ (size_named f test) (size_statement_named f first))
  size_statement_named f (IfElse test first second at) = ap over (both _ _ _ _ (both _ _ _ _ (size_named f test) (size_statement_named f first)) (size_statement_named f second))
  size_statement_named f (While bound test body at) = ap over (both _ _ _ _ (size_named f test) (size_statement_named f body))
  size_statement_named f (Do bound body test at) = ap over (both _ _ _ _ (size_statement_named f body) (size_named f test))
  size_statement_named f (For bound start test step body at) = ap over (both _ _ _ _ (both _ _ _ _ (both _ _ _ _ (size_start_named f start) (size_optional_named f test)) (size_optional_named f step)) (size_statement_named f body))
  size_statement_named f (Switch test items at) = ap over (both _ _ _ _ (size_named f test) (size_items_named f items))
  size_statement_named f (Break at) = refl
  size_statement_named f (Continue at) = refl
  size_statement_named f (Return value at) = ap over (size_optional_named f value)

  pub size_items_named : {M N : Type 0} (f : M → N) (items : Items M) → size_items (named_items f items) ≡ size_items items
  size_items_named f NoItem = refl
  size_items_named f (AndDeclaration front declaration) = both _ _ _ _ (size_items_named f front) (size_declaration_named f declaration)
  size_items_named f (AndStatement front statement) = both _ _ _ _ (size_items_named f front) (size_statement_named f statement)
  size_items_named f (AndRestriction front pragma) = both _ _ _ _ (size_items_named f front) refl
  size_items_named f (AndLabel front label) = both _ _ _ _ (size_items_named f front) (size_label_named f label)

pub size_external_named : {M N : Type 0} (f : M → N) (external : External M) → size_external (named_external f external) ≡ size_external external
size_external_named f (Restriction pragma) = refl
size_external_named f (Declaring declaration) = size_declaration_named f declaration
size_external_named f (Function specifiers name name_at params body body_at at) = ap over (both _ _ _ _ (size_params_named f params) (ap over (size_items_named f body)))

pub size_externals_named : {M N : Type 0} (f : M → N) (row : Row (External M)) → size_row size_external (map_row (named_external f) row) ≡ size_row size_external row
size_externals_named f row = size_row_named (named_external f) size_external size_external (size_external_named f) row
