-- A tree has at most as many nodes as its spelling has tokens, but for the unit's own.
use Rattle.std.proofs.Common.{◌≡◌, ℕ, ◌+◌, ◌≤◌, List, [], ◌∷◌, length, length-append, Bool, true, false, refl, arith}
use Rattle.std.specs.Prelude.{Option, Some, None}
use Rattle.c_tree.specs.declared.token.TokenKind.TheVariants as kinds
use Rattle.c_tree.specs.declared.expression.Specifier.{Specifier}
use Rattle.c_tree.specs.Size.{size, size_all, size_row, size_optional, size_shape, size_initial, size_object, size_param, size_declaration, size_label, size_start, size_statement, size_items, size_external, size_unit}
use Rattle.c_tree.specs.Formed.{IsSome, EachOf, IsFormedParam, IsFormedDeclaration, IsFormedStatement, IsFormedStart, AreFormedItems, IsFormedExternal, IsFormedUnit}
use Rattle.c_tree.specs.Spelling.{Spoken, Mark, Agree, spell, spell_all, spell_row, spell_optional, spell_specifiers, spell_shape, spell_initial, spell_object, spell_param, spell_declaration, spell_pragma, spell_label, spell_start, spell_statement, spell_items, spell_external, spell_externals, spell_unit}
use Rattle.c_tree.specs.declared.pragma.Pragma.{Pragma}
use Rattle.c_tree.specs.Tree.{Row, Nothing, Then, Expr, Number, Character, Name, Paren, Index, Call, Postfix, Prefix, Cast, Binary, Conditional, Assign, Exprs, NoExpr, AndExpr, Shape, Scalar, Unsized, Sized, Initial, Absent, Value, Listed, Object, Declared, Param, Parameter, Declaration, Objects, Prototype, Label, Case, Default, ForStart, NoStart, StartValue, StartDeclaration, Statement, Block, Empty, Evaluate, Marker, If, IfElse, While, Do, For, Switch, Break, Continue, Return, Items, NoItem, AndDeclaration, AndStatement, AndRestriction, AndLabel, External, Restriction, Declaring, Function, TranslationUnit, Whole}
use Rattle.parse_grammar.specs.Begun.{Bytes}

mutual
  nodes_expr : (t : Expr Bytes) → (size t).nodes ≤ length (spell t)
  nodes_expr (Number constant at) = omega arith
  nodes_expr (Character value at) = omega arith
  nodes_expr (Name name at) = omega arith
  nodes_expr (Paren inner at) = simp length-append (omega (arith, nodes_expr inner))
  nodes_expr (Index array index at) = simp length-append (omega (arith, nodes_expr index))
  nodes_expr (Call function arguments at) = simp length-append (omega (arith, nodes_all arguments))
  nodes_expr (Postfix operator operand at) = simp length-append (omega (arith, nodes_expr operand))
  nodes_expr (Prefix operator operand at) = omega (arith, nodes_expr operand)
  nodes_expr (Cast all operand at) = simp length-append (omega (arith, nodes_expr operand))
  nodes_expr (Binary operator left right at) = simp length-append (omega (arith, nodes_expr left, nodes_expr right))
  nodes_expr (Conditional test first second at) = simp length-append (omega (arith, nodes_expr test, nodes_expr first, nodes_expr second))
  nodes_expr (Assign operator target value at) = simp length-append (omega (arith, nodes_expr target, nodes_expr value))

  nodes_all : (ts : Exprs Bytes) → (size_all ts).nodes ≤ length (spell_all ts)
  nodes_all NoExpr = omega arith
  nodes_all (AndExpr front last) = all_more front last (nodes_all front) (nodes_expr last)

  all_more : (front : Exprs Bytes) (last : Expr Bytes) → (size_all front).nodes ≤ length (spell_all front) → (size last).nodes ≤ length (spell last) → (size_all (AndExpr front last)).nodes ≤ length (spell_all (AndExpr front last))
  all_more NoExpr last f g = omega (arith, g)
  all_more (AndExpr front middle) last f g = simp length-append (omega (arith, f, g))

nodes_optional : (value : Option (Expr Bytes)) → (size_optional value).nodes ≤ length (spell_optional value)
nodes_optional None = omega arith
nodes_optional (Some value) = nodes_expr value

nodes_shape : (shape : Shape Bytes) → (size_shape shape).nodes ≤ length (spell_shape shape)
nodes_shape Scalar = omega arith
nodes_shape Unsized = omega arith
nodes_shape (Sized value) = simp length-append (omega (arith, nodes_expr value))

nodes_initial : (value : Initial Bytes) → (size_initial value).nodes ≤ length (spell_initial value)
nodes_initial Absent = omega arith
nodes_initial (Value value) = omega (arith, nodes_expr value)
nodes_initial (Listed values comma) = simp length-append (omega (arith, nodes_all values))

nodes_object : (object : Object Bytes) → (size_object object).nodes ≤ length (spell_object object)
nodes_object (Declared name shape value at) = simp length-append (omega (arith, nodes_shape shape, nodes_initial value))

some_specifiers : (all : List Specifier) (at : ℕ) → IsSome all → 1 ≤ length (spell_specifiers all at)
some_specifiers [] at f = absurd f
some_specifiers (first ∷ others) at f = omega arith

nodes_param : (param : Param Bytes) → IsFormedParam param → (size_param param).nodes ≤ length (spell_param param)
nodes_param (Parameter all name shape at) f = simp length-append (omega (arith, some_specifiers all at f.0, nodes_shape shape))

nodes_objects : (row : Row (Object Bytes)) → (size_row size_object row).nodes ≤ length (spell_row spell_object row)
nodes_objects Nothing = omega arith
nodes_objects (Then Nothing last) = omega (arith, nodes_object last)
nodes_objects (Then (Then front middle) last) = simp length-append (omega (arith, nodes_objects (Then front middle), nodes_object last))

nodes_params : (row : Row (Param Bytes)) → EachOf IsFormedParam row → (size_row size_param row).nodes ≤ length (spell_row spell_param row)
nodes_params Nothing f = omega arith
nodes_params (Then Nothing last) f = omega (arith, nodes_param last f.1)
nodes_params (Then (Then front middle) last) f = simp length-append (omega (arith, nodes_params (Then front middle) f.0, nodes_param last f.1))

nodes_declaration : (d : Declaration Bytes) → IsFormedDeclaration d → (size_declaration d).nodes ≤ length (spell_declaration d)
nodes_declaration (Objects all objects at) f = simp length-append (omega (arith, nodes_objects objects))
nodes_declaration (Prototype all name params at) f = simp length-append (omega (arith, nodes_params params f.1))

nodes_pragma : (kind : _) (pragma : Pragma) → 1 ≤ length (spell_pragma kind pragma)
nodes_pragma kind pragma = omega arith

nodes_label : (l : Label Bytes) → (size_label l).nodes ≤ length (spell_label l)
nodes_label (Case value at) = simp length-append (omega (arith, nodes_expr value))
nodes_label (Default at) = omega arith

nodes_start : (start : ForStart Bytes) → IsFormedStart start → (size_start start).nodes ≤ length (spell_start start)
nodes_start NoStart f = omega arith
nodes_start (StartValue value) f = simp length-append (omega (arith, nodes_expr value))
nodes_start (StartDeclaration d) f = nodes_declaration d f

mutual
  nodes_statement : (s : Statement Bytes) → IsFormedStatement s → (size_statement s).nodes ≤ length (spell_statement s)
  nodes_statement (Block items at) f = simp length-append (omega (arith, nodes_items false items f))
  nodes_statement (Empty at) f = omega arith
  nodes_statement (Evaluate value at) f = simp length-append (omega (arith, nodes_expr value))
  nodes_statement (Marker pragma) f = omega arith
  nodes_statement (If test first at) f = simp length-append (omega (arith, nodes_expr test, nodes_statement first f.1))
  nodes_statement (IfElse test first second at) f = simp length-append (omega (arith, nodes_expr test, nodes_statement first f.2, nodes_statement second f.3))
  nodes_statement (While bound test body at) f = simp length-append (omega (arith, nodes_expr test, nodes_statement body f.1))
  nodes_statement (Do bound body test at) f = simp length-append (omega (arith, nodes_expr test, nodes_statement body f.1))
  nodes_statement (For bound start test last body at) f = simp length-append (omega (arith, nodes_start start f.0, nodes_optional test, nodes_optional last, nodes_statement body f.3))
  nodes_statement (Switch test items at) f = simp length-append (omega (arith, nodes_expr test, nodes_items true items f.1))
  nodes_statement (Break at) f = omega arith
  nodes_statement (Continue at) f = omega arith
  nodes_statement (Return value at) f = simp length-append (omega (arith, nodes_optional value))

  nodes_items : (labels : Bool) (items : Items Bytes) → AreFormedItems labels items → (size_items items).nodes ≤ length (spell_items items)
  nodes_items labels NoItem f = omega arith
  nodes_items labels (AndDeclaration front d) f = simp length-append (omega (arith, nodes_items labels front f.0, nodes_declaration d f.1))
  nodes_items labels (AndStatement front s) f = simp length-append (omega (arith, nodes_items labels front f.0, nodes_statement s f.1))
  nodes_items labels (AndRestriction front pragma) f = simp length-append (omega (arith, nodes_items labels front f, nodes_pragma kinds.FlowRestriction pragma))
  nodes_items labels (AndLabel front l) f = simp length-append (omega (arith, nodes_items labels front f.0, nodes_label l))

nodes_external : (e : External Bytes) → IsFormedExternal e → (size_external e).nodes ≤ length (spell_external e)
nodes_external (Restriction pragma) f = nodes_pragma kinds.FlowRestriction pragma
nodes_external (Declaring d) f = nodes_declaration d f
nodes_external (Function all name name_at params body body_at at) f = simp length-append (omega (arith, nodes_params params f.1, nodes_items false body f.2))

nodes_externals : (row : Row (External Bytes)) → EachOf IsFormedExternal row → (size_row size_external row).nodes ≤ length (spell_externals row)
nodes_externals Nothing f = omega arith
nodes_externals (Then front last) f = simp length-append (omega (arith, nodes_externals front f.0, nodes_external last f.1))

agree_length : (ms : List Mark) (ts : List Spoken) → Agree ms ts → length ms ≡ length ts
agree_length [] [] g = refl
agree_length [] (t ∷ ts) g = absurd g
agree_length (m ∷ ms) [] g = absurd g
agree_length (m ∷ ms) (t ∷ ts) g = omega (arith, agree_length ms ts g.1)

-- at most one node more than there are tokens
pub nodes_unit : (unit : TranslationUnit Bytes) (tokens : List Spoken) → IsFormedUnit unit → Agree (spell_unit unit) tokens → (size_unit unit).nodes ≤ length tokens + 1
nodes_unit (Whole items at) tokens f g = omega (arith, nodes_externals items f.1, agree_length (spell_externals items) tokens g)
