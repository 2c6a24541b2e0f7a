-- A tree whose spelling's constants are words is one whose constants are words.
use Rattle.std.proofs.Common.{ℕ, List, [], ◌∷◌, ◌++◌, map, Option, Some, None}
use Rattle.c_tree.specs.Named.{map_option, map_row, named, named_all, named_declaration, named_external, named_initial, named_items, named_label, named_object, named_param, named_shape, named_start, named_statement, named_unit}
use Rattle.c_tree.specs.Said as lexemes
use Rattle.c_tree.specs.Spelling.{Kept, Mark, assign_kind, binary_kind, free, free_specifier, kept, postfix_kind, spell, spell_all, spell_bound, spell_comma, spell_declaration, spell_external, spell_externals, spell_initial, spell_items, spell_label, spell_object, spell_optional, spell_param, spell_pragma, spell_row, spell_shape, spell_specifiers, spell_start, spell_statement, spell_test, spell_unit}
use Rattle.c_tree.specs.Tree.{Row, Nothing, Then, Expr, Number, Character, Name, Paren, Index, Call, Postfix, Prefix, Cast, Binary, Conditional, Assign, Exprs, NoExpr, AndExpr, Initial, Absent, Value, Listed, Object, Declared, Declaration, Objects, Prototype, Label, Case, Default, ForStart, NoStart, StartValue, StartDeclaration, Statement, Block, Empty, Evaluate, Marker, If, IfElse, While, Do, For, Switch, Break, Continue, Return, Items, NoItem, AndDeclaration, AndStatement, AndRestriction, AndLabel, External, Restriction, Declaring, Function, TranslationUnit, Whole}
use Rattle.c_tree.specs.declared.token.TokenKind.TheVariants as kinds
use Rattle.compile_high_law.specs.Spelled.{MarksWords}
use Rattle.compile_high_law.specs.Trees.{DeclarationTree, ExternalTree, InitialTree, ItemsTree, LabelTree, ObjectTree, OptionTree, RowTree, StartTree, StatementTree, TreeWords, TreesWords, UnitTree}

-- parts of a spelling
front : (xs ys : List Mark) → MarksWords (xs ++ ys) → MarksWords xs
front [] ys h = tt
front (x ∷ xs) ys h = (h.0, front xs ys h.1)

behind : (xs ys : List Mark) → MarksWords (xs ++ ys) → MarksWords ys
behind [] ys h = h
behind (x ∷ xs) ys h = behind xs ys h.1

-- whatever bytes its names have
module _ (f : ℕ → List ℕ) where
  mutual
    expr_tree : (e : Expr ℕ) → MarksWords (spell (named f e)) → TreeWords e
    expr_tree (Number constant at) h = h.0
    expr_tree (Character value at) h = h.0
    expr_tree (Name name at) h = tt
    expr_tree (Paren inner at) h = expr_tree inner (front (spell (named f inner)) (free kinds.RightParen ∷ []) h.1)
    expr_tree (Index array index at) h = expr_tree index (front (spell (named f index)) (free kinds.RightBracket ∷ []) h.1.1)
    expr_tree (Call function arguments at) h = exprs_tree arguments (front (spell_all (named_all f arguments)) (free kinds.RightParen ∷ []) h.1.1)
    expr_tree (Postfix operator operand at) h = expr_tree operand (front (spell (named f operand)) (free (postfix_kind operator) ∷ []) h)
    expr_tree (Prefix operator operand at) h = expr_tree operand h.1
    expr_tree (Cast specifiers operand at) h = expr_tree operand (behind (map free_specifier specifiers) (free kinds.RightParen ∷ spell (named f operand)) h.1).1
    expr_tree (Binary operator left right at) h =
        let x = spell (named f left) in
        let y = free (binary_kind operator) ∷ spell (named f right) in
        (expr_tree left (front x y h), expr_tree right (behind x y h).1)
    expr_tree (Conditional test first second at) h =
        let x = spell (named f test) in
        let y = spell (named f first) in
        let z = free kinds.Colon ∷ spell (named f second) in
        let rest = (behind x (free kinds.Question ∷ (y ++ z)) h).1 in
        (expr_tree test (front x (free kinds.Question ∷ (y ++ z)) h), expr_tree first (front y z rest), expr_tree second (behind y z rest).1)
    expr_tree (Assign operator target value at) h =
        let x = spell (named f target) in
        let y = free (assign_kind operator) ∷ spell (named f value) in
        (expr_tree target (front x y h), expr_tree value (behind x y h).1)

    exprs_tree : (es : Exprs ℕ) → MarksWords (spell_all (named_all f es)) → TreesWords es
    exprs_tree NoExpr h = tt
    exprs_tree (AndExpr NoExpr last) h = (tt, expr_tree last h)
    exprs_tree (AndExpr (AndExpr first middle) last) h =
        let x = spell_all (named_all f (AndExpr first middle)) in
        let y = free kinds.Comma ∷ spell (named f last) in
        (exprs_tree (AndExpr first middle) (front x y h), expr_tree last (behind x y h).1)

  option_tree : (e : Option (Expr ℕ)) → MarksWords (spell_optional (map_option (named f) e)) → OptionTree e
  option_tree None h = tt
  option_tree (Some e) h = expr_tree e h

  initial_tree : (initial : Initial ℕ) → MarksWords (spell_initial (named_initial f initial)) → InitialTree initial
  initial_tree Absent h = tt
  initial_tree (Value value) h = expr_tree value h.1
  initial_tree (Listed values comma) h = exprs_tree values (front (spell_all (named_all f values)) (spell_comma comma ++ free kinds.RightBrace ∷ []) h.1.1)

  object_tree : (object : Object ℕ) → MarksWords (spell_object (named_object f object)) → ObjectTree object
  object_tree (Declared name shape initial at) h = initial_tree initial (behind (spell_shape (named_shape f shape)) (spell_initial (named_initial f initial)) h.1)

  objects_tree : (objects : Row (Object ℕ)) → MarksWords (spell_row spell_object (map_row (named_object f) objects)) → RowTree ObjectTree objects
  objects_tree Nothing h = tt
  objects_tree (Then Nothing last) h = (tt, object_tree last h)
  objects_tree (Then (Then first middle) last) h =
      let x = spell_row spell_object (map_row (named_object f) (Then first middle)) in
      let y = free kinds.Comma ∷ spell_object (named_object f last) in
      (objects_tree (Then first middle) (front x y h), object_tree last (behind x y h).1)

  declaration_tree : (declaration : Declaration ℕ) → MarksWords (spell_declaration (named_declaration f declaration)) → DeclarationTree declaration
  declaration_tree (Objects specifiers objects at) h =
      let x = spell_row spell_object (map_row (named_object f) objects) in
      let y = free kinds.Semicolon ∷ [] in
      objects_tree objects (front x y (behind (spell_specifiers specifiers at) (x ++ y) h))
  declaration_tree (Prototype specifiers name params at) h = tt

  label_tree : (label : Label ℕ) → MarksWords (spell_label (named_label f label)) → LabelTree label
  label_tree (Case value at) h = expr_tree value (front (spell (named f value)) (free kinds.Colon ∷ []) h.1)
  label_tree (Default at) h = tt

  start_tree : (start : ForStart ℕ) → MarksWords (spell_start (named_start f start)) → StartTree start
  start_tree NoStart h = tt
  start_tree (StartValue value) h = expr_tree value (front (spell (named f value)) (free kinds.Semicolon ∷ []) h)
  start_tree (StartDeclaration declaration) h = declaration_tree declaration h

  test_tree : (test : Expr ℕ) (rest : List Mark) → MarksWords (spell_test (named f test) rest) → TreeWords test
  test_tree test rest h = expr_tree test (front (spell (named f test)) (free kinds.RightParen ∷ rest) h.1)

  after_test : (test : Expr ℕ) (rest : List Mark) → MarksWords (spell_test (named f test) rest) → MarksWords rest
  after_test test rest h = (behind (spell (named f test)) (free kinds.RightParen ∷ rest) h.1).1

  mutual
    statement_tree : (s : Statement ℕ) → MarksWords (spell_statement (named_statement f s)) → StatementTree s
    statement_tree (Block items at) h = items_tree items (front (spell_items (named_items f items)) (free kinds.RightBrace ∷ []) h.1)
    statement_tree (Empty at) h = tt
    statement_tree (Evaluate value at) h = expr_tree value (front (spell (named f value)) (free kinds.Semicolon ∷ []) h)
    statement_tree (Marker pragma) h = tt
    statement_tree (If test first at) h =
        let x = spell_statement (named_statement f first) in
        (test_tree test x h.1, statement_tree first (after_test test x h.1))
    statement_tree (IfElse test first second at) h =
        let x = spell_statement (named_statement f first) in
        let y = free kinds.Else ∷ spell_statement (named_statement f second) in
        let rest = after_test test (x ++ y) h.1 in
        (test_tree test (x ++ y) h.1, statement_tree first (front x y rest), statement_tree second (behind x y rest).1)
    statement_tree (While bound test body at) h =
        let x = spell_statement (named_statement f body) in
        let rest = (behind (spell_bound bound) (kept kinds.While at ∷ spell_test (named f test) x) h).1 in
        (test_tree test x rest, statement_tree body (after_test test x rest))
    statement_tree (Do bound body test at) h =
        let x = spell_statement (named_statement f body) in
        let y = free kinds.While ∷ spell_test (named f test) (free kinds.Semicolon ∷ []) in
        let rest = (behind (spell_bound bound) (kept kinds.Do at ∷ (x ++ y)) h).1 in
        (statement_tree body (front x y rest), test_tree test (free kinds.Semicolon ∷ []) (behind x y rest).1)
    statement_tree (For bound start test step body at) h =
        let s = spell_start (named_start f start) in
        let t = spell_optional (map_option (named f) test) in
        let u = spell_optional (map_option (named f) step) in
        let last = free kinds.RightParen ∷ spell_statement (named_statement f body) in
        let more = free kinds.Semicolon ∷ (u ++ last) in
        let all = (behind (spell_bound bound) (kept kinds.For at ∷ free kinds.LeftParen ∷ (s ++ (t ++ more))) h).1.1 in
        let tests = behind s (t ++ more) all in
        let steps = (behind t more tests).1 in
        (start_tree start (front s (t ++ more) all), option_tree test (front t more tests), option_tree step (front u last steps), statement_tree body (behind u last steps).1)
    statement_tree (Switch test items at) h =
        let x = spell_items (named_items f items) in
        let rest = free kinds.LeftBrace ∷ (x ++ free kinds.RightBrace ∷ []) in
        (test_tree test rest h.1, items_tree items (front x (free kinds.RightBrace ∷ []) (after_test test rest h.1).1))
    statement_tree (Break at) h = tt
    statement_tree (Continue at) h = tt
    statement_tree (Return value at) h = option_tree value (front (spell_optional (map_option (named f) value)) (free kinds.Semicolon ∷ []) h.1)

    items_tree : (items : Items ℕ) → MarksWords (spell_items (named_items f items)) → ItemsTree items
    items_tree NoItem h = tt
    items_tree (AndDeclaration first declaration) h =
        let x = spell_items (named_items f first) in
        let y = spell_declaration (named_declaration f declaration) in
        (items_tree first (front x y h), declaration_tree declaration (behind x y h))
    items_tree (AndStatement first statement) h =
        let x = spell_items (named_items f first) in
        let y = spell_statement (named_statement f statement) in
        (items_tree first (front x y h), statement_tree statement (behind x y h))
    items_tree (AndRestriction first pragma) h = items_tree first (front (spell_items (named_items f first)) (spell_pragma kinds.FlowRestriction pragma) h)
    items_tree (AndLabel first label) h =
        let x = spell_items (named_items f first) in
        let y = spell_label (named_label f label) in
        (items_tree first (front x y h), label_tree label (behind x y h))

  external_tree : (x : External ℕ) → MarksWords (spell_external (named_external f x)) → ExternalTree x
  external_tree (Restriction pragma) h = tt
  external_tree (Declaring declaration) h = declaration_tree declaration h
  external_tree (Function specifiers name name_at params body body_at at) h =
      let given = spell_row spell_param (map_row (named_param f) params) in
      let block = spell_statement (named_statement f (Block body body_at)) in
      let named_part = Kept (lexemes.Name (f name)) name_at ∷ free kinds.LeftParen ∷ (given ++ free kinds.RightParen ∷ block) in
      statement_tree (Block body body_at) (behind given (free kinds.RightParen ∷ block) (behind (spell_specifiers specifiers at) named_part h).1.1).1

  externals_tree : (items : Row (External ℕ)) → MarksWords (spell_externals (map_row (named_external f) items)) → RowTree ExternalTree items
  externals_tree Nothing h = tt
  externals_tree (Then first last) h =
      let x = spell_externals (map_row (named_external f) first) in
      let y = spell_external (named_external f last) in
      (externals_tree first (front x y h), external_tree last (behind x y h))

  pub unit_tree : (unit : TranslationUnit ℕ) → MarksWords (spell_unit (named_unit f unit)) → UnitTree unit
  unit_tree (Whole items at) h = externals_tree items h
