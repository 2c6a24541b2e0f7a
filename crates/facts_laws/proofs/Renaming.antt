-- A tree whose names are replaced, and then put back, is as it was.
use Rattle.std.proofs.Common.{◌≡◌, ℕ, List, refl, ap}
use Rattle.std.specs.Prelude.{Option, Some, None}
use Rattle.std.proofs.Math.Path.{ap₂}
use Rattle.c_tree.specs.declared.pragma.Pragma.{Pragma}
use Rattle.c_tree.specs.Formed.{EachOf}
use Rattle.c_tree.specs.Holding.{Holds, HoldsAll, OfSome, HoldsShape, HoldsInitial, HoldsObject, HoldsParam, HoldsDeclaration, HoldsLabel, HoldsStart, HoldsStatement, HoldsItems, HoldsExternal, HoldsUnit}
use Rattle.c_tree.specs.Named.{named, named_all, named_shape, named_initial, named_object, named_param, named_declaration, named_label, named_start, named_statement, named_items, named_external, named_unit, map_row, map_option}
use Rattle.c_tree.specs.Tree.{Row, Nothing, Then, Expr, Number, Character, Name, Paren, Index, Call, Postfix, Prefix, Cast, Binary, Conditional, Assign, Exprs, NoExpr, AndExpr, Shape, Scalar, Unsized, Sized, Initial, Absent, Value, Listed, Object, Declared, Param, Parameter, Declaration, Objects, Prototype, Label, Case, Default, ForStart, NoStart, StartValue, StartDeclaration, Statement, Block, Empty, Evaluate, Marker, If, IfElse, While, Do, For, Switch, Break, Continue, Return, Items, NoItem, AndDeclaration, AndStatement, AndRestriction, AndLabel, External, Restriction, Declaring, Function, TranslationUnit, Whole}

ap₃ : {A B C D : Type 0} (k : A → B → C → D) {a a' : A} {b b' : B} {c c' : C} → a ≡ a' → b ≡ b' → c ≡ c' → k a b c ≡ k a' b' c'
ap₃ {C = C} {D = D} k p q r = ap₂ (λ (f : C → D) c. f c) (ap₂ k p q) r

ap₄ : {A B C D E : Type 0} (k : A → B → C → D → E) {a a' : A} {b b' : B} {c c' : C} {d d' : D} → a ≡ a' → b ≡ b' → c ≡ c' → d ≡ d' → k a b c d ≡ k a' b' c' d'
ap₄ {D = D} {E = E} k p q r s = ap₂ (λ (f : D → E) d. f d) (ap₃ k p q r) s

row_back : {A B : Type 0} (there : A → B) (here : B → A) (R : A → Type 0) → ((a : A) → R a → here (there a) ≡ a) → (row : Row A) → EachOf R row → map_row here (map_row there row) ≡ row
row_back there here R back Nothing h = refl
row_back there here R back (Then front last) h = ap₂ (λ f l. Then f l) (row_back there here R back front h.0) (back last h.1)

option_back : {A B : Type 0} (there : A → B) (here : B → A) (R : A → Type 0) → ((a : A) → R a → here (there a) ≡ a) → (option : Option A) → OfSome R option → map_option here (map_option there option) ≡ option
option_back there here R back None h = refl
option_back there here R back (Some a) h = ap (λ x. Some x) (back a h)

module _ (f : ℕ → List ℕ) (g : List ℕ → ℕ) (P : ℕ → Type 0) (Q : Pragma → Type 0) (back : (n : ℕ) → P n → g (f n) ≡ n) where
  mutual
    expr_back : (e : Expr ℕ) → Holds P e → named g (named f e) ≡ e
    expr_back (Number constant at) h = refl
    expr_back (Character value at) h = refl
    expr_back (Name name at) h = ap (λ n. Name n at) (back name h)
    expr_back (Paren inner at) h = ap (λ i. Paren i at) (expr_back inner h)
    expr_back (Index array index at) h = ap₂ (λ a i. Index a i at) (back array h.0) (expr_back index h.1)
    expr_back (Call function arguments at) h = ap₂ (λ n es. Call n es at) (back function h.0) (exprs_back arguments h.1)
    expr_back (Postfix operator operand at) h = ap (λ o. Postfix operator o at) (expr_back operand h)
    expr_back (Prefix operator operand at) h = ap (λ o. Prefix operator o at) (expr_back operand h)
    expr_back (Cast specifiers operand at) h = ap (λ o. Cast specifiers o at) (expr_back operand h)
    expr_back (Binary operator left right at) h = ap₂ (λ l r. Binary operator l r at) (expr_back left h.0) (expr_back right h.1)
    expr_back (Conditional test first second at) h = ap₃ (λ t a b. Conditional t a b at) (expr_back test h.0) (expr_back first h.1) (expr_back second h.2)
    expr_back (Assign operator target value at) h = ap₂ (λ t v. Assign operator t v at) (expr_back target h.0) (expr_back value h.1)

    exprs_back : (es : Exprs ℕ) → HoldsAll P es → named_all g (named_all f es) ≡ es
    exprs_back NoExpr h = refl
    exprs_back (AndExpr front last) h = ap₂ (λ es e. AndExpr es e) (exprs_back front h.0) (expr_back last h.1)

  optional_back : (value : Option (Expr ℕ)) → OfSome (Holds P) value → map_option (named g) (map_option (named f) value) ≡ value
  optional_back value h = option_back (named f) (named g) (Holds P) expr_back value h

  shape_back : (shape : Shape ℕ) → HoldsShape P shape → named_shape g (named_shape f shape) ≡ shape
  shape_back Scalar h = refl
  shape_back Unsized h = refl
  shape_back (Sized size) h = ap (λ s. Sized s) (expr_back size h)

  initial_back : (initial : Initial ℕ) → HoldsInitial P initial → named_initial g (named_initial f initial) ≡ initial
  initial_back Absent h = refl
  initial_back (Value value) h = ap (λ v. Value v) (expr_back value h)
  initial_back (Listed values comma) h = ap (λ vs. Listed vs comma) (exprs_back values h)

  object_back : (object : Object ℕ) → HoldsObject P object → named_object g (named_object f object) ≡ object
  object_back (Declared name shape initial at) h = ap₃ (λ n s i. Declared n s i at) (back name h.0) (shape_back shape h.1) (initial_back initial h.2)

  param_back : (param : Param ℕ) → HoldsParam P param → named_param g (named_param f param) ≡ param
  param_back (Parameter specifiers name shape at) h =
      ap₂ (λ n s. Parameter specifiers n s at) (option_back f g P back name h.0) (shape_back shape h.1)

  params_back : (params : Row (Param ℕ)) → EachOf (HoldsParam P) params → map_row (named_param g) (map_row (named_param f) params) ≡ params
  params_back params h = row_back (named_param f) (named_param g) (HoldsParam P) param_back params h

  declaration_back : (declaration : Declaration ℕ) → HoldsDeclaration P declaration → named_declaration g (named_declaration f declaration) ≡ declaration
  declaration_back (Objects specifiers objects at) h =
      ap (λ os. Objects specifiers os at) (row_back (named_object f) (named_object g) (HoldsObject P) object_back objects h)
  declaration_back (Prototype specifiers name params at) h = ap₂ (λ n ps. Prototype specifiers n ps at) (back name h.0) (params_back params h.1)

  label_back : (label : Label ℕ) → HoldsLabel P label → named_label g (named_label f label) ≡ label
  label_back (Case value at) h = ap (λ v. Case v at) (expr_back value h)
  label_back (Default at) h = refl

  start_back : (start : ForStart ℕ) → HoldsStart P start → named_start g (named_start f start) ≡ start
  start_back NoStart h = refl
  start_back (StartValue value) h = ap (λ v. StartValue v) (expr_back value h)
  start_back (StartDeclaration declaration) h = ap (λ d. StartDeclaration d) (declaration_back declaration h)

  mutual
    statement_back : (s : Statement ℕ) → HoldsStatement P Q s → named_statement g (named_statement f s) ≡ s
    statement_back (Block items at) h = ap (λ is. Block is at) (items_back items h)
    statement_back (Empty at) h = refl
    statement_back (Evaluate value at) h = ap (λ v. Evaluate v at) (expr_back value h)
    statement_back (Marker pragma) h = refl
    statement_back (If test first at) h = ap₂ (λ t s. If t s at) (expr_back test h.0) (statement_back first h.1)
    statement_back (IfElse test first second at) h =
        ap₃ (λ t a b. IfElse t a b at) (expr_back test h.0) (statement_back first h.1) (statement_back second h.2)
    statement_back (While bound test body at) h = ap₂ (λ t s. While bound t s at) (expr_back test h.0) (statement_back body h.1)
    statement_back (Do bound body test at) h = ap₂ (λ s t. Do bound s t at) (statement_back body h.0) (expr_back test h.1)
    statement_back (For bound start test step body at) h =
        ap₄ (λ a b c d. For bound a b c d at) (start_back start h.0) (optional_back test h.1) (optional_back step h.2) (statement_back body h.3)
    statement_back (Switch test items at) h = ap₂ (λ t is. Switch t is at) (expr_back test h.0) (items_back items h.1)
    statement_back (Break at) h = refl
    statement_back (Continue at) h = refl
    statement_back (Return value at) h = ap (λ v. Return v at) (optional_back value h)

    items_back : (items : Items ℕ) → HoldsItems P Q items → named_items g (named_items f items) ≡ items
    items_back NoItem h = refl
    items_back (AndDeclaration front declaration) h = ap₂ (λ is d. AndDeclaration is d) (items_back front h.0) (declaration_back declaration h.1)
    items_back (AndStatement front statement) h = ap₂ (λ is s. AndStatement is s) (items_back front h.0) (statement_back statement h.1)
    items_back (AndRestriction front pragma) h = ap (λ is. AndRestriction is pragma) (items_back front h.0)
    items_back (AndLabel front label) h = ap₂ (λ is l. AndLabel is l) (items_back front h.0) (label_back label h.1)

  external_back : (external : External ℕ) → HoldsExternal P Q external → named_external g (named_external f external) ≡ external
  external_back (Restriction pragma) h = refl
  external_back (Declaring declaration) h = ap (λ d. Declaring d) (declaration_back declaration h)
  external_back (Function specifiers name name_at params body body_at at) h =
      ap₃ (λ n ps b. Function specifiers n name_at ps b body_at at) (back name h.0) (params_back params h.1) (items_back body h.2)

  pub unit_back : (unit : TranslationUnit ℕ) → HoldsUnit P Q unit → named_unit g (named_unit f unit) ≡ unit
  unit_back (Whole items at) h = ap (λ is. Whole is at) (row_back (named_external f) (named_external g) (HoldsExternal P Q) external_back items h)
