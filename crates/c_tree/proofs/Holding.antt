-- What holds of what the tokens of a spelling say holds of the tree.
use Rattle.std.proofs.Common.{◌≡◌, ℕ, List, [], ◌∷◌, ◌++◌, map, ap, refl, subst, ◌∙◌}
use Rattle.std.specs.Prelude.{Option, Some, None}
use Rattle.c_tree.specs.declared.token.TokenKind.TheVariants as kinds
use Rattle.c_tree.specs.declared.pragma.Pragma as pragmas
use Rattle.c_tree.specs.Formed.{EachOf}
use Rattle.c_tree.specs.Holding.{Holds, HoldsAll, OfSome, HoldsShape, HoldsInitial, HoldsObject, HoldsParam, HoldsDeclaration, HoldsLabel, HoldsStart, HoldsStatement, HoldsItems, HoldsExternal}
use Rattle.c_tree.specs.Named.{named, named_all, named_shape, named_initial, named_object, named_param, named_declaration, named_label, named_start, named_statement, named_items, named_external, map_row, map_option}
use Rattle.c_tree.specs.Said as lexemes
use Rattle.c_tree.specs.Said.{Lexeme}
use Rattle.c_tree.specs.Spelling.{Spoken, Mark, Kept, Free, Fits, Agree, mark_said, free, kept, free_specifier, postfix_kind, binary_kind, assign_kind, spell, spell_all, spell_row, spell_optional, spell_specifiers, spell_shape, spell_comma, spell_initial, spell_object, spell_name, spell_param, spell_declaration, spell_pragma, spell_bound, spell_label, spell_start, spell_test, spell_statement, spell_items, spell_external, spell_externals}
use Rattle.c_tree.specs.Tree.{Row, Nothing, Then, Expr, Number, Character, Name, Paren, Index, Call, Postfix, Prefix, Cast, Binary, Conditional, Assign, Exprs, NoExpr, AndExpr, Shape, Scalar, Unsized, Sized, Initial, Absent, Value, Listed, Object, Declared, Param, Parameter, Declaration, Objects, Prototype, Label, Case, Default, ForStart, NoStart, StartValue, StartDeclaration, Statement, Block, Empty, Evaluate, Marker, If, IfElse, While, Do, For, Switch, Break, Continue, Return, Items, NoItem, AndDeclaration, AndStatement, AndRestriction, AndLabel, External, Restriction, Declaring, Function}

-- a name is P, the text of a marker or restriction is Q
abbrev pub Meets : (P Q : List ℕ → Type 0) → Lexeme → Type 0
Meets P Q (lexemes.Name bytes) = P bytes
Meets P Q (lexemes.Pragma kinds.Marker text) = Q text
Meets P Q (lexemes.Pragma kinds.FlowRestriction text) = Q text
Meets P Q _ = Unit {0}

abbrev pub EachMark : (Lexeme → Type 0) → List Mark → Type 0
EachMark R [] = Unit {0}
EachMark R (m ∷ ms) = R (mark_said m) × EachMark R ms

abbrev pub EachSpoken : (Lexeme → Type 0) → List Spoken → Type 0
EachSpoken R [] = Unit {0}
EachSpoken R (t ∷ ts) = R t.said × EachSpoken R ts

pub said_fits : (m : Mark) (t : Spoken) → Fits m t → t.said ≡ mark_said m
said_fits (Kept said at) t e = ap (λ s. s.said) e
said_fits (Free said) t e = e

-- tokens say what their spelling says
pub said_agree : (ms : List Mark) (ts : List Spoken) → Agree ms ts → map (λ t. t.said) ts ≡ map mark_said ms
said_agree [] [] a = refl
said_agree [] (t ∷ ts) a = absurd a
said_agree (m ∷ ms) [] a = absurd a
said_agree (m ∷ ms) (t ∷ ts) a = ap (λ said. said ∷ map (λ t. t.said) ts) (said_fits m t a.0) ∙ ap (λ rest. mark_said m ∷ rest) (said_agree ms ts a.1)

pub marks_agree : (R : Lexeme → Type 0) (ms : List Mark) (ts : List Spoken) → Agree ms ts → EachSpoken R ts → EachMark R ms
marks_agree R [] ts a h = tt
marks_agree R (m ∷ ms) [] a h = absurd a
marks_agree R (m ∷ ms) (t ∷ ts) a h = (subst R (said_fits m t a.0) h.0, marks_agree R ms ts a.1 h.1)

front : (R : Lexeme → Type 0) (xs ys : List Mark) → EachMark R (xs ++ ys) → EachMark R xs
front R [] ys h = tt
front R (x ∷ xs) ys h = (h.0, front R xs ys h.1)

behind : (R : Lexeme → Type 0) (xs ys : List Mark) → EachMark R (xs ++ ys) → EachMark R ys
behind R [] ys h = h
behind R (x ∷ xs) ys h = behind R xs ys h.1

module _ {N : Type 0} (f : N → List ℕ) (P Q : List ℕ → Type 0) where
  abbrev R : Lexeme → Type 0
  R = Meets P Q

  abbrev PN : N → Type 0
  PN name = P (f name)

  abbrev QN : pragmas.Pragma → Type 0
  QN pragma = Q pragma.text

  abbrev s : Expr N → List Mark
  s e = spell (named f e)

  mutual
    holds : (e : Expr N) → EachMark R (spell (named f e)) → Holds PN e
    holds (Number constant at) h = tt
    holds (Character value at) h = tt
    holds (Name name at) h = h.0
    holds (Paren inner at) h = holds inner (front R (s inner) (free kinds.RightParen ∷ []) h.1)
    holds (Index array index at) h = (h.0, holds index (front R (s index) (free kinds.RightBracket ∷ []) h.1.1))
    holds (Call function arguments at) h = (h.0, holds_all arguments (front R (spell_all (named_all f arguments)) (free kinds.RightParen ∷ []) h.1.1))
    holds (Postfix operator operand at) h = holds operand (front R (s operand) (free (postfix_kind operator) ∷ []) h)
    holds (Prefix operator operand at) h = holds operand h.1
    holds (Cast specifiers operand at) h = holds operand (behind R (map free_specifier specifiers) (free kinds.RightParen ∷ s operand) h.1).1
    holds (Binary operator left right at) h =
        let rest = free (binary_kind operator) ∷ s right in
        (holds left (front R (s left) rest h), holds right (behind R (s left) rest h).1)
    holds (Conditional test first second at) h =
        let end = free kinds.Colon ∷ s second in
        let rest = free kinds.Question ∷ (s first ++ end) in
        let more = (behind R (s test) rest h).1 in
        (holds test (front R (s test) rest h), holds first (front R (s first) end more), holds second (behind R (s first) end more).1)
    holds (Assign operator target value at) h =
        let rest = free (assign_kind operator) ∷ s value in
        (holds target (front R (s target) rest h), holds value (behind R (s target) rest h).1)

    holds_all : (es : Exprs N) → EachMark R (spell_all (named_all f es)) → HoldsAll PN es
    holds_all NoExpr h = tt
    holds_all (AndExpr NoExpr last) h = (tt, holds last h)
    holds_all (AndExpr (AndExpr before middle) last) h =
        let those = spell_all (named_all f (AndExpr before middle)) in
        let rest = free kinds.Comma ∷ s last in
        (holds_all (AndExpr before middle) (front R those rest h), holds last (behind R those rest h).1)

  holds_optional : (o : Option (Expr N)) → EachMark R (spell_optional (map_option (named f) o)) → OfSome (Holds PN) o
  holds_optional None h = tt
  holds_optional (Some e) h = holds e h

  holds_shape : (shape : Shape N) → EachMark R (spell_shape (named_shape f shape)) → HoldsShape PN shape
  holds_shape Scalar h = tt
  holds_shape Unsized h = tt
  holds_shape (Sized size) h = holds size (front R (s size) (free kinds.RightBracket ∷ []) h.1)

  holds_initial : (initial : Initial N) → EachMark R (spell_initial (named_initial f initial)) → HoldsInitial PN initial
  holds_initial Absent h = tt
  holds_initial (Value value) h = holds value h.1
  holds_initial (Listed values comma) h = holds_all values (front R (spell_all (named_all f values)) (spell_comma comma ++ free kinds.RightBrace ∷ []) h.1.1)

  holds_object : (object : Object N) → EachMark R (spell_object (named_object f object)) → HoldsObject PN object
  holds_object (Declared name shape initial at) h =
      let first = spell_shape (named_shape f shape) in
      let second = spell_initial (named_initial f initial) in
      (h.0, holds_shape shape (front R first second h.1), holds_initial initial (behind R first second h.1))

  holds_name : (name : Option N) → EachMark R (spell_name (map_option f name)) → OfSome PN name
  holds_name None h = tt
  holds_name (Some name) h = h.0

  holds_param : (param : Param N) → EachMark R (spell_param (named_param f param)) → HoldsParam PN param
  holds_param (Parameter specifiers name shape at) h =
      let first = spell_name (map_option f name) in
      let second = spell_shape (named_shape f shape) in
      let rest = behind R (spell_specifiers specifiers at) (first ++ second) h in
      (holds_name name (front R first second rest), holds_shape shape (behind R first second rest))

  holds_row : {A B : Type 0} (g : A → B) (sp : B → List Mark) (H : A → Type 0) → ((x : A) → EachMark R (sp (g x)) → H x) → (row : Row A) → EachMark R (spell_row sp (map_row g row)) → EachOf H row
  holds_row g sp H k Nothing h = tt
  holds_row g sp H k (Then Nothing last) h = (tt, k last h)
  holds_row g sp H k (Then (Then before middle) last) h =
      let those = spell_row sp (map_row g (Then before middle)) in
      let rest = free kinds.Comma ∷ sp (g last) in
      (holds_row g sp H k (Then before middle) (front R those rest h), k last (behind R those rest h).1)

  abbrev params_spelled : Row (Param N) → List Mark
  params_spelled params = spell_row spell_param (map_row (named_param f) params)

  holds_params : (params : Row (Param N)) → EachMark R (params_spelled params) → EachOf (HoldsParam PN) params
  holds_params params h = holds_row (named_param f) spell_param (HoldsParam PN) holds_param params h

  holds_declaration : (declaration : Declaration N) → EachMark R (spell_declaration (named_declaration f declaration)) → HoldsDeclaration PN declaration
  holds_declaration (Objects specifiers objects at) h =
      let those = spell_row spell_object (map_row (named_object f) objects) in
      let end = free kinds.Semicolon ∷ [] in
      holds_row (named_object f) spell_object (HoldsObject PN) holds_object objects (front R those end (behind R (spell_specifiers specifiers at) (those ++ end) h))
  holds_declaration (Prototype specifiers name params at) h =
      let end = free kinds.RightParen ∷ free kinds.Semicolon ∷ [] in
      let rest = behind R (spell_specifiers specifiers at) (Free (lexemes.Name (f name)) ∷ free kinds.LeftParen ∷ (params_spelled params ++ end)) h in
      (rest.0, holds_params params (front R (params_spelled params) end rest.1.1))

  holds_label : (label : Label N) → EachMark R (spell_label (named_label f label)) → HoldsLabel PN label
  holds_label (Case value at) h = holds value (front R (s value) (free kinds.Colon ∷ []) h.1)
  holds_label (Default at) h = tt

  holds_start : (start : ForStart N) → EachMark R (spell_start (named_start f start)) → HoldsStart PN start
  holds_start NoStart h = tt
  holds_start (StartValue value) h = holds value (front R (s value) (free kinds.Semicolon ∷ []) h)
  holds_start (StartDeclaration declaration) h = holds_declaration declaration h

  -- a test in round brackets, and what is behind it
  behind_test : (test : Expr N) (rest : List Mark) → EachMark R (spell_test (named f test) rest) → Holds PN test × EachMark R rest
  behind_test test rest h = (holds test (front R (s test) (free kinds.RightParen ∷ rest) h.1), (behind R (s test) (free kinds.RightParen ∷ rest) h.1).1)

  mutual
    holds_statement : (statement : Statement N) → EachMark R (spell_statement (named_statement f statement)) → HoldsStatement PN QN statement
    holds_statement (Block items at) h = holds_items items (front R (spell_items (named_items f items)) (free kinds.RightBrace ∷ []) h.1)
    holds_statement (Empty at) h = tt
    holds_statement (Evaluate value at) h = holds value (front R (s value) (free kinds.Semicolon ∷ []) h)
    holds_statement (Marker pragma) h = h.0
    holds_statement (If test first at) h =
        let both = behind_test test (spell_statement (named_statement f first)) h.1 in
        (both.0, holds_statement first both.1)
    holds_statement (IfElse test first second at) h =
        let those = spell_statement (named_statement f first) in
        let rest = free kinds.Else ∷ spell_statement (named_statement f second) in
        let both = behind_test test (those ++ rest) h.1 in
        (both.0, holds_statement first (front R those rest both.1), holds_statement second (behind R those rest both.1).1)
    holds_statement (While bound test body at) h =
        let rest = spell_statement (named_statement f body) in
        let both = behind_test test rest (behind R (spell_bound bound) (kept kinds.While at ∷ spell_test (named f test) rest) h).1 in
        (both.0, holds_statement body both.1)
    holds_statement (Do bound body test at) h =
        let those = spell_statement (named_statement f body) in
        let end = free kinds.Semicolon ∷ [] in
        let rest = free kinds.While ∷ spell_test (named f test) end in
        let more = (behind R (spell_bound bound) (kept kinds.Do at ∷ (those ++ rest)) h).1 in
        (holds_statement body (front R those rest more), (behind_test test end (behind R those rest more).1).0)
    holds_statement (For bound start test step body at) h =
        let end = free kinds.RightParen ∷ spell_statement (named_statement f body) in
        let third = spell_optional (map_option (named f) step) in
        let second = spell_optional (map_option (named f) test) in
        let first = spell_start (named_start f start) in
        let from_third = third ++ end in
        let from_second = second ++ free kinds.Semicolon ∷ from_third in
        let h1 = (behind R (spell_bound bound) (kept kinds.For at ∷ free kinds.LeftParen ∷ (first ++ from_second)) h).1.1 in
        let h2 = behind R first from_second h1 in
        let h3 = (behind R second (free kinds.Semicolon ∷ from_third) h2).1 in (
          holds_start start (front R first from_second h1),
          holds_optional test (front R second (free kinds.Semicolon ∷ from_third) h2),
          holds_optional step (front R third end h3),
          holds_statement body (behind R third end h3).1,
        )
    holds_statement (Switch test items at) h =
        let those = spell_items (named_items f items) in
        let both = behind_test test (free kinds.LeftBrace ∷ (those ++ free kinds.RightBrace ∷ [])) h.1 in
        (both.0, holds_items items (front R those (free kinds.RightBrace ∷ []) both.1.1))
    holds_statement (Break at) h = tt
    holds_statement (Continue at) h = tt
    holds_statement (Return value at) h = holds_optional value (front R (spell_optional (map_option (named f) value)) (free kinds.Semicolon ∷ []) h.1)

    holds_items : (items : Items N) → EachMark R (spell_items (named_items f items)) → HoldsItems PN QN items
    holds_items NoItem h = tt
    holds_items (AndDeclaration before declaration) h =
        let rest = spell_declaration (named_declaration f declaration) in
        (holds_items before (front R (spell_items (named_items f before)) rest h), holds_declaration declaration (behind R (spell_items (named_items f before)) rest h))
    holds_items (AndStatement before statement) h =
        let rest = spell_statement (named_statement f statement) in
        (holds_items before (front R (spell_items (named_items f before)) rest h), holds_statement statement (behind R (spell_items (named_items f before)) rest h))
    holds_items (AndRestriction before pragma) h =
        let rest = spell_pragma kinds.FlowRestriction pragma in
        (holds_items before (front R (spell_items (named_items f before)) rest h), (behind R (spell_items (named_items f before)) rest h).0)
    holds_items (AndLabel before label) h =
        let rest = spell_label (named_label f label) in
        (holds_items before (front R (spell_items (named_items f before)) rest h), holds_label label (behind R (spell_items (named_items f before)) rest h))

  holds_external : (external : External N) → EachMark R (spell_external (named_external f external)) → HoldsExternal PN QN external
  holds_external (Restriction pragma) h = h.0
  holds_external (Declaring declaration) h = holds_declaration declaration h
  holds_external (Function specifiers name name_at params body body_at at) h =
      let braces = spell_items (named_items f body) ++ free kinds.RightBrace ∷ [] in
      let end = free kinds.RightParen ∷ kept kinds.LeftBrace body_at ∷ braces in
      let rest = behind R (spell_specifiers specifiers at) (Kept (lexemes.Name (f name)) name_at ∷ free kinds.LeftParen ∷ (params_spelled params ++ end)) h in
      let more = (behind R (params_spelled params) end rest.1.1).1.1 in
      (rest.0, holds_params params (front R (params_spelled params) end rest.1.1), holds_items body (front R (spell_items (named_items f body)) (free kinds.RightBrace ∷ []) more))

  pub holds_externals : (row : Row (External N)) → EachMark R (spell_externals (map_row (named_external f) row)) → EachOf (HoldsExternal PN QN) row
  holds_externals Nothing h = tt
  holds_externals (Then before last) h =
      let those = spell_externals (map_row (named_external f) before) in
      let rest = spell_external (named_external f last) in
      (holds_externals before (front R those rest h), holds_external last (behind R those rest h))
