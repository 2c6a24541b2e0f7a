-- The spelling of a tree: its tokens in order, each with its place where the tree keeps it (C11 6.5 to 6.9).
use Rattle.std.specs.Prelude.{◌≡◌, ℕ, List, [], ◌∷◌, ◌++◌, Option, Some, None, Bool, true, false}
use Rattle.c_tree.specs.declared.token.TokenKind.{TokenKind}
use Rattle.c_tree.specs.declared.token.TokenKind.TheVariants as kinds
use Rattle.c_tree.specs.declared.pragma.Pragma.{Pragma}
use Rattle.c_tree.specs.Said as lexemes
use Rattle.c_tree.specs.Spelling.{assign_kind, binary_kind, postfix_kind, prefix_kind, specifier_kind}
use Rattle.c_tree.specs.Tree.{Row, Nothing, Then}
use Rattle.wide_tree.specs.declared.word.Word.TheVariants as words
use Rattle.wide_tree.specs.Said as said
use Rattle.wide_tree.specs.Said.{Lexeme, Spoken}
use Rattle.wide_tree.specs.Tree.{Bytes, Expr, Number, Character, Name, Paren, Index, Call, Postfix, Prefix, Cast, Binary, Conditional, Assign, SizeofValue, SizeofType, AlignofType, Exprs, NoExpr, AndExpr, Specifiers, NoSpecifier, WithSpecifier, Specifier, Profile, Keyword, TypeName, Tagged, Enumeration, Enumerators, NoEnumerator, AndNext, AndValued, Shape, Scalar, Unsized, Sized, Initial, Absent, Value, Listed, Object, Declared, Param, Parameter, Declaration, Objects, Prototype, Asserted, Label, Case, Default, ForStart, NoStart, StartValue, StartDeclaration, Statement, Block, Empty, Evaluate, Marker, If, IfElse, While, Do, For, Switch, Break, Continue, Return, Items, NoItem, AndDeclaration, AndStatement, AndRestriction, AndLabel, External, Restriction, Declaring, Function, TranslationUnit, Whole}

-- a token of a spelling, with its place where the tree keeps it
pub data Mark : Type 0 where
  Kept : (said : Lexeme) (at : ℕ) → Mark
  Free : (said : Lexeme) → Mark

abbrev pub Fits : Mark → Spoken → Type 0
Fits (Kept said at) token = token ≡ record { said = said; at = at }
Fits (Free said) token = token.said ≡ said

-- these tokens are spelled so
abbrev pub Agree : List Mark → List Spoken → Type 0
Agree [] [] = Unit {0}
Agree (m ∷ ms) (t ∷ ts) = Fits m t × Agree ms ts
Agree _ _ = ⊥

abbrev pub plain : lexemes.Lexeme → Lexeme
plain lexeme = said.Profile lexeme

-- a keyword or punctuator of the profile, with its place and without
abbrev pub kept : TokenKind → ℕ → Mark
kept kind at = Kept (plain (lexemes.Plain kind)) at

abbrev pub free : TokenKind → Mark
free kind = Free (plain (lexemes.Plain kind))

-- a name, with its place and without
abbrev pub kept_name : Bytes → ℕ → Mark
kept_name name at = Kept (plain (lexemes.Name name)) at

abbrev pub free_name : Bytes → Mark
free_name name = Free (plain (lexemes.Name name))

abbrev pub spell_tag : Option Bytes → List Mark
spell_tag None = []
spell_tag (Some tag) = free_name tag ∷ []

abbrev pub spell_comma : Bool → List Mark
spell_comma true = free kinds.Comma ∷ []
spell_comma false = []

-- what makes a mark of a token: with a place or without
abbrev pub Marking : Type 0
Marking = Lexeme → Mark

abbrev pub kept_at : ℕ → Marking
kept_at at said = Kept said at

abbrev mutual
  pub spell : Expr → List Mark
  spell (Number constant at) = Kept (plain (lexemes.Integer constant)) at ∷ []
  spell (Character value at) = Kept (plain (lexemes.Character value)) at ∷ []
  spell (Name name at) = kept_name name at ∷ []
  spell (Paren inner at) = kept kinds.LeftParen at ∷ (spell inner ++ free kinds.RightParen ∷ [])
  spell (Index array index at) = kept_name array at ∷ free kinds.LeftBracket ∷ (spell index ++ free kinds.RightBracket ∷ [])
  spell (Call function arguments at) = kept_name function at ∷ free kinds.LeftParen ∷ (spell_all arguments ++ free kinds.RightParen ∷ [])
  spell (Postfix operator operand at) = spell operand ++ free (postfix_kind operator) ∷ []
  spell (Prefix operator operand at) = kept (prefix_kind operator) at ∷ spell operand
  spell (Cast specifiers operand at) = kept kinds.LeftParen at ∷ (spell_free specifiers ++ free kinds.RightParen ∷ spell operand)
  spell (Binary operator left right at) = spell left ++ free (binary_kind operator) ∷ spell right
  spell (Conditional test first second at) = spell test ++ free kinds.Question ∷ (spell first ++ free kinds.Colon ∷ spell second)
  spell (Assign operator target value at) = spell target ++ free (assign_kind operator) ∷ spell value
  spell (SizeofValue operand at) = Kept (said.Keyword words.Sizeof) at ∷ spell operand
  spell (SizeofType specifiers at) = Kept (said.Keyword words.Sizeof) at ∷ free kinds.LeftParen ∷ (spell_free specifiers ++ free kinds.RightParen ∷ [])
  spell (AlignofType specifiers at) = Kept (said.Keyword words.Alignof) at ∷ free kinds.LeftParen ∷ (spell_free specifiers ++ free kinds.RightParen ∷ [])

  -- with commas between them
  pub spell_all : Exprs → List Mark
  spell_all NoExpr = []
  spell_all (AndExpr NoExpr last) = spell last
  spell_all (AndExpr (AndExpr front middle) last) = spell_all (AndExpr front middle) ++ free kinds.Comma ∷ spell last

  -- words without their places
  pub spell_free : Specifiers → List Mark
  spell_free NoSpecifier = []
  spell_free (WithSpecifier first others) = spell_specifier Free first ++ spell_free others

  pub spell_specifier : Marking → Specifier → List Mark
  spell_specifier mark (Profile word) = mark (plain (lexemes.Plain (specifier_kind word))) ∷ []
  spell_specifier mark (Keyword word) = mark (said.Keyword word) ∷ []
  spell_specifier mark (TypeName name) = mark (plain (lexemes.Name name)) ∷ []
  spell_specifier mark (Tagged tag) = mark (said.Keyword words.Enum) ∷ free_name tag ∷ []
  spell_specifier mark (Enumeration tag list comma) =
      mark (said.Keyword words.Enum) ∷ (spell_tag tag ++ free kinds.LeftBrace ∷ (spell_enumerators list ++ (spell_comma comma ++ free kinds.RightBrace ∷ [])))

  -- with commas between them
  pub spell_enumerators : Enumerators → List Mark
  spell_enumerators NoEnumerator = []
  spell_enumerators (AndNext front name) = spell_before front ++ free_name name ∷ []
  spell_enumerators (AndValued front name value) = spell_before front ++ free_name name ∷ free kinds.Equal ∷ spell value

  -- those before another, with the comma behind them
  pub spell_before : Enumerators → List Mark
  spell_before NoEnumerator = []
  spell_before (AndNext front name) = spell_before front ++ free_name name ∷ free kinds.Comma ∷ []
  spell_before (AndValued front name value) = spell_before front ++ free_name name ∷ free kinds.Equal ∷ (spell value ++ free kinds.Comma ∷ [])

-- with commas between them
abbrev pub spell_row : {A : Type 0} → (A → List Mark) → Row A → List Mark
spell_row f Nothing = []
spell_row f (Then Nothing last) = f last
spell_row f (Then (Then front middle) last) = spell_row f (Then front middle) ++ free kinds.Comma ∷ f last

abbrev pub spell_optional : Option Expr → List Mark
spell_optional None = []
spell_optional (Some value) = spell value

-- the first with its place
abbrev pub spell_specifiers : Specifiers → ℕ → List Mark
spell_specifiers NoSpecifier at = []
spell_specifiers (WithSpecifier first others) at = spell_specifier (kept_at at) first ++ spell_free others

abbrev pub spell_shape : Shape → List Mark
spell_shape Scalar = []
spell_shape Unsized = free kinds.LeftBracket ∷ free kinds.RightBracket ∷ []
spell_shape (Sized size) = free kinds.LeftBracket ∷ (spell size ++ free kinds.RightBracket ∷ [])

abbrev pub spell_initial : Initial → List Mark
spell_initial Absent = []
spell_initial (Value value) = free kinds.Equal ∷ spell value
spell_initial (Listed values comma) = free kinds.Equal ∷ free kinds.LeftBrace ∷ (spell_all values ++ (spell_comma comma ++ free kinds.RightBrace ∷ []))

abbrev pub spell_object : Object → List Mark
spell_object (Declared name shape initial at) = kept_name name at ∷ (spell_shape shape ++ spell_initial initial)

abbrev pub spell_name : Option Bytes → List Mark
spell_name None = []
spell_name (Some name) = free_name name ∷ []

abbrev pub spell_param : Param → List Mark
spell_param (Parameter specifiers name shape at) = spell_specifiers specifiers at ++ (spell_name name ++ spell_shape shape)

abbrev pub spell_declaration : Declaration → List Mark
spell_declaration (Objects specifiers objects at) = spell_specifiers specifiers at ++ (spell_row spell_object objects ++ free kinds.Semicolon ∷ [])
spell_declaration (Prototype specifiers name params at) = spell_specifiers specifiers at ++ free_name name ∷ free kinds.LeftParen ∷ (spell_row spell_param params ++ free kinds.RightParen ∷ free kinds.Semicolon ∷ [])
spell_declaration (Asserted test message at) =
    Kept (said.Keyword words.StaticAssert) at ∷ free kinds.LeftParen ∷ (spell test ++ free kinds.Comma ∷ Free (said.Text message) ∷ free kinds.RightParen ∷ free kinds.Semicolon ∷ [])

abbrev pub spell_pragma : TokenKind → Pragma → List Mark
spell_pragma kind pragma = Kept (plain (lexemes.Pragma kind pragma.text)) pragma.at ∷ []

abbrev pub spell_bound : Option Pragma → List Mark
spell_bound None = []
spell_bound (Some bound) = spell_pragma kinds.LoopBound bound

abbrev pub spell_label : Label → List Mark
spell_label (Case value at) = kept kinds.Case at ∷ (spell value ++ free kinds.Colon ∷ [])
spell_label (Default at) = kept kinds.Default at ∷ free kinds.Colon ∷ []

abbrev pub spell_start : ForStart → List Mark
spell_start NoStart = free kinds.Semicolon ∷ []
spell_start (StartValue value) = spell value ++ free kinds.Semicolon ∷ []
spell_start (StartDeclaration declaration) = spell_declaration declaration

-- a test in round brackets, and then this
abbrev pub spell_test : Expr → List Mark → List Mark
spell_test test rest = free kinds.LeftParen ∷ (spell test ++ free kinds.RightParen ∷ rest)

abbrev mutual
  pub spell_statement : Statement → List Mark
  spell_statement (Block items at) = kept kinds.LeftBrace at ∷ (spell_items items ++ free kinds.RightBrace ∷ [])
  spell_statement (Empty at) = kept kinds.Semicolon at ∷ []
  spell_statement (Evaluate value at) = spell value ++ free kinds.Semicolon ∷ []
  spell_statement (Marker pragma) = spell_pragma kinds.Marker pragma
  spell_statement (If test first at) = kept kinds.If at ∷ spell_test test (spell_statement first)
  spell_statement (IfElse test first second at) = kept kinds.If at ∷ spell_test test (spell_statement first ++ free kinds.Else ∷ spell_statement second)
  spell_statement (While bound test body at) = spell_bound bound ++ kept kinds.While at ∷ spell_test test (spell_statement body)
  spell_statement (Do bound body test at) = spell_bound bound ++ kept kinds.Do at ∷ (spell_statement body ++ free kinds.While ∷ spell_test test (free kinds.Semicolon ∷ []))
  spell_statement (For bound start test step body at) = spell_bound bound ++ kept kinds.For at ∷ free kinds.LeftParen ∷ (spell_start start ++ (spell_optional test ++ free kinds.Semicolon ∷ (spell_optional step ++ free kinds.RightParen ∷ spell_statement body)))
  spell_statement (Switch test items at) = kept kinds.Switch at ∷ spell_test test (free kinds.LeftBrace ∷ (spell_items items ++ free kinds.RightBrace ∷ []))
  spell_statement (Break at) = kept kinds.Break at ∷ free kinds.Semicolon ∷ []
  spell_statement (Continue at) = kept kinds.Continue at ∷ free kinds.Semicolon ∷ []
  spell_statement (Return value at) = kept kinds.Return at ∷ (spell_optional value ++ free kinds.Semicolon ∷ [])

  pub spell_items : Items → List Mark
  spell_items NoItem = []
  spell_items (AndDeclaration front declaration) = spell_items front ++ spell_declaration declaration
  spell_items (AndStatement front statement) = spell_items front ++ spell_statement statement
  spell_items (AndRestriction front pragma) = spell_items front ++ spell_pragma kinds.FlowRestriction pragma
  spell_items (AndLabel front label) = spell_items front ++ spell_label label

abbrev pub spell_external : External → List Mark
spell_external (Restriction pragma) = spell_pragma kinds.FlowRestriction pragma
spell_external (Declaring declaration) = spell_declaration declaration
spell_external (Function specifiers name name_at params body body_at at) = spell_specifiers specifiers at ++ kept_name name name_at ∷ free kinds.LeftParen ∷ (spell_row spell_param params ++ free kinds.RightParen ∷ spell_statement (Block body body_at))

abbrev pub spell_externals : Row External → List Mark
spell_externals Nothing = []
spell_externals (Then front last) = spell_externals front ++ spell_external last

abbrev pub spell_unit : TranslationUnit → List Mark
spell_unit (Whole items at) = spell_externals items
