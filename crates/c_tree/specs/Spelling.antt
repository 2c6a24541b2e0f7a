-- The spelling of a tree: its tokens in order, each with its place where the tree keeps it (C11 6.5 to 6.9).
use Rattle.std.specs.Prelude.{◌≡◌, ℕ, List, [], ◌∷◌, ◌++◌, map, Option, Some, None, Bool, true, false}
use Rattle.c_tree.specs.declared.token.TokenKind.{TokenKind}
use Rattle.c_tree.specs.declared.token.TokenKind.TheVariants as kinds
use Rattle.c_tree.specs.declared.pragma.Pragma.{Pragma}
use Rattle.c_tree.specs.declared.expression.Specifier.{Specifier}
use Rattle.c_tree.specs.declared.expression.Specifier.TheVariants as specifiers
use Rattle.c_tree.specs.declared.expression.PostfixOperator.{PostfixOperator}
use Rattle.c_tree.specs.declared.expression.PostfixOperator.TheVariants as postfix
use Rattle.c_tree.specs.declared.expression.PrefixOperator.{PrefixOperator}
use Rattle.c_tree.specs.declared.expression.PrefixOperator.TheVariants as prefix
use Rattle.c_tree.specs.declared.expression.BinaryOperator.{BinaryOperator}
use Rattle.c_tree.specs.declared.expression.BinaryOperator.TheVariants as binary
use Rattle.c_tree.specs.declared.expression.AssignOperator.{AssignOperator}
use Rattle.c_tree.specs.declared.expression.AssignOperator.TheVariants as assign
use Rattle.c_tree.specs.Said as lexemes
use Rattle.c_tree.specs.Said.{Lexeme, Plain, TokenList, said}
use Rattle.c_tree.specs.Tree.{Row, Nothing, Then, Expr, Number, Character, Name, Paren, Index, Call, Postfix, Prefix, Cast, Binary, Conditional, Assign, Exprs, NoExpr, AndExpr, Shape, Scalar, Unsized, Sized, Initial, Absent, Value, Listed, Object, Declared, Param, Parameter, Declaration, Objects, Prototype, Label, Case, Default, ForStart, NoStart, StartValue, StartDeclaration, Statement, Block, Empty, Evaluate, Marker, If, IfElse, While, Do, For, Switch, Break, Continue, Return, Items, NoItem, AndDeclaration, AndStatement, AndRestriction, AndLabel, External, Restriction, Declaring, Function, TranslationUnit, Whole}

-- what a token says, and where
pub record Spoken : Type 0 where
  pub said : Lexeme
  pub at : ℕ

abbrev pub spoken : TokenList → List Spoken
spoken tokens = map (λ token. record { said = said tokens.source token; at = token.at }) tokens.list

-- a token of a spelling, with its place where the tree keeps it
pub data Mark : Type 0 where
  Kept : (said : Lexeme) (at : ℕ) → Mark
  Free : (said : Lexeme) → Mark

abbrev pub mark_said : Mark → Lexeme
mark_said (Kept said at) = said
mark_said (Free said) = said

abbrev pub Fits : Mark → Spoken → Type 0
Fits (Kept said at) token = token ≡ record { said = said; at = at }
Fits (Free said) token = token.said ≡ said

-- these tokens are spelled so
abbrev pub Agree : List Mark → List Spoken → Type 0
Agree [] [] = Unit {0}
Agree (m ∷ ms) (t ∷ ts) = Fits m t × Agree ms ts
Agree _ _ = ⊥

abbrev pub specifier_kind : Specifier → TokenKind
specifier_kind specifiers.Static = kinds.Static
specifier_kind specifiers.Extern = kinds.Extern
specifier_kind specifiers.Inline = kinds.Inline
specifier_kind specifiers.Const = kinds.Const
specifier_kind specifiers.Void = kinds.Void
specifier_kind specifiers.Char = kinds.Char
specifier_kind specifiers.Short = kinds.Short
specifier_kind specifiers.Int = kinds.Int
specifier_kind specifiers.Long = kinds.Long
specifier_kind specifiers.Signed = kinds.Signed
specifier_kind specifiers.Unsigned = kinds.Unsigned

abbrev pub postfix_kind : PostfixOperator → TokenKind
postfix_kind postfix.Increment = kinds.PlusPlus
postfix_kind postfix.Decrement = kinds.MinusMinus

abbrev pub prefix_kind : PrefixOperator → TokenKind
prefix_kind prefix.Increment = kinds.PlusPlus
prefix_kind prefix.Decrement = kinds.MinusMinus
prefix_kind prefix.Negate = kinds.Minus
prefix_kind prefix.Plus = kinds.Plus
prefix_kind prefix.Complement = kinds.Tilde
prefix_kind prefix.Not = kinds.Exclamation

abbrev pub binary_kind : BinaryOperator → TokenKind
binary_kind binary.Multiply = kinds.Star
binary_kind binary.Divide = kinds.Slash
binary_kind binary.Remainder = kinds.Percent
binary_kind binary.Add = kinds.Plus
binary_kind binary.Subtract = kinds.Minus
binary_kind binary.ShiftLeft = kinds.LessLess
binary_kind binary.ShiftRight = kinds.GreaterGreater
binary_kind binary.Less = kinds.LessThan
binary_kind binary.Greater = kinds.GreaterThan
binary_kind binary.LessEqual = kinds.LessEqual
binary_kind binary.GreaterEqual = kinds.GreaterEqual
binary_kind binary.Equal = kinds.EqualEqual
binary_kind binary.NotEqual = kinds.ExclamationEqual
binary_kind binary.BitAnd = kinds.Ampersand
binary_kind binary.BitXor = kinds.Caret
binary_kind binary.BitOr = kinds.Bar
binary_kind binary.And = kinds.AmpersandAmpersand
binary_kind binary.Or = kinds.BarBar
binary_kind binary.Comma = kinds.Comma

abbrev pub assign_kind : AssignOperator → TokenKind
assign_kind assign.Assign = kinds.Equal
assign_kind assign.Multiply = kinds.StarEqual
assign_kind assign.Divide = kinds.SlashEqual
assign_kind assign.Remainder = kinds.PercentEqual
assign_kind assign.Add = kinds.PlusEqual
assign_kind assign.Subtract = kinds.MinusEqual
assign_kind assign.ShiftLeft = kinds.LessLessEqual
assign_kind assign.ShiftRight = kinds.GreaterGreaterEqual
assign_kind assign.BitAnd = kinds.AmpersandEqual
assign_kind assign.BitXor = kinds.CaretEqual
assign_kind assign.BitOr = kinds.BarEqual

-- a keyword or punctuator, with its place and without
abbrev pub kept : TokenKind → ℕ → Mark
kept kind at = Kept (Plain kind) at

abbrev pub free : TokenKind → Mark
free kind = Free (Plain kind)

abbrev pub free_specifier : Specifier → Mark
free_specifier specifier = free (specifier_kind specifier)

abbrev mutual
  -- of a name, its bytes
  pub spell : Expr (List ℕ) → List Mark
  spell (Number constant at) = Kept (lexemes.Integer constant) at ∷ []
  spell (Character value at) = Kept (lexemes.Character value) at ∷ []
  spell (Name name at) = Kept (lexemes.Name name) at ∷ []
  spell (Paren inner at) = kept kinds.LeftParen at ∷ (spell inner ++ free kinds.RightParen ∷ [])
  spell (Index array index at) = Kept (lexemes.Name array) at ∷ free kinds.LeftBracket ∷ (spell index ++ free kinds.RightBracket ∷ [])
  spell (Call function arguments at) = Kept (lexemes.Name function) at ∷ free kinds.LeftParen ∷ (spell_all arguments ++ free kinds.RightParen ∷ [])
  spell (Postfix operator operand at) = spell operand ++ free (postfix_kind operator) ∷ []
  spell (Prefix operator operand at) = kept (prefix_kind operator) at ∷ spell operand
  spell (Cast specifiers operand at) = kept kinds.LeftParen at ∷ (map free_specifier specifiers ++ free kinds.RightParen ∷ spell operand)
  spell (Binary operator left right at) = spell left ++ free (binary_kind operator) ∷ spell right
  spell (Conditional test first second at) = spell test ++ free kinds.Question ∷ (spell first ++ free kinds.Colon ∷ spell second)
  spell (Assign operator target value at) = spell target ++ free (assign_kind operator) ∷ spell value

  -- with commas between them
  pub spell_all : Exprs (List ℕ) → List Mark
  spell_all NoExpr = []
  spell_all (AndExpr NoExpr last) = spell last
  spell_all (AndExpr (AndExpr front middle) last) = spell_all (AndExpr front middle) ++ free kinds.Comma ∷ spell last

-- with commas between them
abbrev pub spell_row : {A : Type 0} → (A → List Mark) → Row A → List Mark
spell_row f Nothing = []
spell_row f (Then Nothing last) = f last
spell_row f (Then (Then front middle) last) = spell_row f (Then front middle) ++ free kinds.Comma ∷ f last

abbrev pub spell_optional : Option (Expr (List ℕ)) → List Mark
spell_optional None = []
spell_optional (Some value) = spell value

-- the first with its place
abbrev pub spell_specifiers : List Specifier → ℕ → List Mark
spell_specifiers [] at = []
spell_specifiers (first ∷ others) at = kept (specifier_kind first) at ∷ map free_specifier others

abbrev pub spell_shape : Shape (List ℕ) → List Mark
spell_shape Scalar = []
spell_shape Unsized = free kinds.LeftBracket ∷ free kinds.RightBracket ∷ []
spell_shape (Sized size) = free kinds.LeftBracket ∷ (spell size ++ free kinds.RightBracket ∷ [])

abbrev pub spell_comma : Bool → List Mark
spell_comma true = free kinds.Comma ∷ []
spell_comma false = []

abbrev pub spell_initial : Initial (List ℕ) → List Mark
spell_initial Absent = []
spell_initial (Value value) = free kinds.Equal ∷ spell value
spell_initial (Listed values comma) = free kinds.Equal ∷ free kinds.LeftBrace ∷ (spell_all values ++ (spell_comma comma ++ free kinds.RightBrace ∷ []))

abbrev pub spell_object : Object (List ℕ) → List Mark
spell_object (Declared name shape initial at) = Kept (lexemes.Name name) at ∷ (spell_shape shape ++ spell_initial initial)

abbrev pub spell_name : Option (List ℕ) → List Mark
spell_name None = []
spell_name (Some name) = Free (lexemes.Name name) ∷ []

abbrev pub spell_param : Param (List ℕ) → List Mark
spell_param (Parameter specifiers name shape at) = spell_specifiers specifiers at ++ (spell_name name ++ spell_shape shape)

abbrev pub spell_declaration : Declaration (List ℕ) → List Mark
spell_declaration (Objects specifiers objects at) = spell_specifiers specifiers at ++ (spell_row spell_object objects ++ free kinds.Semicolon ∷ [])
spell_declaration (Prototype specifiers name params at) = spell_specifiers specifiers at ++ Free (lexemes.Name name) ∷ free kinds.LeftParen ∷ (spell_row spell_param params ++ free kinds.RightParen ∷ free kinds.Semicolon ∷ [])

abbrev pub spell_pragma : TokenKind → Pragma → List Mark
spell_pragma kind pragma = Kept (lexemes.Pragma kind pragma.text) pragma.at ∷ []

abbrev pub spell_bound : Option Pragma → List Mark
spell_bound None = []
spell_bound (Some bound) = spell_pragma kinds.LoopBound bound

abbrev pub spell_label : Label (List ℕ) → List Mark
spell_label (Case value at) = kept kinds.Case at ∷ (spell value ++ free kinds.Colon ∷ [])
spell_label (Default at) = kept kinds.Default at ∷ free kinds.Colon ∷ []

abbrev pub spell_start : ForStart (List ℕ) → List Mark
spell_start NoStart = free kinds.Semicolon ∷ []
spell_start (StartValue value) = spell value ++ free kinds.Semicolon ∷ []
spell_start (StartDeclaration declaration) = spell_declaration declaration

-- a test in round brackets, and then this
abbrev pub spell_test : Expr (List ℕ) → List Mark → List Mark
spell_test test rest = free kinds.LeftParen ∷ (spell test ++ free kinds.RightParen ∷ rest)

abbrev mutual
  pub spell_statement : Statement (List ℕ) → List Mark
  spell_statement (Block items at) = kept kinds.LeftBrace at ∷ (spell_items items ++ free kinds.RightBrace ∷ [])
  spell_statement (Empty at) = kept kinds.Semicolon at ∷ []
  spell_statement (Evaluate value at) = spell value ++ free kinds.Semicolon ∷ []
  spell_statement (Marker pragma) = spell_pragma kinds.Marker pragma
  spell_statement (If test first at) = kept kinds.If at ∷ spell_test test (spell_statement first)
  spell_statement (IfElse test first second at) = kept kinds.If at ∷ spell_test test (spell_statement first ++ free kinds.Else ∷ spell_statement second)
  spell_statement (While bound test body at) = spell_bound bound ++ kept kinds.While at ∷ spell_test test (spell_statement body)
  spell_statement (Do bound body test at) = spell_bound bound ++ kept kinds.Do at ∷ (spell_statement body ++ free kinds.While ∷ spell_test test (free kinds.Semicolon ∷ []))
  spell_statement (For bound start test step body at) = spell_bound bound ++ kept kinds.For at ∷ free kinds.LeftParen ∷ (spell_start start ++ (spell_optional test ++ free kinds.Semicolon ∷ (spell_optional step ++ free kinds.RightParen ∷ spell_statement body)))
  spell_statement (Switch test items at) = kept kinds.Switch at ∷ spell_test test (free kinds.LeftBrace ∷ (spell_items items ++ free kinds.RightBrace ∷ []))
  spell_statement (Break at) = kept kinds.Break at ∷ free kinds.Semicolon ∷ []
  spell_statement (Continue at) = kept kinds.Continue at ∷ free kinds.Semicolon ∷ []
  spell_statement (Return value at) = kept kinds.Return at ∷ (spell_optional value ++ free kinds.Semicolon ∷ [])

  pub spell_items : Items (List ℕ) → List Mark
  spell_items NoItem = []
  spell_items (AndDeclaration front declaration) = spell_items front ++ spell_declaration declaration
  spell_items (AndStatement front statement) = spell_items front ++ spell_statement statement
  spell_items (AndRestriction front pragma) = spell_items front ++ spell_pragma kinds.FlowRestriction pragma
  spell_items (AndLabel front label) = spell_items front ++ spell_label label

abbrev pub spell_external : External (List ℕ) → List Mark
spell_external (Restriction pragma) = spell_pragma kinds.FlowRestriction pragma
spell_external (Declaring declaration) = spell_declaration declaration
spell_external (Function specifiers name name_at params body body_at at) = spell_specifiers specifiers at ++ Kept (lexemes.Name name) name_at ∷ free kinds.LeftParen ∷ (spell_row spell_param params ++ free kinds.RightParen ∷ spell_statement (Block body body_at))

abbrev pub spell_externals : Row (External (List ℕ)) → List Mark
spell_externals Nothing = []
spell_externals (Then front last) = spell_externals front ++ spell_external last

abbrev pub spell_unit : TranslationUnit (List ℕ) → List Mark
spell_unit (Whole items at) = spell_externals items

-- the tokens are the spelling of the tree
abbrev pub IsSpelling : TranslationUnit (List ℕ) → TokenList → Type 0
IsSpelling unit tokens = Agree (spell_unit unit) (spoken tokens)
