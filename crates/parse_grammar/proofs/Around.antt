-- What the machine has taken, as the tree will spell it.
use Rattle.std.proofs.Common.{◌≡◌, ℕ, ◌≤◌, List, [], ◌∷◌, ◌++◌, map, true, false}
use Rattle.std.specs.Prelude.{Option}
use Rattle.c_tree.specs.declared.token.TokenKind.TheVariants as kinds
use Rattle.c_tree.specs.Said as lexemes
use Rattle.c_tree.specs.Formed.{level, level_of, IsSome, IsSomeRow, EachOf, AreSome, IsFormed, AreFormed, IsFormedOption, IsFormedShape, IsFormedObject, IsFormedParam, IsFormedStart, IsFormedStatement, AreFormedItems, IsFormedExternal, ends_open}
use Rattle.c_tree.specs.Spelling.{Spoken, Mark, Kept, Agree, kept, free, free_specifier, prefix_kind, binary_kind, assign_kind, spell, spell_all, spell_row, spell_optional, spell_specifiers, spell_shape, spell_object, spell_name, spell_param, spell_pragma, spell_bound, spell_start, spell_test, spell_statement, spell_items, spell_externals}
use Rattle.c_tree.specs.declared.pragma.Pragma.{Pragma}
use Rattle.c_tree.specs.Tree.{Row, Nothing, Then, Exprs, NoExpr, AndExpr, Statement, Do, Break, Continue}
use Rattle.parse_grammar.specs.Begun.{Bytes, Header, Heads, Frames, InItems, InThen, InElse, InWhile, InDo, InFor, Braces, OfBlock, OfSwitch, OfFunction, Scope, AtFile, AmongItems, AtFor, Head, Heading, Proto, Signs, Declarator, OfObject, OfParam, Test, OfIf, OfWhile, OfDo, OfChoice, Purpose, Evaluates, Returns, Tests, Starts, Guards, Repeats, Sizes, Initialises, Lists, Labels, Stack, Base, InParen, InIndex, InCall, AfterPrefix, AfterCast, AfterJoin, AfterQuestion, AfterColon, AfterAssign, demand, State, Wants, Has, Opened, Typed, Called, File, Among, Begins, Stands, Closes, Bounded, Opens, Chooses, Answers, Defaults, Loops, LoopStarts, LoopTests, LoopSteps, Specified, Named, Further, Declares, Sizing, Shaped, Initial, Listed, Ended, ParamsOpen, ParamNext, ParamSpecified, ParamsDone}
use Rattle.parse_grammar.specs.Machine.{Moved, Goes, Stuck}
use Rattle.parse_grammar.proofs.ReadStatements.{labels_of}

-- those before, with a comma behind them
abbrev pub before_row : {A : Type 0} → (A → List Mark) → Row A → List Mark → List Mark
before_row f Nothing rest = rest
before_row f (Then front last) rest = spell_row f (Then front last) ++ free kinds.Comma ∷ rest

abbrev pub before_all : Exprs Bytes → List Mark → List Mark
before_all NoExpr rest = rest
before_all (AndExpr front last) rest = spell_all (AndExpr front last) ++ free kinds.Comma ∷ rest

abbrev pub header_around : Header → List Mark → List Mark
header_around (Heads all name name_at params body_at at front) rest = spell_externals front ++ (spell_specifiers all at ++ Kept (lexemes.Name name) name_at ∷ free kinds.LeftParen ∷ (spell_row spell_param params ++ free kinds.RightParen ∷ kept kinds.LeftBrace body_at ∷ rest))

abbrev pub for_around : Option Pragma → ℕ → List Mark → List Mark
for_around bound at rest = spell_bound bound ++ kept kinds.For at ∷ free kinds.LeftParen ∷ rest

abbrev mutual
  pub frames_around : Frames → List Mark → List Mark
  frames_around (InItems front braces) rest = braces_around braces (spell_items front ++ rest)
  frames_around (InThen test at under) rest = frames_around under (kept kinds.If at ∷ spell_test test rest)
  frames_around (InElse test first at under) rest = frames_around under (kept kinds.If at ∷ spell_test test (spell_statement first ++ free kinds.Else ∷ rest))
  frames_around (InWhile bound test at under) rest = frames_around under (spell_bound bound ++ kept kinds.While at ∷ spell_test test rest)
  frames_around (InDo bound at under) rest = frames_around under (spell_bound bound ++ kept kinds.Do at ∷ rest)
  frames_around (InFor bound start test step at under) rest = frames_around under (for_around bound at (spell_start start ++ (spell_optional test ++ free kinds.Semicolon ∷ (spell_optional step ++ free kinds.RightParen ∷ rest))))

  pub braces_around : Braces → List Mark → List Mark
  braces_around (OfBlock at under) rest = frames_around under (kept kinds.LeftBrace at ∷ rest)
  braces_around (OfSwitch test at under) rest = frames_around under (kept kinds.Switch at ∷ spell_test test (free kinds.LeftBrace ∷ rest))
  braces_around (OfFunction header) rest = header_around header rest

abbrev pub scope_around : Scope → List Mark → List Mark
scope_around (AtFile front) rest = spell_externals front ++ rest
scope_around (AmongItems front braces) rest = braces_around braces (spell_items front ++ rest)
scope_around (AtFor bound at under) rest = frames_around under (for_around bound at rest)

abbrev pub head_around : Head → List Mark → List Mark
head_around (Heading all objects at scope) rest = scope_around scope (spell_specifiers all at ++ before_row spell_object objects rest)

abbrev pub proto_around : Proto → List Mark → List Mark
proto_around (Signs all name name_at at scope) rest = scope_around scope (spell_specifiers all at ++ Kept (lexemes.Name name) name_at ∷ rest)

abbrev pub declarator_around : Declarator → List Mark → List Mark
declarator_around (OfObject head name at) rest = head_around head (Kept (lexemes.Name name) at ∷ rest)
declarator_around (OfParam proto front all name at) rest = proto_around proto (free kinds.LeftParen ∷ before_row spell_param front (spell_specifiers all at ++ (spell_name name ++ rest)))

abbrev pub test_around : Test → List Mark → List Mark
test_around (OfIf at under) rest = frames_around under (kept kinds.If at ∷ rest)
test_around (OfWhile bound at under) rest = frames_around under (spell_bound bound ++ kept kinds.While at ∷ rest)
test_around (OfDo bound body at under) rest = frames_around under (spell_bound bound ++ kept kinds.Do at ∷ (spell_statement body ++ free kinds.While ∷ rest))
test_around (OfChoice at under) rest = frames_around under (kept kinds.Switch at ∷ rest)

abbrev pub purpose_around : Purpose → List Mark → List Mark
purpose_around (Evaluates under) rest = frames_around under rest
purpose_around (Returns at under) rest = frames_around under (kept kinds.Return at ∷ rest)
purpose_around (Tests test) rest = test_around test (free kinds.LeftParen ∷ rest)
purpose_around (Starts bound at under) rest = frames_around under (for_around bound at rest)
purpose_around (Guards bound start at under) rest = frames_around under (for_around bound at (spell_start start ++ rest))
purpose_around (Repeats bound start test at under) rest = frames_around under (for_around bound at (spell_start start ++ (spell_optional test ++ free kinds.Semicolon ∷ rest)))
purpose_around (Sizes declarator) rest = declarator_around declarator (free kinds.LeftBracket ∷ rest)
purpose_around (Initialises head name shape at) rest = head_around head (Kept (lexemes.Name name) at ∷ (spell_shape shape ++ free kinds.Equal ∷ rest))
purpose_around (Lists head name shape front at) rest = head_around head (Kept (lexemes.Name name) at ∷ (spell_shape shape ++ free kinds.Equal ∷ free kinds.LeftBrace ∷ before_all front rest))
purpose_around (Labels front braces at) rest = braces_around braces (spell_items front ++ kept kinds.Case at ∷ rest)

abbrev pub stack_around : Stack → List Mark → List Mark
stack_around (Base purpose) rest = purpose_around purpose rest
stack_around (InParen at under) rest = stack_around under (kept kinds.LeftParen at ∷ rest)
stack_around (InIndex array at under) rest = stack_around under (Kept (lexemes.Name array) at ∷ free kinds.LeftBracket ∷ rest)
stack_around (InCall function at front under) rest = stack_around under (Kept (lexemes.Name function) at ∷ free kinds.LeftParen ∷ before_all front rest)
stack_around (AfterPrefix operator at under) rest = stack_around under (kept (prefix_kind operator) at ∷ rest)
stack_around (AfterCast all at under) rest = stack_around under (kept kinds.LeftParen at ∷ (map free_specifier all ++ free kinds.RightParen ∷ rest))
stack_around (AfterJoin operator left under) rest = stack_around under (spell left ++ free (binary_kind operator) ∷ rest)
stack_around (AfterQuestion test under) rest = stack_around under (spell test ++ free kinds.Question ∷ rest)
stack_around (AfterColon test first under) rest = stack_around under (spell test ++ free kinds.Question ∷ (spell first ++ free kinds.Colon ∷ rest))
stack_around (AfterAssign operator target under) rest = stack_around under (spell target ++ free (assign_kind operator) ∷ rest)

-- a statement that lacks its last semicolon
abbrev pub spell_open : Statement Bytes → List Mark
spell_open (Break at) = kept kinds.Break at ∷ []
spell_open (Continue at) = kept kinds.Continue at ∷ []
spell_open (Do bound body test at) = spell_bound bound ++ kept kinds.Do at ∷ (spell_statement body ++ free kinds.While ∷ spell_test test [])
spell_open statement = []

abbrev pub around : State → List Mark → List Mark
around (Wants under) rest = stack_around under rest
around (Has tree under) rest = stack_around under (spell tree ++ rest)
around (Opened at under) rest = stack_around under (kept kinds.LeftParen at ∷ rest)
around (Typed all at under) rest = stack_around under (kept kinds.LeftParen at ∷ (map free_specifier all ++ rest))
around (Called function at under) rest = stack_around under (Kept (lexemes.Name function) at ∷ free kinds.LeftParen ∷ rest)
around (File front) rest = spell_externals front ++ rest
around (Among front braces) rest = braces_around braces (spell_items front ++ rest)
around (Begins under) rest = frames_around under rest
around (Stands statement under) rest = frames_around under (spell_statement statement ++ rest)
around (Closes statement under) rest = frames_around under (spell_open statement ++ rest)
around (Bounded bound under) rest = frames_around under (spell_pragma kinds.LoopBound bound ++ rest)
around (Opens test) rest = test_around test rest
around (Chooses test at under) rest = frames_around under (kept kinds.Switch at ∷ spell_test test rest)
around (Answers at under) rest = frames_around under (kept kinds.Return at ∷ rest)
around (Defaults front braces at) rest = braces_around braces (spell_items front ++ kept kinds.Default at ∷ rest)
around (Loops bound at under) rest = frames_around under (spell_bound bound ++ kept kinds.For at ∷ rest)
around (LoopStarts bound at under) rest = frames_around under (for_around bound at rest)
around (LoopTests bound start at under) rest = frames_around under (for_around bound at (spell_start start ++ rest))
around (LoopSteps bound start test at under) rest = frames_around under (for_around bound at (spell_start start ++ (spell_optional test ++ free kinds.Semicolon ∷ rest)))
around (Specified all at scope) rest = scope_around scope (spell_specifiers all at ++ rest)
around (Named proto) rest = proto_around proto rest
around (Further head) rest = head_around head rest
around (Declares declarator) rest = declarator_around declarator rest
around (Sizing declarator) rest = declarator_around declarator (free kinds.LeftBracket ∷ rest)
around (Shaped declarator shape) rest = declarator_around declarator (spell_shape shape ++ rest)
around (Initial head name shape at) rest = head_around head (Kept (lexemes.Name name) at ∷ (spell_shape shape ++ free kinds.Equal ∷ rest))
around (Listed head name shape front at) rest = head_around head (Kept (lexemes.Name name) at ∷ (spell_shape shape ++ free kinds.Equal ∷ free kinds.LeftBrace ∷ (spell_all front ++ free kinds.Comma ∷ rest)))
around (Ended head object) rest = head_around head (spell_object object ++ rest)
around (ParamsOpen proto) rest = proto_around proto (free kinds.LeftParen ∷ rest)
around (ParamNext proto front) rest = proto_around proto (free kinds.LeftParen ∷ (spell_row spell_param front ++ free kinds.Comma ∷ rest))
around (ParamSpecified proto front all at) rest = proto_around proto (free kinds.LeftParen ∷ before_row spell_param front (spell_specifiers all at ++ rest))
around (ParamsDone proto params) rest = proto_around proto (free kinds.LeftParen ∷ (spell_row spell_param params ++ free kinds.RightParen ∷ rest))

-- each part that has begun is well formed and stands in a place that it fits
abbrev pub SoundHeader : Header → Type 0
SoundHeader (Heads all name name_at params body_at at front) = IsSome all × EachOf IsFormedParam params × EachOf IsFormedExternal front

abbrev mutual
  pub SoundFrames : Frames → Type 0
  SoundFrames (InItems front braces) = AreFormedItems (labels_of braces) front × SoundBraces braces
  SoundFrames (InThen test at under) = IsFormed test × SoundFrames under
  SoundFrames (InElse test first at under) = (ends_open first ≡ false) × IsFormed test × IsFormedStatement first × SoundFrames under
  SoundFrames (InWhile bound test at under) = IsFormed test × SoundFrames under
  SoundFrames (InDo bound at under) = SoundFrames under
  SoundFrames (InFor bound start test step at under) = IsFormedStart start × IsFormedOption test × IsFormedOption step × SoundFrames under

  pub SoundBraces : Braces → Type 0
  SoundBraces (OfBlock at under) = SoundFrames under
  SoundBraces (OfSwitch test at under) = IsFormed test × SoundFrames under
  SoundBraces (OfFunction header) = SoundHeader header

abbrev pub SoundScope : Scope → Type 0
SoundScope (AtFile front) = EachOf IsFormedExternal front
SoundScope (AmongItems front braces) = AreFormedItems (labels_of braces) front × SoundBraces braces
SoundScope (AtFor bound at under) = SoundFrames under

abbrev pub SoundHead : Head → Type 0
SoundHead (Heading all objects at scope) = IsSome all × EachOf IsFormedObject objects × SoundScope scope

abbrev pub SoundProto : Proto → Type 0
SoundProto (Signs all name name_at at scope) = IsSome all × SoundScope scope

abbrev pub SoundDeclarator : Declarator → Type 0
SoundDeclarator (OfObject head name at) = SoundHead head
SoundDeclarator (OfParam proto front all name at) = EachOf IsFormedParam front × IsSome all × SoundProto proto

abbrev pub SoundTest : Test → Type 0
SoundTest (OfIf at under) = SoundFrames under
SoundTest (OfWhile bound at under) = SoundFrames under
SoundTest (OfDo bound body at under) = IsFormedStatement body × SoundFrames under
SoundTest (OfChoice at under) = SoundFrames under

abbrev pub SoundPurpose : Purpose → Type 0
SoundPurpose (Evaluates under) = SoundFrames under
SoundPurpose (Returns at under) = SoundFrames under
SoundPurpose (Tests test) = SoundTest test
SoundPurpose (Starts bound at under) = SoundFrames under
SoundPurpose (Guards bound start at under) = IsFormedStart start × SoundFrames under
SoundPurpose (Repeats bound start test at under) = IsFormedStart start × IsFormedOption test × SoundFrames under
SoundPurpose (Sizes declarator) = SoundDeclarator declarator
SoundPurpose (Initialises head name shape at) = IsFormedShape shape × SoundHead head
SoundPurpose (Lists head name shape front at) = IsFormedShape shape × AreFormed front × SoundHead head
SoundPurpose (Labels front braces at) = (labels_of braces ≡ true) × AreFormedItems (labels_of braces) front × SoundBraces braces

abbrev pub SoundStack : Stack → Type 0
SoundStack (Base purpose) = SoundPurpose purpose
SoundStack (InParen at under) = SoundStack under
SoundStack (InIndex array at under) = SoundStack under
SoundStack (InCall function at front under) = AreFormed front × SoundStack under
SoundStack (AfterPrefix operator at under) = SoundStack under
SoundStack (AfterCast all at under) = IsSome all × SoundStack under
SoundStack (AfterJoin operator left under) = (level left ≤ level_of operator) × (level_of operator ≤ demand under) × IsFormed left × SoundStack under
SoundStack (AfterQuestion test under) = (level test ≤ 12) × (13 ≤ demand under) × IsFormed test × SoundStack under
SoundStack (AfterColon test first under) = (level test ≤ 12) × (13 ≤ demand under) × IsFormed test × IsFormed first × SoundStack under
SoundStack (AfterAssign operator target under) = (level target ≤ 2) × (14 ≤ demand under) × IsFormed target × SoundStack under

abbrev pub IsOpen : Statement Bytes → Type 0
IsOpen (Break at) = Unit {0}
IsOpen (Continue at) = Unit {0}
IsOpen (Do bound body test at) = Unit {0}
IsOpen statement = ⊥

abbrev pub SoundState : State → Type 0
SoundState (Wants under) = SoundStack under
SoundState (Has tree under) = IsFormed tree × (level tree ≤ demand under) × SoundStack under
SoundState (Opened at under) = SoundStack under
SoundState (Typed all at under) = IsSome all × SoundStack under
SoundState (Called function at under) = SoundStack under
SoundState (File front) = EachOf IsFormedExternal front
SoundState (Among front braces) = AreFormedItems (labels_of braces) front × SoundBraces braces
SoundState (Begins under) = SoundFrames under
SoundState (Stands statement under) = (ends_open statement ≡ false) × IsFormedStatement statement × SoundFrames under
SoundState (Closes statement under) = IsOpen statement × IsFormedStatement statement × SoundFrames under
SoundState (Bounded bound under) = SoundFrames under
SoundState (Opens test) = SoundTest test
SoundState (Chooses test at under) = IsFormed test × SoundFrames under
SoundState (Answers at under) = SoundFrames under
SoundState (Defaults front braces at) = (labels_of braces ≡ true) × AreFormedItems (labels_of braces) front × SoundBraces braces
SoundState (Loops bound at under) = SoundFrames under
SoundState (LoopStarts bound at under) = SoundFrames under
SoundState (LoopTests bound start at under) = IsFormedStart start × SoundFrames under
SoundState (LoopSteps bound start test at under) = IsFormedStart start × IsFormedOption test × SoundFrames under
SoundState (Specified all at scope) = IsSome all × SoundScope scope
SoundState (Named proto) = SoundProto proto
SoundState (Further head) = SoundHead head
SoundState (Declares declarator) = SoundDeclarator declarator
SoundState (Sizing declarator) = SoundDeclarator declarator
SoundState (Shaped declarator shape) = IsFormedShape shape × SoundDeclarator declarator
SoundState (Initial head name shape at) = IsFormedShape shape × SoundHead head
SoundState (Listed head name shape front at) = AreSome front × AreFormed front × IsFormedShape shape × SoundHead head
SoundState (Ended head object) = IsFormedObject object × SoundHead head
SoundState (ParamsOpen proto) = SoundProto proto
SoundState (ParamNext proto front) = IsSomeRow front × EachOf IsFormedParam front × SoundProto proto
SoundState (ParamSpecified proto front all at) = EachOf IsFormedParam front × IsSome all × SoundProto proto
SoundState (ParamsDone proto params) = EachOf IsFormedParam params × SoundProto proto

-- tokens that agree with the one agree with the other
pub record Implies (all whole : List Mark) : Type 0 where
  pub holds : (ts : List Spoken) → Agree all ts → Agree whole ts

-- the state is sound, and with what comes next it is these marks
abbrev pub Keeps : Moved → List Mark → List Mark → Type 0
Keeps Stuck rest all = Unit {0}
Keeps (Goes state) rest all = SoundState state × Implies all (around state rest)
