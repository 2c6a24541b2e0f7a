-- No step makes the least depth of the unit fall.
use Rattle.std.proofs.Common.{ℕ, ◌+◌, ◌≤◌, max, List, [], ◌∷◌, Bool, true, false, cond, arith}
use Rattle.std.specs.Prelude.{Option, Some, None, nat_le}
use Rattle.c_tree.specs.declared.token.TokenKind.TheVariants as kinds
use Rattle.c_tree.specs.declared.expression.Specifier.{Specifier}
use Rattle.c_tree.specs.declared.expression.BinaryOperator.TheVariants as binary
use Rattle.c_tree.specs.Said as lexemes
use Rattle.c_tree.specs.Said.{Lexeme, Plain}
use Rattle.c_tree.specs.Size.{size, size_all, size_row, size_optional, size_shape, size_object, size_param, size_start, size_statement, size_items, size_external}
use Rattle.c_tree.specs.Spelling.{Spoken}
use Rattle.c_tree.specs.Formed.{place}
use Rattle.c_tree.specs.Tree as trees
use Rattle.c_tree.specs.declared.pragma.Pragma.{Pragma}
use Rattle.c_tree.specs.Tree.{Row, Nothing, Expr, Name, Postfix, Prefix, Cast, Binary, Conditional, Assign, Exprs, NoExpr, Shape, Scalar, Value, Absent, Object, Declared, Param, Parameter, ForStart, Statement, Return, Do, If, IfElse, While, For, Items, External}
use Rattle.parse_grammar.specs.Begun.{Bytes, Header, Heads, Frames, InItems, InThen, InElse, InWhile, InDo, InFor, Braces, OfBlock, OfSwitch, OfFunction, Scope, AtFile, AmongItems, AtFor, Head, Heading, Proto, Signs, Declarator, OfObject, OfParam, Test, OfIf, OfWhile, OfDo, OfChoice, Purpose, Evaluates, Returns, Tests, Starts, Guards, Repeats, Sizes, Initialises, Lists, Labels, Stack, Base, InParen, InIndex, InCall, AfterPrefix, AfterCast, AfterJoin, AfterQuestion, AfterColon, AfterAssign, demand, State, Wants, Has, Opened, Typed, Called, File, Among, Begins, Stands, Closes, Bounded, Opens, Chooses, Answers, Defaults, Loops, LoopStarts, LoopTests, LoopSteps, Specified, Named, Further, Declares, Sizing, Shaped, Initial, Listed, Ended, ParamsOpen, ParamNext, ParamSpecified, ParamsDone}
use Rattle.parse_grammar.specs.Machine.{Moved, Goes, Stuck, Role, Joins, Assigns, Steps, Asks, Separates, OpensParen, ClosesParen, OpensBracket, ClosesBracket, role, reach, only_if, begin, enter, leave, go_on, opened, typed, cast_ends, called, begin_statement, begin_loop, close, label, item, among, settle, semicolon, paren, brace, colon, answers, loop_starts, loop_tests, loop_steps, file_item, first_name, specified, shaped, declares, named, further, sizing, initial, listed, param_begins, params_open, param_named, param_specified, body, params_done, object_ends, param_ends, tested, took, step, after_all, specifier_of}
use Rattle.parse_grammar.specs.Depth.{header_deep, frames_deep, braces_deep, scope_deep, head_deep, proto_deep, declarator_deep, test_deep, purpose_deep, stack_deep, deep}

-- it leads nowhere, or to a state that is at least so deep
abbrev pub Grows : ℕ → Moved → Type 0
Grows n Stuck = Unit {0}
Grows n (Goes state) = n ≤ deep state

pub header_mono : (header : Header) (a b : ℕ) → a ≤ b → header_deep header a ≤ header_deep header b
header_mono (Heads all name name_at params body_at at front) a b h = omega (arith, h)

mutual
  pub frames_mono : (under : Frames) (a b : ℕ) → a ≤ b → frames_deep under a ≤ frames_deep under b
  frames_mono (InItems front braces) a b h = braces_mono braces _ _ (omega (arith, h))
  frames_mono (InThen test at under) a b h = frames_mono under _ _ (omega (arith, h))
  frames_mono (InElse test first at under) a b h = frames_mono under _ _ (omega (arith, h))
  frames_mono (InWhile bound test at under) a b h = frames_mono under _ _ (omega (arith, h))
  frames_mono (InDo bound at under) a b h = frames_mono under _ _ (omega (arith, h))
  frames_mono (InFor bound start test last at under) a b h = frames_mono under _ _ (omega (arith, h))

  pub braces_mono : (braces : Braces) (a b : ℕ) → a ≤ b → braces_deep braces a ≤ braces_deep braces b
  braces_mono (OfBlock at under) a b h = frames_mono under _ _ (omega (arith, h))
  braces_mono (OfSwitch test at under) a b h = frames_mono under _ _ (omega (arith, h))
  braces_mono (OfFunction header) a b h = header_mono header a b h

pub scope_mono : (scope : Scope) (a b : ℕ) → a ≤ b → scope_deep scope a ≤ scope_deep scope b
scope_mono (AtFile front) a b h = omega (arith, h)
scope_mono (AmongItems front braces) a b h = braces_mono braces _ _ (omega (arith, h))
scope_mono (AtFor bound at under) a b h = frames_mono under _ _ (omega (arith, h))

pub head_mono : (head : Head) (a b : ℕ) → a ≤ b → head_deep head a ≤ head_deep head b
head_mono (Heading all objects at scope) a b h = scope_mono scope _ _ (omega (arith, h))

pub proto_mono : (proto : Proto) (a b : ℕ) → a ≤ b → proto_deep proto a ≤ proto_deep proto b
proto_mono (Signs all name name_at at scope) a b h = scope_mono scope _ _ (omega (arith, h))

pub declarator_mono : (declarator : Declarator) (a b : ℕ) → a ≤ b → declarator_deep declarator a ≤ declarator_deep declarator b
declarator_mono (OfObject head name at) a b h = head_mono head _ _ (omega (arith, h))
declarator_mono (OfParam proto front all name at) a b h = proto_mono proto _ _ (omega (arith, h))

pub test_mono : (test : Test) (a b : ℕ) → a ≤ b → test_deep test a ≤ test_deep test b
test_mono (OfIf at under) a b h = frames_mono under _ _ (omega (arith, h))
test_mono (OfWhile bound at under) a b h = frames_mono under _ _ (omega (arith, h))
test_mono (OfDo bound body at under) a b h = frames_mono under _ _ (omega (arith, h))
test_mono (OfChoice at under) a b h = frames_mono under _ _ (omega (arith, h))

pub purpose_mono : (purpose : Purpose) (a b : ℕ) → a ≤ b → purpose_deep purpose a ≤ purpose_deep purpose b
purpose_mono (Evaluates under) a b h = frames_mono under _ _ (omega (arith, h))
purpose_mono (Returns at under) a b h = frames_mono under _ _ (omega (arith, h))
purpose_mono (Tests test) a b h = test_mono test a b h
purpose_mono (Starts bound at under) a b h = frames_mono under _ _ (omega (arith, h))
purpose_mono (Guards bound start at under) a b h = frames_mono under _ _ (omega (arith, h))
purpose_mono (Repeats bound start test at under) a b h = frames_mono under _ _ (omega (arith, h))
purpose_mono (Sizes declarator) a b h = declarator_mono declarator a b h
purpose_mono (Initialises head name shape at) a b h = head_mono head _ _ (omega (arith, h))
purpose_mono (Lists head name shape front at) a b h = head_mono head _ _ (omega (arith, h))
purpose_mono (Labels front braces at) a b h = braces_mono braces _ _ (omega (arith, h))

pub stack_mono : (under : Stack) (a b : ℕ) → a ≤ b → stack_deep under a ≤ stack_deep under b
stack_mono (Base purpose) a b h = purpose_mono purpose a b h
stack_mono (InParen at under) a b h = stack_mono under _ _ (omega (arith, h))
stack_mono (InIndex array at under) a b h = stack_mono under _ _ (omega (arith, h))
stack_mono (InCall function at front under) a b h = stack_mono under _ _ (omega (arith, h))
stack_mono (AfterPrefix operator at under) a b h = stack_mono under _ _ (omega (arith, h))
stack_mono (AfterCast all at under) a b h = stack_mono under _ _ (omega (arith, h))
stack_mono (AfterJoin operator left under) a b h = stack_mono under _ _ (omega (arith, h))
stack_mono (AfterQuestion test under) a b h = stack_mono under _ _ (omega (arith, h))
stack_mono (AfterColon test first under) a b h = stack_mono under _ _ (omega (arith, h))
stack_mono (AfterAssign operator target under) a b h = stack_mono under _ _ (omega (arith, h))

-- each tree has a node
pub some_depth : (t : Expr Bytes) → 1 ≤ (size t).depth
some_depth (Name name at) = omega arith
some_depth _ = omega arith

some_statement : (s : Statement Bytes) → 1 ≤ (size_statement s).depth
some_statement (trees.Empty at) = omega arith
some_statement _ = omega arith

grows_cond : (b : Bool) (n : ℕ) (x y : Moved) → Grows n x → Grows n y → Grows n (cond b x y)
grows_cond true n x y f g = f
grows_cond false n x y f g = g

grows_only : (b : Bool) (n : ℕ) (state : State) → n ≤ deep state → Grows n (only_if b state)
grows_only true n state h = h
grows_only false n state h = tt

grows_below : (o : Moved) (m n : ℕ) → m ≤ n → Grows n o → Grows m o
grows_below Stuck m n h g = tt
grows_below (Goes state) m n h g = omega (arith, h, g)

grows_begin : (said : Lexeme) (at : ℕ) (under : Stack) → Grows (stack_deep under 1) (begin said at under)
grows_begin (lexemes.Name name) at under = omega arith
grows_begin (lexemes.Integer constant) at under = omega arith
grows_begin (lexemes.Character value) at under = omega arith
grows_begin (Plain kinds.LeftParen) at under = stack_mono under _ _ (omega arith)
grows_begin (Plain kinds.PlusPlus) at under = stack_mono under _ _ (omega arith)
grows_begin (Plain kinds.MinusMinus) at under = stack_mono under _ _ (omega arith)
grows_begin (Plain kinds.Minus) at under = stack_mono under _ _ (omega arith)
grows_begin (Plain kinds.Plus) at under = stack_mono under _ _ (omega arith)
grows_begin (Plain kinds.Tilde) at under = stack_mono under _ _ (omega arith)
grows_begin (Plain kinds.Exclamation) at under = stack_mono under _ _ (omega arith)
grows_begin _ at under = tt

grows_enter : (r : Role) (tree : Expr Bytes) (under : Stack) → Grows (stack_deep under (size tree).depth) (enter r tree under)
grows_enter (Joins operator) tree under = grows_only (nat_le _ _) _ (Wants (AfterJoin operator tree under)) (stack_mono under _ _ (omega arith))
grows_enter (Assigns operator) tree under = grows_only (nat_le _ _) _ (Wants (AfterAssign operator tree under)) (stack_mono under _ _ (omega arith))
grows_enter (Steps operator) tree under = grows_only (nat_le _ _) _ (Has (Postfix operator tree (place tree)) under) (stack_mono under _ _ (omega arith))
grows_enter Asks tree under = grows_only (nat_le _ _) _ (Wants (AfterQuestion tree under)) (stack_mono under _ _ (omega arith))
grows_enter OpensParen (Name name at) under = omega arith
grows_enter OpensBracket (Name name at) under = stack_mono under _ _ (omega arith)
grows_enter _ tree under = tt

begin_in : (m : ℕ) (said : Lexeme) (here : ℕ) (under : Stack) → m ≤ stack_deep under 1 → Grows m (begin said here under)
begin_in m said here under h = grows_below (begin said here under) m (stack_deep under 1) h (grows_begin said here under)

grows_object_ends : (said : Lexeme) (head : Head) (object : Object Bytes) → Grows (head_deep head (size_object object).depth) (object_ends said head object)
grows_object_ends (Plain kinds.Comma) (Heading all objects at scope) object = scope_mono scope _ _ (omega arith)
grows_object_ends (Plain kinds.Semicolon) (Heading all objects at (AtFile front)) object = omega arith
grows_object_ends (Plain kinds.Semicolon) (Heading all objects at (AmongItems front braces)) object = omega arith
grows_object_ends (Plain kinds.Semicolon) (Heading all objects at (AtFor bound here under)) object = omega arith
grows_object_ends _ head object = tt

grows_param_ends : (said : Lexeme) (proto : Proto) (front : Row (Param Bytes)) (param : Param Bytes) → Grows (proto_deep proto (max (size_row size_param front).depth (size_param param).depth)) (param_ends said proto front param)
grows_param_ends (Plain kinds.Comma) proto front param = omega arith
grows_param_ends (Plain kinds.RightParen) proto front param = omega arith
grows_param_ends _ proto front param = tt

grows_tested : (test : Test) (tree : Expr Bytes) → test_deep test (size tree).depth ≤ deep (tested test tree)
grows_tested (OfIf at under) tree = frames_mono under _ _ (omega arith)
grows_tested (OfWhile bound at under) tree = frames_mono under _ _ (omega arith)
grows_tested (OfDo bound body at under) tree = omega arith
grows_tested (OfChoice at under) tree = omega arith

grows_took : (purpose : Purpose) (said : Lexeme) (tree : Expr Bytes) → Grows (purpose_deep purpose (size tree).depth) (took purpose said tree)
grows_took (Evaluates under) (Plain kinds.Semicolon) tree = omega arith
grows_took (Returns at under) (Plain kinds.Semicolon) tree = omega arith
grows_took (Tests test) (Plain kinds.RightParen) tree = grows_tested test tree
grows_took (Starts bound at under) (Plain kinds.Semicolon) tree = omega arith
grows_took (Guards bound start at under) (Plain kinds.Semicolon) tree = omega arith
grows_took (Repeats bound start test at under) (Plain kinds.RightParen) tree = frames_mono under _ _ (omega arith)
grows_took (Sizes declarator) (Plain kinds.RightBracket) tree = omega arith
grows_took (Initialises head name shape at) said tree = grows_object_ends said head (Declared name shape (Value tree) at)
grows_took (Lists head name shape front at) (Plain kinds.Comma) tree = omega arith
grows_took (Lists head name shape front at) (Plain kinds.RightBrace) tree = omega arith
grows_took (Labels front braces at) (Plain kinds.Colon) tree = omega arith
grows_took _ said tree = tt

grows_leave : (under : Stack) (r : Role) (said : Lexeme) (tree : Expr Bytes) → Grows (stack_deep under (size tree).depth) (leave under r said tree)
grows_leave (AfterPrefix operator at under) r said tree = grows_cond (nat_le (reach r) (demand under)) _ _ _ (grows_enter r (Prefix operator tree at) under) (grows_leave under r said (Prefix operator tree at))
grows_leave (AfterCast all at under) r said tree = grows_cond (nat_le (reach r) (demand under)) _ _ _ (grows_enter r (Cast all tree at) under) (grows_leave under r said (Cast all tree at))
grows_leave (AfterJoin operator left under) r said tree = grows_cond (nat_le (reach r) (demand under)) _ _ _ (grows_enter r (Binary operator left tree (place left)) under) (grows_leave under r said (Binary operator left tree (place left)))
grows_leave (AfterColon test first under) r said tree = grows_cond (nat_le (reach r) (demand under)) _ _ _ (grows_enter r (Conditional test first tree (place test)) under) (grows_leave under r said (Conditional test first tree (place test)))
grows_leave (AfterAssign operator target under) r said tree = grows_cond (nat_le (reach r) (demand under)) _ _ _ (grows_enter r (Assign operator target tree (place target)) under) (grows_leave under r said (Assign operator target tree (place target)))
grows_leave (InParen at under) ClosesParen said tree = omega arith
grows_leave (InIndex array at under) ClosesBracket said tree = omega arith
grows_leave (InCall function at front under) ClosesParen said tree = omega arith
grows_leave (InCall function at front under) (Joins binary.Comma) said tree = stack_mono under _ _ (omega arith)
grows_leave (AfterQuestion test under) Separates said tree = stack_mono under _ _ (omega arith)
grows_leave (Base purpose) r said tree = grows_took purpose said tree
grows_leave _ r said tree = tt

grows_has : (r : Role) (said : Lexeme) (tree : Expr Bytes) (under : Stack) → Grows (stack_deep under (size tree).depth) (go_on r said tree under)
grows_has r said tree under = grows_cond (nat_le (reach r) (demand under)) _ _ _ (grows_enter r tree under) (grows_leave under r said tree)

grows_opened : (o : Option Specifier) (said : Lexeme) (here at : ℕ) (under : Stack) → Grows (stack_deep under 2) (opened o said here at under)
grows_opened None said here at under = grows_begin said here (InParen at under)
grows_opened (Some word) said here at under = omega arith

grows_cast : (said : Lexeme) (all : List Specifier) (at : ℕ) (under : Stack) → Grows (stack_deep under 2) (cast_ends said all at under)
grows_cast (Plain kinds.RightParen) all at under = omega arith
grows_cast _ all at under = tt

grows_typed : (o : Option Specifier) (said : Lexeme) (all : List Specifier) (at : ℕ) (under : Stack) → Grows (stack_deep under 2) (typed o said all at under)
grows_typed None said all at under = grows_cast said all at under
grows_typed (Some word) said all at under = omega arith

grows_called : (said : Lexeme) (here : ℕ) (function : Bytes) (at : ℕ) (under : Stack) → Grows (stack_deep under 1) (called said here function at under)
grows_called (Plain kinds.RightParen) here function at under = omega arith
grows_called said here function at under = begin_in (stack_deep under 1) said here (InCall function at NoExpr under) (stack_mono under _ _ (omega arith))

grows_begin_statement : (said : Lexeme) (at : ℕ) (under : Frames) → Grows (frames_deep under 1) (begin_statement said at under)
grows_begin_statement (Plain kinds.Semicolon) at under = omega arith
grows_begin_statement (Plain kinds.LeftBrace) at under = omega arith
grows_begin_statement (Plain kinds.If) at under = frames_mono under _ _ (omega arith)
grows_begin_statement (Plain kinds.While) at under = frames_mono under _ _ (omega arith)
grows_begin_statement (Plain kinds.Do) at under = frames_mono under _ _ (omega arith)
grows_begin_statement (Plain kinds.For) at under = omega arith
grows_begin_statement (Plain kinds.Switch) at under = frames_mono under _ _ (omega arith)
grows_begin_statement (Plain kinds.Break) at under = omega arith
grows_begin_statement (Plain kinds.Continue) at under = omega arith
grows_begin_statement (Plain kinds.Return) at under = omega arith
grows_begin_statement (lexemes.Pragma kinds.Marker bytes) at under = omega arith
grows_begin_statement (lexemes.Pragma kinds.LoopBound bytes) at under = omega arith
grows_begin_statement said at under = begin_in (frames_deep under 1) said at (Base (Evaluates under)) (frames_mono under _ _ (omega arith))

grows_begin_loop : (said : Lexeme) (at : ℕ) (bound : Pragma) (under : Frames) → Grows (frames_deep under 1) (begin_loop said at bound under)
grows_begin_loop (Plain kinds.While) at bound under = frames_mono under _ _ (omega arith)
grows_begin_loop (Plain kinds.Do) at bound under = frames_mono under _ _ (omega arith)
grows_begin_loop (Plain kinds.For) at bound under = omega arith
grows_begin_loop _ at bound under = tt

grows_close : (braces : Braces) (items : Items Bytes) → braces_deep braces (size_items items).depth ≤ deep (close braces items)
grows_close (OfBlock at under) items = omega arith
grows_close (OfSwitch test at under) items = omega arith
grows_close (OfFunction (Heads all name name_at params body_at at front)) items = omega arith

grows_label : (braces : Braces) (n : ℕ) (state : State) → n ≤ deep state → Grows n (label braces state)
grows_label (OfSwitch test at under) n state h = h
grows_label _ n state h = tt

grows_item : (said : Lexeme) (at : ℕ) (front : Items Bytes) (braces : Braces) → Grows (braces_deep braces (size_items front).depth) (item said at front braces)
grows_item (Plain kinds.RightBrace) at front braces = grows_close braces front
grows_item (lexemes.Pragma kinds.FlowRestriction bytes) at front braces = braces_mono braces _ _ (omega arith)
grows_item (Plain kinds.Case) at front braces = grows_label braces _ (Wants (Base (Labels front braces at))) (braces_mono braces _ _ (omega arith))
grows_item (Plain kinds.Default) at front braces = grows_label braces _ (Defaults front braces at) (braces_mono braces _ _ (omega arith))
grows_item said at front braces = grows_below (begin_statement said at (InItems front braces)) (braces_deep braces (size_items front).depth) (frames_deep (InItems front braces) 1) (braces_mono braces _ _ (omega arith)) (grows_begin_statement said at (InItems front braces))

grows_among : (o : Option Specifier) (said : Lexeme) (at : ℕ) (front : Items Bytes) (braces : Braces) → Grows (braces_deep braces (size_items front).depth) (among o said at front braces)
grows_among None said at front braces = grows_item said at front braces
grows_among (Some word) said at front braces = braces_mono braces _ _ (omega arith)

grows_settle : (under : Frames) (said : Lexeme) (here : ℕ) (s : Statement Bytes) → Grows (frames_deep under (size_statement s).depth) (settle under said here s)
grows_settle (InItems front braces) said here s = grows_among (specifier_of said) said here (trees.AndStatement front s) braces
grows_settle (InThen test at under) (Plain kinds.Else) here s = frames_mono under _ _ (omega (arith, some_statement s))
grows_settle (InThen test at under) said here s = grows_settle under said here (If test s at)
grows_settle (InElse test first at under) said here s = grows_settle under said here (IfElse test first s at)
grows_settle (InWhile bound test at under) said here s = grows_settle under said here (While bound test s at)
grows_settle (InFor bound start test last at under) said here s = grows_settle under said here (For bound start test last s at)
grows_settle (InDo bound at under) (Plain kinds.While) here s = frames_mono under _ _ (omega arith)
grows_settle (InDo bound at under) _ here s = tt

grows_semicolon : (said : Lexeme) (n : ℕ) (state : State) → n ≤ deep state → Grows n (semicolon said state)
grows_semicolon (Plain kinds.Semicolon) n state h = h
grows_semicolon _ n state h = tt

grows_paren : (said : Lexeme) (n : ℕ) (state : State) → n ≤ deep state → Grows n (paren said state)
grows_paren (Plain kinds.LeftParen) n state h = h
grows_paren _ n state h = tt

grows_brace : (said : Lexeme) (n : ℕ) (state : State) → n ≤ deep state → Grows n (brace said state)
grows_brace (Plain kinds.LeftBrace) n state h = h
grows_brace _ n state h = tt

grows_colon : (said : Lexeme) (n : ℕ) (state : State) → n ≤ deep state → Grows n (colon said state)
grows_colon (Plain kinds.Colon) n state h = h
grows_colon _ n state h = tt

grows_answers : (said : Lexeme) (here at : ℕ) (under : Frames) → Grows (frames_deep under 1) (answers said here at under)
grows_answers (Plain kinds.Semicolon) here at under = omega arith
grows_answers said here at under = begin_in (frames_deep under 1) said here (Base (Returns at under)) (frames_mono under _ _ (omega arith))

grows_loop_starts : (o : Option Specifier) (said : Lexeme) (here : ℕ) (bound : Option Pragma) (at : ℕ) (under : Frames) → Grows (frames_deep under 1) (loop_starts o said here bound at under)
grows_loop_starts (Some word) said here bound at under = frames_mono under _ _ (omega arith)
grows_loop_starts None (Plain kinds.Semicolon) here bound at under = omega arith
grows_loop_starts None said here bound at under = begin_in (frames_deep under 1) said here (Base (Starts bound at under)) (frames_mono under _ _ (omega arith))

grows_loop_tests : (said : Lexeme) (here : ℕ) (bound : Option Pragma) (start : ForStart Bytes) (at : ℕ) (under : Frames) → Grows (frames_deep under ((size_start start).depth + 1)) (loop_tests said here bound start at under)
grows_loop_tests (Plain kinds.Semicolon) here bound start at under = frames_mono under _ _ (omega arith)
grows_loop_tests said here bound start at under = begin_in (frames_deep under ((size_start start).depth + 1)) said here (Base (Guards bound start at under)) (frames_mono under _ _ (omega arith))

grows_loop_steps : (said : Lexeme) (here : ℕ) (bound : Option Pragma) (start : ForStart Bytes) (test : Option (Expr Bytes)) (at : ℕ) (under : Frames) → Grows (frames_deep under (max (size_start start).depth (size_optional test).depth + 1)) (loop_steps said here bound start test at under)
grows_loop_steps (Plain kinds.RightParen) here bound start test at under = frames_mono under _ _ (omega arith)
grows_loop_steps said here bound start test at under = begin_in (frames_deep under (max (size_start start).depth (size_optional test).depth + 1)) said here (Base (Repeats bound start test at under)) (frames_mono under _ _ (omega arith))

grows_file : (o : Option Specifier) (said : Lexeme) (here : ℕ) (front : Row (External Bytes)) → Grows ((size_row size_external front).depth + 1) (file_item o said here front)
grows_file (Some word) said here front = omega arith
grows_file None (lexemes.Pragma kinds.FlowRestriction bytes) here front = omega arith
grows_file None _ here front = tt

grows_first_name : (said : Lexeme) (here : ℕ) (all : List Specifier) (at : ℕ) (scope : Scope) → Grows (scope_deep scope 1) (first_name said here all at scope)
grows_first_name (lexemes.Name name) here all at scope = scope_mono scope _ _ (omega arith)
grows_first_name _ here all at scope = tt

grows_specified : (o : Option Specifier) (said : Lexeme) (here : ℕ) (all : List Specifier) (at : ℕ) (scope : Scope) → Grows (scope_deep scope 1) (specified o said here all at scope)
grows_specified None said here all at scope = grows_first_name said here all at scope
grows_specified (Some word) said here all at scope = omega arith

grows_shaped : (said : Lexeme) (declarator : Declarator) (shape : Shape Bytes) → Grows (declarator_deep declarator (size_shape shape).depth) (shaped said declarator shape)
grows_shaped (Plain kinds.Equal) (OfObject head name at) shape = omega arith
grows_shaped said (OfObject head name at) shape = grows_below (object_ends said head (Declared name shape Absent at)) (head_deep head ((size_shape shape).depth + 1)) (head_deep head (size_object (Declared name shape Absent at)).depth) (head_mono head _ _ (omega arith)) (grows_object_ends said head (Declared name shape Absent at))
grows_shaped said (OfParam proto front all name at) shape = grows_param_ends said proto front (Parameter all name shape at)

grows_declares : (said : Lexeme) (declarator : Declarator) → Grows (declarator_deep declarator 0) (declares said declarator)
grows_declares (Plain kinds.LeftBracket) declarator = omega arith
grows_declares said declarator = grows_shaped said declarator Scalar

grows_named : (said : Lexeme) (proto : Proto) → Grows (proto_deep proto 0) (named said proto)
grows_named (Plain kinds.LeftParen) proto = omega arith
grows_named said (Signs all name name_at at scope) = grows_below (declares said (OfObject (Heading all Nothing at scope) name name_at)) (scope_deep scope (0 + 1)) (declarator_deep (OfObject (Heading all Nothing at scope) name name_at) 0) (scope_mono scope _ _ (omega arith)) (grows_declares said (OfObject (Heading all Nothing at scope) name name_at))

grows_further : (said : Lexeme) (here : ℕ) (head : Head) → Grows (head_deep head 1) (further said here head)
grows_further (lexemes.Name name) here head = head_mono head _ _ (omega arith)
grows_further _ here head = tt

grows_sizing : (said : Lexeme) (here : ℕ) (declarator : Declarator) → Grows (declarator_deep declarator 0) (sizing said here declarator)
grows_sizing (Plain kinds.RightBracket) here declarator = omega arith
grows_sizing said here declarator = begin_in (declarator_deep declarator 0) said here (Base (Sizes declarator)) (declarator_mono declarator _ _ (omega arith))

grows_initial : (said : Lexeme) (here : ℕ) (head : Head) (name : Bytes) (shape : Shape Bytes) (at : ℕ) → Grows (head_deep head ((size_shape shape).depth + 1)) (initial said here head name shape at)
grows_initial (Plain kinds.LeftBrace) here head name shape at = head_mono head _ _ (omega arith)
grows_initial said here head name shape at = begin_in (head_deep head ((size_shape shape).depth + 1)) said here (Base (Initialises head name shape at)) (head_mono head _ _ (omega arith))

grows_listed : (said : Lexeme) (here : ℕ) (head : Head) (name : Bytes) (shape : Shape Bytes) (front : Exprs Bytes) (at : ℕ) → Grows (head_deep head (max (size_shape shape).depth (size_all front).depth + 1)) (listed said here head name shape front at)
grows_listed (Plain kinds.RightBrace) here head name shape front at = omega arith
grows_listed said here head name shape front at = begin_in (head_deep head (max (size_shape shape).depth (size_all front).depth + 1)) said here (Base (Lists head name shape front at)) (head_mono head _ _ (omega arith))

grows_param_begins : (o : Option Specifier) (here : ℕ) (proto : Proto) (front : Row (Param Bytes)) → Grows (proto_deep proto (size_row size_param front).depth) (param_begins o here proto front)
grows_param_begins None here proto front = tt
grows_param_begins (Some word) here proto front = proto_mono proto _ _ (omega arith)

grows_params_open : (said : Lexeme) (here : ℕ) (proto : Proto) → Grows (proto_deep proto 0) (params_open said here proto)
grows_params_open (Plain kinds.RightParen) here proto = omega arith
grows_params_open said here proto = grows_param_begins (specifier_of said) here proto Nothing

grows_param_named : (said : Lexeme) (proto : Proto) (front : Row (Param Bytes)) (all : List Specifier) (at : ℕ) → Grows (proto_deep proto (max (size_row size_param front).depth 1)) (param_named said proto front all at)
grows_param_named (lexemes.Name name) proto front all at = omega arith
grows_param_named said proto front all at = grows_declares said (OfParam proto front all None at)

grows_param_specified : (o : Option Specifier) (said : Lexeme) (proto : Proto) (front : Row (Param Bytes)) (all : List Specifier) (at : ℕ) → Grows (proto_deep proto (max (size_row size_param front).depth 1)) (param_specified o said proto front all at)
grows_param_specified None said proto front all at = grows_param_named said proto front all at
grows_param_specified (Some word) said proto front all at = omega arith

grows_body : (proto : Proto) (params : Row (Param Bytes)) (here : ℕ) → Grows (proto_deep proto (size_row size_param params).depth) (body proto params here)
grows_body (Signs all name name_at at (AtFile front)) params here = omega arith
grows_body (Signs all name name_at at (AmongItems front braces)) params here = tt
grows_body (Signs all name name_at at (AtFor bound here_at under)) params here = tt

grows_params_done : (said : Lexeme) (here : ℕ) (proto : Proto) (params : Row (Param Bytes)) → Grows (proto_deep proto (size_row size_param params).depth) (params_done said here proto params)
grows_params_done (Plain kinds.Semicolon) here (Signs all name name_at at (AtFile front)) params = omega arith
grows_params_done (Plain kinds.Semicolon) here (Signs all name name_at at (AmongItems front braces)) params = omega arith
grows_params_done (Plain kinds.Semicolon) here (Signs all name name_at at (AtFor bound here_at under)) params = omega arith
grows_params_done (Plain kinds.LeftBrace) here proto params = grows_body proto params here
grows_params_done _ here proto params = tt

pub grows : (state : State) (token : Spoken) → Grows (deep state) (step state token)
grows (Wants under) token = grows_begin token.said token.at under
grows (Has tree under) token = grows_has (role token.said) token.said tree under
grows (Opened at under) token = grows_opened (specifier_of token.said) token.said token.at at under
grows (Typed all at under) token = grows_typed (specifier_of token.said) token.said all at under
grows (Called function at under) token = grows_called token.said token.at function at under
grows (File front) token = grows_file (specifier_of token.said) token.said token.at front
grows (Among front braces) token = grows_among (specifier_of token.said) token.said token.at front braces
grows (Begins under) token = grows_begin_statement token.said token.at under
grows (Stands statement under) token = grows_settle under token.said token.at statement
grows (Closes statement under) token = grows_semicolon token.said _ (Stands statement under) (omega arith)
grows (Bounded bound under) token = grows_begin_loop token.said token.at bound under
grows (Opens test) token = grows_paren token.said _ (Wants (Base (Tests test))) (omega arith)
grows (Chooses test at under) token = grows_brace token.said _ (Among trees.NoItem (OfSwitch test at under)) (frames_mono under _ _ (omega arith))
grows (Answers at under) token = grows_answers token.said token.at at under
grows (Defaults front braces at) token = grows_colon token.said _ (Among (trees.AndLabel front (trees.Default at)) braces) (omega arith)
grows (Loops bound at under) token = grows_paren token.said _ (LoopStarts bound at under) (omega arith)
grows (LoopStarts bound at under) token = grows_loop_starts (specifier_of token.said) token.said token.at bound at under
grows (LoopTests bound start at under) token = grows_loop_tests token.said token.at bound start at under
grows (LoopSteps bound start test at under) token = grows_loop_steps token.said token.at bound start test at under
grows (Specified all at scope) token = grows_specified (specifier_of token.said) token.said token.at all at scope
grows (Named proto) token = grows_named token.said proto
grows (Further head) token = grows_further token.said token.at head
grows (Declares declarator) token = grows_declares token.said declarator
grows (Sizing declarator) token = grows_sizing token.said token.at declarator
grows (Shaped declarator shape) token = grows_shaped token.said declarator shape
grows (Initial head name shape at) token = grows_initial token.said token.at head name shape at
grows (Listed head name shape front at) token = grows_listed token.said token.at head name shape front at
grows (Ended head object) token = grows_object_ends token.said head object
grows (ParamsOpen proto) token = grows_params_open token.said token.at proto
grows (ParamNext proto front) token = grows_param_begins (specifier_of token.said) token.at proto front
grows (ParamSpecified proto front all at) token = grows_param_specified (specifier_of token.said) token.said proto front all at
grows (ParamsDone proto params) token = grows_params_done token.said token.at proto params

-- along a run
pub run_grows : (tokens : List Spoken) (n : ℕ) (o : Moved) → Grows n o → Grows n (after_all o tokens)
run_grows tokens n Stuck g = stays tokens
  where
    stays : (tokens : List Spoken) → Grows n (after_all Stuck tokens)
    stays [] = tt
    stays (t ∷ ts) = tt
run_grows [] n (Goes state) g = g
run_grows (token ∷ tokens) n (Goes state) g = run_grows tokens n (step state token) (grows_below (step state token) n (deep state) g (grows state token))
