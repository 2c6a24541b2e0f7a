-- No step makes what was there before its newest part deeper than what had begun.
use Rattle.std.proofs.Common.{◌≡◌, refl, ℕ, ◌+◌, ◌≤◌, max, List, Bool, true, false, cond, arith}
use Rattle.std.specs.Prelude.{Option, Some, None, nat_le}
use Rattle.std.proofs.lemmas.Bool.Decides.{nat_tests}
use Rattle.c_tree.specs.declared.token.TokenKind.TheVariants as kinds
use Rattle.c_tree.specs.declared.expression.Specifier.{Specifier}
use Rattle.c_tree.specs.declared.expression.BinaryOperator.TheVariants as binary
use Rattle.c_tree.specs.Said as lexemes
use Rattle.c_tree.specs.Said.{Lexeme, Plain}
use Rattle.c_tree.specs.Size.{size, size_all, size_row, size_optional, size_shape, size_object, size_param, size_start, size_statement, size_items, size_external}
use Rattle.c_tree.specs.Spelling.{Spoken}
use Rattle.c_tree.specs.Formed.{place}
use Rattle.c_tree.specs.Tree as trees
use Rattle.c_tree.specs.declared.pragma.Pragma.{Pragma}
use Rattle.c_tree.specs.Tree.{Row, Nothing, Expr, Name, Postfix, Prefix, Cast, Binary, Conditional, Assign, Exprs, NoExpr, Shape, Scalar, Value, Absent, Object, Declared, Param, Parameter, ForStart, Statement, Return, Do, If, IfElse, While, For, Items, External}
use Rattle.parse_grammar.specs.Begun.{Bytes, Heads, Frames, InItems, InThen, InElse, InWhile, InDo, InFor, Braces, OfBlock, OfSwitch, OfFunction, Scope, AtFile, AmongItems, AtFor, Head, Heading, Proto, Signs, Declarator, OfObject, OfParam, Test, OfIf, OfWhile, OfDo, OfChoice, Purpose, Evaluates, Returns, Tests, Starts, Guards, Repeats, Sizes, Initialises, Lists, Labels, Stack, Base, InParen, InIndex, InCall, AfterPrefix, AfterCast, AfterJoin, AfterQuestion, AfterColon, AfterAssign, demand, State, Wants, Has, Opened, Typed, Called, File, Among, Begins, Stands, Closes, Bounded, Opens, Chooses, Answers, Defaults, Loops, LoopStarts, LoopTests, LoopSteps, Specified, Named, Further, Declares, Sizing, Shaped, Initial, Listed, Ended, ParamsOpen, ParamNext, ParamSpecified, ParamsDone}
use Rattle.parse_grammar.specs.Machine.{Moved, Goes, Stuck, Role, Joins, Assigns, Steps, Asks, Separates, OpensParen, ClosesParen, OpensBracket, ClosesBracket, role, reach, only_if, begin, enter, leave, go_on, opened, typed, cast_ends, called, begin_statement, begin_loop, close, label, item, among, settle, semicolon, paren, brace, colon, answers, loop_starts, loop_tests, loop_steps, file_item, first_name, specified, shaped, declares, named, further, sizing, initial, listed, param_begins, params_open, param_named, param_specified, body, params_done, object_ends, param_ends, tested, took, step, specifier_of}
use Rattle.parse_grammar.specs.Depth.{frames_deep, braces_deep, scope_deep, head_deep, proto_deep, declarator_deep, test_deep, purpose_deep, stack_deep, deep}
use Rattle.parse_grammar.proofs.Grows.{braces_mono, scope_mono, head_mono, proto_mono}
use Rattle.parse_depth.specs.Before.{frames_before, stack_before, items_before, before}
use Rattle.parse_depth.proofs.Befores.{frames_hold, braces_hold, scope_hold, head_hold, proto_hold, declarator_hold, test_hold, stack_hold, arguments_hold, listed_hold, objects_hold, items_hold, among_hold, both}

-- it leads nowhere, or to a state before whose newest part stands what is at most so deep
abbrev pub Holds : ℕ → Moved → Type 0
Holds n Stuck = Unit {0}
Holds n (Goes state) = before state ≤ n

holds_cond : (b : Bool) (n : ℕ) (x y : Moved) → Holds n x → Holds n y → Holds n (cond b x y)
holds_cond true n x y f g = f
holds_cond false n x y f g = g

holds_only : (b : Bool) (n : ℕ) (state : State) → before state ≤ n → Holds n (only_if b state)
holds_only true n state h = h
holds_only false n state h = tt

holds_begin : (n : ℕ) (said : Lexeme) (at : ℕ) (under : Stack) → stack_before under ≤ n → Holds n (begin said at under)
holds_begin n (lexemes.Name name) at under h = h
holds_begin n (lexemes.Integer constant) at under h = h
holds_begin n (lexemes.Character value) at under h = h
holds_begin n (Plain kinds.LeftParen) at under h = h
holds_begin n (Plain kinds.PlusPlus) at under h = h
holds_begin n (Plain kinds.MinusMinus) at under h = h
holds_begin n (Plain kinds.Minus) at under h = h
holds_begin n (Plain kinds.Plus) at under h = h
holds_begin n (Plain kinds.Tilde) at under h = h
holds_begin n (Plain kinds.Exclamation) at under h = h
holds_begin n _ at under h = tt

holds_enter : (n : ℕ) (r : Role) (tree : Expr Bytes) (under : Stack) → stack_before under ≤ n → Holds n (enter r tree under)
holds_enter n (Joins operator) tree under h = holds_only (nat_le _ _) n (Wants (AfterJoin operator tree under)) h
holds_enter n (Assigns operator) tree under h = holds_only (nat_le _ _) n (Wants (AfterAssign operator tree under)) h
holds_enter n (Steps operator) tree under h = holds_only (nat_le _ _) n (Has (Postfix operator tree (place tree)) under) h
holds_enter n Asks tree under h = holds_only (nat_le _ _) n (Wants (AfterQuestion tree under)) h
holds_enter n OpensParen (Name name at) under h = h
holds_enter n OpensBracket (Name name at) under h = h
holds_enter n _ tree under h = tt

-- behind an item of at most two nodes: of items at least three deep the others are as deep
behind_small : (braces : Braces) (b : Bool) (d k n : ℕ) → k ≤ 2 → d ≤ n → nat_le 3 (max d k) ≡ b → items_before b braces (max d k) ≤ braces_deep braces n
behind_small braces true d k n h g e = braces_mono braces _ _ (grind (arith, nat_tests))
behind_small braces false d k n h g e = braces_hold braces n

holds_object_ends : (said : Lexeme) (head : Head) (object : Object Bytes) → Holds (head_deep head (size_object object).depth) (object_ends said head object)
holds_object_ends (Plain kinds.Comma) (Heading all objects at scope) object = objects_hold scope (nat_le 2 _) _ _ (scope_mono scope _ _ (omega arith))
holds_object_ends (Plain kinds.Semicolon) (Heading all objects at (AtFile front)) object = omega arith
holds_object_ends (Plain kinds.Semicolon) (Heading all objects at (AmongItems front braces)) object = among_hold braces _ _ _ (items_hold braces (nat_le 3 _) _ _ (braces_mono braces _ _ (omega arith))) (braces_mono braces _ _ (omega arith))
holds_object_ends (Plain kinds.Semicolon) (Heading all objects at (AtFor bound here under)) object = frames_hold under _
holds_object_ends _ head object = tt

holds_param_ends : (said : Lexeme) (proto : Proto) (front : Row (Param Bytes)) (param : Param Bytes) → Holds (proto_deep proto (max (size_row size_param front).depth (size_param param).depth)) (param_ends said proto front param)
holds_param_ends (Plain kinds.Comma) proto front param = proto_mono proto _ _ (omega arith)
holds_param_ends (Plain kinds.RightParen) proto front param = proto_mono proto _ _ (omega arith)
holds_param_ends _ proto front param = tt

holds_tested : (test : Test) (tree : Expr Bytes) → before (tested test tree) ≤ test_deep test (size tree).depth
holds_tested (OfIf at under) tree = frames_hold under _
holds_tested (OfWhile bound at under) tree = frames_hold under _
holds_tested (OfDo bound body at under) tree = frames_hold under _
holds_tested (OfChoice at under) tree = frames_hold under _

holds_took : (purpose : Purpose) (said : Lexeme) (tree : Expr Bytes) → Holds (purpose_deep purpose (size tree).depth) (took purpose said tree)
holds_took (Evaluates under) (Plain kinds.Semicolon) tree = frames_hold under _
holds_took (Returns at under) (Plain kinds.Semicolon) tree = frames_hold under _
holds_took (Tests test) (Plain kinds.RightParen) tree = holds_tested test tree
holds_took (Starts bound at under) (Plain kinds.Semicolon) tree = frames_hold under _
holds_took (Guards bound start at under) (Plain kinds.Semicolon) tree = frames_hold under _
holds_took (Repeats bound start test at under) (Plain kinds.RightParen) tree = frames_hold under _
holds_took (Sizes declarator) (Plain kinds.RightBracket) tree = declarator_hold declarator _
holds_took (Initialises head name shape at) said tree = holds_object_ends said head (Declared name shape (Value tree) at)
holds_took (Lists head name shape front at) (Plain kinds.Comma) tree = head_mono head _ _ (omega arith)
holds_took (Lists head name shape front at) (Plain kinds.RightBrace) tree = head_hold head _
holds_took (Labels front braces at) (Plain kinds.Colon) tree = among_hold braces _ _ _ (items_hold braces (nat_le 3 _) _ _ (braces_mono braces _ _ (omega arith))) (braces_mono braces _ _ (omega arith))
holds_took _ said tree = tt

holds_leave : (under : Stack) (r : Role) (said : Lexeme) (tree : Expr Bytes) → Holds (stack_deep under (size tree).depth) (leave under r said tree)
holds_leave (AfterPrefix operator at under) r said tree = holds_cond (nat_le (reach r) (demand under)) _ _ _ (holds_enter _ r (Prefix operator tree at) under (stack_hold under _)) (holds_leave under r said (Prefix operator tree at))
holds_leave (AfterCast all at under) r said tree = holds_cond (nat_le (reach r) (demand under)) _ _ _ (holds_enter _ r (Cast all tree at) under (stack_hold under _)) (holds_leave under r said (Cast all tree at))
holds_leave (AfterJoin operator left under) r said tree = holds_cond (nat_le (reach r) (demand under)) _ _ _ (holds_enter _ r (Binary operator left tree (place left)) under (stack_hold under _)) (holds_leave under r said (Binary operator left tree (place left)))
holds_leave (AfterColon test first under) r said tree = holds_cond (nat_le (reach r) (demand under)) _ _ _ (holds_enter _ r (Conditional test first tree (place test)) under (stack_hold under _)) (holds_leave under r said (Conditional test first tree (place test)))
holds_leave (AfterAssign operator target under) r said tree = holds_cond (nat_le (reach r) (demand under)) _ _ _ (holds_enter _ r (Assign operator target tree (place target)) under (stack_hold under _)) (holds_leave under r said (Assign operator target tree (place target)))
holds_leave (InParen at under) ClosesParen said tree = stack_hold under _
holds_leave (InIndex array at under) ClosesBracket said tree = stack_hold under _
holds_leave (InCall function at front under) ClosesParen said tree = stack_hold under _
holds_leave (InCall function at front under) (Joins binary.Comma) said tree = arguments_hold under _ _ (omega arith)
holds_leave (AfterQuestion test under) Separates said tree = stack_hold under _
holds_leave (Base purpose) r said tree = holds_took purpose said tree
holds_leave _ r said tree = tt

holds_has : (r : Role) (said : Lexeme) (tree : Expr Bytes) (under : Stack) → Holds (stack_deep under (size tree).depth) (go_on r said tree under)
holds_has r said tree under = holds_cond (nat_le (reach r) (demand under)) _ _ _ (holds_enter _ r tree under (stack_hold under _)) (holds_leave under r said tree)

holds_opened : (o : Option Specifier) (said : Lexeme) (here at : ℕ) (under : Stack) → Holds (stack_deep under 2) (opened o said here at under)
holds_opened None said here at under = holds_begin (stack_deep under 2) said here (InParen at under) (stack_hold under _)
holds_opened (Some word) said here at under = stack_hold under _

holds_cast : (said : Lexeme) (all : List Specifier) (at : ℕ) (under : Stack) → Holds (stack_deep under 2) (cast_ends said all at under)
holds_cast (Plain kinds.RightParen) all at under = stack_hold under _
holds_cast _ all at under = tt

holds_typed : (o : Option Specifier) (said : Lexeme) (all : List Specifier) (at : ℕ) (under : Stack) → Holds (stack_deep under 2) (typed o said all at under)
holds_typed None said all at under = holds_cast said all at under
holds_typed (Some word) said all at under = stack_hold under _

holds_called : (said : Lexeme) (here : ℕ) (function : Bytes) (at : ℕ) (under : Stack) → Holds (stack_deep under 1) (called said here function at under)
holds_called (Plain kinds.RightParen) here function at under = stack_hold under _
holds_called said here function at under = holds_begin (stack_deep under 1) said here (InCall function at NoExpr under) (arguments_hold under _ _ (omega arith))

holds_begin_statement : (n : ℕ) (said : Lexeme) (at : ℕ) (under : Frames) → frames_before under ≤ n → Holds n (begin_statement said at under)
holds_begin_statement n (Plain kinds.Semicolon) at under h = h
holds_begin_statement n (Plain kinds.LeftBrace) at under h = both _ _ _ h h
holds_begin_statement n (Plain kinds.If) at under h = h
holds_begin_statement n (Plain kinds.While) at under h = h
holds_begin_statement n (Plain kinds.Do) at under h = h
holds_begin_statement n (Plain kinds.For) at under h = h
holds_begin_statement n (Plain kinds.Switch) at under h = h
holds_begin_statement n (Plain kinds.Break) at under h = h
holds_begin_statement n (Plain kinds.Continue) at under h = h
holds_begin_statement n (Plain kinds.Return) at under h = h
holds_begin_statement n (lexemes.Pragma kinds.Marker bytes) at under h = h
holds_begin_statement n (lexemes.Pragma kinds.LoopBound bytes) at under h = h
holds_begin_statement n said at under h = holds_begin n said at (Base (Evaluates under)) h

holds_begin_loop : (said : Lexeme) (at : ℕ) (bound : Pragma) (under : Frames) → Holds (frames_deep under 1) (begin_loop said at bound under)
holds_begin_loop (Plain kinds.While) at bound under = frames_hold under _
holds_begin_loop (Plain kinds.Do) at bound under = frames_hold under _
holds_begin_loop (Plain kinds.For) at bound under = frames_hold under _
holds_begin_loop _ at bound under = tt

holds_close : (braces : Braces) (items : Items Bytes) → before (close braces items) ≤ braces_deep braces (size_items items).depth
holds_close (OfBlock at under) items = frames_hold under _
holds_close (OfSwitch test at under) items = frames_hold under _
holds_close (OfFunction (Heads all name name_at params body_at at front)) items = omega arith

holds_label : (braces : Braces) (n : ℕ) (state : State) → before state ≤ n → Holds n (label braces state)
holds_label (OfSwitch test at under) n state h = h
holds_label _ n state h = tt

holds_item : (said : Lexeme) (at : ℕ) (front : Items Bytes) (braces : Braces) → Holds (braces_deep braces (size_items front).depth) (item said at front braces)
holds_item (Plain kinds.RightBrace) at front braces = holds_close braces front
holds_item (lexemes.Pragma kinds.FlowRestriction bytes) at front braces = among_hold braces _ _ _ (behind_small braces (nat_le 3 (max (size_items front).depth 1)) (size_items front).depth 1 _ (omega arith) (omega arith) refl) (omega arith)
holds_item (Plain kinds.Case) at front braces = holds_label braces _ (Wants (Base (Labels front braces at))) (omega arith)
holds_item (Plain kinds.Default) at front braces = holds_label braces _ (Defaults front braces at) (omega arith)
holds_item said at front braces = holds_begin_statement (braces_deep braces (size_items front).depth) said at (InItems front braces) (listed_hold braces (size_items front).depth)

holds_among : (o : Option Specifier) (said : Lexeme) (at : ℕ) (front : Items Bytes) (braces : Braces) → Holds (braces_deep braces (size_items front).depth) (among o said at front braces)
holds_among None said at front braces = holds_item said at front braces
holds_among (Some word) said at front braces = omega arith

holds_settle : (under : Frames) (said : Lexeme) (here : ℕ) (s : Statement Bytes) → Holds (frames_deep under (size_statement s).depth) (settle under said here s)
holds_settle (InItems front braces) said here s = holds_among (specifier_of said) said here (trees.AndStatement front s) braces
holds_settle (InThen test at under) (Plain kinds.Else) here s = frames_hold under _
holds_settle (InThen test at under) said here s = holds_settle under said here (If test s at)
holds_settle (InElse test first at under) said here s = holds_settle under said here (IfElse test first s at)
holds_settle (InWhile bound test at under) said here s = holds_settle under said here (While bound test s at)
holds_settle (InFor bound start test last at under) said here s = holds_settle under said here (For bound start test last s at)
holds_settle (InDo bound at under) (Plain kinds.While) here s = frames_hold under _
holds_settle (InDo bound at under) _ here s = tt

holds_semicolon : (said : Lexeme) (n : ℕ) (state : State) → before state ≤ n → Holds n (semicolon said state)
holds_semicolon (Plain kinds.Semicolon) n state h = h
holds_semicolon _ n state h = tt

holds_paren : (said : Lexeme) (n : ℕ) (state : State) → before state ≤ n → Holds n (paren said state)
holds_paren (Plain kinds.LeftParen) n state h = h
holds_paren _ n state h = tt

holds_brace : (said : Lexeme) (n : ℕ) (state : State) → before state ≤ n → Holds n (brace said state)
holds_brace (Plain kinds.LeftBrace) n state h = h
holds_brace _ n state h = tt

holds_colon : (said : Lexeme) (n : ℕ) (state : State) → before state ≤ n → Holds n (colon said state)
holds_colon (Plain kinds.Colon) n state h = h
holds_colon _ n state h = tt

holds_answers : (said : Lexeme) (here at : ℕ) (under : Frames) → Holds (frames_deep under 1) (answers said here at under)
holds_answers (Plain kinds.Semicolon) here at under = frames_hold under _
holds_answers said here at under = holds_begin (frames_deep under 1) said here (Base (Returns at under)) (frames_hold under _)

holds_loop_starts : (o : Option Specifier) (said : Lexeme) (here : ℕ) (bound : Option Pragma) (at : ℕ) (under : Frames) → Holds (frames_deep under 1) (loop_starts o said here bound at under)
holds_loop_starts (Some word) said here bound at under = frames_hold under _
holds_loop_starts None (Plain kinds.Semicolon) here bound at under = frames_hold under _
holds_loop_starts None said here bound at under = holds_begin (frames_deep under 1) said here (Base (Starts bound at under)) (frames_hold under _)

holds_loop_tests : (said : Lexeme) (here : ℕ) (bound : Option Pragma) (start : ForStart Bytes) (at : ℕ) (under : Frames) → Holds (frames_deep under ((size_start start).depth + 1)) (loop_tests said here bound start at under)
holds_loop_tests (Plain kinds.Semicolon) here bound start at under = frames_hold under _
holds_loop_tests said here bound start at under = holds_begin (frames_deep under ((size_start start).depth + 1)) said here (Base (Guards bound start at under)) (frames_hold under _)

holds_loop_steps : (said : Lexeme) (here : ℕ) (bound : Option Pragma) (start : ForStart Bytes) (test : Option (Expr Bytes)) (at : ℕ) (under : Frames) → Holds (frames_deep under (max (size_start start).depth (size_optional test).depth + 1)) (loop_steps said here bound start test at under)
holds_loop_steps (Plain kinds.RightParen) here bound start test at under = frames_hold under _
holds_loop_steps said here bound start test at under = holds_begin (frames_deep under (max (size_start start).depth (size_optional test).depth + 1)) said here (Base (Repeats bound start test at under)) (frames_hold under _)

holds_file : (o : Option Specifier) (said : Lexeme) (here : ℕ) (front : Row (External Bytes)) → Holds ((size_row size_external front).depth + 1) (file_item o said here front)
holds_file (Some word) said here front = omega arith
holds_file None (lexemes.Pragma kinds.FlowRestriction bytes) here front = omega arith
holds_file None _ here front = tt

holds_first_name : (said : Lexeme) (here : ℕ) (all : List Specifier) (at : ℕ) (scope : Scope) → Holds (scope_deep scope 1) (first_name said here all at scope)
holds_first_name (lexemes.Name name) here all at scope = scope_hold scope _
holds_first_name _ here all at scope = tt

holds_specified : (o : Option Specifier) (said : Lexeme) (here : ℕ) (all : List Specifier) (at : ℕ) (scope : Scope) → Holds (scope_deep scope 1) (specified o said here all at scope)
holds_specified None said here all at scope = holds_first_name said here all at scope
holds_specified (Some word) said here all at scope = scope_hold scope _

holds_below : (o : Moved) (m n : ℕ) → m ≤ n → Holds m o → Holds n o
holds_below Stuck m n h g = tt
holds_below (Goes state) m n h g = omega (arith, h, g)

holds_shaped : (said : Lexeme) (declarator : Declarator) (shape : Shape Bytes) → Holds (declarator_deep declarator (size_shape shape).depth) (shaped said declarator shape)
holds_shaped (Plain kinds.Equal) (OfObject head name at) shape = head_hold head _
holds_shaped said (OfObject head name at) shape = holds_below (object_ends said head (Declared name shape Absent at)) (head_deep head (size_object (Declared name shape Absent at)).depth) (head_deep head ((size_shape shape).depth + 1)) (head_mono head _ _ (omega arith)) (holds_object_ends said head (Declared name shape Absent at))
holds_shaped said (OfParam proto front all name at) shape = holds_param_ends said proto front (Parameter all name shape at)

holds_declares : (said : Lexeme) (declarator : Declarator) → Holds (declarator_deep declarator 0) (declares said declarator)
holds_declares (Plain kinds.LeftBracket) declarator = declarator_hold declarator _
holds_declares said declarator = holds_shaped said declarator Scalar

holds_named : (said : Lexeme) (proto : Proto) → Holds (proto_deep proto 0) (named said proto)
holds_named (Plain kinds.LeftParen) proto = proto_hold proto _
holds_named (Plain kinds.LeftBracket) (Signs all name name_at at scope) = scope_hold scope _
holds_named (Plain kinds.Equal) (Signs all name name_at at scope) = scope_hold scope _
holds_named (Plain kinds.Comma) (Signs all name name_at at scope) = scope_hold scope _
holds_named (Plain kinds.Semicolon) (Signs all name name_at at (AtFile front)) = omega arith
holds_named (Plain kinds.Semicolon) (Signs all name name_at at (AmongItems front braces)) = among_hold braces _ _ _ (behind_small braces (nat_le 3 (max (size_items front).depth 2)) (size_items front).depth 2 _ (omega arith) (omega arith) refl) (braces_mono braces _ _ (omega arith))
holds_named (Plain kinds.Semicolon) (Signs all name name_at at (AtFor bound here under)) = frames_hold under _
holds_named _ (Signs all name name_at at scope) = tt

holds_further : (said : Lexeme) (here : ℕ) (head : Head) → Holds (head_deep head 1) (further said here head)
holds_further (lexemes.Name name) here head = head_hold head _
holds_further _ here head = tt

holds_sizing : (said : Lexeme) (here : ℕ) (declarator : Declarator) → Holds (declarator_deep declarator 0) (sizing said here declarator)
holds_sizing (Plain kinds.RightBracket) here declarator = declarator_hold declarator _
holds_sizing said here declarator = holds_begin (declarator_deep declarator 0) said here (Base (Sizes declarator)) (declarator_hold declarator _)

holds_initial : (said : Lexeme) (here : ℕ) (head : Head) (name : Bytes) (shape : Shape Bytes) (at : ℕ) → Holds (head_deep head ((size_shape shape).depth + 1)) (initial said here head name shape at)
holds_initial (Plain kinds.LeftBrace) here head name shape at = head_mono head _ _ (omega arith)
holds_initial said here head name shape at = holds_begin (head_deep head ((size_shape shape).depth + 1)) said here (Base (Initialises head name shape at)) (head_hold head _)

holds_listed : (said : Lexeme) (here : ℕ) (head : Head) (name : Bytes) (shape : Shape Bytes) (front : Exprs Bytes) (at : ℕ) → Holds (head_deep head (max (size_shape shape).depth (size_all front).depth + 1)) (listed said here head name shape front at)
holds_listed (Plain kinds.RightBrace) here head name shape front at = head_hold head _
holds_listed said here head name shape front at = holds_begin (head_deep head (max (size_shape shape).depth (size_all front).depth + 1)) said here (Base (Lists head name shape front at)) (omega arith)

holds_param_begins : (o : Option Specifier) (here : ℕ) (proto : Proto) (front : Row (Param Bytes)) → Holds (proto_deep proto (size_row size_param front).depth) (param_begins o here proto front)
holds_param_begins None here proto front = tt
holds_param_begins (Some word) here proto front = omega arith

holds_params_open : (said : Lexeme) (here : ℕ) (proto : Proto) → Holds (proto_deep proto 0) (params_open said here proto)
holds_params_open (Plain kinds.RightParen) here proto = omega arith
holds_params_open said here proto = holds_param_begins (specifier_of said) here proto Nothing

holds_param_named : (said : Lexeme) (proto : Proto) (front : Row (Param Bytes)) (all : List Specifier) (at : ℕ) → Holds (proto_deep proto (max (size_row size_param front).depth 1)) (param_named said proto front all at)
holds_param_named (lexemes.Name name) proto front all at = proto_mono proto _ _ (omega arith)
holds_param_named said proto front all at = holds_declares said (OfParam proto front all None at)

holds_param_specified : (o : Option Specifier) (said : Lexeme) (proto : Proto) (front : Row (Param Bytes)) (all : List Specifier) (at : ℕ) → Holds (proto_deep proto (max (size_row size_param front).depth 1)) (param_specified o said proto front all at)
holds_param_specified None said proto front all at = holds_param_named said proto front all at
holds_param_specified (Some word) said proto front all at = proto_mono proto _ _ (omega arith)

holds_body : (proto : Proto) (params : Row (Param Bytes)) (here : ℕ) → Holds (proto_deep proto (size_row size_param params).depth) (body proto params here)
holds_body (Signs all name name_at at (AtFile front)) params here = omega arith
holds_body (Signs all name name_at at (AmongItems front braces)) params here = tt
holds_body (Signs all name name_at at (AtFor bound here_at under)) params here = tt

holds_params_done : (said : Lexeme) (here : ℕ) (proto : Proto) (params : Row (Param Bytes)) → Holds (proto_deep proto (size_row size_param params).depth) (params_done said here proto params)
holds_params_done (Plain kinds.Semicolon) here (Signs all name name_at at (AtFile front)) params = omega arith
holds_params_done (Plain kinds.Semicolon) here (Signs all name name_at at (AmongItems front braces)) params = among_hold braces _ _ _ (items_hold braces (nat_le 3 _) _ _ (braces_mono braces _ _ (omega arith))) (braces_mono braces _ _ (omega arith))
holds_params_done (Plain kinds.Semicolon) here (Signs all name name_at at (AtFor bound here_at under)) params = frames_hold under _
holds_params_done (Plain kinds.LeftBrace) here proto params = holds_body proto params here
holds_params_done _ here proto params = tt

pub holds : (state : State) (token : Spoken) → Holds (deep state) (step state token)
holds (Wants under) token = holds_begin (stack_deep under 1) token.said token.at under (stack_hold under _)
holds (Has tree under) token = holds_has (role token.said) token.said tree under
holds (Opened at under) token = holds_opened (specifier_of token.said) token.said token.at at under
holds (Typed all at under) token = holds_typed (specifier_of token.said) token.said all at under
holds (Called function at under) token = holds_called token.said token.at function at under
holds (File front) token = holds_file (specifier_of token.said) token.said token.at front
holds (Among front braces) token = holds_among (specifier_of token.said) token.said token.at front braces
holds (Begins under) token = holds_begin_statement (frames_deep under 1) token.said token.at under (frames_hold under _)
holds (Stands statement under) token = holds_settle under token.said token.at statement
holds (Closes statement under) token = holds_semicolon token.said _ (Stands statement under) (frames_hold under _)
holds (Bounded bound under) token = holds_begin_loop token.said token.at bound under
holds (Opens test) token = holds_paren token.said _ (Wants (Base (Tests test))) (test_hold test _)
holds (Chooses test at under) token = holds_brace token.said _ (Among trees.NoItem (OfSwitch test at under)) (both _ _ _ (frames_hold under _) (frames_hold under _))
holds (Answers at under) token = holds_answers token.said token.at at under
holds (Defaults front braces at) token = holds_colon token.said _ (Among (trees.AndLabel front (trees.Default at)) braces) (among_hold braces _ _ _ (items_hold braces (nat_le 3 _) _ _ (omega arith)) (braces_mono braces _ _ (omega arith)))
holds (Loops bound at under) token = holds_paren token.said _ (LoopStarts bound at under) (frames_hold under _)
holds (LoopStarts bound at under) token = holds_loop_starts (specifier_of token.said) token.said token.at bound at under
holds (LoopTests bound start at under) token = holds_loop_tests token.said token.at bound start at under
holds (LoopSteps bound start test at under) token = holds_loop_steps token.said token.at bound start test at under
holds (Specified all at scope) token = holds_specified (specifier_of token.said) token.said token.at all at scope
holds (Named proto) token = holds_named token.said proto
holds (Further head) token = holds_further token.said token.at head
holds (Declares declarator) token = holds_declares token.said declarator
holds (Sizing declarator) token = holds_sizing token.said token.at declarator
holds (Shaped declarator shape) token = holds_shaped token.said declarator shape
holds (Initial head name shape at) token = holds_initial token.said token.at head name shape at
holds (Listed head name shape front at) token = holds_listed token.said token.at head name shape front at
holds (Ended head object) token = holds_object_ends token.said head object
holds (ParamsOpen proto) token = holds_params_open token.said token.at proto
holds (ParamNext proto front) token = holds_param_begins (specifier_of token.said) token.at proto front
holds (ParamSpecified proto front all at) token = holds_param_specified (specifier_of token.said) token.said proto front all at
holds (ParamsDone proto params) token = holds_params_done token.said token.at proto params
