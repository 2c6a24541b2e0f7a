-- The depth of what had begun before the newest part of it: no step makes that greater than what stood there.
use Rattle.std.specs.Prelude.{ℕ, ◌+◌, max, nat_le, Bool, true, false}
use Rattle.c_tree.specs.Size.{size_all, size_row, size_shape, size_object, size_param, size_items}
use Rattle.parse_grammar.specs.Begun.{Frames, InItems, InThen, InElse, InWhile, InDo, InFor, Braces, OfBlock, OfSwitch, OfFunction, Scope, AtFile, AmongItems, AtFor, Head, Heading, Proto, Signs, Declarator, OfObject, OfParam, Test, OfIf, OfWhile, OfDo, OfChoice, Purpose, Evaluates, Returns, Tests, Starts, Guards, Repeats, Sizes, Initialises, Lists, Labels, Stack, Base, InParen, InIndex, InCall, AfterPrefix, AfterCast, AfterJoin, AfterQuestion, AfterColon, AfterAssign, State, Wants, Has, Opened, Typed, Called, File, Among, Begins, Stands, Closes, Bounded, Opens, Chooses, Answers, Defaults, Loops, LoopStarts, LoopTests, LoopSteps, Specified, Named, Further, Declares, Sizing, Shaped, Initial, Listed, Ended, ParamsOpen, ParamNext, ParamSpecified, ParamsDone}
use Rattle.parse_begun.specs.BeforeLast.{before_last}
use Rattle.parse_grammar.specs.Depth.{braces_deep, scope_deep, head_deep, proto_deep, stack_deep}

abbrev mutual
  -- the lists of items with what they stand in
  pub frames_before : Frames → ℕ
  frames_before (InItems front braces) = max (braces_deep braces (size_items front).depth) (braces_before braces)
  frames_before (InThen test at under) = frames_before under
  frames_before (InElse test first at under) = frames_before under
  frames_before (InWhile bound test at under) = frames_before under
  frames_before (InDo bound at under) = frames_before under
  frames_before (InFor bound start test step at under) = frames_before under

  pub braces_before : Braces → ℕ
  braces_before (OfBlock at under) = frames_before under
  braces_before (OfSwitch test at under) = frames_before under
  braces_before (OfFunction header) = 0

abbrev pub scope_before : Scope → ℕ
scope_before (AtFile front) = 0
scope_before (AmongItems front braces) = braces_deep braces (size_items front).depth
scope_before (AtFor bound at under) = frames_before under

-- an object without a size and an initial value is one node deep, so of deeper objects the last was there in time
abbrev pub objects_before : Bool → Scope → ℕ → ℕ
objects_before true scope d = scope_deep scope (d + 1)
objects_before false scope d = scope_before scope

abbrev pub head_before : Head → ℕ
head_before (Heading all objects at scope) = objects_before (nat_le 2 (size_row size_object objects).depth) scope (size_row size_object objects).depth

abbrev pub proto_before : Proto → ℕ
proto_before (Signs all name name_at at scope) = scope_before scope

abbrev pub declarator_before : Declarator → ℕ
declarator_before (OfObject head name at) = head_before head
declarator_before (OfParam proto front all name at) = proto_deep proto (size_row size_param front).depth

abbrev pub test_before : Test → ℕ
test_before (OfIf at under) = frames_before under
test_before (OfWhile bound at under) = frames_before under
test_before (OfDo bound body at under) = frames_before under
test_before (OfChoice at under) = frames_before under

abbrev pub purpose_before : Purpose → ℕ
purpose_before (Evaluates under) = frames_before under
purpose_before (Returns at under) = frames_before under
purpose_before (Tests test) = test_before test
purpose_before (Starts bound at under) = frames_before under
purpose_before (Guards bound start at under) = frames_before under
purpose_before (Repeats bound start test at under) = frames_before under
purpose_before (Sizes declarator) = declarator_before declarator
purpose_before (Initialises head name shape at) = head_before head
purpose_before (Lists head name shape front at) = head_deep head (max (size_shape shape).depth (size_all front).depth + 1)
purpose_before (Labels front braces at) = braces_deep braces (size_items front).depth

-- the lists of arguments with what they stand in
abbrev pub stack_before : Stack → ℕ
stack_before (Base purpose) = purpose_before purpose
stack_before (InParen at under) = stack_before under
stack_before (InIndex array at under) = stack_before under
stack_before (InCall function at front under) = max (stack_deep under ((size_all front).depth + 1)) (stack_before under)
stack_before (AfterPrefix operator at under) = stack_before under
stack_before (AfterCast all at under) = stack_before under
stack_before (AfterJoin operator left under) = stack_before under
stack_before (AfterQuestion test under) = stack_before under
stack_before (AfterColon test first under) = stack_before under
stack_before (AfterAssign operator target under) = stack_before under

-- items with what they stand in, where they were there in time
abbrev pub items_before : Bool → Braces → ℕ → ℕ
items_before true braces d = braces_deep braces d
items_before false braces d = braces_before braces

-- a restriction is one node deep, and a declaration of an object alone two, so of deeper items the last was there in time; those before it were
abbrev pub among_before : Braces → ℕ → ℕ → ℕ
among_before braces d e = max (items_before (nat_le 3 d) braces d) (items_before (nat_le 1 e) braces e)

abbrev pub before : State → ℕ
before (Wants under) = stack_before under
before (Has tree under) = stack_before under
before (Opened at under) = stack_before under
before (Typed all at under) = stack_before under
before (Called function at under) = stack_before under
before (File front) = 0
before (Among front braces) = among_before braces (size_items front).depth (size_items (before_last front)).depth
before (Begins under) = frames_before under
before (Stands statement under) = frames_before under
before (Closes statement under) = frames_before under
before (Bounded bound under) = frames_before under
before (Opens test) = test_before test
before (Chooses test at under) = frames_before under
before (Answers at under) = frames_before under
before (Defaults front braces at) = braces_deep braces (size_items front).depth
before (Loops bound at under) = frames_before under
before (LoopStarts bound at under) = frames_before under
before (LoopTests bound start at under) = frames_before under
before (LoopSteps bound start test at under) = frames_before under
before (Specified all at scope) = scope_before scope
before (Named proto) = proto_before proto
before (Further head) = head_before head
before (Declares declarator) = declarator_before declarator
before (Sizing declarator) = declarator_before declarator
before (Shaped declarator shape) = declarator_before declarator
before (Initial head name shape at) = head_before head
before (Listed head name shape front at) = head_deep head (max (size_shape shape).depth (size_all front).depth + 1)
before (Ended head object) = head_before head
before (ParamsOpen proto) = proto_before proto
before (ParamNext proto front) = proto_deep proto (size_row size_param front).depth
before (ParamSpecified proto front all at) = proto_deep proto (size_row size_param front).depth
before (ParamsDone proto params) = proto_deep proto (size_row size_param params).depth
