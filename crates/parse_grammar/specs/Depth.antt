-- The least depth of a unit in which this has begun.
use Rattle.std.specs.Prelude.{ℕ, ◌+◌, max}
use Rattle.c_tree.specs.Size.{size, size_all, size_row, size_optional, size_shape, size_object, size_param, size_start, size_statement, size_items, size_external}
use Rattle.parse_grammar.specs.Begun.{Header, Heads, Frames, InItems, InThen, InElse, InWhile, InDo, InFor, Braces, OfBlock, OfSwitch, OfFunction, Scope, AtFile, AmongItems, AtFor, Head, Heading, Proto, Signs, Declarator, OfObject, OfParam, Test, OfIf, OfWhile, OfDo, OfChoice, Purpose, Evaluates, Returns, Tests, Starts, Guards, Repeats, Sizes, Initialises, Lists, Labels, Stack, Base, InParen, InIndex, InCall, AfterPrefix, AfterCast, AfterJoin, AfterQuestion, AfterColon, AfterAssign, State, Wants, Has, Opened, Typed, Called, File, Among, Begins, Stands, Closes, Bounded, Opens, Chooses, Answers, Defaults, Loops, LoopStarts, LoopTests, LoopSteps, Specified, Named, Further, Declares, Sizing, Shaped, Initial, Listed, Ended, ParamsOpen, ParamNext, ParamSpecified, ParamsDone}

-- where the body of this function is so deep
abbrev pub header_deep : Header → ℕ → ℕ
header_deep (Heads all name name_at params body_at at front) d = max (size_row size_external front).depth (max (size_row size_param params).depth (d + 1) + 1) + 1

abbrev mutual
  -- where the statement that stands in it is so deep
  pub frames_deep : Frames → ℕ → ℕ
  frames_deep (InItems front braces) d = braces_deep braces (max (size_items front).depth d)
  frames_deep (InThen test at under) d = frames_deep under (max (size test).depth d + 1)
  frames_deep (InElse test first at under) d = frames_deep under (max (max (size test).depth (size_statement first).depth) d + 1)
  frames_deep (InWhile bound test at under) d = frames_deep under (max (size test).depth d + 1)
  frames_deep (InDo bound at under) d = frames_deep under (d + 1)
  frames_deep (InFor bound start test step at under) d = frames_deep under (max (max (max (size_start start).depth (size_optional test).depth) (size_optional step).depth) d + 1)

  -- where the items between them are so deep
  pub braces_deep : Braces → ℕ → ℕ
  braces_deep (OfBlock at under) d = frames_deep under (d + 1)
  braces_deep (OfSwitch test at under) d = frames_deep under (max (size test).depth d + 1)
  braces_deep (OfFunction header) d = header_deep header d

-- where the declaration that stands there is so deep
abbrev pub scope_deep : Scope → ℕ → ℕ
scope_deep (AtFile front) d = max (size_row size_external front).depth d + 1
scope_deep (AmongItems front braces) d = braces_deep braces (max (size_items front).depth d)
scope_deep (AtFor bound at under) d = frames_deep under (d + 1)

-- where the next object is so deep
abbrev pub head_deep : Head → ℕ → ℕ
head_deep (Heading all objects at scope) d = scope_deep scope (max (size_row size_object objects).depth d + 1)

-- where the parameters are so deep
abbrev pub proto_deep : Proto → ℕ → ℕ
proto_deep (Signs all name name_at at scope) d = scope_deep scope (d + 1)

-- where the size is so deep
abbrev pub declarator_deep : Declarator → ℕ → ℕ
declarator_deep (OfObject head name at) d = head_deep head (d + 1)
declarator_deep (OfParam proto front all name at) d = proto_deep proto (max (size_row size_param front).depth (d + 1))

-- where the test is so deep
abbrev pub test_deep : Test → ℕ → ℕ
test_deep (OfIf at under) d = frames_deep under (d + 1)
test_deep (OfWhile bound at under) d = frames_deep under (d + 1)
test_deep (OfDo bound body at under) d = frames_deep under (max (size_statement body).depth d + 1)
test_deep (OfChoice at under) d = frames_deep under (d + 1)

-- where the whole expression is so deep
abbrev pub purpose_deep : Purpose → ℕ → ℕ
purpose_deep (Evaluates under) d = frames_deep under (d + 1)
purpose_deep (Returns at under) d = frames_deep under (d + 1)
purpose_deep (Tests test) d = test_deep test d
purpose_deep (Starts bound at under) d = frames_deep under (d + 1)
purpose_deep (Guards bound start at under) d = frames_deep under (max (size_start start).depth d + 1)
purpose_deep (Repeats bound start test at under) d = frames_deep under (max (max (size_start start).depth (size_optional test).depth) d + 1)
purpose_deep (Sizes declarator) d = declarator_deep declarator d
purpose_deep (Initialises head name shape at) d = head_deep head (max (size_shape shape).depth d + 1)
purpose_deep (Lists head name shape front at) d = head_deep head (max (size_shape shape).depth (max (size_all front).depth d) + 1)
purpose_deep (Labels front braces at) d = braces_deep braces (max (size_items front).depth (d + 1))

-- where the operand is so deep
abbrev pub stack_deep : Stack → ℕ → ℕ
stack_deep (Base purpose) d = purpose_deep purpose d
stack_deep (InParen at under) d = stack_deep under (d + 1)
stack_deep (InIndex array at under) d = stack_deep under (d + 1)
stack_deep (InCall function at front under) d = stack_deep under (max (size_all front).depth d + 1)
stack_deep (AfterPrefix operator at under) d = stack_deep under (d + 1)
stack_deep (AfterCast all at under) d = stack_deep under (d + 1)
stack_deep (AfterJoin operator left under) d = stack_deep under (max (size left).depth d + 1)
stack_deep (AfterQuestion test under) d = stack_deep under (max (size test).depth d + 1)
stack_deep (AfterColon test first under) d = stack_deep under (max (max (size test).depth (size first).depth) d + 1)
stack_deep (AfterAssign operator target under) d = stack_deep under (max (size target).depth d + 1)

abbrev pub deep : State → ℕ
deep (Wants under) = stack_deep under 1
deep (Has tree under) = stack_deep under (size tree).depth
deep (Opened at under) = stack_deep under 2
deep (Typed all at under) = stack_deep under 2
deep (Called function at under) = stack_deep under 1
deep (File front) = (size_row size_external front).depth + 1
deep (Among front braces) = braces_deep braces (size_items front).depth
deep (Begins under) = frames_deep under 1
deep (Stands statement under) = frames_deep under (size_statement statement).depth
deep (Closes statement under) = frames_deep under (size_statement statement).depth
deep (Bounded bound under) = frames_deep under 1
deep (Opens test) = test_deep test 1
deep (Chooses test at under) = frames_deep under ((size test).depth + 1)
deep (Answers at under) = frames_deep under 1
deep (Defaults front braces at) = braces_deep braces (max (size_items front).depth 1)
deep (Loops bound at under) = frames_deep under 1
deep (LoopStarts bound at under) = frames_deep under 1
deep (LoopTests bound start at under) = frames_deep under ((size_start start).depth + 1)
deep (LoopSteps bound start test at under) = frames_deep under (max (size_start start).depth (size_optional test).depth + 1)
deep (Specified all at scope) = scope_deep scope 1
deep (Named proto) = proto_deep proto 0
deep (Further head) = head_deep head 1
deep (Declares declarator) = declarator_deep declarator 0
deep (Sizing declarator) = declarator_deep declarator 0
deep (Shaped declarator shape) = declarator_deep declarator (size_shape shape).depth
deep (Initial head name shape at) = head_deep head ((size_shape shape).depth + 1)
deep (Listed head name shape front at) = head_deep head (max (size_shape shape).depth (size_all front).depth + 1)
deep (Ended head object) = head_deep head (size_object object).depth
deep (ParamsOpen proto) = proto_deep proto 0
deep (ParamNext proto front) = proto_deep proto (size_row size_param front).depth
deep (ParamSpecified proto front all at) = proto_deep proto (max (size_row size_param front).depth 1)
deep (ParamsDone proto params) = proto_deep proto (size_row size_param params).depth
