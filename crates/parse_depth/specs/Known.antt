-- The same by the depths that stand beside the parts.
use Rattle.std.specs.Prelude.{ℕ, ◌+◌, max, nat_le, Bool, true, false}
use Rattle.parse_begun.specs.declared.begun.Frames as frames
use Rattle.parse_begun.specs.declared.begun.Braces as braces
use Rattle.parse_begun.specs.declared.begun.Scope as scopes
use Rattle.parse_begun.specs.declared.begun.Scope.TheVariants as scope
use Rattle.parse_begun.specs.declared.begun.Head as heads
use Rattle.parse_begun.specs.declared.begun.Proto as protos
use Rattle.parse_begun.specs.declared.begun.Declarator as declarators
use Rattle.parse_begun.specs.declared.begun.Declarator.TheVariants as declarator
use Rattle.parse_begun.specs.declared.begun.Test as tests
use Rattle.parse_begun.specs.declared.begun.Test.TheVariants as test
use Rattle.parse_begun.specs.declared.begun.Purpose as purposes
use Rattle.parse_begun.specs.declared.begun.Purpose.TheVariants as purpose
use Rattle.parse_begun.specs.declared.begun.Stack as stacks
use Rattle.parse_begun.specs.declared.begun.State as states
use Rattle.parse_begun.specs.declared.begun.State.TheVariants as state
use Rattle.parse_begun.specs.declared.begun.AtOperand.TheVariants as at_operand
use Rattle.parse_begun.specs.declared.begun.AtStatement.TheVariants as at_statement
use Rattle.parse_begun.specs.declared.begun.AtHead.TheVariants as at_head
use Rattle.parse_begun.specs.declared.begun.AtReceiver.TheVariants as at_receiver
use Rattle.parse_begun.specs.declared.begun.AtDeclarator.TheVariants as at_declarator
use Rattle.parse_begun.specs.declared.begun.AtProto.TheVariants as at_proto
use Rattle.parse_begun.specs.Depths.{braces_depth, scope_depth, head_depth, proto_depth, stack_depth}

abbrev mutual
  pub frames_known : frames.Frames → ℕ
  frames_known (frames.InItems' items p braces) = max (braces_depth braces items.depth) (braces_known braces)
  frames_known (frames.InThen' test at p under) = frames_known under
  frames_known (frames.InElse' test first at p under) = frames_known under
  frames_known (frames.InWhile' loop test p under) = frames_known under
  frames_known (frames.InDo' loop p under) = frames_known under
  frames_known (frames.InFor' head p under) = frames_known under

  pub braces_known : braces.Braces → ℕ
  braces_known (braces.OfBlock' at p under) = frames_known under
  braces_known (braces.OfSwitch' test at p under) = frames_known under
  braces_known (braces.OfFunction header) = 0

abbrev pub scope_known : scopes.Scope → ℕ
scope_known (scope.AtFile front) = 0
scope_known (scope.AmongItems front braces) = braces_depth braces.value front.depth
scope_known (scope.AtFor loop under) = frames_known under.value

abbrev pub objects_known : Bool → scopes.Scope → ℕ → ℕ
objects_known true scope d = scope_depth scope (d + 1)
objects_known false scope d = scope_known scope

abbrev pub head_known : heads.Head → ℕ
head_known head = objects_known (nat_le 2 head.objects.depth) head.scope head.objects.depth

abbrev pub proto_known : protos.Proto → ℕ
proto_known proto = scope_known proto.scope

abbrev pub declarator_known : declarators.Declarator → ℕ
declarator_known (declarator.OfObject head name) = head_known head
declarator_known (declarator.OfParam param) = proto_depth param.proto param.front.depth

abbrev pub test_known : tests.Test → ℕ
test_known (test.OfIf at under) = frames_known under.value
test_known (test.OfWhile loop under) = frames_known under.value
test_known (test.OfDo loop body under) = frames_known under.value
test_known (test.OfChoice at under) = frames_known under.value

abbrev pub purpose_known : purposes.Purpose → ℕ
purpose_known (purpose.Evaluates under) = frames_known under.value
purpose_known (purpose.Returns at under) = frames_known under.value
purpose_known (purpose.Tests test) = test_known test
purpose_known (purpose.Starts loop under) = frames_known under.value
purpose_known (purpose.Guards head under) = frames_known under.value
purpose_known (purpose.Repeats head under) = frames_known under.value
purpose_known (purpose.Sizes declarator) = declarator_known declarator.value
purpose_known (purpose.Initialises object) = head_known object.value.head
purpose_known (purpose.Lists object front) = head_depth object.value.head (max object.value.shape.depth front.depth + 1)
purpose_known (purpose.Labels front braces at) = braces_depth braces.value front.depth

abbrev pub stack_known : stacks.Stack → ℕ
stack_known (stacks.Base purpose) = purpose_known purpose
stack_known (stacks.InParen' at p under) = stack_known under
stack_known (stacks.InIndex' array p under) = stack_known under
stack_known (stacks.InCall' function front p under) = max (stack_depth under (front.depth + 1)) (stack_known under)
stack_known (stacks.AfterPrefix' operator at p under) = stack_known under
stack_known (stacks.AfterCast' all at p under) = stack_known under
stack_known (stacks.AfterJoin' operator left p under) = stack_known under
stack_known (stacks.AfterQuestion' test p under) = stack_known under
stack_known (stacks.AfterColon' test first p under) = stack_known under
stack_known (stacks.AfterAssign' operator target p under) = stack_known under

abbrev pub items_known : Bool → braces.Braces → ℕ → ℕ
items_known true braces d = braces_depth braces d
items_known false braces d = braces_known braces

abbrev pub among_known : braces.Braces → ℕ → ℕ → ℕ
among_known braces d e = max (items_known (nat_le 3 d) braces d) (items_known (nat_le 1 e) braces e)

abbrev pub state_known : states.State → ℕ
state_known (state.OfOperand at_operand.Wants under) = stack_known under
state_known (state.OfOperand (at_operand.Has tree) under) = stack_known under
state_known (state.OfOperand (at_operand.Opened at) under) = stack_known under
state_known (state.OfOperand (at_operand.Typed all at) under) = stack_known under
state_known (state.OfOperand (at_operand.Called function) under) = stack_known under
state_known (state.File front) = 0
state_known (state.Among front braces) = among_known braces.value front.depth front.depth_before
state_known (state.OfStatement at_statement.Begins under) = frames_known under.value
state_known (state.OfStatement (at_statement.Stands statement) under) = frames_known under.value
state_known (state.OfStatement (at_statement.Closes statement) under) = frames_known under.value
state_known (state.OfStatement (at_statement.Bounded bound) under) = frames_known under.value
state_known (state.Opens test) = test_known test
state_known (state.OfStatement (at_statement.Chooses test at) under) = frames_known under.value
state_known (state.OfStatement (at_statement.Answers at) under) = frames_known under.value
state_known (state.Defaults front braces at) = braces_depth braces.value front.depth
state_known (state.OfStatement (at_statement.Loops loop) under) = frames_known under.value
state_known (state.OfStatement (at_statement.LoopStarts loop) under) = frames_known under.value
state_known (state.OfStatement (at_statement.LoopTests head) under) = frames_known under.value
state_known (state.OfStatement (at_statement.LoopSteps head) under) = frames_known under.value
state_known (state.Specified all at scope) = scope_known scope
state_known (state.OfProto at_proto.Named proto) = proto_known proto
state_known (state.OfHead at_head.Further head) = head_known head
state_known (state.OfDeclarator at_declarator.Declares declarator) = declarator_known declarator
state_known (state.OfDeclarator at_declarator.Sizing declarator) = declarator_known declarator
state_known (state.OfDeclarator (at_declarator.Shaped shape) declarator) = declarator_known declarator
state_known (state.OfReceiver at_receiver.Initial object) = head_known object.head
state_known (state.OfReceiver (at_receiver.Listed front) object) = head_depth object.head (max object.shape.depth front.depth + 1)
state_known (state.OfHead (at_head.Ended object) head) = head_known head
state_known (state.OfProto at_proto.ParamsOpen proto) = proto_known proto
state_known (state.OfProto (at_proto.ParamNext front) proto) = proto_depth proto front.depth
state_known (state.OfProto (at_proto.ParamSpecified front all at) proto) = proto_depth proto front.depth
state_known (state.OfProto (at_proto.ParamsDone params) proto) = proto_depth proto params.depth
