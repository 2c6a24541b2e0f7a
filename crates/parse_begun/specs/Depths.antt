-- The depth of what has begun, by the depths that stand beside its parts.
use Rattle.std.specs.Prelude.{ℕ, ◌+◌, max}
use Rattle.parse_begun.specs.declared.begun.Header as headers
use Rattle.parse_begun.specs.declared.begun.Frames as frames
use Rattle.parse_begun.specs.declared.begun.Braces as braces
use Rattle.parse_begun.specs.declared.begun.Scope as scopes
use Rattle.parse_begun.specs.declared.begun.Scope.TheVariants as scope
use Rattle.parse_begun.specs.declared.begun.Head as heads
use Rattle.parse_begun.specs.declared.begun.Proto as protos
use Rattle.parse_begun.specs.declared.begun.Declarator as declarators
use Rattle.parse_begun.specs.declared.begun.Declarator.TheVariants as declarator
use Rattle.parse_begun.specs.declared.begun.Test as tests
use Rattle.parse_begun.specs.declared.begun.Test.TheVariants as test
use Rattle.parse_begun.specs.declared.begun.Purpose as purposes
use Rattle.parse_begun.specs.declared.begun.Purpose.TheVariants as purpose
use Rattle.parse_begun.specs.declared.begun.Stack as stacks
use Rattle.parse_begun.specs.declared.begun.State as states
use Rattle.parse_begun.specs.declared.begun.State.TheVariants as state
use Rattle.parse_begun.specs.declared.begun.AtOperand.TheVariants as at_operand
use Rattle.parse_begun.specs.declared.begun.AtStatement.TheVariants as at_statement
use Rattle.parse_begun.specs.declared.begun.AtHead.TheVariants as at_head
use Rattle.parse_begun.specs.declared.begun.AtReceiver.TheVariants as at_receiver
use Rattle.parse_begun.specs.declared.begun.AtDeclarator.TheVariants as at_declarator
use Rattle.parse_begun.specs.declared.begun.AtProto.TheVariants as at_proto

abbrev pub header_depth : headers.Header → ℕ → ℕ
header_depth header d = max header.front.depth (max header.params.depth (d + 1) + 1) + 1

abbrev mutual
  pub frames_depth : frames.Frames → ℕ → ℕ
  frames_depth (frames.InItems' items p braces) d = braces_depth braces (max items.depth d)
  frames_depth (frames.InThen' test at p under) d = frames_depth under (max test.depth d + 1)
  frames_depth (frames.InElse' test first at p under) d = frames_depth under (max (max test.depth first.value.depth) d + 1)
  frames_depth (frames.InWhile' loop test p under) d = frames_depth under (max test.depth d + 1)
  frames_depth (frames.InDo' loop p under) d = frames_depth under (d + 1)
  frames_depth (frames.InFor' head p under) d = frames_depth under (max (max (max head.value.start.depth head.value.test.depth) head.value.step.depth) d + 1)

  pub braces_depth : braces.Braces → ℕ → ℕ
  braces_depth (braces.OfBlock' at p under) d = frames_depth under (d + 1)
  braces_depth (braces.OfSwitch' test at p under) d = frames_depth under (max test.depth d + 1)
  braces_depth (braces.OfFunction header) d = header_depth header d

abbrev pub scope_depth : scopes.Scope → ℕ → ℕ
scope_depth (scope.AtFile front) d = max front.depth d + 1
scope_depth (scope.AmongItems front braces) d = braces_depth braces.value (max front.depth d)
scope_depth (scope.AtFor loop under) d = frames_depth under.value (d + 1)

abbrev pub head_depth : heads.Head → ℕ → ℕ
head_depth head d = scope_depth head.scope (max head.objects.depth d + 1)

abbrev pub proto_depth : protos.Proto → ℕ → ℕ
proto_depth proto d = scope_depth proto.scope (d + 1)

abbrev pub declarator_depth : declarators.Declarator → ℕ → ℕ
declarator_depth (declarator.OfObject head name) d = head_depth head (d + 1)
declarator_depth (declarator.OfParam param) d = proto_depth param.proto (max param.front.depth (d + 1))

abbrev pub test_depth : tests.Test → ℕ → ℕ
test_depth (test.OfIf at under) d = frames_depth under.value (d + 1)
test_depth (test.OfWhile loop under) d = frames_depth under.value (d + 1)
test_depth (test.OfDo loop body under) d = frames_depth under.value (max body.value.depth d + 1)
test_depth (test.OfChoice at under) d = frames_depth under.value (d + 1)

abbrev pub purpose_depth : purposes.Purpose → ℕ → ℕ
purpose_depth (purpose.Evaluates under) d = frames_depth under.value (d + 1)
purpose_depth (purpose.Returns at under) d = frames_depth under.value (d + 1)
purpose_depth (purpose.Tests test) d = test_depth test d
purpose_depth (purpose.Starts loop under) d = frames_depth under.value (d + 1)
purpose_depth (purpose.Guards head under) d = frames_depth under.value (max head.value.start.depth d + 1)
purpose_depth (purpose.Repeats head under) d = frames_depth under.value (max (max head.value.start.depth head.value.test.depth) d + 1)
purpose_depth (purpose.Sizes declarator) d = declarator_depth declarator.value d
purpose_depth (purpose.Initialises object) d = head_depth object.value.head (max object.value.shape.depth d + 1)
purpose_depth (purpose.Lists object front) d = head_depth object.value.head (max object.value.shape.depth (max front.depth d) + 1)
purpose_depth (purpose.Labels front braces at) d = braces_depth braces.value (max front.depth (d + 1))

abbrev pub stack_depth : stacks.Stack → ℕ → ℕ
stack_depth (stacks.Base purpose) d = purpose_depth purpose d
stack_depth (stacks.InParen' at p under) d = stack_depth under (d + 1)
stack_depth (stacks.InIndex' array p under) d = stack_depth under (d + 1)
stack_depth (stacks.InCall' function front p under) d = stack_depth under (max front.depth d + 1)
stack_depth (stacks.AfterPrefix' operator at p under) d = stack_depth under (d + 1)
stack_depth (stacks.AfterCast' all at p under) d = stack_depth under (d + 1)
stack_depth (stacks.AfterJoin' operator left p under) d = stack_depth under (max left.depth d + 1)
stack_depth (stacks.AfterQuestion' test p under) d = stack_depth under (max test.depth d + 1)
stack_depth (stacks.AfterColon' test first p under) d = stack_depth under (max (max test.depth first.value.depth) d + 1)
stack_depth (stacks.AfterAssign' operator target p under) d = stack_depth under (max target.depth d + 1)

abbrev pub state_depth : states.State → ℕ
state_depth (state.OfOperand at_operand.Wants under) = stack_depth under 1
state_depth (state.OfOperand (at_operand.Has tree) under) = stack_depth under tree.depth
state_depth (state.OfOperand (at_operand.Opened at) under) = stack_depth under 2
state_depth (state.OfOperand (at_operand.Typed all at) under) = stack_depth under 2
state_depth (state.OfOperand (at_operand.Called function) under) = stack_depth under 1
state_depth (state.File front) = front.depth + 1
state_depth (state.Among front braces) = braces_depth braces.value front.depth
state_depth (state.OfStatement at_statement.Begins under) = frames_depth under.value 1
state_depth (state.OfStatement (at_statement.Stands statement) under) = frames_depth under.value statement.depth
state_depth (state.OfStatement (at_statement.Closes statement) under) = frames_depth under.value statement.depth
state_depth (state.OfStatement (at_statement.Bounded bound) under) = frames_depth under.value 1
state_depth (state.Opens test) = test_depth test 1
state_depth (state.OfStatement (at_statement.Chooses test at) under) = frames_depth under.value (test.depth + 1)
state_depth (state.OfStatement (at_statement.Answers at) under) = frames_depth under.value 1
state_depth (state.Defaults front braces at) = braces_depth braces.value (max front.depth 1)
state_depth (state.OfStatement (at_statement.Loops loop) under) = frames_depth under.value 1
state_depth (state.OfStatement (at_statement.LoopStarts loop) under) = frames_depth under.value 1
state_depth (state.OfStatement (at_statement.LoopTests head) under) = frames_depth under.value (head.start.depth + 1)
state_depth (state.OfStatement (at_statement.LoopSteps head) under) = frames_depth under.value (max head.start.depth head.test.depth + 1)
state_depth (state.Specified all at scope) = scope_depth scope 1
state_depth (state.OfProto at_proto.Named proto) = proto_depth proto 0
state_depth (state.OfHead at_head.Further head) = head_depth head 1
state_depth (state.OfDeclarator at_declarator.Declares declarator) = declarator_depth declarator 0
state_depth (state.OfDeclarator at_declarator.Sizing declarator) = declarator_depth declarator 0
state_depth (state.OfDeclarator (at_declarator.Shaped shape) declarator) = declarator_depth declarator shape.depth
state_depth (state.OfReceiver at_receiver.Initial object) = head_depth object.head (object.shape.depth + 1)
state_depth (state.OfReceiver (at_receiver.Listed front) object) = head_depth object.head (max object.shape.depth front.depth + 1)
state_depth (state.OfHead (at_head.Ended object) head) = head_depth head object.depth
state_depth (state.OfProto at_proto.ParamsOpen proto) = proto_depth proto 0
state_depth (state.OfProto (at_proto.ParamNext front) proto) = proto_depth proto front.depth
state_depth (state.OfProto (at_proto.ParamSpecified front all at) proto) = proto_depth proto (max front.depth 1)
state_depth (state.OfProto (at_proto.ParamsDone params) proto) = proto_depth proto params.depth
