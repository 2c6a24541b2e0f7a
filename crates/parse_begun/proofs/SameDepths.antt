-- The depths that stand beside parts are those of the parts with their names.
use Rattle.std.proofs.Common.{◌≡◌, ℕ, ◌+◌, max, refl, ap}
use Rattle.parse_begun.proofs.PartDepths.{both_max, part_depth_is, parts_depth_is, maybe_depth_is, shape_depth_is, object_depth_is, objects_depth_is, params_depth_is, start_depth_is, statement_depth_is, items_depth_is, externals_depth_is}
use Rattle.parse_begun.specs.View.{Names, braces_of, declarator_of, frames_of, head_of, header_of, proto_of, purpose_of, scope_of, stack_of, state_of, test_of}
use Rattle.parse_begun.specs.declared.begun.Header as headers
use Rattle.parse_begun.specs.declared.begun.Frames as frames
use Rattle.parse_begun.specs.declared.begun.Braces as braces
use Rattle.parse_begun.specs.declared.begun.Scope as scopes
use Rattle.parse_begun.specs.declared.begun.Scope.TheVariants as scope
use Rattle.parse_begun.specs.declared.begun.Head as heads
use Rattle.parse_begun.specs.declared.begun.Proto as protos
use Rattle.parse_begun.specs.declared.begun.Declarator as declarators
use Rattle.parse_begun.specs.declared.begun.Declarator.TheVariants as declarator
use Rattle.parse_begun.specs.declared.begun.Test as tests
use Rattle.parse_begun.specs.declared.begun.Test.TheVariants as test
use Rattle.parse_begun.specs.declared.begun.Purpose as purposes
use Rattle.parse_begun.specs.declared.begun.Purpose.TheVariants as purpose
use Rattle.parse_begun.specs.declared.begun.Stack as stacks
use Rattle.parse_begun.specs.declared.begun.State as states
use Rattle.parse_begun.specs.declared.begun.State.TheVariants as state
use Rattle.parse_begun.specs.declared.begun.AtOperand.TheVariants as at_operand
use Rattle.parse_begun.specs.declared.begun.AtStatement.TheVariants as at_statement
use Rattle.parse_begun.specs.declared.begun.AtHead.TheVariants as at_head
use Rattle.parse_begun.specs.declared.begun.AtReceiver.TheVariants as at_receiver
use Rattle.parse_begun.specs.declared.begun.AtDeclarator.TheVariants as at_declarator
use Rattle.parse_begun.specs.declared.begun.AtProto.TheVariants as at_proto
use Rattle.parse_begun.specs.Depths.{header_depth, frames_depth, braces_depth, scope_depth, head_depth, proto_depth, declarator_depth, test_depth, purpose_depth, stack_depth, state_depth}
use Rattle.parse_grammar.specs.Depth.{header_deep, frames_deep, braces_deep, scope_deep, head_deep, proto_deep, declarator_deep, test_deep, purpose_deep, stack_deep, deep}

-- one more, where both are the same
pub both_over : (a b c d : ℕ) → a ≡ c → b ≡ d → max a b + 1 ≡ max c d + 1
both_over a b c d e g = ap (λ n. n + 1) (both_max a b c d e g)

pub header_same : (f : Names) (header : headers.Header) (d e : ℕ) → d ≡ e → header_depth header d ≡ header_deep (header_of f header) e
header_same f header d e h = both_over _ _ _ _ (externals_depth_is f header.front) (both_over _ _ _ _ (params_depth_is f header.params) (ap (λ n. n + 1) h))

mutual
  pub frames_same : (f : Names) (under : frames.Frames) (d e : ℕ) → d ≡ e → frames_depth under d ≡ frames_deep (frames_of f under) e
  frames_same f (frames.InItems' items p braces) d e h = braces_same f braces _ _ (both_max _ _ _ _ (items_depth_is f items) h)
  frames_same f (frames.InThen' test at p under) d e h = frames_same f under _ _ (both_over _ _ _ _ (part_depth_is f test) h)
  frames_same f (frames.InElse' test first at p under) d e h = frames_same f under _ _ (both_over _ _ _ _ (both_max _ _ _ _ (part_depth_is f test) (statement_depth_is f first.value)) h)
  frames_same f (frames.InWhile' loop test p under) d e h = frames_same f under _ _ (both_over _ _ _ _ (part_depth_is f test) h)
  frames_same f (frames.InDo' loop p under) d e h = frames_same f under _ _ (ap (λ n. n + 1) h)
  frames_same f (frames.InFor' head p under) d e h = frames_same f under _ _ (both_over _ _ _ _ (both_max _ _ _ _ (both_max _ _ _ _ (start_depth_is f head.value.start) (maybe_depth_is f head.value.test)) (maybe_depth_is f head.value.step)) h)

  pub braces_same : (f : Names) (braces : braces.Braces) (d e : ℕ) → d ≡ e → braces_depth braces d ≡ braces_deep (braces_of f braces) e
  braces_same f (braces.OfBlock' at p under) d e h = frames_same f under _ _ (ap (λ n. n + 1) h)
  braces_same f (braces.OfSwitch' test at p under) d e h = frames_same f under _ _ (both_over _ _ _ _ (part_depth_is f test) h)
  braces_same f (braces.OfFunction header) d e h = header_same f header d e h

pub scope_same : (f : Names) (scope : scopes.Scope) (d e : ℕ) → d ≡ e → scope_depth scope d ≡ scope_deep (scope_of f scope) e
scope_same f (scope.AtFile front) d e h = both_over _ _ _ _ (externals_depth_is f front) h
scope_same f (scope.AmongItems front braces) d e h = braces_same f braces.value _ _ (both_max _ _ _ _ (items_depth_is f front) h)
scope_same f (scope.AtFor loop under) d e h = frames_same f under.value _ _ (ap (λ n. n + 1) h)

pub head_same : (f : Names) (head : heads.Head) (d e : ℕ) → d ≡ e → head_depth head d ≡ head_deep (head_of f head) e
head_same f head d e h = scope_same f head.scope _ _ (both_over _ _ _ _ (objects_depth_is f head.objects) h)

pub proto_same : (f : Names) (proto : protos.Proto) (d e : ℕ) → d ≡ e → proto_depth proto d ≡ proto_deep (proto_of f proto) e
proto_same f proto d e h = scope_same f proto.scope _ _ (ap (λ n. n + 1) h)

pub declarator_same : (f : Names) (declarator : declarators.Declarator) (d e : ℕ) → d ≡ e → declarator_depth declarator d ≡ declarator_deep (declarator_of f declarator) e
declarator_same f (declarator.OfObject head name) d e h = head_same f head _ _ (ap (λ n. n + 1) h)
declarator_same f (declarator.OfParam param) d e h = proto_same f param.proto _ _ (both_max _ _ _ _ (params_depth_is f param.front) (ap (λ n. n + 1) h))

pub test_same : (f : Names) (test : tests.Test) (d e : ℕ) → d ≡ e → test_depth test d ≡ test_deep (test_of f test) e
test_same f (test.OfIf at under) d e h = frames_same f under.value _ _ (ap (λ n. n + 1) h)
test_same f (test.OfWhile loop under) d e h = frames_same f under.value _ _ (ap (λ n. n + 1) h)
test_same f (test.OfDo loop body under) d e h = frames_same f under.value _ _ (both_over _ _ _ _ (statement_depth_is f body.value) h)
test_same f (test.OfChoice at under) d e h = frames_same f under.value _ _ (ap (λ n. n + 1) h)

pub purpose_same : (f : Names) (purpose : purposes.Purpose) (d e : ℕ) → d ≡ e → purpose_depth purpose d ≡ purpose_deep (purpose_of f purpose) e
purpose_same f (purpose.Evaluates under) d e h = frames_same f under.value _ _ (ap (λ n. n + 1) h)
purpose_same f (purpose.Returns at under) d e h = frames_same f under.value _ _ (ap (λ n. n + 1) h)
purpose_same f (purpose.Tests test) d e h = test_same f test d e h
purpose_same f (purpose.Starts loop under) d e h = frames_same f under.value _ _ (ap (λ n. n + 1) h)
purpose_same f (purpose.Guards head under) d e h = frames_same f under.value _ _ (both_over _ _ _ _ (start_depth_is f head.value.start) h)
purpose_same f (purpose.Repeats head under) d e h = frames_same f under.value _ _ (both_over _ _ _ _ (both_max _ _ _ _ (start_depth_is f head.value.start) (maybe_depth_is f head.value.test)) h)
purpose_same f (purpose.Sizes declarator) d e h = declarator_same f declarator.value d e h
purpose_same f (purpose.Initialises object) d e h = head_same f object.value.head _ _ (both_over _ _ _ _ (shape_depth_is f object.value.shape) h)
purpose_same f (purpose.Lists object front) d e h = head_same f object.value.head _ _ (both_over _ _ _ _ (shape_depth_is f object.value.shape) (both_max _ _ _ _ (parts_depth_is f front) h))
purpose_same f (purpose.Labels front braces at) d e h = braces_same f braces.value _ _ (both_max _ _ _ _ (items_depth_is f front) (ap (λ n. n + 1) h))

pub stack_same : (f : Names) (under : stacks.Stack) (d e : ℕ) → d ≡ e → stack_depth under d ≡ stack_deep (stack_of f under) e
stack_same f (stacks.Base purpose) d e h = purpose_same f purpose d e h
stack_same f (stacks.InParen' at p under) d e h = stack_same f under _ _ (ap (λ n. n + 1) h)
stack_same f (stacks.InIndex' array p under) d e h = stack_same f under _ _ (ap (λ n. n + 1) h)
stack_same f (stacks.InCall' function front p under) d e h = stack_same f under _ _ (both_over _ _ _ _ (parts_depth_is f front) h)
stack_same f (stacks.AfterPrefix' operator at p under) d e h = stack_same f under _ _ (ap (λ n. n + 1) h)
stack_same f (stacks.AfterCast' all at p under) d e h = stack_same f under _ _ (ap (λ n. n + 1) h)
stack_same f (stacks.AfterJoin' operator left p under) d e h = stack_same f under _ _ (both_over _ _ _ _ (part_depth_is f left) h)
stack_same f (stacks.AfterQuestion' test p under) d e h = stack_same f under _ _ (both_over _ _ _ _ (part_depth_is f test) h)
stack_same f (stacks.AfterColon' test first p under) d e h = stack_same f under _ _ (both_over _ _ _ _ (both_max _ _ _ _ (part_depth_is f test) (part_depth_is f first.value)) h)
stack_same f (stacks.AfterAssign' operator target p under) d e h = stack_same f under _ _ (both_over _ _ _ _ (part_depth_is f target) h)

pub state_same : (f : Names) (state : states.State) → state_depth state ≡ deep (state_of f state)
state_same f (state.OfOperand at_operand.Wants under) = stack_same f under _ _ refl
state_same f (state.OfOperand (at_operand.Has tree) under) = stack_same f under _ _ (part_depth_is f tree)
state_same f (state.OfOperand (at_operand.Opened at) under) = stack_same f under _ _ refl
state_same f (state.OfOperand (at_operand.Typed all at) under) = stack_same f under _ _ refl
state_same f (state.OfOperand (at_operand.Called function) under) = stack_same f under _ _ refl
state_same f (state.File front) = ap (λ n. n + 1) (externals_depth_is f front)
state_same f (state.Among front braces) = braces_same f braces.value _ _ (items_depth_is f front)
state_same f (state.OfStatement at_statement.Begins under) = frames_same f under.value _ _ refl
state_same f (state.OfStatement (at_statement.Stands statement) under) = frames_same f under.value _ _ (statement_depth_is f statement)
state_same f (state.OfStatement (at_statement.Closes statement) under) = frames_same f under.value _ _ (statement_depth_is f statement)
state_same f (state.OfStatement (at_statement.Bounded bound) under) = frames_same f under.value _ _ refl
state_same f (state.Opens test) = test_same f test _ _ refl
state_same f (state.OfStatement (at_statement.Chooses test at) under) = frames_same f under.value _ _ (ap (λ n. n + 1) (part_depth_is f test))
state_same f (state.OfStatement (at_statement.Answers at) under) = frames_same f under.value _ _ refl
state_same f (state.Defaults front braces at) = braces_same f braces.value _ _ (both_max _ 1 _ 1 (items_depth_is f front) refl)
state_same f (state.OfStatement (at_statement.Loops loop) under) = frames_same f under.value _ _ refl
state_same f (state.OfStatement (at_statement.LoopStarts loop) under) = frames_same f under.value _ _ refl
state_same f (state.OfStatement (at_statement.LoopTests head) under) = frames_same f under.value _ _ (ap (λ n. n + 1) (start_depth_is f head.start))
state_same f (state.OfStatement (at_statement.LoopSteps head) under) = frames_same f under.value _ _ (both_over _ _ _ _ (start_depth_is f head.start) (maybe_depth_is f head.test))
state_same f (state.Specified all at scope) = scope_same f scope _ _ refl
state_same f (state.OfProto at_proto.Named proto) = proto_same f proto 0 0 refl
state_same f (state.OfHead at_head.Further head) = head_same f head 1 1 refl
state_same f (state.OfDeclarator at_declarator.Declares declarator) = declarator_same f declarator 0 0 refl
state_same f (state.OfDeclarator at_declarator.Sizing declarator) = declarator_same f declarator 0 0 refl
state_same f (state.OfDeclarator (at_declarator.Shaped shape) declarator) = declarator_same f declarator _ _ (shape_depth_is f shape)
state_same f (state.OfReceiver at_receiver.Initial object) = head_same f object.head _ _ (ap (λ n. n + 1) (shape_depth_is f object.shape))
state_same f (state.OfReceiver (at_receiver.Listed front) object) = head_same f object.head _ _ (both_over _ _ _ _ (shape_depth_is f object.shape) (parts_depth_is f front))
state_same f (state.OfHead (at_head.Ended object) head) = head_same f head _ _ (object_depth_is f object)
state_same f (state.OfProto at_proto.ParamsOpen proto) = proto_same f proto 0 0 refl
state_same f (state.OfProto (at_proto.ParamNext front) proto) = proto_same f proto _ _ (params_depth_is f front)
state_same f (state.OfProto (at_proto.ParamSpecified front all at) proto) = proto_same f proto _ _ (both_max _ 1 _ 1 (params_depth_is f front) refl)
state_same f (state.OfProto (at_proto.ParamsDone params) proto) = proto_same f proto _ _ (params_depth_is f params)
