-- What the numbers beside the parts say of the depth before the newest part, and that it stays within a bound.
use Rattle.std.proofs.Common.{◌≡◌, refl, ap, subst, ◌∙◌, ℕ, ◌+◌, ◌≤◌, [], Bool, true, false, arith}
use Rattle.std.specs.Prelude.{nat_le}
use Rattle.c_tree.specs.Spelling.{Spoken}
use Rattle.parse_begun.specs.View.{Names, braces_of, declarator_of, frames_of, head_of, proto_of, purpose_of, scope_of, stack_of, state_of, test_of}
use Rattle.parse_begun.specs.declared.begun.Frames as frames
use Rattle.parse_begun.specs.declared.begun.Braces as braces
use Rattle.parse_begun.specs.declared.begun.Scope as scopes
use Rattle.parse_begun.specs.declared.begun.Scope.TheVariants as scope
use Rattle.parse_begun.specs.declared.begun.Head as heads
use Rattle.parse_begun.specs.declared.begun.Proto as protos
use Rattle.parse_begun.specs.declared.begun.Declarator as declarators
use Rattle.parse_begun.specs.declared.begun.Declarator.TheVariants as declarator
use Rattle.parse_begun.specs.declared.begun.Test as tests
use Rattle.parse_begun.specs.declared.begun.Test.TheVariants as test
use Rattle.parse_begun.specs.declared.begun.Purpose as purposes
use Rattle.parse_begun.specs.declared.begun.Purpose.TheVariants as purpose
use Rattle.parse_begun.specs.declared.begun.Stack as stacks
use Rattle.parse_begun.specs.declared.begun.State as states
use Rattle.parse_begun.specs.declared.begun.State.TheVariants as state
use Rattle.parse_begun.specs.declared.begun.AtOperand.TheVariants as at_operand
use Rattle.parse_begun.specs.declared.begun.AtStatement.TheVariants as at_statement
use Rattle.parse_begun.specs.declared.begun.AtHead.TheVariants as at_head
use Rattle.parse_begun.specs.declared.begun.AtReceiver.TheVariants as at_receiver
use Rattle.parse_begun.specs.declared.begun.AtDeclarator.TheVariants as at_declarator
use Rattle.parse_begun.specs.declared.begun.AtProto.TheVariants as at_proto
use Rattle.parse_begun.specs.Depths.{braces_depth, scope_depth, head_depth, proto_depth, stack_depth, state_depth}
use Rattle.parse_begun.proofs.PartDepths.{both_max, shape_depth_is, parts_depth_is, objects_depth_is, params_depth_is, items_depth_is, items_depth_before_is}
use Rattle.parse_begun.proofs.SameDepths.{both_over, braces_same, scope_same, head_same, proto_same, stack_same, state_same}
use Rattle.parse_grammar.specs.Machine.{Goes, step}
use Rattle.parse_grammar.specs.Depth.{deep}
use Rattle.parse_grammar.proofs.Grows.{braces_mono}
use Rattle.parse_depth.specs.Before.{frames_before, braces_before, scope_before, objects_before, head_before, proto_before, declarator_before, test_before, purpose_before, stack_before, items_before, before}
use Rattle.parse_depth.specs.Known.{frames_known, braces_known, scope_known, objects_known, head_known, proto_known, declarator_known, test_known, purpose_known, stack_known, items_known, state_known}
use Rattle.parse_depth.proofs.Befores.{braces_hold, scope_hold, head_hold, proto_hold, stack_hold}
use Rattle.parse_depth.proofs.Steps.{Holds, holds}

mutual
  pub frames_alike : (f : Names) (under : frames.Frames) → frames_known under ≡ frames_before (frames_of f under)
  frames_alike f (frames.InItems' items p braces) = both_max _ _ _ _ (braces_same f braces _ _ (items_depth_is f items)) (braces_alike f braces)
  frames_alike f (frames.InThen' test at p under) = frames_alike f under
  frames_alike f (frames.InElse' test first at p under) = frames_alike f under
  frames_alike f (frames.InWhile' loop test p under) = frames_alike f under
  frames_alike f (frames.InDo' loop p under) = frames_alike f under
  frames_alike f (frames.InFor' head p under) = frames_alike f under

  pub braces_alike : (f : Names) (braces : braces.Braces) → braces_known braces ≡ braces_before (braces_of f braces)
  braces_alike f (braces.OfBlock' at p under) = frames_alike f under
  braces_alike f (braces.OfSwitch' test at p under) = frames_alike f under
  braces_alike f (braces.OfFunction header) = refl

pub scope_alike : (f : Names) (scope : scopes.Scope) → scope_known scope ≡ scope_before (scope_of f scope)
scope_alike f (scope.AtFile front) = refl
scope_alike f (scope.AmongItems front braces) = braces_same f braces.value _ _ (items_depth_is f front)
scope_alike f (scope.AtFor loop under) = frames_alike f under.value

objects_by : (f : Names) (b : Bool) (scope : scopes.Scope) (d : ℕ) → objects_known b scope d ≡ objects_before b (scope_of f scope) d
objects_by f true scope d = scope_same f scope _ _ refl
objects_by f false scope d = scope_alike f scope

objects_alike : (f : Names) (scope : scopes.Scope) (d e : ℕ) → d ≡ e → objects_known (nat_le 2 d) scope d ≡ objects_before (nat_le 2 e) (scope_of f scope) e
objects_alike f scope d e h = ap (λ n. objects_known (nat_le 2 n) scope n) h ∙ objects_by f (nat_le 2 e) scope e

pub head_alike : (f : Names) (head : heads.Head) → head_known head ≡ head_before (head_of f head)
head_alike f head = objects_alike f head.scope _ _ (objects_depth_is f head.objects)

pub proto_alike : (f : Names) (proto : protos.Proto) → proto_known proto ≡ proto_before (proto_of f proto)
proto_alike f proto = scope_alike f proto.scope

declarator_alike : (f : Names) (declarator : declarators.Declarator) → declarator_known declarator ≡ declarator_before (declarator_of f declarator)
declarator_alike f (declarator.OfObject head name) = head_alike f head
declarator_alike f (declarator.OfParam param) = proto_same f param.proto _ _ (params_depth_is f param.front)

test_alike : (f : Names) (test : tests.Test) → test_known test ≡ test_before (test_of f test)
test_alike f (test.OfIf at under) = frames_alike f under.value
test_alike f (test.OfWhile loop under) = frames_alike f under.value
test_alike f (test.OfDo loop body under) = frames_alike f under.value
test_alike f (test.OfChoice at under) = frames_alike f under.value

purpose_alike : (f : Names) (purpose : purposes.Purpose) → purpose_known purpose ≡ purpose_before (purpose_of f purpose)
purpose_alike f (purpose.Evaluates under) = frames_alike f under.value
purpose_alike f (purpose.Returns at under) = frames_alike f under.value
purpose_alike f (purpose.Tests test) = test_alike f test
purpose_alike f (purpose.Starts loop under) = frames_alike f under.value
purpose_alike f (purpose.Guards head under) = frames_alike f under.value
purpose_alike f (purpose.Repeats head under) = frames_alike f under.value
purpose_alike f (purpose.Sizes declarator) = declarator_alike f declarator.value
purpose_alike f (purpose.Initialises object) = head_alike f object.value.head
purpose_alike f (purpose.Lists object front) = head_same f object.value.head _ _ (both_over _ _ _ _ (shape_depth_is f object.value.shape) (parts_depth_is f front))
purpose_alike f (purpose.Labels front braces at) = braces_same f braces.value _ _ (items_depth_is f front)

pub stack_alike : (f : Names) (under : stacks.Stack) → stack_known under ≡ stack_before (stack_of f under)
stack_alike f (stacks.Base purpose) = purpose_alike f purpose
stack_alike f (stacks.InParen' at p under) = stack_alike f under
stack_alike f (stacks.InIndex' array p under) = stack_alike f under
stack_alike f (stacks.InCall' function front p under) = both_max _ _ _ _ (stack_same f under _ _ (ap (λ n. n + 1) (parts_depth_is f front))) (stack_alike f under)
stack_alike f (stacks.AfterPrefix' operator at p under) = stack_alike f under
stack_alike f (stacks.AfterCast' all at p under) = stack_alike f under
stack_alike f (stacks.AfterJoin' operator left p under) = stack_alike f under
stack_alike f (stacks.AfterQuestion' test p under) = stack_alike f under
stack_alike f (stacks.AfterColon' test first p under) = stack_alike f under
stack_alike f (stacks.AfterAssign' operator target p under) = stack_alike f under

items_by : (f : Names) (b : Bool) (braces : braces.Braces) (d : ℕ) → items_known b braces d ≡ items_before b (braces_of f braces) d
items_by f true braces d = braces_same f braces _ _ refl
items_by f false braces d = braces_alike f braces

items_alike : (f : Names) (least : ℕ) (braces : braces.Braces) (d e : ℕ) → d ≡ e → items_known (nat_le least d) braces d ≡ items_before (nat_le least e) (braces_of f braces) e
items_alike f least braces d e h = ap (λ n. items_known (nat_le least n) braces n) h ∙ items_by f (nat_le least e) braces e

state_alike : (f : Names) (state : states.State) → state_known state ≡ before (state_of f state)
state_alike f (state.OfOperand at_operand.Wants under) = stack_alike f under
state_alike f (state.OfOperand (at_operand.Has tree) under) = stack_alike f under
state_alike f (state.OfOperand (at_operand.Opened at) under) = stack_alike f under
state_alike f (state.OfOperand (at_operand.Typed all at) under) = stack_alike f under
state_alike f (state.OfOperand (at_operand.Called function) under) = stack_alike f under
state_alike f (state.File front) = refl
state_alike f (state.Among front braces) = both_max _ _ _ _ (items_alike f 3 braces.value _ _ (items_depth_is f front)) (items_alike f 1 braces.value _ _ (items_depth_before_is f front))
state_alike f (state.OfStatement at_statement.Begins under) = frames_alike f under.value
state_alike f (state.OfStatement (at_statement.Stands statement) under) = frames_alike f under.value
state_alike f (state.OfStatement (at_statement.Closes statement) under) = frames_alike f under.value
state_alike f (state.OfStatement (at_statement.Bounded bound) under) = frames_alike f under.value
state_alike f (state.Opens test) = test_alike f test
state_alike f (state.OfStatement (at_statement.Chooses test at) under) = frames_alike f under.value
state_alike f (state.OfStatement (at_statement.Answers at) under) = frames_alike f under.value
state_alike f (state.Defaults front braces at) = braces_same f braces.value _ _ (items_depth_is f front)
state_alike f (state.OfStatement (at_statement.Loops loop) under) = frames_alike f under.value
state_alike f (state.OfStatement (at_statement.LoopStarts loop) under) = frames_alike f under.value
state_alike f (state.OfStatement (at_statement.LoopTests head) under) = frames_alike f under.value
state_alike f (state.OfStatement (at_statement.LoopSteps head) under) = frames_alike f under.value
state_alike f (state.Specified all at scope) = scope_alike f scope
state_alike f (state.OfProto at_proto.Named proto) = proto_alike f proto
state_alike f (state.OfHead at_head.Further head) = head_alike f head
state_alike f (state.OfDeclarator at_declarator.Declares declarator) = declarator_alike f declarator
state_alike f (state.OfDeclarator at_declarator.Sizing declarator) = declarator_alike f declarator
state_alike f (state.OfDeclarator (at_declarator.Shaped shape) declarator) = declarator_alike f declarator
state_alike f (state.OfReceiver at_receiver.Initial object) = head_alike f object.head
state_alike f (state.OfReceiver (at_receiver.Listed front) object) = head_same f object.head _ _ (both_over _ _ _ _ (shape_depth_is f object.shape) (parts_depth_is f front))
state_alike f (state.OfHead (at_head.Ended object) head) = head_alike f head
state_alike f (state.OfProto at_proto.ParamsOpen proto) = proto_alike f proto
state_alike f (state.OfProto (at_proto.ParamNext front) proto) = proto_same f proto _ _ (params_depth_is f front)
state_alike f (state.OfProto (at_proto.ParamSpecified front all at) proto) = proto_same f proto _ _ (params_depth_is f front)
state_alike f (state.OfProto (at_proto.ParamsDone params) proto) = proto_same f proto _ _ (params_depth_is f params)

-- behind a shallow state a step leads to one that was shallow before its newest part
pub known_next : (f : Names) (state next : states.State) (token : Spoken) → state_depth state ≤ 256 → step (state_of f state) token ≡ Goes (state_of f next) → state_known next ≤ 256
known_next f state next token h e =
    let g : Holds (deep (state_of f state)) (Goes (state_of f next)) = subst (Holds (deep (state_of f state))) e (holds (state_of f state) token) in
    let d = state_same f state in
    let k = state_alike f next in omega (arith, g, d, k, h)

-- no names at all
pub nameless : Names
nameless n = []

pub braces_within : (braces : braces.Braces) (d : ℕ) → braces_known braces ≤ braces_depth braces d
braces_within braces d =
    let a = braces_alike nameless braces in
    let b = braces_hold (braces_of nameless braces) d in
    let c = braces_same nameless braces d d refl in omega (arith, a, b, c)

pub braces_grow : (braces : braces.Braces) (d e : ℕ) → d ≤ e → braces_depth braces d ≤ braces_depth braces e
braces_grow braces d e h =
    let a = braces_same nameless braces d d refl in
    let b = braces_same nameless braces e e refl in
    let c = braces_mono (braces_of nameless braces) d e h in omega (arith, a, b, c)

pub scope_within : (scope : scopes.Scope) (d : ℕ) → scope_known scope ≤ scope_depth scope d
scope_within scope d =
    let a = scope_alike nameless scope in
    let b = scope_hold (scope_of nameless scope) d in
    let c = scope_same nameless scope d d refl in omega (arith, a, b, c)

pub head_within : (head : heads.Head) (d : ℕ) → head_known head ≤ head_depth head d
head_within head d =
    let a = head_alike nameless head in
    let b = head_hold (head_of nameless head) d in
    let c = head_same nameless head d d refl in omega (arith, a, b, c)

pub proto_within : (proto : protos.Proto) (d : ℕ) → proto_known proto ≤ proto_depth proto d
proto_within proto d =
    let a = proto_alike nameless proto in
    let b = proto_hold (proto_of nameless proto) d in
    let c = proto_same nameless proto d d refl in omega (arith, a, b, c)

pub stack_within : (under : stacks.Stack) (d : ℕ) → stack_known under ≤ stack_depth under d
stack_within under d =
    let a = stack_alike nameless under in
    let b = stack_hold (stack_of nameless under) d in
    let c = stack_same nameless under d d refl in omega (arith, a, b, c)
