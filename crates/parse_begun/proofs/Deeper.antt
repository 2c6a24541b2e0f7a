-- What has begun is deeper than what stands in it.
use Rattle.std.proofs.Common.{ℕ, ◌+◌, ◌≤◌, arith}
use Rattle.parse_begun.specs.declared.begun.Frames as frames
use Rattle.parse_begun.specs.declared.begun.Braces as braces
use Rattle.parse_begun.specs.declared.begun.Scope as scopes
use Rattle.parse_begun.specs.declared.begun.Scope.TheVariants as scope
use Rattle.parse_begun.specs.declared.begun.Declarator as declarators
use Rattle.parse_begun.specs.declared.begun.Declarator.TheVariants as declarator
use Rattle.parse_begun.specs.declared.begun.Test as tests
use Rattle.parse_begun.specs.declared.begun.Test.TheVariants as test
use Rattle.parse_begun.specs.declared.begun.Purpose as purposes
use Rattle.parse_begun.specs.declared.begun.Purpose.TheVariants as purpose
use Rattle.parse_begun.specs.declared.begun.Stack as stacks
use Rattle.parse_begun.specs.Depths.{frames_depth, braces_depth, scope_depth, declarator_depth, test_depth, purpose_depth, stack_depth}

mutual
  frames_more : (under : frames.Frames) (n d : ℕ) → n ≤ d → n + 1 ≤ frames_depth under d
  frames_more (frames.InItems' items p braces) n d h = braces_more braces n _ (omega (arith, h))
  frames_more (frames.InThen' test at p under) n d h = frames_more under n _ (omega (arith, h))
  frames_more (frames.InElse' test first at p under) n d h = frames_more under n _ (omega (arith, h))
  frames_more (frames.InWhile' loop test p under) n d h = frames_more under n _ (omega (arith, h))
  frames_more (frames.InDo' loop p under) n d h = frames_more under n _ (omega (arith, h))
  frames_more (frames.InFor' head p under) n d h = frames_more under n _ (omega (arith, h))

  braces_more : (braces : braces.Braces) (n d : ℕ) → n ≤ d → n + 1 ≤ braces_depth braces d
  braces_more (braces.OfBlock' at p under) n d h = frames_more under n _ (omega (arith, h))
  braces_more (braces.OfSwitch' test at p under) n d h = frames_more under n _ (omega (arith, h))
  braces_more (braces.OfFunction header) n d h = omega (arith, h)

scope_more : (scope : scopes.Scope) (n d : ℕ) → n ≤ d → n + 1 ≤ scope_depth scope d
scope_more (scope.AtFile front) n d h = omega (arith, h)
scope_more (scope.AmongItems front braces) n d h = braces_more braces.value n _ (omega (arith, h))
scope_more (scope.AtFor loop under) n d h = frames_more under.value n _ (omega (arith, h))

declarator_more : (declarator : declarators.Declarator) (n d : ℕ) → n ≤ d → n + 1 ≤ declarator_depth declarator d
declarator_more (declarator.OfObject head name) n d h = scope_more head.scope n _ (omega (arith, h))
declarator_more (declarator.OfParam param) n d h = scope_more param.proto.scope n _ (omega (arith, h))

test_more : (test : tests.Test) (n d : ℕ) → n ≤ d → n + 1 ≤ test_depth test d
test_more (test.OfIf at under) n d h = frames_more under.value n _ (omega (arith, h))
test_more (test.OfWhile loop under) n d h = frames_more under.value n _ (omega (arith, h))
test_more (test.OfDo loop body under) n d h = frames_more under.value n _ (omega (arith, h))
test_more (test.OfChoice at under) n d h = frames_more under.value n _ (omega (arith, h))

purpose_more : (purpose : purposes.Purpose) (n d : ℕ) → n ≤ d → n + 1 ≤ purpose_depth purpose d
purpose_more (purpose.Evaluates under) n d h = frames_more under.value n _ (omega (arith, h))
purpose_more (purpose.Returns at under) n d h = frames_more under.value n _ (omega (arith, h))
purpose_more (purpose.Tests test) n d h = test_more test n d h
purpose_more (purpose.Starts loop under) n d h = frames_more under.value n _ (omega (arith, h))
purpose_more (purpose.Guards head under) n d h = frames_more under.value n _ (omega (arith, h))
purpose_more (purpose.Repeats head under) n d h = frames_more under.value n _ (omega (arith, h))
purpose_more (purpose.Sizes declarator) n d h = declarator_more declarator.value n d h
purpose_more (purpose.Initialises object) n d h = scope_more object.value.head.scope n _ (omega (arith, h))
purpose_more (purpose.Lists object front) n d h = scope_more object.value.head.scope n _ (omega (arith, h))
purpose_more (purpose.Labels front braces at) n d h = braces_more braces.value n _ (omega (arith, h))

stack_more : (under : stacks.Stack) (n d : ℕ) → n ≤ d → n + 1 ≤ stack_depth under d
stack_more (stacks.Base purpose) n d h = purpose_more purpose n d h
stack_more (stacks.InParen' at p under) n d h = stack_more under n _ (omega (arith, h))
stack_more (stacks.InIndex' array p under) n d h = stack_more under n _ (omega (arith, h))
stack_more (stacks.InCall' function front p under) n d h = stack_more under n _ (omega (arith, h))
stack_more (stacks.AfterPrefix' operator at p under) n d h = stack_more under n _ (omega (arith, h))
stack_more (stacks.AfterCast' all at p under) n d h = stack_more under n _ (omega (arith, h))
stack_more (stacks.AfterJoin' operator left p under) n d h = stack_more under n _ (omega (arith, h))
stack_more (stacks.AfterQuestion' test p under) n d h = stack_more under n _ (omega (arith, h))
stack_more (stacks.AfterColon' test first p under) n d h = stack_more under n _ (omega (arith, h))
stack_more (stacks.AfterAssign' operator target p under) n d h = stack_more under n _ (omega (arith, h))

pub frames_deeper : (under : frames.Frames) (d : ℕ) → d + 1 ≤ frames_depth under d
frames_deeper under d = frames_more under d d (omega arith)

pub braces_deeper : (braces : braces.Braces) (d : ℕ) → d + 1 ≤ braces_depth braces d
braces_deeper braces d = braces_more braces d d (omega arith)

pub scope_deeper : (scope : scopes.Scope) (d : ℕ) → d + 1 ≤ scope_depth scope d
scope_deeper scope d = scope_more scope d d (omega arith)

pub declarator_deeper : (declarator : declarators.Declarator) (d : ℕ) → d + 1 ≤ declarator_depth declarator d
declarator_deeper declarator d = declarator_more declarator d d (omega arith)

pub test_deeper : (test : tests.Test) (d : ℕ) → d + 1 ≤ test_depth test d
test_deeper test d = test_more test d d (omega arith)

pub purpose_deeper : (purpose : purposes.Purpose) (d : ℕ) → d + 1 ≤ purpose_depth purpose d
purpose_deeper purpose d = purpose_more purpose d d (omega arith)

pub stack_deeper : (under : stacks.Stack) (d : ℕ) → d + 1 ≤ stack_depth under d
stack_deeper under d = stack_more under d d (omega arith)
