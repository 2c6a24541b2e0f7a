-- What was there before the newest part is no deeper than what has begun.
use Rattle.std.proofs.Common.{ℕ, ◌+◌, ◌≤◌, max, Bool, true, false, arith}
use Rattle.std.specs.Prelude.{nat_le}
use Rattle.parse_grammar.specs.Begun.{Frames, InItems, InThen, InElse, InWhile, InDo, InFor, Braces, OfBlock, OfSwitch, OfFunction, Scope, AtFile, AmongItems, AtFor, Head, Heading, Proto, Signs, Declarator, OfObject, OfParam, Test, OfIf, OfWhile, OfDo, OfChoice, Purpose, Evaluates, Returns, Tests, Starts, Guards, Repeats, Sizes, Initialises, Lists, Labels, Stack, Base, InParen, InIndex, InCall, AfterPrefix, AfterCast, AfterJoin, AfterQuestion, AfterColon, AfterAssign}
use Rattle.parse_grammar.specs.Depth.{frames_deep, braces_deep, scope_deep, head_deep, proto_deep, declarator_deep, test_deep, purpose_deep, stack_deep}
use Rattle.parse_grammar.proofs.Grows.{braces_mono, scope_mono, head_mono, proto_mono, stack_mono}
use Rattle.parse_depth.specs.Before.{frames_before, braces_before, scope_before, objects_before, head_before, proto_before, declarator_before, test_before, purpose_before, stack_before, items_before, among_before}

-- where two numbers are within a bound
pub both : (a b n : ℕ) → a ≤ n → b ≤ n → max a b ≤ n
both a b n h k = omega (arith, h, k)

mutual
  pub frames_hold : (under : Frames) (d : ℕ) → frames_before under ≤ frames_deep under d
  frames_hold (InItems front braces) d = both _ _ _ (braces_mono braces _ _ (omega arith)) (braces_hold braces _)
  frames_hold (InThen test at under) d = frames_hold under _
  frames_hold (InElse test first at under) d = frames_hold under _
  frames_hold (InWhile bound test at under) d = frames_hold under _
  frames_hold (InDo bound at under) d = frames_hold under _
  frames_hold (InFor bound start test step at under) d = frames_hold under _

  pub braces_hold : (braces : Braces) (d : ℕ) → braces_before braces ≤ braces_deep braces d
  braces_hold (OfBlock at under) d = frames_hold under _
  braces_hold (OfSwitch test at under) d = frames_hold under _
  braces_hold (OfFunction header) d = omega arith

pub scope_hold : (scope : Scope) (d : ℕ) → scope_before scope ≤ scope_deep scope d
scope_hold (AtFile front) d = omega arith
scope_hold (AmongItems front braces) d = braces_mono braces _ _ (omega arith)
scope_hold (AtFor bound at under) d = frames_hold under _

-- objects are no deeper than a bound on what they stand in
pub objects_hold : (scope : Scope) (b : Bool) (d n : ℕ) → scope_deep scope (d + 1) ≤ n → objects_before b scope d ≤ n
objects_hold scope true d n h = h
objects_hold scope false d n h = let e = scope_hold scope (d + 1) in omega (arith, e, h)

pub head_hold : (head : Head) (d : ℕ) → head_before head ≤ head_deep head d
head_hold (Heading all objects at scope) d = objects_hold scope (nat_le 2 _) _ _ (scope_mono scope _ _ (omega arith))

pub proto_hold : (proto : Proto) (d : ℕ) → proto_before proto ≤ proto_deep proto d
proto_hold (Signs all name name_at at scope) d = scope_hold scope _

pub declarator_hold : (declarator : Declarator) (d : ℕ) → declarator_before declarator ≤ declarator_deep declarator d
declarator_hold (OfObject head name at) d = head_hold head _
declarator_hold (OfParam proto front all name at) d = proto_mono proto _ _ (omega arith)

pub test_hold : (test : Test) (d : ℕ) → test_before test ≤ test_deep test d
test_hold (OfIf at under) d = frames_hold under _
test_hold (OfWhile bound at under) d = frames_hold under _
test_hold (OfDo bound body at under) d = frames_hold under _
test_hold (OfChoice at under) d = frames_hold under _

pub purpose_hold : (purpose : Purpose) (d : ℕ) → purpose_before purpose ≤ purpose_deep purpose d
purpose_hold (Evaluates under) d = frames_hold under _
purpose_hold (Returns at under) d = frames_hold under _
purpose_hold (Tests test) d = test_hold test d
purpose_hold (Starts bound at under) d = frames_hold under _
purpose_hold (Guards bound start at under) d = frames_hold under _
purpose_hold (Repeats bound start test at under) d = frames_hold under _
purpose_hold (Sizes declarator) d = declarator_hold declarator d
purpose_hold (Initialises head name shape at) d = head_hold head _
purpose_hold (Lists head name shape front at) d = head_mono head _ _ (omega arith)
purpose_hold (Labels front braces at) d = braces_mono braces _ _ (omega arith)

pub stack_hold : (under : Stack) (d : ℕ) → stack_before under ≤ stack_deep under d
stack_hold (Base purpose) d = purpose_hold purpose d
stack_hold (InParen at under) d = stack_hold under _
stack_hold (InIndex array at under) d = stack_hold under _
stack_hold (InCall function at front under) d = both _ _ _ (stack_mono under _ _ (omega arith)) (stack_hold under _)
stack_hold (AfterPrefix operator at under) d = stack_hold under _
stack_hold (AfterCast all at under) d = stack_hold under _
stack_hold (AfterJoin operator left under) d = stack_hold under _
stack_hold (AfterQuestion test under) d = stack_hold under _
stack_hold (AfterColon test first under) d = stack_hold under _
stack_hold (AfterAssign operator target under) d = stack_hold under _

-- a list of arguments, and a list of items, within a bound on it
pub arguments_hold : (under : Stack) (d n : ℕ) → d ≤ n → max (stack_deep under d) (stack_before under) ≤ stack_deep under n
arguments_hold under d n h = both _ _ _ (stack_mono under _ _ h) (stack_hold under n)

pub listed_hold : (braces : Braces) (d : ℕ) → max (braces_deep braces d) (braces_before braces) ≤ braces_deep braces d
listed_hold braces d = both _ _ _ (omega arith) (braces_hold braces d)

-- items are no deeper than a bound on what they stand in
pub items_hold : (braces : Braces) (b : Bool) (d n : ℕ) → braces_deep braces d ≤ n → items_before b braces d ≤ n
items_hold braces true d n h = h
items_hold braces false d n h = let e = braces_hold braces d in omega (arith, e, h)

-- and those before the last are within it too
pub among_hold : (braces : Braces) (d e n : ℕ) → items_before (nat_le 3 d) braces d ≤ n → braces_deep braces e ≤ n → among_before braces d e ≤ n
among_hold braces d e n h k = both _ _ _ h (items_hold braces (nat_le 1 e) e n k)
