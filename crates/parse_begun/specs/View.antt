-- What the parser has begun, as what the machine has begun; a name is told by its number.
use Rattle.std.specs.Prelude.{◌≡◌, ℕ, Option, Result, Ok, Err}
use Rattle.c_tree.specs.Tree as trees
use Rattle.c_tree.specs.Tree.{Row, Nothing, NoExpr, NoItem}
use Rattle.c_tree.specs.View.{expr_of, exprs_of, shape_of, object_of, param_of, row_of, items_of, statement_of, start_of, external_of}
use Rattle.c_tree.specs.Size.{size, size_all, size_external, size_items, size_object, size_optional, size_param, size_row, size_shape, size_start, size_statement}
use Rattle.c_tree.specs.Named.{named, named_all, named_shape, named_object, named_param, named_start, named_statement, named_items, named_external, map_row, map_option}
use Rattle.parse_begun.specs.declared.part.Part as parts
use Rattle.parse_begun.specs.declared.part.Parts as many
use Rattle.parse_begun.specs.declared.part.MaybePart as maybe
use Rattle.parse_begun.specs.declared.part.ShapePart as shapes
use Rattle.parse_begun.specs.declared.part.ObjectPart as object
use Rattle.parse_begun.specs.declared.part.ObjectParts as objects
use Rattle.parse_begun.specs.declared.part.ParamPart as param
use Rattle.parse_begun.specs.declared.part.ParamParts as params
use Rattle.parse_begun.specs.declared.part.StartPart as starts
use Rattle.parse_begun.specs.declared.part.StatementPart as statement
use Rattle.parse_begun.specs.declared.part.ItemParts as items
use Rattle.parse_begun.specs.declared.part.ExternalParts as externals
use Rattle.parse_begun.specs.declared.begun.Header as headers
use Rattle.parse_begun.specs.declared.begun.Frames as frames
use Rattle.parse_begun.specs.declared.begun.Braces as braces
use Rattle.parse_begun.specs.declared.begun.Scope as scopes
use Rattle.parse_begun.specs.declared.begun.Scope.TheVariants as scope
use Rattle.parse_begun.specs.declared.begun.Head as heads
use Rattle.parse_begun.specs.declared.begun.Proto as protos
use Rattle.parse_begun.specs.declared.begun.Declarator as declarators
use Rattle.parse_begun.specs.declared.begun.Declarator.TheVariants as declarator
use Rattle.parse_begun.specs.declared.begun.Test as tests
use Rattle.parse_begun.specs.declared.begun.Test.TheVariants as test
use Rattle.parse_begun.specs.declared.begun.Purpose as purposes
use Rattle.parse_begun.specs.declared.begun.Purpose.TheVariants as purpose
use Rattle.parse_begun.specs.declared.begun.Stack as stacks
use Rattle.parse_begun.specs.declared.begun.State as states
use Rattle.parse_begun.specs.declared.begun.State.TheVariants as state
use Rattle.parse_begun.specs.declared.begun.AtOperand.TheVariants as at_operand
use Rattle.parse_begun.specs.declared.begun.AtStatement.TheVariants as at_statement
use Rattle.parse_begun.specs.declared.begun.AtHead.TheVariants as at_head
use Rattle.parse_begun.specs.declared.begun.AtReceiver.TheVariants as at_receiver
use Rattle.parse_begun.specs.declared.begun.AtDeclarator.TheVariants as at_declarator
use Rattle.parse_begun.specs.declared.begun.AtProto.TheVariants as at_proto
use Rattle.c_tree.specs.declared.expression.NameId.{NameId}
use Rattle.parse_begun.specs.declared.refusal.Refusal.{Refusal}
use Rattle.parse_begun.specs.declared.refusal.Refusal.TheVariants as refusals
use Rattle.parse_begun.specs.BeforeLast.{before_last}
use Rattle.parse_grammar.specs.Machine.{Moved, Goes, Stuck}
use Rattle.parse_grammar.specs.Begun.{Bytes, Header, Heads, Frames, InItems, InThen, InElse, InWhile, InDo, InFor, Braces, OfBlock, OfSwitch, OfFunction, Scope, AtFile, AmongItems, AtFor, Head, Heading, Proto, Signs, Declarator, OfObject, OfParam, Test, OfIf, OfWhile, OfDo, OfChoice, Purpose, Evaluates, Returns, Tests, Starts, Guards, Repeats, Sizes, Initialises, Lists, Labels, Stack, Base, InParen, InIndex, InCall, AfterPrefix, AfterCast, AfterJoin, AfterQuestion, AfterColon, AfterAssign, State, Wants, Has, Opened, Typed, Called, File, Among, Begins, Stands, Closes, Bounded, Opens, Chooses, Answers, Defaults, Loops, LoopStarts, LoopTests, LoopSteps, Specified, Named, Further, Declares, Sizing, Shaped, Initial, Listed, Ended, ParamsOpen, ParamNext, ParamSpecified, ParamsDone}

-- the names by their numbers
abbrev pub Names : Type 0
Names = ℕ → Bytes

abbrev pub part_of : Names → parts.Part → trees.Expr Bytes
part_of f part = named f (expr_of part.tree)

abbrev pub parts_of : Names → many.Parts → trees.Exprs Bytes
parts_of f parts = named_all f (exprs_of NoExpr parts.list.items)

abbrev pub maybe_of : Names → maybe.MaybePart → Option (trees.Expr Bytes)
maybe_of f part = map_option (named f) (map_option expr_of part.tree)

abbrev pub shape_part_of : Names → shapes.ShapePart → trees.Shape Bytes
shape_part_of f part = named_shape f (shape_of part.shape)

abbrev pub object_part_of : Names → object.ObjectPart → trees.Object Bytes
object_part_of f part = named_object f (object_of part.object)

abbrev pub objects_of : Names → objects.ObjectParts → Row (trees.Object Bytes)
objects_of f parts = map_row (named_object f) (row_of object_of Nothing parts.list.items)

abbrev pub param_part_of : Names → param.ParamPart → trees.Param Bytes
param_part_of f part = named_param f (param_of part.param)

abbrev pub params_of : Names → params.ParamParts → Row (trees.Param Bytes)
params_of f parts = map_row (named_param f) (row_of param_of Nothing parts.list.items)

abbrev pub start_part_of : Names → starts.StartPart → trees.ForStart Bytes
start_part_of f part = named_start f (start_of part.start)

abbrev pub statement_part_of : Names → statement.StatementPart → trees.Statement Bytes
statement_part_of f part = named_statement f (statement_of part.statement)

abbrev pub item_parts_of : Names → items.ItemParts → trees.Items Bytes
item_parts_of f parts = named_items f (items_of NoItem parts.list.items)

abbrev pub externals_of : Names → externals.ExternalParts → Row (trees.External Bytes)
externals_of f parts = map_row (named_external f) (row_of external_of Nothing parts.list.items)

abbrev pub header_of : Names → headers.Header → Header
header_of f header = Heads header.specifiers.items (f header.name.name.0) header.name.at (params_of f header.params) header.body_at header.at (externals_of f header.front)

abbrev mutual
  pub frames_of : Names → frames.Frames → Frames
  frames_of f (frames.InItems' items p braces) = InItems (item_parts_of f items) (braces_of f braces)
  frames_of f (frames.InThen' test at p under) = InThen (part_of f test) at (frames_of f under)
  frames_of f (frames.InElse' test first at p under) = InElse (part_of f test) (statement_part_of f first.value) at (frames_of f under)
  frames_of f (frames.InWhile' loop test p under) = InWhile loop.bound (part_of f test) loop.at (frames_of f under)
  frames_of f (frames.InDo' loop p under) = InDo loop.bound loop.at (frames_of f under)
  frames_of f (frames.InFor' head p under) = InFor head.value.bound (start_part_of f head.value.start) (maybe_of f head.value.test) (maybe_of f head.value.step) head.value.at (frames_of f under)

  pub braces_of : Names → braces.Braces → Braces
  braces_of f (braces.OfBlock' at p under) = OfBlock at (frames_of f under)
  braces_of f (braces.OfSwitch' test at p under) = OfSwitch (part_of f test) at (frames_of f under)
  braces_of f (braces.OfFunction header) = OfFunction (header_of f header)

abbrev pub scope_of : Names → scopes.Scope → Scope
scope_of f (scope.AtFile front) = AtFile (externals_of f front)
scope_of f (scope.AmongItems front braces) = AmongItems (item_parts_of f front) (braces_of f braces.value)
scope_of f (scope.AtFor loop under) = AtFor loop.bound loop.at (frames_of f under.value)

abbrev pub head_of : Names → heads.Head → Head
head_of f head = Heading head.specifiers.items (objects_of f head.objects) head.at (scope_of f head.scope)

abbrev pub proto_of : Names → protos.Proto → Proto
proto_of f proto = Signs proto.specifiers.items (f proto.name.name.0) proto.name.at proto.at (scope_of f proto.scope)

abbrev pub id_named : Names → NameId → Bytes
id_named f name = f name.0

abbrev pub declarator_of : Names → declarators.Declarator → Declarator
declarator_of f (declarator.OfObject head name) = OfObject (head_of f head) (f name.name.0) name.at
declarator_of f (declarator.OfParam param) = OfParam (proto_of f param.proto) (params_of f param.front) param.specifiers.items (map_option (id_named f) param.name) param.at

abbrev pub test_of : Names → tests.Test → Test
test_of f (test.OfIf at under) = OfIf at (frames_of f under.value)
test_of f (test.OfWhile loop under) = OfWhile loop.bound loop.at (frames_of f under.value)
test_of f (test.OfDo loop body under) = OfDo loop.bound (statement_part_of f body.value) loop.at (frames_of f under.value)
test_of f (test.OfChoice at under) = OfChoice at (frames_of f under.value)

abbrev pub purpose_of : Names → purposes.Purpose → Purpose
purpose_of f (purpose.Evaluates under) = Evaluates (frames_of f under.value)
purpose_of f (purpose.Returns at under) = Returns at (frames_of f under.value)
purpose_of f (purpose.Tests test) = Tests (test_of f test)
purpose_of f (purpose.Starts loop under) = Starts loop.bound loop.at (frames_of f under.value)
purpose_of f (purpose.Guards head under) = Guards head.value.bound (start_part_of f head.value.start) head.value.at (frames_of f under.value)
purpose_of f (purpose.Repeats head under) = Repeats head.value.bound (start_part_of f head.value.start) (maybe_of f head.value.test) head.value.at (frames_of f under.value)
purpose_of f (purpose.Sizes declarator) = Sizes (declarator_of f declarator.value)
purpose_of f (purpose.Initialises object) = Initialises (head_of f object.value.head) (f object.value.name.name.0) (shape_part_of f object.value.shape) object.value.name.at
purpose_of f (purpose.Lists object front) = Lists (head_of f object.value.head) (f object.value.name.name.0) (shape_part_of f object.value.shape) (parts_of f front) object.value.name.at
purpose_of f (purpose.Labels front braces at) = Labels (item_parts_of f front) (braces_of f braces.value) at

abbrev pub stack_of : Names → stacks.Stack → Stack
stack_of f (stacks.Base purpose) = Base (purpose_of f purpose)
stack_of f (stacks.InParen' at p under) = InParen at (stack_of f under)
stack_of f (stacks.InIndex' array p under) = InIndex (f array.name.0) array.at (stack_of f under)
stack_of f (stacks.InCall' function front p under) = InCall (f function.name.0) function.at (parts_of f front) (stack_of f under)
stack_of f (stacks.AfterPrefix' operator at p under) = AfterPrefix operator at (stack_of f under)
stack_of f (stacks.AfterCast' all at p under) = AfterCast all.items at (stack_of f under)
stack_of f (stacks.AfterJoin' operator left p under) = AfterJoin operator (part_of f left) (stack_of f under)
stack_of f (stacks.AfterQuestion' test p under) = AfterQuestion (part_of f test) (stack_of f under)
stack_of f (stacks.AfterColon' test first p under) = AfterColon (part_of f test) (part_of f first.value) (stack_of f under)
stack_of f (stacks.AfterAssign' operator target p under) = AfterAssign operator (part_of f target) (stack_of f under)

abbrev pub state_of : Names → states.State → State
state_of f (state.OfOperand at_operand.Wants under) = Wants (stack_of f under)
state_of f (state.OfOperand (at_operand.Has tree) under) = Has (part_of f tree) (stack_of f under)
state_of f (state.OfOperand (at_operand.Opened at) under) = Opened at (stack_of f under)
state_of f (state.OfOperand (at_operand.Typed all at) under) = Typed all.items at (stack_of f under)
state_of f (state.OfOperand (at_operand.Called function) under) = Called (f function.name.0) function.at (stack_of f under)
state_of f (state.File front) = File (externals_of f front)
state_of f (state.Among front braces) = Among (item_parts_of f front) (braces_of f braces.value)
state_of f (state.OfStatement at_statement.Begins under) = Begins (frames_of f under.value)
state_of f (state.OfStatement (at_statement.Stands statement) under) = Stands (statement_part_of f statement) (frames_of f under.value)
state_of f (state.OfStatement (at_statement.Closes statement) under) = Closes (statement_part_of f statement) (frames_of f under.value)
state_of f (state.OfStatement (at_statement.Bounded bound) under) = Bounded bound (frames_of f under.value)
state_of f (state.Opens test) = Opens (test_of f test)
state_of f (state.OfStatement (at_statement.Chooses test at) under) = Chooses (part_of f test) at (frames_of f under.value)
state_of f (state.OfStatement (at_statement.Answers at) under) = Answers at (frames_of f under.value)
state_of f (state.Defaults front braces at) = Defaults (item_parts_of f front) (braces_of f braces.value) at
state_of f (state.OfStatement (at_statement.Loops loop) under) = Loops loop.bound loop.at (frames_of f under.value)
state_of f (state.OfStatement (at_statement.LoopStarts loop) under) = LoopStarts loop.bound loop.at (frames_of f under.value)
state_of f (state.OfStatement (at_statement.LoopTests head) under) = LoopTests head.bound (start_part_of f head.start) head.at (frames_of f under.value)
state_of f (state.OfStatement (at_statement.LoopSteps head) under) = LoopSteps head.bound (start_part_of f head.start) (maybe_of f head.test) head.at (frames_of f under.value)
state_of f (state.Specified all at scope) = Specified all.items at (scope_of f scope)
state_of f (state.OfProto at_proto.Named proto) = Named (proto_of f proto)
state_of f (state.OfHead at_head.Further head) = Further (head_of f head)
state_of f (state.OfDeclarator at_declarator.Declares declarator) = Declares (declarator_of f declarator)
state_of f (state.OfDeclarator at_declarator.Sizing declarator) = Sizing (declarator_of f declarator)
state_of f (state.OfDeclarator (at_declarator.Shaped shape) declarator) = Shaped (declarator_of f declarator) (shape_part_of f shape)
state_of f (state.OfReceiver at_receiver.Initial object) = Initial (head_of f object.head) (f object.name.name.0) (shape_part_of f object.shape) object.name.at
state_of f (state.OfReceiver (at_receiver.Listed front) object) = Listed (head_of f object.head) (f object.name.name.0) (shape_part_of f object.shape) (parts_of f front) object.name.at
state_of f (state.OfHead (at_head.Ended object) head) = Ended (head_of f head) (object_part_of f object)
state_of f (state.OfProto at_proto.ParamsOpen proto) = ParamsOpen (proto_of f proto)
state_of f (state.OfProto (at_proto.ParamNext front) proto) = ParamNext (proto_of f proto) (params_of f front)
state_of f (state.OfProto (at_proto.ParamSpecified front all at) proto) = ParamSpecified (proto_of f proto) (params_of f front) all.items at
state_of f (state.OfProto (at_proto.ParamsDone params) proto) = ParamsDone (proto_of f proto) (params_of f params)

-- the depths of parts
abbrev pub part_depth : Names → parts.Part → ℕ
part_depth f part = (size (part_of f part)).depth

abbrev pub parts_depth : Names → many.Parts → ℕ
parts_depth f parts = (size_all (parts_of f parts)).depth

abbrev pub shape_depth : Names → shapes.ShapePart → ℕ
shape_depth f part = (size_shape (shape_part_of f part)).depth

abbrev pub object_depth : Names → object.ObjectPart → ℕ
object_depth f part = (size_object (object_part_of f part)).depth

abbrev pub objects_depth : Names → objects.ObjectParts → ℕ
objects_depth f parts = (size_row size_object (objects_of f parts)).depth

abbrev pub params_depth : Names → params.ParamParts → ℕ
params_depth f parts = (size_row size_param (params_of f parts)).depth

abbrev pub maybe_depth : Names → maybe.MaybePart → ℕ
maybe_depth f part = (size_optional (maybe_of f part)).depth

abbrev pub start_depth : Names → starts.StartPart → ℕ
start_depth f part = (size_start (start_part_of f part)).depth

abbrev pub items_depth : Names → items.ItemParts → ℕ
items_depth f parts = (size_items (item_parts_of f parts)).depth

-- of the items before the last
abbrev pub items_depth_before : Names → items.ItemParts → ℕ
items_depth_before f parts = (size_items (before_last (item_parts_of f parts))).depth

abbrev pub externals_depth : Names → externals.ExternalParts → ℕ
externals_depth f parts = (size_row size_external (externals_of f parts)).depth

abbrev pub statement_depth : Names → statement.StatementPart → ℕ
statement_depth f part = (size_statement (statement_part_of f part)).depth

-- what a step answers: the state to which the machine goes, or why it goes nowhere
abbrev pub Gives : Names → Result states.State Refusal → Moved → Type 0
Gives f (Ok state) o = o ≡ Goes (state_of f state)
Gives f (Err refusals.Memory) o = Unit {0}
Gives f (Err refusals.Syntax) o = o ≡ Stuck
