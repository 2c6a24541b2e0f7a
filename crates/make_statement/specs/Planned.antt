-- The parts of statements, as the code has them.
use Rattle.std.specs.Prelude.{ℕ, ◌≤◌, Bool, true, false, Option}
use Rattle.facts_definitions.specs.Sites.{count_exprs}
use Rattle.facts_definitions.specs.declared.facts.Bounds.{Bounds}
use Rattle.types_tree.specs.Tree as c
use Rattle.types_tree.specs.View.{declaration_of, statement_of}
use Rattle.types_tree.specs.declared.statement.Item.{Item}
use Rattle.types_tree.specs.declared.statement.Item.TheVariants as item
use Rattle.types_tree.specs.declared.statement.Label.TheVariants as label
use Rattle.high_ir.specs.declared.expression.BinaryOperator.TheVariants as binary
use Rattle.high_ir.specs.Tree.{Expr, Constant, Variable, Binary, Statement, Set, If, Leave, Statements, End, Then}
use Rattle.high_code.specs.Code.{joined, alone, nothing}
use Rattle.plan_definition.specs.declared.home.Home.{Home}
use Rattle.plan_definition.specs.declared.purpose.Purpose.TheVariants.{Value}
use Rattle.plan_definition.specs.Homes.{home_of}
use Rattle.plan_definition.specs.Values.{Valued, in_block, made}
use Rattle.plan_definition.specs.Statements as plans
use Rattle.plan_definition.specs.Statements.{continues, declared, deeper, initialised, planned, stored_at}
use Rattle.make_statement.specs.declared.exits.Exits.{Exits}
use Rattle.make_statement.specs.declared.plan.Plan.{Plan}

abbrev pub plan_said : Plan → plans.Plan
plan_said plan = record { homes = plan.scope.homes.now; bounds = plan.bounds.now; functions = plan.functions }

abbrev pub exits_of : Exits → plans.Exits
exits_of exits = record { out = exits.out; next = exits.next }

abbrev pub item_continues : Item → Bool
item_continues (item.Declaration declaration) = false
item_continues (item.Statement statement) = continues (statement_of statement)
item_continues (item.Restriction pragma) = false
item_continues (item.Label label) = false

abbrev pub is_label : Item → Bool
is_label (item.Declaration declaration) = false
is_label (item.Statement statement) = false
is_label (item.Restriction pragma) = false
is_label (item.Label label) = true

-- notes the number of a label whose word is equal
abbrev pub label_test : (word : Expr) → (noted own number : ℕ) → Statement
label_test word noted own number = If (Binary binary.Equal word (Constant own)) (Set noted (Constant number)) nothing

abbrev pub item_tests : (word : Expr) → (noted : ℕ) → Item → (number : ℕ) → Statements
item_tests word noted (item.Declaration declaration) number = End
item_tests word noted (item.Statement statement) number = End
item_tests word noted (item.Restriction pragma) number = End
item_tests word noted (item.Label (label.Case value own at)) number = alone (label_test word noted own number)
item_tests word noted (item.Label (label.Default at)) number = End

-- one start of a loop that fills elements with 0
abbrev pub filling_round : Home → (k end : ℕ) → Statements
filling_round home k end =
    Then (stored_at home (Variable k) (Constant 0))
    (Then (Set k (Binary binary.Add (Variable k) (Constant 1)))
    (alone (If (Binary binary.LessUnsigned (Variable k) (Constant end)) nothing (Leave 0))))

-- an element that has the value of an expression
abbrev pub element_planned : plans.Plan → Home → c.Expr → (index k : ℕ) → Statements
element_planned plan home e index k = joined (made plan.homes Value e k).code (alone (stored_at home (Constant index) (made plan.homes Value e k).value))

abbrev pub object_planned : plans.Plan → c.Object → (shift k : ℕ) → Statements
object_planned plan (c.Declared object shape initial at) shift k = initialised plan (home_of plan.homes object) initial shift k

-- what an item becomes in a block
abbrev pub item_planned : plans.Plan → Item → (k : ℕ) → plans.Exits → Statements
item_planned plan (item.Declaration declaration) k exits = declared plan (declaration_of declaration) 0 k
item_planned plan (item.Statement statement) k exits = planned plan (statement_of statement) k exits
item_planned plan (item.Restriction pragma) k exits = End
item_planned plan (item.Label label) k exits = End

-- the bounds of a loop are small enough for one start more
pub record IsSmall (bounds : Bounds) : Type 0 where
  pub min : bounds.min ≤ 2147483647
  pub max : bounds.max ≤ 2147483647

-- the exits within the first and the other way of a choice, which jumps put into two blocks and one
abbrev pub within_first : (joint : Bool) → plans.Exits → plans.Exits
within_first false exits = exits
within_first true exits = deeper (deeper exits)

abbrev pub within_other : (joint : Bool) → plans.Exits → plans.Exits
within_other false exits = exits
within_other true exits = deeper exits

-- a choice by a word that is noted, and then the block of the parts
abbrev pub switched_to : (word : Valued) → (noted default : ℕ) → (tests parts : Statements) → Statements
switched_to word noted default tests parts = joined word.code (Then (Set noted (Constant default)) (joined tests (in_block parts)))

-- the elements that a list has, and then those that it leaves over
abbrev pub list_planned : plans.Plan → Home → c.Exprs → Option ℕ → (shift k : ℕ) → Statements
list_planned plan home es number shift k = joined (plans.listed plan home es 0 k) (plans.filling plan home shift number (count_exprs es) k)
