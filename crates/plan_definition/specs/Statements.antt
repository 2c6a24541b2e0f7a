-- What declarations and statements become.
-- Temporaries are the variables from `k` on; a `break` and a `continue` leave the blocks of the depths that `Exits` says.
use Rattle.std.specs.Prelude.{ℕ, suc, ◌+◌, ◌-◌, Bool, true, false, ◌||◌, List, [], ◌∷◌, Option, Some, None}
use Rattle.facts_definitions.specs.Most.{bounds_at}
use Rattle.facts_definitions.specs.Sites.{count_exprs}
use Rattle.facts_definitions.specs.Starts.{is_always, starts}
use Rattle.facts_definitions.specs.declared.facts.Bounds.{Bounds}
use Rattle.facts_definitions.specs.declared.facts.Starts.{Starts}
use Rattle.types_tree.specs.Tree as c
use Rattle.high_ir.specs.declared.expression.BinaryOperator.TheVariants as binary
use Rattle.high_ir.specs.Tree.{Expr, Constant, Variable, Binary, Statement, Set, Mark, Seq, If, Loop, Block, Leave, Return, Statements, End, Then}
use Rattle.high_code.specs.Code.{joined, alone, nothing}
use Rattle.plan_definition.specs.declared.home.Home.{Home}
use Rattle.plan_definition.specs.declared.home.Home.TheVariants.{Frame, Memory}
use Rattle.plan_definition.specs.declared.purpose.Purpose.TheVariants.{Value, Effect, Unless}
use Rattle.plan_definition.specs.Homes.{home_of}
use Rattle.plan_definition.specs.Homes as homes
use Rattle.plan_definition.specs.Values.{Valued, chosen, chosen_by_jumps, firm, in_block, is_joint, made}

-- where objects live, the bounds of the source's loops, and how many functions have marks before the markers
pub record Plan : Type 0 where
  pub homes : List Home
  pub bounds : List Bounds
  pub functions : ℕ

-- the depths of the blocks that a `break` and a `continue` leave
pub record Exits : Type 0 where
  pub out : ℕ
  pub next : ℕ

-- within one block more, which is none of theirs
abbrev pub deeper : Exits → Exits
deeper exits = record { out = suc exits.out; next = suc exits.next }

-- within the body of a loop: its continues leave a block around it, where it has any of its own
abbrev pub in_loop : (continues : Bool) → Exits
in_loop false = record { out = 0; next = 0 }
in_loop true = record { out = 1; next = 0 }

-- within the parts of a switch
abbrev pub in_switch : Exits → Exits
in_switch exits = record { out = 0; next = suc exits.next }

-- an element of an object
abbrev pub stored_at : Home → (index : Expr) → (value : Expr) → Statement
stored_at (Frame x) index value = Set x value
stored_at (Memory array) index value = homes.stored (homes.InMemory array index) value

-- elements from `from` on are 0: a loop whose bounds are how many they are
abbrev pub filled : Home → (id from count k : ℕ) → Statements
filled home id from count k =
    Then (Set k (Constant from))
    (alone (Block (Loop id count count (Seq
    (Then (stored_at home (Variable k) (Constant 0))
    (Then (Set k (Binary binary.Add (Variable k) (Constant 1)))
    (alone (If (Binary binary.LessUnsigned (Variable k) (Constant (from + count))) nothing (Leave 0)))))))))

-- the loops of the head of a `for` stand before it, so their numbers are less by one
abbrev pub filling : Plan → Home → (shift : ℕ) → Option ℕ → (from k : ℕ) → Statements
filling plan home shift None from k = End
filling plan home shift (Some number) from k = filled home (number - 1 - shift) from (bounds_at plan.bounds number).max k

-- a test of a loop, which leaves it; one that is a constant other than 0 is none
abbrev pub leaving_unless : (always : Bool) → Statements → Statements
leaving_unless true jumps = End
leaving_unless false jumps = jumps

-- whether a statement has a `continue` of its own
abbrev mutual
  pub continues : c.Statement → Bool
  continues (c.Block items at) = items_continue items
  continues (c.If test first at) = continues first
  continues (c.IfElse test first second at) = continues first || continues second
  continues (c.Switch test items at) = items_continue items
  continues (c.Continue at) = true
  continues other = false

  pub items_continue : c.Items → Bool
  items_continue c.NoItem = false
  items_continue (c.WithDeclaration declaration rest) = items_continue rest
  items_continue (c.WithStatement statement rest) = continues statement || items_continue rest
  items_continue (c.WithRestriction pragma rest) = items_continue rest
  items_continue (c.WithLabel label rest) = items_continue rest

-- whether only the last statement of its code leaves blocks, which is a block of its own
abbrev pub ends_in_block : c.Statement → Bool
ends_in_block (c.IfElse test first second at) = is_joint test
ends_in_block (c.Switch test items at) = true
ends_in_block other = false

abbrev pub last_in_block : Statements → Statements
last_in_block End = End
last_in_block (Then first End) = alone (Block first)
last_in_block (Then first (Then second rest)) = Then first (last_in_block (Then second rest))

-- the code of a body, in a block that its continues leave; the block stands around the last statement where that is enough,
-- so that a statement within others takes no more than four levels
abbrev pub rounded : (continues ends_in_block : Bool) → Statements → Statements
rounded false ends code = code
rounded true false code = in_block code
rounded true true code = last_in_block code

-- the body of a loop, by its code among blocks
abbrev pub round_of : (body : c.Statement) → (Exits → Statements) → Statements
round_of body code = rounded (continues body) (ends_in_block body) (code (in_loop (continues body)))

abbrev pub looped : (id : ℕ) → Starts → (round : Statements) → Statements
looped id bounds round = alone (Block (Loop id bounds.least bounds.most (Seq round)))

-- how many loops stand in the head of a `for`
abbrev pub fillings_of : c.Initial → ℕ
fillings_of (c.Listed values comma (Some number)) = 1
fillings_of other = 0

abbrev pub fillings_in : List c.Object → ℕ
fillings_in [] = 0
fillings_in (c.Declared object shape initial at ∷ rest) = fillings_of initial + fillings_in rest

abbrev pub loops_before : c.ForStart → ℕ
loops_before (c.StartDeclaration (c.Objects specifiers objects at)) = fillings_in objects
loops_before other = 0

-- the number of the first label is 1; of no label, more than all
abbrev pub label_count : c.Items → ℕ
label_count c.NoItem = 0
label_count (c.WithDeclaration declaration rest) = label_count rest
label_count (c.WithStatement statement rest) = label_count rest
label_count (c.WithRestriction pragma rest) = label_count rest
label_count (c.WithLabel label rest) = suc (label_count rest)

-- the number of the first default, or one more than that of all labels
abbrev pub default_number : c.Items → (number : ℕ) → ℕ
default_number c.NoItem number = number
default_number (c.WithDeclaration declaration rest) number = default_number rest number
default_number (c.WithStatement statement rest) number = default_number rest number
default_number (c.WithRestriction pragma rest) number = default_number rest number
default_number (c.WithLabel (c.Case value word at) rest) number = default_number rest (suc number)
default_number (c.WithLabel (c.Default at) rest) number = number

-- the tests of the labels, the last one first, so that the first equal label is noted at last
abbrev pub label_tests : (word : Expr) → (noted : ℕ) → c.Items → (number : ℕ) → Statements
label_tests word noted c.NoItem number = End
label_tests word noted (c.WithDeclaration declaration rest) number = label_tests word noted rest number
label_tests word noted (c.WithStatement statement rest) number = label_tests word noted rest number
label_tests word noted (c.WithRestriction pragma rest) number = label_tests word noted rest number
label_tests word noted (c.WithLabel (c.Case value own at) rest) number =
    joined (label_tests word noted rest (suc number)) (alone (If (Binary binary.Equal word (Constant own)) (Set noted (Constant number)) nothing))
label_tests word noted (c.WithLabel (c.Default at) rest) number = label_tests word noted rest (suc number)

-- statements up to the next label, and what stands from it on
pub record Parts : Type 0 where
  pub before : Statements
  pub behind : Statements

abbrev pub and_before : Statements → Parts → Parts
and_before code parts = record { before = joined code parts.before; behind = parts.behind }

-- statements behind a label, which are run where no later one was chosen
abbrev pub guarded : (noted number : ℕ) → (before behind : Statements) → Statements
guarded noted number End behind = behind
guarded noted number (Then first rest) behind = Then (If (Binary binary.AtLeastUnsigned (Constant number) (Variable noted)) (Seq (Then first rest)) nothing) behind

abbrev pub at_label : (noted number : ℕ) → Parts → Parts
at_label noted number parts = record { before = End; behind = guarded noted number parts.before parts.behind }

abbrev pub chosen_if : (joint : Bool) → (test : Valued) → (jumps first within : Statements) → Statements
chosen_if false test jumps first within = chosen test first End
chosen_if true test jumps first within = in_block (joined jumps within)

abbrev pub chosen_else : (joint : Bool) → (test : Valued) → (jumps first other first_within other_within : Statements) → Statements
chosen_else false test jumps first other first_within other_within = chosen test first other
chosen_else true test jumps first other first_within other_within = chosen_by_jumps jumps first_within other_within

-- a choice by a word: which label is noted, and then the parts
abbrev pub switched : (word : Valued) → (noted default : ℕ) → (tests : Statements) → Parts → Statements
switched word noted default tests parts = joined word.code (Then (Set noted (Constant default)) (joined tests (in_block (guarded noted 0 parts.before parts.behind))))

module _ (plan : Plan) where
  abbrev pub listed : Home → c.Exprs → (index k : ℕ) → Statements
  listed home c.NoExpr index k = End
  listed home (c.WithExpr e rest) index k =
      joined (made plan.homes Value e k).code (Then (stored_at home (Constant index) (made plan.homes Value e k).value) (listed home rest (index + 1) k))

  abbrev pub initialised : Home → c.Initial → (shift k : ℕ) → Statements
  initialised home c.Absent shift k = End
  initialised home (c.Value e) shift k = joined (made plan.homes Value e k).code (alone (stored_at home (Constant 0) (made plan.homes Value e k).value))
  initialised home (c.Listed es comma number) shift k = joined (listed home es 0 k) (filling plan home shift number (count_exprs es) k)

  abbrev pub all_declared : List c.Object → (shift k : ℕ) → Statements
  all_declared [] shift k = End
  all_declared (c.Declared object shape initial at ∷ rest) shift k = joined (initialised (home_of plan.homes object) initial shift k) (all_declared rest shift k)

  abbrev pub declared : c.Declaration → (shift k : ℕ) → Statements
  declared (c.Objects specifiers objects at) shift k = all_declared objects shift k
  declared (c.Prototype specifiers name params at) shift k = End

  abbrev pub started : c.ForStart → (k : ℕ) → Statements
  started c.NoStart k = End
  started (c.StartValue e) k = (made plan.homes Effect e k).code
  started (c.StartDeclaration declaration) k = declared declaration 1 k

  abbrev pub tested : Option c.Expr → (k : ℕ) → Statements
  tested None k = End
  tested (Some e) k = leaving_unless (is_always e) (made plan.homes (Unless 0) e k).code

  abbrev pub stepped : Option c.Expr → (k : ℕ) → Statements
  stepped None k = End
  stepped (Some e) k = (made plan.homes Effect e k).code

  abbrev pub returned : Option c.Expr → (k : ℕ) → Statements
  returned None k = alone (Return (Constant 0))
  returned (Some e) k = joined (made plan.homes Value e k).code (alone (Return (made plan.homes Value e k).value))

  abbrev mutual
    pub planned : c.Statement → (k : ℕ) → Exits → Statements
    planned (c.Block items at) k exits = all_planned items k exits
    planned (c.Empty at) k exits = End
    planned (c.Evaluate e at) k exits = (made plan.homes Effect e k).code
    planned (c.Marker number pragma) k exits = alone (Mark (plan.functions + number))
    planned (c.If test first at) k exits = chosen_if (is_joint test) (made plan.homes Value test k) (made plan.homes (Unless 0) test k).code (planned first k exits) (planned first k (deeper exits))
    planned (c.IfElse test first second at) k exits =
        chosen_else (is_joint test) (made plan.homes Value test k) (made plan.homes (Unless 0) test k).code
        (planned first k exits) (planned second k exits) (planned first k (deeper (deeper exits))) (planned second k (deeper exits))
    planned (c.While number bound test body at) k exits =
        looped (number - 1) (starts (c.While number bound test body at) (bounds_at plan.bounds number)) (joined (tested (Some test) k) (round_of body (planned body k)))
    planned (c.Do number bound body test at) k exits =
        looped (number - 1) (starts (c.Do number bound body test at) (bounds_at plan.bounds number)) (joined (round_of body (planned body k)) (made plan.homes (Unless 0) test k).code)
    planned (c.For number bound start test step body at) k exits =
        joined (started start k)
        (looped (number - 1 + loops_before start) (starts (c.For number bound start test step body at) (bounds_at plan.bounds number))
        (joined (tested test k) (joined (round_of body (planned body k)) (stepped step k))))
    planned (c.Switch test items at) k exits =
        switched (firm k (made plan.homes Value test k) End) (k + 1) (default_number items 1) (label_tests (firm k (made plan.homes Value test k) End).value (k + 1) items 1)
        (parts_planned items (k + 1) 1 (k + 2) (in_switch exits))
    planned (c.Break at) k exits = alone (Leave exits.out)
    planned (c.Continue at) k exits = alone (Leave exits.next)
    planned (c.Return value at) k exits = returned value k

    pub all_planned : c.Items → (k : ℕ) → Exits → Statements
    all_planned c.NoItem k exits = End
    all_planned (c.WithDeclaration declaration rest) k exits = joined (declared declaration 0 k) (all_planned rest k exits)
    all_planned (c.WithStatement statement rest) k exits = joined (planned statement k exits) (all_planned rest k exits)
    all_planned (c.WithRestriction pragma rest) k exits = all_planned rest k exits
    all_planned (c.WithLabel label rest) k exits = all_planned rest k exits

    -- the parts of a switch, whose next label has this number
    pub parts_planned : c.Items → (noted number k : ℕ) → Exits → Parts
    parts_planned c.NoItem noted number k exits = record { before = End; behind = End }
    parts_planned (c.WithDeclaration declaration rest) noted number k exits = and_before (declared declaration 0 k) (parts_planned rest noted number k exits)
    parts_planned (c.WithStatement statement rest) noted number k exits = and_before (planned statement k exits) (parts_planned rest noted number k exits)
    parts_planned (c.WithRestriction pragma rest) noted number k exits = parts_planned rest noted number k exits
    parts_planned (c.WithLabel label rest) noted number k exits = at_label noted number (parts_planned rest noted (suc number) k exits)

  -- the body of a function, with so many variables before its temporaries; its end gives 0
  abbrev pub body_planned : c.Items → (variables : ℕ) → Statement
  body_planned items variables = Seq (Then (Block (Seq (all_planned items variables (record { out = 0; next = 0 })))) (alone (Return (Constant 0))))
