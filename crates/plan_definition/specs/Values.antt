-- What expressions become: code, and then a value that it leaves.
-- Temporaries are the variables from `k` on; those below `k` keep their values.
use Rattle.std.specs.Prelude.{ℕ, suc, ◌+◌, ◌==◌, Bool, true, false, not, ◌&&◌, ◌||◌, List, [], ◌∷◌, Option, Some, None}
use Rattle.c_tree.specs.declared.expression.PostfixOperator.{PostfixOperator}
use Rattle.c_tree.specs.declared.expression.PostfixOperator.TheVariants.{Increment, Decrement}
use Rattle.types_tree.specs.declared.expression.Callee.{Callee}
use Rattle.types_tree.specs.declared.expression.Callee.TheVariants.{Getchar, Putchar, Function as Own}
use Rattle.types_tree.specs.declared.expression.Fix.{Fix}
use Rattle.types_tree.specs.declared.expression.Fix.TheVariants.{Prefix, Postfix}
use Rattle.types_tree.specs.Tree as c
use Rattle.types_value.specs.Kinds.{is_signed, promoted}
use Rattle.types_value.specs.declared.kind.Kind.{Kind as CType}
use Rattle.types_value.specs.declared.kind.Kind.TheVariants.{Char}
use Rattle.types_value.specs.declared.operator.Operator.{Operator}
use Rattle.types_value.specs.declared.operator.Operator.TheVariants.{Add, Subtract}
use Rattle.types_value.specs.declared.operator.Sign.{Sign}
use Rattle.types_value.specs.declared.operator.Sign.TheVariants.{Not}
use Rattle.high_ir.specs.declared.object.Array.{Array}
use Rattle.high_ir.specs.declared.object.Base.{Base}
use Rattle.high_ir.specs.Tree.{Expr, Constant, Variable, Element, Unary, Binary, Statement, Set, Put, Get, Keep, Seq, If, Block, Leave, Call, Statements, End, Then}
use Rattle.high_code.specs.Code.{joined, alone, nothing, is_empty, assigns_any}
use Rattle.plan_definition.specs.declared.home.Home.{Home}
use Rattle.plan_definition.specs.declared.purpose.Purpose.{Purpose}
use Rattle.plan_definition.specs.declared.purpose.Purpose.TheVariants.{Value, Effect, Unless, When}
use Rattle.plan_definition.specs.Homes.{Target, InFrame, InMemory, home_of, scalar_at, array_at, base_at, loaded}
use Rattle.plan_definition.specs.Operators.{convert, operated, signed}

-- code, and the value that it leaves
pub record Valued : Type 0 where
  pub code : Statements
  pub value : Expr

-- code, and the target that it finds
pub record Aimed : Type 0 where
  pub code : Statements
  pub target : Target

-- code, and what it leaves for a call: values, and which arrays
pub record Passing : Type 0 where
  pub code : Statements
  pub values : List Expr
  pub arrays : List Base

abbrev pub known : ℕ → Valued
known word = record { code = End; value = Constant word }

-- a value that is computed from one
abbrev pub changed_by : (Expr → Expr) → Valued → Valued
changed_by f p = record { code = p.code; value = f p.value }

-- a test with its two ways, where code is for a jump
abbrev pub jumping : Valued → (first other : Statement) → Valued
jumping p first other = record { code = joined p.code (alone (If p.value first other)); value = Constant 0 }

-- code for a value serves each purpose
abbrev pub finished : Purpose → Valued → Valued
finished Value p = p
finished Effect p = p
finished (Unless depth) p = jumping p nothing (Leave depth)
finished (When depth) p = jumping p (Leave depth) nothing

-- whether code may change a value that was computed before it
abbrev pub is_changed : Expr → Statements → Bool
is_changed (Constant word) code = false
is_changed (Variable x) code = assigns_any x code
is_changed (Element array index) code = true
is_changed (Unary operator operand) code = true
is_changed (Binary operator left right) code = true

abbrev pub is_leaf : Expr → Bool
is_leaf (Constant word) = true
is_leaf (Variable x) = true
is_leaf (Element array index) = false
is_leaf (Unary operator operand) = false
is_leaf (Binary operator left right) = false

abbrev pub is_variable : ℕ → Expr → Bool
is_variable x (Variable y) = y == x
is_variable x (Constant word) = false
is_variable x (Element array index) = false
is_variable x (Unary operator operand) = false
is_variable x (Binary operator left right) = false

-- a value, and then other code; in the temporary k while that runs
abbrev pub held : (needed : Bool) → ℕ → Valued → Statements → Valued
held false k p after = record { code = joined p.code after; value = p.value }
held true k p after = record { code = joined p.code (Then (Set k p.value) after); value = Variable k }

-- a value that other code leaves as it is
abbrev pub kept : ℕ → Valued → Statements → Valued
kept k p after = held (not (is_empty after) && is_changed p.value after) k p after

-- a leaf that other code, and then an assignment to the next temporary, leave as it is
abbrev pub firm : ℕ → Valued → Statements → Valued
firm k p after = held (not (is_leaf p.value) || (is_changed p.value after || is_variable (k + 1) p.value)) k p after

-- a value as a leaf
abbrev pub leaf : ℕ → Valued → Valued
leaf k p = held (not (is_leaf p.value)) k p End

abbrev pub behind : Valued → Statements → Valued
behind p after = record { code = joined p.code after; value = p.value }

abbrev pub operated_on : Operator → CType → ℕ → (left right : Valued) → Valued
operated_on operator kind k left right =
    let l = kept k left right.code in
    record { code = l.code; value = operated operator (is_signed kind) l.value right.value }

abbrev pub step_operator : PostfixOperator → Operator
step_operator Increment = Add
step_operator Decrement = Subtract

-- 1 or 0 in the temporary k: the other one, where code for jumps leaves its block
abbrev pub noted : ℕ → (before behind : ℕ) → Statements → Valued
noted k before behind jumps = record { code = Then (Set k (Constant before)) (alone (Block (Seq (joined jumps (alone (Set k (Constant behind))))))); value = Variable k }

abbrev pub only_code : Statements → Valued
only_code code = record { code = code; value = Constant 0 }

abbrev pub in_block : Statements → Statements
in_block code = alone (Block (Seq code))

-- code that is run where a test holds, and other code
abbrev pub chosen : (test : Valued) → (first other : Statements) → Statements
chosen test first other = joined test.code (alone (If test.value (Seq first) (Seq other)))

-- the same, where jumps leave the first of two blocks to come to the other code
abbrev pub chosen_by_jumps : (jumps first other : Statements) → Statements
chosen_by_jumps jumps first other = in_block (Then (Block (Seq (joined jumps (joined first (alone (Leave 1)))))) other)

-- whether a test is made of jumps
abbrev pub is_joint : c.Expr → Bool
is_joint (c.And left right at) = true
is_joint (c.Or left right at) = true
is_joint (c.Paren inner at) = is_joint inner
is_joint (c.Signed Not kind operand at) = is_joint operand
is_joint other = false

-- the code of a value, and its value in the temporary k
abbrev pub placed : ℕ → Valued → Statements
placed k p = joined p.code (alone (Set k p.value))

-- a choice by a test, or by its jumps
abbrev pub choice : (joint : Bool) → (test : Valued) → (jumps first other : Statements) → Statements
choice false test jumps first other = chosen test first other
choice true test jumps first other = chosen_by_jumps jumps first other

-- a value that is stored in a variable
abbrev pub set_to : ℕ → (code : Statements) → (right : Valued) → Valued
set_to x code right = record { code = joined code (joined right.code (alone (Set x right.value))); value = Variable x }

-- a value that is stored in an element
abbrev pub kept_in : Array → ℕ → (index right : Valued) → Valued
kept_in array k index right =
    let i = kept k index right.code in
    record { code = joined i.code (alone (Keep array i.value right.value)); value = right.value }

-- a value that is used again behind a store is a leaf
abbrev pub leaf_for : Purpose → ℕ → Valued → Valued
leaf_for Effect k p = p
leaf_for Value k p = leaf k p
leaf_for (Unless depth) k p = leaf k p
leaf_for (When depth) k p = leaf k p

abbrev pub assigned : Purpose → ℕ → Target → (code : Statements) → (right : Valued) → Valued
assigned purpose k (InFrame x) code right = set_to x code right
assigned purpose k (InMemory array index) code right = kept_in array k (record { code = code; value = index }) (leaf_for purpose (k + 1) right)

-- an element with a new value that is computed from its old one
abbrev pub changed_in : Purpose → Array → ℕ → (index : Valued) → (new converted : Expr → Expr) → Valued
changed_in Effect array k i new converted = only_code (joined i.code (alone (Keep array i.value (new (Element array i.value)))))
changed_in purpose array k i new converted =
    record { code = joined i.code (Then (Set (k + 1) (converted (new (Element array i.value)))) (alone (Keep array i.value (Variable (k + 1))))); value = Variable (k + 1) }

abbrev pub updated : Purpose → Operator → (kind to : CType) → ℕ → Target → (code : Statements) → (right : Valued) → Valued
updated purpose operator kind to k (InFrame x) code right =
    set_to x code (record { code = right.code; value = convert to (operated operator (is_signed kind) (convert kind (Variable x)) right.value) })
updated purpose operator kind to k (InMemory array index) code right =
    changed_in purpose array k (firm k (record { code = code; value = index }) right.code) (λ old. operated operator (is_signed kind) (convert kind old) right.value) (convert to)

-- a step whose value is the old one
abbrev pub stepped_behind : Operator → CType → ℕ → Target → (code : Statements) → Valued
stepped_behind operator kind k (InFrame x) code =
    record { code = joined code (Then (Set k (Variable x)) (alone (Set x (convert kind (operated operator (is_signed (promoted kind)) (Variable k) (Constant 1)))))); value = Variable k }
stepped_behind operator kind k (InMemory array index) code =
    let i = firm k (record { code = code; value = index }) End in
    record { code = joined i.code (Then (Set (k + 1) (Element array i.value)) (alone (Keep array i.value (operated operator (is_signed (promoted kind)) (Variable (k + 1)) (Constant 1))))); value = Variable (k + 1) }

abbrev pub stepped : Purpose → Fix → Operator → CType → ℕ → Target → (code : Statements) → Valued
stepped purpose Prefix operator kind k target code = updated purpose operator (promoted kind) kind k target code (known 1)
stepped Effect Postfix operator kind k target code = updated Effect operator (promoted kind) kind k target code (known 1)
stepped purpose Postfix operator kind k target code = stepped_behind operator kind k target code

abbrev pub first_value : List Expr → Expr
first_value [] = Constant 0
first_value (e ∷ rest) = e

abbrev pub put : Purpose → ℕ → Valued → Valued
put Effect k p = only_code (joined p.code (alone (Put p.value)))
put purpose k p =
    let w = leaf k p in
    record { code = joined w.code (alone (Put w.value)); value = convert Char w.value }

abbrev pub called : Purpose → Callee → ℕ → Passing → Valued
called purpose Getchar k p = record { code = joined p.code (alone (Get k)); value = Variable k }
called purpose Putchar k p = put purpose k (record { code = p.code; value = first_value p.values })
called Effect (Own function) k p = only_code (joined p.code (alone (Call function.0 p.values p.arrays None)))
called purpose (Own function) k p = record { code = joined p.code (alone (Call function.0 p.values p.arrays (Some k))); value = Variable k }

-- an array that is passed on is named
abbrev pub array_named : c.Expr → Option ℕ
array_named (c.Array object at) = Some object
array_named other = None

-- one argument before others
abbrev pub argument : List Home → Option ℕ → ℕ → Valued → Passing → Passing
argument homes (Some object) k p rest = record { code = rest.code; values = rest.values; arrays = base_at (home_of homes object) ∷ rest.arrays }
argument homes None k p rest =
    let q = kept k p rest.code in
    record { code = q.code; values = q.value ∷ rest.values; arrays = rest.arrays }

-- a test that is negated is made for the other jump
abbrev pub for_operand : Sign → Purpose → Purpose
for_operand Not (Unless depth) = When depth
for_operand Not (When depth) = Unless depth
for_operand operator purpose = Value

abbrev pub signed_for : Sign → Purpose → Valued → Valued
signed_for Not (Unless depth) p = p
signed_for Not (When depth) p = p
signed_for operator purpose p = finished purpose (changed_by (signed operator) p)

-- a value that is converted is dropped where the conversion is
abbrev pub plain : Purpose → Purpose
plain Effect = Effect
plain purpose = Value

abbrev pub both : (code : Statements) → Valued → Valued
both code p = record { code = joined code p.code; value = p.value }

module _ (homes : List Home) where
  abbrev mutual
    pub aimed : c.Place → ℕ → Aimed
    aimed (c.Scalar object at) k = record { code = End; target = scalar_at (home_of homes object) }
    aimed (c.Element array index at) k =
        let i = made Value index k in
        record { code = i.code; target = InMemory (array_at (home_of homes array)) i.value }
    aimed (c.Within inner at) k = aimed inner k

    pub made : Purpose → c.Expr → ℕ → Valued
    made purpose (c.Number constant at) k = finished purpose (known constant.value)
    made purpose (c.Character word at) k = finished purpose (known word)
    made purpose (c.Read place) k = let p = aimed place k in finished purpose (record { code = p.code; value = loaded p.target })
    made purpose (c.Array object at) k = finished purpose (known 0)
    made purpose (c.Paren inner at) k = made purpose inner k
    made purpose (c.Call callee arguments at) k = finished purpose (called purpose callee k (passing arguments k))
    made purpose (c.Step fix operator kind target at) k =
        let p = aimed target k in
        finished purpose (stepped purpose fix (step_operator operator) kind k p.target p.code)
    made purpose (c.Signed operator kind operand at) k = signed_for operator purpose (made (for_operand operator purpose) operand k)
    made purpose (c.Cast specifiers to operand at) k = finished purpose (changed_by (convert to) (made (plain purpose) operand k))
    made purpose (c.Convert to operand) k = finished purpose (changed_by (convert to) (made (plain purpose) operand k))
    made purpose (c.Operate operator kind left right at) k = finished purpose (operated_on operator kind k (made Value left k) (made Value right (k + 1)))
    made Value (c.And left right at) k = noted k 0 1 (joined (made (Unless 0) left (k + 1)).code (made (Unless 0) right (k + 1)).code)
    made Effect (c.And left right at) k = only_code (in_block (joined (made (Unless 0) left k).code (made Effect right k).code))
    made (Unless depth) (c.And left right at) k = only_code (joined (made (Unless depth) left k).code (made (Unless depth) right k).code)
    made (When depth) (c.And left right at) k = only_code (in_block (joined (made (Unless 0) left k).code (made (When (suc depth)) right k).code))
    made Value (c.Or left right at) k = noted k 1 0 (joined (made (When 0) left (k + 1)).code (made (When 0) right (k + 1)).code)
    made Effect (c.Or left right at) k = only_code (in_block (joined (made (When 0) left k).code (made Effect right k).code))
    made (Unless depth) (c.Or left right at) k = only_code (in_block (joined (made (When 0) left k).code (made (Unless (suc depth)) right k).code))
    made (When depth) (c.Or left right at) k = only_code (joined (made (When depth) left k).code (made (When depth) right k).code)
    made purpose (c.Comma left right at) k = both (made Effect left k).code (made purpose right k)
    made Effect (c.Conditional test first second at) k =
        only_code (choice (is_joint test) (made Value test k) (made (Unless 0) test k).code (made Effect first k).code (made Effect second k).code)
    made purpose (c.Conditional test first second at) k =
        finished purpose (record { code = choice (is_joint test) (made Value test k) (made (Unless 0) test k).code (placed k (made Value first k)) (placed k (made Value second k)); value = Variable k })
    made purpose (c.Assign target right at) k =
        let p = aimed target k in
        finished purpose (assigned purpose k p.target p.code (made Value right (k + 1)))
    made purpose (c.Update operator kind to target right at) k =
        let p = aimed target k in
        finished purpose (updated purpose operator kind to k p.target p.code (made Value right (k + 1)))

    pub passing : c.Exprs → ℕ → Passing
    passing c.NoExpr k = record { code = End; values = []; arrays = [] }
    passing (c.WithExpr e rest) k = argument homes (array_named e) k (made Value e k) (passing rest (k + 1))
