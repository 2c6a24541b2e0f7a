-- The constants of the code of expressions are words.
use Rattle.std.proofs.Common.{ℕ, suc, ◌+◌, ◌<◌, ◌^◌, Bool, true, false, not, List, [], ◌∷◌, Option, Some, None, arith}
use Rattle.std.specs.Prelude.{◌&&◌, ◌||◌}
use Rattle.types_tree.specs.declared.expression.Callee.{Callee}
use Rattle.types_tree.specs.declared.expression.Callee.TheVariants.{Getchar, Putchar, Function as Own}
use Rattle.types_tree.specs.declared.expression.Fix.{Fix}
use Rattle.types_tree.specs.declared.expression.Fix.TheVariants.{Prefix, Postfix}
use Rattle.types_tree.specs.Tree as c
use Rattle.types_value.specs.Kinds.{is_signed, promoted}
use Rattle.types_value.specs.declared.kind.Kind.{Kind as CType}
use Rattle.types_value.specs.declared.kind.Kind.TheVariants.{Char}
use Rattle.types_value.specs.declared.operator.Operator.{Operator}
use Rattle.types_value.specs.declared.operator.Operator.TheVariants as operators
use Rattle.types_value.specs.declared.operator.Sign.{Sign}
use Rattle.types_value.specs.declared.operator.Sign.TheVariants.{Negate, Plus, Complement, Not}
use Rattle.high_ir.specs.declared.object.Array.{Array}
use Rattle.high_ir.specs.declared.object.Kind.{Kind}
use Rattle.high_ir.specs.declared.object.Kind.TheVariants.{Unsigned8, Signed8, Unsigned16, Signed16, Word}
use Rattle.high_ir.specs.Tree.{Expr, Constant, Variable, Element, Set, Put, Get, Keep, Seq, If, Leave, Call, Statements, End, Then}
use Rattle.high_ir.specs.Whole.{AllHaveWords, AreWordy, IsWordy}
use Rattle.high_code.specs.Code.{joined, alone, nothing, is_empty}
use Rattle.plan_definition.specs.declared.home.Home.{Home}
use Rattle.plan_definition.specs.declared.home.Home.TheVariants.{Frame, Memory}
use Rattle.plan_definition.specs.declared.purpose.Purpose.{Purpose}
use Rattle.plan_definition.specs.declared.purpose.Purpose.TheVariants.{Value, Effect, Unless, When}
use Rattle.plan_definition.specs.Homes.{Target, InFrame, InMemory, home_of, loaded, scalar_at}
use Rattle.plan_definition.specs.Operators.{convert, convert_to, kind_of, operated, signed}
use Rattle.plan_definition.specs.Values.{Aimed, Valued, Passing, aimed, argument, array_named, assigned, called, changed_by, changed_in, choice, finished, firm, first_value, for_operand, held, is_changed, is_joint, is_leaf, is_variable, kept, kept_in, known, leaf, leaf_for, made, noted, operated_on, passing, placed, plain, put, set_to, signed_for, step_operator, stepped, stepped_behind, updated}
use Rattle.plan_law.specs.Words.{ExprWords, ExprsWords, PlaceWords}

pub zero_small : 0 < 2 ^ 32
zero_small = omega arith

pub one_small : 1 < 2 ^ 32
one_small = omega arith

pub joined_words : (a b : Statements) → AllHaveWords a → AllHaveWords b → AllHaveWords (joined a b)
joined_words End b h k = k
joined_words (Then first rest) b h k = (h.0, joined_words rest b h.1 k)

-- code and a value whose constants are words
pub record Worded (p : Valued) : Type 0 where
  pub code : AllHaveWords p.code
  pub value : IsWordy p.value

abbrev TargetWordy : Target → Type 0
TargetWordy (InFrame x) = Unit {0}
TargetWordy (InMemory array index) = IsWordy index

record AimedWords (p : Aimed) : Type 0 where
  pub code : AllHaveWords p.code
  pub target : TargetWordy p.target

record PassingWords (p : Passing) : Type 0 where
  pub code : AllHaveWords p.code
  pub values : AreWordy p.values

-- operators and conversions
convert_to_wordy : (kind : Kind) (e : Expr) → IsWordy e → IsWordy (convert_to kind e)
convert_to_wordy Unsigned8 e h = h
convert_to_wordy Signed8 e h = h
convert_to_wordy Unsigned16 e h = h
convert_to_wordy Signed16 e h = h
convert_to_wordy Word e h = h

convert_wordy : (to : CType) (e : Expr) → IsWordy e → IsWordy (convert to e)
convert_wordy to e h = convert_to_wordy (kind_of to) e h

operated_wordy : (operator : Operator) (s : Bool) (x y : Expr) → IsWordy x → IsWordy y → IsWordy (operated operator s x y)
operated_wordy operators.Multiply s x y h k = (h, k)
operated_wordy operators.Divide true x y h k = (h, k)
operated_wordy operators.Divide false x y h k = (h, k)
operated_wordy operators.Remainder true x y h k = (h, k)
operated_wordy operators.Remainder false x y h k = (h, k)
operated_wordy operators.Add s x y h k = (h, k)
operated_wordy operators.Subtract s x y h k = (h, k)
operated_wordy operators.ShiftLeft s x y h k = (h, k)
operated_wordy operators.ShiftRight true x y h k = (h, k)
operated_wordy operators.ShiftRight false x y h k = (h, k)
operated_wordy operators.Less true x y h k = (h, k)
operated_wordy operators.Less false x y h k = (h, k)
operated_wordy operators.Greater true x y h k = (k, h)
operated_wordy operators.Greater false x y h k = (k, h)
operated_wordy operators.LessEqual true x y h k = (k, h)
operated_wordy operators.LessEqual false x y h k = (k, h)
operated_wordy operators.GreaterEqual true x y h k = (h, k)
operated_wordy operators.GreaterEqual false x y h k = (h, k)
operated_wordy operators.Equal s x y h k = (h, k)
operated_wordy operators.NotEqual s x y h k = (h, k)
operated_wordy operators.BitAnd s x y h k = (h, k)
operated_wordy operators.BitXor s x y h k = (h, k)
operated_wordy operators.BitOr s x y h k = (h, k)

-- pieces
finished_words : (purpose : Purpose) (p : Valued) → Worded p → Worded (finished purpose p)
finished_words Value p h = h
finished_words Effect p h = h
finished_words (Unless depth) p h = record { code = joined_words p.code (alone (If p.value nothing (Leave depth))) h.code ((h.value, (tt, tt)), tt); value = zero_small }
finished_words (When depth) p h = record { code = joined_words p.code (alone (If p.value (Leave depth) nothing)) h.code ((h.value, (tt, tt)), tt); value = zero_small }

held_words : (needed : Bool) (k : ℕ) (p : Valued) (after : Statements) → Worded p → AllHaveWords after → Worded (held needed k p after)
held_words false k p after h a = record { code = joined_words p.code after h.code a; value = h.value }
held_words true k p after h a = record { code = joined_words p.code (Then (Set k p.value) after) h.code (h.value, a); value = tt }

kept_words : (k : ℕ) (p : Valued) (after : Statements) → Worded p → AllHaveWords after → Worded (kept k p after)
kept_words k p after h a = held_words (not (is_empty after) && is_changed p.value after) k p after h a

pub firm_words : (k : ℕ) (p : Valued) (after : Statements) → Worded p → AllHaveWords after → Worded (firm k p after)
firm_words k p after h a = held_words (not (is_leaf p.value) || (is_changed p.value after || is_variable (k + 1) p.value)) k p after h a

leaf_words : (k : ℕ) (p : Valued) → Worded p → Worded (leaf k p)
leaf_words k p h = held_words (not (is_leaf p.value)) k p End h tt

leaf_for_words : (purpose : Purpose) (k : ℕ) (p : Valued) → Worded p → Worded (leaf_for purpose k p)
leaf_for_words Effect k p h = h
leaf_for_words Value k p h = leaf_words k p h
leaf_for_words (Unless depth) k p h = leaf_words k p h
leaf_for_words (When depth) k p h = leaf_words k p h

operated_on_words : (operator : Operator) (kind : CType) (k : ℕ) (left right : Valued) → Worded left → Worded right → Worded (operated_on operator kind k left right)
operated_on_words operator kind k left right h r =
    let l = kept_words k left right.code h r.code in
    record { code = l.code; value = operated_wordy operator (is_signed kind) (kept k left right.code).value right.value l.value r.value }

noted_words : (k before behind : ℕ) (jumps : Statements) → before < 2 ^ 32 → behind < 2 ^ 32 → AllHaveWords jumps → Worded (noted k before behind jumps)
noted_words k before behind jumps b c j = record { code = (b, (joined_words jumps (alone (Set k (Constant behind))) j (c, tt), tt)); value = tt }

set_words : (x : ℕ) (code : Statements) (right : Valued) → AllHaveWords code → Worded right → Worded (set_to x code right)
set_words x code right h r = record { code = joined_words code (joined right.code (alone (Set x right.value))) h (joined_words right.code (alone (Set x right.value)) r.code (r.value, tt)); value = tt }

kept_in_words : (array : Array) (k : ℕ) (index right : Valued) → Worded index → Worded right → Worded (kept_in array k index right)
kept_in_words array k index right h r =
    let i = kept k index right.code in
    let w = kept_words k index right.code h r.code in
    record { code = joined_words i.code (alone (Keep array i.value right.value)) w.code ((w.value, r.value), tt); value = r.value }

assigned_words : (purpose : Purpose) (k : ℕ) (target : Target) (code : Statements) (right : Valued) → TargetWordy target → AllHaveWords code → Worded right → Worded (assigned purpose k target code right)
assigned_words purpose k (InFrame x) code right t h r = set_words x code right h r
assigned_words purpose k (InMemory array index) code right t h r =
    kept_in_words array k (record { code = code; value = index }) (leaf_for purpose (k + 1) right) (record { code = h; value = t }) (leaf_for_words purpose (k + 1) right r)

-- what changes a value keeps its constants words
abbrev KeepsWordy : (Expr → Expr) → Type 0
KeepsWordy f = (e : Expr) → IsWordy e → IsWordy (f e)

changed_words : (purpose : Purpose) (array : Array) (k : ℕ) (i : Valued) (new converted : Expr → Expr) → KeepsWordy new → KeepsWordy converted → Worded i → Worded (changed_in purpose array k i new converted)
changed_words purpose array k i new converted n c h = of purpose
  where
    store : AllHaveWords (joined i.code (Then (Set (k + 1) (converted (new (Element array i.value)))) (alone (Keep array i.value (Variable (k + 1))))))
    store = joined_words i.code (Then (Set (k + 1) (converted (new (Element array i.value)))) (alone (Keep array i.value (Variable (k + 1))))) h.code (c (new (Element array i.value)) (n (Element array i.value) h.value), ((h.value, tt), tt))

    of : (purpose : Purpose) → Worded (changed_in purpose array k i new converted)
    of Effect = record { code = joined_words i.code (alone (Keep array i.value (new (Element array i.value)))) h.code ((h.value, n (Element array i.value) h.value), tt); value = zero_small }
    of Value = record { code = store; value = tt }
    of (Unless depth) = record { code = store; value = tt }
    of (When depth) = record { code = store; value = tt }

updated_words : (purpose : Purpose) (operator : Operator) (kind to : CType) (k : ℕ) (target : Target) (code : Statements) (right : Valued) → TargetWordy target → AllHaveWords code → Worded right → Worded (updated purpose operator kind to k target code right)
updated_words purpose operator kind to k (InFrame x) code right t h r =
    let e = operated operator (is_signed kind) (convert kind (Variable x)) right.value in
    set_words x code (record { code = right.code; value = convert to e }) h
    (record { code = r.code; value = convert_wordy to e (operated_wordy operator (is_signed kind) (convert kind (Variable x)) right.value (convert_wordy kind (Variable x) tt) r.value) })
updated_words purpose operator kind to k (InMemory array index) code right t h r =
    changed_words purpose array k (firm k (record { code = code; value = index }) right.code) (λ old. operated operator (is_signed kind) (convert kind old) right.value) (convert to)
    (λ e w. operated_wordy operator (is_signed kind) (convert kind e) right.value (convert_wordy kind e w) r.value) (λ e w. convert_wordy to e w)
    (firm_words k (record { code = code; value = index }) right.code (record { code = h; value = t }) r.code)

behind_words : (operator : Operator) (kind : CType) (k : ℕ) (target : Target) (code : Statements) → TargetWordy target → AllHaveWords code → Worded (stepped_behind operator kind k target code)
behind_words operator kind k (InFrame x) code t h =
    let e = operated operator (is_signed (promoted kind)) (Variable k) (Constant 1) in
    record { code = joined_words code (Then (Set k (Variable x)) (alone (Set x (convert kind e)))) h (tt, (convert_wordy kind e (operated_wordy operator (is_signed (promoted kind)) (Variable k) (Constant 1) tt one_small), tt)); value = tt }
behind_words operator kind k (InMemory array index) code t h =
    let i = firm k (record { code = code; value = index }) End in
    let w = firm_words k (record { code = code; value = index }) End (record { code = h; value = t }) tt in
    let e = operated operator (is_signed (promoted kind)) (Variable (k + 1)) (Constant 1) in
    record { code = joined_words i.code (Then (Set (k + 1) (Element array i.value)) (alone (Keep array i.value e))) w.code (w.value, ((w.value, operated_wordy operator (is_signed (promoted kind)) (Variable (k + 1)) (Constant 1) tt one_small), tt)); value = tt }

known_words : (word : ℕ) → word < 2 ^ 32 → Worded (known word)
known_words word h = record { code = tt; value = h }

stepped_words : (purpose : Purpose) (fix : Fix) (operator : Operator) (kind : CType) (k : ℕ) (target : Target) (code : Statements) → TargetWordy target → AllHaveWords code → Worded (stepped purpose fix operator kind k target code)
stepped_words purpose Prefix operator kind k target code t h = updated_words purpose operator (promoted kind) kind k target code (known 1) t h (known_words 1 one_small)
stepped_words Effect Postfix operator kind k target code t h = updated_words Effect operator (promoted kind) kind k target code (known 1) t h (known_words 1 one_small)
stepped_words Value Postfix operator kind k target code t h = behind_words operator kind k target code t h
stepped_words (Unless depth) Postfix operator kind k target code t h = behind_words operator kind k target code t h
stepped_words (When depth) Postfix operator kind k target code t h = behind_words operator kind k target code t h

-- calls
first_wordy : (values : List Expr) → AreWordy values → IsWordy (first_value values)
first_wordy [] h = zero_small
first_wordy (e ∷ rest) h = h.0

put_words : (purpose : Purpose) (k : ℕ) (p : Valued) → Worded p → Worded (put purpose k p)
put_words purpose k p h = of purpose
  where
    w : Worded (leaf k p)
    w = leaf_words k p h

    value : Worded (record { code = joined (leaf k p).code (alone (Put (leaf k p).value)); value = convert Char (leaf k p).value })
    value = record { code = joined_words (leaf k p).code (alone (Put (leaf k p).value)) w.code (w.value, tt); value = convert_wordy Char (leaf k p).value w.value }

    of : (purpose : Purpose) → Worded (put purpose k p)
    of Effect = record { code = joined_words p.code (alone (Put p.value)) h.code (h.value, tt); value = zero_small }
    of Value = value
    of (Unless depth) = value
    of (When depth) = value

called_words : (purpose : Purpose) (callee : Callee) (k : ℕ) (p : Passing) → PassingWords p → Worded (called purpose callee k p)
called_words purpose Getchar k p h = record { code = joined_words p.code (alone (Get k)) h.code (tt, tt); value = tt }
called_words purpose Putchar k p h = put_words purpose k (record { code = p.code; value = first_value p.values }) (record { code = h.code; value = first_wordy p.values h.values })
called_words purpose (Own function) k p h = of purpose
  where
    value : Worded (record { code = joined p.code (alone (Call function.0 p.values p.arrays (Some k))); value = Variable k })
    value = record { code = joined_words p.code (alone (Call function.0 p.values p.arrays (Some k))) h.code (h.values, tt); value = tt }

    of : (purpose : Purpose) → Worded (called purpose (Own function) k p)
    of Effect = record { code = joined_words p.code (alone (Call function.0 p.values p.arrays None)) h.code (h.values, tt); value = zero_small }
    of Value = value
    of (Unless depth) = value
    of (When depth) = value

argument_words : (homes : List Home) (o : Option ℕ) (k : ℕ) (p : Valued) (rest : Passing) → Worded p → PassingWords rest → PassingWords (argument homes o k p rest)
argument_words homes (Some object) k p rest h r = record { code = r.code; values = r.values }
argument_words homes None k p rest h r =
    let w = kept_words k p rest.code h r.code in
    record { code = w.code; values = (w.value, r.values) }

-- choices
choice_words : (joint : Bool) (test : Valued) (jumps first other : Statements) → Worded test → AllHaveWords jumps → AllHaveWords first → AllHaveWords other → AllHaveWords (choice joint test jumps first other)
choice_words false test jumps first other t j f o = joined_words test.code (alone (If test.value (Seq first) (Seq other))) t.code ((t.value, (f, o)), tt)
choice_words true test jumps first other t j f o = ((joined_words jumps (joined first (alone (Leave 1))) j (joined_words first (alone (Leave 1)) f (tt, tt)), o), tt)

placed_words : (k : ℕ) (p : Valued) → Worded p → AllHaveWords (placed k p)
placed_words k p h = joined_words p.code (alone (Set k p.value)) h.code (h.value, tt)

changed_by_words : (f : Expr → Expr) → KeepsWordy f → (p : Valued) → Worded p → Worded (changed_by f p)
changed_by_words f keeps p h = record { code = h.code; value = keeps p.value h.value }

signed_words : (operator : Sign) (purpose : Purpose) (p : Valued) → Worded p → Worded (signed_for operator purpose p)
signed_words Not (Unless depth) p h = h
signed_words Not (When depth) p h = h
signed_words Not Value p h = changed_by_words (signed Not) (λ e w. w) p h
signed_words Not Effect p h = changed_by_words (signed Not) (λ e w. w) p h
signed_words Negate purpose p h = finished_words purpose (changed_by (signed Negate) p) (changed_by_words (signed Negate) (λ e w. w) p h)
signed_words Plus purpose p h = finished_words purpose (changed_by (signed Plus) p) (changed_by_words (signed Plus) (λ e w. w) p h)
signed_words Complement purpose p h = finished_words purpose (changed_by (signed Complement) p) (changed_by_words (signed Complement) (λ e w. w) p h)

-- places
scalar_wordy : (home : Home) → TargetWordy (scalar_at home)
scalar_wordy (Frame x) = tt
scalar_wordy (Memory array) = zero_small

loaded_wordy : (target : Target) → TargetWordy target → IsWordy (loaded target)
loaded_wordy (InFrame x) t = tt
loaded_wordy (InMemory array index) t = t

module _ (homes : List Home) where
  abbrev chosen_value : (test first second : c.Expr) → ℕ → Valued
  chosen_value test first second k = record { code = choice (is_joint test) (made homes Value test k) (made homes (Unless 0) test k).code (placed k (made homes Value first k)) (placed k (made homes Value second k)); value = Variable k }

  chosen_words : (test first second : c.Expr) (k : ℕ) → Worded (made homes Value test k) → Worded (made homes (Unless 0) test k) → Worded (made homes Value first k) → Worded (made homes Value second k) → Worded (chosen_value test first second k)
  chosen_words test first second k t j f o = record {
    code = choice_words (is_joint test) (made homes Value test k) (made homes (Unless 0) test k).code (placed k (made homes Value first k)) (placed k (made homes Value second k)) t j.code
        (placed_words k (made homes Value first k) f) (placed_words k (made homes Value second k) o);
    value = tt;
  }

  mutual
    aimed_words : (place : c.Place) (k : ℕ) → PlaceWords place → AimedWords (aimed homes place k)
    aimed_words (c.Scalar object at) k h = record { code = tt; target = scalar_wordy (home_of homes object) }
    aimed_words (c.Element array index at) k h = let i = made_words Value index k h in record { code = i.code; target = i.value }
    aimed_words (c.Within inner at) k h = aimed_words inner k h

    pub made_words : (purpose : Purpose) (e : c.Expr) (k : ℕ) → ExprWords e → Worded (made homes purpose e k)
    made_words purpose (c.Number constant at) k h = finished_words purpose (known constant.value) (known_words constant.value h)
    made_words purpose (c.Character word at) k h = finished_words purpose (known word) (known_words word h)
    made_words purpose (c.Read place) k h =
        let p = aimed homes place k in
        let w = aimed_words place k h in
        finished_words purpose (record { code = p.code; value = loaded p.target }) (record { code = w.code; value = loaded_wordy p.target w.target })
    made_words purpose (c.Array object at) k h = finished_words purpose (known 0) (known_words 0 zero_small)
    made_words purpose (c.Paren inner at) k h = made_words purpose inner k h
    made_words purpose (c.Call callee arguments at) k h = finished_words purpose (called purpose callee k (passing homes arguments k)) (called_words purpose callee k (passing homes arguments k) (passing_words arguments k h))
    made_words purpose (c.Step fix operator kind target at) k h =
        let p = aimed homes target k in
        let w = aimed_words target k h in
        finished_words purpose (stepped purpose fix (step_operator operator) kind k p.target p.code) (stepped_words purpose fix (step_operator operator) kind k p.target p.code w.target w.code)
    made_words purpose (c.Signed operator kind operand at) k h = signed_words operator purpose (made homes (for_operand operator purpose) operand k) (made_words (for_operand operator purpose) operand k h)
    made_words purpose (c.Cast specifiers to operand at) k h =
        finished_words purpose (changed_by (convert to) (made homes (plain purpose) operand k)) (changed_by_words (convert to) (λ e w. convert_wordy to e w) (made homes (plain purpose) operand k) (made_words (plain purpose) operand k h))
    made_words purpose (c.Convert to operand) k h =
        finished_words purpose (changed_by (convert to) (made homes (plain purpose) operand k)) (changed_by_words (convert to) (λ e w. convert_wordy to e w) (made homes (plain purpose) operand k) (made_words (plain purpose) operand k h))
    made_words purpose (c.Operate operator kind left right at) k h =
        finished_words purpose (operated_on operator kind k (made homes Value left k) (made homes Value right (k + 1)))
        (operated_on_words operator kind k (made homes Value left k) (made homes Value right (k + 1)) (made_words Value left k h.0) (made_words Value right (k + 1) h.1))
    made_words Value (c.And left right at) k h =
        let x = (made homes (Unless 0) left (k + 1)).code in
        let y = (made homes (Unless 0) right (k + 1)).code in
        noted_words k 0 1 (joined x y) zero_small one_small (joined_words x y (made_words (Unless 0) left (k + 1) h.0).code (made_words (Unless 0) right (k + 1) h.1).code)
    made_words Effect (c.And left right at) k h = record { code = (joined_words (made homes (Unless 0) left k).code (made homes Effect right k).code (made_words (Unless 0) left k h.0).code (made_words Effect right k h.1).code, tt); value = zero_small }
    made_words (Unless depth) (c.And left right at) k h =
        record { code = joined_words (made homes (Unless depth) left k).code (made homes (Unless depth) right k).code (made_words (Unless depth) left k h.0).code (made_words (Unless depth) right k h.1).code; value = zero_small }
    made_words (When depth) (c.And left right at) k h =
        record { code = (joined_words (made homes (Unless 0) left k).code (made homes (When (suc depth)) right k).code (made_words (Unless 0) left k h.0).code (made_words (When (suc depth)) right k h.1).code, tt); value = zero_small }
    made_words Value (c.Or left right at) k h =
        let x = (made homes (When 0) left (k + 1)).code in
        let y = (made homes (When 0) right (k + 1)).code in
        noted_words k 1 0 (joined x y) one_small zero_small (joined_words x y (made_words (When 0) left (k + 1) h.0).code (made_words (When 0) right (k + 1) h.1).code)
    made_words Effect (c.Or left right at) k h = record { code = (joined_words (made homes (When 0) left k).code (made homes Effect right k).code (made_words (When 0) left k h.0).code (made_words Effect right k h.1).code, tt); value = zero_small }
    made_words (Unless depth) (c.Or left right at) k h =
        record { code = (joined_words (made homes (When 0) left k).code (made homes (Unless (suc depth)) right k).code (made_words (When 0) left k h.0).code (made_words (Unless (suc depth)) right k h.1).code, tt); value = zero_small }
    made_words (When depth) (c.Or left right at) k h =
        record { code = joined_words (made homes (When depth) left k).code (made homes (When depth) right k).code (made_words (When depth) left k h.0).code (made_words (When depth) right k h.1).code; value = zero_small }
    made_words purpose (c.Comma left right at) k h =
        let w = made_words purpose right k h.1 in
        record { code = joined_words (made homes Effect left k).code (made homes purpose right k).code (made_words Effect left k h.0).code w.code; value = w.value }
    made_words Effect (c.Conditional test first second at) k h = record {
      code = choice_words (is_joint test) (made homes Value test k) (made homes (Unless 0) test k).code (made homes Effect first k).code (made homes Effect second k).code
          (made_words Value test k h.0) (made_words (Unless 0) test k h.0).code (made_words Effect first k h.1).code (made_words Effect second k h.2).code;
      value = zero_small;
    }
    made_words Value (c.Conditional test first second at) k h =
        chosen_words test first second k (made_words Value test k h.0) (made_words (Unless 0) test k h.0) (made_words Value first k h.1) (made_words Value second k h.2)
    made_words (Unless depth) (c.Conditional test first second at) k h =
        finished_words (Unless depth) (chosen_value test first second k) (chosen_words test first second k (made_words Value test k h.0) (made_words (Unless 0) test k h.0) (made_words Value first k h.1) (made_words Value second k h.2))
    made_words (When depth) (c.Conditional test first second at) k h =
        finished_words (When depth) (chosen_value test first second k) (chosen_words test first second k (made_words Value test k h.0) (made_words (Unless 0) test k h.0) (made_words Value first k h.1) (made_words Value second k h.2))
    made_words purpose (c.Assign target right at) k h =
        let p = aimed homes target k in
        let w = aimed_words target k h.0 in
        finished_words purpose (assigned purpose k p.target p.code (made homes Value right (k + 1))) (assigned_words purpose k p.target p.code (made homes Value right (k + 1)) w.target w.code (made_words Value right (k + 1) h.1))
    made_words purpose (c.Update operator kind to target right at) k h =
        let p = aimed homes target k in
        let w = aimed_words target k h.0 in
        finished_words purpose (updated purpose operator kind to k p.target p.code (made homes Value right (k + 1)))
        (updated_words purpose operator kind to k p.target p.code (made homes Value right (k + 1)) w.target w.code (made_words Value right (k + 1) h.1))

    passing_words : (es : c.Exprs) (k : ℕ) → ExprsWords es → PassingWords (passing homes es k)
    passing_words c.NoExpr k h = record { code = tt; values = tt }
    passing_words (c.WithExpr e rest) k h = argument_words homes (array_named e) k (made homes Value e k) (passing homes rest (k + 1)) (made_words Value e k h.0) (passing_words rest (k + 1) h.1)
