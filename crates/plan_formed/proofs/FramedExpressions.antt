-- How many variables the code of an expression needs.
use Rattle.std.proofs.Common.{ℕ, suc, ◌+◌, ◌<◌, ◌≤◌, Bool, true, false, not, List, Option, Some, None, arith}
use Rattle.std.specs.Prelude.{◌&&◌, ◌||◌}
use Rattle.facts_definitions.specs.Most.{call_most, expr_most, exprs_most, place_most}
use Rattle.types_tree.specs.declared.expression.Callee.{Callee}
use Rattle.types_tree.specs.declared.expression.Callee.TheVariants.{Getchar, Putchar, Function as Own}
use Rattle.types_tree.specs.declared.expression.Fix.{Fix}
use Rattle.types_tree.specs.declared.expression.Fix.TheVariants.{Prefix, Postfix}
use Rattle.types_tree.specs.Tree as c
use Rattle.types_value.specs.Kinds.{is_signed, promoted}
use Rattle.types_value.specs.declared.kind.Kind.{Kind as CType}
use Rattle.types_value.specs.declared.operator.Operator.{Operator}
use Rattle.types_value.specs.declared.operator.Sign.{Sign}
use Rattle.types_value.specs.declared.operator.Sign.TheVariants.{Negate, Plus, Complement, Not}
use Rattle.high_ir.specs.declared.object.Array.{Array}
use Rattle.high_ir.specs.Tree.{Expr, Constant, Variable, Element, Set, Put, Get, Keep, Seq, If, Leave, Call, Statements, End, Then}
use Rattle.high_code.specs.Code.{joined, alone, nothing, is_empty, frame_needed_all}
use Rattle.plan_definition.specs.declared.home.Home.{Home}
use Rattle.plan_definition.specs.declared.home.Home.TheVariants.{Frame, Memory}
use Rattle.plan_definition.specs.declared.purpose.Purpose.{Purpose}
use Rattle.plan_definition.specs.declared.purpose.Purpose.TheVariants.{Value, Effect, Unless, When}
use Rattle.plan_definition.specs.Homes.{Target, InFrame, InMemory, home_of, loaded, scalar_at}
use Rattle.plan_definition.specs.Operators.{convert, operated, signed}
use Rattle.plan_definition.specs.Values.{Valued, Passing, aimed, argument, array_named, assigned, called, changed_by, changed_in, choice, finished, firm, first_value, for_operand, held, is_changed, is_joint, is_leaf, is_variable, kept, known, leaf, leaf_for, made, noted, operated_on, passing, placed, plain, put, signed_for, step_operator, stepped, stepped_behind, updated}
use Rattle.plan_formed.specs.Framed.{AllFramed, Framed, LivesBelow, PlaceFramed}
use Rattle.plan_forms.proofs.SizedStatements.{some_most, some_place}

abbrev pub none : ℕ → ℕ
none f = 0

-- code needs no more variables than so many
abbrev pub Needs : ℕ → Statements → Type 0
Needs b code = frame_needed_all code ≤ b

pub needs_joined : (b : ℕ) (x y : Statements) → Needs b x → Needs b y → Needs b (joined x y)
needs_joined b End y h k = k
needs_joined b (Then first rest) y h k = omega (arith, h, needs_joined b rest y (omega (arith, h)) k)

pub needs_more : (a b : ℕ) (x : Statements) → a ≤ b → Needs a x → Needs b x
needs_more a b x le h = omega (arith, le, h)

finished_needs : (purpose : Purpose) (b : ℕ) (p : Valued) → Needs b p.code → Needs b (finished purpose p).code
finished_needs Value b p h = h
finished_needs Effect b p h = h
finished_needs (Unless depth) b p h = needs_joined b p.code (alone (If p.value nothing (Leave depth))) h (omega arith)
finished_needs (When depth) b p h = needs_joined b p.code (alone (If p.value (Leave depth) nothing)) h (omega arith)

pub held_needs : (needed : Bool) (k b : ℕ) (p : Valued) (after : Statements) → k < b → Needs b p.code → Needs b after → Needs b (held needed k p after).code
held_needs false k b p after lt h a = needs_joined b p.code after h a
held_needs true k b p after lt h a = needs_joined b p.code (Then (Set k p.value) after) h (omega (arith, lt, a))

kept_needs : (k b : ℕ) (p : Valued) (after : Statements) → k < b → Needs b p.code → Needs b after → Needs b (kept k p after).code
kept_needs k b p after lt h a = held_needs (not (is_empty after) && is_changed p.value after) k b p after lt h a

pub firm_needs : (k b : ℕ) (p : Valued) (after : Statements) → k < b → Needs b p.code → Needs b after → Needs b (firm k p after).code
firm_needs k b p after lt h a = held_needs (not (is_leaf p.value) || (is_changed p.value after || is_variable (k + 1) p.value)) k b p after lt h a

leaf_needs : (k b : ℕ) (p : Valued) → k < b → Needs b p.code → Needs b (leaf k p).code
leaf_needs k b p lt h = held_needs (not (is_leaf p.value)) k b p End lt h (omega arith)

leaf_for_needs : (purpose : Purpose) (k b : ℕ) (p : Valued) → k < b → Needs b p.code → Needs b (leaf_for purpose k p).code
leaf_for_needs Effect k b p lt h = h
leaf_for_needs Value k b p lt h = leaf_needs k b p lt h
leaf_for_needs (Unless depth) k b p lt h = leaf_needs k b p lt h
leaf_for_needs (When depth) k b p lt h = leaf_needs k b p lt h

-- a target in a frame of so many
abbrev pub TargetBelow : ℕ → Target → Type 0
TargetBelow n (InFrame x) = x < n
TargetBelow n (InMemory array index) = Unit {0}

scalar_below : (n : ℕ) (home : Home) → LivesBelow n home → TargetBelow n (scalar_at home)
scalar_below n (Frame x) h = h
scalar_below n (Memory array) h = tt

target_more : (m n : ℕ) (target : Target) → m ≤ n → TargetBelow m target → TargetBelow n target
target_more m n (InFrame x) le h = omega (arith, le, h)
target_more m n (InMemory array index) le h = tt

-- stores, to a target below b and with two temporaries more
assigned_needs : (purpose : Purpose) (k b : ℕ) (target : Target) (code : Statements) (right : Valued) → k + 1 < b → TargetBelow b target → Needs b code → Needs b right.code → Needs b (assigned purpose k target code right).code
assigned_needs purpose k b (InFrame x) code right lt t h r = needs_joined b code (joined right.code (alone (Set x right.value))) h (needs_joined b right.code (alone (Set x right.value)) r (omega (arith, t)))
assigned_needs purpose k b (InMemory array index) code right lt t h r =
    let value = leaf_for purpose (k + 1) right in
    let p : Valued = record { code = code; value = index } in
    let i = kept k p value.code in
    needs_joined b i.code (alone (Keep array i.value value.value)) (kept_needs k b p value.code (omega (arith, lt)) h (leaf_for_needs purpose (k + 1) b right lt r)) (omega arith)

changed_needs : (purpose : Purpose) (array : Array) (k b : ℕ) (i : Valued) (new converted : Expr → Expr) → k + 1 < b → Needs b i.code → Needs b (changed_in purpose array k i new converted).code
changed_needs purpose array k b i new converted lt h = of purpose
  where
    value : Needs b (joined i.code (Then (Set (k + 1) (converted (new (Element array i.value)))) (alone (Keep array i.value (Variable (k + 1))))))
    value = needs_joined b i.code (Then (Set (k + 1) (converted (new (Element array i.value)))) (alone (Keep array i.value (Variable (k + 1))))) h (omega (arith, lt))

    of : (purpose : Purpose) → Needs b (changed_in purpose array k i new converted).code
    of Effect = needs_joined b i.code (alone (Keep array i.value (new (Element array i.value)))) h (omega arith)
    of Value = value
    of (Unless depth) = value
    of (When depth) = value

updated_needs : (purpose : Purpose) (operator : Operator) (kind to : CType) (k b : ℕ) (target : Target) (code : Statements) (right : Valued) → k + 1 < b → TargetBelow b target → Needs b code → Needs b right.code → Needs b (updated purpose operator kind to k target code right).code
updated_needs purpose operator kind to k b (InFrame x) code right lt t h r =
    let e = convert to (operated operator (is_signed kind) (convert kind (Variable x)) right.value) in
    needs_joined b code (joined right.code (alone (Set x e))) h (needs_joined b right.code (alone (Set x e)) r (omega (arith, t)))
updated_needs purpose operator kind to k b (InMemory array index) code right lt t h r =
    let p : Valued = record { code = code; value = index } in
    changed_needs purpose array k b (firm k p right.code) (λ old. operated operator (is_signed kind) (convert kind old) right.value) (convert to) lt (firm_needs k b p right.code (omega (arith, lt)) h r)

behind_needs : (operator : Operator) (kind : CType) (k b : ℕ) (target : Target) (code : Statements) → k + 1 < b → TargetBelow b target → Needs b code → Needs b (stepped_behind operator kind k target code).code
behind_needs operator kind k b (InFrame x) code lt t h =
    needs_joined b code (Then (Set k (Variable x)) (alone (Set x (convert kind (operated operator (is_signed (promoted kind)) (Variable k) (Constant 1)))))) h (omega (arith, lt, t))
behind_needs operator kind k b (InMemory array index) code lt t h =
    let p : Valued = record { code = code; value = index } in
    let i = firm k p End in
    needs_joined b i.code (Then (Set (k + 1) (Element array i.value)) (alone (Keep array i.value (operated operator (is_signed (promoted kind)) (Variable (k + 1)) (Constant 1))))) (firm_needs k b p End (omega (arith, lt)) h (omega arith)) (omega (arith, lt))

stepped_needs : (purpose : Purpose) (fix : Fix) (operator : Operator) (kind : CType) (k b : ℕ) (target : Target) (code : Statements) → k + 1 < b → TargetBelow b target → Needs b code → Needs b (stepped purpose fix operator kind k target code).code
stepped_needs purpose Prefix operator kind k b target code lt t h = updated_needs purpose operator (promoted kind) kind k b target code (known 1) lt t h (omega arith)
stepped_needs Effect Postfix operator kind k b target code lt t h = updated_needs Effect operator (promoted kind) kind k b target code (known 1) lt t h (omega arith)
stepped_needs Value Postfix operator kind k b target code lt t h = behind_needs operator kind k b target code lt t h
stepped_needs (Unless depth) Postfix operator kind k b target code lt t h = behind_needs operator kind k b target code lt t h
stepped_needs (When depth) Postfix operator kind k b target code lt t h = behind_needs operator kind k b target code lt t h

-- calls
put_needs : (purpose : Purpose) (k b : ℕ) (p : Valued) → k < b → Needs b p.code → Needs b (put purpose k p).code
put_needs purpose k b p lt h = of purpose
  where
    value : Needs b (joined (leaf k p).code (alone (Put (leaf k p).value)))
    value = needs_joined b (leaf k p).code (alone (Put (leaf k p).value)) (leaf_needs k b p lt h) (omega arith)

    of : (purpose : Purpose) → Needs b (put purpose k p).code
    of Effect = needs_joined b p.code (alone (Put p.value)) h (omega arith)
    of Value = value
    of (Unless depth) = value
    of (When depth) = value

called_needs : (purpose : Purpose) (to : Callee) (k b : ℕ) (p : Passing) → k < b → Needs b p.code → Needs b (called purpose to k p).code
called_needs purpose Getchar k b p lt h = needs_joined b p.code (alone (Get k)) h (omega (arith, lt))
called_needs purpose Putchar k b p lt h = put_needs purpose k b (record { code = p.code; value = first_value p.values }) lt h
called_needs purpose (Own function) k b p lt h = of purpose
  where
    value : Needs b (joined p.code (alone (Call function.0 p.values p.arrays (Some k))))
    value = needs_joined b p.code (alone (Call function.0 p.values p.arrays (Some k))) h (omega (arith, lt))

    of : (purpose : Purpose) → Needs b (called purpose (Own function) k p).code
    of Effect = needs_joined b p.code (alone (Call function.0 p.values p.arrays None)) h (omega arith)
    of Value = value
    of (Unless depth) = value
    of (When depth) = value

argument_needs : (homes : List Home) (o : Option ℕ) (k b : ℕ) (p : Valued) (rest : Passing) → k < b → Needs b p.code → Needs b rest.code → Needs b (argument homes o k p rest).code
argument_needs homes (Some object) k b p rest lt h r = r
argument_needs homes None k b p rest lt h r = kept_needs k b p rest.code lt h r

-- operators
signed_needs : (operator : Sign) (purpose : Purpose) (b : ℕ) (p : Valued) → Needs b p.code → Needs b (signed_for operator purpose p).code
signed_needs Not (Unless depth) b p h = h
signed_needs Not (When depth) b p h = h
signed_needs Not Value b p h = h
signed_needs Not Effect b p h = h
signed_needs Negate purpose b p h = finished_needs purpose b (changed_by (signed Negate) p) h
signed_needs Plus purpose b p h = finished_needs purpose b (changed_by (signed Plus) p) h
signed_needs Complement purpose b p h = finished_needs purpose b (changed_by (signed Complement) p) h

choice_needs : (joint : Bool) (b : ℕ) (test : Valued) (jumps first other : Statements) → Needs b test.code → Needs b jumps → Needs b first → Needs b other → Needs b (choice joint test jumps first other)
choice_needs false b test jumps first other t j f o = needs_joined b test.code (alone (If test.value (Seq first) (Seq other))) t (omega (arith, f, o))
choice_needs true b test jumps first other t j f o =
    let inner = needs_joined b jumps (joined first (alone (Leave 1))) j (needs_joined b first (alone (Leave 1)) f (omega arith)) in
    omega (arith, inner, o)

placed_needs : (k b : ℕ) (p : Valued) → k < b → Needs b p.code → Needs b (placed k p)
placed_needs k b p lt h = needs_joined b p.code (alone (Set k p.value)) h (omega (arith, lt))

noted_needs : (k b x y : ℕ) (jumps : Statements) → k < b → Needs b jumps → Needs b (noted k x y jumps).code
noted_needs k b x y jumps lt h =
    let inner = needs_joined b jumps (alone (Set k (Constant y))) h (omega (arith, lt)) in
    omega (arith, lt, inner)

module _ (homes : List Home) (n : ℕ) where
  chosen_needs : (purpose : Purpose) (joint : Bool) (k b : ℕ) (test : Valued) (jumps : Statements) (first second : Valued) → k < b → Needs b test.code → Needs b jumps → Needs b first.code → Needs b second.code →
      Needs b (finished purpose (record { code = choice joint test jumps (placed k first) (placed k second); value = Variable k })).code
  chosen_needs purpose joint k b test jumps first second lt t j f s =
      finished_needs purpose b (record { code = choice joint test jumps (placed k first) (placed k second); value = Variable k })
      (choice_needs joint b test jumps (placed k first) (placed k second) t j (placed_needs k b first lt f) (placed_needs k b second lt s))

  mutual
    pub aimed_needs : (place : c.Place) (k : ℕ) → PlaceFramed homes n place → n ≤ k → Needs (k + 1 + place_most none place) (aimed homes place k).code × TargetBelow n (aimed homes place k).target
    aimed_needs (c.Scalar object at) k may le = (omega arith, scalar_below n (home_of homes object) may)
    aimed_needs (c.Element array index at) k may le = (omega (arith, made_needs Value index k may le), tt)
    aimed_needs (c.Within inner at) k may le = let h = aimed_needs inner k may le in (omega (arith, h.0), h.1)

    -- a temporary more for each node at most
    pub made_needs : (purpose : Purpose) (e : c.Expr) (k : ℕ) → Framed homes n e → n ≤ k → Needs (k + 1 + expr_most none e) (made homes purpose e k).code
    made_needs purpose (c.Number constant at) k may le = finished_needs purpose (k + 1 + 1) (known constant.value) (omega arith)
    made_needs purpose (c.Character word at) k may le = finished_needs purpose (k + 1 + 1) (known word) (omega arith)
    made_needs purpose (c.Read place) k may le =
        let p = aimed homes place k in
        finished_needs purpose (k + 1 + place_most none place) (record { code = p.code; value = loaded p.target }) (aimed_needs place k may le).0
    made_needs purpose (c.Array object at) k may le = finished_needs purpose (k + 1 + 1) (known 0) (omega arith)
    made_needs purpose (c.Paren inner at) k may le = omega (arith, made_needs purpose inner k may le)
    made_needs purpose (c.Call to arguments at) k may le =
        let b = k + 1 + (1 + (exprs_most none arguments + call_most none to)) in
        let p = passing homes arguments k in
        finished_needs purpose b (called purpose to k p) (called_needs purpose to k b p (omega arith) (omega (arith, passing_needs arguments k may le)))
    made_needs purpose (c.Step fix operator kind target at) k may le =
        let b = k + 1 + (1 + place_most none target) in
        let p = aimed homes target k in
        let h = aimed_needs target k may le in
        finished_needs purpose b (stepped purpose fix (step_operator operator) kind k p.target p.code) (stepped_needs purpose fix (step_operator operator) kind k b p.target p.code (omega arith) (target_more n b p.target (omega (arith, le)) h.1) (omega (arith, h.0)))
    made_needs purpose (c.Signed operator kind operand at) k may le =
        signed_needs operator purpose (k + 1 + (1 + expr_most none operand)) (made homes (for_operand operator purpose) operand k) (omega (arith, made_needs (for_operand operator purpose) operand k may le))
    made_needs purpose (c.Cast specifiers to operand at) k may le =
        finished_needs purpose (k + 1 + (1 + expr_most none operand)) (changed_by (convert to) (made homes (plain purpose) operand k)) (omega (arith, made_needs (plain purpose) operand k may le))
    made_needs purpose (c.Convert to operand) k may le =
        finished_needs purpose (k + 1 + expr_most none operand) (changed_by (convert to) (made homes (plain purpose) operand k)) (made_needs (plain purpose) operand k may le)
    made_needs purpose (c.Operate operator kind left right at) k may le =
        let b = k + 1 + (1 + (expr_most none left + expr_most none right)) in
        finished_needs purpose b (operated_on operator kind k (made homes Value left k) (made homes Value right (k + 1)))
        (kept_needs k b (made homes Value left k) (made homes Value right (k + 1)).code (omega arith) (omega (arith, made_needs Value left k may.0 le)) (omega (arith, made_needs Value right (k + 1) may.1 (omega (arith, le)))))
    made_needs Value (c.And left right at) k may le =
        let b = k + 1 + (1 + (expr_most none left + expr_most none right)) in
        let x = (made homes (Unless 0) left (k + 1)).code in
        let y = (made homes (Unless 0) right (k + 1)).code in
        noted_needs k b 0 1 (joined x y) (omega arith) (needs_joined b x y (omega (arith, made_needs (Unless 0) left (k + 1) may.0 (omega (arith, le)))) (omega (arith, made_needs (Unless 0) right (k + 1) may.1 (omega (arith, le)))))
    made_needs Effect (c.And left right at) k may le =
        let b = k + 1 + (1 + (expr_most none left + expr_most none right)) in
        let both = needs_joined b (made homes (Unless 0) left k).code (made homes Effect right k).code (omega (arith, made_needs (Unless 0) left k may.0 le)) (omega (arith, made_needs Effect right k may.1 le)) in
        omega (arith, both)
    made_needs (Unless depth) (c.And left right at) k may le =
        let b = k + 1 + (1 + (expr_most none left + expr_most none right)) in
        needs_joined b (made homes (Unless depth) left k).code (made homes (Unless depth) right k).code (omega (arith, made_needs (Unless depth) left k may.0 le)) (omega (arith, made_needs (Unless depth) right k may.1 le))
    made_needs (When depth) (c.And left right at) k may le =
        let b = k + 1 + (1 + (expr_most none left + expr_most none right)) in
        let both = needs_joined b (made homes (Unless 0) left k).code (made homes (When (suc depth)) right k).code (omega (arith, made_needs (Unless 0) left k may.0 le)) (omega (arith, made_needs (When (suc depth)) right k may.1 le)) in
        omega (arith, both)
    made_needs Value (c.Or left right at) k may le =
        let b = k + 1 + (1 + (expr_most none left + expr_most none right)) in
        let x = (made homes (When 0) left (k + 1)).code in
        let y = (made homes (When 0) right (k + 1)).code in
        noted_needs k b 1 0 (joined x y) (omega arith) (needs_joined b x y (omega (arith, made_needs (When 0) left (k + 1) may.0 (omega (arith, le)))) (omega (arith, made_needs (When 0) right (k + 1) may.1 (omega (arith, le)))))
    made_needs Effect (c.Or left right at) k may le =
        let b = k + 1 + (1 + (expr_most none left + expr_most none right)) in
        let both = needs_joined b (made homes (When 0) left k).code (made homes Effect right k).code (omega (arith, made_needs (When 0) left k may.0 le)) (omega (arith, made_needs Effect right k may.1 le)) in
        omega (arith, both)
    made_needs (Unless depth) (c.Or left right at) k may le =
        let b = k + 1 + (1 + (expr_most none left + expr_most none right)) in
        let both = needs_joined b (made homes (When 0) left k).code (made homes (Unless (suc depth)) right k).code (omega (arith, made_needs (When 0) left k may.0 le)) (omega (arith, made_needs (Unless (suc depth)) right k may.1 le)) in
        omega (arith, both)
    made_needs (When depth) (c.Or left right at) k may le =
        let b = k + 1 + (1 + (expr_most none left + expr_most none right)) in
        needs_joined b (made homes (When depth) left k).code (made homes (When depth) right k).code (omega (arith, made_needs (When depth) left k may.0 le)) (omega (arith, made_needs (When depth) right k may.1 le))
    made_needs purpose (c.Comma left right at) k may le =
        let b = k + 1 + (1 + (expr_most none left + expr_most none right)) in
        needs_joined b (made homes Effect left k).code (made homes purpose right k).code (omega (arith, made_needs Effect left k may.0 le)) (omega (arith, made_needs purpose right k may.1 le))
    made_needs Effect (c.Conditional test first second at) k may le =
        let b = k + 1 + (1 + (expr_most none test + (expr_most none first + expr_most none second))) in
        choice_needs (is_joint test) b (made homes Value test k) (made homes (Unless 0) test k).code (made homes Effect first k).code (made homes Effect second k).code
        (omega (arith, made_needs Value test k may.0 le)) (omega (arith, made_needs (Unless 0) test k may.0 le)) (omega (arith, made_needs Effect first k may.1 le)) (omega (arith, made_needs Effect second k may.2 le))
    made_needs Value (c.Conditional test first second at) k may le =
        let b = k + 1 + (1 + (expr_most none test + (expr_most none first + expr_most none second))) in
        chosen_needs Value (is_joint test) k b (made homes Value test k) (made homes (Unless 0) test k).code (made homes Value first k) (made homes Value second k) (omega arith)
        (omega (arith, made_needs Value test k may.0 le)) (omega (arith, made_needs (Unless 0) test k may.0 le)) (omega (arith, made_needs Value first k may.1 le)) (omega (arith, made_needs Value second k may.2 le))
    made_needs (Unless depth) (c.Conditional test first second at) k may le =
        let b = k + 1 + (1 + (expr_most none test + (expr_most none first + expr_most none second))) in
        chosen_needs (Unless depth) (is_joint test) k b (made homes Value test k) (made homes (Unless 0) test k).code (made homes Value first k) (made homes Value second k) (omega arith)
        (omega (arith, made_needs Value test k may.0 le)) (omega (arith, made_needs (Unless 0) test k may.0 le)) (omega (arith, made_needs Value first k may.1 le)) (omega (arith, made_needs Value second k may.2 le))
    made_needs (When depth) (c.Conditional test first second at) k may le =
        let b = k + 1 + (1 + (expr_most none test + (expr_most none first + expr_most none second))) in
        chosen_needs (When depth) (is_joint test) k b (made homes Value test k) (made homes (Unless 0) test k).code (made homes Value first k) (made homes Value second k) (omega arith)
        (omega (arith, made_needs Value test k may.0 le)) (omega (arith, made_needs (Unless 0) test k may.0 le)) (omega (arith, made_needs Value first k may.1 le)) (omega (arith, made_needs Value second k may.2 le))
    made_needs purpose (c.Assign target right at) k may le =
        let b = k + 1 + (1 + (place_most none target + expr_most none right)) in
        let p = aimed homes target k in
        let h = aimed_needs target k may.0 le in
        finished_needs purpose b (assigned purpose k p.target p.code (made homes Value right (k + 1)))
        (assigned_needs purpose k b p.target p.code (made homes Value right (k + 1)) (omega arith) (target_more n b p.target (omega (arith, le)) h.1) (omega (arith, h.0)) (omega (arith, some_place none target, made_needs Value right (k + 1) may.1 (omega (arith, le)))))
    made_needs purpose (c.Update operator kind to target right at) k may le =
        let b = k + 1 + (1 + (place_most none target + expr_most none right)) in
        let p = aimed homes target k in
        let h = aimed_needs target k may.0 le in
        finished_needs purpose b (updated purpose operator kind to k p.target p.code (made homes Value right (k + 1)))
        (updated_needs purpose operator kind to k b p.target p.code (made homes Value right (k + 1)) (omega arith) (target_more n b p.target (omega (arith, le)) h.1) (omega (arith, h.0)) (omega (arith, some_place none target, made_needs Value right (k + 1) may.1 (omega (arith, le)))))

    passing_needs : (es : c.Exprs) (k : ℕ) → AllFramed homes n es → n ≤ k → Needs (k + 1 + exprs_most none es) (passing homes es k).code
    passing_needs c.NoExpr k may le = omega arith
    passing_needs (c.WithExpr e rest) k may le =
        argument_needs homes (array_named e) k (k + 1 + (expr_most none e + exprs_most none rest)) (made homes Value e k) (passing homes rest (k + 1)) (omega arith) (omega (arith, made_needs Value e k may.0 le)) (omega (arith, some_most none e, passing_needs rest (k + 1) may.1 (omega (arith, le))))
