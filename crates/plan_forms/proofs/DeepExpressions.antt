-- How deep the code and the values of expressions are.
use Rattle.std.proofs.Common.{ℕ, suc, ◌+◌, ◌*◌, ◌≤◌, max, Bool, true, false, not, List, [], ◌∷◌, Option, Some, None, arith}
use Rattle.std.specs.Prelude.{◌&&◌, ◌||◌}
use Rattle.types_tree.specs.declared.expression.Callee.{Callee}
use Rattle.types_tree.specs.declared.expression.Callee.TheVariants.{Getchar, Putchar, Function as Own}
use Rattle.types_tree.specs.declared.expression.Fix.{Fix}
use Rattle.types_tree.specs.declared.expression.Fix.TheVariants.{Prefix, Postfix}
use Rattle.types_tree.specs.Tree as c
use Rattle.types_value.specs.Kinds.{is_signed, promoted}
use Rattle.types_value.specs.declared.kind.Kind.{Kind as CType}
use Rattle.types_value.specs.declared.kind.Kind.TheVariants.{Char}
use Rattle.types_value.specs.declared.operator.Operator.{Operator}
use Rattle.types_value.specs.declared.operator.Sign.{Sign}
use Rattle.types_value.specs.declared.operator.Sign.TheVariants.{Negate, Plus, Complement, Not}
use Rattle.high_ir.specs.Size.{depth_all, expr_depth, greatest}
use Rattle.high_ir.specs.Tree.{Expr, Constant, Variable, Element, Set, Put, Get, Keep, Seq, If, Leave, Call, Statements, End, Then}
use Rattle.high_code.specs.Code.{joined, alone, is_empty}
use Rattle.plan_definition.specs.declared.home.Home.{Home}
use Rattle.plan_definition.specs.declared.home.Home.TheVariants.{Frame, Memory}
use Rattle.plan_definition.specs.declared.purpose.Purpose.{Purpose}
use Rattle.plan_definition.specs.declared.purpose.Purpose.TheVariants.{Value, Effect, Unless, When}
use Rattle.plan_definition.specs.Homes.{Target, InFrame, InMemory, home_of, scalar_at, loaded}
use Rattle.plan_definition.specs.Operators.{convert, operated, signed}
use Rattle.plan_definition.specs.Values.{Valued, Aimed, Passing, aimed, argument, array_named, assigned, both, called, changed_by, changed_in, choice, finished, firm, first_value, for_operand, held, in_block, is_changed, is_joint, is_leaf, is_variable, kept, known, leaf, leaf_for, made, noted, operated_on, passing, placed, plain, put, set_to, signed_for, step_operator, stepped, stepped_behind, updated}
use Rattle.plan_forms.specs.Levels.{all_levels, levels, place_levels, slack}
use Rattle.plan_forms.proofs.DeepParts.{Below, Sized, SizedFor, TargetBelow, bases_greatest, below_joined, below_more, convert_depth, finished_sized, held_below, held_value, leaf_value, operated_depth, signed_depth, sized_for_more, sized_more, some_depth}

-- the code of arguments, and the values that it leaves
pub record PassingBelow (n : ℕ) (p : Passing) : Type 0 where
  pub code : Below (2 * n) p.code
  pub values : greatest expr_depth p.values ≤ 1 + n

pub record AimedBelow (n : ℕ) (p : Aimed) : Type 0 where
  pub code : Below (2 * n) p.code
  pub target : TargetBelow n p.target

-- one more than a value that is at most half so deep
within_twice : (v n m : ℕ) → v ≤ n → n + 1 ≤ m → v + 1 ≤ 2 * m
within_twice v n m le more = omega (arith, le, more)

scalar_below : (home : Home) → TargetBelow 2 (scalar_at home)
scalar_below (Frame x) = omega arith
scalar_below (Memory array) = omega arith

loaded_below : (n : ℕ) (target : Target) → TargetBelow n target → expr_depth (loaded target) ≤ n
loaded_below n (InFrame x) h = h
loaded_below n (InMemory array index) h = h

target_more : (m n : ℕ) (target : Target) → m ≤ n → TargetBelow m target → TargetBelow n target
target_more m n (InFrame x) le h = omega (arith, le, h)
target_more m n (InMemory array index) le h = omega (arith, le, h)

pub slack_most : (e : c.Expr) → slack e ≤ 1
slack_most (c.Number constant at) = omega arith
slack_most (c.Character word at) = omega arith
slack_most (c.Read place) = omega arith
slack_most (c.Array object at) = omega arith
slack_most (c.Paren inner at) = omega arith
slack_most (c.Call callee arguments at) = omega arith
slack_most (c.Step fix operator kind target at) = omega arith
slack_most (c.Signed operator kind operand at) = omega arith
slack_most (c.Cast specifiers to operand at) = omega arith
slack_most (c.Convert to operand) = omega arith
slack_most (c.Operate operator kind left right at) = omega arith
slack_most (c.And left right at) = omega arith
slack_most (c.Or left right at) = omega arith
slack_most (c.Comma left right at) = omega arith
slack_most (c.Conditional test first second at) = omega arith
slack_most (c.Assign target value at) = omega arith
slack_most (c.Update operator kind to target value at) = omega arith

-- a part, which may be a conversion
pub loose : (e : c.Expr) (n : ℕ) (p : Valued) → Sized (slack e) n p → Sized 1 n p
loose e n p h = sized_more (slack e) 1 n n p (itself n) (most (slack e) n (slack_most e)) h
  where
    itself : (n : ℕ) → n ≤ n
    itself n = omega arith

    most : (s n : ℕ) → s ≤ 1 → s + n ≤ 1 + n
    most s n le = omega (arith, le)

-- a sign, and a conversion
one_more : (operator : Sign) (n : ℕ) (p : Valued) → Sized 1 n p → Sized 0 (2 + n) (changed_by (signed operator) p)
one_more operator n p s = record { code = below_more (2 * n) (2 * (2 + n)) p.code (omega arith) s.code; value = last (expr_depth (signed operator p.value)) (expr_depth p.value) (signed_depth operator p.value) s.value }
  where
    last : (d x : ℕ) → d ≤ x + 1 → x ≤ 1 + n → d ≤ 0 + (2 + n)
    last d x p q = omega (arith, p, q)

signed_sized : (operator : Sign) (purpose : Purpose) (e : c.Expr) (n : ℕ) (p : Valued) → SizedFor (for_operand operator purpose) (slack e) n p → SizedFor purpose 0 (2 + n) (signed_for operator purpose p)
signed_sized operator purpose e n p s = of operator purpose s
  where
    more : slack e + n ≤ 0 + (2 + n)
    more = omega (arith, slack_most e)

    one_step : n ≤ 2 + n
    one_step = omega arith

    two : 2 ≤ 2 + n
    two = omega arith

    by_value : (operator : Sign) (purpose : Purpose) → Sized (slack e) n p → SizedFor purpose 0 (2 + n) (finished purpose (changed_by (signed operator) p))
    by_value operator purpose s = finished_sized purpose 0 (2 + n) (changed_by (signed operator) p) (omega arith) two (one_more operator n p (loose e n p s))

    of : (operator : Sign) (purpose : Purpose) → SizedFor (for_operand operator purpose) (slack e) n p → SizedFor purpose 0 (2 + n) (signed_for operator purpose p)
    of Not (Unless depth) s = sized_for_more (When depth) (slack e) 0 n (2 + n) p one_step more s
    of Not (When depth) s = sized_for_more (Unless depth) (slack e) 0 n (2 + n) p one_step more s
    of Not Value s = by_value Not Value s
    of Not Effect s = by_value Not Effect s
    of Negate purpose s = by_value Negate purpose s
    of Plus purpose s = by_value Plus purpose s
    of Complement purpose s = by_value Complement purpose s

converted_sized : (to : CType) (s r m n : ℕ) (p : Valued) → m ≤ n → s + m + 1 ≤ r + n → Sized s m p → Sized r n (changed_by (convert to) p)
converted_sized to s r m n p le more h = record { code = below_more (2 * m) (2 * n) p.code (omega (arith, le)) h.code; value = last (expr_depth (convert to p.value)) (expr_depth p.value) (convert_depth to p.value) h.value }
  where
    last : (d x : ℕ) → d ≤ x + 1 → x ≤ s + m → d ≤ r + n
    last d x p q = omega (arith, more, p, q)

convert_sized : (purpose : Purpose) (to : CType) (s r m n : ℕ) (p : Valued) → m ≤ n → s + m + 1 ≤ r + n → r ≤ 1 → 2 ≤ n → SizedFor (plain purpose) s m p → SizedFor purpose r n (finished purpose (changed_by (convert to) p))
convert_sized Value to s r m n p le more one two h = converted_sized to s r m n p le more h
convert_sized Effect to s r m n p le more one two h = below_more (2 * m) (2 * n) p.code (omega (arith, le)) h
convert_sized (Unless depth) to s r m n p le more one two h = finished_sized (Unless depth) r n (changed_by (convert to) p) one two (converted_sized to s r m n p le more h)
convert_sized (When depth) to s r m n p le more one two h = finished_sized (When depth) r n (changed_by (convert to) p) one two (converted_sized to s r m n p le more h)

-- an operator on two values
kept_below : (k m n : ℕ) (p : Valued) (after : Statements) → Sized 1 m p → m + 2 ≤ 2 * n → 2 * m ≤ 2 * n → Below (2 * n) after → Below (2 * n) (kept k p after).code
kept_below k m n p after s room twice b = held_below (not (is_empty after) && is_changed p.value after) k (2 * n) p after (below_more (2 * m) (2 * n) p.code twice s.code) (omega (arith, room, s.value)) b

kept_value : (k n : ℕ) (p : Valued) (after : Statements) → expr_depth p.value ≤ n → expr_depth (kept k p after).value ≤ n
kept_value k n p after v = held_value (not (is_empty after) && is_changed p.value after) k n p after v

operate_sized : (operator : Operator) (kind : CType) (k m n : ℕ) (left right : Valued) → Sized 1 m left → Sized 1 n right → Sized 0 (2 + max m n) (operated_on operator kind k left right)
operate_sized operator kind k m n left right a b =
    let l = kept k left right.code in
    let v : expr_depth l.value ≤ 1 + m = kept_value k (1 + m) left right.code a.value in
    record {
      code = kept_below k m (2 + max m n) left right.code a (omega arith) (omega arith) (below_more (2 * n) (2 * (2 + max m n)) right.code (omega arith) b.code);
      value = above (expr_depth (operated operator (is_signed kind) l.value right.value)) (expr_depth l.value) (expr_depth right.value) (operated_depth operator (is_signed kind) l.value right.value) v b.value;
    }
  where
    above : (d x y : ℕ) → d ≤ max x y + 1 → x ≤ 1 + m → y ≤ 1 + n → d ≤ 0 + (2 + max m n)
    above d x y le a b = omega (arith, le, a, b)

-- two ways
seq_below : (n : ℕ) (code : Statements) → Below n code → Below (n + 2) (in_block code)
seq_below n code h = omega (arith, h)

choice_below : (joint : Bool) (n v : ℕ) (test : Valued) (jumps first other : Statements) → Sized 1 v test → 2 * v ≤ n → v + 2 ≤ n → 2 ≤ n → Below n jumps → Below n first → Below n other → Below (n + 4) (choice joint test jumps first other)
choice_below false n v test jumps first other s twice room some j f o =
    below_joined (n + 4) test.code (alone (If test.value (Seq first) (Seq other))) (below_more (2 * v) (n + 4) test.code (omega (arith, twice)) s.code) (ways (expr_depth test.value) (depth_all first) (depth_all other) s.value f o)
  where
    ways : (t a b : ℕ) → t ≤ 1 + v → a ≤ n → b ≤ n → max (max t (max (a + 1) (b + 1)) + 1) 0 ≤ n + 4
    ways t a b x y z = omega (arith, room, x, y, z)
choice_below true n v test jumps first other s twice room some j f o =
    let inner : Below n (joined jumps (joined first (alone (Leave 1)))) = below_joined n jumps (joined first (alone (Leave 1))) j (below_joined n first (alone (Leave 1)) f (omega (arith, some))) in
    blocks (depth_all (joined jumps (joined first (alone (Leave 1))))) (depth_all other) inner o
  where
    blocks : (a b : ℕ) → a ≤ n → b ≤ n → max (max (a + 1 + 1) b + 1 + 1) 0 ≤ n + 4
    blocks a b x y = omega (arith, x, y)

placed_below : (k n m : ℕ) (p : Valued) → Sized 1 m p → 2 * m ≤ n → m + 2 ≤ n → Below n (placed k p)
placed_below k n m p s twice room = below_joined n p.code (alone (Set k p.value)) (below_more (2 * m) n p.code twice s.code) (omega (arith, room, s.value))

noted_sized : (k before behind n : ℕ) (jumps : Statements) → 1 ≤ n → Below (2 * n) jumps → Sized 0 (2 + n) (noted k before behind jumps)
noted_sized k before behind n jumps some j =
    let inner : Below (2 * n) (joined jumps (alone (Set k (Constant behind)))) = below_joined (2 * n) jumps (alone (Set k (Constant behind))) j (omega (arith, some)) in
    record { code = block (depth_all (joined jumps (alone (Set k (Constant behind))))) inner; value = omega arith }
  where
    block : (a : ℕ) → a ≤ 2 * n → max 2 (max (a + 1 + 1) 0) ≤ 2 * (2 + n)
    block a h = omega (arith, h)

-- stores
leaf_for_sized : (purpose : Purpose) (k n m : ℕ) (p : Valued) → Sized 1 m p → m + 2 ≤ 2 * n → 2 * m ≤ 2 * n → Below (2 * n) (leaf_for purpose k p).code × (expr_depth (leaf_for purpose k p).value ≤ 1 + m)
leaf_for_sized purpose k n m p s room twice = of purpose
  where
    code : Below (2 * n) p.code
    code = below_more (2 * m) (2 * n) p.code twice s.code

    as_leaf : Below (2 * n) (leaf k p).code × (expr_depth (leaf k p).value ≤ 1 + m)
    as_leaf = (held_below (not (is_leaf p.value)) k (2 * n) p End code (omega (arith, room, s.value)) (omega arith), held_value (not (is_leaf p.value)) k (1 + m) p End s.value)

    of : (purpose : Purpose) → Below (2 * n) (leaf_for purpose k p).code × (expr_depth (leaf_for purpose k p).value ≤ 1 + m)
    of Effect = (code, s.value)
    of Value = as_leaf
    of (Unless depth) = as_leaf
    of (When depth) = as_leaf

set_to_sized : (x n : ℕ) (code : Statements) (right : Valued) → 1 ≤ n → Below (2 * n) code → Below (2 * n) right.code → expr_depth right.value + 1 ≤ 2 * n → Sized 0 n (set_to x code right)
set_to_sized x n code right some a b v = record {
  code = below_joined (2 * n) code (joined right.code (alone (Set x right.value))) a (below_joined (2 * n) right.code (alone (Set x right.value)) b (omega (arith, v)));
  value = omega (arith, some);
}

-- the place, and the right side behind it: `t` and `m` are their levels
module _ (k t m : ℕ) (code : Statements) (right : Valued) (a : Below (2 * t) code) (b : Sized 1 m right) where
  abbrev all : ℕ
  all = 2 + max t m

  code_in : Below (2 * all) code
  code_in = below_more (2 * t) (2 * all) code (omega arith) a

  right_in : Below (2 * all) right.code
  right_in = below_more (2 * m) (2 * all) right.code (omega arith) b.code

  assigned_sized : (purpose : Purpose) (target : Target) → TargetBelow t target → Sized 0 all (assigned purpose k target code right)
  assigned_sized purpose (InFrame x) h = set_to_sized x all code right (omega arith) code_in right_in (omega (arith, b.value))
  assigned_sized purpose (InMemory array index) h =
      let value = leaf_for_sized purpose (k + 1) all m right b (omega arith) (omega arith) in
      let r = leaf_for purpose (k + 1) right in
      let i = kept k (record { code = code; value = index }) r.code in
      let v : expr_depth i.value ≤ t = kept_value k t (record { code = code; value = index }) r.code (omega (arith, h)) in
      record {
        code = below_joined (2 * all) i.code (alone (Keep array i.value r.value))
            (held_below (not (is_empty r.code) && is_changed index r.code) k (2 * all) (record { code = code; value = index }) r.code code_in (omega (arith, h)) value.0)
            (keep (expr_depth i.value) (expr_depth r.value) v value.1);
        value = omega (arith, value.1);
      }
    where
      keep : (x y : ℕ) → x ≤ t → y ≤ 1 + m → max (max x y + 1) 0 ≤ 2 * all
      keep x y le more = omega (arith, le, more)

  -- an element as a leaf of code behind it
  firm_code : (index : Expr) → expr_depth index + 1 ≤ t → Below (2 * all) (firm k (record { code = code; value = index }) right.code).code
  firm_code index h = held_below (not (is_leaf index) || (is_changed index right.code || is_variable (k + 1) index)) k (2 * all) (record { code = code; value = index }) right.code code_in (omega (arith, h)) right_in

  firm_value : (index : Expr) → expr_depth index + 1 ≤ t → expr_depth (firm k (record { code = code; value = index }) right.code).value + 1 ≤ t
  firm_value index h = of (not (is_leaf index) || (is_changed index right.code || is_variable (k + 1) index))
    where
      of : (needed : Bool) → expr_depth (held needed k (record { code = code; value = index }) right.code).value + 1 ≤ t
      of false = h
      of true = omega (arith, h, some_depth index)

  -- what an operator makes of what was there, which is at most so deep
  new_depth : (operator : Operator) (kind : CType) (old : Expr) (n : ℕ) → expr_depth old ≤ n → expr_depth (operated operator (is_signed kind) (convert kind old) right.value) ≤ max (n + 1) (m + 1) + 1
  new_depth operator kind old n le =
      above (expr_depth (operated operator (is_signed kind) (convert kind old) right.value)) (expr_depth (convert kind old)) (expr_depth right.value) (expr_depth old) (operated_depth operator (is_signed kind) (convert kind old) right.value) (convert_depth kind old) b.value le
    where
      above : (d x y o : ℕ) → d ≤ max x y + 1 → x ≤ o + 1 → y ≤ 1 + m → o ≤ n → d ≤ max (n + 1) (m + 1) + 1
      above d x y o p q r s = omega (arith, p, q, r, s)

  updated_sized : (purpose : Purpose) (operator : Operator) (kind to : CType) (target : Target) → 1 ≤ m → 2 ≤ t → TargetBelow t target → SizedFor (plain purpose) 0 all (updated purpose operator kind to k target code right)
  updated_sized purpose operator kind to (InFrame x) some two h = any purpose
    where
      e : Expr
      e = operated operator (is_signed kind) (convert kind (Variable x)) right.value

      value : expr_depth (convert to e) + 1 ≤ 2 * all
      value = room (expr_depth (convert to e)) (expr_depth e) (convert_depth to e) (new_depth operator kind (Variable x) 1 one)
        where
          one : 1 ≤ 1
          one = omega arith

          room : (d x : ℕ) → d ≤ x + 1 → x ≤ max 2 (m + 1) + 1 → d + 1 ≤ 2 * all
          room d x le more = omega (arith, le, more, two)

      sized : Sized 0 all (set_to x code (record { code = right.code; value = convert to e }))
      sized = set_to_sized x all code (record { code = right.code; value = convert to e }) (omega arith) code_in right_in value

      any : (purpose : Purpose) → SizedFor (plain purpose) 0 all (set_to x code (record { code = right.code; value = convert to e }))
      any Value = sized
      any Effect = sized.code
      any (Unless depth) = sized
      any (When depth) = sized
  updated_sized purpose operator kind to (InMemory array index) some two h = any purpose
    where
      i : Valued
      i = firm k (record { code = code; value = index }) right.code

      e : Expr
      e = operated operator (is_signed kind) (convert kind (Element array i.value)) right.value

      index_in : expr_depth i.value + 1 ≤ t
      index_in = firm_value index h

      new : expr_depth e ≤ max (t + 1) (m + 1) + 1
      new = new_depth operator kind (Element array i.value) t index_in

      effect : Below (2 * all) (joined i.code (alone (Keep array i.value e)))
      effect = below_joined (2 * all) i.code (alone (Keep array i.value e)) (firm_code index h) (keep (expr_depth i.value) (expr_depth e) index_in new)
        where
          keep : (x y : ℕ) → x + 1 ≤ t → y ≤ max (t + 1) (m + 1) + 1 → max (max x y + 1) 0 ≤ 2 * all
          keep x y le more = omega (arith, le, more, two)

      value : Sized 0 all (record { code = joined i.code (Then (Set (k + 1) (convert to e)) (alone (Keep array i.value (Variable (k + 1))))); value = Variable (k + 1) })
      value = record {
        code = below_joined (2 * all) i.code (Then (Set (k + 1) (convert to e)) (alone (Keep array i.value (Variable (k + 1))))) (firm_code index h) (stores (expr_depth (convert to e)) (expr_depth e) (expr_depth i.value) (convert_depth to e) new index_in);
        value = omega arith;
      }
        where
          stores : (d y x : ℕ) → d ≤ y + 1 → y ≤ max (t + 1) (m + 1) + 1 → x + 1 ≤ t → max (d + 1) (max (max x 1 + 1) 0) ≤ 2 * all
          stores d y x p q r = omega (arith, p, q, r, two)

      any : (purpose : Purpose) → SizedFor (plain purpose) 0 all (changed_in purpose array k i (λ old. operated operator (is_signed kind) (convert kind old) right.value) (convert to))
      any Value = value
      any Effect = effect
      any (Unless depth) = value
      any (When depth) = value

-- a step whose value is the old one
behind_sized : (operator : Operator) (kind : CType) (k t : ℕ) (target : Target) (code : Statements) → Below (2 * t) code → 2 ≤ t → TargetBelow t target → Sized 0 (2 + t) (stepped_behind operator kind k target code)
behind_sized operator kind k t (InFrame x) code a two h =
    let e = operated operator (is_signed (promoted kind)) (Variable k) (Constant 1) in
    let old = operated_depth operator (is_signed (promoted kind)) (Variable k) (Constant 1) in
    record {
      code = below_joined (2 * (2 + t)) code (Then (Set k (Variable x)) (alone (Set x (convert kind e)))) (below_more (2 * t) (2 * (2 + t)) code (omega arith) a) (stores (expr_depth (convert kind e)) (expr_depth e) (convert_depth kind e) old);
      value = omega arith;
    }
  where
    stores : (d y : ℕ) → d ≤ y + 1 → y ≤ max 1 1 + 1 → max 2 (max (d + 1) 0) ≤ 2 * (2 + t)
    stores d y p q = omega (arith, p, q)
behind_sized operator kind k t (InMemory array index) code a two h =
    let i = firm k (record { code = code; value = index }) End in
    let e = operated operator (is_signed (promoted kind)) (Variable (k + 1)) (Constant 1) in
    let old = operated_depth operator (is_signed (promoted kind)) (Variable (k + 1)) (Constant 1) in
    let one : Sized 1 1 (record { code = End; value = Constant 1 }) = record { code = omega arith; value = omega arith } in
    record {
      code = below_joined (2 * (2 + t)) i.code (Then (Set (k + 1) (Element array i.value)) (alone (Keep array i.value e)))
          (held_below (not (is_leaf index) || (is_changed index End || is_variable (k + 1) index)) k (2 * (2 + t)) (record { code = code; value = index }) End (below_more (2 * t) (2 * (2 + t)) code (omega arith) a) (omega (arith, h)) (omega arith))
          (stores (expr_depth i.value) (expr_depth e) (firm_value k t 1 code (record { code = End; value = Constant 1 }) a one index h) old);
      value = omega arith;
    }
  where
    stores : (x y : ℕ) → x + 1 ≤ t → y ≤ max 1 1 + 1 → max (x + 1 + 1) (max (max x y + 1) 0) ≤ 2 * (2 + t)
    stores x y p q = omega (arith, p, q)

stepped_sized : (purpose : Purpose) (fix : Fix) (operator : Operator) (kind : CType) (k t : ℕ) (target : Target) (code : Statements) → Below (2 * t) code → 2 ≤ t → TargetBelow t target → SizedFor (plain purpose) 0 (2 + t) (stepped purpose fix operator kind k target code)
stepped_sized purpose fix operator kind k t target code a two h = of purpose fix
  where
    one : Sized 1 1 (known 1)
    one = record { code = omega arith; value = omega arith }

    same : 2 + max t 1 ≤ 2 + t
    same = omega (arith, two)

    some : 1 ≤ 1
    some = omega arith

    update : (purpose : Purpose) → SizedFor (plain purpose) 0 (2 + t) (updated purpose operator (promoted kind) kind k target code (known 1))
    update purpose = sized_for_more (plain purpose) 0 0 (2 + max t 1) (2 + t) (updated purpose operator (promoted kind) kind k target code (known 1)) same (omega (arith, two)) (updated_sized k t 1 code (known 1) a one purpose operator (promoted kind) kind target some two h)

    of : (purpose : Purpose) (fix : Fix) → SizedFor (plain purpose) 0 (2 + t) (stepped purpose fix operator kind k target code)
    of purpose Prefix = update purpose
    of Effect Postfix = update Effect
    of Value Postfix = behind_sized operator kind k t target code a two h
    of (Unless depth) Postfix = behind_sized operator kind k t target code a two h
    of (When depth) Postfix = behind_sized operator kind k t target code a two h

-- what is left by a purpose's own code
plainly_sized : (purpose : Purpose) (n : ℕ) (p : Valued) → 2 ≤ n → SizedFor (plain purpose) 0 n p → SizedFor purpose 0 n (finished purpose p)
plainly_sized Value n p two s = s
plainly_sized Effect n p two s = s
plainly_sized (Unless depth) n p two s = finished_sized (Unless depth) 0 n p (omega arith) two s
plainly_sized (When depth) n p two s = finished_sized (When depth) 0 n p (omega arith) two s

-- calls
first_below : (values : List Expr) (n : ℕ) → greatest expr_depth values ≤ 1 + n → expr_depth (first_value values) ≤ n + 1
first_below [] n h = omega arith
first_below (e ∷ rest) n h = omega (arith, h)

put_sized : (purpose : Purpose) (k n : ℕ) (p : Valued) → Below (2 * n) p.code → expr_depth p.value ≤ n + 1 → SizedFor (plain purpose) 0 (2 + n) (put purpose k p)
put_sized purpose k n p a v = of purpose
  where
    effect : Below (2 * (2 + n)) (joined p.code (alone (Put p.value)))
    effect = below_joined (2 * (2 + n)) p.code (alone (Put p.value)) (below_more (2 * n) (2 * (2 + n)) p.code (omega arith) a) (omega (arith, v))

    w : Valued
    w = leaf k p

    value : Sized 0 (2 + n) (record { code = joined w.code (alone (Put w.value)); value = convert Char w.value })
    value = record {
      code = below_joined (2 * (2 + n)) w.code (alone (Put w.value)) (held_below (not (is_leaf p.value)) k (2 * (2 + n)) p End (below_more (2 * n) (2 * (2 + n)) p.code (omega arith) a) (omega (arith, v)) (omega arith)) (omega (arith, leaf_value k p));
      value = last (expr_depth (convert Char w.value)) (expr_depth w.value) (convert_depth Char w.value) (leaf_value k p);
    }
      where
        last : (d x : ℕ) → d ≤ x + 1 → x ≤ 1 → d ≤ 0 + (2 + n)
        last d x p q = omega (arith, p, q)

    of : (purpose : Purpose) → SizedFor (plain purpose) 0 (2 + n) (put purpose k p)
    of Value = value
    of Effect = effect
    of (Unless depth) = value
    of (When depth) = value

called_sized : (purpose : Purpose) (callee : Callee) (k n : ℕ) (p : Passing) → PassingBelow n p → SizedFor (plain purpose) 0 (2 + n) (called purpose callee k p)
called_sized purpose Getchar k n p s = any purpose
  where
    sized : Sized 0 (2 + n) (record { code = joined p.code (alone (Get k)); value = Variable k })
    sized = record { code = below_joined (2 * (2 + n)) p.code (alone (Get k)) (below_more (2 * n) (2 * (2 + n)) p.code (omega arith) s.code) (omega arith); value = omega arith }

    any : (purpose : Purpose) → SizedFor (plain purpose) 0 (2 + n) (record { code = joined p.code (alone (Get k)); value = Variable k })
    any Value = sized
    any Effect = sized.code
    any (Unless depth) = sized
    any (When depth) = sized
called_sized purpose Putchar k n p s = put_sized purpose k n (record { code = p.code; value = first_value p.values }) s.code (first_below p.values n s.values)
called_sized purpose (Own function) k n p s = any purpose
  where
    call : (into : Option ℕ) → Below (2 * (2 + n)) (joined p.code (alone (Call function.0 p.values p.arrays into)))
    call into = below_joined (2 * (2 + n)) p.code (alone (Call function.0 p.values p.arrays into)) (below_more (2 * n) (2 * (2 + n)) p.code (omega arith) s.code) (one (greatest expr_depth p.values) (greatest (λ b. 1) p.arrays) s.values (bases_greatest p.arrays))
      where
        one : (x y : ℕ) → x ≤ 1 + n → y ≤ 1 → max (max x y + 1) 0 ≤ 2 * (2 + n)
        one x y a b = omega (arith, a, b)

    value : Sized 0 (2 + n) (record { code = joined p.code (alone (Call function.0 p.values p.arrays (Some k))); value = Variable k })
    value = record { code = call (Some k); value = omega arith }

    any : (purpose : Purpose) → SizedFor (plain purpose) 0 (2 + n) (called purpose (Own function) k p)
    any Value = value
    any Effect = call None
    any (Unless depth) = value
    any (When depth) = value

argument_sized : (homes : List Home) (o : Option ℕ) (k m n : ℕ) (p : Valued) (rest : Passing) → Sized 1 m p → 2 ≤ m → PassingBelow n rest → PassingBelow (max m n) (argument homes o k p rest)
argument_sized homes (Some object) k m n p rest s some r = record { code = below_more (2 * n) (2 * max m n) rest.code (omega arith) r.code; values = omega (arith, r.values) }
argument_sized homes None k m n p rest s some r =
    let q = kept k p rest.code in
    let v : expr_depth q.value ≤ 1 + m = kept_value k (1 + m) p rest.code s.value in
    record {
      code = kept_below k m (max m n) p rest.code s (omega (arith, some)) (omega arith) (below_more (2 * n) (2 * max m n) rest.code (omega arith) r.code);
      values = both (expr_depth q.value) (greatest expr_depth rest.values) v r.values;
    }
  where
    both : (x y : ℕ) → x ≤ 1 + m → y ≤ 1 + n → max x y ≤ 1 + max m n
    both x y a b = omega (arith, a, b)

-- expressions take two levels at least
mutual
  pub some_levels : (e : c.Expr) → 2 ≤ levels e
  some_levels (c.Number constant at) = omega arith
  some_levels (c.Character word at) = omega arith
  some_levels (c.Read place) = some_place place
  some_levels (c.Array object at) = omega arith
  some_levels (c.Paren inner at) = omega arith
  some_levels (c.Call callee arguments at) = omega arith
  some_levels (c.Step fix operator kind target at) = omega arith
  some_levels (c.Signed operator kind operand at) = omega arith
  some_levels (c.Cast specifiers to operand at) = omega arith
  some_levels (c.Convert to operand) = omega (arith, some_levels operand)
  some_levels (c.Operate operator kind left right at) = omega arith
  some_levels (c.And left right at) = omega arith
  some_levels (c.Or left right at) = omega arith
  some_levels (c.Comma left right at) = omega arith
  some_levels (c.Conditional test first second at) = omega arith
  some_levels (c.Assign target value at) = omega arith
  some_levels (c.Update operator kind to target value at) = omega arith

  pub some_place : (place : c.Place) → 2 ≤ place_levels place
  some_place (c.Scalar object at) = omega arith
  some_place (c.Element array index at) = omega arith
  some_place (c.Within inner at) = omega arith

-- two pieces of code, each of a part
module _ (a b : ℕ) where
  abbrev two_levels : ℕ
  two_levels = 2 * (2 + max a b)

  first_in : (code : Statements) → Below (2 * a) code → Below (2 * max a b) code
  first_in code h = below_more (2 * a) (2 * max a b) code (omega arith) h

  second_in : (code : Statements) → Below (2 * b) code → Below (2 * max a b) code
  second_in code h = below_more (2 * b) (2 * max a b) code (omega arith) h

  joined_in : (x y : Statements) → Below (2 * a) x → Below (2 * b) y → Below (2 * max a b) (joined x y)
  joined_in x y h k = below_joined (2 * max a b) x y (first_in x h) (second_in y k)

  joined_up : (x y : Statements) → Below (2 * a) x → Below (2 * b) y → Below two_levels (joined x y)
  joined_up x y h k = below_more (2 * max a b) two_levels (joined x y) (omega arith) (joined_in x y h k)

  block_up : (x y : Statements) → Below (2 * a) x → Below (2 * b) y → Below two_levels (in_block (joined x y))
  block_up x y h k = below_more (2 * max a b + 2) two_levels (in_block (joined x y)) (omega arith) (seq_below (2 * max a b) (joined x y) (joined_in x y h k))

module _ (homes : List Home) where
  comma_sized : (purpose : Purpose) (left right : c.Expr) (k : ℕ) → Below (2 * levels left) (made homes Effect left k).code → SizedFor purpose (slack right) (levels right) (made homes purpose right k) → SizedFor purpose 0 (2 + max (levels left) (levels right)) (both (made homes Effect left k).code (made homes purpose right k))
  comma_sized Value left right k h s = record { code = joined_up (levels left) (levels right) (made homes Effect left k).code (made homes Value right k).code h s.code; value = omega (arith, s.value, slack_most right) }
  comma_sized Effect left right k h s = joined_up (levels left) (levels right) (made homes Effect left k).code (made homes Effect right k).code h s
  comma_sized (Unless depth) left right k h s = joined_up (levels left) (levels right) (made homes Effect left k).code (made homes (Unless depth) right k).code h s
  comma_sized (When depth) left right k h s = joined_up (levels left) (levels right) (made homes Effect left k).code (made homes (When depth) right k).code h s

  abbrev three : (test first second : c.Expr) → ℕ
  three test first second = max (levels test) (max (levels first) (levels second))

  in_first : (test first second : c.Expr) (code : Statements) → Below (2 * levels first) code → Below (2 * three test first second) code
  in_first test first second code h = below_more (2 * levels first) (2 * three test first second) code (omega arith) h

  in_second : (test first second : c.Expr) (code : Statements) → Below (2 * levels second) code → Below (2 * three test first second) code
  in_second test first second code h = below_more (2 * levels second) (2 * three test first second) code (omega arith) h

  -- the code of a choice, whose two ways are at most so deep
  ways_below : (test first second : c.Expr) (k : ℕ) (one other : Statements) → Sized 1 (levels test) (made homes Value test k) → Below (2 * levels test) (made homes (Unless 0) test k).code → Below (2 * three test first second) one → Below (2 * three test first second) other →
      Below (2 * (2 + three test first second)) (choice (is_joint test) (made homes Value test k) (made homes (Unless 0) test k).code one other)
  ways_below test first second k one other s j f o =
      below_more (2 * three test first second + 4) (2 * (2 + three test first second)) (choice (is_joint test) (made homes Value test k) (made homes (Unless 0) test k).code one other) (omega arith)
      (choice_below (is_joint test) (2 * three test first second) (levels test) (made homes Value test k) (made homes (Unless 0) test k).code one other s (omega arith) (omega (arith, some_levels test)) (omega (arith, some_levels test))
      (below_more (2 * levels test) (2 * three test first second) (made homes (Unless 0) test k).code (omega arith) j) f o)

  abbrev chosen_value : (test first second : c.Expr) → ℕ → Valued
  chosen_value test first second k = record { code = choice (is_joint test) (made homes Value test k) (made homes (Unless 0) test k).code (placed k (made homes Value first k)) (placed k (made homes Value second k)); value = Variable k }

  chosen_sized : (test first second : c.Expr) (k : ℕ) → Sized 1 (levels test) (made homes Value test k) → Below (2 * levels test) (made homes (Unless 0) test k).code → Sized 1 (levels first) (made homes Value first k) → Sized 1 (levels second) (made homes Value second k) → Sized 0 (2 + three test first second) (chosen_value test first second k)
  chosen_sized test first second k s j f o = record {
    code = ways_below test first second k (placed k (made homes Value first k)) (placed k (made homes Value second k)) s j
        (placed_below k (2 * three test first second) (levels first) (made homes Value first k) f (omega arith) (omega (arith, some_levels first)))
        (placed_below k (2 * three test first second) (levels second) (made homes Value second k) o (omega arith) (omega (arith, some_levels second)));
    value = omega arith;
  }

  mutual
    pub aimed_sized : (place : c.Place) (k : ℕ) → AimedBelow (place_levels place) (aimed homes place k)
    aimed_sized (c.Scalar object at) k = record { code = omega arith; target = scalar_below (home_of homes object) }
    aimed_sized (c.Element array index at) k =
        let s = loose index (levels index) (made homes Value index k) (made_sized Value index k) in
        record { code = below_more (2 * levels index) (2 * (2 + levels index)) (made homes Value index k).code (omega arith) s.code; target = omega (arith, s.value) }
    aimed_sized (c.Within inner at) k =
        let a = aimed_sized inner k in
        let p = aimed homes inner k in
        record { code = below_more (2 * place_levels inner) (2 * (2 + place_levels inner)) p.code (omega arith) a.code; target = target_more (place_levels inner) (2 + place_levels inner) p.target (omega arith) a.target }

    pub made_sized : (purpose : Purpose) (e : c.Expr) (k : ℕ) → SizedFor purpose (slack e) (levels e) (made homes purpose e k)
    made_sized purpose (c.Number constant at) k = finished_sized purpose 0 2 (known constant.value) (omega arith) (omega arith) (record { code = omega arith; value = omega arith })
    made_sized purpose (c.Character word at) k = finished_sized purpose 0 2 (known word) (omega arith) (omega arith) (record { code = omega arith; value = omega arith })
    made_sized purpose (c.Read place) k =
        let a = aimed_sized place k in
        let p = aimed homes place k in
        finished_sized purpose 0 (place_levels place) (record { code = p.code; value = loaded p.target }) (omega arith) (some_place place) (record { code = a.code; value = omega (arith, loaded_below (place_levels place) p.target a.target) })
    made_sized purpose (c.Array object at) k = finished_sized purpose 0 2 (known 0) (omega arith) (omega arith) (record { code = omega arith; value = omega arith })
    made_sized purpose (c.Paren inner at) k = sized_for_more purpose (slack inner) 0 (levels inner) (2 + levels inner) (made homes purpose inner k) (omega arith) (omega (arith, slack_most inner)) (made_sized purpose inner k)
    made_sized purpose (c.Call callee arguments at) k = plainly_sized purpose (2 + all_levels arguments) (called purpose callee k (passing homes arguments k)) (omega arith) (called_sized purpose callee k (all_levels arguments) (passing homes arguments k) (passing_sized arguments k))
    made_sized purpose (c.Step fix operator kind target at) k =
        let a = aimed_sized target k in
        let p = aimed homes target k in
        plainly_sized purpose (2 + place_levels target) (stepped purpose fix (step_operator operator) kind k p.target p.code) (omega arith) (stepped_sized purpose fix (step_operator operator) kind k (place_levels target) p.target p.code a.code (some_place target) a.target)
    made_sized purpose (c.Signed operator kind operand at) k = signed_sized operator purpose operand (levels operand) (made homes (for_operand operator purpose) operand k) (made_sized (for_operand operator purpose) operand k)
    made_sized purpose (c.Cast specifiers to operand at) k = convert_sized purpose to (slack operand) 0 (levels operand) (2 + levels operand) (made homes (plain purpose) operand k) (omega arith) (omega (arith, slack_most operand)) (omega arith) (omega arith) (made_sized (plain purpose) operand k)
    made_sized purpose (c.Convert to operand) k = convert_sized purpose to (slack operand) 1 (levels operand) (slack operand + levels operand) (made homes (plain purpose) operand k) (omega arith) (omega arith) (omega arith) (omega (arith, some_levels operand)) (made_sized (plain purpose) operand k)
    made_sized purpose (c.Operate operator kind left right at) k =
        finished_sized purpose 0 (2 + max (levels left) (levels right)) (operated_on operator kind k (made homes Value left k) (made homes Value right (k + 1))) (omega arith) (omega arith)
        (operate_sized operator kind k (levels left) (levels right) (made homes Value left k) (made homes Value right (k + 1)) (loose left (levels left) (made homes Value left k) (made_sized Value left k)) (loose right (levels right) (made homes Value right (k + 1)) (made_sized Value right (k + 1))))
    made_sized Value (c.And left right at) k =
        noted_sized k 0 1 (max (levels left) (levels right)) (joined (made homes (Unless 0) left (k + 1)).code (made homes (Unless 0) right (k + 1)).code) (omega (arith, some_levels left))
        (joined_in (levels left) (levels right) (made homes (Unless 0) left (k + 1)).code (made homes (Unless 0) right (k + 1)).code (made_sized (Unless 0) left (k + 1)) (made_sized (Unless 0) right (k + 1)))
    made_sized Effect (c.And left right at) k = block_up (levels left) (levels right) (made homes (Unless 0) left k).code (made homes Effect right k).code (made_sized (Unless 0) left k) (made_sized Effect right k)
    made_sized (Unless depth) (c.And left right at) k = joined_up (levels left) (levels right) (made homes (Unless depth) left k).code (made homes (Unless depth) right k).code (made_sized (Unless depth) left k) (made_sized (Unless depth) right k)
    made_sized (When depth) (c.And left right at) k = block_up (levels left) (levels right) (made homes (Unless 0) left k).code (made homes (When (suc depth)) right k).code (made_sized (Unless 0) left k) (made_sized (When (suc depth)) right k)
    made_sized Value (c.Or left right at) k =
        noted_sized k 1 0 (max (levels left) (levels right)) (joined (made homes (When 0) left (k + 1)).code (made homes (When 0) right (k + 1)).code) (omega (arith, some_levels left))
        (joined_in (levels left) (levels right) (made homes (When 0) left (k + 1)).code (made homes (When 0) right (k + 1)).code (made_sized (When 0) left (k + 1)) (made_sized (When 0) right (k + 1)))
    made_sized Effect (c.Or left right at) k = block_up (levels left) (levels right) (made homes (When 0) left k).code (made homes Effect right k).code (made_sized (When 0) left k) (made_sized Effect right k)
    made_sized (Unless depth) (c.Or left right at) k = block_up (levels left) (levels right) (made homes (When 0) left k).code (made homes (Unless (suc depth)) right k).code (made_sized (When 0) left k) (made_sized (Unless (suc depth)) right k)
    made_sized (When depth) (c.Or left right at) k = joined_up (levels left) (levels right) (made homes (When depth) left k).code (made homes (When depth) right k).code (made_sized (When depth) left k) (made_sized (When depth) right k)
    made_sized Value (c.Comma left right at) k = comma_sized Value left right k (made_sized Effect left k) (made_sized Value right k)
    made_sized Effect (c.Comma left right at) k = comma_sized Effect left right k (made_sized Effect left k) (made_sized Effect right k)
    made_sized (Unless depth) (c.Comma left right at) k = comma_sized (Unless depth) left right k (made_sized Effect left k) (made_sized (Unless depth) right k)
    made_sized (When depth) (c.Comma left right at) k = comma_sized (When depth) left right k (made_sized Effect left k) (made_sized (When depth) right k)
    made_sized Effect (c.Conditional test first second at) k =
        ways_below test first second k (made homes Effect first k).code (made homes Effect second k).code (loose test (levels test) (made homes Value test k) (made_sized Value test k)) (made_sized (Unless 0) test k)
        (in_first test first second (made homes Effect first k).code (made_sized Effect first k)) (in_second test first second (made homes Effect second k).code (made_sized Effect second k))
    made_sized Value (c.Conditional test first second at) k = chosen_sized test first second k (loose test (levels test) (made homes Value test k) (made_sized Value test k)) (made_sized (Unless 0) test k) (loose first (levels first) (made homes Value first k) (made_sized Value first k)) (loose second (levels second) (made homes Value second k) (made_sized Value second k))
    made_sized (Unless depth) (c.Conditional test first second at) k =
        finished_sized (Unless depth) 0 (levels (c.Conditional test first second at)) (chosen_value test first second k) (omega arith) (omega arith) (chosen_sized test first second k (loose test (levels test) (made homes Value test k) (made_sized Value test k)) (made_sized (Unless 0) test k) (loose first (levels first) (made homes Value first k) (made_sized Value first k)) (loose second (levels second) (made homes Value second k) (made_sized Value second k)))
    made_sized (When depth) (c.Conditional test first second at) k =
        finished_sized (When depth) 0 (levels (c.Conditional test first second at)) (chosen_value test first second k) (omega arith) (omega arith) (chosen_sized test first second k (loose test (levels test) (made homes Value test k) (made_sized Value test k)) (made_sized (Unless 0) test k) (loose first (levels first) (made homes Value first k) (made_sized Value first k)) (loose second (levels second) (made homes Value second k) (made_sized Value second k)))
    made_sized purpose (c.Assign target right at) k =
        let a = aimed_sized target k in
        let p = aimed homes target k in
        finished_sized purpose 0 (2 + max (place_levels target) (levels right)) (assigned purpose k p.target p.code (made homes Value right (k + 1))) (omega arith) (omega arith)
        (assigned_sized k (place_levels target) (levels right) p.code (made homes Value right (k + 1)) a.code (loose right (levels right) (made homes Value right (k + 1)) (made_sized Value right (k + 1))) purpose p.target a.target)
    made_sized purpose (c.Update operator kind to target right at) k =
        let a = aimed_sized target k in
        let p = aimed homes target k in
        plainly_sized purpose (2 + max (place_levels target) (levels right)) (updated purpose operator kind to k p.target p.code (made homes Value right (k + 1))) (omega arith)
        (updated_sized k (place_levels target) (levels right) p.code (made homes Value right (k + 1)) a.code (loose right (levels right) (made homes Value right (k + 1)) (made_sized Value right (k + 1))) purpose operator kind to p.target (omega (arith, some_levels right)) (some_place target) a.target)

    pub passing_sized : (es : c.Exprs) (k : ℕ) → PassingBelow (all_levels es) (passing homes es k)
    passing_sized c.NoExpr k = record { code = omega arith; values = omega arith }
    passing_sized (c.WithExpr e rest) k =
        argument_sized homes (array_named e) k (levels e) (all_levels rest) (made homes Value e k) (passing homes rest (k + 1)) (loose e (levels e) (made homes Value e k) (made_sized Value e k)) (some_levels e) (passing_sized rest (k + 1))
