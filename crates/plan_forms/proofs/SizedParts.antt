-- What the parts of expressions cost.
use Rattle.std.proofs.Common.{ℕ, ◌+◌, ◌*◌, ◌≤◌, Bool, true, false, not, List, [], ◌∷◌, length, Option, Some, None, arith}
use Rattle.std.specs.Prelude.{◌&&◌, ◌||◌}
use Rattle.facts_definitions.specs.Most.{call_most}
use Rattle.facts_definitions.specs.declared.facts.Bounds.{Bounds}
use Rattle.types_tree.specs.declared.expression.Callee.{Callee}
use Rattle.types_tree.specs.declared.expression.Callee.TheVariants.{Getchar, Putchar, Function as Own}
use Rattle.types_tree.specs.declared.expression.Fix.{Fix}
use Rattle.types_tree.specs.declared.expression.Fix.TheVariants.{Prefix, Postfix}
use Rattle.types_value.specs.Kinds.{is_signed, promoted}
use Rattle.types_value.specs.declared.kind.Kind.{Kind as CType}
use Rattle.types_value.specs.declared.kind.Kind.TheVariants.{Char}
use Rattle.types_value.specs.declared.kind.Kind.TheVariants as types
use Rattle.types_value.specs.declared.operator.Operator.{Operator}
use Rattle.types_value.specs.declared.operator.Sign.{Sign}
use Rattle.types_value.specs.declared.operator.Sign.TheVariants.{Negate, Plus, Complement, Not}
use Rattle.high_ir.specs.declared.object.Array.{Array}
use Rattle.high_ir.specs.Tree.{Expr, Constant, Variable, Element, Set, Put, Get, Keep, Seq, If, Leave, Call, Statements, End, Then}
use Rattle.high_code.specs.Code.{joined, alone, is_empty}
use Rattle.plan_definition.specs.declared.home.Home.{Home}
use Rattle.plan_definition.specs.declared.purpose.Purpose.{Purpose}
use Rattle.plan_definition.specs.declared.purpose.Purpose.TheVariants.{Value, Effect, Unless, When}
use Rattle.plan_definition.specs.Homes.{Target, InFrame, InMemory}
use Rattle.plan_definition.specs.Operators.{convert, operated, signed}
use Rattle.plan_definition.specs.Values.{Valued, Passing, argument, assigned, called, changed_by, changed_in, choice, finished, firm, first_value, for_operand, is_changed, is_leaf, is_variable, kept, kept_in, known, leaf, operated_on, put, set_to, signed_for, stepped, stepped_behind, updated}
use Rattle.plan_forms.specs.Costs.{Rates, cost_all, expr_cost, exprs_cost}
use Rattle.plan_forms.specs.Covers.{Covers}
use Rattle.plan_forms.proofs.SizedPieces.{DoneFor, FitsFor, PassingFits, code_cost, convert_cost, cost-joined, done, finished_fits, firm_value, held_cost, leaf_value, operated_cost, passed_most, signed_cost, target_cost}

module _ (rates : Rates) (callee calls : ℕ → ℕ) (planned bounds : List Bounds) (node spare : ℕ) (covers : Covers rates callee calls planned bounds node spare) where
  kept_cost : (k : ℕ) (p : Valued) (after : Statements) → code_cost rates callee (kept k p after) + expr_cost rates.leaf (kept k p after).value ≤ code_cost rates callee p + expr_cost rates.leaf p.value + cost_all rates callee after + 1 + rates.leaf
  kept_cost k p after = held_cost rates callee (not (is_empty after) && is_changed p.value after) k p after

  firm_cost : (k : ℕ) (p : Valued) (after : Statements) → code_cost rates callee (firm k p after) + expr_cost rates.leaf (firm k p after).value ≤ code_cost rates callee p + expr_cost rates.leaf p.value + cost_all rates callee after + 1 + rates.leaf
  firm_cost k p after = held_cost rates callee (not (is_leaf p.value) || (is_changed p.value after || is_variable (k + 1) p.value)) k p after

  firm_leaf : (k : ℕ) (p : Valued) (after : Statements) → expr_cost rates.leaf (firm k p after).value ≤ rates.leaf
  firm_leaf k p after = firm_value rates.leaf (is_changed p.value after || is_variable (k + 1) p.value) k p after

  -- calls
  pub argument_fits : (homes : List Home) (o : Option ℕ) (k : ℕ) (p : Valued) (rest : Passing) (a b : ℕ) → code_cost rates callee p + expr_cost rates.leaf p.value + rates.leaf + 3 ≤ a → PassingFits rates callee rest b → PassingFits rates callee (argument homes o k p rest) (a + b)
  argument_fits homes (Some object) k p rest a b h r = omega (arith, h, r)
  argument_fits homes None k p rest a b h r = omega (arith, h, r, kept_cost k p rest.code)

  first_most : (values : List Expr) → expr_cost rates.leaf (first_value values) ≤ exprs_cost rates.leaf values + rates.leaf
  first_most [] = omega arith
  first_most (e ∷ rest) = omega arith

  -- a value that is put out is used again as a leaf
  put_value : (k : ℕ) (code : Statements) (values : List Expr) (b : ℕ) → cost_all rates callee code + exprs_cost rates.leaf values + 2 * length values ≤ b →
      code_cost rates callee (leaf k (record { code = code; value = first_value values })) + expr_cost rates.leaf (leaf k (record { code = code; value = first_value values })).value + expr_cost rates.leaf (leaf k (record { code = code; value = first_value values })).value + rates.leaf + 6 ≤ node + b
  put_value k code [] b h = omega (arith, h, cost-joined rates callee code End, covers.some)
  put_value k code (e ∷ rest) b h =
      let p : Valued = record { code = code; value = e } in
      omega (arith, h, held_cost rates callee (not (is_leaf e)) k p End, leaf_value rates.leaf k p End, covers.some)

  put_fits : (purpose : Purpose) (k : ℕ) (code : Statements) (values : List Expr) (b : ℕ) → cost_all rates callee code + exprs_cost rates.leaf values + 2 * length values ≤ b → DoneFor rates callee purpose (put purpose k (record { code = code; value = first_value values })) (node + b)
  put_fits Effect k code values b h = omega (arith, h, cost-joined rates callee code (alone (Put (first_value values))), first_most values, covers.some)
  put_fits Value k code values b h =
      let w : Valued = leaf k (record { code = code; value = first_value values }) in
      omega (arith, put_value k code values b h, cost-joined rates callee w.code (alone (Put w.value)), convert_cost rates.leaf Char w.value)
  put_fits (Unless depth) k code values b h =
      let w : Valued = leaf k (record { code = code; value = first_value values }) in
      omega (arith, put_value k code values b h, cost-joined rates callee w.code (alone (Put w.value)), convert_cost rates.leaf Char w.value)
  put_fits (When depth) k code values b h =
      let w : Valued = leaf k (record { code = code; value = first_value values }) in
      omega (arith, put_value k code values b h, cost-joined rates callee w.code (alone (Put w.value)), convert_cost rates.leaf Char w.value)

  called_own : (function : ℕ) (into : Option ℕ) (p : Passing) (b : ℕ) → PassingFits rates callee p b → cost_all rates callee (joined p.code (alone (Call function p.values p.arrays into))) + 2 * rates.leaf + 4 ≤ node + b + node * calls function
  called_own function into p b h =
      omega (arith, h, cost-joined rates callee p.code (alone (Call function p.values p.arrays into)), covers.call, covers.callees function, passed_most rates.passed (length p.values) covers.passed, passed_most rates.passed (length p.arrays) covers.passed)

  pub called_fits : (purpose : Purpose) (to : Callee) (k : ℕ) (p : Passing) (b : ℕ) → PassingFits rates callee p b → DoneFor rates callee purpose (called purpose to k p) (node + b + node * call_most calls to)
  called_fits purpose Getchar k p b h = done rates callee purpose (record { code = joined p.code (alone (Get k)); value = Variable k }) (node + b + node * 0) (omega (arith, h, cost-joined rates callee p.code (alone (Get k)), covers.some))
  called_fits purpose Putchar k p b h =
      more purpose (put purpose k (record { code = p.code; value = first_value p.values })) (node + b) (node + b + node * 0) (omega arith) (put_fits purpose k p.code p.values b (omega (arith, h)))
    where
      more : (purpose : Purpose) (q : Valued) (x y : ℕ) → x ≤ y → DoneFor rates callee purpose q x → DoneFor rates callee purpose q y
      more Value q x y le d = omega (arith, le, d)
      more Effect q x y le d = omega (arith, le, d)
      more (Unless depth) q x y le d = omega (arith, le, d)
      more (When depth) q x y le d = omega (arith, le, d)
  called_fits Effect (Own function) k p b h = omega (arith, called_own function.0 None p b h)
  called_fits Value (Own function) k p b h = omega (arith, called_own function.0 (Some k) p b h)
  called_fits (Unless depth) (Own function) k p b h = omega (arith, called_own function.0 (Some k) p b h)
  called_fits (When depth) (Own function) k p b h = omega (arith, called_own function.0 (Some k) p b h)

  -- stores
  kept_in_cost : (array : Array) (k : ℕ) (index right : Valued) → code_cost rates callee (kept_in array k index right) ≤ code_cost rates callee index + expr_cost rates.leaf index.value + code_cost rates callee right + expr_cost rates.leaf right.value + 2 + rates.leaf
  kept_in_cost array k index right =
      let i = kept k index right.code in
      omega (arith, kept_cost k index right.code, cost-joined rates callee i.code (alone (Keep array i.value right.value)))

  kept_leaf : (array : Array) (k : ℕ) (index right : Valued) (b : ℕ) → code_cost rates callee index + expr_cost rates.leaf index.value + code_cost rates callee right + expr_cost rates.leaf right.value + 7 + 4 * rates.leaf ≤ b →
      code_cost rates callee (kept_in array k index (leaf (k + 1) right)) + expr_cost rates.leaf (leaf (k + 1) right).value + rates.leaf + 4 ≤ b
  kept_leaf array k index right b h =
      omega (arith, h, kept_in_cost array k index (leaf (k + 1) right), held_cost rates callee (not (is_leaf right.value)) (k + 1) right End, leaf_value rates.leaf (k + 1) right End)

  pub assigned_fits : (purpose : Purpose) (k : ℕ) (target : Target) (code : Statements) (right : Valued) (a r b : ℕ) → cost_all rates callee code + target_cost rates.leaf target + rates.leaf + 5 ≤ a → code_cost rates callee right + expr_cost rates.leaf right.value + rates.leaf + 3 ≤ r → node + a + r ≤ b →
      DoneFor rates callee purpose (assigned purpose k target code right) b
  assigned_fits purpose k (InFrame x) code right a r b h g room =
      done rates callee purpose (set_to x code right) b (omega (arith, h, g, room, cost-joined rates callee code (joined right.code (alone (Set x right.value))), cost-joined rates callee right.code (alone (Set x right.value)), covers.some))
  assigned_fits Effect k (InMemory array index) code right a r b h g room = omega (arith, h, g, room, kept_in_cost array k (record { code = code; value = index }) right)
  assigned_fits Value k (InMemory array index) code right a r b h g room = kept_leaf array k (record { code = code; value = index }) right b (omega (arith, h, g, room, covers.some))
  assigned_fits (Unless depth) k (InMemory array index) code right a r b h g room = kept_leaf array k (record { code = code; value = index }) right b (omega (arith, h, g, room, covers.some))
  assigned_fits (When depth) k (InMemory array index) code right a r b h g room = kept_leaf array k (record { code = code; value = index }) right b (omega (arith, h, g, room, covers.some))

  -- an element that is changed, whose new value has so many nodes more
  changed_fits : (purpose : Purpose) (array : Array) (k : ℕ) (i : Valued) (new converted : Expr → Expr) (m b : ℕ) → expr_cost rates.leaf (new (Element array i.value)) ≤ expr_cost rates.leaf i.value + 1 + m → ((e : Expr) → expr_cost rates.leaf (converted e) ≤ expr_cost rates.leaf e + 1) → expr_cost rates.leaf i.value ≤ rates.leaf →
      code_cost rates callee i + expr_cost rates.leaf i.value + m + 8 + 4 * rates.leaf ≤ b → DoneFor rates callee purpose (changed_in purpose array k i new converted) b
  changed_fits purpose array k i new converted m b n c one h = of purpose
    where
      value : cost_all rates callee (joined i.code (Then (Set (k + 1) (converted (new (Element array i.value)))) (alone (Keep array i.value (Variable (k + 1)))))) + rates.leaf + rates.leaf + 4 ≤ b
      value = omega (arith, n, c (new (Element array i.value)), one, h, cost-joined rates callee i.code (Then (Set (k + 1) (converted (new (Element array i.value)))) (alone (Keep array i.value (Variable (k + 1))))))

      of : (purpose : Purpose) → DoneFor rates callee purpose (changed_in purpose array k i new converted) b
      of Effect = omega (arith, n, one, h, cost-joined rates callee i.code (alone (Keep array i.value (new (Element array i.value)))))
      of Value = value
      of (Unless depth) = value
      of (When depth) = value

  -- where a conversion to the operator's type has so many nodes
  updated_fits : (purpose : Purpose) (operator : Operator) (kind to : CType) (k : ℕ) (target : Target) (code : Statements) (right : Valued) (c a b : ℕ) → ((e : Expr) → expr_cost rates.leaf (convert kind e) ≤ expr_cost rates.leaf e + c) → cost_all rates callee code + target_cost rates.leaf target + rates.leaf + 5 ≤ a → a + code_cost rates callee right + expr_cost rates.leaf right.value + 5 + 4 * rates.leaf + c ≤ b →
      DoneFor rates callee purpose (updated purpose operator kind to k target code right) b
  updated_fits purpose operator kind to k (InFrame x) code right c a b n h room =
      let new = operated operator (is_signed kind) (convert kind (Variable x)) right.value in
      let p : Valued = record { code = right.code; value = convert to new } in
      done rates callee purpose (set_to x code p) b
      (omega (arith, h, room, n (Variable x), operated_cost rates.leaf operator (is_signed kind) (convert kind (Variable x)) right.value, convert_cost rates.leaf to new, cost-joined rates callee code (joined right.code (alone (Set x (convert to new)))), cost-joined rates callee right.code (alone (Set x (convert to new)))))
  updated_fits purpose operator kind to k (InMemory array index) code right c a b n h room =
      let p : Valued = record { code = code; value = index } in
      let i = firm k p right.code in
      changed_fits purpose array k i (λ old. operated operator (is_signed kind) (convert kind old) right.value) (convert to) (expr_cost rates.leaf right.value + 1 + c) b
      (omega (arith, n (Element array i.value), operated_cost rates.leaf operator (is_signed kind) (convert kind (Element array i.value)) right.value)) (convert_cost rates.leaf to) (firm_leaf k p right.code) (omega (arith, h, room, firm_cost k p right.code))

  pub compound_fits : (purpose : Purpose) (operator : Operator) (kind to : CType) (k : ℕ) (target : Target) (code : Statements) (right : Valued) (a r b : ℕ) → cost_all rates callee code + target_cost rates.leaf target + rates.leaf + 5 ≤ a → code_cost rates callee right + expr_cost rates.leaf right.value + rates.leaf + 3 ≤ r → node + a + r ≤ b →
      DoneFor rates callee purpose (updated purpose operator kind to k target code right) b
  compound_fits purpose operator kind to k target code right a r b h g room = updated_fits purpose operator kind to k target code right 1 a b (convert_cost rates.leaf kind) h (omega (arith, g, room, covers.some))

  -- a promoted type is a whole word, to which there is no conversion
  no_conversion : (kind : CType) (e : Expr) → expr_cost rates.leaf (convert (promoted kind) e) ≤ expr_cost rates.leaf e + 0
  no_conversion types.Char e = omega arith
  no_conversion types.SignedChar e = omega arith
  no_conversion types.UnsignedChar e = omega arith
  no_conversion types.Short e = omega arith
  no_conversion types.UnsignedShort e = omega arith
  no_conversion types.Int e = omega arith
  no_conversion types.Unsigned e = omega arith
  no_conversion types.Long e = omega arith
  no_conversion types.UnsignedLong e = omega arith
  no_conversion types.Void e = omega arith

  by_one : (purpose : Purpose) (operator : Operator) (kind : CType) (k : ℕ) (target : Target) (code : Statements) (a b : ℕ) → cost_all rates callee code + target_cost rates.leaf target + rates.leaf + 5 ≤ a → node + a ≤ b → DoneFor rates callee purpose (updated purpose operator (promoted kind) kind k target code (known 1)) b
  by_one purpose operator kind k target code a b h room = updated_fits purpose operator (promoted kind) kind k target code (known 1) 0 a b (no_conversion kind) h (omega (arith, room, covers.some, covers.leaf))

  behind_cost : (operator : Operator) (kind : CType) (k : ℕ) (target : Target) (code : Statements) (a b : ℕ) → cost_all rates callee code + target_cost rates.leaf target + rates.leaf + 5 ≤ a → node + a ≤ b →
      code_cost rates callee (stepped_behind operator kind k target code) + expr_cost rates.leaf (stepped_behind operator kind k target code).value + rates.leaf + 4 ≤ b
  behind_cost operator kind k (InFrame x) code a b h room =
      let new = operated operator (is_signed (promoted kind)) (Variable k) (Constant 1) in
      omega (arith, h, room, covers.some, operated_cost rates.leaf operator (is_signed (promoted kind)) (Variable k) (Constant 1), convert_cost rates.leaf kind new, cost-joined rates callee code (Then (Set k (Variable x)) (alone (Set x (convert kind new)))))
  behind_cost operator kind k (InMemory array index) code a b h room =
      let p : Valued = record { code = code; value = index } in
      let i = firm k p End in
      let new = operated operator (is_signed (promoted kind)) (Variable (k + 1)) (Constant 1) in
      omega (arith, h, room, covers.some, covers.leaf, operated_cost rates.leaf operator (is_signed (promoted kind)) (Variable (k + 1)) (Constant 1), firm_cost k p End, firm_leaf k p End, cost-joined rates callee i.code (Then (Set (k + 1) (Element array i.value)) (alone (Keep array i.value new))))

  pub stepped_fits : (purpose : Purpose) (fix : Fix) (operator : Operator) (kind : CType) (k : ℕ) (target : Target) (code : Statements) (a b : ℕ) → cost_all rates callee code + target_cost rates.leaf target + rates.leaf + 5 ≤ a → node + a ≤ b → DoneFor rates callee purpose (stepped purpose fix operator kind k target code) b
  stepped_fits purpose Prefix operator kind k target code a b h room = by_one purpose operator kind k target code a b h room
  stepped_fits Effect Postfix operator kind k target code a b h room = by_one Effect operator kind k target code a b h room
  stepped_fits Value Postfix operator kind k target code a b h room = behind_cost operator kind k target code a b h room
  stepped_fits (Unless depth) Postfix operator kind k target code a b h room = behind_cost operator kind k target code a b h room
  stepped_fits (When depth) Postfix operator kind k target code a b h room = behind_cost operator kind k target code a b h room

  -- operators
  pub signed_fits : (operator : Sign) (purpose : Purpose) (p : Valued) (a b : ℕ) → a + 1 ≤ b → FitsFor rates callee (for_operand operator purpose) p a → FitsFor rates callee purpose (signed_for operator purpose p) b
  signed_fits operator purpose p a b le h = of operator purpose h
    where
      by_value : (operator : Sign) (purpose : Purpose) → FitsFor rates callee Value p a → FitsFor rates callee purpose (finished purpose (changed_by (signed operator) p)) b
      by_value operator purpose h = finished_fits rates callee purpose (changed_by (signed operator) p) b (done rates callee purpose (changed_by (signed operator) p) b (omega (arith, le, h, signed_cost rates.leaf operator p.value)))

      of : (operator : Sign) (purpose : Purpose) → FitsFor rates callee (for_operand operator purpose) p a → FitsFor rates callee purpose (signed_for operator purpose p) b
      of Not (Unless depth) h = omega (arith, le, h)
      of Not (When depth) h = omega (arith, le, h)
      of Not Value h = by_value Not Value h
      of Not Effect h = by_value Not Effect h
      of Negate purpose h = by_value Negate purpose h
      of Plus purpose h = by_value Plus purpose h
      of Complement purpose h = by_value Complement purpose h

  pub operate_fits : (purpose : Purpose) (operator : Operator) (kind : CType) (k : ℕ) (left right : Valued) (a r b : ℕ) → code_cost rates callee left + expr_cost rates.leaf left.value + rates.leaf + 3 ≤ a → code_cost rates callee right + expr_cost rates.leaf right.value + rates.leaf + 3 ≤ r → node + a + r ≤ b →
      DoneFor rates callee purpose (operated_on operator kind k left right) b
  operate_fits purpose operator kind k left right a r b h g room =
      let l = kept k left right.code in
      done rates callee purpose (operated_on operator kind k left right) b (omega (arith, h, g, room, covers.some, kept_cost k left right.code, operated_cost rates.leaf operator (is_signed kind) l.value right.value))

  -- choices
  pub choice_cost : (joint : Bool) (test : Valued) (jumps first other : Statements) (b : ℕ) → code_cost rates callee test + expr_cost rates.leaf test.value + cost_all rates callee first + cost_all rates callee other + 3 ≤ b → cost_all rates callee jumps + cost_all rates callee first + cost_all rates callee other + 5 ≤ b →
      cost_all rates callee (choice joint test jumps first other) ≤ b
  choice_cost false test jumps first other b h j = omega (arith, h, cost-joined rates callee test.code (alone (If test.value (Seq first) (Seq other))))
  choice_cost true test jumps first other b h j = omega (arith, j, cost-joined rates callee jumps (joined first (alone (Leave 1))), cost-joined rates callee first (alone (Leave 1)))
