-- What pieces of code and their values cost.
use Rattle.std.proofs.Common.{◌≡◌, ℕ, zero, suc, ◌+◌, ◌*◌, ◌≤◌, Bool, true, false, not, length, refl, arith}
use Rattle.std.specs.Prelude.{◌||◌}
use Rattle.std.proofs.lemmas.Bool.{false≢true}
use Rattle.types_value.specs.declared.kind.Kind.{Kind as CType}
use Rattle.types_value.specs.declared.operator.Operator.{Operator}
use Rattle.types_value.specs.declared.operator.Operator.TheVariants as operators
use Rattle.types_value.specs.declared.operator.Sign.{Sign}
use Rattle.types_value.specs.declared.operator.Sign.TheVariants as signs
use Rattle.high_ir.specs.declared.object.Kind.{Kind}
use Rattle.high_ir.specs.declared.object.Kind.TheVariants.{Unsigned8, Signed8, Unsigned16, Signed16, Word}
use Rattle.high_ir.specs.Tree.{Expr, Constant, Variable, Element, Unary, Binary, Set, If, Leave, Statements, End, Then}
use Rattle.high_code.specs.Code.{joined, alone, nothing}
use Rattle.plan_definition.specs.declared.home.Home.{Home}
use Rattle.plan_definition.specs.declared.home.Home.TheVariants.{Frame, Memory}
use Rattle.plan_definition.specs.declared.purpose.Purpose.{Purpose}
use Rattle.plan_definition.specs.declared.purpose.Purpose.TheVariants.{Value, Effect, Unless, When}
use Rattle.plan_definition.specs.Homes.{Target, InFrame, InMemory, loaded, scalar_at}
use Rattle.plan_definition.specs.Operators.{convert, convert_to, kind_of, operated, signed}
use Rattle.plan_definition.specs.Values.{Valued, Aimed, Passing, changed_by, finished, held, is_leaf, plain}
use Rattle.plan_forms.specs.Costs.{Rates, all_passed, cost, cost_all, expr_cost, exprs_cost}

-- values, where a leaf costs so much
module _ (leaf : ℕ) where
  convert_to_cost : (kind : Kind) (e : Expr) → expr_cost leaf (convert_to kind e) ≤ expr_cost leaf e + 1
  convert_to_cost Word e = omega arith
  convert_to_cost Unsigned8 e = omega arith
  convert_to_cost Signed8 e = omega arith
  convert_to_cost Unsigned16 e = omega arith
  convert_to_cost Signed16 e = omega arith

  pub convert_cost : (to : CType) (e : Expr) → expr_cost leaf (convert to e) ≤ expr_cost leaf e + 1
  convert_cost to e = convert_to_cost (kind_of to) e

  pub signed_cost : (operator : Sign) (e : Expr) → expr_cost leaf (signed operator e) ≤ expr_cost leaf e + 1
  signed_cost signs.Negate e = omega arith
  signed_cost signs.Plus e = omega arith
  signed_cost signs.Complement e = omega arith
  signed_cost signs.Not e = omega arith

  pub operated_cost : (operator : Operator) (s : Bool) (x y : Expr) → expr_cost leaf (operated operator s x y) ≤ expr_cost leaf x + expr_cost leaf y + 1
  operated_cost operators.Multiply s x y = omega arith
  operated_cost operators.Divide true x y = omega arith
  operated_cost operators.Divide false x y = omega arith
  operated_cost operators.Remainder true x y = omega arith
  operated_cost operators.Remainder false x y = omega arith
  operated_cost operators.Add s x y = omega arith
  operated_cost operators.Subtract s x y = omega arith
  operated_cost operators.ShiftLeft s x y = omega arith
  operated_cost operators.ShiftRight true x y = omega arith
  operated_cost operators.ShiftRight false x y = omega arith
  operated_cost operators.Less true x y = omega arith
  operated_cost operators.Less false x y = omega arith
  operated_cost operators.Greater true x y = omega arith
  operated_cost operators.Greater false x y = omega arith
  operated_cost operators.LessEqual true x y = omega arith
  operated_cost operators.LessEqual false x y = omega arith
  operated_cost operators.GreaterEqual true x y = omega arith
  operated_cost operators.GreaterEqual false x y = omega arith
  operated_cost operators.Equal s x y = omega arith
  operated_cost operators.NotEqual s x y = omega arith
  operated_cost operators.BitAnd s x y = omega arith
  operated_cost operators.BitXor s x y = omega arith
  operated_cost operators.BitOr s x y = omega arith

  leaf_cost : (e : Expr) → is_leaf e ≡ true → expr_cost leaf e ≤ leaf
  leaf_cost (Constant word) h = omega arith
  leaf_cost (Variable x) h = omega arith
  leaf_cost (Element array index) h = absurd (false≢true h)
  leaf_cost (Unary operator operand) h = absurd (false≢true h)
  leaf_cost (Binary operator left right) h = absurd (false≢true h)

  -- what is held unless it is a leaf is one afterwards
  pub leaf_value : (k : ℕ) (p : Valued) (after : Statements) → expr_cost leaf (held (not (is_leaf p.value)) k p after).value ≤ leaf
  leaf_value k p after = of (is_leaf p.value) refl
    where
      of : (b : Bool) → is_leaf p.value ≡ b → expr_cost leaf (held (not b) k p after).value ≤ leaf
      of true e = leaf_cost p.value e
      of false e = omega arith

  pub firm_value : (extra : Bool) (k : ℕ) (p : Valued) (after : Statements) → expr_cost leaf (held (not (is_leaf p.value) || extra) k p after).value ≤ leaf
  firm_value extra k p after = of (is_leaf p.value) extra refl
    where
      of : (b extra : Bool) → is_leaf p.value ≡ b → expr_cost leaf (held (not b || extra) k p after).value ≤ leaf
      of true true e = omega arith
      of true false e = leaf_cost p.value e
      of false extra e = omega arith

  -- a target, by its index
  abbrev pub target_cost : Target → ℕ
  target_cost (InFrame x) = 0
  target_cost (InMemory array index) = expr_cost leaf index

  pub scalar_cost : (home : Home) → target_cost (scalar_at home) ≤ leaf
  scalar_cost (Frame x) = omega arith
  scalar_cost (Memory array) = omega arith

  pub loaded_cost : leaf ≤ 1 → (target : Target) → expr_cost leaf (loaded target) ≤ target_cost target + 1
  loaded_cost le (InFrame x) = omega (arith, le)
  loaded_cost le (InMemory array index) = omega arith

pub passed_most : (rate n : ℕ) → rate ≤ 2 → all_passed rate n ≤ 2 * n
passed_most rate zero le = omega arith
passed_most rate (suc n) le = omega (arith, le, passed_most rate n le)

module _ (rates : Rates) (callee : ℕ → ℕ) where
  abbrev pub code_cost : Valued → ℕ
  code_cost p = cost_all rates callee p.code

  pub cost-joined : (a b : Statements) → cost_all rates callee (joined a b) ≡ cost_all rates callee a + cost_all rates callee b
  cost-joined End b = zero_plus (cost_all rates callee b)
    where
      zero_plus : (n : ℕ) → n ≡ 0 + n
      zero_plus n = omega arith
  cost-joined (Then first rest) b = more (cost rates callee first) (cost_all rates callee (joined rest b)) (cost_all rates callee rest) (cost_all rates callee b) (cost-joined rest b)
    where
      more : (f x y z : ℕ) → x ≡ y + z → f + x ≡ f + y + z
      more f x y z e = omega (arith, e)

  -- code and its value, for a purpose: a value counts where it is asked for
  abbrev pub FitsFor : Purpose → Valued → ℕ → Type 0
  FitsFor Value p b = code_cost p + expr_cost rates.leaf p.value + rates.leaf + 4 ≤ b
  FitsFor Effect p b = code_cost p + rates.leaf + 4 ≤ b
  FitsFor (Unless depth) p b = code_cost p + rates.leaf + 1 ≤ b
  FitsFor (When depth) p b = code_cost p + rates.leaf + 1 ≤ b

  -- the same before a test is made of a value
  abbrev pub DoneFor : Purpose → Valued → ℕ → Type 0
  DoneFor Value p b = code_cost p + expr_cost rates.leaf p.value + rates.leaf + 4 ≤ b
  DoneFor Effect p b = code_cost p + rates.leaf + 4 ≤ b
  DoneFor (Unless depth) p b = code_cost p + expr_cost rates.leaf p.value + rates.leaf + 4 ≤ b
  DoneFor (When depth) p b = code_cost p + expr_cost rates.leaf p.value + rates.leaf + 4 ≤ b

  pub done : (purpose : Purpose) (p : Valued) (b : ℕ) → code_cost p + expr_cost rates.leaf p.value + rates.leaf + 4 ≤ b → DoneFor purpose p b
  done Value p b h = h
  done Effect p b h = omega (arith, h)
  done (Unless depth) p b h = h
  done (When depth) p b h = h

  pub finished_fits : (purpose : Purpose) (p : Valued) (b : ℕ) → DoneFor purpose p b → FitsFor purpose (finished purpose p) b
  finished_fits Value p b h = h
  finished_fits Effect p b h = h
  finished_fits (Unless depth) p b h = omega (arith, cost-joined p.code (alone (If p.value nothing (Leave depth))), h)
  finished_fits (When depth) p b h = omega (arith, cost-joined p.code (alone (If p.value (Leave depth) nothing)), h)

  pub wider : (purpose : Purpose) (p : Valued) (a b : ℕ) → a ≤ b → FitsFor purpose p a → FitsFor purpose p b
  wider Value p a b le h = omega (arith, le, h)
  wider Effect p a b le h = omega (arith, le, h)
  wider (Unless depth) p a b le h = omega (arith, le, h)
  wider (When depth) p a b le h = omega (arith, le, h)

  -- a value that may be held in a temporary
  pub held_cost : (needed : Bool) (k : ℕ) (p : Valued) (after : Statements) → code_cost (held needed k p after) + expr_cost rates.leaf (held needed k p after).value ≤ code_cost p + expr_cost rates.leaf p.value + cost_all rates callee after + 1 + rates.leaf
  held_cost false k p after = omega (arith, cost-joined p.code after)
  held_cost true k p after = omega (arith, cost-joined p.code (Then (Set k p.value) after))

  -- a conversion
  pub convert_fits : (purpose : Purpose) (to : CType) (p : Valued) (a b : ℕ) → a + 1 ≤ b → FitsFor (plain purpose) p a → FitsFor purpose (finished purpose (changed_by (convert to) p)) b
  convert_fits Value to p a b le h = omega (arith, le, h, convert_cost rates.leaf to p.value)
  convert_fits Effect to p a b le h = omega (arith, le, h)
  convert_fits (Unless depth) to p a b le h = finished_fits (Unless depth) (changed_by (convert to) p) b (omega (arith, le, h, convert_cost rates.leaf to p.value))
  convert_fits (When depth) to p a b le h = finished_fits (When depth) (changed_by (convert to) p) b (omega (arith, le, h, convert_cost rates.leaf to p.value))

  -- a place, and the code of arguments
  abbrev pub AimedFits : Aimed → ℕ → Type 0
  AimedFits p b = cost_all rates callee p.code + target_cost rates.leaf p.target + rates.leaf + 5 ≤ b

  abbrev pub PassingFits : Passing → ℕ → Type 0
  PassingFits p b = cost_all rates callee p.code + exprs_cost rates.leaf p.values + length p.arrays + 2 * length p.values + 2 * length p.arrays ≤ b
