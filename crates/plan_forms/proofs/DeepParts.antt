-- The depth of pieces of code that are put together.
use Rattle.std.proofs.Common.{◌≡◌, ℕ, ◌+◌, ◌*◌, ◌≤◌, max, Bool, true, false, not, List, [], ◌∷◌, refl, arith}
use Rattle.std.proofs.lemmas.Bool.{false≢true}
use Rattle.types_value.specs.declared.kind.Kind.{Kind as CType}
use Rattle.types_value.specs.declared.operator.Operator.{Operator}
use Rattle.types_value.specs.declared.operator.Operator.TheVariants as operators
use Rattle.types_value.specs.declared.operator.Sign.{Sign}
use Rattle.types_value.specs.declared.operator.Sign.TheVariants as signs
use Rattle.high_ir.specs.declared.object.Base.{Base}
use Rattle.high_ir.specs.declared.object.Kind.{Kind}
use Rattle.high_ir.specs.declared.object.Kind.TheVariants.{Unsigned8, Signed8, Unsigned16, Signed16, Word}
use Rattle.high_ir.specs.Size.{depth, depth_all, expr_depth, greatest}
use Rattle.high_ir.specs.Tree.{Expr, Constant, Variable, Element, Unary, Binary, Statement, Set, If, Leave, Statements, End, Then}
use Rattle.high_code.specs.Code.{joined, alone, nothing}
use Rattle.plan_definition.specs.declared.purpose.Purpose.{Purpose}
use Rattle.plan_definition.specs.declared.purpose.Purpose.TheVariants.{Value, Effect, Unless, When}
use Rattle.plan_definition.specs.Homes.{Target, InFrame, InMemory}
use Rattle.plan_definition.specs.Operators.{convert, convert_to, kind_of, operated, signed}
use Rattle.plan_definition.specs.Statements.{last_in_block}
use Rattle.plan_definition.specs.Values.{Valued, finished, held, is_leaf, leaf}

-- code is at most so deep
abbrev pub Below : ℕ → Statements → Type 0
Below n code = depth_all code ≤ n

pub below_joined : (n : ℕ) (a b : Statements) → Below n a → Below n b → Below n (joined a b)
below_joined n End b h k = k
below_joined n (Then first rest) b h k = both n (depth first) (depth_all rest) (depth_all (joined rest b)) h (below_joined n rest b (later n (depth first) (depth_all rest) h) k)
  where
    later : (n x y : ℕ) → max x y ≤ n → y ≤ n
    later n x y le = omega (arith, le)

    both : (n x y z : ℕ) → max x y ≤ n → z ≤ n → max x z ≤ n
    both n x y z le more = omega (arith, le, more)

pub below_more : (m n : ℕ) (code : Statements) → m ≤ n → Below m code → Below n code
below_more m n code le h = omega (arith, le, h)

-- a leaf has one level
pub some_depth : (e : Expr) → 1 ≤ expr_depth e
some_depth (Constant word) = omega arith
some_depth (Variable x) = omega arith
some_depth (Element array index) = omega (arith, some_depth index)
some_depth (Unary operator operand) = omega (arith, some_depth operand)
some_depth (Binary operator left right) = omega arith

pub convert_depth : (to : CType) (e : Expr) → expr_depth (convert to e) ≤ expr_depth e + 1
convert_depth to e = of (kind_of to)
  where
    of : (kind : Kind) → expr_depth (convert_to kind e) ≤ expr_depth e + 1
    of Unsigned8 = omega arith
    of Signed8 = omega arith
    of Unsigned16 = omega arith
    of Signed16 = omega arith
    of Word = omega arith

pub signed_depth : (sign : Sign) (e : Expr) → expr_depth (signed sign e) ≤ expr_depth e + 1
signed_depth signs.Negate e = omega arith
signed_depth signs.Plus e = omega arith
signed_depth signs.Complement e = omega arith
signed_depth signs.Not e = omega arith

pub operated_depth : (operator : Operator) (s : Bool) (x y : Expr) → expr_depth (operated operator s x y) ≤ max (expr_depth x) (expr_depth y) + 1
operated_depth operators.Multiply s x y = omega arith
operated_depth operators.Divide true x y = omega arith
operated_depth operators.Divide false x y = omega arith
operated_depth operators.Remainder true x y = omega arith
operated_depth operators.Remainder false x y = omega arith
operated_depth operators.Add s x y = omega arith
operated_depth operators.Subtract s x y = omega arith
operated_depth operators.ShiftLeft s x y = omega arith
operated_depth operators.ShiftRight true x y = omega arith
operated_depth operators.ShiftRight false x y = omega arith
operated_depth operators.Less true x y = omega arith
operated_depth operators.Less false x y = omega arith
operated_depth operators.Greater true x y = omega arith
operated_depth operators.Greater false x y = omega arith
operated_depth operators.LessEqual true x y = omega arith
operated_depth operators.LessEqual false x y = omega arith
operated_depth operators.GreaterEqual true x y = omega arith
operated_depth operators.GreaterEqual false x y = omega arith
operated_depth operators.Equal s x y = omega arith
operated_depth operators.NotEqual s x y = omega arith
operated_depth operators.BitAnd s x y = omega arith
operated_depth operators.BitXor s x y = omega arith
operated_depth operators.BitOr s x y = omega arith

-- a value and its code: the code is at most twice as deep, and the value may be deeper by so much
pub record Sized (s n : ℕ) (p : Valued) : Type 0 where
  pub code : Below (2 * n) p.code
  pub value : expr_depth p.value ≤ s + n

-- code for a purpose, whose value counts where it is asked for
abbrev pub SizedFor : Purpose → (s n : ℕ) → Valued → Type 0
SizedFor Value s n p = Sized s n p
SizedFor Effect s n p = Below (2 * n) p.code
SizedFor (Unless depth) s n p = Below (2 * n) p.code
SizedFor (When depth) s n p = Below (2 * n) p.code

twice : (m n : ℕ) → m ≤ n → 2 * m ≤ 2 * n
twice m n le = omega (arith, le)

pub sized_more : (s r m n : ℕ) (p : Valued) → m ≤ n → s + m ≤ r + n → Sized s m p → Sized r n p
sized_more s r m n p le more h = record { code = below_more (2 * m) (2 * n) p.code (twice m n le) h.code; value = omega (arith, more, h.value) }

pub sized_for_more : (purpose : Purpose) (s r m n : ℕ) (p : Valued) → m ≤ n → s + m ≤ r + n → SizedFor purpose s m p → SizedFor purpose r n p
sized_for_more Value s r m n p le more h = sized_more s r m n p le more h
sized_for_more Effect s r m n p le more h = below_more (2 * m) (2 * n) p.code (twice m n le) h
sized_for_more (Unless depth) s r m n p le more h = below_more (2 * m) (2 * n) p.code (twice m n le) h
sized_for_more (When depth) s r m n p le more h = below_more (2 * m) (2 * n) p.code (twice m n le) h

-- a test with its two ways
jumping_below : (s n : ℕ) (p : Valued) (first other : Statement) → s ≤ 1 → 2 ≤ n → Sized s n p → depth first ≤ 1 → depth other ≤ 1 → Below (2 * n) (joined p.code (alone (If p.value first other)))
jumping_below s n p first other one two h a b = below_joined (2 * n) p.code (alone (If p.value first other)) h.code (test (expr_depth p.value) (depth first) (depth other) h.value a b)
  where
    test : (v x y : ℕ) → v ≤ s + n → x ≤ 1 → y ≤ 1 → max (max v (max x y) + 1) 0 ≤ 2 * n
    test v x y le a b = omega (arith, one, two, le, a, b)

pub finished_sized : (purpose : Purpose) (s n : ℕ) (p : Valued) → s ≤ 1 → 2 ≤ n → Sized s n p → SizedFor purpose s n (finished purpose p)
finished_sized Value s n p one two h = h
finished_sized Effect s n p one two h = h.code
finished_sized (Unless depth) s n p one two h = jumping_below s n p nothing (Leave depth) one two h leaf_level leaf_level
  where
    leaf_level : 1 ≤ 1
    leaf_level = omega arith
finished_sized (When depth) s n p one two h = jumping_below s n p (Leave depth) nothing one two h leaf_level leaf_level
  where
    leaf_level : 1 ≤ 1
    leaf_level = omega arith

-- a value in a temporary, where other code runs behind it
pub held_below : (needed : Bool) (k n : ℕ) (p : Valued) (after : Statements) → Below n p.code → expr_depth p.value + 1 ≤ n → Below n after → Below n (held needed k p after).code
held_below false k n p after a v b = below_joined n p.code after a b
held_below true k n p after a v b = below_joined n p.code (Then (Set k p.value) after) a (both (expr_depth p.value + 1) (depth_all after) v b)
  where
    both : (x y : ℕ) → x ≤ n → y ≤ n → max x y ≤ n
    both x y a b = omega (arith, a, b)

pub held_value : (needed : Bool) (k n : ℕ) (p : Valued) (after : Statements) → expr_depth p.value ≤ n → expr_depth (held needed k p after).value ≤ n
held_value false k n p after v = v
held_value true k n p after v = omega (arith, v, some_depth p.value)

-- a leaf has one level
pub leaf_value : (k : ℕ) (p : Valued) → expr_depth (leaf k p).value ≤ 1
leaf_value k p = of (is_leaf p.value) refl
  where
    of_leaf : (e : Expr) → is_leaf e ≡ true → expr_depth e ≤ 1
    of_leaf (Constant word) is = omega arith
    of_leaf (Variable x) is = omega arith
    of_leaf (Element array index) is = absurd (false≢true is)
    of_leaf (Unary operator operand) is = absurd (false≢true is)
    of_leaf (Binary operator left right) is = absurd (false≢true is)

    of : (b : Bool) → is_leaf p.value ≡ b → expr_depth (held (not b) k p End).value ≤ 1
    of true is = of_leaf p.value is
    of false is = omega arith

-- a block more around the last statement
pub last_below : (n : ℕ) (code : Statements) → Below n code → Below (n + 1) (last_in_block code)
last_below n End h = omega arith
last_below n (Then first End) h = omega (arith, h)
last_below n (Then first (Then second rest)) h = both (depth first) (depth_all (Then second rest)) (depth_all (last_in_block (Then second rest))) h (last_below n (Then second rest) (later (depth first) (depth_all (Then second rest)) h))
  where
    later : (x y : ℕ) → max x y ≤ n → y ≤ n
    later x y le = omega (arith, le)

    both : (x y z : ℕ) → max x y ≤ n → z ≤ n + 1 → max x z ≤ n + 1
    both x y z le more = omega (arith, le, more)

-- where a target is read
abbrev pub TargetBelow : ℕ → Target → Type 0
TargetBelow n (InFrame x) = 1 ≤ n
TargetBelow n (InMemory array index) = expr_depth index + 1 ≤ n

pub bases_greatest : (arrays : List Base) → greatest (λ b. 1) arrays ≤ 1
bases_greatest [] = omega arith
bases_greatest (b ∷ rest) = omega (arith, bases_greatest rest)
