-- What expressions become: instructions, and then an operand. Registers from `t` on are free.
use Rattle.std.specs.Prelude.{ℕ, zero, suc, ◌+◌, ◌*◌, ◌%◌, ◌^◌, ◌==◌, ◌&&◌, Bool, true, false, nat_lt, if◌then◌else◌, List, [], ◌∷◌, ◌++◌, length, map, Option, Some, None, slice_get}
use Rattle.rv_core.specs.declared.row.Alu.TheVariants as alu
use Rattle.rv_core.specs.declared.row.Condition.{Condition}
use Rattle.rv_core.specs.declared.row.Condition.TheVariants as conditions
use Rattle.high_ir.specs.declared.object.Array.{Array}
use Rattle.high_ir.specs.declared.object.Base.{Base as HighBase}
use Rattle.high_ir.specs.declared.object.Base.TheVariants.{Object, Parameter}
use Rattle.high_ir.specs.declared.expression.UnaryOperator.{UnaryOperator}
use Rattle.high_ir.specs.declared.expression.UnaryOperator.TheVariants.{Negate, Complement, IsZero, Convert}
use Rattle.high_ir.specs.declared.expression.BinaryOperator.{BinaryOperator}
use Rattle.high_ir.specs.declared.expression.BinaryOperator.TheVariants.{Add, Subtract}
use Rattle.high_ir.specs.Tree as high
use Rattle.low_ir.specs.declared.object.Kind.{Kind}
use Rattle.low_ir.specs.Code.{Operand, Register, Constant, Base, Fixed, Through, Address, Set, Point, Load, Instr, Do, Note}
use Rattle.lower_definition.specs.Objects.{kind_of, scale_of}
use Rattle.lower_definition.specs.Operators.{Code, only, operate, negated, binary_code, binary_needs, unary_code, unary_needs, condition_of, inverse}

-- what a function's code goes by: how many variables it has, the claim of each of its array parameters, or none where no call passes
-- an array for it, how many arrays the program has, the functions in the order of the low program, and whether quotients may be
-- several instructions
pub record Scope : Type 0 where
  pub variables : ℕ
  pub claims : List (Option ℕ)
  pub objects : ℕ
  pub order : List ℕ
  pub shifts : Bool

-- the registers of a function: its variables, then the arrays that it takes, then those of its expressions
abbrev pub pointer : Scope → ℕ → ℕ
pointer scope j = scope.variables + j

abbrev pub first_free : Scope → ℕ
first_free scope = scope.variables + length scope.claims

-- instructions, and the next free register behind them
pub record Coded : Type 0 where
  pub code : Code
  pub free : ℕ

-- instructions, and the operand that then holds a value
pub record Valued : Type 0 where
  pub code : Code
  pub value : Operand ℕ
  pub free : ℕ

-- a register that holds a variable times 2^scale
pub record Share : Type 0 where
  pub variable : ℕ
  pub scale : ℕ
  pub register : ℕ

abbrev pub shared : List Share → ℕ → ℕ → Option ℕ
shared [] x k = None
shared (s ∷ ss) x k = if (s.variable == x) && (s.scale == k) then Some s.register else shared ss x k

-- an index as a value, and a constant that is added to it
pub record Index : Type 0 where
  pub part : Valued
  pub constant : ℕ

-- what an address has beside its base: bytes in a register, and a displacement
pub record Offset : Type 0 where
  pub code : Code
  pub register : Option ℕ
  pub displacement : ℕ
  pub free : ℕ

-- an expression: how its value is put into a register, and what it is as an index
pub record Forms : Type 0 where
  pub into : ℕ → ℕ → Coded
  pub index : ℕ → Index

-- no good run has a variable that isn't there
abbrev pub variable : Scope → ℕ → Operand ℕ
variable scope x = if nat_lt x scope.variables then Register x else Constant 0

-- an expression that needs no instruction
abbrev pub leaf : Scope → high.Expr → Option (Operand ℕ)
leaf scope (high.Constant w) = Some (Constant w)
leaf scope (high.Variable x) = Some (variable scope x)
leaf scope (high.Element array index) = None
leaf scope (high.Unary operator operand) = None
leaf scope (high.Binary operator left right) = None

abbrev pub in_register : ℕ → Coded → Valued
in_register d c = record { code = c.code; value = Register d; free = c.free }

-- a value as an operand: a leaf, or a register of its own
abbrev pub operand_by : Option (Operand ℕ) → (ℕ → ℕ → Coded) → ℕ → Valued
operand_by (Some x) into t = record { code = []; value = x; free = t }
operand_by None into t = in_register t (into t (suc t))

-- one instruction
abbrev pub coded : Instr ℕ Note → ℕ → Coded
coded i t = record { code = only i; free = t }

abbrev pub behind : Valued → Code → ℕ → Coded
behind v code free = record { code = v.code ++ code; free = free }

abbrev pub set_to : Operand ℕ → ℕ → ℕ → Coded
set_to x d t = coded (Do (Set d x)) t

abbrev pub unary_into : UnaryOperator → ℕ → Valued → Coded
unary_into operator d x = behind x (unary_code operator d x.free x.value) (x.free + unary_needs operator)

abbrev pub binary_into : Bool → BinaryOperator → ℕ → (left right : Valued) → Coded
binary_into shifts operator d left right = record { code = left.code ++ (right.code ++ binary_code shifts operator d right.free left.value right.value); free = right.free + binary_needs operator }

-- the registers of the right side are free behind the left one
abbrev pub sides_into : Bool → BinaryOperator → ℕ → Valued → (ℕ → Valued) → Coded
sides_into shifts operator d left right = binary_into shifts operator d left (right left.free)

-- an index whose constant part is 0
abbrev pub plain_index : Valued → Index
plain_index v = record { part = v; constant = 0 }

abbrev pub plus : Valued → Option (Operand ℕ) → Index → Index
plus v (Some (Constant w)) other = record { part = v; constant = w }
plus v (Some (Register r)) other = other
plus v None other = other

abbrev pub minus : Valued → Option (Operand ℕ) → Index → Index
minus v (Some (Constant w)) other = record { part = v; constant = negated w }
minus v (Some (Register r)) other = other
minus v None other = other

-- a sum or a difference of which one side is a constant
abbrev pub split : BinaryOperator → (left right : Option (Operand ℕ)) → (of_left of_right : Valued) → Index → Index
split Add left right of_left of_right whole = plus of_left right (plus of_right left whole)
split Subtract left right of_left of_right whole = minus of_left right whole
split other left right of_left of_right whole = whole

-- so many elements of 2^scale bytes
abbrev pub bytes : ℕ → ℕ → ℕ
bytes scale n = 2 ^ scale * n % 2 ^ 32

-- a register with the offset of an index in it: a shared one, or one of its own
abbrev pub scaled_by : Option ℕ → (scale r : ℕ) → Index → Offset
scaled_by (Some s) scale r i = record { code = i.part.code; register = Some s; displacement = bytes scale i.constant; free = i.part.free }
scaled_by None scale r i =
    record { code = i.part.code ++ only (operate alu.ShiftLeft i.part.free (Register r) (Constant scale)); register = Some i.part.free; displacement = bytes scale i.constant; free = suc i.part.free }

abbrev pub scaled : List Share → (scale r : ℕ) → Index → Offset
scaled shares zero r i = record { code = i.part.code; register = Some r; displacement = i.constant; free = i.part.free }
scaled shares (suc k) r i = scaled_by (shared shares r (suc k)) (suc k) r i

abbrev pub offset_by : List Share → ℕ → Operand ℕ → Index → Offset
offset_by shares scale (Constant w) i = record { code = i.part.code; register = None; displacement = bytes scale (w + i.constant); free = i.part.free }
offset_by shares scale (Register r) i = scaled shares scale r i

abbrev pub offset_of : List Share → ℕ → Index → Offset
offset_of shares scale i = offset_by shares scale i.part.value i

-- where an array begins; no good run accesses one that isn't there
abbrev pub through : ℕ → Option (Option ℕ) → Option (Base ℕ)
through r None = None
through r (Some None) = None
through r (Some (Some claim)) = Some (Through r claim)

abbrev pub base_of : Scope → HighBase → Option (Base ℕ)
base_of scope (Object o) = if nat_lt o scope.objects then Some (Fixed o) else None
base_of scope (Parameter j) = through (pointer scope j) (slice_get scope.claims j)

abbrev pub address : Base ℕ → Offset → Address ℕ
address b o = record { base = b; offset = o.register; displacement = o.displacement }

abbrev pub load_into : Kind → ℕ → Option (Base ℕ) → Offset → Coded
load_into kind d None o = set_to (Constant 0) d o.free
load_into kind d (Some b) o = record { code = o.code ++ only (Do (Load kind d (address b o))); free = o.free }

module _ (scope : Scope) (shares : List Share) where
  abbrev pub element_into : Array → ℕ → Index → Coded
  element_into array d i = load_into (kind_of array.kind) d (base_of scope array.base) (offset_of shares (scale_of array.kind) i)

  abbrev pub forms : high.Expr → Forms
  forms (high.Constant w) = record { into = set_to (Constant w); index = λ t. plain_index (record { code = []; value = Constant w; free = t }) }
  forms (high.Variable x) = record { into = set_to (variable scope x); index = λ t. plain_index (record { code = []; value = variable scope x; free = t }) }
  forms (high.Element array index) = record {
    into = λ d t. element_into array d ((forms index).index t);
    index = λ t. plain_index (in_register t (element_into array t ((forms index).index (suc t))));
  }
  forms (high.Unary operator operand) = record {
    into = λ d t. unary_into operator d (operand_by (leaf scope operand) (forms operand).into t);
    index = λ t. plain_index (in_register t (unary_into operator t (operand_by (leaf scope operand) (forms operand).into (suc t))));
  }
  forms (high.Binary operator left right) = record {
    into = λ d t. sides_into scope.shifts operator d (operand_by (leaf scope left) (forms left).into t) (operand_by (leaf scope right) (forms right).into);
    index = λ t. split operator (leaf scope left) (leaf scope right) (operand_by (leaf scope left) (forms left).into t) (operand_by (leaf scope right) (forms right).into t)
        (plain_index (in_register t (sides_into scope.shifts operator t (operand_by (leaf scope left) (forms left).into (suc t)) (operand_by (leaf scope right) (forms right).into))));
  }

  -- the value of an expression in the register d, or as an operand
  abbrev pub value_into : high.Expr → ℕ → ℕ → Coded
  value_into e d t = (forms e).into d t

  abbrev pub operand : high.Expr → ℕ → Valued
  operand e t = operand_by (leaf scope e) (forms e).into t

  abbrev pub index_of : high.Expr → ℕ → Index
  index_of e t = (forms e).index t

-- a test: instructions, and the branch that is taken where it isn't 0
pub record Tested : Type 0 where
  pub code : Code
  pub condition : Condition
  pub left : Operand ℕ
  pub right : Operand ℕ
  pub free : ℕ

-- a branch by any value
abbrev pub unless_zero : Valued → Tested
unless_zero v = record { code = v.code; condition = conditions.NotEqual; left = v.value; right = Constant 0; free = v.free }

abbrev pub inverted : Tested → Tested
inverted b = record { code = b.code; condition = inverse b.condition; left = b.left; right = b.right; free = b.free }

abbrev pub branch_by : Condition → (left right : Valued) → Tested
branch_by condition left right = record { code = left.code ++ right.code; condition = condition; left = left.value; right = right.value; free = right.free }

abbrev pub compared : Option Condition → Valued → (ℕ → Valued) → Valued → Tested
compared None left right whole = unless_zero whole
compared (Some condition) left right whole = branch_by condition left (right left.free)

abbrev pub negated_or : UnaryOperator → Tested → Tested → Tested
negated_or IsZero inner whole = inverted inner
negated_or Negate inner whole = whole
negated_or Complement inner whole = whole
negated_or (Convert kind) inner whole = whole

module _ (scope : Scope) (shares : List Share) where
  abbrev pub tested : high.Expr → ℕ → Tested
  tested (high.Constant w) t = unless_zero (operand scope shares (high.Constant w) t)
  tested (high.Variable x) t = unless_zero (operand scope shares (high.Variable x) t)
  tested (high.Element array index) t = unless_zero (operand scope shares (high.Element array index) t)
  tested (high.Unary operator e) t = negated_or operator (tested e t) (unless_zero (operand scope shares (high.Unary operator e) t))
  tested (high.Binary operator left right) t =
      compared (condition_of operator) (operand scope shares left t) (operand scope shares right) (operand scope shares (high.Binary operator left right) t)

-- values and arrays for a call
pub record Passing : Type 0 where
  pub code : Code
  pub arguments : List (Operand ℕ)
  pub free : ℕ

abbrev pub passed_before : Valued → Passing → Passing
passed_before v p = record { code = v.code ++ p.code; arguments = v.value ∷ p.arguments; free = p.free }

abbrev pub then_passed : Valued → (ℕ → Passing) → Passing
then_passed v rest = passed_before v (rest v.free)

-- a pointer to an array, or the one that was passed
abbrev pub passed_array : Scope → HighBase → ℕ → Valued
passed_array scope (Object o) t =
    if nat_lt o scope.objects then record { code = only (Do (Point t (record { base = Fixed o; offset = None; displacement = 0 }))); value = Register t; free = suc t } else record { code = []; value = Constant 0; free = t }
passed_array scope (Parameter j) t = record { code = []; value = if nat_lt j (length scope.claims) then Register (pointer scope j) else Constant 0; free = t }

abbrev pub arrays_passed : Scope → List HighBase → ℕ → Passing
arrays_passed scope [] t = record { code = []; arguments = []; free = t }
arrays_passed scope (b ∷ bs) t = then_passed (passed_array scope b t) (arrays_passed scope bs)

abbrev pub values_passed : Scope → List Share → List high.Expr → List HighBase → ℕ → Passing
values_passed scope shares [] arrays t = arrays_passed scope arrays t
values_passed scope shares (e ∷ es) arrays t = then_passed (operand scope shares e t) (values_passed scope shares es arrays)

-- a variable that is an index of elements of 2^scale bytes
pub record Scaled : Type 0 where
  pub variable : ℕ
  pub scale : ℕ

abbrev pub is_constant : Option (Operand ℕ) → Bool
is_constant (Some (Constant w)) = true
is_constant (Some (Register r)) = false
is_constant None = false

abbrev pub register_of : Option (Operand ℕ) → Option ℕ
register_of (Some (Register r)) = Some r
register_of (Some (Constant w)) = None
register_of None = None

-- the part of an index that is scaled, where it is a variable
abbrev pub split_register : BinaryOperator → (left right : Option (Operand ℕ)) → Option ℕ
split_register Add left right = if is_constant right then register_of left else if is_constant left then register_of right else None
split_register Subtract left right = if is_constant right then register_of left else None
split_register other left right = None

abbrev pub index_register : Scope → high.Expr → Option ℕ
index_register scope (high.Constant w) = None
index_register scope (high.Variable x) = register_of (leaf scope (high.Variable x))
index_register scope (high.Element array index) = None
index_register scope (high.Unary operator operand) = None
index_register scope (high.Binary operator left right) = split_register operator (leaf scope left) (leaf scope right)

abbrev pub scaled_as : ℕ → Option ℕ → List Scaled
scaled_as zero o = []
scaled_as (suc k) None = []
scaled_as (suc k) (Some x) = record { variable = x; scale = suc k } ∷ []

abbrev pub scaled_in : Scope → high.Expr → List Scaled
scaled_in scope (high.Constant w) = []
scaled_in scope (high.Variable x) = []
scaled_in scope (high.Element array index) = scaled_as (scale_of array.kind) (index_register scope index) ++ scaled_in scope index
scaled_in scope (high.Unary operator operand) = scaled_in scope operand
scaled_in scope (high.Binary operator left right) = scaled_in scope left ++ scaled_in scope right

abbrev pub scaled_in_all : Scope → List high.Expr → List Scaled
scaled_in_all scope [] = []
scaled_in_all scope (e ∷ es) = scaled_in scope e ++ scaled_in_all scope es

-- each has a register once
abbrev pub with_share : Option ℕ → Scaled → ℕ → List Share → List Share
with_share (Some r) x t shares = shares
with_share None x t shares = shares ++ record { variable = x.variable; scale = x.scale; register = t + length shares } ∷ []

abbrev pub shares_from : ℕ → List Share → List Scaled → List Share
shares_from t shares [] = shares
shares_from t shares (x ∷ xs) = shares_from t (with_share (shared shares x.variable x.scale) x t shares) xs

abbrev pub share_code : List Share → Code
share_code shares = map (λ s. operate alu.ShiftLeft s.register (Register s.variable) (Constant s.scale)) shares
