-- Types of the source as kinds of words.
use Rattle.std.proofs.Common.{◌≡◌, inl, inr, refl}
use Rattle.types_value.specs.Kinds.{common, joined, promoted}
use Rattle.types_value.specs.declared.kind.Kind.{Kind as CType}
use Rattle.types_value.specs.declared.kind.Kind.TheVariants.{Void, Char, SignedChar, UnsignedChar, Short, UnsignedShort, Int, Unsigned, Long, UnsignedLong}
use Rattle.types_value.specs.declared.operator.Operator.{Operator}
use Rattle.types_value.specs.declared.operator.Operator.TheVariants.{Multiply, Divide, Remainder, Add, Subtract, ShiftLeft, ShiftRight, Less, Greater, LessEqual, GreaterEqual, Equal, NotEqual, BitAnd, BitXor, BitOr}
use Rattle.types_value.specs.declared.operator.Sign.{Sign}
use Rattle.types_value.specs.declared.operator.Sign.TheVariants.{Negate, Plus, Complement, Not}
use Rattle.types_rules.specs.Operations.{constant_kind, sign_kind, value_kind}
use Rattle.types_rules.specs.Types.{conditional_kind, or_int}
use Rattle.c_tree.specs.declared.token.ConstantType.{ConstantType}
use Rattle.c_tree.specs.declared.token.ConstantType.TheVariants as constants
use Rattle.high_ir.specs.declared.object.Kind.{Kind}
use Rattle.high_ir.specs.declared.object.Kind.TheVariants.{Word}
use Rattle.plan_definition.specs.Operators.{kind_of}
use Rattle.plan_runs.specs.ExpressionFits.{Suits}

promoted_cases : (P : CType → Type 0) → P Int → P Unsigned → P Long → P UnsignedLong → (k : CType) → P (promoted k)
promoted_cases P i u l ul Void = i
promoted_cases P i u l ul Char = i
promoted_cases P i u l ul SignedChar = i
promoted_cases P i u l ul UnsignedChar = i
promoted_cases P i u l ul Short = i
promoted_cases P i u l ul UnsignedShort = i
promoted_cases P i u l ul Int = i
promoted_cases P i u l ul Unsigned = u
promoted_cases P i u l ul Long = l
promoted_cases P i u l ul UnsignedLong = ul

abbrev IsWord : CType → Type 0
IsWord k = kind_of k ≡ Word

pub promoted-Word : (k : CType) → IsWord (promoted k)
promoted-Word k = promoted_cases IsWord refl refl refl refl k

pub common-Word : (a b : CType) → IsWord (common a b)
common-Word a b = promoted_cases (λ x. IsWord (joined x (promoted b))) (promoted-Word b)
    (promoted_cases (λ y. IsWord (joined Unsigned y)) refl refl refl refl b)
    (promoted_cases (λ y. IsWord (joined Long y)) refl refl refl refl b)
    (promoted_cases (λ y. IsWord (joined UnsignedLong y)) refl refl refl refl b)
    a

pub value-Word : (operator : Operator) (a b : CType) → IsWord (value_kind operator a b)
value-Word Multiply a b = common-Word a b
value-Word Divide a b = common-Word a b
value-Word Remainder a b = common-Word a b
value-Word Add a b = common-Word a b
value-Word Subtract a b = common-Word a b
value-Word ShiftLeft a b = promoted-Word a
value-Word ShiftRight a b = promoted-Word a
value-Word Less a b = refl
value-Word Greater a b = refl
value-Word LessEqual a b = refl
value-Word GreaterEqual a b = refl
value-Word Equal a b = refl
value-Word NotEqual a b = refl
value-Word BitAnd a b = common-Word a b
value-Word BitXor a b = common-Word a b
value-Word BitOr a b = common-Word a b

pub sign-Word : (sign : Sign) (a : CType) → IsWord (sign_kind sign a)
sign-Word Not a = refl
sign-Word Negate a = promoted-Word a
sign-Word Plus a = promoted-Word a
sign-Word Complement a = promoted-Word a

pub constant-Word : (t : ConstantType) → IsWord (constant_kind t)
constant-Word constants.Int = refl
constant-Word constants.Long = refl
constant-Word constants.Unsigned = refl

conditional_cases : (P : CType → Type 0) (test first second : CType) → P Int → P Void → P (common first second) → P (conditional_kind test first second)
conditional_cases P Void first second i v c = i
conditional_cases P test Void Void i v c = v
conditional_cases P test first second i v c = c

pub conditional-Word : (test first second : CType) → IsWord (conditional_kind test first second)
conditional-Word test first second = conditional_cases IsWord test first second refl refl (common-Word first second)

-- no word has the type void, as none has a wider one
pub or_int-kind : (k : CType) → kind_of (or_int k) ≡ kind_of k
or_int-kind Void = refl
or_int-kind Char = refl
or_int-kind SignedChar = refl
or_int-kind UnsignedChar = refl
or_int-kind Short = refl
or_int-kind UnsignedShort = refl
or_int-kind Int = refl
or_int-kind Unsigned = refl
or_int-kind Long = refl
or_int-kind UnsignedLong = refl

pub suits_Word : (from : Kind) (k : CType) → IsWord k → Suits from (kind_of k)
suits_Word from k e = inl e

pub suits_itself : (from to : Kind) → to ≡ from → Suits from to
suits_itself from to e = inr e
