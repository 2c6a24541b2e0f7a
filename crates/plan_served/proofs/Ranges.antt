-- The words of constants are of the kinds of their objects.
use Rattle.std.proofs.Common.{◌≡◌, inl, inr, ⊎_elim, refl, ap, ◌∙◌, subst, ℕ, zero, suc, Bool, true, false, List, [], ◌∷◌, ◌++◌, map, replicate, take, Option, Some, None}
use Rattle.std.specs.Prelude.{is_none, slice_index_or}
use Rattle.std.proofs.lemmas.Bool.{or_parts, true≢false}
use Rattle.std.proofs.lemmas.Option.{none-some, same_Some}
use Rattle.facts_definitions.specs.Starts.{word}
use Rattle.types_rules.specs.Constants.{binary_constant, constant_word, folded, of_one, signed_constant, word_in}
use Rattle.types_rules.specs.DeclarationRules.{any_not_constant, has_no_constant_value}
use Rattle.types_rules.specs.Operations.{sign_of}
use Rattle.types_rules.specs.Scope.{Around, in_block}
use Rattle.types_rules.specs.Specifiers.{are_wrong, kind_spelled}
use Rattle.types_rules.specs.Types.{binary_kind, cast_kind, kind_of, prefix_kind}
use Rattle.types_rules.specs.Typing.{typed_binary, typed_expr, typed_initial, typed_prefix, value_at, values_at}
use Rattle.types_rules.specs.declared.constant.Folded.{Folded}
use Rattle.c_tree.specs.Tree.{Expr, Number, Character, Name, Paren, Index, Call, Postfix, Prefix, Cast, Binary, Conditional, Assign, Exprs, NoExpr, AndExpr, Initial, Absent, Value, Listed}
use Rattle.c_tree.specs.declared.expression.BinaryOperator.{BinaryOperator}
use Rattle.c_tree.specs.declared.expression.BinaryOperator.TheVariants as binary
use Rattle.c_tree.specs.declared.expression.PrefixOperator.{PrefixOperator}
use Rattle.types_tree.specs.Tree as typed
use Rattle.types_value.specs.declared.kind.Kind.{Kind as CType}
use Rattle.types_value.specs.declared.operator.Operator.TheVariants as operators
use Rattle.types_value.specs.declared.operator.Sign.{Sign}
use Rattle.high_ir.specs.Words.{converted}
use Rattle.high_ir.specs.declared.object.Kind.{Kind}
use Rattle.high_ir.specs.declared.object.Kind.TheVariants.{Unsigned8, Signed8, Unsigned16, Signed16, Word}
use Rattle.plan_definition.specs.Layouts.{initial_words, word_or_zero, words_of}
use Rattle.plan_definition.specs.Operators as plan
use Rattle.plan_runs.specs.ExpressionFits.{Function, Signatures, Suits, range_of}
use Rattle.plan_runs.specs.Meets.{Layout}
use Rattle.plan_runs.proofs.Operators.{converted-Word}
use Rattle.plan_served.proofs.Expressions.{range_converted}
use Rattle.plan_served.proofs.Widths.{conditional-Word, constant-Word, sign-Word, value-Word}
use Rattle.plan_served.specs.Rows.{AreRanged, row_of}
use Rattle.plan_served.proofs.Constants.{constant_range}
use Rattle.plan_served.proofs.Forms.{one_part, value_form}
use Rattle.plan_served.proofs.FirstObjects.{AreConstant, IsConstantInitial}

pub suits_range : (from to : Kind) (w : ℕ) → Suits from to → converted from w ≡ w → converted to w ≡ w
suits_range from to w suits range = ⊎_elim
    (λ (e : to ≡ Word). ap (λ q. converted q w) e ∙ converted-Word w)
    (λ (e : to ≡ from). ap (λ q. converted q w) e ∙ range)
    suits

zero_ranged : (kind : Kind) → converted kind 0 ≡ 0
unfolding converted
zero_ranged Unsigned8 = refl
zero_ranged Signed8 = refl
zero_ranged Unsigned16 = refl
zero_ranged Signed16 = refl
zero_ranged Word = refl

-- each of these words is one of the kind
abbrev pub WordsRanged : Kind → List ℕ → Type 0
WordsRanged kind [] = Unit {0}
WordsRanged kind (w ∷ ws) = (converted kind w ≡ w) × WordsRanged kind ws

none_there : (i w : ℕ) → slice_index_or [] i None ≡ Some w → ⊥
none_there i w e = none-some w e

zeros_ranged : (kind : Kind) (m k i w : ℕ) → slice_index_or (take m (replicate k (Some 0))) i None ≡ Some w → converted kind w ≡ w
zeros_ranged kind zero k i w e = absurd (none-some w e)
zeros_ranged kind (suc m) zero i w e = absurd (none-some w e)
zeros_ranged kind (suc m) (suc k) zero w e = subst (λ v. converted kind v ≡ v) (same_Some 0 w e) (zero_ranged kind)
zeros_ranged kind (suc m) (suc k) (suc i) w e = zeros_ranged kind m k i w e

words_ranged : (kind : Kind) (ws : List ℕ) (m k i w : ℕ) → WordsRanged kind ws → slice_index_or (take m (map Some ws ++ replicate k (Some 0))) i None ≡ Some w → converted kind w ≡ w
words_ranged kind [] m k i w h e = zeros_ranged kind m k i w e
words_ranged kind (v ∷ ws) zero k i w h e = absurd (none-some w e)
words_ranged kind (v ∷ ws) (suc m) k zero w h e = subst (λ x. converted kind x ≡ x) (same_Some v w e) h.0
words_ranged kind (v ∷ ws) (suc m) k (suc i) w h e = words_ranged kind ws m k i w h.1 e

pub row_ranged : (kind : Kind) (ws : List ℕ) (size : ℕ) → WordsRanged kind ws → AreRanged kind (row_of ws size)
row_ranged kind ws size h = record { by = λ i w e. words_ranged kind ws size size i w h e }

pub same_words : (kind : Kind) (ws : List ℕ) → WordsRanged kind ws → map (λ v. Some (converted kind v)) ws ≡ map Some ws
same_words kind [] h = refl
same_words kind (w ∷ ws) h = ap (λ v. Some v ∷ map (λ v. Some (converted kind v)) ws) h.0 ∙ ap (λ l. Some w ∷ l) (same_words kind ws h.1)

module _ (layout : Layout) (signatures : Signatures) where
  prefix_suits : (sign : Option Sign) (operator : PrefixOperator) (kind : CType) (e : typed.Expr) (at : ℕ) (a k : Folded) → signed_constant sign a ≡ Some k → Suits (range_of layout signatures (typed_prefix sign operator kind e at)) (plan.kind_of (prefix_kind sign kind))
  prefix_suits None operator kind e at a k s = absurd (none-some k s)
  prefix_suits (Some sign) operator kind e at a k s = inl (sign-Word sign kind)

  cast_suits : (wrong : Bool) (to : CType) → Suits (plan.kind_of to) (plan.kind_of (cast_kind wrong to))
  cast_suits true to = inl refl
  cast_suits false to = inr refl

  binary_suits : (operator : BinaryOperator) (a b : CType) (left right : typed.Expr) (at : ℕ) (x y k : Folded) → binary_constant operator x y ≡ Some k → Suits (range_of layout signatures (typed_binary operator a b left right at)) (plan.kind_of (binary_kind operator a b))
  binary_suits binary.Multiply a b left right at x y k e = inl (value-Word operators.Multiply a b)
  binary_suits binary.Divide a b left right at x y k e = inl (value-Word operators.Divide a b)
  binary_suits binary.Remainder a b left right at x y k e = inl (value-Word operators.Remainder a b)
  binary_suits binary.Add a b left right at x y k e = inl (value-Word operators.Add a b)
  binary_suits binary.Subtract a b left right at x y k e = inl (value-Word operators.Subtract a b)
  binary_suits binary.ShiftLeft a b left right at x y k e = inl (value-Word operators.ShiftLeft a b)
  binary_suits binary.ShiftRight a b left right at x y k e = inl (value-Word operators.ShiftRight a b)
  binary_suits binary.Less a b left right at x y k e = inl (value-Word operators.Less a b)
  binary_suits binary.Greater a b left right at x y k e = inl (value-Word operators.Greater a b)
  binary_suits binary.LessEqual a b left right at x y k e = inl (value-Word operators.LessEqual a b)
  binary_suits binary.GreaterEqual a b left right at x y k e = inl (value-Word operators.GreaterEqual a b)
  binary_suits binary.Equal a b left right at x y k e = inl (value-Word operators.Equal a b)
  binary_suits binary.NotEqual a b left right at x y k e = inl (value-Word operators.NotEqual a b)
  binary_suits binary.BitAnd a b left right at x y k e = inl (value-Word operators.BitAnd a b)
  binary_suits binary.BitXor a b left right at x y k e = inl (value-Word operators.BitXor a b)
  binary_suits binary.BitOr a b left right at x y k e = inl (value-Word operators.BitOr a b)
  binary_suits binary.And a b left right at x y k e = inl refl
  binary_suits binary.Or a b left right at x y k e = inl refl
  binary_suits binary.Comma a b left right at x y k e = absurd (none-some k e)

  folded_suits : (e : Expr ℕ) (a : Around) (k : Folded) → folded e ≡ Some k → Suits (range_of layout signatures (typed_expr e false a)) (plan.kind_of (kind_of e a))
  folded_suits (Number constant at) a k e = inl (constant-Word constant.scalar)
  folded_suits (Character value at) a k e = inl refl
  folded_suits (Name name at) a k e = absurd (none-some k e)
  folded_suits (Paren inner at) a k e = folded_suits inner a k e
  folded_suits (Index array index at) a k e = absurd (none-some k e)
  folded_suits (Call function arguments at) a k e = absurd (none-some k e)
  folded_suits (Postfix operator operand at) a k e = absurd (none-some k e)
  folded_suits (Prefix operator operand at) a k e =
      one_part (Suits (range_of layout signatures (typed_prefix (sign_of operator) operator (kind_of operand a) (typed_expr operand false a) at)) (plan.kind_of (prefix_kind (sign_of operator) (kind_of operand a)))) (folded operand) (signed_constant (sign_of operator)) k e
      (λ x is s. prefix_suits (sign_of operator) operator (kind_of operand a) (typed_expr operand false a) at x k s)
  folded_suits (Cast specifiers operand at) a k e = cast_suits (are_wrong false (in_block a) specifiers) (kind_spelled specifiers)
  folded_suits (Binary operator left right at) a k e =
      let P = Suits (range_of layout signatures (typed_binary operator (kind_of left a) (kind_of right a) (typed_expr left false a) (typed_expr right false a) at)) (plan.kind_of (binary_kind operator (kind_of left a) (kind_of right a))) in
      one_part P (folded left) (λ x. of_one (folded right) (binary_constant operator x)) k e
      (λ x is_left s. one_part P (folded right) (binary_constant operator x) k s (λ y is_right r. binary_suits operator (kind_of left a) (kind_of right a) (typed_expr left false a) (typed_expr right false a) at x y k r))
  folded_suits (Conditional test first second at) a k e = inl (conditional-Word (kind_of test a) (kind_of first a) (kind_of second a))
  folded_suits (Assign operator target value at) a k e = absurd (none-some k e)

  -- any place of a function serves here: a constant has no names
  nowhere : Function
  nowhere = record { number = 0; live = λ o. false; variables = 0; callable = λ g. false }

  word_suits : (kind : CType) (e : Expr ℕ) (a : Around) (o : Option ℕ) → is_none (constant_word e) ≡ false → word (value_at kind e a) ≡ o → converted (plan.kind_of kind) (word_or_zero o) ≡ word_or_zero o
  word_suits kind e a None h is = zero_ranged (plan.kind_of kind)
  word_suits kind e a (Some w) h is = of (folded e) refl h
    where
      of : (o : Option Folded) → folded e ≡ o → is_none (word_in o) ≡ false → converted (plan.kind_of kind) w ≡ w
      of None f n = absurd (true≢false n)
      of (Some k) f n =
          suits_range (range_of layout signatures (value_at kind e a)) (plan.kind_of kind) w
          (range_converted layout signatures nowhere (kind_of e a) kind (typed_expr e false a) (folded_suits e a k f))
          (constant_range layout signatures (value_at kind e a) w (value_form kind e a h) is)

  values_suit : (kind : CType) (es : Exprs ℕ) (a : Around) (rest : typed.Exprs) → any_not_constant es ≡ false → WordsRanged (plan.kind_of kind) (words_of rest) → WordsRanged (plan.kind_of kind) (words_of (values_at kind es a rest))
  values_suit kind NoExpr a rest h r = r
  values_suit kind (AndExpr front last) a rest h r =
      let parts = or_parts (any_not_constant front) (is_none (constant_word last)) h in
      values_suit kind front a (typed.WithExpr (value_at kind last a) rest) parts.0 (word_suits kind last a (word (value_at kind last a)) parts.1 refl, r)

  pub initial_ranged : (kind : CType) (filling : Option ℕ) (initial : Initial ℕ) (a : Around) → has_no_constant_value initial ≡ false → WordsRanged (plan.kind_of kind) (initial_words (typed_initial kind filling initial a))
  initial_ranged kind filling Absent a h = tt
  initial_ranged kind filling (Value value) a h = (word_suits kind value a (word (value_at kind value a)) h refl, tt)
  initial_ranged kind filling (Listed values comma) a h = values_suit kind values a typed.NoExpr h tt

values_constant : (kind : CType) (es : Exprs ℕ) (a : Around) (rest : typed.Exprs) → any_not_constant es ≡ false → AreConstant rest → AreConstant (values_at kind es a rest)
values_constant kind NoExpr a rest h r = r
values_constant kind (AndExpr front last) a rest h r =
    let parts = or_parts (any_not_constant front) (is_none (constant_word last)) h in
    values_constant kind front a (typed.WithExpr (value_at kind last a) rest) parts.0 (value_form kind last a parts.1, r)

pub initial_constant : (kind : CType) (filling : Option ℕ) (initial : Initial ℕ) (a : Around) → has_no_constant_value initial ≡ false → IsConstantInitial (typed_initial kind filling initial a)
initial_constant kind filling Absent a h = tt
initial_constant kind filling (Value value) a h = value_form kind value a h
initial_constant kind filling (Listed values comma) a h = values_constant kind values a typed.NoExpr h tt
