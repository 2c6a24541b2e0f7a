-- How often an entry of a loop starts, the last test among the starts, by the bounds of its body starts (C11 6.8.5).
use Rattle.std.specs.Prelude.{ℕ, ◌+◌, ◌==◌, max, Bool, true, false, not, ◌&&◌, ◌||◌, if◌then◌else◌, Option, Some, None, Result, Ok, Err}
use Rattle.facts_definitions.specs.declared.facts.Bounds.{Bounds}
use Rattle.facts_definitions.specs.declared.facts.Starts.{Starts}
use Rattle.types_value.specs.Kinds.{converted, is_void}
use Rattle.types_value.specs.Operators.{computed, signed_by}
use Rattle.types_value.specs.declared.operator.Undefined.{Undefined}
use Rattle.types_tree.specs.Tree.{Expr, Number, Character, Paren, Signed, Cast, Convert, Operate, And, Or, Conditional, Statement, Block, If, IfElse, While, Do, For, Switch, Break, Return, Items, NoItem, WithDeclaration, WithStatement, WithRestriction, WithLabel}

-- built of constants, casts and operators, without assignment, call or comma (C11 6.6)
abbrev pub is_constant : Expr → Bool
is_constant (Number constant at) = true
is_constant (Character value at) = true
is_constant (Paren inner at) = is_constant inner
is_constant (Signed operator kind operand at) = is_constant operand
is_constant (Cast specifiers to operand at) = not (is_void to) && is_constant operand
is_constant (Convert to operand) = is_constant operand
is_constant (Operate operator kind left right at) = is_constant left && is_constant right
is_constant (And left right at) = is_constant left && is_constant right
is_constant (Or left right at) = is_constant left && is_constant right
is_constant (Conditional test first second at) = is_constant test && (is_constant first && is_constant second)
is_constant _ = false

abbrev pub defined_word : Result ℕ Undefined → Option ℕ
defined_word (Ok word) = Some word
defined_word (Err cause) = None

abbrev pub with_word : Option ℕ → (ℕ → Option ℕ) → Option ℕ
with_word None f = None
with_word (Some word) f = f word

-- 1 for a word that isn't 0
abbrev pub truth_of : ℕ → Option ℕ
truth_of word = Some (if word == 0 then 0 else 1)

-- the word of a constant where its value is defined; only what decides has to have a value
abbrev pub word : Expr → Option ℕ
word (Number constant at) = Some constant.value
word (Character value at) = Some value
word (Paren inner at) = word inner
word (Signed operator kind operand at) = with_word (word operand) (λ x. defined_word (signed_by operator kind x))
word (Cast specifiers to operand at) = with_word (word operand) (λ x. Some (converted to x))
word (Convert to operand) = with_word (word operand) (λ x. Some (converted to x))
word (Operate operator kind left right at) = with_word (word left) (λ x. with_word (word right) (λ y. defined_word (computed operator kind x y)))
word (And left right at) = with_word (word left) (λ x. if x == 0 then Some 0 else with_word (word right) truth_of)
word (Or left right at) = with_word (word left) (λ x. if x == 0 then with_word (word right) truth_of else Some 1)
word (Conditional test first second at) = with_word (word test) (λ x. if x == 0 then word second else word first)
word _ = None

abbrev pub is_nonzero : Option ℕ → Bool
is_nonzero None = false
is_nonzero (Some word) = if word == 0 then false else true

-- a test that is a constant other than 0
abbrev pub is_always : Expr → Bool
is_always test = is_constant test && is_nonzero (word test)

-- a `for` without a test has the test 1
abbrev pub is_always_or_absent : Option Expr → Bool
is_always_or_absent None = true
is_always_or_absent (Some test) = is_always test

abbrev mutual
  -- whether a statement may leave a loop: by a `return`, or by a `break` that is the loop's own
  pub leaves : (own : Bool) → Statement → Bool
  leaves own (Block items at) = items_leave own items
  leaves own (If test first at) = leaves own first
  leaves own (IfElse test first second at) = leaves own first || leaves own second
  leaves own (While number bound test body at) = leaves false body
  leaves own (Do number bound body test at) = leaves false body
  leaves own (For number bound start test step body at) = leaves false body
  leaves own (Switch test items at) = items_leave false items
  leaves own (Break at) = own
  leaves own (Return value at) = true
  leaves own _ = false

  pub items_leave : (own : Bool) → Items → Bool
  items_leave own NoItem = false
  items_leave own (WithDeclaration declaration rest) = items_leave own rest
  items_leave own (WithStatement statement rest) = leaves own statement || items_leave own rest
  items_leave own (WithRestriction pragma rest) = items_leave own rest
  items_leave own (WithLabel label rest) = items_leave own rest

-- the last test is a start more, unless the loop is never left by its test
abbrev pub most_starts : (always : Bool) → (max : ℕ) → ℕ
most_starts true max = max
most_starts false max = max + 1

abbrev pub least_starts : (always left : Bool) → (min : ℕ) → ℕ
least_starts false false min = min + 1
least_starts _ _ min = max 1 min

abbrev pub starts_by : (always left : Bool) → Bounds → Starts
starts_by always left bounds = record { least = least_starts always left bounds.min; most = most_starts always bounds.max }

-- of a loop; the test of a `do` comes behind its body, and a filling of n elements has n and n
abbrev pub starts : Statement → Bounds → Starts
starts (While number bound test body at) bounds = starts_by (is_always test) (leaves true body) bounds
starts (Do number bound body test at) bounds = starts_by true (leaves true body) bounds
starts (For number bound start test step body at) bounds = starts_by (is_always_or_absent test) (leaves true body) bounds
starts _ bounds = record { least = bounds.min; most = bounds.max }
