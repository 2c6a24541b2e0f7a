-- Where a run stands, how its parts end, and what they do to its objects, input, output and counts.
use Rattle.std.specs.Prelude.{ℕ, zero, suc, ◌+◌, ◌-◌, ◌%◌, ◌^◌, Bool, true, false, nat_lt, if◌then◌else◌, List, [], ◌∷◌, ◌++◌, length, replicate, take, Option, Some, None, Result, Ok, Err, slice_get, slice_index_or, slice_set}
use Rattle.c_tree.specs.declared.expression.PostfixOperator.{PostfixOperator}
use Rattle.c_tree.specs.declared.expression.PostfixOperator.TheVariants.{Increment, Decrement}
use Rattle.types_value.specs.Kinds.{converted}
use Rattle.types_value.specs.Operators.{computed}
use Rattle.types_value.specs.declared.kind.Kind.{Kind}
use Rattle.types_value.specs.declared.operator.Operator.{Operator}
use Rattle.types_value.specs.declared.operator.Operator.TheVariants.{Add, Subtract}
use Rattle.types_value.specs.declared.operator.Undefined.{Undefined as Cause}
use Rattle.types_value.specs.declared.operator.Undefined.TheVariants.{Overflow, ZeroDivisor, Quotient, ShiftCount, LeftShift}
use Rattle.types_tree.specs.declared.expression.Fix.{Fix}
use Rattle.types_tree.specs.declared.expression.Fix.TheVariants.{Prefix, Postfix}
use Rattle.types_tree.specs.declared.variable.Extent.{Extent}
use Rattle.types_tree.specs.declared.variable.Extent.TheVariants.{Scalar, Array, Parameter}
use Rattle.types_tree.specs.declared.variable.Variable.{Variable}
use Rattle.meaning_semantics.specs.declared.outcome.Change.{Change}
use Rattle.meaning_semantics.specs.declared.outcome.Flow.{Flow}
use Rattle.meaning_semantics.specs.declared.outcome.Flow.TheVariants.{Onward}
use Rattle.meaning_semantics.specs.declared.outcome.Found.{Found}
use Rattle.meaning_semantics.specs.declared.outcome.Stop.{Stop}
use Rattle.meaning_semantics.specs.declared.outcome.Stop.TheVariants.{Undefined}

-- the elements of each object by its number, none where nothing was written yet; the input that is left; the output;
-- and how often each function and then each marker was reached
pub record State : Type 0 where
  pub objects : List (List (Option ℕ))
  pub input : List ℕ
  pub output : List ℕ
  pub counts : List ℕ

-- a part of a run ends with a value, or stops the run
pub data Outcome (A : Type 0) : Type 0 where
  Fine : (value : A) (st : State) → Outcome A
  Stopped : (stop : Stop) → Outcome A

-- goes on with what is fine
abbrev pub then_do : {A B : Type 0} → Outcome A → (A → State → Outcome B) → Outcome B
then_do (Fine a st) go = go a st
then_do (Stopped stop) go = Stopped stop

-- the outcome that an answer stands for, in the state behind it
abbrev pub outcome_of : {A : Type 0} → Result A Stop → State → Outcome A
outcome_of (Ok a) st = Fine a st
outcome_of (Err stop) st = Stopped stop

abbrev pub with_objects : State → List (List (Option ℕ)) → State
with_objects st objects = record { objects = objects; input = st.input; output = st.output; counts = st.counts }

abbrev pub with_input : State → List ℕ → State
with_input st input = record { objects = st.objects; input = input; output = st.output; counts = st.counts }

abbrev pub with_output : State → List ℕ → State
with_output st output = record { objects = st.objects; input = st.input; output = output; counts = st.counts }

abbrev pub with_counts : State → List ℕ → State
with_counts st counts = record { objects = st.objects; input = st.input; output = st.output; counts = counts }

-- an element, where it is there
abbrev pub element : Option (List (Option ℕ)) → (index : ℕ) → Option (Option ℕ)
element None index = None
element (Some elements) index = slice_get elements index

-- a read of what was never written is undefined (C11 6.3.2.1, 6.7.9)
abbrev pub held : Option (Option ℕ) → (at : ℕ) → State → Outcome ℕ
held None at st = Stopped (Undefined 0 at)
held (Some None) at st = Stopped (Undefined 7 at)
held (Some (Some word)) at st = Fine word st

abbrev pub read : Found → State → Outcome ℕ
read found st = held (element (slice_get st.objects found.object) found.index) found.at st

abbrev pub stored : Option (List (Option ℕ)) → (found : Found) → (word : ℕ) → State → Outcome ℕ
stored None found word st = Stopped (Undefined 0 found.at)
stored (Some elements) found word st =
    if nat_lt found.index (length elements)
    then Fine word (with_objects st (slice_set st.objects found.object (slice_set elements found.index (Some word))))
    else Stopped (Undefined 0 found.at)

-- writes a word, and gives it
abbrev pub write : Found → (word : ℕ) → State → Outcome ℕ
write found word st = stored (slice_get st.objects found.object) found word st

abbrev pub placed_in : Option (List (Option ℕ)) → Found → State → Outcome Found
placed_in None found st = Stopped (Undefined 0 found.at)
placed_in (Some elements) found st = if nat_lt found.index (length elements) then Fine found st else Stopped (Undefined 6 found.at)

-- an index outside the array is undefined (C11 6.5.6, paragraph 8)
abbrev pub placed : Found → State → Outcome Found
placed found st = placed_in (slice_get st.objects found.object) found st

abbrev pub at_place : ℕ → Found → Found
at_place at found = record { object = found.object; index = found.index; at = at }

-- an array parameter holds the number of the array that the call handed over
abbrev pub number_held : Extent → (array at : ℕ) → State → Outcome ℕ
number_held Scalar array at st = Fine array st
number_held (Array size) array at st = Fine array st
number_held Parameter array at st = read (record { object = array; index = 0; at = at }) st

abbrev pub number_by : Option Variable → (array at : ℕ) → State → Outcome ℕ
number_by None array at st = Stopped (Undefined 0 at)
number_by (Some variable) array at st = number_held variable.extent array at st

-- the number of the object that an array's name means
abbrev pub array_number : List Variable → (array at : ℕ) → State → Outcome ℕ
array_number variables array at st = number_by (slice_get variables array) array at st

-- the number of the rule that an operator breaks
abbrev pub rule_of : Cause → ℕ
rule_of Overflow = 1
rule_of ZeroDivisor = 2
rule_of Quotient = 3
rule_of ShiftCount = 4
rule_of LeftShift = 5

-- the value of an operator at a place
abbrev pub settled : Result ℕ Cause → (at : ℕ) → State → Outcome ℕ
settled (Ok word) at st = Fine word st
settled (Err cause) at st = Stopped (Undefined (rule_of cause) at)

-- reads an element, computes with a word at a type, converts to the element's type and writes (C11 6.5.16.2)
abbrev pub changed : Found → Operator → (kind to : Kind) → (word : ℕ) → State → Outcome Change
changed found operator kind to word st =
    then_do (read found st) (λ before st1.
    then_do (settled (computed operator kind (converted kind before) word) found.at st1) (λ result st2.
    then_do (write found (converted to result) st2) (λ behind st3. Fine (record { before = before; behind = behind }) st3)))

abbrev pub step_operator : PostfixOperator → Operator
step_operator Increment = Add
step_operator Decrement = Subtract

-- a step before its operand gives the new value, one behind it the old (C11 6.5.2.4, 6.5.3.1)
abbrev pub step_value : Fix → Change → ℕ
step_value Prefix change = change.behind
step_value Postfix change = change.before

-- the next byte of the input, or -1
abbrev pub next_byte : List ℕ → ℕ
next_byte [] = 2 ^ 32 - 1
next_byte (byte ∷ rest) = byte

abbrev pub after_byte : List ℕ → List ℕ
after_byte [] = []
after_byte (byte ∷ rest) = rest

abbrev pub got : State → Outcome ℕ
got st = Fine (next_byte st.input) (with_input st (after_byte st.input))

-- writes a word modulo 256, and gives that byte
abbrev pub put : ℕ → State → Outcome ℕ
put word st = Fine (word % 256) (with_output st (st.output ++ word % 256 ∷ []))

-- a function or marker is reached once more
abbrev pub counted : ℕ → State → State
counted number st = with_counts st (slice_set st.counts number (slice_index_or st.counts number 0 + 1))

abbrev pub unwritten_in : Option (List (Option ℕ)) → (object : ℕ) → State → State
unwritten_in None object st = st
unwritten_in (Some elements) object st = with_objects st (slice_set st.objects object (replicate (length elements) None))

-- an object holds nothing any more
abbrev pub unwritten : (object : ℕ) → State → State
unwritten object st = unwritten_in (slice_get st.objects object) object st

abbrev pub zeros_in : Option (List (Option ℕ)) → (object from : ℕ) → State → State
zeros_in None object from st = st
zeros_in (Some elements) object from st =
    with_objects st (slice_set st.objects object (take from elements ++ replicate (length elements - from) (Some 0)))

-- an object's elements from a number on are 0
abbrev pub zeros : (object from : ℕ) → State → State
zeros object from st = zeros_in (slice_get st.objects object) object from st

-- the value of a call that is used; a function may end without one (C11 6.9.1, paragraph 12)
abbrev pub needed : (used : Bool) → (at : ℕ) → Option ℕ → State → Outcome ℕ
needed used at (Some word) st = Fine word st
needed true at None st = Stopped (Undefined 8 at)
needed false at None st = Fine 0 st

-- the first where the word is not 0, and else the second
abbrev pub choose : {A : Type 0} → ℕ → A → A → A
choose zero first second = second
choose (suc n) first second = first

-- 1 for a word that is not 0
abbrev pub truth : ℕ → ℕ
truth zero = 0
truth (suc n) = 1

-- writes the words of a call into the parameters, whose objects follow each other
abbrev pub bound : (object at : ℕ) → List ℕ → State → Outcome Flow
bound object at [] st = Fine Onward st
bound object at (word ∷ words) st = then_do (write (record { object = object; index = 0; at = at }) word st) (λ written st1. bound (object + 1) at words st1)
