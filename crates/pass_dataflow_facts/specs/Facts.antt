-- What facts say of the registers of a function.
use Rattle.std.specs.Prelude.{ℕ, ◌%◌, ◌^◌, ◌==◌, ◌&&◌, nat_lt, Bool, true, false, List, [], ◌∷◌, Option, Some, None, slice_index_or}
use Rattle.low_ir.specs.declared.run.Value.{Value}
use Rattle.low_ir.specs.declared.run.Value.TheVariants.{Word, Pointer}
use Rattle.low_ir.specs.Runs.{Bank}
use Rattle.pass_dataflow_facts.specs.declared.facts.Origin.{Origin}
use Rattle.pass_dataflow_facts.specs.declared.facts.Origin.TheVariants.{Any, Word as AnyWord, Small, Object}
use Rattle.pass_dataflow_facts.specs.declared.facts.Fact.{Fact}
use Rattle.pass_dataflow_facts.specs.Forms.{form_value}

-- a word, or how many bytes a pointer is behind the first of its array
abbrev pub number : Option Value → ℕ
number None = 0
number (Some (Word w)) = w
number (Some (Pointer o n)) = n

-- the numbers of the registers of a store
abbrev pub number_in : Bank → ℕ → ℕ
number_in s r = number (slice_index_or s r None)

abbrev pub is_from : Origin → Option Value → Bool
is_from Any v = true
is_from AnyWord None = false
is_from AnyWord (Some (Word w)) = true
is_from AnyWord (Some (Pointer o n)) = false
is_from Small None = false
is_from Small (Some (Word w)) = nat_lt w (2 ^ 32)
is_from Small (Some (Pointer o n)) = false
is_from (Object object) None = false
is_from (Object object) (Some (Word w)) = false
is_from (Object object) (Some (Pointer o n)) = o == object

abbrev pub is_true : Bank → Fact → Bool
is_true s f = is_from f.origin (slice_index_or s f.register None) && (number_in s f.register % 2 ^ 32 == form_value (number_in s) f.form % 2 ^ 32)

-- the stores in which all facts are true
abbrev pub all_true : List Fact → Bank → Bool
all_true [] s = true
all_true (f ∷ fs) s = is_true s f && all_true fs s
