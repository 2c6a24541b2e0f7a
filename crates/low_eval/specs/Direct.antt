-- What an instruction does over a store of registers, from its operands without a list of their values.
use Rattle.std.specs.Prelude.{ℕ, ◌+◌, ◌%◌, ◌^◌, List, [], Option, Some, None, slice_index_or}
use Rattle.rv_core.specs.declared.row.Alu.{Alu}
use Rattle.rv_core.specs.Arithmetic.{alu_value}
use Rattle.low_ir.specs.declared.object.Kind.{Kind}
use Rattle.low_ir.specs.Code.{Operand, Base, Fixed, Through, Address, Plain, Set, Operate, Point, Load, Store, Put, Get}
use Rattle.low_ir.specs.declared.run.Value.{Value}
use Rattle.low_ir.specs.declared.run.Value.TheVariants.{Word, Pointer}
use Rattle.low_ir.specs.Effects.{World, Did, gives, changes, there, only_if, is_member, loaded, stored, with_objects, put, got, next_byte}
use Rattle.low_ir.specs.Runs.{Registers, operand_value}
use Rattle.low_eval.specs.declared.bank.Located.{Located}

abbrev pub word_of : Option Value → Option ℕ
word_of None = None
word_of (Some (Word w)) = Some w
word_of (Some (Pointer o n)) = None

abbrev pub pointer_within : List ℕ → Option Value → Option Located
pointer_within claim None = None
pointer_within claim (Some (Word w)) = None
pointer_within claim (Some (Pointer o n)) = only_if (is_member claim o) (Some (record { object = o; bytes = n }))

abbrev pub word_value : {R K S : Type 0} → Registers R K S → S → Operand R → Option ℕ
word_value a s x = word_of (operand_value a s x)

abbrev pub offset_value : {R K S : Type 0} → Registers R K S → S → Option R → Option ℕ
offset_value a s None = Some 0
offset_value a s (Some r) = word_of (a.read s r)

-- what an instruction does in a world, by its parts
abbrev pub operated : {R K S : Type 0} → Registers R K S → S → World → Alu → Operand R → Operand R → Option Did
operated a s u operator x y = there (word_value a s x) (λ m. there (word_value a s y) (λ n. gives u (Word (alu_value operator m n))))

abbrev pub wrote_byte : {R K S : Type 0} → Registers R K S → S → World → Operand R → Option Did
wrote_byte a s u x = there (word_value a s x) (λ w. changes (put u w))

module _ {R K S : Type 0} (a : Registers R K S) (claims : List (List ℕ)) (s : S) where
  abbrev pub base_value : Base R → Option Located
  base_value (Fixed o) = Some (record { object = o; bytes = 0 })
  base_value (Through r claim) = pointer_within (slice_index_or claims claim []) (a.read s r)

  abbrev pub address_value : Address R → Option Located
  address_value x = there (base_value x.base) (λ l. there (offset_value a s x.offset) (λ w. Some (record { object = l.object; bytes = (l.bytes + w + x.displacement) % 2 ^ 32 })))

  abbrev pub pointed : World → Address R → Option Did
  pointed u x = there (address_value x) (λ l. gives u (Pointer l.object l.bytes))

  abbrev pub loaded_from : World → Kind → Address R → Option Did
  loaded_from u kind x = there (address_value x) (λ l. there (loaded u.objects kind l.object l.bytes) (λ w. gives u (Word w)))

  -- what an instruction does in a world
  abbrev pub direct : World → Plain R → Option Did
  direct u (Set d x) = there (operand_value a s x) (gives u)
  direct u (Operate operator d x y) = operated a s u operator x y
  direct u (Point d x) = pointed u x
  direct u (Load kind d x) = loaded_from u kind x
  direct u (Store kind x y) = there (word_value a s y) (λ w. there (address_value x) (λ l. there (stored u.objects kind l.object l.bytes w) (λ objects. changes (with_objects u objects))))
  direct u (Put x) = wrote_byte a s u x
  direct u (Get d) = gives (got u) (Word (next_byte u.input))
