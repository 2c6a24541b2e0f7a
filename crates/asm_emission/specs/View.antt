-- Operands and addresses of the code over places.
use Rattle.std.specs.Prelude.{ℕ, List, slice_index_or}
use Rattle.low_ir.specs.declared.places.Place.{Place}
use Rattle.low_ir.specs.declared.places.Place.TheVariants.{Slot}
use Rattle.low_ir.specs.Code.{Operand, Register, Constant, Base, Fixed, Through, Address, Plain, Set, Operate, Point, Load, Store, Put, Get}
use Rattle.asm_emission.specs.declared.placed.PlacedOperand.{PlacedOperand}
use Rattle.asm_emission.specs.declared.placed.PlacedOperand.TheVariants as operands
use Rattle.asm_emission.specs.declared.placed.PlacedBase.{PlacedBase}
use Rattle.asm_emission.specs.declared.placed.PlacedBase.TheVariants as bases
use Rattle.asm_emission.specs.declared.placed.PlacedAddress as addresses
use Rattle.asm_emission.specs.declared.placed.PlacedPlain.{PlacedPlain}
use Rattle.asm_emission.specs.declared.placed.PlacedPlain.TheVariants as plains

-- the place of a register, by the list of places of its function
abbrev pub place_at : List Place → ℕ → Place
place_at places r = slice_index_or places r (Slot r)

abbrev pub operand_of : PlacedOperand → Operand Place
operand_of (operands.At place) = Register place
operand_of (operands.Constant word) = Constant word

abbrev pub base_of : PlacedBase → Base Place
base_of (bases.Object object) = Fixed object
base_of (bases.Pointer place claim) = Through place claim

abbrev pub address_of : addresses.PlacedAddress → Address Place
address_of a = record { base = base_of a.base; offset = a.offset; displacement = a.displacement }

abbrev pub plain_of : PlacedPlain → Plain Place
plain_of (plains.Set into value) = Set into (operand_of value)
plain_of (plains.Operate operator into left right) = Operate operator into (operand_of left) (operand_of right)
plain_of (plains.Point into address) = Point into (address_of address)
plain_of (plains.Load kind into address) = Load kind into (address_of address)
plain_of (plains.Store kind address value) = Store kind (address_of address) (operand_of value)
plain_of (plains.Put value) = Put (operand_of value)
plain_of (plains.Get into) = Get into
