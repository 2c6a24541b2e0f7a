-- The registers of the machine that a layout uses, and words and addresses in the immediates of instructions (RISC-V unprivileged manual 2.4, 2.6).
use Rattle.std.specs.Prelude.{ℕ, ◌+◌, ◌*◌, ◌/◌, ◌%◌, ◌^◌, ◌==◌, ◌&&◌, ◌||◌, ℤ, pos, ◌-ℤ◌, Bool, nat_lt, nat_le, if◌then◌else◌, List, [], ◌∷◌}
use Rattle.wcc_base.specs.Signs.{signed_of}
use Rattle.rv_core.specs.declared.op.Op.TheVariants.{Lw, Sw}
use Rattle.rv_core.specs.Instructions.{Instruction, instruction, addi, lui}
use Rattle.low_ir.specs.Places.{result_register}

-- x0 is zero, x1 the return address, x3 and x7 are the bases, x10 and x17 are those of environment calls, x5 and x6 are free for a
-- moment, and the other 24 hold values; so does x10, until the next call

abbrev pub link : ℕ
link = 1

abbrev pub base : ℕ
base = 3

-- for arrays that lie apart from what is near the first one
abbrev pub second_base : ℕ
second_base = 7

abbrev pub result : ℕ
result = 10

abbrev pub service : ℕ
service = 17

-- for an address or a left operand, and for what is added to it or a right one
abbrev pub first_free : ℕ
first_free = 5

abbrev pub second_free : ℕ
second_free = 6

-- the machine register of a number; x10 is that of 24, which is no other's
abbrev pub machine_register : ℕ → ℕ
machine_register q = if nat_lt q 2 then 2 * q + 2 else (if nat_lt q 4 then q + 6 else (if nat_lt q 10 then q + 7 else (if q == result_register then result else q + 8)))

-- RAM, and the address that x3 holds: what lies less than 2048 bytes from it is one instruction away
abbrev pub ram : ℕ
ram = 0x2000_0000

abbrev pub base_address : ℕ
base_address = ram + 2 ^ 11

abbrev pub is_near : ℕ → Bool
is_near a = nat_le ram a && nat_lt a (ram + 2 ^ 12)

-- what lies less than 2048 bytes from an address is one instruction away from it
abbrev pub is_beside : ℕ → ℕ → Bool
is_beside from a = nat_le from (a + 2 ^ 11) && nat_lt a (from + 2 ^ 11)

-- the parts of a word: one whose low 12 bits are 0, and one of 12 bits with a sign
abbrev pub upper_of : ℕ → ℕ
upper_of n = (n + 2 ^ 11) / 2 ^ 12 * 2 ^ 12 % 2 ^ 32

abbrev pub lower_of : ℕ → ℤ
lower_of n = pos ((n + 2 ^ 11) % 2 ^ 12) -ℤ pos (2 ^ 11)

abbrev pub load_upper : ℕ → ℕ → Instruction
load_upper r n = lui r (signed_of 32 (upper_of n))

-- the word is a number of 12 bits with a sign
abbrev pub is_short : ℕ → Bool
is_short n = upper_of n == 0

-- a word comes into a register
abbrev pub constant_code : ℕ → ℕ → List Instruction
constant_code r n =
    if is_short n then addi r 0 (lower_of n) ∷ []
    else (if n % 2 ^ 12 == 0 then load_upper r n ∷ [] else load_upper r n ∷ addi r r (lower_of n) ∷ [])

-- what leads to an address of memory: the register to which its low part is added, and that part
abbrev pub reach_code : ℕ → ℕ → List Instruction
reach_code t a = if is_near a then [] else load_upper t a ∷ []

abbrev pub reach_register : ℕ → ℕ → ℕ
reach_register t a = if is_near a then base else t

abbrev pub reach_offset : ℕ → ℤ
reach_offset a = if is_near a then pos a -ℤ pos base_address else lower_of a

-- the same for an address of an array, if x7 holds this address
abbrev pub is_reached : ℕ → ℕ → Bool
is_reached second a = is_beside second a || is_near a

abbrev pub object_code : ℕ → ℕ → ℕ → List Instruction
object_code second t a = if is_beside second a then [] else reach_code t a

abbrev pub object_register : ℕ → ℕ → ℕ → ℕ
object_register second t a = if is_beside second a then second_base else reach_register t a

abbrev pub object_offset : ℕ → ℕ → ℤ
object_offset second a = if is_beside second a then pos a -ℤ pos second else reach_offset a

abbrev pub load_word : ℕ → ℕ → ℤ → Instruction
load_word r from offset = instruction Lw r from 0 offset

abbrev pub store_word : ℕ → ℕ → ℤ → Instruction
store_word r to offset = instruction Sw 0 to r offset

-- a register comes into another one
abbrev pub move_code : ℕ → ℕ → List Instruction
move_code r from = if r == from then [] else addi r from (pos 0) ∷ []
