-- Programs over places, which stand for virtual registers, and their runs.
use Rattle.std.specs.Prelude.{ℕ, zero, suc, ◌+◌, ◌/◌, ◌%◌, ◌^◌, ◌==◌, Bool, true, false, if◌then◌else◌, nat_lt, List, [], ◌∷◌, length, map, Option, None, option_map, slice_index_or, slice_set, replicate}
use Rattle.std.specs.List.{range_with_len}
use Rattle.low_ir.specs.declared.places.Place.{Place}
use Rattle.low_ir.specs.declared.places.Place.TheVariants.{Register as InRegister, Slot}
use Rattle.low_ir.specs.declared.places.Placing as placings
use Rattle.low_ir.specs.Code.{Operand, Register, Constant, Base, Fixed, Through, Address, Plain, Set, Operate, Point, Load, Store, Put, Get, Instr, Do, Call, End, Jump, Branch, Return, Block, Function, Program, Note, Low}
use Rattle.low_ir.specs.declared.run.Value.{Value}
use Rattle.low_ir.specs.Effects.{is_served}
use Rattle.low_ir.specs.Runs.{Registers, Bank, Run, set_in, first, run}

-- how many machine registers can hold values over calls
abbrev pub machine_registers : ℕ
machine_registers = 24

-- the number of one more, the result register: in it values come from calls and from the environment, and go to both, so that it holds
-- a value between these alone
abbrev pub result_register : ℕ
result_register = machine_registers

-- a place that can hold a value over calls
abbrev pub is_lasting : Place → Bool
is_lasting (InRegister q) = nat_lt q machine_registers
is_lasting (Slot k) = true

-- the machine registers of an activation, and the slots of its frame
pub record File : Type 0 where
  pub registers : Bank
  pub slots : Bank

-- a program whose calls note the registers that they keep
abbrev pub Placed : Type 0
Placed = Program Place (List ℕ)

abbrev pub read_place : File → Place → Option Value
read_place s (InRegister q) = slice_index_or s.registers q None
read_place s (Slot k) = slice_index_or s.slots k None

abbrev pub with_registers : File → Bank → File
with_registers s bank = record { registers = bank; slots = s.slots }

abbrev pub with_slots : File → Bank → File
with_slots s bank = record { registers = s.registers; slots = bank }

abbrev pub write_place : File → Place → Value → Option File
write_place s (InRegister q) x = option_map (with_registers s) (set_in s.registers q x (nat_lt q (length s.registers)))
write_place s (Slot k) x = option_map (with_slots s) (set_in s.slots k x (nat_lt k (length s.slots)))

-- the result register unset where the environment was called
abbrev pub unset_if : Bool → File → File
unset_if false s = s
unset_if true s = with_registers s (slice_set s.registers result_register None)

-- the registers that are kept, all others unset
abbrev pub kept_of : List ℕ → Bank → Bank
kept_of [] s = replicate (length s) None
kept_of (q ∷ qs) s = slice_set (kept_of qs s) q (slice_index_or s q None)

-- the slots are all kept
abbrev pub places : Registers Place (List ℕ) File
places = record {
  read = read_place;
  write = write_place;
  leave = λ i s. unset_if (is_served i) s;
  keep = λ kept s. with_registers s (kept_of kept s.registers);
  empty = λ n. record { registers = replicate (suc result_register) None; slots = replicate n None };
}

-- by function: the place of each register, the registers that the call at a place of the code keeps, and the number of slots
pub record Assignment : Type 0 where
  pub place : ℕ → ℕ → Place
  pub kept : ℕ → ℕ → List ℕ
  pub slots : ℕ → ℕ

module _ (pl : ℕ → Place) where
  abbrev pub place_operand : Operand ℕ → Operand Place
  place_operand (Register r) = Register (pl r)
  place_operand (Constant w) = Constant w

  abbrev pub place_base : Base ℕ → Base Place
  place_base (Fixed o) = Fixed o
  place_base (Through r claim) = Through (pl r) claim

  abbrev pub place_address : Address ℕ → Address Place
  place_address a = record { base = place_base a.base; offset = option_map pl a.offset; displacement = a.displacement }

  abbrev pub place_plain : Plain ℕ → Plain Place
  place_plain (Set d x) = Set (pl d) (place_operand x)
  place_plain (Operate operator d x y) = Operate operator (pl d) (place_operand x) (place_operand y)
  place_plain (Point d a) = Point (pl d) (place_address a)
  place_plain (Load kind d a) = Load kind (pl d) (place_address a)
  place_plain (Store kind a x) = Store kind (place_address a) (place_operand x)
  place_plain (Put x) = Put (place_operand x)
  place_plain (Get d) = Get (pl d)

  abbrev pub place_end : End ℕ → End Place
  place_end (Jump b) = Jump b
  place_end (Branch c x y taken other) = Branch c (place_operand x) (place_operand y) taken other
  place_end (Return x) = Return (place_operand x)

  -- an instruction at the place p of its function
  module _ (kept : ℕ → List ℕ) where
    abbrev pub place_instr : ℕ → Instr ℕ Note → Instr Place (List ℕ)
    place_instr p (Do i) = Do (place_plain i)
    place_instr p (Call d f args note) = Call (option_map pl d) f (map place_operand args) (kept p)

    abbrev pub place_code : ℕ → List (Instr ℕ Note) → List (Instr Place (List ℕ))
    place_code p [] = []
    place_code p (i ∷ is) = place_instr p i ∷ place_code (suc p) is

    abbrev pub place_block : ℕ → Block ℕ Note → Block Place (List ℕ)
    place_block p b = record { mark = b.mark; code = place_code p b.code; end = place_end b.end }

    abbrev pub place_blocks : ℕ → List (Block ℕ Note) → List (Block Place (List ℕ))
    place_blocks p [] = []
    place_blocks p (b ∷ bs) = place_block p b ∷ place_blocks (p + suc (length b.code)) bs

abbrev pub place_function : Assignment → ℕ → Function ℕ Note → Function Place (List ℕ)
place_function a f fn =
    record { parameters = map (a.place f) fn.parameters; size = a.slots f; loops = fn.loops; blocks = place_blocks (a.place f) (a.kept f) 0 fn.blocks }

abbrev pub place_functions : Assignment → ℕ → List (Function ℕ Note) → List (Function Place (List ℕ))
place_functions a f [] = []
place_functions a f (fn ∷ fns) = place_function a f fn ∷ place_functions a (suc f) fns

-- a program over the places of its registers
abbrev pub placed : Assignment → Low → Placed
placed a p = record { functions = place_functions a 0 p.functions; claims = p.claims; objects = p.objects; main = p.main; marks = p.marks }

-- n steps of a program over places on an input
abbrev pub prun : Placed → List ℕ → ℕ → Run Place (List ℕ) File
prun p input n = run places p n (first places p input)

-- the assignment of one function as the code has it; what a call keeps is a mask of registers
pub record Placing : Type 0 where
  pub places : List Place
  pub kept : List ℕ
  pub slots : ℕ

abbrev pub placing_of : placings.Placing → Placing
placing_of p = record { places = p.places.items; kept = p.kept.items; slots = p.slots }

abbrev pub no_placing : Placing
no_placing = record { places = []; kept = []; slots = 0 }

-- the registers below n in a mask
abbrev pub registers_of : ℕ → ℕ → List ℕ
registers_of zero mask = []
registers_of (suc n) mask = if mask / 2 ^ n % 2 == 1 then n ∷ registers_of n mask else registers_of n mask

abbrev pub place_in : Placing → ℕ → Place
place_in p v = slice_index_or p.places v (Slot v)

abbrev pub kept_in : Placing → ℕ → List ℕ
kept_in p at = registers_of machine_registers (slice_index_or p.kept at 0)

abbrev pub assignment : List Placing → Assignment
assignment ps =
    record {
      place = λ f. place_in (slice_index_or ps f no_placing);
      kept = λ f. kept_in (slice_index_or ps f no_placing);
      slots = λ f. (slice_index_or ps f no_placing).slots;
    }

-- each register in a slot of its own
abbrev pub in_slots : Function ℕ Note → Placing
in_slots fn = record { places = map Slot (range_with_len 0 fn.size); kept = []; slots = fn.size }
