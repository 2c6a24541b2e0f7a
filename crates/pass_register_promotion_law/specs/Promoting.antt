-- Global scalars in registers of their own: a program in the low form whose functions have some of its scalars in registers, which are
-- loaded where a function begins and stored where it returns. What an instruction loads of such a scalar it reads from the register, and
-- what it stores to it it writes to the register.
use Rattle.std.specs.Prelude.{ℕ, suc, ◌+◌, ◌==◌, Bool, if◌then◌else◌, List, [], ◌∷◌, ◌++◌, length, map, Option, Some, None, slice_index_or}
use Rattle.rv_core.specs.declared.row.Alu.{Alu}
use Rattle.rv_core.specs.declared.row.Alu.TheVariants.{BitAnd, ShiftLeft, ShiftRight, ShiftRightSigned}
use Rattle.low_ir.specs.declared.object.Kind.{Kind}
use Rattle.low_ir.specs.declared.object.Kind.TheVariants.{Unsigned8, Signed8, Unsigned16, Signed16, Word}
use Rattle.low_ir.specs.Kinds.{converted}
use Rattle.low_ir.specs.Code.{Operand, Register, Constant, Base, Fixed, Through, Address, Set, Operate, Point, Load, Store, Put, Get, Instr, Do, Call, End, Jump, Branch, Return, Block, Function, Low, Note}
use Rattle.pass_constant_hoisting.specs.Holding.{opened}

-- a scalar that has a register in a function, its kind, and whether the function stores to it
pub record Resident : Type 0 where
  pub object : ℕ
  pub kind : Kind
  pub written : Bool

-- the register of an object, among registers from r on
abbrev pub register_of : ℕ → List Resident → ℕ → Option ℕ
register_of r [] o = None
register_of r (h ∷ hs) o = if h.object == o then Some r else register_of (suc r) hs o

-- the address of a scalar
abbrev pub scalar_address : ℕ → Address ℕ
scalar_address o = record { base = Fixed o; offset = None; displacement = 0 }

-- scalars are loaded into registers from r on
abbrev pub loads : ℕ → List Resident → List (Instr ℕ Note)
loads r [] = []
loads r (h ∷ hs) = Do (Load h.kind r (scalar_address h.object)) ∷ loads (suc r) hs

-- those that were written are stored from registers from r on
abbrev pub stores : ℕ → List Resident → List (Instr ℕ Note)
stores r [] = []
stores r (h ∷ hs) = if h.written then Do (Store h.kind (scalar_address h.object) (Register r)) ∷ stores (suc r) hs else stores (suc r) hs

-- the upper bits of a word are those that an element of fewer bits gives them
abbrev pub shifted : Alu → ℕ → ℕ → ℕ → List (Instr ℕ Note)
shifted back s r n = Do (Operate ShiftLeft s (Register r) (Constant n)) ∷ Do (Operate back s (Register s) (Constant n)) ∷ []

abbrev pub kept_by : Kind → ℕ → ℕ → List (Instr ℕ Note)
kept_by Unsigned8 s r = Do (Operate BitAnd s (Register r) (Constant 255)) ∷ []
kept_by Signed8 s r = shifted ShiftRightSigned s r 24
kept_by Unsigned16 s r = shifted ShiftRight s r 16
kept_by Signed16 s r = shifted ShiftRightSigned s r 16
kept_by Word s r = Do (Set s (Register r)) ∷ []

-- a register gets what an element of the kind keeps of a word
abbrev pub keeping : Kind → ℕ → Operand ℕ → List (Instr ℕ Note)
keeping kind s (Register r) = kept_by kind s r
keeping kind s (Constant w) = Do (Set s (Constant (converted kind w))) ∷ []

abbrev pub load_by : Option ℕ → Kind → ℕ → Address ℕ → List (Instr ℕ Note)
load_by None kind d a = Do (Load kind d a) ∷ []
load_by (Some s) kind d a = Do (Set d (Register s)) ∷ []

abbrev pub store_by : Option ℕ → Kind → Address ℕ → Operand ℕ → List (Instr ℕ Note)
store_by None kind a x = Do (Store kind a x) ∷ []
store_by (Some s) kind a x = keeping kind s x

-- code over scalars in registers from r on
module _ (r : ℕ) (hs : List Resident) where
  abbrev pub resident_at : Base ℕ → Option ℕ
  resident_at (Fixed o) = register_of r hs o
  resident_at (Through s claim) = None

  abbrev pub promoted_instr : Instr ℕ Note → List (Instr ℕ Note)
  promoted_instr (Do (Set d x)) = Do (Set d x) ∷ []
  promoted_instr (Do (Operate operator d x y)) = Do (Operate operator d x y) ∷ []
  promoted_instr (Do (Point d a)) = Do (Point d a) ∷ []
  promoted_instr (Do (Load kind d a)) = load_by (resident_at a.base) kind d a
  promoted_instr (Do (Store kind a x)) = store_by (resident_at a.base) kind a x
  promoted_instr (Do (Put x)) = Do (Put x) ∷ []
  promoted_instr (Do (Get d)) = Do (Get d) ∷ []
  promoted_instr (Call d f args note) = Call d f args note ∷ []

  abbrev pub promoted_code : List (Instr ℕ Note) → List (Instr ℕ Note)
  promoted_code [] = []
  promoted_code (i ∷ is) = promoted_instr i ++ promoted_code is

  -- what is done before a block ends
  abbrev pub closing : End ℕ → List (Instr ℕ Note)
  closing (Jump b) = []
  closing (Branch c x y taken other) = []
  closing (Return x) = stores r hs

  abbrev pub promoted_block : Block ℕ Note → Block ℕ Note
  promoted_block b = record { mark = b.mark; code = promoted_code b.code ++ closing b.end; end = b.end }

abbrev pub promoted_function : List Resident → Function ℕ Note → Function ℕ Note
promoted_function hs fn =
    record { parameters = fn.parameters; size = fn.size + length hs; loops = fn.loops; blocks = opened (loads fn.size hs) (map (promoted_block fn.size hs) fn.blocks) }

-- by function: its scalars
abbrev pub residents_at : List (List Resident) → ℕ → List Resident
residents_at hss f = slice_index_or hss f []

abbrev pub promoted_functions : List (List Resident) → ℕ → List (Function ℕ Note) → List (Function ℕ Note)
promoted_functions hss f [] = []
promoted_functions hss f (fn ∷ fns) = promoted_function (residents_at hss f) fn ∷ promoted_functions hss (suc f) fns

abbrev pub promoted_program : List (List Resident) → Low → Low
promoted_program hss q = record { functions = promoted_functions hss 0 q.functions; claims = q.claims; objects = q.objects; main = q.main; marks = q.marks }
