-- Words in registers of their own: a program in the low form whose functions have some of their constants in registers, which are
-- filled where a function begins. An instruction reads such a register where it can't have the constant in itself.
use Rattle.std.specs.Prelude.{ℕ, suc, ◌+◌, ◌*◌, ◌==◌, Bool, true, false, if◌then◌else◌, List, [], ◌∷◌, ◌++◌, length, map, take, Option, Some, None, slice_index_or}
use Rattle.rv_core.specs.declared.row.Alu.{Alu}
use Rattle.rv_core.specs.declared.row.Alu.TheVariants.{Sum, Difference, ShiftLeft, IsLess, IsLessUnsigned, BitXor, ShiftRight, ShiftRightSigned, BitOr, BitAnd, Product, HighProduct, HighProductMixed, HighProductUnsigned, Quotient, QuotientUnsigned, Remainder, RemainderUnsigned}
use Rattle.low_ir.specs.Code.{Operand, Register, Constant, Plain, Set, Operate, Point, Load, Store, Put, Get, Instr, Do, Call, End, Jump, Branch, Return, Block, Function, Low, Note}
use Rattle.low_ir.specs.Room.{is_near}

-- the register of a word, among registers from r on
abbrev pub register_of : ℕ → List ℕ → ℕ → Option ℕ
register_of r [] w = None
register_of r (v ∷ vs) w = if v == w then Some r else register_of (suc r) vs w

abbrev pub by_register : Option ℕ → ℕ → Operand ℕ
by_register None w = Constant w
by_register (Some r) w = Register r

-- whether an instruction has a word in itself, as the right operand of an operator
abbrev pub has_in_itself : Alu → ℕ → Bool
has_in_itself Sum w = is_near w
has_in_itself IsLess w = is_near w
has_in_itself IsLessUnsigned w = is_near w
has_in_itself BitXor w = is_near w
has_in_itself BitOr w = is_near w
has_in_itself BitAnd w = is_near w
has_in_itself ShiftLeft w = true
has_in_itself ShiftRight w = true
has_in_itself ShiftRightSigned w = true
has_in_itself Difference w = false
has_in_itself Product w = false
has_in_itself HighProduct w = false
has_in_itself HighProductMixed w = false
has_in_itself HighProductUnsigned w = false
has_in_itself Quotient w = false
has_in_itself QuotientUnsigned w = false
has_in_itself Remainder w = false
has_in_itself RemainderUnsigned w = false

-- code over words in registers from r on
module _ (r : ℕ) (ws : List ℕ) where
  abbrev pub held : Operand ℕ → Operand ℕ
  held (Register s) = Register s
  held (Constant w) = by_register (register_of r ws w) w

  abbrev pub held_right : Alu → Operand ℕ → Operand ℕ
  held_right operator (Register s) = Register s
  held_right operator (Constant w) = if has_in_itself operator w then Constant w else held (Constant w)

  abbrev pub held_plain : Plain ℕ → Plain ℕ
  held_plain (Set d x) = Set d x
  held_plain (Operate operator d x y) = Operate operator d (held x) (held_right operator y)
  held_plain (Point d a) = Point d a
  held_plain (Load kind d a) = Load kind d a
  held_plain (Store kind a x) = Store kind a (held x)
  held_plain (Put x) = Put x
  held_plain (Get d) = Get d

  abbrev pub held_instr : Instr ℕ Note → Instr ℕ Note
  held_instr (Do i) = Do (held_plain i)
  held_instr (Call d f args note) = Call d f args note

  abbrev pub held_end : End ℕ → End ℕ
  held_end (Jump b) = Jump b
  held_end (Branch c x y taken other) = Branch c (held x) (held y) taken other
  held_end (Return x) = Return x

  abbrev pub held_block : Block ℕ Note → Block ℕ Note
  held_block b = record { mark = b.mark; code = map held_instr b.code; end = held_end b.end }

-- words are put into registers from r on
abbrev pub fills : ℕ → List ℕ → List (Instr ℕ Note)
fills r [] = []
fills r (w ∷ ws) = Do (Set r (Constant w)) ∷ fills (suc r) ws

-- instructions before those of the first block
abbrev pub opened : List (Instr ℕ Note) → List (Block ℕ Note) → List (Block ℕ Note)
opened code [] = []
opened code (b ∷ bs) = record { mark = b.mark; code = code ++ b.code; end = b.end } ∷ bs

-- a function has at most two words for each of its loops
abbrev pub words_in : List ℕ → Function ℕ Note → List ℕ
words_in ws fn = take (2 * length fn.loops) ws

abbrev pub holding : List ℕ → Function ℕ Note → Function ℕ Note
holding ws fn =
    record { parameters = fn.parameters; size = fn.size + length ws; loops = fn.loops; blocks = opened (fills fn.size ws) (map (held_block fn.size ws) fn.blocks) }

abbrev pub held_function : List ℕ → Function ℕ Note → Function ℕ Note
held_function ws fn = holding (words_in ws fn) fn

-- by function: its words
abbrev pub words_at : List (List ℕ) → ℕ → List ℕ
words_at wss f = slice_index_or wss f []

abbrev pub held_functions : List (List ℕ) → ℕ → List (Function ℕ Note) → List (Function ℕ Note)
held_functions wss f [] = []
held_functions wss f (fn ∷ fns) = held_function (words_at wss f) fn ∷ held_functions wss (suc f) fns

abbrev pub held_program : List (List ℕ) → Low → Low
held_program wss q = record { functions = held_functions wss 0 q.functions; claims = q.claims; objects = q.objects; main = q.main; marks = q.marks }
