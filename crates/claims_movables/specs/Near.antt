-- The arrays near x3 or beside x7 in the code over virtual registers: how often one instruction reaches them.
use Rattle.std.specs.Prelude.{ℕ, ◌+◌, ◌%◌, ◌^◌, List, [], ◌∷◌, if◌then◌else◌}
use Rattle.low_ir.specs.Code.{Base, Fixed, Through, Point, Load, Store, Instr, Do, Block, Note}
use Rattle.asm_program.specs.Frames.{Memory, object_at}
use Rattle.asm_program.specs.Numbers.{is_reached}

abbrev pub base_near : Memory → Base ℕ → ℕ → ℕ
base_near m (Fixed o) n = if is_reached m.second ((object_at m o + n) % 2 ^ 32) then 1 else 0
base_near m (Through r claim) n = 0

abbrev pub instr_near : Memory → Instr ℕ Note → ℕ
instr_near m (Do (Point d a)) = base_near m a.base a.displacement
instr_near m (Do (Load kind d a)) = base_near m a.base a.displacement
instr_near m (Do (Store kind a x)) = base_near m a.base a.displacement
instr_near m i = 0

abbrev pub code_near : Memory → List (Instr ℕ Note) → ℕ
code_near m [] = 0
code_near m (i ∷ is) = instr_near m i + code_near m is

abbrev pub blocks_near : Memory → List (Block ℕ Note) → ℕ
blocks_near m [] = 0
blocks_near m (b ∷ bs) = code_near m b.code + blocks_near m bs
