-- Functions that call no other.
use Rattle.std.specs.Prelude.{ℕ, Bool, true, false, ◌&&◌, List, [], ◌∷◌}
use Rattle.low_ir.specs.Code.{Instr, Do, Call, Block, Note}

abbrev pub calls_none : List (Instr ℕ Note) → Bool
calls_none [] = true
calls_none (Do i ∷ is) = calls_none is
calls_none (Call d f args note ∷ is) = false

abbrev pub all_call_none : List (Block ℕ Note) → Bool
all_call_none [] = true
all_call_none (b ∷ bs) = calls_none b.code && all_call_none bs
