-- The instructions that give what facts speak of.
use Rattle.std.proofs.Common.{◌≡◌, ◌≤◌, ℕ, None, Option, Some, refl, arith}
use Rattle.low_ir.specs.Code.{Base, Do, Fixed, Note, Register, Set, Through}
use Rattle.low_ir.specs.Effects.{dest}
use Rattle.low_ir.specs.Formed.{written_by}
use Rattle.low_ir.specs.Room.{access_room, instr_room}
use Rattle.pass_common_subexpressions_law.specs.Facts.{Loads, Computes, Source, giving}

pub dest_giving : (d : ℕ) (from : Source) → dest (giving d from) ≡ Some d
dest_giving d (Loads kind a) = refl
dest_giving d (Computes operator x y) = refl

pub written_giving : (d : ℕ) (from : Source) → written_by {K = Note} (Do (giving d from)) ≡ Some d
written_giving d (Loads kind a) = refl
written_giving d (Computes operator x y) = refl

access_some : (base : Base ℕ) (offset : Option ℕ) (n : ℕ) → 1 ≤ access_room base offset n
access_some (Fixed o) None n = omega arith
access_some (Fixed o) (Some r) n = omega arith
access_some (Through r claim) offset n = omega arith

-- a copy takes no more room
pub giving_room : (d r : ℕ) (from : Source) → instr_room {R = ℕ} {K = Note} (Do (Set d (Register r))) ≤ instr_room {R = ℕ} {K = Note} (Do (giving d from))
giving_room d r (Loads kind a) = let k = access_some a.base a.offset a.displacement in omega arith
giving_room d r (Computes operator x y) = omega arith
