-- Residents as the code has them.
use Rattle.std.specs.Prelude.{ℕ, Bool, false, List, [], ◌∷◌, map, Option, None, slice_index_or, Vec}
use Rattle.std.specs.Global.{Global}
use Rattle.low_ir.specs.Code.{Register, Set, Load, Store, Instr, Do, Note}
use Rattle.pass_register_promotion_law.specs.Promoting.{Resident, keeping, resident_at}
use Rattle.pass_register_promotion_law.specs.Suiting.{Table}
use Rattle.pass_register_promotion.specs.declared.residents.Resident as residents

abbrev pub resident_of : residents.Resident → Resident
resident_of r = record { object = r.object; kind = r.kind; written = r.written }

abbrev pub residents_of : List residents.Resident → List Resident
residents_of rs = map resident_of rs

abbrev pub of_function : Vec residents.Resident Global → List Resident
of_function rs = residents_of rs.items

-- the register that stands for what an instruction accesses
abbrev pub resident_in : ℕ → List Resident → Instr ℕ Note → Option ℕ
resident_in r hs (Do (Load kind d a)) = resident_at r hs a.base
resident_in r hs (Do (Store kind a x)) = resident_at r hs a.base
resident_in r hs i = None

-- what stands in the place of an access
abbrev pub instead : ℕ → Instr ℕ Note → List (Instr ℕ Note)
instead s (Do (Load kind d a)) = Do (Set d (Register s)) ∷ []
instead s (Do (Store kind a x)) = keeping kind s x
instead s i = []

-- what functions may touch, by object
abbrev pub Row : Type 0
Row = List Bool

abbrev pub told_in : Row → ℕ → Bool
told_in row o = slice_index_or row o false

abbrev pub row_of : Vec Bool Global → Row
row_of row = row.items

abbrev pub table_of : List Row → Table
table_of rows f o = told_in (slice_index_or rows f []) o
