-- Sets of the registers that hold values: tables by register, and lists.
use Rattle.std.specs.Prelude.{ℕ, zero, suc, Bool, true, false, if◌then◌else◌, List, [], ◌∷◌, replicate, slice_index_or, slice_set}
use Rattle.low_ir.specs.Places.{machine_registers}

-- by register, whether it is in the set
abbrev pub Table : Type 0
Table = List Bool

abbrev pub no_registers : Table
no_registers = replicate machine_registers false

abbrev pub holds : Table → ℕ → Bool
holds t q = slice_index_or t q false

-- the set with these too
abbrev pub marked : Table → List ℕ → Table
marked t [] = t
marked t (q ∷ qs) = marked (slice_set t q true) qs

abbrev pub table_of : List ℕ → Table
table_of qs = marked no_registers qs

-- the numbers below n that pass a test, the highest first
abbrev pub chosen : (ℕ → Bool) → ℕ → List ℕ
chosen test zero = []
chosen test (suc n) = if test n then n ∷ chosen test n else chosen test n
