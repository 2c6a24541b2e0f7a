-- The reads and writes of each register, in the order of the code.
use Rattle.std.specs.Prelude.{ℕ, suc, ◌+◌, ◌==◌, Bool, true, false, if◌then◌else◌, List, [], ◌∷◌, length, Option, Some, None}
use Rattle.low_ir.specs.Code.{Instr, End, Block, Note}
use Rattle.low_ir.specs.Formed.{read_by, written_by, end_reads}
use Rattle.register_live_ranges.specs.declared.accesses.Access.{Access}
use Rattle.register_live_ranges.specs.Rows.{with_item}

abbrev pub access_at : ℕ → ℕ → ℕ → Bool → Access
access_at b s p writes = record { block = b; first = s; at = p; writes = writes }

-- by register: those of registers that are read, and of one that is written
abbrev pub reads_noted : List (List Access) → Access → List ℕ → List (List Access)
reads_noted rows a [] = rows
reads_noted rows a (r ∷ rs) = reads_noted (with_item rows r a) a rs

abbrev pub write_noted : List (List Access) → Access → Option ℕ → List (List Access)
write_noted rows a None = rows
write_noted rows a (Some r) = with_item rows r a

-- of the instruction at place p of block b, which begins at place s
abbrev pub instr_noted : List (List Access) → ℕ → ℕ → ℕ → Instr ℕ Note → List (List Access)
instr_noted rows b s p i = write_noted (reads_noted rows (access_at b s p false) (read_by i)) (access_at b s p true) (written_by i)

-- of those from there on
abbrev pub code_noted : List (List Access) → ℕ → ℕ → ℕ → List (Instr ℕ Note) → End ℕ → List (List Access)
code_noted rows b s p [] end = reads_noted rows (access_at b s p false) (end_reads end)
code_noted rows b s p (i ∷ is) end = code_noted (instr_noted rows b s p i) b s (suc p) is end

-- of the blocks from number b on
abbrev pub blocks_noted : List (List Access) → ℕ → ℕ → List (Block ℕ Note) → List (List Access)
blocks_noted rows b s [] = rows
blocks_noted rows b s (x ∷ xs) = blocks_noted (code_noted rows b s s x.code x.end) (suc b) (s + suc (length x.code)) xs

-- how many places blocks have
abbrev pub places_in : List (Block ℕ Note) → ℕ
places_in [] = 0
places_in (x ∷ xs) = suc (length x.code) + places_in xs

-- those of one register, and further ones behind them
module _ (v : ℕ) where
  abbrev pub reads_among : Access → List ℕ → List Access → List Access
  reads_among a [] rest = rest
  reads_among a (r ∷ rs) rest = if r == v then a ∷ reads_among a rs rest else reads_among a rs rest

  abbrev pub write_among : Access → Option ℕ → List Access → List Access
  write_among a None rest = rest
  write_among a (Some r) rest = if r == v then a ∷ rest else rest

  abbrev pub code_accesses : ℕ → ℕ → ℕ → List (Instr ℕ Note) → End ℕ → List Access → List Access
  code_accesses b s p [] end rest = reads_among (access_at b s p false) (end_reads end) rest
  code_accesses b s p (i ∷ is) end rest =
      reads_among (access_at b s p false) (read_by i) (write_among (access_at b s p true) (written_by i) (code_accesses b s (suc p) is end rest))

  abbrev pub blocks_accesses : ℕ → ℕ → List (Block ℕ Note) → List Access
  blocks_accesses b s [] = []
  blocks_accesses b s (x ∷ xs) = code_accesses b s s x.code x.end (blocks_accesses (suc b) (s + suc (length x.code)) xs)
