-- When rounds of liveness have found all.
use Rattle.std.specs.Prelude.{ℕ, suc, List}
use Rattle.low_ir.specs.Code.{Block, Note}
use Rattle.low_ir.specs.Live.{Enters}

-- once a longer way finds no more blocks at whose beginning v is live, no way does
abbrev pub RoundsCover : List (Block ℕ Note) → ℕ → ℕ → Type 0
RoundsCover bs v n = ((b : ℕ) → Enters bs (suc n) v b → Enters bs n v b) → (m b : ℕ) → Enters bs m v b → Enters bs n v b
