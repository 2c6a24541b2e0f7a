-- What is reached from an entry, and what of it is code.
use Rattle.std.specs.Prelude.{◌≡◌, ◌≢◌, ℕ, zero, suc, ◌+◌, ◌<◌, [], Bool, true, false, Option, Some, None, Contains}
use Rattle.rv_core.specs.declared.row.Effect.{Effect}
use Rattle.rv_core.specs.declared.row.Effect.TheVariants.{LinkRegister}
use Rattle.rv_core.specs.Rows.{row_of}
use Rattle.rv_core.specs.Instructions.{Instruction}
use Rattle.rv_core.specs.Runs.{sets_upper}
use Rattle.code_flow_system.specs.Moves.{Code, fetch_before, moves_at, destinations_of}

-- a move of one address arrives at another
abbrev pub GoesTo : Code → ℕ → ℕ → Type 0
GoesTo c a b = Contains (destinations_of (moves_at c a)) b

-- reached from the entry by n moves
abbrev pub ReachedIn : Code → ℕ → ℕ → ℕ → Type 0
ReachedIn c entry zero a = a ≡ entry
ReachedIn c entry (suc n) a = (b : ℕ) × ReachedIn c entry n b × GoesTo c b a

abbrev pub IsReached : Code → ℕ → ℕ → Type 0
IsReached c entry a = (n : ℕ) × ReachedIn c entry n a

abbrev pub resolves_by : Effect → Option Instruction → Instruction → Bool
resolves_by LinkRegister before i = sets_upper before i.rs1
resolves_by e before i = false

abbrev pub resolves : Option Instruction → Option Instruction → Bool
resolves before None = false
resolves before (Some i) = resolves_by (row_of i.op).effect before i

-- a JALR that the AUIPC before it resolves
abbrev pub is_resolved : Code → ℕ → Bool
is_resolved c a = resolves (fetch_before c a) (c.fetch a)

-- no reached address but that of the AUIPC before it goes there
pub record IsEnteredByPair (c : Code) (entry a : ℕ) : Type 0 where
  pub no_entry : a ≢ entry
  pub alone : (b : ℕ) → IsReached c entry b → GoesTo c b a → b + 4 ≡ a

-- an address is code where it has moves, and a resolved JALR only behind its AUIPC
pub record IsCode (c : Code) (entry a : ℕ) : Type 0 where
  pub moves : moves_at c a ≢ []
  pub paired : is_resolved c a ≡ true → IsEnteredByPair c entry a

-- the least number with a property
pub record IsLeast (P : ℕ → Type 0) (n : ℕ) : Type 0 where
  pub holds : P n
  pub before : (k : ℕ) → k < n → ¬ P k
