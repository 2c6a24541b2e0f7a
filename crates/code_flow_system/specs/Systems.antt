-- The flow system of an image and claims: the moves of all reached addresses (Li and Malik 1995, the edges of the control flow graph).
use Rattle.std.specs.Prelude.{◌≡◌, ◌⊎◌, ℕ, ◌<◌, List, [], ◌∷◌, length, Bool, true, false, Option, Some, None, Contains, All, slice_index, slice_index_or, ◌==◌, if◌then◌else◌}
use Rattle.rv_core.specs.declared.row.Effect.{Effect}
use Rattle.rv_core.specs.declared.row.Effect.TheVariants.{CallEnvironment}
use Rattle.rv_core.specs.Rows.{row_of}
use Rattle.rv_core.specs.declared.regions.Region.TheVariants.{Flash, Spm}
use Rattle.rv_core.specs.Instructions.{Instruction}
use Rattle.rv_core.specs.Images.{Image}
use Rattle.rv_core.specs.Regions.{region_of}
use Rattle.rv_core.specs.Code.{instruction_in}
use Rattle.code_flow_system.specs.declared.moves.Move.{Move}
use Rattle.code_flow_system.specs.Claims.{Claims, is_listed, is_aligned, flaws, AreSound}
use Rattle.code_flow_system.specs.Moves.{code_of, way_of, moves_on, moves_at, destinations_of}
use Rattle.code_flow_system.specs.Reach.{IsReached, IsCode, IsLeast}

pub record System : Type 0 where
  pub entry : ℕ
  pub claims : Claims
  pub moves : List Move

abbrev pub system_of : ℕ → Claims → List Move → System
system_of entry claims moves = record { entry = entry; claims = claims; moves = moves }

-- by address, then number
abbrev pub ComesBefore : Move → Move → Type 0
ComesBefore m k = (m.at < k.at) ⊎ ((m.at ≡ k.at) × (m.number < k.number))

abbrev pub AreAscending : List Move → Type 0
AreAscending [] = Unit {0}
AreAscending (m ∷ ms) = All (ComesBefore m) ms × AreAscending ms

-- the moves of one address
abbrev pub moves_from : List Move → ℕ → List Move
moves_from [] a = []
moves_from (m ∷ ms) a = if m.at == a then m ∷ moves_from ms a else moves_from ms a

-- an address has moves
abbrev pub has_moves : List Move → ℕ → Bool
has_moves [] a = false
has_moves (m ∷ ms) a = if m.at == a then true else has_moves ms a

-- instructions stand at multiples of 4 in flash or scratchpad
pub record IsPlaced (a : ℕ) : Type 0 where
  pub aligned : is_aligned a ≡ true
  pub region : (region_of a ≡ Some Flash) ⊎ (region_of a ≡ Some Spm)

-- the moves of one address are those of its instruction, behind some instruction or none
pub record AreOfInstruction (exits : List ℕ) (ms : List Move) (a : ℕ) : Type 0 where
  pub instr : Instruction
  pub before : Option Instruction
  pub are : moves_from ms a ≡ moves_on (way_of (is_listed exits a) before a instr) a instr

abbrev pub is_call : Effect → Bool
is_call CallEnvironment = true
is_call e = false

-- the instruction is an ECALL
abbrev pub is_ecall : Option Instruction → Bool
is_ecall None = false
is_ecall (Some i) = is_call (row_of i.op).effect

-- an exit with moves is an ECALL
abbrev pub IsExit : List ℕ → Move → Type 0
IsExit exits m = is_listed exits m.at ≡ true → is_ecall (Some m.instr) ≡ true

-- what each system keeps
pub record IsSystem (s : System) : Type 0 where
  pub sound : AreSound s.claims
  pub exits : All (IsExit s.claims.exits) s.moves
  pub ascending : AreAscending s.moves
  pub placed : All (λ m. IsPlaced m.at) s.moves
  pub own : (a : ℕ) → has_moves s.moves a ≡ true → AreOfInstruction s.claims.exits s.moves a
  pub entry : has_moves s.moves s.entry ≡ true
  pub closed : All (λ a. has_moves s.moves a ≡ true) (destinations_of s.moves)

-- an exit that is reached and is no ECALL
pub record IsFalseExit (image : Image) (claims : Claims) (n : ℕ) : Type 0 where
  pub listed : n < length claims.exits
  pub reached : IsReached (code_of image claims) image.entry (slice_index claims.exits n)
  pub other : is_ecall (instruction_in image (slice_index claims.exits n)) ≡ false

-- the claim of that number is bad
abbrev pub IsBad : Image → Claims → ℕ → Type 0
IsBad image claims n = (slice_index_or (flaws claims) n false ≡ true) ⊎ IsFalseExit image claims n

-- a reached address that is no code
pub record IsNoCode (image : Image) (claims : Claims) (a : ℕ) : Type 0 where
  pub reached : IsReached (code_of image claims) image.entry a
  pub no_code : IsCode (code_of image claims) image.entry a → ⊥

-- the system of an image and claims: no claim is bad, every reached address is code, and the moves are exactly theirs
pub record IsSystemOf (image : Image) (claims : Claims) (s : System) : Type 0 where
  pub same_entry : s.entry ≡ image.entry
  pub same_claims : s.claims ≡ claims
  pub no_bad : (n : ℕ) → ¬ IsBad image claims n
  pub code : (a : ℕ) → IsReached (code_of image claims) image.entry a → IsCode (code_of image claims) image.entry a
  pub ascending : AreAscending s.moves
  pub reached : (m : Move) → Contains s.moves m → IsReached (code_of image claims) image.entry m.at
  pub own : (a : ℕ) → IsReached (code_of image claims) image.entry a → moves_from s.moves a ≡ moves_at (code_of image claims) a

-- there is no system, since this claim is the first that is bad
abbrev pub IsFirstBad : Image → Claims → ℕ → Type 0
IsFirstBad image claims n = IsLeast (IsBad image claims) n

-- there is no system, since no claim is bad and this is the least reached address that is no code
pub record IsFirstNoCode (image : Image) (claims : Claims) (a : ℕ) : Type 0 where
  pub no_bad : (n : ℕ) → ¬ IsBad image claims n
  pub least : IsLeast (IsNoCode image claims) a
