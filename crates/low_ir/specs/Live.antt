-- Which registers are live: whose values may still be read; and the places of the code between which they live.
use Rattle.std.specs.Prelude.{◌≡◌, ◌≢◌, ◌⊎◌, ℕ, zero, suc, ◌+◌, ◌≤◌, true, List, [], ◌∷◌, length, Option, Some, None, slice_get}
use Rattle.low_ir.specs.Code.{Plain, Instr, Do, Call, Operand, End, Jump, Branch, Return, Block, Function, Note}
use Rattle.low_ir.specs.Effects.{dest, is_served}
use Rattle.low_ir.specs.Formed.{read_by, written_by, end_reads}

abbrev pub Has : ℕ → List ℕ → Type 0
Has v [] = ⊥
Has v (x ∷ xs) = (v ≡ x) ⊎ Has v xs

-- what holds of a block behind this end
abbrev pub Ahead : (ℕ → Type 0) → End ℕ → Type 0
Ahead at (Jump b) = at b
Ahead at (Branch c x y taken other) = at taken ⊎ at other
Ahead at (Return x) = ⊥

-- from the beginning of these instructions a way leads to a read of v with no write of v before; `at` says so of the beginning of a block
abbrev pub Reaches : (ℕ → Type 0) → List (Instr ℕ Note) → End ℕ → ℕ → Type 0
Reaches at [] end v = Has v (end_reads end) ⊎ Ahead at end
Reaches at (i ∷ is) end v = Has v (read_by i) ⊎ ((written_by i ≢ Some v) × Reaches at is end v)

abbrev pub ReachesIn : (ℕ → Type 0) → Option (Block ℕ Note) → ℕ → Type 0
ReachesIn at None v = ⊥
ReachesIn at (Some b) v = Reaches at b.code b.end v

-- the same, from the beginning of a block, on a way through at most n blocks
abbrev pub Enters : List (Block ℕ Note) → ℕ → ℕ → ℕ → Type 0
Enters bs zero v b = ⊥
Enters bs (suc n) v b = ReachesIn (Enters bs n v) (slice_get bs b) v

-- v is live at the beginning of these instructions
abbrev pub Live : List (Block ℕ Note) → List (Instr ℕ Note) → End ℕ → ℕ → Type 0
Live bs is end v = (n : ℕ) × Reaches (Enters bs n v) is end v

-- The places of a function are its instructions and the ends of its blocks, in order: where a block begins.
abbrev pub place_of : List (Block ℕ Note) → ℕ → ℕ
place_of bs zero = 0
place_of [] (suc b) = 0
place_of (x ∷ bs) (suc b) = suc (length x.code) + place_of bs b

-- behind the first n instructions of `all` are the instructions `is`
abbrev pub IsRest : List (Instr ℕ Note) → ℕ → List (Instr ℕ Note) → Type 0
IsRest all zero is = all ≡ is
IsRest [] (suc n) is = ⊥
IsRest (i ∷ all) (suc n) is = IsRest all n is

-- from the place p on a block goes on with these instructions
pub record Spot (bs : List (Block ℕ Note)) (p : ℕ) (is : List (Instr ℕ Note)) (end : End ℕ) : Type 0 where
  pub block : Block ℕ Note
  pub number : ℕ
  pub behind : ℕ
  pub there : slice_get bs number ≡ Some block
  pub code : IsRest block.code behind is
  pub ends : block.end ≡ end
  pub at : p ≡ place_of bs number + behind

-- p is a place of v: v is written there, or live behind it; the parameters are written at the first place
pub data IsPlace (fn : Function ℕ Note) (p v : ℕ) : Type 0 where
  Written : (i : Instr ℕ Note) (is : List (Instr ℕ Note)) (end : End ℕ) (spot : Spot fn.blocks p (i ∷ is) end) (e : written_by i ≡ Some v) → IsPlace fn p v
  Behind : (i : Instr ℕ Note) (is : List (Instr ℕ Note)) (end : End ℕ) (spot : Spot fn.blocks p (i ∷ is) end) (e : Live fn.blocks is end v) → IsPlace fn p v
  BehindEnd : (n : ℕ) (end : End ℕ) (spot : Spot fn.blocks p [] end) (e : Ahead (Enters fn.blocks n v) end) → IsPlace fn p v
  Parameter : (e : p ≡ 0) (has : Has v fn.parameters) → IsPlace fn p v

-- p is in the interval of v, from its least to its greatest place
pub record InInterval (fn : Function ℕ Note) (p v : ℕ) : Type 0 where
  pub least : ℕ
  pub greatest : ℕ
  pub from : IsPlace fn least v
  pub to : IsPlace fn greatest v
  pub above : least ≤ p
  pub below : p ≤ greatest

-- registers live together where their intervals share a place
abbrev pub Together : Function ℕ Note → ℕ → ℕ → Type 0
Together fn v w = (p : ℕ) × InInterval fn p v × InInterval fn p w

-- at the place p is a call whose value goes to d
abbrev pub CallAt : Function ℕ Note → ℕ → Option ℕ → Type 0
CallAt fn p d = (f : ℕ) × (args : List (Operand ℕ)) × (note : Note) × (is : List (Instr ℕ Note)) × (end : End ℕ) × Spot fn.blocks p (Call d f args note ∷ is) end

-- at the place p is an instruction that the environment performs, whose value goes to d
abbrev pub ServedAt : Function ℕ Note → ℕ → Option ℕ → Type 0
ServedAt fn p d = (i : Plain ℕ) × (is : List (Instr ℕ Note)) × (end : End ℕ) × (is_served i ≡ true) × (dest i ≡ d) × Spot fn.blocks p (Do i ∷ is) end
