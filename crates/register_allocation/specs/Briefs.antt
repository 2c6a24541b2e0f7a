-- Registers that can have the result register: while they live, nothing else comes into it.
use Rattle.std.specs.Prelude.{◌≡◌, ℕ, ◌<◌, ◌≤◌, ◌==◌, Bool, true, false, if◌then◌else◌, List, [], ◌∷◌, ◌++◌, Option, Some, None, slice_index_or}
use Rattle.low_ir.specs.Code.{Instr, Do, Call, Block, Function, Note}
use Rattle.low_ir.specs.Effects.{dest, is_member, is_served}
use Rattle.register_allocation.specs.declared.briefs.Turn.{Turn}
use Rattle.register_allocation.specs.declared.briefs.Turn.TheVariants.{Stays, Comes}
use Rattle.register_allocation.specs.declared.order.Lasting.{Lasting}

-- a call, and what the environment performs, takes the result register for its own value
abbrev pub instr_turn : Instr ℕ Note → Turn
instr_turn (Do i) = if is_served i then Comes (dest i) else Stays
instr_turn (Call d f args note) = Comes d

-- by place of the code
abbrev pub code_turns : List (Instr ℕ Note) → List Turn
code_turns [] = Stays ∷ []
code_turns (i ∷ is) = instr_turn i ∷ code_turns is

abbrev pub blocks_turns : List (Block ℕ Note) → List Turn
blocks_turns [] = []
blocks_turns (b ∷ bs) = code_turns b.code ++ blocks_turns bs

abbrev pub turn_at : List Turn → ℕ → Turn
turn_at turns p = slice_index_or turns p Stays

-- whether a value that goes to a register, if it is wanted, goes to v
abbrev pub names : Option ℕ → ℕ → Bool
names None v = false
names (Some d) v = d == v

abbrev pub is_own : ℕ → Turn → Bool
is_own v Stays = true
is_own v (Comes d) = names d v

-- what comes into the result register in the interval of x, and before the place n, is a value of its own
abbrev pub AreOwnBefore : List Turn → Lasting → ℕ → Type 0
AreOwnBefore turns x n = (p : ℕ) → x.first ≤ p → p < n → is_own x.register (turn_at turns p) ≡ true

-- all that comes into it there is
abbrev pub AreOwn : List Turn → Lasting → Type 0
AreOwn turns x = (p : ℕ) → x.first ≤ p → p ≤ x.last → is_own x.register (turn_at turns p) ≡ true

pub record IsBrief (fn : Function ℕ Note) (x : Lasting) : Type 0 where
  pub own : AreOwn (blocks_turns fn.blocks) x
  pub passed : is_member fn.parameters x.register ≡ false
