-- How the code of a block is made without its copies.
use Rattle.std.specs.Prelude.{◌≡◌, ℕ, ◌<◌, ◌≤◌, Bool, List, [], ◌∷◌, ◌++◌, drop, length, map, Option, Some, None, All, option_map, slice_index_or}
use Rattle.low_ir.specs.Code.{Operand, Base, Address, Block, End, Instr, Note}
use Rattle.low_ir.specs.Effects.{address_reads, base_reads, offset_reads}
use Rattle.low_ir.specs.Formed.{LeadsOn, addresses, end_operands}
use Rattle.pass_copy_propagation_law.specs.Copies.{Beginnings, BlockCopied, BlocksCopied, Code, Fewer, Finds, Follows, KeepsBase, KeepsBases, Standing, operands}
use Rattle.pass_copy_propagation_law.specs.Renaming.{renamed_address, renamed_base, renamed_end, renamed_instr, renamed_operand}
use Rattle.pass_copy_propagation.specs.Knowing.{IsKnown, Knowing, counted, counted_by, stands}

abbrev pub or_own : ℕ → Option ℕ → ℕ
or_own r None = r
or_own r (Some place) = place

-- the register in which a value stands
abbrev pub name_in : Knowing → ℕ → ℕ
name_in k r = or_own r (stands k r)

pub record IsOperand (k : Knowing) (x y : Operand ℕ) : Type 0 where
  pub is : y ≡ renamed_operand (name_in k) x
  pub finds : Finds (stands k) (name_in k) (x ∷ [])

pub record AreOperands (k : Knowing) (xs ys : List (Operand ℕ)) : Type 0 where
  pub are : ys ≡ map (renamed_operand (name_in k)) xs
  pub finds : Finds (stands k) (name_in k) xs

pub record IsBase (k : Knowing) (a b : Base ℕ) : Type 0 where
  pub is : b ≡ renamed_base (name_in k) a
  pub finds : Finds (stands k) (name_in k) (base_reads a)
  pub keeps : KeepsBase (name_in k) a

pub record IsOffset (k : Knowing) (a b : Option ℕ) : Type 0 where
  pub is : b ≡ option_map (name_in k) a
  pub finds : Finds (stands k) (name_in k) (offset_reads a)

pub record IsAddress (k : Knowing) (a b : Address ℕ) : Type 0 where
  pub is : b ≡ renamed_address (name_in k) a
  pub finds : Finds (stands k) (name_in k) (address_reads a)
  pub base : KeepsBase (name_in k) a.base

-- an instruction that reads where values stand, and writes to a register
pub record IsRenamed (k : Knowing) (into : ℕ) (i j : Instr ℕ Note) : Type 0 where
  pub is : j ≡ renamed_instr (name_in k) into i
  pub finds : Finds (stands k) (name_in k) (operands i)
  pub bases : KeepsBases (name_in k) (addresses i)

pub record IsEnd (k : Knowing) (end new : End ℕ) : Type 0 where
  pub is : new ≡ renamed_end (name_in k) end
  pub finds : Finds (stands k) (name_in k) (end_operands end)

-- a block's code that is made so far: with what follows for its rest it follows for all of it
pub record IsMade (size : ℕ) (lasting : List Bool) (out : Beginnings) (first : Standing) (end : End ℕ) (whole rest : Code) (k : Knowing) (made : Code) : Type 0 where
  pub known : IsKnown size lasting k
  pub follows : (new : End ℕ) (js : Code) → Follows size out end new rest (stands k) js → Follows size out end new whole first (made ++ js)

-- instructions were done, and those behind them are left
abbrev pub Goes : Code → Knowing → Code → Code → Knowing → Code → Type 0
Goes before k made after now more = (size : ℕ) (lasting : List Bool) (out : Beginnings) (first : Standing) (end : End ℕ) (whole : Code) → IsMade size lasting out first end whole before k made → IsMade size lasting out first end whole after now more

-- a renamed instruction behind others
pub record IsPut (k : Knowing) (into : ℕ) (i : Instr ℕ Note) (before now : Code) : Type 0 where
  pub new : Instr ℕ Note
  pub renamed : IsRenamed k into i new
  pub is : now ≡ before ++ new ∷ []

-- the code at a place is done, and goes on at another place
pub record Continues (code : Code) (at : ℕ) (k : Knowing) (made : Code) (now : Knowing) (more : Code) (next : ℕ) : Type 0 where
  pub later : at < next
  pub inside : next ≤ length code
  pub goes : Goes (drop at code) k made (drop next code) now more

-- a block begins, which counts on the registers of a list
pub record Begins (list : List ℕ) (k now : Knowing) : Type 0 where
  pub by : (size : ℕ) (lasting : List Bool) → IsKnown size lasting k → IsKnown size lasting now × Fewer (counted lasting list) (stands now)

-- the registers of the lists of blocks to which an end leads stand in their own places
pub record IsReady (lists : List (List ℕ)) (k : Knowing) (end : End ℕ) : Type 0 where
  pub by : (n : ℕ) → LeadsOn end n → All (λ r. stands k r ≡ Some r) (slice_index_or lists n [])

-- the block of a number without its copies
pub record IsBlock (lists : List (List ℕ)) (n : ℕ) (k now : Knowing) (b c : Block ℕ Note) : Type 0 where
  pub by : (size : ℕ) (lasting : List Bool) → IsKnown size lasting k → BlockCopied size (counted_by lasting lists) n b c × IsKnown size lasting now

pub record AreBlocks (size : ℕ) (lists : List (List ℕ)) (k : Knowing) (bs cs : List (Block ℕ Note)) : Type 0 where
  pub by : (lasting : List Bool) → IsKnown size lasting k → BlocksCopied size (counted_by lasting lists) 0 bs cs

-- operands so far: with what is found for the rest, all are found
pub record AreSoFar (k : Knowing) (rest whole done : List (Operand ℕ)) : Type 0 where
  pub by : (ys : List (Operand ℕ)) → AreOperands k rest ys → AreOperands k whole (done ++ ys)

-- blocks so far
pub record AreBlocksSoFar (size : ℕ) (lists : List (List ℕ)) (k now : Knowing) (bs cs : List (Block ℕ Note)) : Type 0 where
  pub by : (lasting : List Bool) → IsKnown size lasting k → BlocksCopied size (counted_by lasting lists) 0 bs cs × IsKnown size lasting now
