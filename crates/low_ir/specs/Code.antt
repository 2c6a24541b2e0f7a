-- Programs in the low form over registers of any kind, without where they lie in memory. Virtual registers and the places that
-- stand for them are two such kinds.
use Rattle.std.specs.Prelude.{ℕ, List, Option}
use Rattle.rv_core.specs.declared.row.Alu.{Alu}
use Rattle.rv_core.specs.declared.row.Condition.{Condition}
use Rattle.low_ir.specs.declared.object.Kind.{Kind}
use Rattle.low_ir.specs.declared.object.Storage.{Storage}

-- what an instruction reads: a register or a word
pub data Operand (R : Type 0) : Type 0 where
  Register : (r : R) → Operand R
  Constant : (word : ℕ) → Operand R

-- where an address begins: at an object, or where a register points to, which is into one of the objects of a claim
pub data Base (R : Type 0) : Type 0 where
  Fixed : (object : ℕ) → Base R
  Through : (r : R) (claim : ℕ) → Base R

-- an address: so many bytes behind its base, those of a register included
pub record Address (R : Type 0) : Type 0 where
  pub base : Base R
  pub offset : Option R
  pub displacement : ℕ

-- an instruction that goes on behind itself
pub data Plain (R : Type 0) : Type 0 where
  Set : (d : R) (x : Operand R) → Plain R
  Operate : (operator : Alu) (d : R) (x y : Operand R) → Plain R
  Point : (d : R) (address : Address R) → Plain R
  Load : (kind : Kind) (d : R) (address : Address R) → Plain R
  Store : (kind : Kind) (address : Address R) (x : Operand R) → Plain R
  Put : (x : Operand R) → Plain R
  Get : (d : R) → Plain R

-- any instruction; a call has a note of kind K, and the register that its value goes to, if it is wanted
pub data Instr (R K : Type 0) : Type 0 where
  Do : (i : Plain R) → Instr R K
  Call : (into : Option R) (f : ℕ) (args : List (Operand R)) (note : K) → Instr R K

-- where a block goes on to
pub data End (R : Type 0) : Type 0 where
  Jump : (b : ℕ) → End R
  Branch : (condition : Condition) (x y : Operand R) (taken other : ℕ) → End R
  Return : (x : Operand R) → End R

pub record Block (R K : Type 0) : Type 0 where
  pub mark : Option ℕ
  pub code : List (Instr R K)
  pub end : End R

-- a loop: the blocks from its header to its latch, and how often the header starts at least and at most for each entry
pub record Loop : Type 0 where
  pub id : ℕ
  pub least : ℕ
  pub most : ℕ
  pub header : ℕ
  pub latch : ℕ

-- a function: the registers that get its arguments, how many registers it has, its loops and its blocks
pub record Function (R K : Type 0) : Type 0 where
  pub parameters : List R
  pub size : ℕ
  pub loops : List Loop
  pub blocks : List (Block R K)

-- an array that lives as long as the program
pub record Object : Type 0 where
  pub kind : Kind
  pub storage : Storage
  pub size : ℕ
  pub values : List ℕ

-- a program; a claim lists the objects that an access with it may touch
pub record Program (R K : Type 0) : Type 0 where
  pub functions : List (Function R K)
  pub claims : List (List ℕ)
  pub objects : List Object
  pub main : ℕ
  pub marks : ℕ

-- over virtual registers a call keeps all registers, and has nothing to note
abbrev pub Note : Type 0
Note = Unit {0}

abbrev pub Low : Type 0
Low = Program ℕ Note
