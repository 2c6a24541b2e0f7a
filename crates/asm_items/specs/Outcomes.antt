-- Where a word of an item goes.
use Rattle.std.specs.Prelude.{◌≡◌, ◌⊎◌, ℕ, suc, ◌+◌, ◌^◌, ◌<◌, ◌≤◌, Bool, true, false, List, [], ◌∷◌, Contains, Some}
use Rattle.rv_core.specs.Instructions.{Instruction}
use Rattle.code_flow_system.specs.declared.moves.Way.{Way}
use Rattle.code_flow_system.specs.declared.moves.Way.TheVariants.{Next, Branches, Jumps, Calls, Ends, Strays}
use Rattle.code_flow_system.specs.Moves.{Code, fetch_before, way_of}
use Rattle.code_flow_system.specs.Reach.{is_resolved}
use Rattle.asm_items.specs.declared.item.Form.{Form}
use Rattle.asm_items.specs.declared.item.Form.TheVariants.{Short, Inverted, Far}
use Rattle.asm_items.specs.declared.item.Item.{Item}
use Rattle.asm_items.specs.declared.item.Item.TheVariants.{Single, Jump, Call, Branch, Return, Exit}
use Rattle.rv_core.specs.Runs.{sets_upper}
use Rattle.asm_items.specs.Offsets.{IsCodeAddress}
use Rattle.asm_items.specs.Items.{Starts, size, total}
use Rattle.asm_items.specs.Promises.{Keeps}
use Rattle.asm_items.specs.Standing.{HasItems}

-- A word of an item that stands at an address; `low` says that it is the second of a far jump.

abbrev pub OneWord : ℕ → ℕ → Bool → Type 0
OneWord at a false = a ≡ at
OneWord at a true = ⊥

abbrev pub PairWord : ℕ → ℕ → Bool → Type 0
PairWord at a false = a ≡ at
PairWord at a true = a ≡ at + 4

abbrev pub JumpWord : Bool → ℕ → ℕ → Bool → Type 0
JumpWord false at a low = OneWord at a low
JumpWord true at a low = PairWord at a low

abbrev pub BranchWord : Form → ℕ → ℕ → Bool → Type 0
BranchWord Short at a low = OneWord at a low
BranchWord Inverted at a low = OneWord at a low ⊎ OneWord (at + 4) a low
BranchWord Far at a low = OneWord at a low ⊎ PairWord (at + 4) a low

abbrev pub IsWordOf : Item → ℕ → ℕ → Bool → Type 0
IsWordOf (Single i) at a low = OneWord at a low
IsWordOf (Jump far block) at a low = JumpWord far at a low
IsWordOf (Call far function) at a low = JumpWord far at a low
IsWordOf (Branch form c x y block) at a low = BranchWord form at a low
IsWordOf Return at a low = OneWord at a low
IsWordOf Exit at a low = OneWord at a low

-- a word of items in a row
abbrev pub IsWord : ℕ → List Item → ℕ → Bool → Type 0
IsWord at [] a low = ⊥
IsWord at (x ∷ xs) a low = IsWordOf x at a low ⊎ IsWord (at + size x) xs a low

-- a block of a function, and the blocks and functions that it may go to
pub record Around : Type 0 where
  pub starts : Starts
  pub function : ℕ
  pub block : ℕ
  pub items : List Item
  pub follows : List ℕ
  pub calls : List ℕ

abbrev pub beginning : Around → ℕ
beginning k = k.starts k.function k.block

abbrev pub Within : Around → ℕ → Bool → Type 0
Within k a low = IsWord (beginning k) k.items a low

-- to a later word of the block, to the second word of a far jump, or to a block that may follow
abbrev pub GoesWell : Around → ℕ → ℕ → Type 0
GoesWell k a to = ((a < to) × Within k to false) ⊎ (((to ≡ a + 4) × Within k to true) ⊎ ((n : ℕ) × Contains k.follows n × (to ≡ k.starts k.function n)))

abbrev pub CallsWell : Around → ℕ → Type 0
CallsWell k to = (callee : ℕ) × Contains k.calls callee × (to ≡ k.starts callee 0)

abbrev pub IsFine : Around → ℕ → Way → Type 0
IsFine k a Next = GoesWell k a (a + 4)
IsFine k a (Branches to) = GoesWell k a (a + 4) × GoesWell k a to
IsFine k a (Jumps to) = GoesWell k a to
IsFine k a (Calls to) = CallsWell k to × GoesWell k a (a + 4)
IsFine k a Ends = Unit {0}
IsFine k a Strays = ⊥

-- only the second word of a far jump is a resolved JALR
abbrev pub IsAlone : Code → Bool → ℕ → Type 0
IsAlone c false a = is_resolved c a ≡ false
IsAlone c true a = Unit {0}

-- the word at an address goes a way that the block promises
pub record Outcome (c : Code) (k : Around) (a : ℕ) (low : Bool) : Type 0 where
  pub instr : Instruction
  pub way : Way
  pub there : c.fetch a ≡ Some instr
  pub is : way_of (c.exit a) (fetch_before c a) a instr ≡ way
  pub fine : IsFine k a way
  pub alone : IsAlone c low a

-- a block that stands in its place and keeps to its promise, in code of which no return is resolved by what stands before it
pub record IsPromised (c : Code) (k : Around) : Type 0 where
  pub places : (f b : ℕ) → IsCodeAddress (k.starts f b)
  pub no_link : (a : ℕ) → sets_upper (c.fetch a) 1 ≡ false
  pub room : beginning k + total k.items ≤ 2 ^ 30
  pub stands : HasItems k.starts c k.function (beginning k) k.items
  pub keeps : Keeps k.follows k.calls k.block k.items
  pub falls : Contains k.follows (suc k.block) → beginning k + total k.items ≡ k.starts k.function (suc k.block)

-- each word of a block goes a way that the block promises
abbrev pub KeepsPromises : Code → Type 0
KeepsPromises c = (k : Around) → IsPromised c k → (a : ℕ) (low : Bool) → Within k a low → Outcome c k a low
