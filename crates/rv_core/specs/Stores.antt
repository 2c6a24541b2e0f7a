-- What a store does to a memory: it changes the bytes of one block, and nothing of where the blocks lie.
use Rattle.std.specs.Prelude.{◌≡◌, ℕ, ◌+◌, ◌-◌, ◌≤◌, ◌<◌, List, [], ◌∷◌, ◌++◌, length, map, Bool, true}
use Rattle.rv_core.specs.declared.row.Width.{Width}
use Rattle.rv_core.specs.Arithmetic.{byte_count}
use Rattle.rv_core.specs.Memory.{Block, holds_span, with_number}

-- the block that takes the store may be written and holds all its bytes
pub record IsStored (w : Width) (at v : ℕ) (before after : List Block) : Type 0 where
  pub earlier : List Block
  pub block : Block
  pub later : List Block
  pub stands : before ≡ earlier ++ block ∷ later
  pub may_write : block.write ≡ true
  pub holds : holds_span block at (byte_count w) ≡ true
  pub stored : after ≡ earlier ++ (record block { bytes = with_number w block.bytes (at - block.at) v }) ∷ later

-- where a block lies, and what may be done with it
pub record Frame : Type 0 where
  pub at : ℕ
  pub size : ℕ
  pub read : Bool
  pub write : Bool
  pub exec : Bool

abbrev pub frame_of : Block → Frame
frame_of b = record { at = b.at; size = length b.bytes; read = b.read; write = b.write; exec = b.exec }

abbrev pub frames_of : List Block → List Frame
frames_of memory = map frame_of memory

-- the address lies in the frame
pub record LiesIn (f : Frame) (at : ℕ) : Type 0 where
  pub from : f.at ≤ at
  pub below : at < f.at + f.size

-- no address lies in both
abbrev pub Beside : Frame → Frame → Type 0
Beside f g = (at : ℕ) → LiesIn f at → LiesIn g at → ⊥

abbrev pub BesideEach : Frame → List Frame → Type 0
BesideEach f [] = Unit {0}
BesideEach f (g ∷ gs) = Beside f g × BesideEach f gs

abbrev pub AreBeside : List Frame → Type 0
AreBeside [] = Unit {0}
AreBeside (f ∷ fs) = BesideEach f fs × AreBeside fs
