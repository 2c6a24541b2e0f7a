-- Programs that are small enough for the tests.
use Rattle.std.specs.Prelude.{ℕ, suc, ◌+◌, ◌≤◌, List, [], ◌∷◌}
use Rattle.low_ir.specs.Arrays.{array_size}
use Rattle.low_ir.specs.declared.places.LowReg.{LowReg}
use Rattle.low_ir.specs.Code.{Function, Note, Object}
use Rattle.low_ir.specs.Places.{Assignment}
use Rattle.low_ir.specs.Placings.{assignment_of}
use Rattle.low_ir.specs.Programs.{low_of}
use Rattle.image_saving.specs.Walks.{HaveSpots}

-- what arrays take together
abbrev pub rooms : List Object → ℕ
rooms [] = 0
rooms (x ∷ xs) = array_size x + rooms xs

-- what the frames of functions from number f on take at most, in words: the return address, all registers twice, and the slots
abbrev pub words_from : Assignment → ℕ → List (Function ℕ Note) → ℕ
words_from a f [] = 0
words_from a f (fn ∷ fns) = 49 + a.slots f + words_from a (suc f) fns

pub record IsSmall (code : LowReg) : Type 0 where
  pub spots : HaveSpots (low_of code.low).functions
  pub frames : words_from (assignment_of code) 0 (low_of code.low).functions ≤ 0x4000
  pub arrays : rooms (low_of code.low).objects ≤ 0x4000
