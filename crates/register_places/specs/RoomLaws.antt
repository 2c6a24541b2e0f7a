-- Places change neither how many machine instructions a program takes, nor how many it may execute, nor how often it may pass a mark.
use Rattle.std.specs.Prelude.{◌≡◌, ℕ}
use Rattle.low_ir.specs.Code.{Low}
use Rattle.low_ir.specs.Places.{Assignment, placed}
use Rattle.low_ir.specs.Room.{reach, room, weight}

abbrev pub PlacesKeepRoom : Type 0
PlacesKeepRoom = (a : Assignment) (low : Low) → room (placed a low) ≡ room low

abbrev pub PlacesKeepWeight : Type 0
PlacesKeepWeight = (a : Assignment) (low : Low) → weight (placed a low) ≡ weight low

abbrev pub PlacesKeepReach : Type 0
PlacesKeepReach = (a : Assignment) (low : Low) (mark : ℕ) → reach (placed a low) mark ≡ reach low mark
