-- What a source becomes, from stage to stage.
use Rattle.std.specs.Prelude.{ℕ, List, length}
use Rattle.facts_definitions.specs.declared.facts.Facts.{Facts}
use Rattle.types_tree.specs.Tree as c
use Rattle.high_ir.specs.Programs.{program_of}
use Rattle.high_ir.specs.Tree.{Program}
use Rattle.high_pass.specs.Listing.{Listing, listing_of}
use Rattle.low_ir.specs.declared.places.LowReg.{LowReg}
use Rattle.low_ir.specs.Placings.{placed_of, placings_of}
use Rattle.low_ir.specs.Programs.{low_of}
use Rattle.register_allocation.specs.Spills.{HaveFewSlots, SpillWhereCrowded}
use Rattle.lower_law.specs.Programs.{KeepsProgram}
use Rattle.image_frames.specs.Memories.{Placement}
use Rattle.image_frames.specs.Placings.{MovesItems}
use Rattle.layout_program.specs.declared.laid.Laid.{Laid}
use Rattle.layout_program.specs.Laid.{IsLaid}
use Rattle.layout_relation.specs.Kept.{KeepsLow}
use Rattle.compile_high_definitions.specs.Carried.{IsCarried}
use Rattle.compile_stages.specs.declared.made.Made.{Made}

-- a program in the low form, with a place for each register: a slot only where more than 24 intervals cover a place of its own
pub record IsLowered (program : Program) (code : LowReg) : Type 0 where
  pub keeps_program : KeepsProgram program (low_of code.low)
  pub spills : SpillWhereCrowded (low_of code.low) (placings_of code)
  pub slots : HaveFewSlots (low_of code.low) (placings_of code)

-- its image, with these functions and arrays in the scratchpad
pub record IsInMemory (pl : Placement) (code : LowReg) (y : Laid) : Type 0 where
  pub laid : IsLaid pl code y
  pub moves : MovesItems pl (placed_of code)
  pub keeps_low : KeepsLow pl (placings_of code) (low_of code.low)

-- the last program in the high form, and what became in it of the marks and loops of the source
abbrev pub high_of : Made → Program
high_of m = program_of m.stages.last.program

abbrev pub copies_of : Made → Listing
copies_of m = listing_of m.stages.last.copies

-- a source in memory: its last program carries it, whichever passes made it
pub record IsMade (names : List (List ℕ)) (source : c.Program) (facts : Facts) (m : Made) : Type 0 where
  pub carried : IsCarried names source facts (length m.stages.before.items) (high_of m) (copies_of m)
  pub lowered : IsLowered (high_of m) m.code
  pub in_memory : IsInMemory m.placement m.code m.laid
