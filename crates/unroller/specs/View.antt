-- A walk over a program whose loops are unrolled, without where it lies in memory.
use Rattle.std.specs.Prelude.{ℕ, ◌+◌, ◌-◌, List, [], ◌∷◌, ◌++◌, length, map}
use Rattle.high_ir.specs.Tree.{Program}
use Rattle.high_pass.specs.Listing.{LoopEntry, loop_entry}
use Rattle.high_unrolled.specs.declared.made.Made.{Made}
use Rattle.high_unrolled.specs.declared.made.Made.TheVariants.{CopyOf}
use Rattle.high_unrolled.specs.Programs.{begun}
use Rattle.high_unrolled.specs.Unrolling.{Place, Became, after, loop_copied, loop_gone}
use Rattle.unroller.specs.declared.walk.Walk.{Walk}

-- the next place, what the marks are that were made so far, and what became of the loops that were met
pub record Progress : Type 0 where
  pub place : Place
  pub made : List Made
  pub entries : List LoopEntry

abbrev pub going : (room marks loops : ℕ) → List Made → List LoopEntry → Progress
going room marks loops made entries = record { place = record { room = room; marks = marks; loops = loops }; made = made; entries = entries }

abbrev pub progress_of : Walk → Progress
progress_of w = going w.room w.marks w.loops w.made.items (map loop_entry w.entries.items)

-- before the first function of a program
abbrev pub at_start : Program → Progress
at_start p = record { place = begun p; made = []; entries = [] }

-- so many operations more are in the program
abbrev pub less_room : Progress → ℕ → Progress
less_room p grown = going (p.place.room - grown) p.place.marks p.place.loops p.made p.entries

-- further marks were made
abbrev pub noted : Progress → List Made → Progress
noted p made = going p.place.room (p.place.marks + length made) p.place.loops (p.made ++ made) p.entries

-- copies of these marks were made
abbrev pub copied : Progress → List ℕ → Progress
copied p marks = noted p (map CopyOf marks)

-- a loop was met, which has one copy, or none
abbrev pub met : Progress → (id factor : ℕ) → Progress
met p id factor = going p.place.room p.place.marks (p.place.loops + 1) p.made (p.entries ++ loop_copied id p.place.loops factor ∷ [])

abbrev pub past : Progress → (id : ℕ) → Progress
past p id = going p.place.room p.place.marks p.place.loops p.made (p.entries ++ loop_gone id ∷ [])

-- further code was met
abbrev pub continued : {A : Type 0} → Progress → Became A → Progress
continued p r = record { place = after p.place r; made = p.made ++ r.made; entries = p.entries ++ r.entries }
