-- The copies of copies: what became of marks and loops through two programs, one after the other.
use Rattle.std.specs.Prelude.{◌≡◌, ℕ, ◌*◌, ◌==◌, ◌<◌, List, [], ◌∷◌, ◌++◌, length, map, All, if◌then◌else◌}
use Rattle.std.specs.List.{flat_map}
use Rattle.high_ir.specs.declared.copies.LoopCopy.{LoopCopy}
use Rattle.high_ir.specs.declared.copies.NeverMark.{NeverMark}
use Rattle.high_ir.specs.Tree.{Program}
use Rattle.high_pass.specs.Listing.{MarkEntry, LoopEntry, Listing, listed_marks, listed_loops, mark_copies, loop_copies}
use Rattle.high_pass.specs.Carries.{Behaviour, Carries}
use Rattle.high_pass.specs.Law.{FactorsWithin, ReachWithin}
use Rattle.high_pass.specs.declared.origin.Origin.{Origin}

-- a copy of a loop's copy: the factors multiply
abbrev pub times : ℕ → LoopCopy → LoopCopy
times factor l = record { id = l.id; factor = factor * l.factor }

abbrev pub copies_by : List LoopEntry → LoopCopy → List LoopCopy
copies_by step l = map (times l.factor) (loop_copies step l.id)

-- the copies of a mark are the copies of its copies, in order
abbrev pub marks_through : List MarkEntry → MarkEntry → MarkEntry
marks_through step e = record { old = e.old; new = flat_map (mark_copies step) e.new }

-- the loops of a loop are the loops of its loops
abbrev pub loops_through : List LoopEntry → LoopEntry → LoopEntry
loops_through step e = record { old = e.old; new = flat_map (copies_by step) e.new }

-- a never mark with another number
abbrev pub at_mark : NeverMark → ℕ → NeverMark
at_mark v k = record { mark = k; old = v.old; factor = v.factor }

-- the copies of a never mark keep its loop and its factor
abbrev pub nevers_through : List MarkEntry → NeverMark → List NeverMark
nevers_through step v = map (at_mark v) (mark_copies step v.mark)

-- which loop a copy is of, as these list it after what is known
abbrev pub origin_within : ℕ → List LoopCopy → ℕ → Origin → Origin
origin_within old [] k known = known
origin_within old (l ∷ ls) k known = origin_within old ls k (if l.id == k then record { old = old; factor = l.factor } else known)

abbrev pub origin_among : List LoopEntry → ℕ → Origin → Origin
origin_among [] k known = known
origin_among (e ∷ es) k known = origin_among es k (origin_within e.old e.new k known)

-- before any is listed
abbrev pub no_origin : Origin
no_origin = record { old = 0; factor = 0 }

-- a never mark of a loop's copy, taken back to the loop
abbrev pub back_to : Origin → NeverMark → NeverMark
back_to o v = record { mark = v.mark; old = o.old; factor = o.factor * v.factor }

abbrev pub taken_back : List LoopEntry → NeverMark → NeverMark
taken_back whole v = back_to (origin_among whole v.old no_origin) v

abbrev pub composed : Listing → Listing → Listing
composed whole step = record {
  marks = map (marks_through step.marks) whole.marks;
  loops = map (loops_through step.loops) whole.loops;
  nevers = flat_map (nevers_through step.marks) whole.nevers ++ map (taken_back whole.loops) step.nevers;
}

-- what has to hold of two lists of copies, so that they fit together and each product is a number of 32 bits
pub record CanCompose (loops : ℕ) (whole step : Listing) : Type 0 where
  pub marks : All (λ k. k < length step.marks) (listed_marks whole)
  pub loops_there : All (λ k. k < loops) (listed_loops whole)
  pub entries : length step.loops ≡ loops
  pub nevers : All (λ v. v.old < loops) step.nevers
  pub factors : FactorsWithin 67108863 whole
  pub step_factors : FactorsWithin 64 step

-- what the first copies say of the old program the others say of the new one
pub record Continues (old new : Program) (whole made : Listing) : Type 0 where
  pub carries : (first : Behaviour) → Carries first old whole → Carries first new made
  pub reach : (bound : ℕ → ℕ) → ReachWithin bound old whole → ReachWithin bound new made
  pub factors : (n : ℕ) → FactorsWithin n whole → FactorsWithin (n * 64) made
