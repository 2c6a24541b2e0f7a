-- What became of the marks and loops of a program in another, without where it lies in memory.
use Rattle.std.specs.Prelude.{◌≡◌, ℕ, nat_lt, List, [], ◌++◌, map, slice_index_or, if◌then◌else◌}
use Rattle.std.specs.List.{flat_map}
use Rattle.high_ir.specs.declared.copies.MarkCopies.{MarkCopies}
use Rattle.high_ir.specs.declared.copies.LoopCopy.{LoopCopy}
use Rattle.high_ir.specs.declared.copies.LoopCopies.{LoopCopies}
use Rattle.high_ir.specs.declared.copies.NeverMark.{NeverMark}
use Rattle.high_ir.specs.declared.copies.Copies.{Copies}
use Rattle.high_ir.specs.Tree.{Program}
use Rattle.high_ir.specs.Runs.{count_of}

-- a mark of the old program, and its copies
pub record MarkEntry : Type 0 where
  pub old : ℕ
  pub new : List ℕ

-- a loop of the old program, and its copies with their factors
pub record LoopEntry : Type 0 where
  pub old : ℕ
  pub new : List LoopCopy

pub record Listing : Type 0 where
  pub marks : List MarkEntry
  pub loops : List LoopEntry
  pub nevers : List NeverMark

abbrev pub mark_entry : MarkCopies → MarkEntry
mark_entry e = record { old = e.old; new = e.new.items }

abbrev pub loop_entry : LoopCopies → LoopEntry
loop_entry e = record { old = e.old; new = e.new.items }

abbrev pub listing_of : Copies → Listing
listing_of c = record { marks = map mark_entry c.marks.items; loops = map loop_entry c.loops.items; nevers = c.nevers.items }

-- the marks of the new program that are listed, the never marks included
abbrev pub listed_marks : Listing → List ℕ
listed_marks c = flat_map (λ e. e.new) c.marks ++ map (λ v. v.mark) c.nevers

-- its loops that are listed
abbrev pub listed_loops : Listing → List ℕ
listed_loops c = flat_map (λ e. map (λ l. l.id) e.new) c.loops

-- the numbers below n stand in a list, each once, and no others
abbrev pub HasEachBelow : ℕ → List ℕ → Type 0
HasEachBelow n xs = (k : ℕ) → count_of k xs ≡ (if nat_lt k n then 1 else 0)

-- the marks and the loops that are listed are exactly those of the program, none twice
pub record ListsThoseOf (p : Program) (c : Listing) : Type 0 where
  pub marks : HasEachBelow p.marks (listed_marks c)
  pub loops : HasEachBelow p.loops (listed_loops c)

-- the copies of a mark and of a loop, whose entries stand at their places
abbrev pub mark_copies : List MarkEntry → ℕ → List ℕ
mark_copies es k = (slice_index_or es k (record { old = k; new = [] })).new

abbrev pub loop_copies : List LoopEntry → ℕ → List LoopCopy
loop_copies es k = (slice_index_or es k (record { old = k; new = [] })).new
