-- What it means that a program carries on another: its runs, and the counts and bounds of its copies.
use Rattle.std.specs.Prelude.{◌≡◌, ℕ, ◌==◌, ◌<◌, ◌≤◌, List, [], ◌∷◌, length, map, Option, Some, None, All, Contains, sum_by, if◌then◌else◌}
use Rattle.std.specs.List.{range_with_len}
use Rattle.high_ir.specs.Tree.{Program}
use Rattle.high_ir.specs.Runs.{Run, hrun, count_of}
use Rattle.high_ir.specs.Standing.{Bounds, Bounded, loops_in}
use Rattle.high_ir.specs.Splitting.{by_factor}
use Rattle.high_pass.specs.Listing.{Listing, ListsThoseOf, mark_copies}

-- what one good run shows
pub record Shown : Type 0 where
  pub value : ℕ
  pub output : List ℕ
  pub counts : ℕ → ℕ

-- what a program, or a source, shows: its good runs, and what it counts and bounds; the first marks are those of its functions
pub record Behaviour : Type 0 where
  pub runs : List ℕ → Option Shown
  pub functions : ℕ
  pub marks : ℕ
  pub loops : List Bounded

abbrev pub shown : Option Run → Option Shown
shown None = None
shown (Some r) = Some (record { value = r.value; output = r.output; counts = λ m. count_of m r.trace })

abbrev pub behaviour_of : Program → Behaviour
behaviour_of p = record { runs = λ input. shown (hrun p input); functions = length p.functions; marks = p.marks; loops = loops_in p.functions }

-- an old run and a new one: equal output and value, each old count the sum of the counts of its copies, and no never mark passed
pub record ShowsAlike (c : Listing) (old : Shown) (new : Run) : Type 0 where
  pub value : new.value ≡ old.value
  pub output : new.output ≡ old.output
  pub counts : All (λ e. old.counts e.old ≡ sum_by (λ k. count_of k new.trace) e.new) c.marks
  pub nevers : All (λ v. count_of v.mark new.trace ≡ 0) c.nevers

-- where the old run is good, the new one is, and they show the same
abbrev pub RunsAlike : Listing → Option Shown → Option Run → Type 0
RunsAlike c None new = Unit {0}
RunsAlike c (Some old) None = ⊥
RunsAlike c (Some old) (Some new) = ShowsAlike c old new

-- the bounds of the loop that has a number
abbrev pub bounds_of : List Bounded → ℕ → Option Bounds
bounds_of [] k = None
bounds_of (l ∷ ls) k = if l.id == k then Some l.bounds else bounds_of ls k

-- bounds that a factor makes of old ones
abbrev pub AreBy : Option Bounds → ℕ → Option Bounds → Type 0
AreBy None k new = ⊥
AreBy (Some old) k new = new ≡ Some (by_factor old k)

-- a loop that makes fewer starts
abbrev pub StartsFewer : Option Bounds → ℕ → Type 0
StartsFewer None k = ⊥
StartsFewer (Some old) k = old.most < k

pub record Carries (old : Behaviour) (new : Program) (c : Listing) : Type 0 where
  pub runs : (input : List ℕ) → RunsAlike c (old.runs input) (hrun new input)
  -- each old mark has an entry, and each old loop, in order
  pub marks : map (λ e. e.old) c.marks ≡ range_with_len 0 old.marks
  pub loops : map (λ e. e.old) c.loops ≡ map (λ l. l.id) old.loops
  pub lists : ListsThoseOf new c
  -- a copy of a loop has its bounds by the factor
  pub bounds : All (λ e. All (λ l. (1 ≤ l.factor) × AreBy (bounds_of old.loops e.old) l.factor (bounds_of (loops_in new.functions) l.id)) e.new) c.loops
  -- the functions are the same, and the copies of an opening mark hold that of the same function
  pub functions : length new.functions ≡ old.functions
  pub openings : (f : ℕ) → f < old.functions → Contains (mark_copies c.marks f) f
  pub nevers : All (λ v. StartsFewer (bounds_of old.loops v.old) v.factor) c.nevers
