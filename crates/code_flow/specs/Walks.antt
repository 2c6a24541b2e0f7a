-- What a walk from the entry has seen.
use Rattle.std.specs.Prelude.{◌≡◌, ◌⊎◌, ℕ, ◌+◌, ◌*◌, ◌≤◌, List, [], ◌∷◌, length, Bool, true, false, not, Option, Some, None, Contains, slice_index_or, count_by}
use Rattle.rv_core.specs.Machine.{behind}
use Rattle.rv_core.specs.Instructions.{Instruction}
use Rattle.code_flow_system.specs.declared.moves.Way.{Way}
use Rattle.code_flow_system.specs.declared.moves.Way.TheVariants.{Next, Branches, Jumps, Calls, Ends, Strays}
use Rattle.std.specs.List.Sorted.{IsSorted}
use Rattle.std.specs.Ordering.{nat_cmp}
use Rattle.rv_core.specs.Images.{Image, AreLoadable}
use Rattle.code_flow_system.specs.Claims.{Claims}
use Rattle.code_flow_system.specs.Moves.{Code, code_of, way_of, fetch_before}
use Rattle.code_flow_system.specs.Reach.{IsReached}
use Rattle.code_flow.specs.declared.walk.Walk.{Walk}
use Rattle.code_flow.specs.Places.{place_of, all_places}

-- how an address goes on: without an instruction it strays
abbrev pub way_by_fetch : Code → ℕ → Option Instruction → Way
way_by_fetch c a None = Strays
way_by_fetch c a (Some i) = way_of (c.exit a) (fetch_before c a) a i

abbrev pub way_at : Code → ℕ → Way
way_at c a = way_by_fetch c a (c.fetch a)

-- where a way arrives
abbrev pub targets : Way → ℕ → List ℕ
targets Next a = behind a ∷ []
targets (Branches to) a = behind a ∷ to ∷ []
targets (Jumps to) a = to ∷ []
targets (Calls to) a = to ∷ behind a ∷ []
targets Ends a = []
targets Strays a = []

abbrev pub IsMarked : List Bool → ℕ → Type 0
IsMarked marks p = slice_index_or marks p false ≡ true

-- an address with a place is marked there, and another one is listed
abbrev pub IsSeenAt : Walk → ℕ → Option ℕ → Type 0
IsSeenAt w a (Some p) = IsMarked w.marks.items p
IsSeenAt w a None = Contains w.others.items a

abbrev pub IsSeen : Walk → ℕ → Type 0
IsSeen w a = IsSeenAt w a (place_of a)

-- each unmarked place can still be put on the list of those to be visited
abbrev pub left : Walk → ℕ
left w = 2 * count_by not w.marks.items + length w.work.items

-- so many places, of which none is marked
pub record AreUnmarked (n : ℕ) (marks : List Bool) : Type 0 where
  pub long : length marks ≡ n
  pub none : (p : ℕ) → slice_index_or marks p false ≡ false

-- a walk that has seen nothing
pub record IsFresh (w : Walk) : Type 0 where
  pub marks : AreUnmarked all_places w.marks.items
  pub others : w.others.items ≡ []
  pub work : w.work.items ≡ []

-- the walk has seen these addresses too, and new ones that have a place are still to be visited
pub record Sees (new : List ℕ) (w v : Walk) : Type 0 where
  pub long : length v.marks.items ≡ length w.marks.items
  pub grows : (a : ℕ) → IsSeen w a → IsSeen v a
  pub sees : (a : ℕ) → Contains new a → IsSeen v a
  pub keeps : (a : ℕ) → Contains w.work.items a → Contains v.work.items a
  pub from : (a : ℕ) → IsSeen v a → IsSeen w a ⊎ (Contains new a × ((place_of a ≡ None) ⊎ Contains v.work.items a))
  pub work_from : (a : ℕ) → Contains v.work.items a → Contains w.work.items a ⊎ IsSeen v a
  pub others_from : (a : ℕ) → Contains v.others.items a → Contains w.others.items a ⊎ (place_of a ≡ None)
  pub falls : left v ≤ left w

-- the walk has seen exactly what is reached
pub record IsReach (c : Code) (entry : ℕ) (w : Walk) : Type 0 where
  pub long : length w.marks.items ≡ all_places
  pub others : (a : ℕ) → Contains w.others.items a → place_of a ≡ None
  pub sound : (a : ℕ) → IsSeen w a → IsReached c entry a
  pub complete : (a : ℕ) → IsReached c entry a → IsSeen w a

-- the walk is that of an image that can be loaded and of claims, and lists other addresses in order
pub record Found (image : Image) (claims : Claims) (w : Walk) : Type 0 where
  pub loadable : AreLoadable image.segments
  pub reach : IsReach (code_of image claims) image.entry w
  pub sorted : IsSorted nat_cmp w.others.items
