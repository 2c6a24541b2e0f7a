-- What is promised of the claims on laid code.
use Rattle.std.specs.Prelude.{◌≡◌, ℕ, ◌+◌, ◌*◌, ◌%◌, ◌<◌, ◌≤◌, List, [], ◌∷◌, length, None, Some, All, Contains, slice_get, sum_by, take}
use Rattle.rv_core.specs.Images.{Image}
use Rattle.code_flow_system.specs.declared.claims.LoopClaim.{LoopClaim}
use Rattle.code_flow_system.specs.Claims.{AreSound}
use Rattle.code_flow_system.specs.Systems.{IsFalseExit}
use Rattle.asm_graphs.specs.Laid.{IsImageOf}
use Rattle.asm_items.specs.Items.{total}
use Rattle.asm_items.specs.Placings.{block_of, blocks_of, start_of}
use Rattle.asm_forms.specs.Regions.{functions_size}
use Rattle.asm_placed.specs.Written.{RowsApart}
use Rattle.low_ir.specs.Code.{Loop}
use Rattle.low_ir.specs.Formed.{mark_of}
use Rattle.asm_program.specs.Formed.{IsProgram}
use Rattle.asm_program.specs.Functions.{PlacedFunction, function_in, graph_of, program_items}
use Rattle.claims_definition.specs.AccessLaws.{AreLines, IsNamed}
use Rattle.claims_definition.specs.Lines.{Access, access_at}
use Rattle.claims_definition.specs.Touches.{Touch}
use Rattle.claims_definition.specs.Listed.{CodeRange, Laid, accesses_of, claims_of, code_range, code_ranges, functions_of, loop_claim, loops_of, places_of, placing, regions_of, touches_at}

-- a program whose functions lie in two rows
pub record IsSettled (l : Laid) : Type 0 where
  pub program : IsProgram l.program
  pub named : IsNamed l.program
  pub frames : length l.memory.frames ≤ length l.program.functions
  pub rows : RowsApart l.rows (program_items l.memory l.program)

-- no claim is bad
abbrev pub ClaimsAreSound : Type 0
ClaimsAreSound = (l : Laid) → IsSettled l → AreSound (claims_of l)

-- each load and store lies in a line that has the regions of what it touches
abbrev pub AccessesHaveLines : Type 0
AccessesHaveLines = (l : Laid) → IsSettled l → AreLines (accesses_of l) (regions_of l)

-- a place of a mark: where a block with the mark begins
pub record IsPlaceOf (l : Laid) (mark a : ℕ) : Type 0 where
  pub function : ℕ
  pub block : ℕ
  pub marked : mark_of l.program function block ≡ Some mark
  pub is : a ≡ start_of (placing l) function block

-- addresses from one on, in order, at multiples of 4
abbrev pub Rise : ℕ → List ℕ → Type 0
Rise a [] = Unit {0}
Rise a (x ∷ xs) = (a ≤ x) × ((x % 4 ≡ 0) × Rise (x + 4) xs)

pub record HasPlaces (l : Laid) (mark : ℕ) : Type 0 where
  pub rise : Rise 0 (places_of l mark)
  -- they are where its blocks begin
  pub each : All (IsPlaceOf l mark) (places_of l mark)
  pub every : (f b : ℕ) → mark_of l.program f b ≡ Some mark → Contains (places_of l mark) (start_of (placing l) f b)

-- each mark has its places, as many as blocks, and no two marks share one
abbrev pub MarksHavePlaces : Type 0
MarksHavePlaces = (l : Laid) → IsSettled l → (mark : ℕ) → HasPlaces l mark

abbrev pub PlacesAreApart : Type 0
PlacesAreApart = (l : Laid) → IsSettled l → (m n a : ℕ) → IsPlaceOf l m a → IsPlaceOf l n a → m ≡ n

-- a claim of a loop of the program: its number and bounds, its header and its jump back
pub record IsClaimOf (l : Laid) (c : LoopClaim) : Type 0 where
  pub function : ℕ
  pub loop : Loop
  pub there : Contains (function_in l.program function).loops loop
  pub is : c ≡ loop_claim l function loop

pub record AreLoopClaims (l : Laid) : Type 0 where
  pub each : All (IsClaimOf l) (loops_of l)
  -- each loop has its claim
  pub every : (f : ℕ) (k : Loop) → Contains (function_in l.program f).loops k → Contains (loops_of l) (loop_claim l f k)

abbrev pub LoopsAreClaimed : Type 0
LoopsAreClaimed = (l : Laid) → IsSettled l → AreLoopClaims l

-- ranges that ascend and share no address
abbrev pub RangesAscend : ℕ → List CodeRange → Type 0
RangesAscend a [] = Unit {0}
RangesAscend a (r ∷ rs) = (a ≤ r.first) × ((r.first < r.end) × RangesAscend r.end rs)

pub record AreRanges (l : Laid) : Type 0 where
  pub ascend : RangesAscend 0 (code_ranges l)
  -- each function has its own, which begins with its first block
  pub every : (f : ℕ) → f ≤ length l.program.functions → Contains (code_ranges l) (code_range l f)
  pub begins : (f : ℕ) → f ≤ length l.program.functions → (code_range l f).first ≡ start_of (placing l) f 0
  -- the start code alone has no name
  pub unnamed : (code_range l (length l.program.functions)).function ≡ None

abbrev pub RangesHold : Type 0
RangesHold = (l : Laid) → IsSettled l → AreRanges l

-- no more exits, and no more lines of regions, than instructions; no more loop claims than loops
pub record AreFew (l : Laid) : Type 0 where
  pub exits : 4 * length (claims_of l).exits ≤ functions_size (functions_of l)
  pub regions : 4 * length (claims_of l).regions ≤ functions_size (functions_of l)
  pub loops : length (claims_of l).loops ≤ sum_by (λ (fn : PlacedFunction). length fn.loops) l.program.functions

abbrev pub ClaimsAreFew : Type 0
ClaimsAreFew = (l : Laid) → IsSettled l → AreFew l

-- whatever an item of a block may access is among the accesses, at the item's address
abbrev pub AccessesAreListed : Type 0
AccessesAreListed =
    (l : Laid) → IsSettled l → (f b j : ℕ) (t : Touch) (x : Access) → f ≤ length l.program.functions → b < length (blocks_of (placing l) f) → j < length (block_of (placing l) f b) → slice_get (touches_at l f b) j ≡ Some t
    → Contains (access_at l.regions (start_of (placing l) f b + total (take j (block_of (placing l) f b))) t) x → Contains (accesses_of l) x

-- no listed exit is anything but an ECALL, in an image that holds the program
abbrev pub ExitsAreCalls : Type 0
ExitsAreCalls = (l : Laid) (image : Image) → IsImageOf (graph_of l.memory l.program) (placing l) (length l.program.functions) image (claims_of l) → (n : ℕ) → IsFalseExit image (claims_of l) n → ⊥
