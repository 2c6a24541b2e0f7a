-- Blocks as they are numbered from the end of a function, and what they lead to.
use Rattle.std.specs.Prelude.{◌≡◌, ◌⊎◌, ℕ, ◌+◌, ◌<◌, ◌≤◌, List, [], ◌∷◌, length, Option, Some, None, slice_index_or}
use Rattle.low_ir.specs.Code.{End, Jump, Branch, Return, Block, Loop, Note}
use Rattle.low_ir.specs.Formed.{only_jump}

-- each number to which an end leads
abbrev pub Goes : (ℕ → Type 0) → End ℕ → Type 0
Goes P (Jump b) = P b
Goes P (Branch c x y taken other) = P taken × P other
Goes P (Return x) = Unit {0}

abbrev pub AllGo : (ℕ → Type 0) → List (Block ℕ Note) → Type 0
AllGo P [] = Unit {0}
AllGo P (b ∷ bs) = Goes P b.end × AllGo P bs

-- each exit
abbrev pub Exits : (ℕ → Type 0) → List ℕ → Type 0
Exits P exits = (d : ℕ) → d < length exits → P (slice_index_or exits d 0)

-- each block with its number; the last one has the number n
abbrev pub Each : (ℕ → Block ℕ Note → Type 0) → ℕ → List (Block ℕ Note) → Type 0
Each Q n [] = Unit {0}
Each Q n (b ∷ bs) = Q (n + length bs) b × Each Q n bs

abbrev pub EachLoop : (Loop → Type 0) → List Loop → Type 0
EachLoop P [] = Unit {0}
EachLoop P (l ∷ ls) = P l × EachLoop P ls

-- i is the latch and j the header of one of these loops
abbrev pub Back : List Loop → ℕ → ℕ → Type 0
Back [] i j = ⊥
Back (l ∷ ls) i j = ((l.latch ≡ i) × (l.header ≡ j)) ⊎ Back ls i j

-- a jump to what is behind, or back
abbrev pub Falls : List Loop → ℕ → ℕ → Type 0
Falls ls i j = (j < i) ⊎ Back ls i j

-- a jump that doesn't come into a loop but to its header
abbrev pub Well : Loop → ℕ → Type 0
Well l j = l.latch ≤ j → j ≤ l.header → j ≡ l.header

-- a block, as a loop wants it: the latch only jumps back, and others come into the loop by its header
pub record LoopAt (l : Loop) (i : ℕ) (b : Block ℕ Note) : Type 0 where
  pub latch : i ≡ l.latch → b ≡ only_jump l.header
  pub well : (i < l.latch) ⊎ (l.header < i) → Goes (Well l) b.end

-- of two loops one stands in the other whole, or they stand apart
abbrev pub StandsWhole : Loop → Loop → Type 0
StandsWhole k l = k.latch ≤ l.header → l.header ≤ k.header → (l.header < k.header) × (k.latch < l.latch)

abbrev pub Nest : Loop → Loop → Type 0
Nest k l = StandsWhole k l × StandsWhole l k

abbrev pub AllNest : List Loop → Type 0
AllNest [] = Unit {0}
AllNest (l ∷ ls) = EachLoop (Nest l) ls × AllNest ls

-- a mark
abbrev pub Marked : (ℕ → Type 0) → Option ℕ → Type 0
Marked P None = Unit {0}
Marked P (Some m) = P m

abbrev pub AllMarked : (ℕ → Type 0) → List (Block ℕ Note) → Type 0
AllMarked P [] = Unit {0}
AllMarked P (b ∷ bs) = Marked P b.mark × AllMarked P bs

abbrev pub AllOf : (ℕ → Type 0) → List ℕ → Type 0
AllOf P [] = Unit {0}
AllOf P (n ∷ ns) = P n × AllOf P ns
