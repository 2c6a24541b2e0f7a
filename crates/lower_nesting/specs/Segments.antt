-- Parts of a run: the blocks that begin in them, and how often loops start for each of their entries there.
use Rattle.std.specs.Prelude.{◌≡◌, ℕ, ◌+◌, ◌-◌, ◌<◌, ◌≤◌, false, List, [], ◌∷◌, ◌++◌, Some, All, slice_get}
use Rattle.low_ir.specs.declared.run.Began.{Began}
use Rattle.low_ir.specs.Code.{Loop, Function, Low, Note}
use Rattle.low_ir.specs.Turns.{Turns, IsWithin, turns}
use Rattle.lower_definition.specs.Programs.{turned_loop}

abbrev pub AreWithin : Loop → List ℕ → Type 0
AreWithin l [] = Unit {0}
AreWithin l (n ∷ ns) = IsWithin l n × AreWithin l ns

-- the entries of a loop that begin and end among these blocks: how often it started for each, the last entry first
pub record Grew (f : ℕ) (l : Loop) (t : Turns) (es : List Began) : Type 0 where
  pub entries : List ℕ
  pub are : turns f l t es ≡ record { again = false; starts = entries ++ t.starts }
  pub within : AreWithin l entries

-- no entry of the loop lasts beyond these blocks, and each has starts within the loop's bounds
abbrev pub Grown : ℕ → Loop → List Began → Type 0
Grown f l es = (t : Turns) → t.again ≡ false → Grew f l t es

abbrev pub AreBelow : ℕ → List Began → Type 0
AreBelow f [] = Unit {0}
AreBelow f (e ∷ es) = (e.function < f) × AreBelow f es

-- all loops of functions with numbers below f
abbrev pub LoopsGrow : Low → ℕ → List Began → Type 0
LoopsGrow q f es = (g : ℕ) (fn : Function ℕ Note) → slice_get q.functions g ≡ Some fn → g < f → All (λ l. Grown g l es) fn.loops

-- from one trace to a longer one: a part of a run that begins only blocks of functions with numbers below f
pub record Quiet (q : Low) (f : ℕ) (before after : List Began) : Type 0 where
  pub events : List Began
  pub are : after ≡ before ++ events
  pub below : AreBelow f events
  pub loops : LoopsGrow q f events

-- the loops of a piece, whose blocks are those with the numbers from n on, m of them, from the end of the function
pub record Inside (n m : ℕ) (l : Loop) : Type 0 where
  pub latch : n ≤ l.latch
  pub order : l.latch < l.header
  pub header : l.header < n + m

abbrev pub AllInside : ℕ → ℕ → List Loop → Type 0
AllInside n m [] = Unit {0}
AllInside n m (l ∷ ls) = Inside n m l × AllInside n m ls

-- in function f, whose first block has the number `last` from its end
module _ (f last : ℕ) where
  -- the block of a number from the end
  abbrev pub arrival : ℕ → Began
  arrival n = record { function = f; block = last - n }

  -- a block of a piece of it, or of a function of a lower number
  pub record IsOf (n m : ℕ) (e : Began) : Type 0 where
    pub function : e.function ≤ f
    pub own : e.function ≡ f → (e.block + n ≤ last) × (last < e.block + (n + m))

  abbrev pub AllOf : ℕ → ℕ → List Began → Type 0
  AllOf n m [] = Unit {0}
  AllOf n m (e ∷ es) = IsOf n m e × AllOf n m es

  abbrev pub AllGrown : List Began → List Loop → Type 0
  AllGrown es [] = Unit {0}
  AllGrown es (l ∷ ls) = Grown f (turned_loop last l) es × AllGrown es ls

  -- from one trace to a longer one: a part of a run within a piece with these loops
  pub record Segment (q : Low) (n m : ℕ) (ls : List Loop) (before after : List Began) : Type 0 where
    pub events : List Began
    pub are : after ≡ before ++ events
    pub of : AllOf n m events
    pub loops : AllGrown events ls
    pub lower : LoopsGrow q f events

abbrev pub PartsCompose : Type 0
PartsCompose = (f last : ℕ) (q : Low) (n m : ℕ) (ls : List Loop) (a b c : List Began) → Segment f last q n m ls a b → Segment f last q n m ls b c → Segment f last q n m ls a c
