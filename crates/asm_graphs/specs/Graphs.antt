-- Programs as graphs: blocks that follow blocks, functions that call functions, and loops of blocks.
use Rattle.std.specs.Prelude.{◌≡◌, ◌⊎◌, ℕ, ◌<◌, ◌≤◌, List, Contains}

-- a loop: the blocks from its header to its latch, which alone goes back
pub record Loop : Type 0 where
  pub header : ℕ
  pub latch : ℕ

-- by function: how many blocks it has, its loops, and the functions that it calls; by block, which blocks follow it
pub record Graph : Type 0 where
  pub functions : ℕ
  pub blocks : ℕ → ℕ
  pub follows : ℕ → ℕ → List ℕ
  pub calls : ℕ → List ℕ
  pub loops : ℕ → List Loop

abbrev pub IsIn : Loop → ℕ → Type 0
IsIn l b = (l.header ≤ b) × (b ≤ l.latch)

abbrev pub IsOutside : Loop → ℕ → Type 0
IsOutside l b = (b < l.header) ⊎ (l.latch < b)

-- two loops have no block in common, or one lies in the other
abbrev pub AreNested : Loop → Loop → Type 0
AreNested k l = (k.latch < l.header) ⊎ ((l.latch < k.header) ⊎ (((l.header ≤ k.header) × (k.latch ≤ l.latch)) ⊎ ((k.header ≤ l.header) × (l.latch ≤ k.latch))))

-- calls go to lower numbers; blocks to later ones, but for a latch to its header; a loop is entered at its header alone
pub record IsShaped (g : Graph) : Type 0 where
  pub some : (f : ℕ) → f < g.functions → 0 < g.blocks f
  pub stays : (f b n : ℕ) → Contains (g.follows f b) n → n < g.blocks f
  pub falls : (f callee : ℕ) → Contains (g.calls f) callee → callee < f
  pub first : (f : ℕ) (l : Loop) → Contains (g.loops f) l → 0 < l.header
  pub range : (f : ℕ) (l : Loop) → Contains (g.loops f) l → l.header ≤ l.latch
  pub last : (f : ℕ) (l : Loop) → Contains (g.loops f) l → l.latch < g.blocks f
  pub up : (f b n : ℕ) → Contains (g.follows f b) n → (b < n) ⊎ ((l : Loop) × Contains (g.loops f) l × (b ≡ l.latch) × (n ≡ l.header))
  pub into : (f : ℕ) (l : Loop) (b n : ℕ) → Contains (g.loops f) l → Contains (g.follows f b) n → IsIn l n → IsOutside l b → n ≡ l.header
  pub nested : (f : ℕ) (k l : Loop) → Contains (g.loops f) k → Contains (g.loops f) l → AreNested k l
