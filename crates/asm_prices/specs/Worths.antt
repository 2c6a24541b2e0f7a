-- What laid code is worth: the prices of a block's words, each block as often as its loops may start it, and each call what its function is worth (Li and Malik 1995, loop bounds).
use Rattle.std.specs.Prelude.{◌≡◌, ◌≢◌, ℕ, zero, suc, ◌+◌, ◌*◌, ◌<◌, ◌≤◌, ◌&&◌, nat_le, if◌then◌else◌, Bool, true, false, ℤ, pos, ◌*ℤ◌, ◌≤ℤ◌, List, [], ◌∷◌, map, All, AllPairs, Contains}
use Rattle.rv_core.specs.Images.{Image}
use Rattle.code_flow_system.specs.declared.claims.LoopClaim.{LoopClaim}
use Rattle.code_flow_system.specs.declared.moves.Move.{Move}
use Rattle.code_flow_system.specs.Claims.{Claims}
use Rattle.code_flow_system.specs.Systems.{System, IsSystemOf}
use Rattle.code_flow_system.specs.Counts.{Amounts, total}
use Rattle.code_flow_system.specs.Loose.{most_turns, IsLoose}
use Rattle.asm_items.specs.declared.item.Form.{Form}
use Rattle.asm_items.specs.declared.item.Form.TheVariants.{Short, Inverted, Far}
use Rattle.asm_items.specs.declared.item.Item.{Item}
use Rattle.asm_items.specs.declared.item.Item.TheVariants.{Single, Jump, Call, Branch, Return, Exit}
use Rattle.asm_items.specs.Items.{size}
use Rattle.asm_items.specs.Placings.{Placing, block_of, start_of}
use Rattle.asm_graphs.specs.Graphs.{Loop, Graph}
use Rattle.asm_graphs.specs.Laid.{last_of, IsImageOf}

-- a loop, and how often its header may start for each time that it is entered
pub record LoopBound : Type 0 where
  pub loop : Loop
  pub most : ℕ

-- how often the loops may start a block for each call of its function
abbrev pub times : List LoopBound → ℕ → ℕ
times [] b = 1
times (k ∷ ks) b = (if nat_le k.loop.header b && nat_le b k.loop.latch then k.most else 1) * times ks b

-- n blocks from number b on, each as often as it may start
abbrev pub repeated : (ℕ → ℕ) → List LoopBound → ℕ → ℕ → ℕ
repeated price ks b zero = 0
repeated price ks b (suc n) = times ks b * price b + repeated price ks (suc b) n

-- by address what a move costs there at most; by function what a call of it is worth, and the bounds of its loops
pub record Prices : Type 0 where
  pub of : ℕ → ℕ
  pub worth : ℕ → ℕ
  pub bounds : ℕ → List LoopBound

-- the words of a jump, and of a branch, that stands at an address
abbrev pub jump_price : (ℕ → ℕ) → Bool → ℕ → ℕ
jump_price of false a = of a
jump_price of true a = of a + of (a + 4)

abbrev pub branch_price : (ℕ → ℕ) → Form → ℕ → ℕ
branch_price of Short a = of a
branch_price of Inverted a = of a + of (a + 4)
branch_price of Far a = of a + (of (a + 4) + of (a + 4 + 4))

abbrev pub item_price : (ℕ → ℕ) → (ℕ → ℕ) → ℕ → Item → ℕ
item_price of worth a (Single i) = of a
item_price of worth a (Jump far n) = jump_price of far a
item_price of worth a (Call far f) = jump_price of far a + worth f
item_price of worth a (Branch form c x y n) = branch_price of form a
item_price of worth a Return = of a
item_price of worth a Exit = of a

abbrev pub items_price : (ℕ → ℕ) → (ℕ → ℕ) → ℕ → List Item → ℕ
items_price of worth a [] = 0
items_price of worth a (x ∷ xs) = item_price of worth a x + items_price of worth (a + size x) xs

-- a block in its place
abbrev pub block_price : Placing → Prices → ℕ → ℕ → ℕ
block_price l p f b = items_price p.of p.worth (start_of l f b) (block_of l f b)

-- the bounds are of the loops of the graph, no two of a function begin with one header, and a function is worth all that a call of it may cost
pub record AreWorths (g : Graph) (l : Placing) (p : Prices) : Type 0 where
  pub loops : (f : ℕ) → map (λ (k : LoopBound). k.loop) (p.bounds f) ≡ g.loops f
  pub headers : (f : ℕ) → AllPairs (λ (j : LoopBound) (k : LoopBound). j.loop.header ≢ k.loop.header) (p.bounds f)
  pub functions : (f : ℕ) → f < g.functions → repeated (block_price l p f) (p.bounds f) 0 (g.blocks f) ≤ p.worth f

-- a claim bounds a loop of the graph where it lies
pub record BoundsLoop (g : Graph) (l : Placing) (bounds : ℕ → List LoopBound) (c : LoopClaim) : Type 0 where
  pub function : ℕ
  pub bound : LoopBound
  pub there : function < g.functions
  pub among : Contains (bounds function) bound
  pub header : c.header ≡ start_of l function bound.loop.header
  pub back : c.back ≡ last_of l function bound.loop.latch
  pub most : most_turns c ≤ bound.most

-- each claim bounds a loop, and each loop is bounded
pub record AreBounds (g : Graph) (l : Placing) (bounds : ℕ → List LoopBound) (cs : List LoopClaim) : Type 0 where
  pub each : All (BoundsLoop g l bounds) cs
  pub every : (f : ℕ) (k : LoopBound) → f < g.functions → Contains (bounds f) k → (c : LoopClaim) × Contains cs c × (c.header ≡ start_of l f k.loop.header)

-- the system of an image of laid code, with the worths of its functions and the bounds of its loops
pub record IsPriced (g : Graph) (l : Placing) (main : ℕ) (image : Image) (claims : Claims) (s : System) (p : Prices) : Type 0 where
  pub laid : IsImageOf g l main image claims
  pub system : IsSystemOf image claims s
  pub worths : AreWorths g l p
  pub bounds : AreBounds g l p.bounds claims.loops

-- no loose flow has a total above the unit times what the function is worth at which the image is entered
abbrev pub LooseFlowsAreBounded : Type 0
LooseFlowsAreBounded =
    (g : Graph) (l : Placing) (main : ℕ) (image : Image) (claims : Claims) (s : System) (p : Prices) → IsPriced g l main image claims s p
    → (price : Move → ℤ) → All (λ m. price m ≤ℤ pos (p.of m.at)) s.moves → (unit : ℕ) (x : Amounts) → IsLoose s unit x → total price x s.moves ≤ℤ (pos unit *ℤ pos (p.worth main))
