-- What stands in a statement: its marks, its loops, the functions that it calls, how far it leaves.
use Rattle.std.specs.Prelude.{ℕ, ◌+◌, ◌-◌, max, List, [], ◌∷◌, ◌++◌}
use Rattle.std.specs.List.{flat_map}
use Rattle.high_ir.specs.Tree.{Statement, Set, Put, Get, Keep, Mark, Seq, If, Loop, Block, Leave, Call, Return, Statements, End, Then, Function}

-- how many times a loop starts its body at least and at most
pub record Bounds : Type 0 where
  pub least : ℕ
  pub most : ℕ

pub record Bounded : Type 0 where
  pub id : ℕ
  pub bounds : Bounds

-- the marks, in the order in which they stand
abbrev mutual
  pub marks_of : Statement → List ℕ
  marks_of (Mark m) = m ∷ []
  marks_of (Seq parts) = marks_of_all parts
  marks_of (If test first other) = marks_of first ++ marks_of other
  marks_of (Loop id least most body) = marks_of body
  marks_of (Block body) = marks_of body
  marks_of (Set x e) = []
  marks_of (Put e) = []
  marks_of (Get x) = []
  marks_of (Keep array i e) = []
  marks_of (Leave d) = []
  marks_of (Call f values arrays into) = []
  marks_of (Return e) = []

  pub marks_of_all : Statements → List ℕ
  marks_of_all End = []
  marks_of_all (Then first rest) = marks_of first ++ marks_of_all rest

-- the loops, in the order in which they begin
abbrev mutual
  pub loops_of : Statement → List Bounded
  loops_of (Loop id least most body) = (record { id = id; bounds = record { least = least; most = most } }) ∷ loops_of body
  loops_of (Seq parts) = loops_of_all parts
  loops_of (If test first other) = loops_of first ++ loops_of other
  loops_of (Block body) = loops_of body
  loops_of (Set x e) = []
  loops_of (Put e) = []
  loops_of (Get x) = []
  loops_of (Keep array i e) = []
  loops_of (Mark m) = []
  loops_of (Leave d) = []
  loops_of (Call f values arrays into) = []
  loops_of (Return e) = []

  pub loops_of_all : Statements → List Bounded
  loops_of_all End = []
  loops_of_all (Then first rest) = loops_of first ++ loops_of_all rest

-- the functions that are called
abbrev mutual
  pub callees_of : Statement → List ℕ
  callees_of (Call f values arrays into) = f ∷ []
  callees_of (Seq parts) = callees_of_all parts
  callees_of (If test first other) = callees_of first ++ callees_of other
  callees_of (Loop id least most body) = callees_of body
  callees_of (Block body) = callees_of body
  callees_of (Set x e) = []
  callees_of (Put e) = []
  callees_of (Get x) = []
  callees_of (Keep array i e) = []
  callees_of (Mark m) = []
  callees_of (Leave d) = []
  callees_of (Return e) = []

  pub callees_of_all : Statements → List ℕ
  callees_of_all End = []
  callees_of_all (Then first rest) = callees_of first ++ callees_of_all rest

-- how many blocks have to stand around a statement for its leaves
abbrev mutual
  pub blocks_needed : Statement → ℕ
  blocks_needed (Leave d) = d + 1
  blocks_needed (Block body) = blocks_needed body - 1
  blocks_needed (Seq parts) = blocks_needed_all parts
  blocks_needed (If test first other) = max (blocks_needed first) (blocks_needed other)
  blocks_needed (Loop id least most body) = blocks_needed body
  blocks_needed (Set x e) = 0
  blocks_needed (Put e) = 0
  blocks_needed (Get x) = 0
  blocks_needed (Keep array i e) = 0
  blocks_needed (Mark m) = 0
  blocks_needed (Call f values arrays into) = 0
  blocks_needed (Return e) = 0

  pub blocks_needed_all : Statements → ℕ
  blocks_needed_all End = 0
  blocks_needed_all (Then first rest) = max (blocks_needed first) (blocks_needed_all rest)

-- the same of all functions
abbrev pub marks_in : List Function → List ℕ
marks_in fs = flat_map (λ f. marks_of f.body) fs

abbrev pub loops_in : List Function → List Bounded
loops_in fs = flat_map (λ f. loops_of f.body) fs
