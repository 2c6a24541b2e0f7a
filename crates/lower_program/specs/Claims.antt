-- What is claimed of the code of statements and functions: it does what they do.
use Rattle.std.specs.Prelude.{◌≡◌, ℕ, ◌+◌, ◌≤◌, List, ◌∷◌, length, Some, slice_get, slice_index_or}
use Rattle.high_ir.specs.Meaning as high
use Rattle.high_ir.specs.Runs.{enter}
use Rattle.high_ir.specs.Tree.{Statement, Set, Put, Get, Keep, Mark, Seq, If, Loop, Block, Leave, Call, Return, Statements, End, Then}
use Rattle.high_ir.specs.Tree as tree
use Rattle.high_ir.specs.Whole.{AreWordy, IsWordy}
use Rattle.low_ir.specs.declared.run.Began.{Began}
use Rattle.low_ir.specs.Code.{Jump, Branch, Low, Note}
use Rattle.low_ir.specs.Code as code
use Rattle.low_ir.specs.Runs.{Going}
use Rattle.lower_definition.specs.Values.{Scope, first_free}
use Rattle.lower_definition.specs.Statements.{Piece, piece}
use Rattle.lower_definition.specs.Programs.{body_piece, lowered_function}
use Rattle.lower_program.specs.Following.{Goer, Place, Activation, Extent, Stand, Here, Does, CallDoes, IsPlace, Serves, extent}

-- where an end jumps to, as a number from the end of the function, is a block
abbrev pub LeadsWithin : ℕ → code.End ℕ → Type 0
LeadsWithin last (Jump n) = n ≤ last
LeadsWithin last (Branch c x y taken other) = Unit {0}
LeadsWithin last (code.Return x) = Unit {0}

-- what surrounds a statement: free registers, the exits of the blocks around it, and what is behind it
pub record Around (at : Place) (exits : List ℕ) (t : ℕ) (k : code.Block ℕ Note) : Type 0 where
  pub free : first_free at.scope ≤ t
  pub outs : (d : ℕ) → slice_index_or exits d 0 ≤ at.last
  pub behind : LeadsWithin at.last k.end

-- a piece has its place in the function
pub record Fits (q : Low) (at : Place) (n : ℕ) (p : Piece) : Type 0 where
  pub registers : p.free ≤ at.code.size
  pub blocks : n + length p.new ≤ at.last
  pub stand : Stand q at n p.new

-- the blocks of a piece, and its loops
abbrev pub whole : ℕ → Piece → Extent
whole n p = extent n p.new p.loops

-- wherever the code of a statement stands, a run that comes to it does what the statement does
abbrev pub IsFollowed : (q : Low) (at : Place) (act : Activation) (call : high.Calls) → Statement → Type 0
IsFollowed q at act call s =
    (exits : List ℕ) (n t : ℕ) (k : code.Block ℕ Note) (st : high.State) (so_far : List Began) (r : Goer)
    → Around at exits t k → Fits q at n (piece at.scope s exits n t k) → Here q at act (piece at.scope s exits n t k).first st so_far r
    → Does q at act (whole n (piece at.scope s exits n t k)) so_far (Going r) k exits (high.run Some call act.passed s st)

-- what a statement has to have: its constants are words, and the functions that it calls serve
module _ (q : Low) (at : Place) (call : high.Calls) where
  abbrev mutual
    pub IsSound : Statement → Type 0
    IsSound (Set x e) = IsWordy e
    IsSound (Put e) = IsWordy e
    IsSound (Get x) = Unit {0}
    IsSound (Keep array i e) = IsWordy i × IsWordy e
    IsSound (Mark m) = Unit {0}
    IsSound (Seq parts) = AreSound parts
    IsSound (If test first other) = IsWordy test × (IsSound first × IsSound other)
    IsSound (Loop id least most body) = IsSound body
    IsSound (Block body) = IsSound body
    IsSound (Leave d) = Unit {0}
    IsSound (Call f values arrays into) = AreWordy values × Serves q at call f arrays
    IsSound (Return e) = IsWordy e

    pub AreSound : Statements → Type 0
    AreSound End = Unit {0}
    AreSound (Then first rest) = IsSound first × AreSound rest

abbrev pub StatementsAreFollowed : Type 0
StatementsAreFollowed = (q : Low) (at : Place) (act : Activation) (call : high.Calls) (s : Statement) → IsPlace q at → IsSound q at call s → IsFollowed q at act call s

-- a function of the low program, as it was translated
abbrev pub built : (number : ℕ) → Scope → (f : ℕ) → tree.Function → Place
built number scope f h =
    let p = body_piece scope f h.body in
    record { number = number; code = lowered_function scope f h; scope = scope; blocks = p.first ∷ p.new; last = length p.new }

-- a function stands in the program, with as many variables and arrays as it has, and its body is sound
pub record Stands (q : Low) (call : high.Calls) (number : ℕ) (scope : Scope) (f : ℕ) (h : tree.Function) : Type 0 where
  pub there : slice_get q.functions number ≡ Some (lowered_function scope f h)
  pub variables : scope.variables ≡ h.values + h.locals
  pub claims : length scope.claims ≡ h.arrays
  pub sound : IsSound q (built number scope f h) call h.body

abbrev pub FunctionsDo : Type 0
FunctionsDo =
    (q : Low) (call : high.Calls) (number : ℕ) (scope : Scope) (f : ℕ) (h : tree.Function) → Stands q call number scope f h → CallDoes q (enter Some (Some h) call) f (built number scope f h)
