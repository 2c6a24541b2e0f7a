-- What it means that a run in the low form follows a statement of the high form.
use Rattle.std.specs.Prelude.{◌≡◌, ℕ, suc, ◌+◌, ◌-◌, ◌<◌, ◌^◌, ◌≤◌, List, [], ◌∷◌, ◌++◌, length, map, Option, Some, None, option_to_list, slice_get, slice_index_or, true, nat_lt}
use Rattle.high_ir.specs.declared.object.Base.{Base}
use Rattle.high_ir.specs.Meaning as high
use Rattle.high_ir.specs.Meaning.{Outcome, Goes, Leaves, Returns, Bad}
use Rattle.low_ir.specs.declared.run.Began.{Began}
use Rattle.low_ir.specs.Code.{Return, Block, Loop, Function, Low, Note, Operand}
use Rattle.low_ir.specs.Effects.{World}
use Rattle.low_ir.specs.Formed.{only_jump}
use Rattle.low_ir.specs.declared.run.Value.TheVariants.{Word}
use Rattle.low_ir.specs.Runs.{Run, Going, Running, Waiting, Bank, virtual, operand_value, run, begin, write_all}
use Rattle.low_ir.specs.Turns.{marks_passed}
use Rattle.lower_definition.specs.Operators.{Code}
use Rattle.lower_definition.specs.Values.{Scope}
use Rattle.lower_definition.specs.Calls.{place_in}
use Rattle.lower_definition.specs.Programs.{turned, turned_end}
use Rattle.lower_nesting.specs.Segments.{Quiet, Segment, arrival}
use Rattle.lower_values.specs.Meeting.{IsClaimed, MeetsFrame, MeetsWorld, passed_values}

-- a run that goes on
abbrev pub Goer : Type 0
Goer = Running ℕ Note Bank

-- a function of a program: its number, its code, by what it was translated, its blocks as they are numbered from the end, and the
-- number of the first of them
pub record Place : Type 0 where
  pub number : ℕ
  pub code : Function ℕ Note
  pub scope : Scope
  pub blocks : List (Block ℕ Note)
  pub last : ℕ

-- the function is one of the program
pub record IsPlace (q : Low) (at : Place) : Type 0 where
  pub function : slice_get q.functions at.number ≡ Some at.code
  pub blocks : at.code.blocks ≡ map (turned at.last) at.blocks
  pub count : length at.blocks ≡ suc at.last

-- an activation of it: what it was passed, and what waits below it
pub record Activation : Type 0 where
  pub passed : List ℕ
  pub below : List (Waiting ℕ Note Bank)

-- a part of a function: the number of its last block, its blocks, as many as that, and its loops
pub record Extent : Type 0 where
  pub from : ℕ
  pub count : ℕ
  pub loops : List Loop

abbrev pub extent : ℕ → List (Block ℕ Note) → List Loop → Extent
extent n new loops = record { from = n; count = length new; loops = loops }

-- after some steps
pub record After (q : Low) (z : Run ℕ Note Bank) (P : Goer → Type 0) : Type 0 where
  pub steps : ℕ
  pub state : Goer
  pub is : run virtual q steps z ≡ Going state
  pub holds : P state

module _ (q : Low) (at : Place) where
  -- the block of a number from the end
  pub record IsAt (n : ℕ) (b : Block ℕ Note) : Type 0 where
    pub below : n ≤ at.last
    pub block : slice_get at.code.blocks (at.last - n) ≡ Some (turned at.last b)

  -- blocks, the last of which has this number
  abbrev pub Stand : ℕ → List (Block ℕ Note) → Type 0
  Stand n [] = Unit {0}
  Stand n (b ∷ bs) = IsAt (n + length bs) b × Stand n bs

  module _ (act : Activation) where
    -- a state of a high run, and the mark of the block that began, if any, which is still to be passed
    pub record Meets (st : high.State) (mark : Option ℕ) (r : Goer) : Type 0 where
      pub function : r.top.func ≡ at.number
      pub below : r.below ≡ act.below
      pub size : length r.top.store ≡ at.code.size
      pub world : MeetsWorld at.scope st.world r.world
      pub frame : MeetsFrame at.scope q.claims act.passed st.variables r.top.store
      pub marks : marks_passed q r.world.trace ≡ st.trace ++ option_to_list mark

    -- the run stands at the beginning of code
    pub record Entered (b : Block ℕ Note) (st : high.State) (r : Goer) : Type 0 where
      pub meets : Meets st b.mark r
      pub code : r.top.code ≡ b.code
      pub end : r.top.end ≡ turned_end at.last b.end

    -- the block of this number has just begun, behind this trace
    pub record Begun (n : ℕ) (st : high.State) (so_far : List Began) (r : Goer) : Type 0 where
      pub block : Block ℕ Note
      pub is : IsAt n block
      pub entered : Entered block st r
      pub began : r.world.trace ≡ so_far ++ arrival at.number at.last n ∷ []

    -- at code with this trace, or where it only jumps, there already; the block that one came to is not in the trace then
    pub data Here (b : Block ℕ Note) (st : high.State) (so_far : List Began) (r : Goer) : Type 0 where
      Inside : (entered : Entered b st r) (began : r.world.trace ≡ so_far) → Here b st so_far r
      Ahead : (n : ℕ) (jumps : b ≡ only_jump n) (begun : Begun n st so_far r) → Here b st so_far r

    -- about to return a value
    pub record Returning (v : ℕ) (w : high.World) (trace : List ℕ) (so_far : List Began) (r : Goer) : Type 0 where
      pub small : v < 2 ^ 32
      pub below : r.below ≡ act.below
      pub code : r.top.code ≡ []
      pub operand : Operand ℕ
      pub end : r.top.end ≡ Return operand
      pub value : operand_value virtual r.top.store operand ≡ Some (Word v)
      pub world : MeetsWorld at.scope w r.world
      pub marks : marks_passed q r.world.trace ≡ trace
      pub began : r.world.trace ≡ so_far

    -- further on, with a longer trace, by way of blocks of this part alone and of functions that were called
    pub record Reached (x : Extent) (so_far : List Began) (P : List Began → Goer → Type 0) (r : Goer) : Type 0 where
      pub now : List Began
      pub part : Segment at.number at.last q x.from x.count x.loops so_far now
      pub holds : P now r

    -- the same state, further on in a block
    pub record Onward (st : high.State) (rest : Code) (r z : Goer) : Type 0 where
      pub meets : Meets st None z
      pub code : z.top.code ≡ rest
      pub end : z.top.end ≡ r.top.end
      pub quiet : Quiet q at.number r.world.trace z.world.trace

    -- the run follows an outcome, to code, to an exit, or to a return
    abbrev pub Does : Extent → List Began → Run ℕ Note Bank → Block ℕ Note → List ℕ → Outcome → Type 0
    Does x so_far z k exits (Goes st) = After q z (Reached x so_far (Here k st))
    Does x so_far z k exits (Leaves d st) = After q z (Reached x so_far (Begun (slice_index_or exits d 0) st))
    Does x so_far z k exits (Returns v w t) = After q z (Reached x so_far (Returning v w t))
    Does x so_far z k exits Bad = Unit {0}

-- what a call passes are arrays of the claims of the function that is called, where they are there
abbrev pub Enters : Low → Place → List ℕ → Type 0
Enters q callee ns = (j o : ℕ) → slice_get ns j ≡ Some o → j < length callee.scope.claims → o < callee.scope.objects → IsClaimed callee.scope q.claims j o

-- words
abbrev pub AreSmall : List ℕ → Type 0
AreSmall [] = Unit {0}
AreSmall (v ∷ vs) = (v < 2 ^ 32) × AreSmall vs

-- about to return what a call gives, and what began since the call
pub record Answers (q : Low) (callee : Place) (act : Activation) (given : high.Given) (so_far : List Began) (r : Goer) : Type 0 where
  pub returning : Returning q callee act given.value given.world given.trace r.world.trace r
  pub quiet : Quiet q (suc callee.number) so_far r.world.trace

-- the code of a function does what a call of the high form gives
abbrev pub CallDoes : Low → high.Calls → ℕ → Place → Type 0
CallDoes q call f callee =
    (vs ns : List ℕ) (w : high.World) (trace : List ℕ) (given : high.Given) → call f vs ns w trace ≡ Some given → AreSmall vs → Enters q callee ns
    → (below : List (Waiting ℕ Note Bank)) (u : World) → MeetsWorld callee.scope w u → marks_passed q u.trace ≡ trace
    → After q (begin below u callee.number callee.code (write_all virtual (Some (virtual.empty callee.code.size)) callee.code.parameters (passed_values callee.scope.objects vs ns)))
    (Answers q callee (record { passed = ns; below = below }) given u.trace)

-- a call in the code of a function: which function it is, and that it may be called so
pub record Serves (q : Low) (at : Place) (call : high.Calls) (f : ℕ) (arrays : List Base) : Type 0 where
  pub callee : Place
  pub is_place : IsPlace q callee
  pub number : place_in at.scope.order f ≡ callee.number
  pub lower : nat_lt callee.number at.number ≡ true
  pub objects : callee.scope.objects ≡ at.scope.objects
  pub does : CallDoes q call f callee
  -- what is passed is of the claims, where what was passed to the function itself is
  pub claimed : (passed ns : List ℕ) → length passed ≡ length at.scope.claims → Enters q at passed → high.objects_of passed arrays ≡ Some ns → Enters q callee ns
