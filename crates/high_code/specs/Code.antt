-- Pieces of code, and the variables that they assign.
use Rattle.std.specs.Prelude.{ℕ, ◌+◌, ◌<◌, ◌==◌, max, Bool, true, false, ◌||◌, Option, Some, None}
use Rattle.high_ir.specs.Tree.{Statement, Set, Put, Get, Keep, Mark, Seq, If, Loop, Block, Leave, Call, Return, Statements, End, Then}

-- a piece of code, and then another
abbrev pub joined : Statements → Statements → Statements
joined End after = after
joined (Then first rest) after = Then first (joined rest after)

-- a piece of one statement
abbrev pub alone : Statement → Statements
alone s = Then s End

abbrev pub nothing : Statement
nothing = Seq End

abbrev pub is_empty : Statements → Bool
is_empty End = true
is_empty (Then first rest) = false

abbrev pub assigns_into : ℕ → Option ℕ → Bool
assigns_into x None = false
assigns_into x (Some y) = y == x

-- whether code assigns a variable
abbrev mutual
  pub assigns : ℕ → Statement → Bool
  assigns x (Set y e) = y == x
  assigns x (Put e) = false
  assigns x (Get y) = y == x
  assigns x (Keep array i e) = false
  assigns x (Mark m) = false
  assigns x (Seq parts) = assigns_any x parts
  assigns x (If test first other) = assigns x first || assigns x other
  assigns x (Loop id least most body) = assigns x body
  assigns x (Block body) = assigns x body
  assigns x (Leave d) = false
  assigns x (Call f values arrays into) = assigns_into x into
  assigns x (Return e) = false

  pub assigns_any : ℕ → Statements → Bool
  assigns_any x End = false
  assigns_any x (Then first rest) = assigns x first || assigns_any x rest

abbrev pub IntoWithin : ℕ → Option ℕ → Type 0
IntoWithin n None = Unit {0}
IntoWithin n (Some x) = x < n

-- code assigns only variables below a number
abbrev mutual
  pub Within : ℕ → Statement → Type 0
  Within n (Set x e) = x < n
  Within n (Put e) = Unit {0}
  Within n (Get x) = x < n
  Within n (Keep array i e) = Unit {0}
  Within n (Mark m) = Unit {0}
  Within n (Seq parts) = AllWithin n parts
  Within n (If test first other) = Within n first × Within n other
  Within n (Loop id least most body) = Within n body
  Within n (Block body) = Within n body
  Within n (Leave d) = Unit {0}
  Within n (Call f values arrays into) = IntoWithin n into
  Within n (Return e) = Unit {0}

  pub AllWithin : ℕ → Statements → Type 0
  AllWithin n End = Unit {0}
  AllWithin n (Then first rest) = Within n first × AllWithin n rest

abbrev pub into_needed : Option ℕ → ℕ
into_needed None = 0
into_needed (Some x) = x + 1

-- how many variables a frame needs for what code assigns
abbrev mutual
  pub frame_needed : Statement → ℕ
  frame_needed (Set x e) = x + 1
  frame_needed (Put e) = 0
  frame_needed (Get x) = x + 1
  frame_needed (Keep array i e) = 0
  frame_needed (Mark m) = 0
  frame_needed (Seq parts) = frame_needed_all parts
  frame_needed (If test first other) = max (frame_needed first) (frame_needed other)
  frame_needed (Loop id least most body) = frame_needed body
  frame_needed (Block body) = frame_needed body
  frame_needed (Leave d) = 0
  frame_needed (Call f values arrays into) = into_needed into
  frame_needed (Return e) = 0

  pub frame_needed_all : Statements → ℕ
  frame_needed_all End = 0
  frame_needed_all (Then first rest) = max (frame_needed first) (frame_needed_all rest)
