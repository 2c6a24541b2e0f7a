-- Starts of a loop's body, one after another, each with marks of its own.
use Rattle.std.specs.Prelude.{ℕ, zero, suc, ◌+◌, List, [], ◌++◌, length}
use Rattle.high_ir.specs.Standing.{marks_of}
use Rattle.high_ir.specs.Tree.{Statement, Set, Put, Get, Keep, Mark, Seq, If, Loop, Block, Leave, Call, Return, Statements, End, Then}

abbrev pub mark_count : Statement → ℕ
mark_count s = length (marks_of s)

-- a statement with its marks numbered from m on, in the order in which they stand
abbrev mutual
  pub remarked : ℕ → Statement → Statement
  remarked m (Mark k) = Mark m
  remarked m (Seq parts) = Seq (remarked_all m parts)
  remarked m (If test first other) = If test (remarked m first) (remarked (m + mark_count first) other)
  remarked m (Loop id least most body) = Loop id least most (remarked m body)
  remarked m (Block body) = Block (remarked m body)
  remarked m (Set x e) = Set x e
  remarked m (Put e) = Put e
  remarked m (Get x) = Get x
  remarked m (Keep array i e) = Keep array i e
  remarked m (Leave d) = Leave d
  remarked m (Call f values arrays into) = Call f values arrays into
  remarked m (Return e) = Return e

  pub remarked_all : ℕ → Statements → Statements
  remarked_all m End = End
  remarked_all m (Then first rest) = Then (remarked m first) (remarked_all (m + mark_count first) rest)

-- so many starts of a body, the marks of each numbered on from those of the one before, and then other statements
abbrev pub starts : (count : ℕ) → (m : ℕ) → (body : Statement) → (after : Statements) → Statements
starts zero m body after = after
starts (suc n) m body after = Then (remarked m body) (starts n (m + mark_count body) body after)

-- a list so many times
abbrev pub repeated : ℕ → List ℕ → List ℕ
repeated zero ms = []
repeated (suc n) ms = ms ++ repeated n ms
