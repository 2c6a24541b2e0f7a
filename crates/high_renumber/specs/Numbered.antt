-- Programs whose marks and loops stand for those of another program, and get numbers of their own.
use Rattle.std.specs.Prelude.{ℕ, ◌+◌, ◌==◌, if◌then◌else◌, List, [], ◌∷◌, ◌++◌, length, map}
use Rattle.std.specs.List.{range_with_len}
use Rattle.high_ir.specs.declared.copies.LoopCopy.{LoopCopy}
use Rattle.high_ir.specs.Standing.{Bounded, loops_in, loops_of, marks_in, marks_of}
use Rattle.high_ir.specs.Tree.{Statement, Set, Put, Get, Keep, Mark, Seq, If, Loop, Block, Leave, Call, Return, Statements, End, Then, Function, Program}
use Rattle.high_pass.specs.Listing.{Listing, LoopEntry, MarkEntry}

-- a statement with its marks and its loops numbered from these numbers on, in the order in which they stand
abbrev mutual
  pub numbered : (mark loop : ℕ) → Statement → Statement
  numbered mark loop (Mark m) = Mark mark
  numbered mark loop (Seq parts) = Seq (numbered_all mark loop parts)
  numbered mark loop (If test first other) = If test (numbered mark loop first) (numbered (mark + length (marks_of first)) (loop + length (loops_of first)) other)
  numbered mark loop (Loop id least most body) = Loop loop least most (numbered mark (loop + 1) body)
  numbered mark loop (Block body) = Block (numbered mark loop body)
  numbered mark loop (Set x e) = Set x e
  numbered mark loop (Put e) = Put e
  numbered mark loop (Get x) = Get x
  numbered mark loop (Keep array i e) = Keep array i e
  numbered mark loop (Leave d) = Leave d
  numbered mark loop (Call f values arrays into) = Call f values arrays into
  numbered mark loop (Return e) = Return e

  pub numbered_all : (mark loop : ℕ) → Statements → Statements
  numbered_all mark loop End = End
  numbered_all mark loop (Then first rest) = Then (numbered mark loop first) (numbered_all (mark + length (marks_of first)) (loop + length (loops_of first)) rest)

abbrev pub function_numbered : (mark loop : ℕ) → Function → Function
function_numbered mark loop f = record { values = f.values; arrays = f.arrays; locals = f.locals; rank = f.rank; body = numbered mark loop f.body }

abbrev pub functions_numbered : (mark loop : ℕ) → List Function → List Function
functions_numbered mark loop [] = []
functions_numbered mark loop (f ∷ fs) = function_numbered mark loop f ∷ functions_numbered (mark + length (marks_of f.body)) (loop + length (loops_of f.body)) fs

-- which mark each new mark is a copy of, by its number: the first ones are the opening marks
abbrev pub mark_origins : List Function → List ℕ
mark_origins fs = range_with_len 0 (length fs) ++ marks_in fs

-- the numbers of loops
abbrev pub ids : List Bounded → List ℕ
ids ls = map (λ l. l.id) ls

-- which loop each new loop is a copy of
abbrev pub loop_origins : List Function → List ℕ
loop_origins fs = ids (loops_in fs)

abbrev pub renumbered : Program → Program
renumbered p = record {
  functions = functions_numbered (length p.functions) 0 p.functions;
  objects = p.objects;
  main = p.main;
  marks = length (mark_origins p.functions);
  loops = length (loop_origins p.functions);
}

-- the places of a number in a list, counted from a number on
abbrev pub places : ℕ → List ℕ → ℕ → List ℕ
places i [] x = []
places i (o ∷ os) x = if o == x then i ∷ places (i + 1) os x else places (i + 1) os x

-- a copy of a loop that has as many starts
abbrev pub once : ℕ → LoopCopy
once id = record { id = id; factor = 1 }

abbrev pub mark_at : List ℕ → ℕ → MarkEntry
mark_at origins k = record { old = k; new = places 0 origins k }

abbrev pub loop_at : List ℕ → ℕ → LoopEntry
loop_at origins k = record { old = k; new = map once (places 0 origins k) }

-- the copies of these marks and loops
abbrev pub copies_by : (marks loops : ℕ) → (mark_origins loop_origins : List ℕ) → Listing
copies_by marks loops mark_origins loop_origins = record {
  marks = map (mark_at mark_origins) (range_with_len 0 marks);
  loops = map (loop_at loop_origins) (range_with_len 0 loops);
  nevers = [];
}

abbrev pub copies_in : Program → Listing
copies_in p = copies_by p.marks p.loops (mark_origins p.functions) (loop_origins p.functions)
