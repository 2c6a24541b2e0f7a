-- Code that is made from its end: a piece before no block, and what a statement makes of it.
use Rattle.std.specs.Prelude.{ℕ, Bool, true, false, List, [], ◌∷◌, ◌++◌, length, Option, Some, None}
use Rattle.high_ir.specs.Tree as high
use Rattle.low_ir.specs.Code.{End, Jump, Branch, Block, Note}
use Rattle.low_ir.specs.Formed.{only_jump}
use Rattle.lower_definition.specs.Operators.{Code}
use Rattle.lower_definition.specs.Values.{Scope, Coded, Tested}
use Rattle.lower_definition.specs.Statements.{Piece, block, before, joined, landed, marked_by, piece, pieces}

-- a statement, or statements, before what is there
abbrev pub run : Scope → high.Statement → List ℕ → Piece → Piece
run scope s exits p = joined (piece scope s exits (length p.new) p.free p.first) p

abbrev pub run_all : Scope → high.Statements → List ℕ → Piece → Piece
run_all scope ss exits p = joined (pieces scope ss exits (length p.new) p.free p.first) p

abbrev pub with_first : Block ℕ Note → Piece → Piece
with_first k p = record { first = k; new = p.new; loops = p.loops; free = p.free }

-- the block that begins the code has a number now, and a jump to it begins the code
abbrev pub closed : Piece → Piece
closed p = record { first = only_jump (length p.new); new = p.first ∷ p.new; loops = p.loops; free = p.free }

-- the same where that block has a mark
abbrev pub unmarked : Option ℕ → Piece → Piece
unmarked None p = p
unmarked (Some m) p = closed p

-- the same where that block is more than a jump
abbrev pub goal_of : Piece → ℕ
goal_of p = (landed 0 p).goal

abbrev pub landing : Piece → Piece
landing p = record { first = only_jump (goal_of p); new = (landed 0 p).new; loops = p.loops; free = p.free }

-- whether a block does more than jump
abbrev pub is_more : Option ℕ → Code → End ℕ → Bool
is_more None [] (Jump b) = false
is_more mark code end = true

-- instructions, or a mark, in the block that begins the code
abbrev pub with_code : Coded → Piece → Piece
with_code c p = record { first = record { mark = p.first.mark; code = c.code ++ p.first.code; end = p.first.end }; new = p.new; loops = p.loops; free = c.free }

abbrev pub with_mark : ℕ → Piece → Piece
with_mark m p = record { first = record { mark = Some m; code = p.first.code; end = p.first.end }; new = p.new; loops = p.loops; free = p.free }

-- instructions before the code
abbrev pub preceded : Coded → Piece → Piece
preceded c p = joined (before (length p.new) p.first c) p

abbrev pub marked : ℕ → Piece → Piece
marked m p = joined (marked_by p.first.mark m (length p.new) p.first p.free) p

-- a block that doesn't go on to the code
abbrev pub apart : Coded → End ℕ → Piece → Piece
apart c end p = record { first = block c.code end; new = p.new; loops = p.loops; free = c.free }

abbrev pub branched : Tested → (first other : ℕ) → Piece → Piece
branched b first other p = record { first = block b.code (Branch b.condition b.left b.right first other); new = p.new; loops = p.loops; free = b.free }

-- a latch whose header has no number yet
abbrev pub latched : Piece → Piece
latched p = record { first = only_jump (length p.new); new = only_jump 0 ∷ p.new; loops = p.loops; free = p.free }

-- a loop behind whose latch stand these blocks
abbrev pub looped : (id least most : ℕ) → (behind : List (Block ℕ Note)) → (inside : List (Block ℕ Note)) → Piece → Piece
looped id least most behind inside p =
    record {
      first = only_jump (length p.new);
      new = p.first ∷ (inside ++ only_jump (length p.new) ∷ behind);
      loops = record { id = id; least = least; most = most; header = length p.new; latch = length behind } ∷ p.loops;
      free = p.free;
    }
