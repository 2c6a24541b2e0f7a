-- The program in the low form that a program in the high form becomes.
use Rattle.std.specs.Prelude.{ℕ, ◌+◌, ◌-◌, Bool, nat_le, List, [], ◌∷◌, ◌++◌, length, map, Option, Some, None, slice_get, slice_index_or}
use Rattle.std.specs.List.{flat_map, range_with_len}
use Rattle.high_ir.specs.Size.{program_nodes}
use Rattle.high_ir.specs.Tree as high
use Rattle.low_ir.specs.Code.{Constant, End, Jump, Branch, Return, Block, Loop, Function, Low, Note}
use Rattle.lower_definition.specs.Objects.{object_of}
use Rattle.lower_definition.specs.Values.{Scope, first_free}
use Rattle.lower_definition.specs.Calls.{Passed, order, place_in, all_passed, numbered, claims_among}
use Rattle.lower_definition.specs.Statements.{Piece, block, pieces}

-- numbers of blocks from the beginning of a function, where they are given from its end and the first block has the number `last`
abbrev pub turned_end : ℕ → End ℕ → End ℕ
turned_end last (Jump b) = Jump (last - b)
turned_end last (Branch condition x y taken other) = Branch condition x y (last - taken) (last - other)
turned_end last (Return x) = Return x

abbrev pub turned : ℕ → Block ℕ Note → Block ℕ Note
turned last b = record { mark = b.mark; code = b.code; end = turned_end last b.end }

abbrev pub turned_loop : ℕ → Loop → Loop
turned_loop last l = record { id = l.id; least = l.least; most = l.most; header = last - l.header; latch = last - l.latch }

-- the code of a function: its opening mark, and then its body; no good run comes to its end
abbrev pub body_piece : Scope → ℕ → high.Statement → Piece
body_piece scope f body = pieces scope (high.Then (high.Mark f) (high.Then body high.End)) [] 0 (first_free scope) (block [] (Return (Constant 0)))

abbrev pub function_of : Scope → high.Function → Piece → Function ℕ Note
function_of scope h p =
    record {
      parameters = range_with_len 0 h.values ++ range_with_len scope.variables h.arrays;
      size = p.free;
      loops = map (turned_loop (length p.new)) p.loops;
      blocks = map (turned (length p.new)) (p.first ∷ p.new);
    }

abbrev pub lowered_function : Scope → ℕ → high.Function → Function ℕ Note
lowered_function scope f h = function_of scope h (body_piece scope f h.body)

-- a program whose nodes, each twice, are no more than the operations that programs have
unfoldable pub is_small : high.Program → Bool
is_small p = nat_le (program_nodes p) 49152

-- the functions of a program behind those that have n claims; it has each function of its order
module _ (p : high.Program) (passed : Passed) where
  abbrev pub scope_of : high.Function → List (Option ℕ) → Scope
  scope_of h claims = record { variables = h.values + h.locals; claims = claims; objects = length p.objects; order = order p; shifts = is_small p }

  abbrev pub lowered_in : ℕ → ℕ → Option high.Function → List (Function ℕ Note)
  lowered_in n f None = []
  lowered_in n f (Some h) = lowered_function (scope_of h (numbered n (slice_index_or passed f []))) f h ∷ []

  abbrev pub lowered_functions : ℕ → List ℕ → List (Function ℕ Note)
  lowered_functions n [] = []
  lowered_functions n (f ∷ fs) = lowered_in n f (slice_get p.functions f) ++ lowered_functions (n + length (claims_among (slice_index_or passed f []))) fs

  abbrev pub lowered_by : Low
  lowered_by =
      record {
        functions = lowered_functions 0 (order p);
        claims = flat_map (λ f. claims_among (slice_index_or passed f [])) (order p);
        objects = map object_of p.objects;
        main = place_in (order p) p.main;
        marks = p.marks;
      }

abbrev pub lowered : high.Program → Low
lowered p = lowered_by p (all_passed p)
