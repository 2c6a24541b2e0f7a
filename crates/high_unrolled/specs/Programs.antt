-- The program with its innermost loops by a factor, and what became of marks and loops.
use Rattle.std.specs.Prelude.{ℕ, ◌+◌, ◌-◌, ◌==◌, Bool, not, ◌&&◌, List, [], ◌∷◌, length, map, sum_by, if◌then◌else◌}
use Rattle.std.specs.List.{range_with_len}
use Rattle.wcc_base.specs.Budgets.{most_operations}
use Rattle.high_ir.specs.Size.{expr_operations}
use Rattle.high_ir.specs.Tree.{Statement, Set, Put, Get, Keep, Mark, Seq, If, Loop, Block, Leave, Call, Return, Statements, End, Then, Function, Program}
use Rattle.high_ir.specs.declared.copies.NeverMark.{NeverMark}
use Rattle.high_pass.specs.Listing.{Listing, MarkEntry}
use Rattle.high_unrolled.specs.declared.made.Made.{Made}
use Rattle.high_unrolled.specs.declared.made.Made.TheVariants.{CopyOf, Behind}
use Rattle.high_unrolled.specs.Factor.{has_loop}
use Rattle.high_unrolled.specs.Unrolling.{Place, Became, around, behind, same, spread}

-- an innermost loop that makes no start is always unrolled, which leaves two operations of it
abbrev pub is_idle : (most : ℕ) → (body : Statement) → Bool
is_idle most body = (most == 0) && not (has_loop body)

-- the operations of a statement that is left where its idle loops are unrolled
abbrev mutual
  pub busy : Statement → ℕ
  busy (Loop id least most body) = if is_idle most body then 2 else busy body + 1
  busy (Seq parts) = busy_all parts + 1
  busy (If test first other) = expr_operations test + busy first + busy other + 1
  busy (Block body) = busy body + 1
  busy (Set x e) = expr_operations e + 1
  busy (Put e) = expr_operations e + 1
  busy (Get x) = 1
  busy (Keep array i e) = expr_operations i + expr_operations e + 1
  busy (Mark m) = 1
  busy (Leave d) = 1
  busy (Call f values arrays into) = sum_by expr_operations values + length values + length arrays + 1
  busy (Return e) = expr_operations e + 1

  pub busy_all : Statements → ℕ
  busy_all End = 0
  busy_all (Then first rest) = busy first + busy_all rest

abbrev pub program_busy : Program → ℕ
program_busy p = sum_by (λ f. busy f.body + 1) p.functions

-- where the first loop stands: the budget of operations leaves so much room
abbrev pub begun : Program → Place
begun p = record { room = most_operations - program_busy p; marks = p.marks; loops = 0 }

abbrev pub with_body : Function → Statement → Function
with_body f body = record { values = f.values; arrays = f.arrays; locals = f.locals; rank = f.rank; body = body }

module _ (k : ℕ) where
  abbrev pub function_spread : Place → Function → Became Function
  function_spread z f = around (with_body f) (spread k 0 z f.body)

  abbrev pub functions_spread : Place → List Function → Became (List Function)
  functions_spread z [] = same z []
  functions_spread z (f ∷ fs) = behind (λ g gs. g ∷ gs) z (function_spread z f) (λ w. functions_spread w fs)

  abbrev pub program_spread : Program → Became (List Function)
  program_spread p = functions_spread (begun p) p.functions

  abbrev pub unrolled : Program → Program
  unrolled p = record {
    functions = (program_spread p).code;
    objects = p.objects;
    main = p.main;
    marks = p.marks + length (program_spread p).made;
    loops = (program_spread p).loops;
  }

-- the copies of a mark among new marks that are numbered from n on
abbrev pub copies_from : ℕ → List Made → ℕ → List ℕ
copies_from n [] mark = []
copies_from n (CopyOf m ∷ rest) mark = if m == mark then n ∷ copies_from (n + 1) rest mark else copies_from (n + 1) rest mark
copies_from n (Behind l ∷ rest) mark = copies_from (n + 1) rest mark

-- and the never marks among them
abbrev pub nevers_from : (factor : ℕ) → ℕ → List Made → List NeverMark
nevers_from k n [] = []
nevers_from k n (CopyOf m ∷ rest) = nevers_from k (n + 1) rest
nevers_from k n (Behind l ∷ rest) = (record { mark = n; old = l; factor = k }) ∷ nevers_from k (n + 1) rest

-- each mark is a copy of itself, where it still stands
abbrev pub copies_of : ℕ → List Made → ℕ → MarkEntry
copies_of n made mark = record { old = mark; new = mark ∷ copies_from n made mark }

abbrev pub listing : (factor : ℕ) → Program → Listing
listing k p = record {
  marks = map (copies_of p.marks (program_spread k p).made) (range_with_len 0 p.marks);
  loops = (program_spread k p).entries;
  nevers = nevers_from k p.marks (program_spread k p).made;
}
