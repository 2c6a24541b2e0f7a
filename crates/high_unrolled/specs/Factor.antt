-- A loop by a factor: some starts of its body, and then a loop whose body is so many of them as the factor says.
use Rattle.std.specs.Prelude.{ℕ, ◌+◌, ◌-◌, ◌*◌, Bool, true, false, not, ◌&&◌, ◌||◌, nat_le, nat_lt, if◌then◌else◌}
use Rattle.wcc_base.specs.Budgets.{most_depth}
use Rattle.high_ir.specs.Size.{depth, operations}
use Rattle.high_ir.specs.Splitting.{peeled, split}
use Rattle.high_ir.specs.Standing.{Bounds}
use Rattle.high_ir.specs.Tree.{Statement, Set, Put, Get, Keep, Mark, Seq, If, Loop, Block, Leave, Call, Return, Statements, End, Then}
use Rattle.high_unrolled.specs.Starts.{mark_count, starts}

-- a loop as it stands
pub record Rolled : Type 0 where
  pub id : ℕ
  pub bounds : Bounds
  pub body : Statement

abbrev pub as_loop : (id least most : ℕ) → (body : Statement) → Rolled
as_loop id least most body = record { id = id; bounds = record { least = least; most = most }; body = body }

-- whether a loop stands within a statement
abbrev mutual
  pub has_loop : Statement → Bool
  has_loop (Loop id least most body) = true
  has_loop (Seq parts) = has_loop_any parts
  has_loop (If test first other) = has_loop first || has_loop other
  has_loop (Block body) = has_loop body
  has_loop (Set x e) = false
  has_loop (Put e) = false
  has_loop (Get x) = false
  has_loop (Keep array i e) = false
  has_loop (Mark m) = false
  has_loop (Leave d) = false
  has_loop (Call f values arrays into) = false
  has_loop (Return e) = false

  pub has_loop_any : Statements → Bool
  has_loop_any End = false
  has_loop_any (Then first rest) = has_loop first || has_loop_any rest

-- how many starts come before the loop
abbrev pub first_starts : ℕ → Rolled → ℕ
first_starts k x = peeled x.bounds.most k

-- a loop of fewer starts than the factor is these starts alone, and no good run comes to the mark behind them; new marks are numbered from m on
abbrev pub ended : (m : ℕ) → Rolled → Statement
ended m x = Seq (starts x.bounds.most m x.body (Then (Mark (m + x.bounds.most * mark_count x.body)) End))

-- so many starts at a time
abbrev pub grouped : (k m : ℕ) → Rolled → Statement
grouped k m x = Seq (starts k m x.body End)

abbrev pub turned : (k m number : ℕ) → Rolled → Statement
turned k m number x =
    Seq (starts (first_starts k x) m x.body (Then (Loop number (split x.bounds k).least (split x.bounds k).most (grouped k (m + first_starts k x * mark_count x.body) x)) End))

-- whether a loop makes fewer starts than the factor
abbrev pub is_short : ℕ → Rolled → Bool
is_short k x = nat_lt x.bounds.most k

-- how many operations stand where the loop stood
abbrev pub operations_by : ℕ → Rolled → ℕ
operations_by k x = if is_short k x then 2 + x.bounds.most * operations x.body else 3 + (first_starts k x + k) * operations x.body

-- how many more they are
abbrev pub growth : ℕ → Rolled → ℕ
growth k x = operations_by k x - (operations x.body + 1)

-- how deep they are at most
abbrev pub depth_by : ℕ → Rolled → ℕ
depth_by k x = if is_short k x then depth x.body + 1 else depth x.body + 3

-- whether a loop that so many statements stand around passes no budget by the factor
abbrev pub fits : (k room level : ℕ) → Rolled → Bool
fits k room level x = nat_le (growth k x) room && nat_le (level + depth_by k x) most_depth

-- whether a loop is unrolled: an innermost one that fits; a factor of 1 changes nothing
abbrev pub is_taken : (k room level : ℕ) → Rolled → Bool
is_taken k room level x = nat_le 2 k && (not (has_loop x.body) && fits k room level x)
