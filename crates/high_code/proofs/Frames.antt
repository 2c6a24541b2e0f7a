-- A frame that has the variables which code needs has those that it assigns.
use Rattle.std.proofs.Common.{ℕ, ◌+◌, ◌<◌, ◌≤◌, max, Option, Some, None, arith}
use Rattle.high_ir.specs.Tree.{Statement, Set, Put, Get, Keep, Mark, Seq, If, Loop, Block, Leave, Call, Return, Statements, End, Then}
use Rattle.high_code.specs.Code.{Within, AllWithin, IntoWithin, frame_needed, frame_needed_all, into_needed}

within_first : (n a b : ℕ) → max a b ≤ n → a ≤ n
within_first n a b le = omega (arith, le)

within_second : (n a b : ℕ) → max a b ≤ n → b ≤ n
within_second n a b le = omega (arith, le)

one_more : (n x : ℕ) → x + 1 ≤ n → x < n
one_more n x le = omega (arith, le)

into_within : (n : ℕ) (into : Option ℕ) → into_needed into ≤ n → IntoWithin n into
into_within n None le = tt
into_within n (Some x) le = one_more n x le

mutual
  pub within-needed : (n : ℕ) (s : Statement) → frame_needed s ≤ n → Within n s
  within-needed n (Set x e) le = one_more n x le
  within-needed n (Put e) le = tt
  within-needed n (Get x) le = one_more n x le
  within-needed n (Keep array i e) le = tt
  within-needed n (Mark m) le = tt
  within-needed n (Seq parts) le = all_within-needed n parts le
  within-needed n (If test first other) le =
      (within-needed n first (within_first n (frame_needed first) (frame_needed other) le), within-needed n other (within_second n (frame_needed first) (frame_needed other) le))
  within-needed n (Loop id least most body) le = within-needed n body le
  within-needed n (Block body) le = within-needed n body le
  within-needed n (Leave d) le = tt
  within-needed n (Call f values arrays into) le = into_within n into le
  within-needed n (Return e) le = tt

  pub all_within-needed : (n : ℕ) (parts : Statements) → frame_needed_all parts ≤ n → AllWithin n parts
  all_within-needed n End le = tt
  all_within-needed n (Then first rest) le =
      (within-needed n first (within_first n (frame_needed first) (frame_needed_all rest) le), all_within-needed n rest (within_second n (frame_needed first) (frame_needed_all rest) le))
