-- What a program in the high form keeps to.
use Rattle.std.specs.Prelude.{◌≡◌, ◌<◌, ◌≤◌, ◌^◌, List, length, map, All}
use Rattle.std.specs.List.{range_with_len}
use Rattle.wcc_base.specs.Budgets.{most_depth}
use Rattle.high_ir.specs.Tree.{Function, Program}
use Rattle.high_ir.specs.Runs.{rank_or}
use Rattle.high_ir.specs.Size.{program_nodes, program_depth}
use Rattle.high_ir.specs.Standing.{marks_in, loops_in, callees_of, blocks_needed}

-- a call goes to a function that is there and whose rank is lower
abbrev pub RanksFall : List Function → Function → Type 0
RanksFall fs f = All (λ g. rank_or fs g f.rank < f.rank) (callees_of f.body)

-- each leave has its block
abbrev pub LeavesWithin : Function → Type 0
LeavesWithin f = blocks_needed f.body ≡ 0

pub record IsHigh (p : Program) : Type 0 where
  pub main : p.main < length p.functions
  -- the first marks are the opening marks, and they stand nowhere else
  pub openings : length p.functions ≤ p.marks
  pub others : All (λ m. length p.functions ≤ m) (marks_in p.functions)
  pub marks : All (λ m. m < p.marks) (marks_in p.functions)
  -- the loops have the numbers from 0 on
  pub loops : map (λ l. l.id) (loops_in p.functions) ≡ range_with_len 0 p.loops
  pub leaves : All LeavesWithin p.functions
  pub ranks : All (RanksFall p.functions) p.functions
  pub depth : program_depth p ≤ most_depth
  pub nodes : program_nodes p < 2 ^ 26
