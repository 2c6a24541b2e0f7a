-- How much a program in memory has of what is reported.
use Rattle.std.proofs.Common.{◌≡◌, ℕ, ◌+◌, ◌≤◌, List, [], ◌∷◌, ◌++◌, length, map, length-append, Option, Some, None, refl, ap, arith}
use Rattle.std.specs.Prelude.{sum_by}
use Rattle.std.proofs.lemmas.List.{length-map}
use Rattle.std.proofs.lemmas.List.Concat.{flat_map-cons}
use Rattle.std.proofs.lemmas.List.FromFn.{length-range_with_len}
use Rattle.std.proofs.lemmas.List.Sums.{sum_by-cons}
use Rattle.wcc_base.specs.Budgets.{most_instructions, most_operations}
use Rattle.high_ir.specs.Formed.{IsHigh}
use Rattle.high_ir.specs.Size.{operations, operations_all, program_operations}
use Rattle.high_ir.specs.Standing.{loops_in, loops_of, loops_of_all}
use Rattle.high_ir.specs.Tree.{Statement, Set, Put, Get, Keep, Mark, Seq, If, Loop, Block, Leave, Call, Return, Statements, End, Then, Function, Program}
use Rattle.low_ir.specs.Code as low
use Rattle.low_ir.specs.Code.{Low, Note}
use Rattle.low_ir.specs.Places.{Placed}
use Rattle.low_ir.specs.Placings.{assignment_of, placed_of}
use Rattle.low_ir.specs.Programs.{low_of}
use Rattle.low_ir.specs.declared.places.LowReg.{LowReg}
use Rattle.lower_budget.specs.Costs.{marks_at, marks_in}
use Rattle.elf_image.specs.Text.{text_of}
use Rattle.claims_definition.specs.Listed.{Laid, claims_of, places_below}
use Rattle.claims_image.specs.Images.{laid_of}
use Rattle.image_frames.specs.Memories.{Placement}
use Rattle.image_definition.specs.Images.{image_in}
use Rattle.image_definition.specs.Sizes.{HasRoom, globals_size}
use Rattle.layout_program.specs.declared.laid.Laid as lays
use Rattle.layout_relation.specs.Items.{instructions_in}
use Rattle.lower_definition.specs.Objects.{object_of}
use Rattle.simulation_marks.specs.MarkLaws.{blocks_standing, functions_standing, has_mark}
use Rattle.simulation_marks.proofs.Standing.{all_few, all_stand}
use Rattle.compile_stages.specs.Made.{IsInMemory, IsLowered}
use Rattle.compile_high_definitions.specs.Limits.{IsLimited}
use Rattle.compile_capacity.proofs.Functions.{functions_few}
use Rattle.compile_capacity.proofs.Sizes.{limited_fit}
use Rattle.compile_claim_limits.proofs.Images.{text_length}
use Rattle.compile_capacity.proofs.Arrays.{globals_few}

-- each loop is an operation
mutual
  loops_few : (s : Statement) → length (loops_of s) ≤ operations s
  loops_few (Loop id least most body) = let rest = loops_few body in omega (arith, rest)
  loops_few (Seq parts) = let rest = loops_few_all parts in omega (arith, rest)
  loops_few (If test first other) =
      let both = length-append (loops_of first) (loops_of other) in
      let one = loops_few first in
      let rest = loops_few other in
      omega (arith, both, one, rest)
  loops_few (Block body) = let rest = loops_few body in omega (arith, rest)
  loops_few (Set x e) = omega arith
  loops_few (Put e) = omega arith
  loops_few (Get x) = omega arith
  loops_few (Keep array i e) = omega arith
  loops_few (Mark m) = omega arith
  loops_few (Leave d) = omega arith
  loops_few (Call f values arrays into) = omega arith
  loops_few (Return e) = omega arith

  loops_few_all : (ss : Statements) → length (loops_of_all ss) ≤ operations_all ss
  loops_few_all End = omega arith
  loops_few_all (Then first rest) =
      let both = length-append (loops_of first) (loops_of_all rest) in
      let one = loops_few first in
      let more = loops_few_all rest in
      omega (arith, both, one, more)

functions_loops : (fs : List Function) → length (loops_in fs) ≤ sum_by (λ (f : Function). operations f.body + 1) fs
functions_loops [] = omega arith
functions_loops (f ∷ fs) =
    let rest = functions_loops fs in
    let one = loops_few f.body in
    let parts : length (loops_in (f ∷ fs)) ≡ length (loops_of f.body ++ loops_in fs) = ap (λ ls. length ls) (flat_map-cons (λ (x : Function). loops_of x.body) f fs) in
    let both = length-append (loops_of f.body) (loops_in fs) in
    let all = sum_by-cons (λ (x : Function). operations x.body + 1) f fs in
    omega (arith, rest, one, parts, both, all)

program_loops : (p : Program) → IsHigh p → p.loops ≤ program_operations p
program_loops p is_high =
    let few = functions_loops p.functions in
    let many = ap (λ ns. length ns) is_high.loops in
    let ids = length-map (loops_in p.functions) (λ l. l.id) in
    let range = length-range_with_len 0 p.loops in
    omega (arith, few, many, ids, range)

-- marks that stand somewhere, by two names
mark_same : (o : Option ℕ) → has_mark o ≡ marks_in o
mark_same None = refl
mark_same (Some m) = refl

blocks_same : (bs : List (low.Block ℕ Note)) → blocks_standing bs ≡ sum_by marks_at bs
blocks_same [] = refl
blocks_same (b ∷ bs) = let one = mark_same b.mark in let rest = blocks_same bs in let all = sum_by-cons marks_at b bs in omega (arith, one, rest, all)

functions_same : (fns : List (low.Function ℕ Note)) → functions_standing fns ≡ sum_by (λ (fn : low.Function ℕ Note). sum_by marks_at fn.blocks) fns
functions_same [] = refl
functions_same (fn ∷ fns) =
    let one = blocks_same fn.blocks in
    let rest = functions_same fns in
    let all = sum_by-cons (λ (x : low.Function ℕ Note). sum_by marks_at x.blocks) fn fns in
    omega (arith, one, rest, all)

module _ (p : Program) (is_high : IsHigh p) (limited : IsLimited p) (code : LowReg) (lowered : IsLowered p code) (pl : Placement) (y : lays.Laid) (h : IsInMemory pl code y) where
  abbrev q : Low
  q = low_of code.low

  abbrev over : Placed
  over = placed_of code

  abbrev own : Laid
  own = laid_of pl over

  operations_few : program_operations p ≤ most_operations
  operations_few = limited.budgets.operations

  room : HasRoom over
  room = limited_fit p q (assignment_of code) limited lowered.keeps_program lowered.slots

  pub instructions : instructions_in pl over ≤ most_instructions
  instructions =
      let less = (h.keeps_low.small h.moves).instructions in
      let most = room.code in
      omega (arith, less, most)

  pub low_functions : length q.functions ≤ 256
  low_functions =
      let few = functions_few p q lowered.keeps_program in
      let most = limited.functions in
      omega (arith, few, most)

  -- exits and lines of regions, and loops
  pub exits_few : length (claims_of own).exits ≤ most_instructions
  exits_few = let few = h.keeps_low.few.exits in let most = instructions in omega (arith, few, most)

  pub regions_few : length (claims_of own).regions ≤ most_instructions
  regions_few = let few = h.keeps_low.few.regions in let most = instructions in omega (arith, few, most)

  pub claims_loops : length (claims_of own).loops ≤ most_operations
  claims_loops =
      let few = h.keeps_low.few.loops in
      let same = h.keeps_low.rooms.loops in
      let kept = lowered.keeps_program.loops in
      let planned = program_loops p is_high in
      let most = operations_few in
      omega (arith, few, same, kept, planned, most)

  -- the addresses of all marks
  pub places_few : (n : ℕ) → sum_by (λ (l : List ℕ). length l) (places_below own n) ≤ most_operations
  places_few n =
      let few : sum_by (λ (l : List ℕ). length l) (places_below own n) ≤ functions_standing over.functions = all_few own n in
      let stand = all_stand (assignment_of code) q in
      let same = functions_same q.functions in
      let marks = lowered.keeps_program.marks in
      let most = operations_few in
      omega (arith, few, stand, same, marks, most)

  -- the file of the image: its segments are few, and keep code and arrays
  pub image_short : length (text_of (image_in pl over)) ≤ 6619700
  image_short =
      let small = h.keeps_low.small h.moves in
      let text = text_length (image_in pl over) in
      let segments = h.keeps_low.loadable.few in
      let kept = small.kept in
      let code = instructions in
      let globals = globals_few p.objects in
      let same : globals_size over.objects ≡ globals_size (map object_of p.objects) = ap globals_size lowered.keeps_program.objects in
      let most = limited.globals in
      omega (arith, text, segments, kept, code, globals, same, most)
