-- Each loop of a program in the high form is one of its nodes, so it has few.
use Rattle.std.proofs.Common.{◌≡◌, ◌^◌, ◌<◌, ◌≤◌, List, [], ◌∷◌, ◌++◌, length, sym, ap, ◌∙◌, arith, length-append}
use Rattle.std.specs.Prelude.{sum_by}
use Rattle.std.proofs.lemmas.List.{length-map}
use Rattle.std.proofs.lemmas.List.Concat.{flat_map-cons}
use Rattle.std.proofs.lemmas.List.FromFn.{length-range_with_len}
use Rattle.std.proofs.lemmas.List.Sums.{sum_by-cons}
use Rattle.high_ir.specs.Formed.{IsHigh}
use Rattle.high_ir.specs.Size.{function_nodes, nodes, nodes_all}
use Rattle.high_ir.specs.Standing.{Bounded, loops_in, loops_of, loops_of_all}
use Rattle.high_ir.specs.Tree.{Block, Call, End, Function, Get, If, Keep, Leave, Loop, Mark, Program, Put, Return, Seq, Set, Statement, Statements, Then}

mutual
  statement_loops : (s : Statement) → length (loops_of s) ≤ nodes s
  statement_loops (Set x e) = omega arith
  statement_loops (Put e) = omega arith
  statement_loops (Get x) = omega arith
  statement_loops (Keep array i e) = omega arith
  statement_loops (Mark m) = omega arith
  statement_loops (Seq parts) = let all = all_loops parts in omega (arith, all)
  statement_loops (If test first other) =
      let both = length-append (loops_of first) (loops_of other) in
      let a = statement_loops first in
      let b = statement_loops other in
      omega (arith, both, a, b)
  statement_loops (Loop id least most body) = let inner = statement_loops body in omega (arith, inner)
  statement_loops (Block body) = let inner = statement_loops body in omega (arith, inner)
  statement_loops (Leave d) = omega arith
  statement_loops (Call f values arrays into) = omega arith
  statement_loops (Return e) = omega arith

  all_loops : (parts : Statements) → length (loops_of_all parts) ≤ nodes_all parts
  all_loops End = omega arith
  all_loops (Then first rest) =
      let both = length-append (loops_of first) (loops_of_all rest) in
      let a = statement_loops first in
      let b = all_loops rest in
      omega (arith, both, a, b)

functions_loops : (fs : List Function) → length (loops_in fs) ≤ sum_by function_nodes fs
functions_loops [] = omega arith
functions_loops (f ∷ fs) =
    let both : length (loops_in (f ∷ fs)) ≡ length (loops_of f.body ++ loops_in fs) = ap length (flat_map-cons (λ (g : Function). loops_of g.body) f fs) in
    let all = length-append (loops_of f.body) (loops_in fs) in
    let sum = sum_by-cons function_nodes f fs in
    let here = statement_loops f.body in
    let rest = functions_loops fs in
    omega (arith, both, all, sum, here, rest)

pub few_loops : (p : Program) → IsHigh p → p.loops < 2 ^ 26
few_loops p high =
    let count : length (loops_in p.functions) ≡ p.loops = sym (length-map (loops_in p.functions) (λ (l : Bounded). l.id)) ∙ ap length high.loops ∙ length-range_with_len 0 p.loops in
    let inside = functions_loops p.functions in
    let most = high.nodes in
    omega (arith, count, inside, most)
