use Rattle.std.proofs.Common.{◌≡◌, ◌+◌, ◌*◌, drop, map}
use Rattle.high_ir.specs.View.{function_of}
use Rattle.lower_definition.specs.Calls.{visited, visited_all}
use Rattle.low_make.proofs.order.+visits.Given as goal

abbrev pub decreases-visit : goal.decreases-visit
decreases-visit l = 2 * l.depth

abbrev pub decreases-visit_all : goal.decreases-visit_all
decreases-visit_all l = 2 * l.depth + 1

abbrev pub invariant-visit_all-loop-f : goal.invariant-visit_all-loop-f
invariant-visit_all-loop-f l =
    visited_all (visited (map function_of l.functions) l.depth) (drop l.f-index l.numbers) l.done.items
    ≡ visited_all (visited (map function_of l.functions) l.depth) l.numbers l.initial.done.items
