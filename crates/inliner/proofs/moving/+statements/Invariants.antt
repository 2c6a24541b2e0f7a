use Rattle.std.proofs.Common.{◌≡◌, ◌+◌, ◌*◌, drop}
use Rattle.high_code.specs.Code.{joined}
use Rattle.high_ir.specs.Size.{nodes, nodes_all}
use Rattle.high_ir.specs.View.{statement_of, statements_of}
use Rattle.inliner.specs.Moving.{moved_all}
use Rattle.inliner.specs.View.{place_of}
use Rattle.inliner.proofs.moving.+statements.Given as goal

abbrev pub decreases-moved : goal.decreases-moved
decreases-moved l = 4 * nodes (statement_of l.statement.now)

abbrev pub decreases-moved_if : goal.decreases-moved_if
decreases-moved_if l = 4 * nodes (statement_of l.other.now) + 1

abbrev pub decreases-moved_all : goal.decreases-moved_all
decreases-moved_all l = 4 * nodes_all (statements_of l.parts.now) + 1

abbrev pub invariant-moved_all-loop-part : goal.invariant-moved_all-loop-part
invariant-moved_all-loop-part l = joined (statements_of l.made.items) (moved_all (place_of l.place) l.depth (statements_of (drop l.part-index l.parts))) ≡ moved_all (place_of l.place) l.depth (statements_of l.parts)
