use Rattle.std.proofs.Common.{◌≡◌, ◌+◌, ◌*◌, drop}
use Rattle.types_tree.specs.View.{items_of, statement_of}
use Rattle.high_code.specs.Code.{joined}
use Rattle.plan_definition.specs.Statements.{all_planned, parts_planned}
use Rattle.make_pieces.specs.View.{code_of}
use Rattle.make_statement.specs.Parts.{parts_of}
use Rattle.make_statement.specs.Planned.{exits_of, plan_said}
use Rattle.make_statement.specs.Sizes.{item_size, items_size, statement_size}
use Rattle.make_statement.proofs.walk.+statements.Given as goal

abbrev pub decreases-planned : goal.decreases-planned
decreases-planned l = 8 * statement_size (statement_of l.statement.now)

abbrev pub decreases-and_planned : goal.decreases-and_planned
decreases-and_planned l = 8 * statement_size (statement_of l.statement.now) + 1

abbrev pub decreases-round : goal.decreases-round
decreases-round l = 8 * statement_size (statement_of l.body.now) + 1

abbrev pub decreases-and_round : goal.decreases-and_round
decreases-and_round l = 8 * statement_size (statement_of l.body.now) + 2

abbrev pub decreases-and_item : goal.decreases-and_item
decreases-and_item l = 8 * item_size l.item.now + 2

abbrev pub decreases-all_planned : goal.decreases-all_planned
decreases-all_planned l = 8 * items_size (items_of l.items.now) + 3

abbrev pub decreases-parts_behind : goal.decreases-parts_behind
decreases-parts_behind l = 8 * item_size l.item.now + 3

abbrev pub decreases-parts : goal.decreases-parts
decreases-parts l = 8 * items_size (items_of l.items.now) + 4

abbrev pub decreases-chosen_if : goal.decreases-chosen_if
decreases-chosen_if l = 8 * statement_size (statement_of l.then.now) + 2

abbrev pub decreases-chosen_else : goal.decreases-chosen_else
decreases-chosen_else l = 8 * (statement_size (statement_of l.then.now) + statement_size (statement_of l.otherwise.now)) + 2

abbrev pub decreases-chosen_part : goal.decreases-chosen_part
decreases-chosen_part l = 8 * items_size (items_of l.items.now) + 5

abbrev pub invariant-all_planned-loop-item : goal.invariant-all_planned-loop-item
invariant-all_planned-loop-item l =
    joined (code_of l.code) (all_planned (plan_said l.plan) (items_of (drop l.item-index l.items)) l.k (exits_of l.exits)) ≡ all_planned (plan_said l.plan) (items_of l.items) l.k (exits_of l.exits)

abbrev pub invariant-parts-loop-item : goal.invariant-parts-loop-item
invariant-parts-loop-item l =
    parts_of l.noted l.parts (parts_planned (plan_said l.plan) (items_of (drop l.item-index l.items)) l.noted (l.parts.number + 1) l.k (exits_of l.exits))
    ≡ parts_of l.noted l.initial.parts (parts_planned (plan_said l.plan) (items_of l.items) l.noted 1 l.k (exits_of l.exits))
