use Rattle.std.proofs.Common.{◌≡◌, ◌+◌, ◌-◌, ◌*◌, drop, map}
use Rattle.facts_definitions.specs.Most.{bounds_at}
use Rattle.types_tree.specs.View.{declaration_of, expr_of, exprs_of, initial_of, items_of, object_of, place_of, start_of, statement_of}
use Rattle.meaning_semantics.specs.Statements.{all_declared, listed, loop_of, looped, turns}
use Rattle.c_meaning.specs.Scopes.{calls_of, run_from_in, run_items_in, source_of, values_in}
use Rattle.c_meaning.proofs.Behind.{behind}
use Rattle.c_meaning.proofs.Room.{declaration_size, expr_size, exprs_size, initial_size, item_size, items_size, objects_size, place_size, room, start_size, statement_size}
use Rattle.c_meaning.proofs.walk.+walk.Given as goal

abbrev pub invariant-values-loop-expr : goal.invariant-values-loop-expr
invariant-values-loop-expr l =
    behind l.words.items (values_in l.scope (exprs_of (drop l.expr-index l.exprs)) l.state) ≡ values_in l.scope (exprs_of l.exprs) l.fn.state

abbrev pub invariant-list-loop-expr : goal.invariant-list-loop-expr
invariant-list-loop-expr l =
    let all = listed (source_of l.scope) (calls_of l.scope) in
    (l.index ≡ l.expr-index) × (all (exprs_of (drop l.expr-index l.exprs)) l.object.0 l.at l.index l.state ≡ all (exprs_of l.exprs) l.object.0 l.at 0 l.fn.state)

abbrev pub invariant-declare_objects-loop-object : goal.invariant-declare_objects-loop-object
invariant-declare_objects-loop-object l =
    let all = all_declared (source_of l.scope) (calls_of l.scope) in
    all (map object_of (drop l.object-index l.objects)) l.state ≡ all (map object_of l.objects) l.fn.state

abbrev pub invariant-repeat-loop : goal.invariant-repeat-loop
invariant-repeat-loop l =
    let loop = loop_of (source_of l.scope) (calls_of l.scope) (statement_of l.of) l.at in
    turns loop (l.end - l.counter) l.owed l.state ≡ looped (bounds_at l.scope.bounds.now l.fn.number.0) loop l.fn.state

abbrev pub invariant-run_from-loop-index : goal.invariant-run_from-loop-index
invariant-run_from-loop-index l =
    let all = run_from_in l.scope l.found l.word in
    all (items_of (drop l.index l.items)) l.state ≡ all (items_of l.items) l.fn.state

abbrev pub invariant-run_items-loop-item : goal.invariant-run_items-loop-item
invariant-run_items-loop-item l = run_items_in l.scope (items_of (drop l.item-index l.items)) l.state ≡ run_items_in l.scope (items_of l.items) l.fn.state

abbrev pub decreases-find : goal.decreases-find
decreases-find l = l.scope.now.depth * room l.scope.now.program.now.functions.items + 8 * place_size (place_of l.place.now)

abbrev pub decreases-both : goal.decreases-both
decreases-both l = l.scope.now.depth * room l.scope.now.program.now.functions.items + 8 * (expr_size (expr_of l.left.now) + expr_size (expr_of l.right.now)) + 4

abbrev pub decreases-target : goal.decreases-target
decreases-target l = l.scope.now.depth * room l.scope.now.program.now.functions.items + 8 * (place_size (place_of l.place.now) + expr_size (expr_of l.right.now)) + 4

abbrev pub decreases-truth_of : goal.decreases-truth_of
decreases-truth_of l = l.scope.now.depth * room l.scope.now.program.now.functions.items + 8 * expr_size (expr_of l.expr.now) + 4

abbrev pub decreases-value : goal.decreases-value
decreases-value l = l.scope.now.depth * room l.scope.now.program.now.functions.items + 8 * expr_size (expr_of l.expr.now) + 3

abbrev pub decreases-values : goal.decreases-values
decreases-values l = l.scope.now.depth * room l.scope.now.program.now.functions.items + 8 * exprs_size (exprs_of l.exprs.now) + 4

abbrev pub decreases-invoke : goal.decreases-invoke
decreases-invoke l = l.scope.now.depth * room l.scope.now.program.now.functions.items + 8 * exprs_size (exprs_of l.arguments.now) + 5

abbrev pub decreases-call : goal.decreases-call
decreases-call l = l.scope.now.depth * room l.scope.now.program.now.functions.items

abbrev pub decreases-run_body : goal.decreases-run_body
decreases-run_body l = l.scope.now.depth * room l.scope.now.program.now.functions.items + 8 * items_size (items_of l.body.now) + 2

abbrev pub decreases-drop_value : goal.decreases-drop_value
decreases-drop_value l = l.scope.now.depth * room l.scope.now.program.now.functions.items + 8 * expr_size (expr_of l.expr.now) + 4

abbrev pub decreases-list : goal.decreases-list
decreases-list l = l.scope.now.depth * room l.scope.now.program.now.functions.items + 8 * exprs_size (exprs_of l.exprs.now) + 4

abbrev pub decreases-initialize : goal.decreases-initialize
decreases-initialize l = l.scope.now.depth * room l.scope.now.program.now.functions.items + 8 * initial_size (initial_of l.initial.now)

abbrev pub decreases-declare_objects : goal.decreases-declare_objects
decreases-declare_objects l = l.scope.now.depth * room l.scope.now.program.now.functions.items + 8 * objects_size (map object_of l.objects.now) + 1

abbrev pub decreases-declare : goal.decreases-declare
decreases-declare l = l.scope.now.depth * room l.scope.now.program.now.functions.items + 8 * declaration_size (declaration_of l.declaration.now)

abbrev pub decreases-begin : goal.decreases-begin
decreases-begin l = l.scope.now.depth * room l.scope.now.program.now.functions.items + 8 * start_size (start_of l.start.now)

abbrev pub decreases-test : goal.decreases-test
decreases-test l = l.scope.now.depth * room l.scope.now.program.now.functions.items + 8 * statement_size (statement_of l.of.now) + 1

abbrev pub decreases-follow : goal.decreases-follow
decreases-follow l = l.scope.now.depth * room l.scope.now.program.now.functions.items + 8 * statement_size (statement_of l.of.now) + 1

abbrev pub decreases-run_loop_body : goal.decreases-run_loop_body
decreases-run_loop_body l = l.scope.now.depth * room l.scope.now.program.now.functions.items + 8 * statement_size (statement_of l.of.now) + 1

abbrev pub decreases-round : goal.decreases-round
decreases-round l = l.scope.now.depth * room l.scope.now.program.now.functions.items + 8 * statement_size (statement_of l.of.now) + 2

abbrev pub decreases-repeat : goal.decreases-repeat
decreases-repeat l = l.scope.now.depth * room l.scope.now.program.now.functions.items + 8 * statement_size (statement_of l.of.now) + 4

abbrev pub decreases-run : goal.decreases-run
decreases-run l = l.scope.now.depth * room l.scope.now.program.now.functions.items + 8 * statement_size (statement_of l.statement.now) + 5

abbrev pub decreases-choose : goal.decreases-choose
decreases-choose l = l.scope.now.depth * room l.scope.now.program.now.functions.items + 8 * items_size (items_of l.items.now) + 3

abbrev pub decreases-run_from : goal.decreases-run_from
decreases-run_from l = l.scope.now.depth * room l.scope.now.program.now.functions.items + 8 * items_size (items_of l.items.now) + 2

abbrev pub decreases-run_items : goal.decreases-run_items
decreases-run_items l = l.scope.now.depth * room l.scope.now.program.now.functions.items + 8 * items_size (items_of l.items.now) + 1

abbrev pub decreases-run_item : goal.decreases-run_item
decreases-run_item l = l.scope.now.depth * room l.scope.now.program.now.functions.items + 8 * item_size l.item.now

abbrev pub decreases-placed_value : goal.decreases-placed_value
decreases-placed_value l = l.scope.now.depth * room l.scope.now.program.now.functions.items + 8 * expr_size (expr_of l.expr.now) + 2

abbrev pub decreases-unary_value : goal.decreases-unary_value
decreases-unary_value l = l.scope.now.depth * room l.scope.now.program.now.functions.items + 8 * expr_size (expr_of l.expr.now) + 2

abbrev pub decreases-joined_value : goal.decreases-joined_value
decreases-joined_value l = l.scope.now.depth * room l.scope.now.program.now.functions.items + 8 * expr_size (expr_of l.expr.now) + 2

abbrev pub decreases-call_value : goal.decreases-call_value
decreases-call_value l = l.scope.now.depth * room l.scope.now.program.now.functions.items + 8 * exprs_size (exprs_of l.arguments.now) + 6

abbrev pub decreases-read_value : goal.decreases-read_value
decreases-read_value l = l.scope.now.depth * room l.scope.now.program.now.functions.items + 8 * place_size (place_of l.place.now) + 1
