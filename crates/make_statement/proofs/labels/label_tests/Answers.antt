use Rattle.std.proofs.Common.{◌≡◌, ◌+◌, ◌-◌, ◌<◌, ◌≤◌, ap, arith, drop, length, sym}
use Rattle.types_tree.specs.View.{items_of}
use Rattle.plan_definition.specs.Statements.{label_count}
use Rattle.make_pieces.specs.View.{code_of, leaf_expr}
use Rattle.make_statement.specs.Parts.{labels_in}
use Rattle.make_statement.proofs.Noting.{count_fewer, count_from, one_test}
use Rattle.make_statement.proofs.labels.label_tests.Goals as goal

pub overflow_sub-number : goal.overflow_sub-number
overflow_sub-number c =
    let items = c.args.items.now in
    let below : c.loop-i.i - 1 < length items = omega (arith, c.loop-i.invariant.within, c.loop-i-test.true) in
    let back : c.loop-i.i - 1 + 1 ≡ c.loop-i.i = omega (arith, c.loop-i-test.true) in
    omega (
      arith,
      c.labels_in.ensures,
      c.loop-i.invariant.number,
      count_from items (c.loop-i.i - 1) c.index-items-i.result below c.index-items-i.is,
      ap (λ j. label_count (items_of (drop j items))) back,
      count_fewer (c.loop-i.i - 1) items,
    )

pub loop-i-preserved : goal.loop-i-preserved
loop-i-preserved c =
    let items = c.args.items.now in
    let below : c.loop-i.i - 1 < length items = omega (arith, c.loop-i.invariant.within, c.loop-i-test.true) in
    let back : c.loop-i.i - 1 + 1 ≡ c.loop-i.i = omega (arith, c.loop-i-test.true) in
    let before : labels_in c.index-items-i.result + label_count (items_of (drop c.loop-i.i items)) ≡ label_count (items_of (drop (c.loop-i.i - 1) items)) =
    omega (arith, count_from items (c.loop-i.i - 1) c.index-items-i.result below c.index-items-i.is, ap (λ j. label_count (items_of (drop j items))) back) in
    let room : labels_in c.index-items-i.result ≤ c.loop-i.number = omega (arith, c.loop-i.invariant.number, before, count_fewer (c.loop-i.i - 1) items) in
    record {
      within = omega (arith, c.loop-i.invariant.within);
      number = omega (arith, c.labels_in.ensures, c.loop-i.invariant.number, before, room);
      tests = one_test (leaf_expr c.args.choice_by.word) c.args.choice_by.noted (c.loop-i.number - c.labels_in.result) c.loop-i.number items (c.loop-i.i - 1) c.loop-i.i c.index-items-i.result (code_of c.loop-i.tests) (code_of c.in_ok-tests.tests)
          below (sym back) c.index-items-i.is (omega (arith, c.labels_in.ensures, room)) c.loop-i.invariant.tests c.in_ok-tests.ensures;
    }
