use Rattle.std.proofs.Common.{sym, ap, ◌∙◌, arith}
use Rattle.std.specs.Prelude.{if◌then◌else◌, slice_index}
use Rattle.image_fitting.proofs.RoomLemmas.{one_more}
use Rattle.image_fitting.proofs.data.spend_sizes.Goals as goal
use Rattle.image_fitting.proofs.data.spend_sizes.Goals.{then-is_placed+in-Some, else-is_placed}

pub loop-number-preserved : goal.loop-number-preserved
loop-number-preserved c =
    let sizes = c.args.sizes.now in
    let k = c.loop-number.number in
    let next = one_more c.args.placed.now sizes k c.loop-number-test.true in
    let before = c.loop-number.invariant in
    elim c.if-is_placed.branch [
      | then-is_placed+in-Some w ↦ (
          let here = ap (λ b. if b then slice_index sizes k else 0) (sym c.is_placed.ensures ∙ w.if-is_placed.true) in
          let taken = w.in-Some.ensures in
          let amount = w.from.ensures in
          let left = w.left-is in omega (arith, next, before, here, taken, amount, left))
      | else-is_placed w ↦ (
          let here = ap (λ b. if b then slice_index sizes k else 0) (sym c.is_placed.ensures ∙ w.if-is_placed.false) in
          let left = w.left-is in omega (arith, next, before, here, left))
    ]
