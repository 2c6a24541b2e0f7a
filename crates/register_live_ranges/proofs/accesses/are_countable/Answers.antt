use Rattle.std.proofs.Common.{◌≡◌, ◌+◌, ap, arith, drop, map}
use Rattle.std.proofs.lemmas.List.{drop_all}
use Rattle.low_ir.specs.View.{block_of}
use Rattle.register_live_ranges.specs.Accesses.{places_in}
use Rattle.register_live_ranges.proofs.accesses.are_countable.Goals as goal

pub returns : goal.returns
returns c = λ _.
    let blocks = c.args.blocks.now in
    let l = c.loop-block in
    let left = drop_all l.block-index blocks (omega (arith, c.loop-block-test.false)) in
    let none : l.places + places_in (map block_of (drop l.block-index blocks)) ≡ l.places + 0 = ap (λ xs. l.places + places_in (map block_of xs)) left in
    let sum = l.invariant.sum in
    let fits = l.invariant.fits in
    omega (arith, sum, fits, none)
