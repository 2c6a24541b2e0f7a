use Rattle.std.proofs.Common.{arith, ◌∙◌, ap, sym, refl, ℕ, List}
use Rattle.std.proofs.Math.ListN.{length-set}
use Rattle.loop_flows.specs.Passes.{amount_at}
use Rattle.path_flow_counts.proofs.SumLemmas.{copy_next}
use Rattle.path_flow_counts.proofs.put.copy.Goals as goal

pub loop-place-init : goal.loop-place-init
loop-place-init c = (refl, refl, refl, λ a ge lt. omega (arith, ge, lt))

pub loop-place-preserved : goal.loop-place-preserved
loop-place-preserved c =
    let t = c.loop-place-test.true in
    let b = c.requires.room in
    let l = c.loop-place.invariant.2 in
    let e = c.loop-place.invariant.0 in (
      e,
      c.loop-place.invariant.1,
      length-set c.loop-place.tally.room.now c.loop-place.place _ ∙ l,
      λ a ge lt.
          copy_next c.loop-place.tally.starts.now c.loop-place.tally.room.now _ c.args.from c.loop-place.place (omega (arith, t, b, l)) (λ k g h. c.loop-place.invariant.3 k g h ∙ ap (λ (xs : List ℕ). amount_at xs k) (sym e)) refl a ge lt
          ∙ ap (λ (xs : List ℕ). amount_at xs a) e,
    )

pub returns : goal.returns
returns c =
    let f = c.loop-place-test.false in
    record {
      starts = c.loop-place.invariant.0;
      amounts = c.loop-place.invariant.1;
      room = c.loop-place.invariant.2;
      copied = λ a ge lt. c.loop-place.invariant.3 a ge (omega (arith, f, lt));
    }
