use Rattle.std.proofs.Common.{◌≡◌, ◌+◌, ◌∙◌, ap, Some}
use Rattle.std.specs.Prelude.{slice_set}
use Rattle.loop_flows.specs.Passes.{amount_at}
use Rattle.loop_flow_counts.specs.Wraps.{wrapped}
use Rattle.path_flow_counts.proofs.SumLemmas.{call_by}
use Rattle.path_flow_counts.proofs.sums.start_called.Goals as goal

pub returns-in-Some-Some : goal.returns-in-Some-Some
returns-in-Some-Some c =
    let e : c.args.step.now.to ≡ Some c.in-Some-Some.to = cc (c.in-Some-Some.is-0, c.in-Some-Some.to-is) in
    let f : c.args.step.now.behind ≡ Some c.in-Some-Some.field-0-1 = cc (c.in-Some-Some.is-1) in
    call_by c.args.moves.now c.args.step.now.to c.args.step.now.behind c.in-Some-Some.to c.in-Some-Some.field-0-1 c.args.count c.args.starts.now c.add.new.counts e f
    (c.add.ensures ∙ ap (λ p. slice_set c.args.starts.now p (wrapped (amount_at c.args.starts.now p + c.args.count))) c.place_of.ensures.value)
