use Rattle.std.proofs.Common.{ap, arith, get_or, subst, ◌∙◌}
use Rattle.std.proofs.lemmas.List.{take_all}
use Rattle.low_ir.specs.View.{function_of}
use Rattle.register_allocation.specs.declared.order.Lasting.{Lasting}
use Rattle.register_allocation.specs.Scans.{Scan, Scanned}
use Rattle.register_allocation.proofs.Crowding.{slots_followed, started, turn_at}
use Rattle.register_allocation.proofs.scan.scan_all.Goals as goal

pub loop-each-init : goal.loop-each-init
loop-each-init c = record {
  scanned = started (function_of c.args.function.now).size c.args.order.now c.requires (function_of c.args.function.now) c.in_ok-scan.scan c.in_ok-scan.ensures;
  slots = let e = ap (λ (s : Scan). s.slots) c.in_ok-scan.ensures in omega (arith, e);
}

pub loop-each-preserved : goal.loop-each-preserved
loop-each-preserved c =
    let before = c.loop-each.invariant in
    let i = c.loop-each.each-index in
    let default : Lasting = record { register = 0; first = 0; last = 0 } in
    record {
      scanned = turn_at (function_of c.args.function.now).size c.args.order.now c.requires (function_of c.args.function.now) i default c.loop-each-test.true c.loop-each.scan before.scanned c.choose-choice.result c.follow.new.self (c.choose-choice.ensures (function_of c.args.function.now) c.is_liked-brief.ensures) c.follow.ensures;
      slots =
          let e = ap (λ (s : Scan). s.slots) c.follow.ensures in
          let more = slots_followed c.choose-choice.result (get_or c.args.order.now i default) c.loop-each.scan in
          let few = before.slots in
          omega (arith, e, more, few);
    }

pub is_liked-brief-requires : goal.is_liked-brief-requires
is_liked-brief-requires c = c.as_slice.ensures.value ∙ c.in_ok-turns.ensures

pub follow-requires : goal.follow-requires
follow-requires c =
    let few = c.loop-each.invariant.slots in
    let all = c.requires.few in
    omega (arith, few, all, c.loop-each-test.true)

pub returns-clause-scanned : goal.returns-clause-scanned
returns-clause-scanned c =
    subst (λ l. Scanned (function_of c.args.function.now) (function_of c.args.function.now).size c.args.order.now l c.loop-each.scan) (take_all c.loop-each.each-index c.args.order.now (omega (arith, c.loop-each-test.false))) c.loop-each.invariant.scanned

pub returns-clause-slots : goal.returns-clause-slots
returns-clause-slots c =
    let few = c.loop-each.invariant.slots in
    let all = c.requires.few in
    omega (arith, few, all, c.loop-each-test.false)
