use Rattle.std.proofs.Common.{◌≡◌, false, refl, sym, ◌∙◌, subst, arith, rules}
use Rattle.std.proofs.lemmas.List.{get_or_default}
use Rattle.std.proofs.lemmas.List.Elements.{AllWithin-more}
use Rattle.code_flow_system.specs.declared.index.Arrival.{Arrival}
use Rattle.path_fit.specs.Loops.{EntersBy}
use Rattle.path_fit.proofs.ShapeLemmas.{there_below, there_enters, enters_there}
use Rattle.path_fit.proofs.loops.is_entered.Goals as goal

abbrev first_arrival : Arrival
first_arrival = record { to = 0; place = 0 }

pub enters_well-requires : goal.enters_well-requires
enters_well-requires c = there_below c.args.shape c.args.system.now.moves c.moves-moves.result.now c.arrivals.result.now c.arrivals_in-there.result.now c.moves-moves.ensures.value c.arrivals_in-there.ensures c.arrivals.ensures.are c.loop-i.i first_arrival c.loop-i-test.true

pub returns-then-not-enters_well : goal.returns-then-not-enters_well
returns-then-not-enters_well c = (
  λ e. cc,
  λ all.
      let f : c.enters_well.result ≡ false = search rules in
      sym f ∙ c.enters_well.ensures.1 (there_enters c.args.shape c.args.system.now.moves c.moves-moves.result.now c.arrivals.result.now c.arrivals_in-there.result.now c.moves-moves.ensures.value c.arrivals_in-there.ensures c.arrivals.ensures.are all c.loop-i.i first_arrival c.loop-i-test.true),
)

pub loop-i-preserved : goal.loop-i-preserved
loop-i-preserved c = AllWithin-more (EntersBy c.args.shape c.moves-moves.result.now) c.arrivals_in-there.result.now 0 c.loop-i.i c.loop-i.invariant
    (λ d. subst (EntersBy c.args.shape c.moves-moves.result.now) (get_or_default c.arrivals_in-there.result.now c.loop-i.i first_arrival d c.loop-i-test.true) (c.enters_well.ensures.0 (search rules)))

pub returns : goal.returns
returns c = (
  λ e. enters_there c.args.shape c.args.system.now.moves c.moves-moves.result.now c.arrivals.result.now c.arrivals_in-there.result.now c.moves-moves.ensures.value c.arrivals_in-there.ensures c.arrivals.ensures.are (λ k d lt. c.loop-i.invariant k d (omega arith) (omega (arith, lt, c.loop-i-test.false))),
  λ h. refl,
)
