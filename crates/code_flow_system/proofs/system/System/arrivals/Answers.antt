use Rattle.code_flow_system.specs.Indexes.{AreArrivals}
use Rattle.code_flow_system.proofs.ArrivalLemmas.{arriving_is}
use Rattle.code_flow_system.proofs.system.System.arrivals.Goals as goal

pub returns : goal.returns
returns c =
    let are : AreArrivals c.args.self.now.moves c.as_slice.result.now = rw (← c.self.view_is, c.as_slice.ensures) c.self.invariant.arrivals_are in
    record { are = are; adds_up = λ x a. arriving_is x c.args.self.now.moves c.as_slice.result.now a are }
