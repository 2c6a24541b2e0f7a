use Rattle.std.proofs.Common.{◌≡◌, false, sym, ◌∙◌}
use Rattle.register_allocation.specs.Scans.{is_free}
use Rattle.register_allocation.proofs.Gathering.{below_next}
use Rattle.register_allocation.proofs.scan.Scan.first_free.Goals as goal

pub loop-machine-preserved : goal.loop-machine-preserved
loop-machine-preserved c =
    below_next (λ q. is_free c.args.self.now c.args.at q ≡ false) c.loop-machine.machine c.loop-machine.invariant (sym c.is_free.ensures ∙ c.if-is_free.false)
