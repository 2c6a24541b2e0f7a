use Rattle.register_allocation.proofs.allocation.placing_in.Goals as goal

pub returns : goal.returns
returns c = record {
  scan = c.in_ok-scan.scan;
  scanned = c.in_ok-scan.ensures.scanned;
  few = c.in_ok-scan.ensures.slots;
  masked = c.in_ok-placing.ensures;
}
