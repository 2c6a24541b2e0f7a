use Rattle.code_flow_system.proofs.claims.Claims.new.Goals as goal

pub invariant_of-result : goal.invariant_of-result
invariant_of-result c = record {
  few = rw (c.new.ensures, c.new-2.ensures, c.new-3.ensures, c.new-4.ensures, c.new-5.ensures) c.requires;
  sums = rw (c.new-5.ensures, ← c.deref.ensures.value) c.are_sums.ensures;
}
