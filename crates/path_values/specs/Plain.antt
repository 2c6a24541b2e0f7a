-- A certificate with nothing for claims that forbid to visit an address.
use Rattle.std.specs.Prelude.{pos, List, [], length}
use Rattle.std.proofs.Math.ListN.{replicate}
use Rattle.frac128.specs.Terms.{Terms}
use Rattle.code_flow_system.specs.declared.cert.Cert.{Cert}
use Rattle.code_flow_system.specs.declared.cert.Mark.TheVariants.{Neither}
use Rattle.code_flow_system.specs.Claims.{Claims}
use Rattle.loop_walks.specs.declared.step.Pair.{Pair}
use Rattle.path_places.specs.Duals.{both_of}

abbrev pub plain_of : Claims → Terms → List Pair → Cert
plain_of claims ts ps = record {
  cycles = 0;
  mark = Neither;
  scale = 1;
  potentials = ts;
  nevers = replicate (length claims.nevers) (pos 0);
  loops = both_of ps;
  facts = [];
  flow = record { unit = 0; parts = [] };
}
