-- The certificate of what walks found that pay for facts, before and after claims that forbid to visit an address have their multipliers.
use Rattle.std.specs.Prelude.{◌≡◌, ℕ, ◌<◌, ◌^◌, ℤ, pos, List, [], length, All}
use Rattle.std.proofs.Math.ListN.{replicate}
use Rattle.frac128.specs.Terms.{Terms}
use Rattle.rv_core.specs.Table.{Table}
use Rattle.code_flow_system.specs.declared.cert.Cert.{Cert}
use Rattle.code_flow_system.specs.declared.cert.Mark.TheVariants.{Neither}
use Rattle.code_flow_system.specs.declared.moves.Move.{Move}
use Rattle.code_flow_system.specs.Claims.{Claims}
use Rattle.code_flow_system.specs.Systems.{System, IsSystem}
use Rattle.code_flow_system.specs.Certificates.{whole_part, IsInForm, IsSmall}
use Rattle.loop_walks.specs.declared.step.Pair.{Pair}
use Rattle.path_places.specs.Duals.{Values, potentials_of, both_of, never_multipliers, loop_multipliers}
use Rattle.path_cert.specs.Certificates.{entry_worth}
use Rattle.path_walks.specs.declared.walks.Settled.{Settled}
use Rattle.path_values.specs.Laws.{AreNarrow}

-- what walks found
abbrev pub values_in : Settled → Values
values_in r = record { worths = r.worths; pairs = r.pairs }

-- with nothing for claims that forbid to visit an address
abbrev pub plain_with : Claims → ℕ → List ℤ → Terms → List Pair → Cert
plain_with claims scale ys ts ps = record {
  cycles = 0;
  mark = Neither;
  scale = scale;
  potentials = ts;
  nevers = replicate (length claims.nevers) (pos 0);
  loops = both_of ps;
  facts = ys;
  flow = record { unit = 0; parts = [] };
}

abbrev pub cert_by : System → (Move → ℤ) → ℕ → List ℤ → Values → Cert
cert_by s price scale ys x = record {
  cycles = whole_part (entry_worth s x) scale;
  mark = Neither;
  scale = scale;
  potentials = potentials_of s.moves x.worths s.moves;
  nevers = never_multipliers s price x;
  loops = loop_multipliers s price x;
  facts = ys;
  flow = record { unit = 0; parts = [] };
}

-- values that a checker can add up beside the multipliers of loops and facts
pub record AreAddable (t : Table) (s : System) (scale : ℕ) (ys : List ℤ) (x : Values) : Type 0 where
  pub system : IsSystem s
  pub scaled : 0 < scale
  pub long : length s.moves < length x.worths
  pub form : IsInForm s.claims (plain_with s.claims scale ys (potentials_of s.moves x.worths s.moves) x.pairs)
  pub narrow : AreNarrow t s (plain_with s.claims scale ys (potentials_of s.moves x.worths s.moves) x.pairs)
  pub pairs : length x.pairs ≡ length s.claims.loops
  pub small : All (λ p. IsSmall p.most) x.pairs
  pub cycles : whole_part (entry_worth s x) scale < 2 ^ 63
