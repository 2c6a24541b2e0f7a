-- The certificate of the walks' values before it is marked, and its mark.
use Rattle.std.specs.Prelude.{◌≡◌, ℕ, ◌<◌, ℤ, List, [], length, All}
use Rattle.rv_core.specs.Table.{Table}
use Rattle.code_flow_system.specs.declared.cert.Cert.{Cert}
use Rattle.code_flow_system.specs.declared.cert.Flow.{Flow}
use Rattle.code_flow_system.specs.declared.cert.Part.{Part}
use Rattle.code_flow_system.specs.declared.cert.Mark.{Mark}
use Rattle.code_flow_system.specs.declared.cert.Mark.TheVariants.{Neither}
use Rattle.code_flow_system.specs.declared.moves.Move.{Move}
use Rattle.code_flow_system.specs.Systems.{System, IsSystem}
use Rattle.code_flow_system.specs.Certificates.{IsInForm, IsSmall}
use Rattle.path_places.specs.Duals.{Values, potentials_of, never_multipliers, loop_multipliers}
use Rattle.path_walks.specs.declared.walks.Settled.{Settled}
use Rattle.path_values.specs.Laws.{plain_by, AreNarrow}

-- what walks found
abbrev pub values_in : Settled → Values
values_in r = record { worths = r.worths; pairs = r.pairs }

abbrev pub unmarked_of : System → (Move → ℤ) → Values → Cert
unmarked_of s price x = record {
  cycles = 0;
  mark = Neither;
  scale = 1;
  potentials = potentials_of s.moves x.worths s.moves;
  nevers = never_multipliers s price x;
  loops = loop_multipliers s price x;
  facts = [];
  flow = record { unit = 0; parts = [] };
}

-- no flow, and one of a single unit

abbrev pub no_flow : Flow
no_flow = record { unit = 0; parts = [] }

abbrev pub one_flow : List Part → Flow
one_flow parts = record { unit = 1; parts = parts }

-- values that a checker can add up beside the multipliers of loops
pub record AreAddable (t : Table) (s : System) (x : Values) : Type 0 where
  pub system : IsSystem s
  pub long : length s.moves < length x.worths
  pub form : IsInForm s.claims (plain_by s x)
  pub narrow : AreNarrow t s (plain_by s x)
  pub pairs : length x.pairs ≡ length s.claims.loops
  pub small : All (λ p. IsSmall p.most) x.pairs

-- a certificate with a mark, the bound and a flow
abbrev pub marked : Cert → Mark → ℕ → Flow → Cert
marked c mark cycles flow = record {
  cycles = cycles;
  mark = mark;
  scale = c.scale;
  potentials = c.potentials;
  nevers = c.nevers;
  loops = c.loops;
  facts = c.facts;
  flow = flow;
}
