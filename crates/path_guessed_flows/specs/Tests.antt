-- What a test of a flow says.
use Rattle.std.specs.Prelude.{◌≡◌, ℕ, List, []}
use Rattle.rv_core.specs.Table.{Table}
use Rattle.code_flow_system.specs.declared.cert.Cert.{Cert}
use Rattle.code_flow_system.specs.declared.cert.Part.{Part}
use Rattle.code_flow_system.specs.declared.cert.Mark.{Mark}
use Rattle.code_flow_system.specs.declared.cert.Mark.TheVariants as marks
use Rattle.code_flow_system.specs.Systems.{System}
use Rattle.code_flow_system.specs.Certificates.{Accepts, IsInForm}
use Rattle.path_guessed_flows.specs.declared.testing.Outcome.{Outcome}
use Rattle.path_guessed_flows.specs.declared.testing.Outcome.TheVariants.{Greatest, Bound}

-- a certificate with another mark and another flow
abbrev pub marked : Cert → Mark → ℕ → List Part → Cert
marked c mark unit parts = record {
  cycles = c.cycles;
  mark = mark;
  scale = c.scale;
  potentials = c.potentials;
  nevers = c.nevers;
  loops = c.loops;
  facts = c.facts;
  flow = record { unit = unit; parts = parts };
}

abbrev pub greatest : Cert → ℕ → List Part → Cert
greatest c unit parts = marked c marks.Greatest unit parts

abbrev pub plain : Cert → Cert
plain c = marked c marks.Neither 0 []

-- accepted as greatest, or as it was
abbrev pub IsTested : Table → System → Cert → Outcome → Type 0
IsTested t s c (Greatest g) = IsInForm s.claims g × Accepts t s g × (g.mark ≡ marks.Greatest) × (g.cycles ≡ c.cycles)
IsTested t s c (Bound b) = b ≡ c
