-- A certificate without a flow, and the lesser of two bounds.
use Rattle.std.specs.Prelude.{ℕ, pos, nat_lt, List, replicate, Option, Some, None, if◌then◌else◌}
use Rattle.code_flow_system.specs.declared.cert.Cert.{Cert}
use Rattle.code_flow_system.specs.declared.cert.Mark.TheVariants as marks
use Rattle.code_flow_answer.specs.declared.bounded.Bounded.{Bounded}
use Rattle.code_flow_answer.specs.declared.bounded.Column.{Column}
use Rattle.code_flow_answer.specs.declared.bounded.Kind.{Kind}
use Rattle.simplex_rounds.specs.declared.pricing.Multipliers.{Multipliers}
use Rattle.path_enum.specs.declared.asking.Answered.{Answered}

abbrev pub empty : Cert → Cert
empty c = record {
  cycles = c.cycles;
  mark = marks.Empty;
  scale = c.scale;
  potentials = c.potentials;
  nevers = c.nevers;
  loops = c.loops;
  facts = c.facts;
  flow = c.flow;
}

abbrev pub lesser : Cert → Cert → Cert
lesser a b = if nat_lt b.cycles a.cycles then b else a

abbrev pub least_of : Cert → Option Cert → Cert
least_of a None = a
least_of a (Some b) = lesser a b

abbrev pub found : Cert → Kind → List Column → Bounded
found c kind cs = record { cert = c; kind = kind; columns = cs }

-- no multiplier of a fact
abbrev pub none : ℕ → Multipliers
none n = record { scale = 1; facts = replicate n (pos 0) }

-- an answer with a bound, from which a search goes on
abbrev pub answered : Cert → Column → Multipliers → Answered
answered c column y = record { cert = Some c; worth = pos 0; column = column; multipliers = y }
