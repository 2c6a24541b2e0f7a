-- The certificate of a system without facts, from the worths and the flow of its walks.
use Rattle.std.specs.Prelude.{ℕ, ◌^◌, ℤ, pos, neg_ℤ, List, [], if◌then◌else◌}
use Rattle.std.specs.Int.RustNames.{int_lt}
use Rattle.rv_core.specs.Table.{Table}
use Rattle.code_flow_system.specs.declared.cert.Part.{Part}
use Rattle.code_flow_system.specs.declared.cert.Flow.{Flow}
use Rattle.code_flow_system.specs.declared.cert.Cert.{Cert}
use Rattle.code_flow_system.specs.declared.cert.Mark.{Mark}
use Rattle.code_flow_system.specs.declared.cert.Mark.TheVariants.{Greatest, Empty}
use Rattle.code_flow_system.specs.declared.shapes.LoopShape.{LoopShape}
use Rattle.code_flow_system.specs.declared.shapes.Span.{Span}
use Rattle.code_flow_system.specs.Systems.{System}
use Rattle.code_flow_system.specs.Flows.{price}
use Rattle.code_flow_system.specs.Certificates.{whole_part}
use Rattle.loop_walks.specs.Walks.{worth_at}
use Rattle.path_places.specs.Places.{place_of}
use Rattle.path_places.specs.Driver.{Prices}
use Rattle.path_places.specs.Duals.{Values, values_of, potentials_of, never_multipliers, loop_multipliers}
use Rattle.path_flows.specs.Flows.{amounts_of, parts_of}

abbrev pub entry_worth : System → Values → ℤ
entry_worth s x = worth_at x.worths (place_of s.moves s.entry)

-- there is a flow where the entry's worth isn't negative
abbrev pub mark_of : ℤ → Mark
mark_of z = if int_lt z (pos 0) then Empty else Greatest

abbrev pub flow_for : Mark → List Part → Flow
flow_for Greatest parts = record { unit = 1; parts = parts }
flow_for m parts = record { unit = 0; parts = [] }

abbrev pub certificate_with : Mark → System → Prices → Values → List ℕ → Cert
certificate_with mark s q x us = record {
  cycles = whole_part (entry_worth s x) 1;
  mark = mark;
  scale = 1;
  potentials = potentials_of s.moves x.worths s.moves;
  nevers = never_multipliers s q.of x;
  loops = loop_multipliers s q.of x;
  facts = [];
  flow = flow_for mark (parts_of s.moves us);
}

abbrev pub certificate_by : System → Prices → Values → List ℕ → Cert
certificate_by s q x us = certificate_with (mark_of (entry_worth s x)) s q x us

-- the costs of moves as prices, and the price of a block
abbrev pub costs_of : Table → System → Prices
costs_of t s = record { of = price t s; low = neg_ℤ (pos (2 ^ 62)) }

abbrev pub certificate_of : Table → System → List LoopShape → List Span → Cert
certificate_of t s ls ps = certificate_by s (costs_of t s) (values_of s ls ps (costs_of t s)) (amounts_of s ls ps (costs_of t s))
