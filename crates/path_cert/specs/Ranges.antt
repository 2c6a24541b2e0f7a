-- Ranges of the numbers that every certificate has.
use Rattle.std.specs.Prelude.{◌^◌, ◌<◌, All}
use Rattle.rv_core.specs.Table.{Table}
use Rattle.code_flow_system.specs.declared.cert.Cert.{Cert}
use Rattle.code_flow_system.specs.Systems.{System}
use Rattle.code_flow_system.specs.Certificates.{row_size, IsNarrow, IsSmall, limits, potential, scaled_price}

pub record HasRanges (t : Table) (s : System) (c : Cert) : Type 0 where
  pub cycles : c.cycles < 2 ^ 63
  pub potentials : All (λ u. IsSmall u.1) c.potentials
  pub nevers : All IsSmall c.nevers
  pub loops : All (λ w. IsSmall w.0 × IsSmall w.1) c.loops
  pub rows : All (λ m. IsNarrow (row_size (scaled_price t s c) (potential c) (limits s.claims c) m)) s.moves
