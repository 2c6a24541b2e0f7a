-- What is left beside a certificate without multipliers of never claims pays for the places that may not be visited.
use Rattle.std.specs.Prelude.{◌≡◌, Some, All}
use Rattle.rv_core.specs.Table.{Table}
use Rattle.code_flow_system.specs.declared.cert.Cert.{Cert}
use Rattle.code_flow_system.specs.Certificates.{limits, potential, row_size, scaled_price, IsNarrow}
use Rattle.code_flow_system.specs.Flows.{price}
use Rattle.code_flow_system.specs.Systems.{System}
use Rattle.path_places.specs.Duals.{Values, potentials_of, never_multipliers, loop_multipliers}
use Rattle.path_values.specs.Owed.{owe_at, nevers_by, loops_by}
use Rattle.path_values.specs.Plain.{plain_of}

-- the certificate of the walks' values, with nothing for never claims
abbrev pub plain_by : System → Values → Cert
plain_by s x = plain_of s.claims (potentials_of s.moves x.worths s.moves) x.pairs

abbrev pub AreNarrow : Table → System → Cert → Type 0
AreNarrow t s c = All (λ m. IsNarrow (row_size (scaled_price t s c) (potential c) (limits s.claims c) m)) s.moves

-- where no row is wide
abbrev pub MultipliersAre : Table → System → Type 0
MultipliersAre t s = (x : Values) → AreNarrow t s (plain_by s x) →
    (nevers_by (owe_at t s (plain_by s x)) s.claims.nevers ≡ Some (never_multipliers s (price t s) x))
    × (loops_by (owe_at t s (plain_by s x)) s.claims.loops x.pairs ≡ Some (loop_multipliers s (price t s) x))
