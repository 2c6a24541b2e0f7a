-- How many potentials a certificate has, and how many moves its flow lists.
use Rattle.std.specs.Prelude.{◌≡◌, ℕ, ◌+◌, ◌*◌, ◌<◌, ◌≤◌, true, length, All}
use Rattle.rv_core.specs.declared.image.Segment.{Segment}
use Rattle.rv_core.specs.declared.regions.Region.TheVariants.{Flash, Spm}
use Rattle.rv_core.specs.Images.{AreLoadable, Image, LiesIn}
use Rattle.rv_core.specs.Table.{Table}
use Rattle.code_flow_system.specs.Certificates.{Accepts, IsInForm}
use Rattle.code_flow_system.specs.Claims.{Claims}
use Rattle.code_flow_system.specs.Systems.{IsSystemOf, System}
use Rattle.code_flow_system.specs.declared.cert.Cert.{Cert}

-- the first words of flash, and words of the scratchpad from an address on
pub record Words : Type 0 where
  pub flash : ℕ
  pub from : ℕ
  pub scratchpad : ℕ

abbrev pub count : Words → ℕ
count w = w.flash + w.scratchpad

-- code ends behind so many of them
pub record EndsWithin (w : Words) (s : Segment) : Type 0 where
  pub flash : s.exec ≡ true → 0 < s.size → LiesIn Flash s → s.at + s.size ≤ 4 * w.flash
  pub scratchpad : s.exec ≡ true → 0 < s.size → LiesIn Spm s → (w.from ≤ s.at) × (s.at + s.size ≤ w.from + 4 * w.scratchpad)

-- no more potentials than words, and no more parts than these have moves
pub record HasFew (n : ℕ) (c : Cert) : Type 0 where
  pub potentials : length c.potentials ≤ n
  pub parts : length c.flow.parts ≤ 2 * n

abbrev pub CertificatesAreFew : Type 0
CertificatesAreFew =
    (w : Words) (image : Image) (claims : Claims) (t : Table) (s : System) (c : Cert) → AreLoadable image.segments → All (EndsWithin w) image.segments → IsSystemOf image claims s → IsInForm claims c → Accepts t s c
    → HasFew (count w) c
