use Rattle.std.proofs.Common.{⊎_elim}
use Rattle.std.proofs.lemmas.Bool.{false≢true}
use Rattle.rv_core.specs.declared.regions.Region.TheVariants.{Flash, Spm, Ram}
use Rattle.elf_image.proofs.segments.is_placed.Goals as goal

-- it lies in no region
pub returns-in-None : goal.returns-in-None
returns-in-None c =
    let nowhere = c.in-None.ensures in
    ((λ e. absurd (false≢true e)), λ p. absurd (⊎_elim (nowhere Flash) (⊎_elim (nowhere Spm) (nowhere Ram)) p.region))
