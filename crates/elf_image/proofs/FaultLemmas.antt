-- A refusal of `read` has its cause, and an image has none.
use Rattle.std.proofs.Common.{◌≡◌, ◌⊎◌, ◌↔◌, ℕ, List, Result, Ok, Err, IsOk, refl, sym, subst, ⊎_elim}
use Rattle.std.specs.Prelude.{IsErrOf}
use Rattle.elf_image.specs.declared.fault.ElfFault.{ElfFault}
use Rattle.elf_image.specs.declared.fault.ElfFault.TheVariants.{NotElf, WrongMachine, BadSegment, Memory}
use Rattle.elf_image.specs.Headers.{header_of}
use Rattle.elf_image.specs.Loading.{IsElf, IsExecutable, IsFirstBad, IsLoadable}
use Rattle.elf_image.specs.Faults.{IsNoImage, StopsAs}
use Rattle.rv_core.specs.Images.{Image}

pub stops_as : {T : Type 0} (bytes : List ℕ) (r : Result T ElfFault) (fault : ElfFault) → r ≡ Err fault
    → (IsErrOf r Memory ⊎ (IsErrOf r NotElf ↔ (IsElf bytes → ⊥)))
    → (IsErrOf r Memory ⊎ (IsErrOf r WrongMachine ↔ IsElf bytes × (IsExecutable (header_of bytes) → ⊥)))
    → ((index : ℕ) → IsErrOf r Memory ⊎ (IsErrOf r (BadSegment index) ↔ IsElf bytes × IsExecutable (header_of bytes) × IsFirstBad bytes index))
    → StopsAs bytes fault
stops_as bytes r NotElf is n w b = ⊎_elim (λ e. absurd cc) (λ i. i.0 is) n
stops_as bytes r WrongMachine is n w b = ⊎_elim (λ e. absurd cc) (λ i. i.0 is) w
stops_as bytes r (BadSegment index) is n w b = ⊎_elim (λ e. absurd cc) (λ i. i.0 is) (b index)
stops_as bytes r Memory is n w b = tt

pub loads : (bytes : List ℕ) (r : Result Image ElfFault) (image : Image) → r ≡ Ok image → (IsErrOf r Memory ⊎ (IsOk r ↔ IsLoadable bytes)) → IsLoadable bytes
loads bytes r image is x = ⊎_elim (λ e. absurd cc) (λ i. i.0 (subst (λ (k : Result Image ElfFault). IsOk k) (sym is) refl)) x

pub is_image : (bytes : List ℕ) (fault : ElfFault) → IsLoadable bytes → IsNoImage bytes fault → ⊥
is_image bytes NotElf l n = n l.elf
is_image bytes WrongMachine l n = n.1 l.executable
is_image bytes (BadSegment index) l n = l.good index n.2.bad.there n.2.bad
is_image bytes Memory l n = n
