-- The blocks of a loaded image lie beside each other, and stay where they are in each state of a run.
use Rattle.std.proofs.Common.{◌≡◌, ℕ, ◌-◌, ◌≤◌, arith, refl, ◌∙◌, List, [], ◌∷◌, length, length-append, ⊎_elim}
use Rattle.std.specs.Prelude.{replicate}
use Rattle.std.proofs.lemmas.List.{length-replicate}
use Rattle.rv_core.specs.declared.image.Segment.{Segment}
use Rattle.rv_core.specs.Images.{IsSegment, AreSegments, Apart, ApartFrom, AreApart, AreLoadable}
use Rattle.rv_core.specs.Memory.{Block, block_of, loaded}
use Rattle.rv_core.specs.Stores.{frame_of, frames_of, Beside, BesideEach, AreBeside}
use Rattle.rv_core.specs.Runs.{Setup, mrun}
use Rattle.rv_core.proofs.Keeping.{StoresKeep, mrun-keep}
use Rattle.rv_core.proofs.Storing.{frames-stored}

frames-kept : (start : List Block) → StoresKeep (λ m. frames_of m ≡ frames_of start)
frames-kept start w before at v after is same = frames-stored w before at v after is ∙ same

pub mrun-frames : (s : Setup) (n : ℕ) → frames_of (mrun s n).state.world.memory ≡ frames_of (loaded s.image.segments)
mrun-frames s n = mrun-keep (λ m. frames_of m ≡ frames_of (loaded s.image.segments)) (frames-kept (loaded s.image.segments)) s n refl

-- a loaded segment is as long as it says
pub block_of-length : (s : Segment) → length s.bytes ≤ s.size → length (block_of s).bytes ≡ s.size
block_of-length s filled = omega (arith, filled, length-append s.bytes (replicate (s.size - length s.bytes) 0), length-replicate {A = ℕ} (s.size - length s.bytes) 0)

apart-beside : (s t : Segment) → IsSegment s → IsSegment t → Apart s t → Beside (frame_of (block_of s)) (frame_of (block_of t))
apart-beside s t h k apart at x y =
    let m = block_of-length s h.filled in
    let n = block_of-length t k.filled in
    let a = x.from in
    let b = x.below in
    let c = y.from in
    let d = y.below in
    ⊎_elim (λ e. omega (arith, e)) (λ r. ⊎_elim (λ e. omega (arith, e)) (λ q. ⊎_elim (λ e. omega (arith, e)) (λ e. omega (arith, e)) q) r) apart

from-each : (s : Segment) (ts : List Segment) → IsSegment s → AreSegments ts → ApartFrom s ts → BesideEach (frame_of (block_of s)) (frames_of (loaded ts))
from-each s [] h k apart = tt
from-each s (t ∷ ts) h k apart = (apart-beside s t h k.0 apart.0, from-each s ts h k.1 apart.1)

segments-beside : (ss : List Segment) → AreSegments ss → AreApart ss → AreBeside (frames_of (loaded ss))
segments-beside [] h apart = tt
segments-beside (s ∷ ss) h apart = (from-each s ss h.0 h.1 apart.0, segments-beside ss h.1 apart.1)

pub loaded-beside : (ss : List Segment) → AreLoadable ss → AreBeside (frames_of (loaded ss))
loaded-beside ss h = segments-beside ss h.each h.apart
