-- The files that a command reads, each with its limit.
use Rattle.std.specs.Prelude.{◌≡◌, ℕ, ◌+◌, ◌<◌, ◌≤◌, ◌⊎◌, List, [], ◌∷◌, length, IfSome, Option, Result, Err}
use Rattle.wcc_base.specs.Outside.{Files, StoreState, bytes_of, raised}
use Rattle.wcc_base.specs.Limits.{greatest_of}
use Rattle.wcc_base.specs.declared.limits.Bound.{Bound}
use Rattle.wcc_base.specs.declared.status.Status.{Status}
use Rattle.wcc_base.specs.declared.status.Status.TheVariants as status
use Rattle.command_perform.specs.declared.gather.Wanted.{Wanted}

-- names of files with the limits of their lengths
abbrev pub Wants : Type 0
Wants = List (List ℕ × Bound)

-- a file that is read, as the program holds it
abbrev pub wanted : Wanted → List ℕ × Bound
wanted w = (w.name.now, w.which)

abbrev pub contents_of : Wants → Files → List (List ℕ)
contents_of [] fs = []
contents_of (w ∷ ws) fs = bytes_of fs w.0 ∷ contents_of ws fs

-- each file is within its limit
abbrev pub Fit : Wants → Files → Type 0
Fit [] fs = Unit {0}
Fit (w ∷ ws) fs = (length (bytes_of fs w.0) ≤ greatest_of w.1) × Fit ws fs

-- a file passes this limit, and those before it are within theirs
abbrev pub Overlong : Wants → Files → Bound → Type 0
Overlong [] fs which = ⊥
Overlong (w ∷ ws) fs which =
    ((w.1 ≡ which) × (greatest_of which < length (bytes_of fs w.0))) ⊎ ((length (bytes_of fs w.0) ≤ greatest_of w.1) × Overlong ws fs which)

-- the files were read whole: these are their contents, where the store tells them, each within its limit
abbrev pub Gathered : Wants → Option Files → List (List ℕ) → Type 0
Gathered ws files contents = IfSome files (λ fs. (contents ≡ contents_of ws fs) × Fit ws fs)

-- a file is read
abbrev pub AreSome : Wants → Type 0
AreSome [] = ⊥
AreSome (w ∷ ws) = Unit {0}

-- why a file wasn't read: where one is read, a fault, or a limit that it passes, of which one more is found; or want of memory
abbrev pub NotRead : Type 0 → (Bound → Type 0) → Status → Type 0
NotRead Reads Passes status.ReadFault = Reads
NotRead Reads Passes (status.Limit which found) = (found ≡ greatest_of which + 1) × Passes which × Reads
NotRead Reads Passes status.Memory = Unit {0}
NotRead Reads Passes s = ⊥

abbrev pub NotGathered : Wants → Option Files → Status → Type 0
NotGathered ws files s = NotRead (AreSome ws) (λ which. IfSome files (λ fs. Overlong ws fs which)) s

-- the count of faults in reading behind a step: raised exactly where such a fault is its status
abbrev pub reads_counted : {T : Type 0} → ℕ → Result T Status → ℕ
reads_counted n (Err status.ReadFault) = raised n
reads_counted n result = n

-- the store was read and not written, and a fault was counted exactly where the step tells it
pub record OnlyRead {T : Type 0} (old new : StoreState) (result : Result T Status) : Type 0 where
  pub same : new.files ≡ old.files
  pub reads : new.read_faults ≡ reads_counted old.read_faults result
  pub writes : new.write_faults ≡ old.write_faults
