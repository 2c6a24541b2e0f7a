-- What a command writes and prints, whole or cut off by a fault.
use Rattle.std.specs.Prelude.{◌≡◌, ◌⊎◌, ℕ, List, [], ◌∷◌, ◌++◌, take, Option}
use Rattle.wcc_base.specs.Outside.{Files, StoreState, SinkState, told_put, told_append, Rose}
use Rattle.wcc_base.specs.declared.outside.Fault.{Fault}
use Rattle.wcc_base.specs.declared.outside.Fault.TheVariants as fault
use Rattle.wcc_base.specs.declared.status.Status.{Status}
use Rattle.wcc_base.specs.declared.status.Status.TheVariants as status
use Rattle.command_perform.specs.StatusLines.{line_of}
use Rattle.command_perform.specs.Outputs.{Outputs}

-- all files are written, in order
abbrev pub all_put : List (List ℕ × List ℕ) → Option Files → Option Files
all_put [] old = old
all_put (f ∷ fs) old = all_put fs (told_put f.0 f.1 old)

-- the file is as before, or has the first of these bytes
abbrev pub IsPart : List ℕ → List ℕ → Option Files → Option Files → Type 0
IsPart name bytes old new = (new ≡ old) ⊎ ((k : ℕ) × (new ≡ told_put name (take k bytes) old))

-- the files were written in order: those before the last begun one are whole, that one has a first part of its bytes or is as it was, and those behind it are as they were
abbrev pub Partly : List (List ℕ × List ℕ) → Option Files → Option Files → Type 0
Partly [] old new = new ≡ old
Partly (f ∷ fs) old new = (new ≡ old) ⊎ (((k : ℕ) × (new ≡ told_put f.0 (take k f.1) old)) ⊎ Partly fs (told_put f.0 f.1 old) new)

-- no fault of the store was counted
pub record NoneFailed (old new : StoreState) : Type 0 where
  pub reads : new.read_faults ≡ old.read_faults
  pub writes : new.write_faults ≡ old.write_faults

-- a fault in writing was counted, and none in reading
pub record WriteFailed (old new : StoreState) : Type 0 where
  pub reads : new.read_faults ≡ old.read_faults
  pub writes : Rose old.write_faults new.write_faults

-- a first part of the text was put
pub record IsCut (text : List ℕ) (old new : SinkState) : Type 0 where
  pub front : List ℕ
  pub rest : List ℕ
  pub split : text ≡ front ++ rest
  pub put : new.written ≡ told_append front old.written

-- the status where the sink failed
abbrev pub status_after_fault : Status → Status
status_after_fault status.Done = status.WriteFault
status_after_fault s = s

-- how a call ends whose lines could not be put
abbrev pub unprinted : Status → Fault → Status
unprinted s fault.Memory = status.Memory
unprinted s fault.Failed = status_after_fault s

-- the lines were put whole; or memory ran out there; or the sink failed there, and only then a fault was counted
abbrev pub Reported : Status → List ℕ → SinkState → SinkState → Status → Type 0
Reported s lines old new result =
    ((result ≡ s) × (new.written ≡ told_append lines old.written) × (new.faults ≡ old.faults))
    ⊎ (((result ≡ status.Memory) × IsCut lines old new × (new.faults ≡ old.faults)) ⊎ ((result ≡ status_after_fault s) × IsCut lines old new × Rose old.faults new.faults))

-- what was made was written whole or in part, a fault was counted exactly where it was told, and the lines of what was made or of the fault were printed
abbrev pub Finished : Outputs → StoreState → StoreState → SinkState → SinkState → Status → Type 0
Finished made old new out out' result =
    ((new.files ≡ all_put made.files old.files) × NoneFailed old new × Reported made.status made.lines out out' result)
    ⊎ ((Partly made.files old.files new.files × WriteFailed old new × Reported status.WriteFault (line_of status.WriteFault) out out' result)
    ⊎ (Partly made.files old.files new.files × NoneFailed old new × Reported status.Memory (line_of status.Memory) out out' result))
