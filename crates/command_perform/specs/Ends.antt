-- How the top call ends: what the words ask, what became of the files, and what was printed.
use Rattle.std.specs.Prelude.{◌≡◌, ◌⊎◌, ℕ, ◌+◌, List, Option, Some, None, IfSome}
use Rattle.wcc_base.specs.Outside.{Files, StoreState, SinkState, Rose}
use Rattle.wcc_base.specs.Limits.{greatest_of}
use Rattle.wcc_base.specs.declared.limits.Bound.{Bound}
use Rattle.wcc_base.specs.declared.status.Status.{Status}
use Rattle.wcc_base.specs.declared.status.Status.TheVariants as status
use Rattle.command_perform.specs.Words.{Asked, Named, Respond}
use Rattle.command_perform.specs.Outputs.{Outputs}
use Rattle.command_perform.specs.StatusLines.{line_of}
use Rattle.command_perform.specs.Commands.{wanted_of, Refuses, Makes}
use Rattle.command_perform.specs.Responding.{OverlongTasks, RefusesTasks, MakesResponses}
use Rattle.command_perform.specs.Gathering.{AreSome, Overlong, Gathered, NotRead}
use Rattle.command_perform.specs.Finishing.{all_put, Partly, NoneFailed, WriteFailed, Reported}

-- a file is read: each command but `make` reads one
abbrev pub ReadsFiles : Asked → Type 0
ReadsFiles (Named c) = AreSome (wanted_of c)
ReadsFiles (Respond asked) = Unit {0}

-- a file that is read passes this limit, and those before it are within theirs, where the store tells them
abbrev pub OverlongIn : Asked → Option Files → Bound → Type 0
OverlongIn (Named c) files which = IfSome files (λ fs. Overlong (wanted_of c) fs which)
OverlongIn (Respond asked) files which = IfSome files (λ fs. OverlongTasks asked fs which)

-- the files were read, and are refused with this status
abbrev pub RefusesIn : Asked → Option Files → Status → Type 0
RefusesIn (Named c) files s = (contents : List (List ℕ)) × Gathered (wanted_of c) files contents × Refuses c contents s
RefusesIn (Respond asked) files s = RefusesTasks asked files s

-- the files were read, and this is made of them
abbrev pub MakesIn : Asked → Option Files → Outputs → Type 0
MakesIn (Named c) files made = (contents : List (List ℕ)) × Gathered (wanted_of c) files contents × Makes c contents made
MakesIn (Respond asked) files made = MakesResponses asked files made

-- the statuses of a refusal
abbrev pub IsRefusal : Status → Type 0
IsRefusal (status.Refused code detail at) = Unit {0}
IsRefusal (status.No code detail at) = Unit {0}
IsRefusal (status.Limit which found) = Unit {0}
IsRefusal s = ⊥

-- the statuses of what is made
abbrev pub IsEnd : Status → Type 0
IsEnd status.Done = Unit {0}
IsEnd (status.Stopped kind code at cycles) = Unit {0}
IsEnd s = ⊥

-- a fault in reading was counted, and all else of the store is as it was
pub record ReadFailed (old new : StoreState) : Type 0 where
  pub same : new.files ≡ old.files
  pub reads : Rose old.read_faults new.read_faults
  pub writes : new.write_faults ≡ old.write_faults

-- how a command ends, with the status and the lines that are printed, one row for each kind of ending. Of the counts of faults one rose where a fault is told, and else none
pub data Ending (c : Asked) (old new : StoreState) : Status → List ℕ → Type 0 where
  read_fault : ReadsFiles c → ReadFailed old new → Ending c old new status.ReadFault (line_of status.ReadFault)
  too_long : (which : Bound) → ReadsFiles c → new ≡ old → OverlongIn c old.files which → Ending c old new (status.Limit which (greatest_of which + 1)) (line_of (status.Limit which (greatest_of which + 1)))
  refused : (s : Status) → new ≡ old → IsRefusal s → RefusesIn c old.files s → Ending c old new s (line_of s)
  whole : (made : Outputs) → IsEnd made.status → MakesIn c old.files made → new.files ≡ all_put made.files old.files → NoneFailed old new → Ending c old new made.status made.lines
  in_part : (made : Outputs) → MakesIn c old.files made → Partly made.files old.files new.files → WriteFailed old new → Ending c old new status.WriteFault (line_of status.WriteFault)
  memory_in_part : (made : Outputs) → MakesIn c old.files made → Partly made.files old.files new.files → NoneFailed old new → Ending c old new status.Memory (line_of status.Memory)
  memory : new ≡ old → Ending c old new status.Memory (line_of status.Memory)

-- how a call ends that does no command: the words ask for none, or memory ran out in reading them
abbrev pub IsIdle : Status → Type 0
IsIdle status.Usage = Unit {0}
IsIdle status.Memory = Unit {0}
IsIdle s = ⊥

-- how the call ends: no command was done, and the store is as it was; or the command ended so; and its lines were printed
abbrev pub EndsWith : Option Asked → StoreState → StoreState → SinkState → SinkState → Status → Type 0
EndsWith None old new out out' result = (s : Status) × IsIdle s × (new ≡ old) × Reported s (line_of s) out out' result
EndsWith (Some c) old new out out' result = (s : Status) × (lines : List ℕ) × Ending c old new s lines × Reported s lines out out' result

-- why nothing is made: a file wasn't read, or memory ran out, or what was read is refused
abbrev pub FailsBy : Type 0 → (Bound → Type 0) → (Status → Type 0) → Status → Type 0
FailsBy Reads Passes Refused s = NotRead Reads Passes s ⊎ ((s ≡ status.Memory) ⊎ (IsRefusal s × Refused s))

abbrev pub Fails : Asked → Option Files → Status → Type 0
Fails c files s = FailsBy (ReadsFiles c) (OverlongIn c files) (RefusesIn c files) s
