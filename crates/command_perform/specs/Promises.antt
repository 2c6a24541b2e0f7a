-- What each status promises.
use Rattle.std.specs.Prelude.{◌≡◌, ◌⊎◌, ℕ, ◌+◌, List, Option, Some, None, IsSomeAnd}
use Rattle.wcc_base.specs.Outside.{StoreState, SinkState, told_append, Rose}
use Rattle.wcc_base.specs.Limits.{greatest_of}
use Rattle.wcc_base.specs.declared.limits.Bound.{Bound}
use Rattle.wcc_base.specs.declared.status.Status.{Status}
use Rattle.wcc_base.specs.declared.status.Status.TheVariants as status
use Rattle.command_perform.specs.Words.{Command, Asked, Named, Respond}
use Rattle.command_perform.specs.Outputs.{Outputs}
use Rattle.command_perform.specs.StatusLines.{line_of}
use Rattle.command_perform.specs.Commands.{wanted_of, Refuses, Makes}
use Rattle.command_perform.specs.Gathering.{contents_of, Fit}
use Rattle.command_perform.specs.Finishing.{all_put, Partly, NoneFailed, WriteFailed, IsCut}
use Rattle.command_perform.specs.Ends.{OverlongIn, RefusesIn, MakesIn, ReadFailed}
use Rattle.command_perform.specs.Responding.{CanOnlyRespond}

-- what the command makes of its files has this status, and stands written, and no fault of the store was counted
pub record HasMade (c : Asked) (old new : StoreState) (s : Status) (made : Outputs) : Type 0 where
  pub status_is : made.status ≡ s
  pub makes : MakesIn c old.files made
  pub files : new.files ≡ all_put made.files old.files
  pub counts : NoneFailed old new

-- the call is done: what the command makes is written, and its lines are printed, without a fault
abbrev pub IsDone : Option Asked → StoreState → StoreState → SinkState → SinkState → Type 0
IsDone None old new out out' = ⊥
IsDone (Some c) old new out out' = (made : Outputs) × HasMade c old new status.Done made × (out'.written ≡ told_append made.lines out.written) × (out'.faults ≡ out.faults)

abbrev pub HasStopped : Option Asked → StoreState → StoreState → Status → Type 0
HasStopped None old new s = ⊥
HasStopped (Some c) old new s = (made : Outputs) × HasMade c old new s made

abbrev pub IsRefused : Option Asked → StoreState → Status → Type 0
IsRefused None old s = ⊥
IsRefused (Some c) old s = RefusesIn c old.files s

-- a file is longer than its limit, of which one more is found
abbrev pub IsOverlong : Option Asked → StoreState → Bound → ℕ → Type 0
IsOverlong None old which found = ⊥
IsOverlong (Some c) old which found = (found ≡ greatest_of which + 1) × OverlongIn c old.files which

-- the store failed in writing what the command makes: the files before that one are whole
pub record HasFailed (c : Asked) (old new : StoreState) : Type 0 where
  pub made : Outputs
  pub makes : MakesIn c old.files made
  pub files : Partly made.files old.files new.files
  pub failed : WriteFailed old new

-- writing failed: a file, or behind all files, which are whole, the lines
abbrev pub IsUnwritten : Option Asked → StoreState → StoreState → SinkState → SinkState → Type 0
IsUnwritten None old new out out' = ⊥
IsUnwritten (Some c) old new out out' = HasFailed c old new ⊎ ((made : Outputs) × HasMade c old new status.Done made × Rose out.faults out'.faults)

-- every file is as it was, and no fault of the store was counted
abbrev pub IsUnchanged : StoreState → StoreState → Type 0
IsUnchanged old new = new ≡ old

-- the store has failed so
abbrev pub IsStoreFault : StoreState → StoreState → Status → Type 0
IsStoreFault old new status.ReadFault = ReadFailed old new
IsStoreFault old new status.WriteFault = WriteFailed old new
IsStoreFault old new s = ⊥

-- the store has failed, and memory ran out in printing the line of that fault
pub record IsUntold (old new : StoreState) (out out' : SinkState) : Type 0 where
  pub fault : Status
  pub failed : IsStoreFault old new fault
  pub cut : IsCut (line_of fault) out out'
  pub counts : out'.faults ≡ out.faults

-- the table of answers: what each status tells. Want of memory hides no fault of the store, but where it was the sink's
abbrev pub Answers : Option Asked → StoreState → StoreState → SinkState → SinkState → Status → Type 0
Answers asked old new out out' status.Done = IsDone asked old new out out'
Answers asked old new out out' (status.Refused code detail at) = IsRefused asked old (status.Refused code detail at) × IsUnchanged old new
Answers asked old new out out' status.Usage = (asked ≡ None) × IsUnchanged old new
Answers asked old new out out' (status.Limit which found) = (IsOverlong asked old which found ⊎ IsRefused asked old (status.Limit which found)) × IsUnchanged old new
Answers asked old new out out' status.ReadFault = ReadFailed old new
Answers asked old new out out' status.WriteFault = IsUnwritten asked old new out out'
Answers asked old new out out' status.Memory = NoneFailed old new ⊎ IsUntold old new out out'
Answers asked old new out out' (status.No code detail at) = IsRefused asked old (status.No code detail at) × IsUnchanged old new
Answers asked old new out out' (status.Stopped kind code at cycles) = HasStopped asked old new (status.Stopped kind code at cycles)

-- the files are within their limits, and whatever the command refuses them with or makes of them has this status
pub record CanOnly (c : Command) (contents : List (List ℕ)) (s : Status) : Type 0 where
  pub refuses : (t : Status) → Refuses c contents t → t ≡ s
  pub makes : (made : Outputs) → Makes c contents made → made.status ≡ s

abbrev pub CanEnd : Option Asked → StoreState → Status → Type 0
CanEnd None old s = s ≡ status.Usage
CanEnd (Some (Named c)) old s = IsSomeAnd old.files (λ fs. Fit (wanted_of c) fs × CanOnly c (contents_of (wanted_of c) fs) s)
CanEnd (Some (Respond asked)) old s = IsSomeAnd old.files (λ fs. CanOnlyRespond asked fs s)

-- no fault was counted
pub record NoFault (old new : StoreState) (out out' : SinkState) : Type 0 where
  pub reads : Rose old.read_faults new.read_faults → ⊥
  pub writes : Rose old.write_faults new.write_faults → ⊥
  pub puts : Rose out.faults out'.faults → ⊥
