-- What the calls of a step do to the counts of faults, one behind the other.
use Rattle.std.proofs.Common.{◌≡◌, ℕ, Option, Ok, Err, refl, ap, ◌∙◌}
use Rattle.wcc_base.specs.Outside.{Files, StoreState, raised, CountsWrite}
use Rattle.wcc_base.specs.declared.status.Status.{Status}
use Rattle.wcc_base.specs.declared.status.Status.TheVariants as status
use Rattle.command_perform.specs.Gathering.{reads_counted, OnlyRead}
use Rattle.command_perform.specs.Finishing.{NoneFailed, WriteFailed}
use Rattle.command_perform.specs.Ends.{IsRefusal, ReadFailed}

abbrev store_of : Option Files → ℕ → ℕ → StoreState
store_of files reads writes = record { files = files; read_faults = reads; write_faults = writes }

-- a store whose files and counts are as before is as before
store_is : (old new : StoreState) → new.files ≡ old.files → new.read_faults ≡ old.read_faults → new.write_faults ≡ old.write_faults → new ≡ old
store_is old new files reads writes =
    ap (λ x. store_of x new.read_faults new.write_faults) files
    ∙ ap (λ x. store_of old.files x new.write_faults) reads
    ∙ ap (λ x. store_of old.files old.read_faults x) writes

pub unchanged : (old new : StoreState) → new ≡ old → NoneFailed old new
unchanged old new e = record { reads = ap (λ (s : StoreState). s.read_faults) e; writes = ap (λ (s : StoreState). s.write_faults) e }

pub none_more : (old mid new : StoreState) → NoneFailed old mid → NoneFailed mid new → NoneFailed old new
none_more old mid new n m = record { reads = m.reads ∙ n.reads; writes = m.writes ∙ n.writes }

pub write_failed : (old mid new : StoreState) → NoneFailed old mid → WriteFailed mid new → WriteFailed old new
write_failed old mid new n m = record { reads = m.reads ∙ n.reads; writes = m.writes ∙ ap raised n.writes }

-- a further piece was written, or a further file read
pub written_on : {T : Type 0} (old mid new : StoreState) (value : T) → NoneFailed old mid → CountsWrite mid new (Ok value) → NoneFailed old new
written_on old mid new value n c = record { reads = c.reads ∙ n.reads; writes = c.writes ∙ n.writes }

pub gathered_on : {T : Type 0} (old mid new : StoreState) (value : T) → NoneFailed old mid → OnlyRead mid new (Ok value) → NoneFailed old new
gathered_on old mid new value n o = record { reads = o.reads ∙ n.reads; writes = o.writes ∙ n.writes }

-- what a step told that only read: that it is done, a fault in reading, or what is no such fault
pub all_read : {T : Type 0} (old new : StoreState) (value : T) → OnlyRead old new (Ok value) → NoneFailed old new
all_read old new value o = record { reads = o.reads; writes = o.writes }

pub fault_read : {T : Type 0} (old new : StoreState) → OnlyRead {T = T} old new (Err status.ReadFault) → ReadFailed old new
fault_read old new o = record { same = o.same; reads = o.reads; writes = o.writes }

pub none_read : {T : Type 0} (old new : StoreState) (s : Status) → reads_counted {T = T} old.read_faults (Err s) ≡ old.read_faults → OnlyRead {T = T} old new (Err s) → new ≡ old
none_read old new s none o = store_is old new o.same (o.reads ∙ none) o.writes

pub refusal_counts : (T : Type 0) (s : Status) (n : ℕ) → IsRefusal s → reads_counted {T = T} n (Err s) ≡ n
refusal_counts T (status.Refused code detail at) n i = refl
refusal_counts T (status.No code detail at) n i = refl
refusal_counts T (status.Limit which found) n i = refl
refusal_counts T s n i = absurd i
