-- The outside as contracts see it: files by name, what a sink has taken, and the counts of their faults.
use Rattle.std.specs.Prelude.{◌≡◌, ℕ, ◌+◌, ◌-◌, ◌^◌, ◌≤◌, max, min, List, [], ◌∷◌, ◌++◌, length, take, drop, Option, Some, None, Result, Ok, Err, unwrap_or, if◌then◌else◌}
use Rattle.std.specs.Option.{option_map}
use Rattle.std.specs.Str.{bytes_eq}
use Rattle.wcc_base.specs.declared.outside.Fault.{Fault}
use Rattle.wcc_base.specs.declared.outside.Fault.TheVariants.{Failed, Memory}

-- files as a list of names with their bytes, in the order in which they were created
abbrev pub Files : Type 0
Files = List (List ℕ × List ℕ)

-- the bytes of a file, if there is one of that name
abbrev pub file_of : Files → List ℕ → Option (List ℕ)
file_of [] name = None
file_of (f ∷ fs) name = if bytes_eq f.0 name then Some f.1 else file_of fs name

-- the same, an absent file taken as an empty one
abbrev pub bytes_of : Files → List ℕ → List ℕ
bytes_of fs name = unwrap_or (file_of fs name) []

-- the files with these bytes in the named one, new or not
abbrev pub put_file : List ℕ → List ℕ → Files → Files
put_file name bytes [] = (name, bytes) ∷ []
put_file name bytes (f ∷ fs) = if bytes_eq f.0 name then (name, bytes) ∷ fs else f ∷ put_file name bytes fs

-- the same where files are told
abbrev pub told_put : List ℕ → List ℕ → Option Files → Option Files
told_put name bytes o = option_map (put_file name bytes) o

-- the files with a piece added to the named one, where files are told
abbrev pub told_add : List ℕ → List ℕ → Option Files → Option Files
told_add name piece o = option_map (λ fs. put_file name (bytes_of fs name ++ piece) fs) o

-- what a sink had taken and a piece behind it, where it tells them
abbrev pub told_append : List ℕ → Option (List ℕ) → Option (List ℕ)
told_append piece o = option_map (λ w. w ++ piece) o

-- a store at one time: its files, where it tells them, and how often reading and writing have failed
pub record StoreState : Type 0 where
  pub files : Option Files
  pub read_faults : ℕ
  pub write_faults : ℕ

-- a sink at one time: the bytes that it has taken, where it tells them, and how often it has failed
pub record SinkState : Type 0 where
  pub written : Option (List ℕ)
  pub faults : ℕ

-- n bytes were read from that place of the file, none only at its end or behind it
pub record Reads (bytes : List ℕ) (at n : ℕ) (buf : List ℕ) : Type 0 where
  pub same : take n buf ≡ take n (drop at bytes)
  pub within : n ≤ length bytes - at
  pub none : n ≡ 0 → length bytes ≤ at

-- a count of 64 bits, raised by one until its last value; none falls
abbrev pub raised : ℕ → ℕ
raised n = max n (min (n + 1) (2 ^ 64 - 1))

-- a fault was counted
abbrev pub Rose : ℕ → ℕ → Type 0
Rose before now = now ≡ raised before

-- a count behind a call: raised exactly where the call answered `Failed`
abbrev pub counted : {T : Type 0} → ℕ → Result T Fault → ℕ
counted n (Ok value) = n
counted n (Err Failed) = raised n
counted n (Err Memory) = n

-- the counts behind a call that reads
pub record CountsRead {T : Type 0} (old new : StoreState) (result : Result T Fault) : Type 0 where
  pub reads : new.read_faults ≡ counted old.read_faults result
  pub writes : new.write_faults ≡ old.write_faults

-- the counts behind a call that writes
pub record CountsWrite {T : Type 0} (old new : StoreState) (result : Result T Fault) : Type 0 where
  pub reads : new.read_faults ≡ old.read_faults
  pub writes : new.write_faults ≡ counted old.write_faults result
