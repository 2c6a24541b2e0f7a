-- Files read and written whole, and lines put whole: what stands between two calls of the outside.
use Rattle.std.specs.Prelude.{◌≡◌, ℕ, ◌<◌, ◌≤◌, List, ◌++◌, length, take, Option, IfSome}
use Rattle.wcc_base.specs.Outside.{Files, StoreState, SinkState, bytes_of, told_put, told_append}
use Rattle.wcc_base.specs.declared.limits.Bound.{Bound}
use Rattle.command_perform.specs.declared.files.Reading.{Reading}
use Rattle.command_perform.specs.declared.files.Reading.TheVariants.{Whole, TooLong}
use Rattle.command_perform.specs.Gathering.{Wants, AreSome, contents_of, Fit, Overlong}
use Rattle.command_perform.specs.Finishing.{all_put, Partly, NoneFailed}

-- what is read of these bytes
abbrev pub IsReading : List ℕ → ℕ → Reading → Type 0
IsReading bytes most (Whole v) = (v.items ≡ bytes) × (length bytes ≤ most)
IsReading bytes most TooLong = most < length bytes

-- n more bytes of the contents were read
pub record GoesOn (contents old new : List ℕ) (n : ℕ) : Type 0 where
  pub so_far : old ≡ take (length old) contents → new ≡ take (length new) contents
  pub ended : n ≡ 0 → length contents ≤ length old

-- part of a file was read
pub record HasRead (old now : StoreState) (name bytes : List ℕ) (most room : ℕ) : Type 0 where
  pub so_far : IfSome old.files (λ fs. bytes ≡ take (length bytes) (bytes_of fs name))
  pub within : length bytes ≤ most
  pub whole_buffer : room ≡ 65536
  pub same : now.files ≡ old.files
  pub counts : NoneFailed old now

-- the files of a first part of a list were read
pub record HasGathered (ws rest : Wants) (fs : Files) (contents : List (List ℕ)) : Type 0 where
  pub so_far : contents ++ contents_of rest fs ≡ contents_of ws fs
  pub fit : Fit rest fs → Fit ws fs
  pub overlong : (which : Bound) → Overlong rest fs which → Overlong ws fs which

-- what stands between two files that are read
pub record Gathering (ws rest : Wants) (old now : StoreState) (contents : List (List ℕ)) (index : ℕ) : Type 0 where
  pub gathered : IfSome old.files (λ fs. HasGathered ws rest fs contents)
  pub some : AreSome rest → AreSome ws
  pub count : length contents ≡ index
  pub same : now.files ≡ old.files
  pub counts : NoneFailed old now

-- part of a file was written
pub record HasWritten (old now : StoreState) (name bytes : List ℕ) (done : ℕ) : Type 0 where
  pub so_far : now.files ≡ told_put name (take done bytes) old.files
  pub within : done ≤ length bytes
  pub counts : NoneFailed old now

-- files in order, of which the first ones were written
pub record HasPutFiles (files rest : List (List ℕ × List ℕ)) (old now : Option Files) : Type 0 where
  pub whole : all_put rest now ≡ all_put files old
  pub part : (new : Option Files) → Partly rest now new → Partly files old new

-- what stands between two files that are written
pub record Putting (files rest : List (List ℕ × List ℕ)) (old now : StoreState) : Type 0 where
  pub put : HasPutFiles files rest old.files now.files
  pub counts : NoneFailed old now

-- part of a text was put
pub record HasPut (old now : SinkState) (text : List ℕ) (done : ℕ) : Type 0 where
  pub so_far : now.written ≡ told_append (take done text) old.written
  pub within : done ≤ length text
  pub faults : now.faults ≡ old.faults

-- what stands between two parts of a text
pub record Showing (old now : SinkState) (text rest : List ℕ) : Type 0 where
  pub front : List ℕ
  pub split : front ++ rest ≡ text
  pub so_far : now.written ≡ told_append front old.written
  pub faults : now.faults ≡ old.faults
