use Rattle.std.proofs.Common.{length}
use Rattle.response_time.specs.Listing.{IsListing}
use Rattle.response_time.proofs.reading.read_tasks.Given as goal

abbrev pub invariant-lines : goal.invariant-lines
invariant-lines l = IsListing l.fn.bytes l.entries.items l.rest

abbrev pub decreases-lines : goal.decreases-lines
decreases-lines l = length l.rest
