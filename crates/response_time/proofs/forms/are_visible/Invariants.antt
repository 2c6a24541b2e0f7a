use Rattle.std.proofs.Common.{◌≡◌, drop}
use Rattle.response_time.specs.Entries.{are_visible}
use Rattle.response_time.proofs.forms.are_visible.Given as goal

abbrev pub invariant-loop-byte : goal.invariant-loop-byte
invariant-loop-byte l = are_visible (drop l.byte-index l.bytes) ≡ are_visible l.bytes
