use Rattle.std.proofs.Common.{drop}
use Rattle.elf_image.specs.Addresses.{HaveAddresses}
use Rattle.elf_image.proofs.laws.have_addresses.Given as goal

abbrev pub invariant-loop-segment : goal.invariant-loop-segment
invariant-loop-segment l = HaveAddresses (drop l.segment-index l.segments) → HaveAddresses l.segments
