use Rattle.std.proofs.Common.{string_bytes}
use Rattle.base_stores.specs.FileList.{Passed}
use Rattle.base_stores.proofs.file_list.place.Given as goal

abbrev pub invariant-loop-i : goal.invariant-loop-i
invariant-loop-i l = Passed string_bytes (λ v. v.items) l.name l.files l.i
