use Rattle.std.proofs.Common.{◌≡◌, drop}
use Rattle.rv_core.specs.Words.{first_match}
use Rattle.rv_core.proofs.reading.first_match.Given as goal

-- none of the rows so far matches
abbrev pub invariant-loop-op : goal.invariant-loop-op
invariant-loop-op l = first_match l.ops l.fields ≡ first_match (drop l.op-index l.ops) l.fields
