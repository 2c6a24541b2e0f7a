use Rattle.std.proofs.Common.{◌≡◌, ◌+◌, ◌++◌, drop, map}
use Rattle.low_ir.specs.View.{instr_of}
use Rattle.low_ir.specs.Placings.{placings_of}
use Rattle.image_saving.specs.Walks.{code_calls}
use Rattle.image_saving.proofs.walks.put_sites.Given as goal

abbrev pub invariant-loop-instr : goal.invariant-loop-instr
invariant-loop-instr l = record {
  sites : l.sites.items ++ code_calls (placings_of l.code) l.fn.number l.place (map instr_of (drop l.instr-index l.instrs)) ≡ l.fn.sites.items ++ code_calls (placings_of l.code) l.fn.number l.fn.at (map instr_of l.instrs);
  place : l.place ≡ l.fn.at + l.instr-index;
}
