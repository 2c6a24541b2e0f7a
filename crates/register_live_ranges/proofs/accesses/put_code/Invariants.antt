use Rattle.std.proofs.Common.{◌≡◌, ◌+◌, drop, map}
use Rattle.low_ir.specs.View.{end_of, instr_of}
use Rattle.register_live_ranges.specs.Accesses.{code_noted}
use Rattle.register_live_ranges.specs.Rows.{rows_of}
use Rattle.register_live_ranges.proofs.accesses.put_code.Given as goal

abbrev pub invariant-loop-instr : goal.invariant-loop-instr
invariant-loop-instr l = record {
  at : l.at ≡ l.fn.first + l.instr-index;
  rows : code_noted (rows_of l.rows.items) l.fn.block l.fn.first l.at (map instr_of (drop l.instr-index l.code)) (end_of l.fn.end)
      ≡ code_noted (rows_of l.initial.rows.items) l.fn.block l.fn.first l.fn.first (map instr_of l.code) (end_of l.fn.end);
}
