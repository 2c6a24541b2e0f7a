use Rattle.std.proofs.Common.{◌≡◌, ◌++◌, drop, length, map}
use Rattle.low_ir.specs.View.{instr_of}
use Rattle.register_allocation.specs.Masks.{code_masks, code_swept}
use Rattle.register_allocation.specs.Views.{sweep_of}
use Rattle.register_allocation.proofs.masks.put_code.Given as goal

abbrev pub invariant-loop-instr : goal.invariant-loop-instr
invariant-loop-instr l = record {
  kept : l.kept.items ++ code_masks l.placed.places.now (length l.kept.items) (sweep_of l.placed.order.now l.sweep) (map instr_of (drop l.instr-index l.code))
      ≡ l.initial.kept.items ++ code_masks l.placed.places.now (length l.initial.kept.items) (sweep_of l.placed.order.now l.initial.sweep) (map instr_of l.code);
  sweep : code_swept l.placed.places.now (length l.kept.items) (sweep_of l.placed.order.now l.sweep) (map instr_of (drop l.instr-index l.code))
      ≡ code_swept l.placed.places.now (length l.initial.kept.items) (sweep_of l.placed.order.now l.initial.sweep) (map instr_of l.code);
}
