use Rattle.std.proofs.Common.{drop}
use Rattle.low_ir.specs.Places.{machine_registers, registers_of}
use Rattle.asm_program.specs.Emission.{kept_among}
use Rattle.asm_emission.proofs.Kept.{kept-step, kept-small}
use Rattle.asm_emission.proofs.calls.kept_among.Goals as goal

pub loop-place-preserved : goal.loop-place-preserved
loop-place-preserved c =
    kept-step c.loop-place.kept.items c.put_kept.new.kept.items _ c.args.places.now c.loop-place.place-index _ (registers_of machine_registers c.args.mask) c.loop-place-test.true c.in_ok-put_kept.ensures c.loop-place.invariant

pub returns-clause-below : goal.returns-clause-below
returns-clause-below c =
    kept-small c.loop-place.kept.items (kept_among (drop c.loop-place.place-index c.args.places.now) (registers_of machine_registers c.args.mask)) c.args.places.now (registers_of machine_registers c.args.mask) c.loop-place.invariant c.requires
