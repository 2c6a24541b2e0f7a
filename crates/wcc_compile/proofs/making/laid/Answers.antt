use Rattle.std.proofs.Common.{◌≡◌, subst, sym}
use Rattle.low_ir.specs.declared.places.LowReg.{LowReg}
use Rattle.low_ir.specs.Placings.{placed_of}
use Rattle.compile_stages.specs.Made.{IsInMemory}
use Rattle.compile_stages.specs.Placed.{HasNumbers, IsPlacedBy}
use Rattle.image_frames.specs.Memories.{Placement}
use Rattle.compile_stages.specs.declared.made.Made.{Made}
use Rattle.wcc_compile.proofs.Both.{both}
use Rattle.wcc_compile.proofs.making.laid.Goals as goal

pub in_memory-requires : goal.in_memory-requires
in_memory-requires c = c.requires c.in-Ok.placement c.in-Ok.ensures

pub returns-in-Ok-clause-placed : goal.returns-in-Ok-clause-placed
returns-in-Ok-clause-placed c =
    let ids = c.args.numbers.now in
    let pl = c.in-Ok.placement in
    let code = c.args.lowered.code in
    both c.in_memory.result (λ (m : Made). m.code ≡ code) (λ (m : Made). m.placement ≡ pl) (IsPlacedBy ids)
    (λ m same placed. subst (λ (l : LowReg). HasNumbers ids (placed_of l) m.placement) (sym same) (subst (HasNumbers ids (placed_of code)) (sym placed) c.in-Ok.ensures))
    c.in_memory.ensures.code c.in_memory.ensures.placement

pub returns-in-Ok-clause-memory : goal.returns-in-Ok-clause-memory
returns-in-Ok-clause-memory c =
    let pl = c.in-Ok.placement in
    let code = c.args.lowered.code in
    both c.in_memory.result (λ (m : Made). (m.code ≡ code) × (m.placement ≡ pl)) (λ (m : Made). IsInMemory pl code m.laid) (λ (m : Made). IsInMemory m.placement m.code m.laid)
    (λ m same memory. subst (λ (l : LowReg). IsInMemory m.placement l m.laid) (sym same.0) (subst (λ (q : Placement). IsInMemory q code m.laid) (sym same.1) memory))
    (both c.in_memory.result (λ (m : Made). m.code ≡ code) (λ (m : Made). m.placement ≡ pl) (λ (m : Made). (m.code ≡ code) × (m.placement ≡ pl)) (λ m e f. (e, f)) c.in_memory.ensures.code c.in_memory.ensures.placement)
    c.in_memory.ensures.memory
