use Rattle.std.proofs.Common.{◌≡◌, Bool, List, Option, [], ap, map, refl, subst, ◌∙◌}
use Rattle.std.specs.Prelude.{All, IfSome, Vec, slice_get}
use Rattle.std.specs.Global.{Global}
use Rattle.low_ir.specs.declared.low.Block.{Block}
use Rattle.low_ir.specs.declared.low.Loop.{Loop as Loop'}
use Rattle.low_ir.specs.Code.{Loop}
use Rattle.low_ir.specs.View.{block_of, function_of, loop_of}
use Rattle.pass_strength_reduction_law.specs.Steps.{BlockNamesNoSpare, IsIdle}
use Rattle.pass_dataflow_facts.specs.declared.proposals.Change.{Change}
use Rattle.pass_strength_reduction.specs.Changing.{BlocksChanged}
use Rattle.pass_strength_reduction.specs.Scenes.{Fits, Scene, facts_at, is_spare}
use Rattle.pass_strength_reduction.proofs.Blocks.{function_changed}
use Rattle.pass_strength_reduction.proofs.functions.changed.Goals as goal

pub returns : goal.returns
returns c =
    let around = c.args.around.now in
    let proposal = c.args.proposal.now in
    let fn = function_of c.args.function.now in
    let gn = function_of (record { parameters = c.in_ok-same_registers.field-0; registers = c.args.function.now.registers; loops = c.in_ok-same_loops.field-0; blocks = c.in-Some.blocks }) in
    let new = map block_of c.in-Some.blocks.items in
    let bare = subst (λ (cs : List Change). facts_at cs 0 ≡ []) c.deref.ensures.value (c.begins_bare.ensures c.if-not-begins_bare.false) in
    let unnamed = subst (λ (bs : List Block). All (BlockNamesNoSpare (is_spare proposal.spare.items)) (map block_of bs)) c.deref-3.ensures.value
    (subst (λ (flags : List Bool). All (BlockNamesNoSpare (is_spare flags)) (map block_of c.deref-3.result.now)) c.deref-2.ensures.value (c.in_ok-name_none.ensures c.if-not-branch.false)) in
    let made = subst (λ (o : Option (Vec Block Global)). IfSome o (λ (v : Vec Block Global). (sc : Scene) → Fits around.claims.now around.alone.now around.objects fn.size c.deref-4.result.now sc → sc.changes ≡ c.deref-5.result.now → BlocksChanged sc 0 (map block_of c.deref-6.result.now) (map block_of v.items))) c.in-Some.is c.in_ok-blocks.ensures in
    let blocks = subst (λ (flags : List Bool). (sc : Scene) → Fits around.claims.now around.alone.now around.objects fn.size flags sc → sc.changes ≡ proposal.changes.items → BlocksChanged sc 0 fn.blocks new) c.deref-4.ensures.value
    (subst (λ (cs : List Change). (sc : Scene) → Fits around.claims.now around.alone.now around.objects fn.size c.deref-4.result.now sc → sc.changes ≡ cs → BlocksChanged sc 0 fn.blocks new) c.deref-5.ensures.value
    (subst (λ (bs : List Block). (sc : Scene) → Fits around.claims.now around.alone.now around.objects fn.size c.deref-4.result.now sc → sc.changes ≡ c.deref-5.result.now → BlocksChanged sc 0 (map block_of bs) new) c.deref-6.ensures.value made)) in
    let idle = subst (λ (ls : List Loop'). All (λ (l : Loop). IsIdle (slice_get new l.latch)) (map loop_of ls)) c.deref-8.ensures.value
    (subst (λ (bs : List Block). All (λ (l : Loop). IsIdle (slice_get (map block_of bs) l.latch)) (map loop_of c.deref-8.result.now)) c.deref-7.ensures.value (c.are_idle.ensures c.if-not-are_idle.false)) in
    function_changed around.claims.now around.alone.now around.objects proposal.spare.items proposal.changes.items fn gn bare unnamed blocks idle
    (c.in_ok-same_registers.ensures ∙ c.deref-9.ensures.value) refl (ap (map loop_of) (c.in_ok-same_loops.ensures ∙ c.deref-10.ensures.value))
