use Rattle.std.proofs.Common.{List, ap, map, refl, subst, ◌∙◌}
use Rattle.std.specs.Prelude.{All, slice_get}
use Rattle.low_ir.specs.declared.low.Block.{Block}
use Rattle.low_ir.specs.declared.low.Loop.{Loop as Loop'}
use Rattle.low_ir.specs.Code.{Loop}
use Rattle.low_ir.specs.View.{block_of, function_of, loop_of}
use Rattle.pass_strength_reduction_law.specs.Steps.{IsIdle}
use Rattle.pass_strength_reduction.proofs.Blocks.{function_kept}
use Rattle.pass_strength_reduction.proofs.functions.kept.Goals as goal

pub returns : goal.returns
returns c = λ claims alone objects.
    let fn = function_of c.args.function.now in
    let gn = function_of (record { parameters = c.in_ok-same_registers.field-0; registers = c.args.function.now.registers; loops = c.in_ok-same_loops.field-0; blocks = c.in_ok-same_blocks.field-0 }) in
    let idle = subst (λ (ls : List Loop'). All (λ (l : Loop). IsIdle (slice_get (map block_of c.args.function.now.blocks.items) l.latch)) (map loop_of ls)) c.deref-2.ensures.value
    (subst (λ (bs : List Block). All (λ (l : Loop). IsIdle (slice_get (map block_of bs) l.latch)) (map loop_of c.deref-2.result.now)) c.deref.ensures.value (c.are_idle.ensures c.if-not-are_idle.false)) in
    function_kept claims alone objects fn gn idle
    (c.in_ok-same_blocks.ensures ∙ ap (map block_of) c.deref-5.ensures.value) (c.in_ok-same_registers.ensures ∙ c.deref-3.ensures.value) refl (ap (map loop_of) (c.in_ok-same_loops.ensures ∙ c.deref-4.ensures.value))
