use Rattle.std.proofs.Common.{List, ap, map, subst, ℕ, ◌∙◌}
use Rattle.std.specs.Prelude.{Vec}
use Rattle.std.specs.Global.{Global}
use Rattle.low_ir.specs.declared.low.Block.{Block}
use Rattle.low_ir.specs.View.{block_of, function_of, loop_of}
use Rattle.pass_copy_propagation.specs.Knowing.{Knowing, list_of, unknown}
use Rattle.pass_copy_propagation.specs.Making.{AreBlocks}
use Rattle.pass_copy_propagation.proofs.Blocks.{function_made, some_at}
use Rattle.pass_copy_propagation.proofs.Standing.{known_unknown}
use Rattle.pass_copy_propagation.proofs.making.function_of.Goals as goal

pub returns : goal.returns
returns c =
    let lasting = c.in_ok-lasting.field-0.lasting.items in
    let lists = map list_of c.in_ok-lasting.field-0.lists.items in
    let fn = function_of c.args.function.now in
    let gn = function_of (record { parameters = c.in_ok-same_registers.field-0; registers = c.grown-registers.result; loops = c.in_ok-same_loops.field-0; blocks = c.in-Some.blocks }) in
    function_made fn gn lasting lists (unknown lasting gn.size) (c.in_ok-same_registers.ensures ∙ c.deref-3.ensures.value) c.grown-registers.ensures (ap (map loop_of) (c.in_ok-same_loops.ensures ∙ c.deref-4.ensures.value)) (known_unknown lasting gn.size)
    (subst (λ (xs : List Block). AreBlocks gn.size lists (unknown lasting gn.size) (map block_of xs) gn.blocks) c.deref-2.ensures.value
    (subst (λ (ls : List (Vec ℕ Global)). AreBlocks gn.size (map list_of ls) (unknown lasting gn.size) (map block_of c.deref-2.result.now) gn.blocks) c.deref.ensures.value
    (subst (λ (k : Knowing). AreBlocks gn.size (map list_of c.deref.result.now) k (map block_of c.deref-2.result.now) gn.blocks) c.in_ok-known.ensures
    (some_at (λ (v : Vec Block Global). AreBlocks gn.size _ _ (map block_of c.deref-2.result.now) (map block_of v.items)) c.in-Some.is c.in_ok-blocks.ensures))))
