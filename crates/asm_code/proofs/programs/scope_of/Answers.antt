use Rattle.std.proofs.Common.{◌≡◌, length, map, refl, sym, ap, ◌∙◌, arith}
use Rattle.low_ir.specs.View.{block_of, function_of}
use Rattle.low_ir.specs.Placings.{assignment_of, placed_of}
use Rattle.low_ir.specs.Programs.{low_of}
use Rattle.asm_program.specs.Functions.{PlacedFunction, no_function, function_in, is_leaf, leaves_at_once}
use Rattle.asm_code.specs.Leaves.{all_call_none}
use Rattle.asm_code.proofs.Bodies.{all-callees-none}
use Rattle.asm_code.proofs.Placed.{function_at, blocks-count}
use Rattle.asm_code.proofs.programs.scope_of.Goals as goal

pub returns-clause-scope : goal.returns-clause-scope
returns-clause-scope c =
    let code = c.args.code.now in
    let f = c.args.number in
    let x = c.args.function.now in
    let a = assignment_of code in
    let own = function_at a (low_of code.low).functions f (function_of x) no_function c.requires in
    let leaf : c.is_leaf-leaf.result ≡ is_leaf (function_in (placed_of code) f) =
    c.is_leaf-leaf.ensures
    ∙ ap (λ l. all_call_none (map block_of l)) c.as_slice.ensures.value
    ∙ sym (all-callees-none (a.place f) (a.kept f) 0 (map block_of x.blocks.items))
    ∙ sym (ap is_leaf own) in
    let count = blocks-count a f x in
    let same = ap (λ (fn : PlacedFunction). length fn.blocks) own in
    let few = c.in-Ok.ensures in
    let blocks : c.in-Ok.blocks ≡ length (function_in (placed_of code) f).blocks = omega (arith, c.len.ensures) in
    record {
      program_is = refl;
      memory_is = refl;
      number_is = refl;
      places_is = c.places_of.ensures;
      kept_is = c.kept_of.ensures;
      scope = record {
        frame = c.frame-frame.ensures;
        leaf = leaf;
        at_once = c.leaves_at_once.ensures ∙ ap (λ t. leaves_at_once t c.frame-frame.result.now) leaf ∙ ap (leaves_at_once (is_leaf (function_in (placed_of code) f))) c.frame-frame.ensures;
        blocks = blocks;
      };
    }
