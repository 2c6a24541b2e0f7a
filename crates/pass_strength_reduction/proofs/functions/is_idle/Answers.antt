use Rattle.std.proofs.Common.{◌≡◌, Some, [], ap, length, map, option_map, refl, subst, sym, ◌∙◌}
use Rattle.std.specs.Prelude.{slice_get}
use Rattle.std.proofs.lemmas.Option.{slice_get-map, slice_get_read}
use Rattle.low_ir.specs.View.{block_of, instr_of}
use Rattle.pass_strength_reduction_law.specs.Steps.{IsIdle}
use Rattle.pass_strength_reduction.proofs.functions.is_idle.Goals as goal

pub returns-in-Some : goal.returns-in-Some
returns-in-Some c = λ done.
    let n = c.args.latch in
    let blocks = c.args.blocks.now in
    let b = c.in-Some.block.now in
    let got : slice_get blocks n ≡ Some b = slice_get_read blocks (length blocks) n b refl c.in-Some.ensures.lookup.3.0 c.in-Some.ensures.lookup.1 in
    subst IsIdle (sym (slice_get-map block_of blocks n ∙ ap (option_map block_of) got)) (subst (λ is. map instr_of is ≡ []) c.deref.ensures.value (c.has_none.ensures done))
