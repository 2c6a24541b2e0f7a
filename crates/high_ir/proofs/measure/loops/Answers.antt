use Rattle.std.proofs.Common.{length, sym, ap, ◌∙◌}
use Rattle.std.proofs.lemmas.List.{length-map}
use Rattle.std.proofs.lemmas.List.FromFn.{length-range_with_len}
use Rattle.high_ir.specs.Programs.{program_of}
use Rattle.high_ir.specs.Standing.{loops_in}
use Rattle.high_ir.proofs.measure.loops.Goals as goal

pub returns : goal.returns
returns c =
    let h = c.args.program.now.is_high in
    sym (length-range_with_len 0 c.args.program.now.loops) ∙ ap length (sym h.loops) ∙ length-map (loops_in (program_of c.args.program.now).functions) (λ l. l.id)
