use Rattle.std.proofs.Common.{map, ap, ◌∙◌}
use Rattle.low_ir.specs.Placings.{placed_of}
use Rattle.asm_program.specs.Functions.{start_items}
use Rattle.claims_touches.specs.Named.{item_names}
use Rattle.claims_touches.proofs.Steps.{program_made}
use Rattle.claims_touches.proofs.programs.touches_of.Goals as goal

pub returns : goal.returns
returns c =
    let p = placed_of c.args.code.now in
    program_made c.args.memory.now p c.in_ok-all.all.items c.push.new.self.items c.in_ok-start_touches.field-0
    c.in_ok-all.ensures c.in_ok-push.ensures.items (c.in_ok-start_touches.ensures ∙ ap (λ second. map item_names (start_items second p.main)) c.second.ensures)
