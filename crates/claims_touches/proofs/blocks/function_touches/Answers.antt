use Rattle.std.proofs.Common.{map, ap, ◌∙◌}
use Rattle.asm_code.specs.Scopes.{memory, program}
use Rattle.claims_touches.specs.Bodies.{touches_in}
use Rattle.claims_touches.proofs.Steps.{function_made}
use Rattle.claims_touches.proofs.blocks.function_touches.Goals as goal

pub returns : goal.returns
returns c =
    let s = c.args.scope.now in
    ap (map (touches_in s)) c.new.ensures
    ∙ function_made (memory s) (program s) s.number _ c.in_ok-all.all.items c.put_leaving.new.all.items s.at_once c.requires.own c.requires.scope.at_once c.in_ok-all.ensures c.in_ok-put_leaving.ensures
