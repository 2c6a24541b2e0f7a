use Rattle.std.proofs.Common.{◌≤◌, refl, sym, ◌∙◌, arith}
use Rattle.std.proofs.lemmas.Int.{to_z-of_z}
use Rattle.rv_core.specs.Exits.{finish}
use Rattle.rv_core.specs.Runs.{setup}
use Rattle.rv_core.specs.Table.{default_table}
use Rattle.rv_runs.proofs.running.run.Goals as goal

pub returns-in-Exit : goal.returns-in-Exit
returns-in-Exit c =
    let m = c.run.new.self in
    let f = finish m.state.world.output c.in-Exit.value m.state.cycles in
    let early : c.in_ok-machine.machine.state.cycles ≤ c.most_cycles.result = omega (arith, c.in_ok-machine.ensures.start) in
    let e = c.in-Exit.ensures.exits (setup c.args.image.now default_table c.args.input.now) 0 c.in_ok-machine.ensures.at early f (record { exits = refl; output = refl; cycles = refl }) in
    record { finish = f; exits = e.exits; value = grind (arith, to_z-of_z, c.run.type_inv, c.in-Exit.is, c.ended.ensures.value); output = sym (c.ended.ensures.output ∙ c.into_output.ensures) }
