use Rattle.std.proofs.Common.{◌≡◌, true, nat_lt, arith, sym, Some, ap, map, option_map, ◌∙◌}
use Rattle.std.proofs.lemmas.Bool.Decides.{nat_tests}
use Rattle.low_eval.specs.Progress.{items_of}
use Rattle.low_ir.specs.Places.{place_in, places, machine_registers, registers_of}
use Rattle.low_ir.specs.Runs.{write_all}
use Rattle.low_ir.specs.View.{function_of}
use Rattle.register_eval.specs.Laid.{laid_function}
use Rattle.register_eval.specs.Stands.{rest_of, running_of}
use Rattle.register_eval.specs.Tables.{table_of}
use Rattle.register_eval.proofs.Steps.{called_run, if_ok}
use Rattle.register_eval.proofs.running.Running.call.Goals as goal

pub returns : goal.returns
returns c =
    let self = c.args.self.now in
    let t = table_of self.top.table in
    let own = table_of c.in-Some.table in
    let fn = laid_function own (function_of c.in-Some.function.now) in
    let below : nat_lt c.args.called.function self.top.function ≡ true = grind (arith, nat_tests, c.if-callee-self.false) in
    if_ok c.enter.result _ _ c.enter.ensures (λ goes entered.
    called_run (running_of self) (running_of c.wait.new.self) (rest_of t c.args.rest) (option_map (place_in t) c.args.called.into) c.args.called.function (registers_of machine_registers c.args.mask) _ _ fn c.in-Some-2.values.items c.in-Some-3.file
    (c.placed_function.ensures ∙ ap (option_map (λ f. laid_function (table_of f.1) (function_of f.0.now))) c.in-Some.is)
    (c.in_ok-values.ensures ∙ ap items_of c.in-Some-2.is)
    below
    (sym (ap (write_all places (Some (places.empty own.slots)) (map (place_in own) c.in-Some.function.now.parameters.items)) c.deref.ensures.value) ∙ c.in_ok-file.ensures ∙ c.in-Some-3.is)
    (c.in_ok-wait.ensures.top ∙ c.new.ensures)
    c.in_ok-wait.ensures.below
    c.in_ok-wait.ensures.world
    ∙ entered)
