use Rattle.std.proofs.Common.{◌+◌, drop, rules, arith, ap, ◌∙◌, ◌++◌}
use Rattle.std.proofs.lemmas.List.{length-drop, take_rest}
use Rattle.plan_definition.specs.Layouts.{homes_from}
use Rattle.make_program.specs.Parts.{next_of}
use Rattle.make_program.proofs.Begun.{begins, firsts, one_home}
use Rattle.make_program.proofs.homes.homes.Goals as goal

pub loop-i-preserved : goal.loop-i-preserved
loop-i-preserved c =
    let fs = c.args.program.now.functions.items in
    let vs = c.args.program.now.variables.items in
    let passed = c.begins-begins.result in
    let variable = c.index-variable.result.now in
    record {
      left =
          ap (λ hs. hs ++ homes_from (firsts (drop (c.loop-i.from + passed) fs)) (drop (c.loop-i.i + 1) vs) (c.loop-i.i + 1) (next_of c.in_ok-next.next)) c.in_ok-push.ensures.items
          ∙ one_home fs vs c.loop-i.from c.loop-i.i c.in_ok-offset.field-0 passed variable (next_of c.loop-i.next) (next_of c.begun-here.result) (next_of c.in_ok-next.next) c.home.result c.loop-i.homes.items
          (search rules) (search rules) (omega (arith, c.in_ok-offset.ensures)) (c.begins-begins.ensures.value ∙ ap (λ xs. begins xs c.in_ok-offset.field-0) (take_rest c.deref.result.now c.loop-i.from ∙ ap (drop c.loop-i.from) c.deref.ensures.value)) c.begun-here.ensures c.home.ensures c.in_ok-next.ensures
          ∙ c.loop-i.invariant.left;
      within = omega (arith, c.begins-begins.ensures.within, c.loop-i.invariant.within, length-drop c.loop-i.from fs);
    }
