use Rattle.std.proofs.Common.{◌∙◌, refl}
use Rattle.c_types.proofs.Definitions.{function_is}
use Rattle.c_types.proofs.unit.make_function.Goals as goal

pub returns-in-Ok : goal.returns-in-Ok
returns-in-Ok c = λ a b parts.
    function_is c.args.source.now c.in-Ok.specifiers c.args.rule c.args.first c.args.list c.args.body c.first_of-in-Ok.result a b (c.in-Ok.ensures ∙ c.deref.ensures.value)
    (rw (c.first_of-in-Ok.ensures, c.first_of.ensures, c.fault_at-own.ensures) refl) parts
