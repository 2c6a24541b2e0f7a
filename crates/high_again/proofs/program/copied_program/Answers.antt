use Rattle.std.proofs.Common.{ap, map, subst, sym, ◌∙◌}
use Rattle.high_ir.specs.Formed.{IsHigh}
use Rattle.high_ir.specs.Programs.{program_of}
use Rattle.high_ir.specs.View.{function_of, object_of}
use Rattle.high_again.proofs.Making.{from_parts}
use Rattle.high_again.proofs.program.copied_program.Goals as goal

pub invariant_of-program : goal.invariant_of-program
invariant_of-program c =
    let old = c.args.old.now in
    let same = from_parts (program_of old) (map function_of c.in-Ok.functions.items) (map object_of c.in_ok-objects.objects.items)
    (c.in-Ok.ensures ∙ ap (map function_of) c.deref-2.ensures.value)
    (c.in_ok-objects.ensures ∙ ap (map object_of) c.deref.ensures.value) in
    record { is_high = subst IsHigh (sym same) old.is_high }

pub returns-in-Ok : goal.returns-in-Ok
returns-in-Ok c =
    from_parts (program_of c.args.old.now) (map function_of c.in-Ok.functions.items) (map object_of c.in_ok-objects.objects.items)
    (c.in-Ok.ensures ∙ ap (map function_of) c.deref-2.ensures.value)
    (c.in_ok-objects.ensures ∙ ap (map object_of) c.deref.ensures.value)
