use Rattle.std.proofs.Common.{arith, ap, map, refl, sym, subst, ◌∙◌}
use Rattle.std.proofs.lemmas.Result.{MatchResult-weaker}
use Rattle.high_ir.specs.Programs.{program_of}
use Rattle.high_ir.specs.View.{object_of}
use Rattle.high_renumber.specs.Keeping.{IsLoose}
use Rattle.high_renumber.specs.Numbered.{copies_in}
use Rattle.inliner.specs.View.{making_of}
use Rattle.inliner.proofs.Loosened.{listed_some, loose_made, loose_same}
use Rattle.inliner.proofs.inline.inlined.Goals as goal

pub renumber-requires : goal.renumber-requires
renumber-requires c =
    let settled = c.args.settled in
    subst IsLoose (sym (loose_same c.args.limit settled.sweeps c.args.old.now (making_of settled.making) settled.making.functions.items c.in-Ok.objects.items c.requires refl (c.in-Ok.ensures ∙ ap (map object_of) c.deref.ensures.value)))
    (loose_made c.args.limit (program_of c.args.old.now) c.args.old.now.is_high settled.sweeps)

pub returns-in-Ok-clause-copies : goal.returns-in-Ok-clause-copies
returns-in-Ok-clause-copies c =
    let settled = c.args.settled in
    MatchResult-weaker c.renumber.result c.renumber.ensures.copies (λ carried listed.
    listed
    ∙ ap copies_in (loose_same c.args.limit settled.sweeps c.args.old.now (making_of settled.making) settled.making.functions.items c.in-Ok.objects.items c.requires refl (c.in-Ok.ensures ∙ ap (map object_of) c.deref.ensures.value))
    ∙ sym (listed_some c.args.limit (program_of c.args.old.now) settled.sweeps (omega (arith, c.if-sweeps-eq0.false)))) (λ memory no_program. no_program)
