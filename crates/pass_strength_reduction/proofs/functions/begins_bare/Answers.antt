use Rattle.std.proofs.Common.{◌≡◌, Some, [], length, refl, subst, ◌∙◌}
use Rattle.std.specs.Prelude.{slice_get}
use Rattle.std.proofs.lemmas.Option.{slice_get_read}
use Rattle.pass_strength_reduction.proofs.Following.{facts_past, facts_there}
use Rattle.pass_strength_reduction.proofs.functions.begins_bare.Goals as goal

pub returns-in-None : goal.returns-in-None
returns-in-None c = λ done. facts_past c.args.changes.now 0 c.in-None.ensures.lookup.3

pub returns-in-Some : goal.returns-in-Some
returns-in-Some c = λ done.
    let changes = c.args.changes.now in
    let it = c.in-Some.change.now in
    let got : slice_get changes 0 ≡ Some it = slice_get_read changes (length changes) 0 it refl c.in-Some.ensures.lookup.3.0 c.in-Some.ensures.lookup.1 in
    facts_there changes 0 it got ∙ subst (λ fs. fs ≡ []) c.deref.ensures.value (c.are_none.ensures done)
