use Rattle.std.proofs.Common.{◌≡◌, Some, length, refl, subst, sym, true}
use Rattle.std.specs.Prelude.{slice_get}
use Rattle.std.proofs.lemmas.Option.{slice_get_read}
use Rattle.pass_dataflow_facts.specs.Facts.{all_true}
use Rattle.pass_strength_reduction.proofs.Following.{facts_past, facts_there}
use Rattle.pass_strength_reduction.proofs.ending.begins.Goals as goal

pub returns-in-None : goal.returns-in-None
returns-in-None c = λ done s known. subst (λ fs. all_true fs s ≡ true) (sym (facts_past c.args.changes.now c.args.block c.in-None.ensures.lookup.3)) refl

pub returns-in-Some : goal.returns-in-Some
returns-in-Some c = λ done s known.
    let n = c.args.block in
    let changes = c.args.changes.now in
    let it = c.in-Some.change.now in
    let got : slice_get changes n ≡ Some it = slice_get_read changes (length changes) n it refl c.in-Some.ensures.lookup.3.0 c.in-Some.ensures.lookup.1 in
    subst (λ fs. all_true fs s ≡ true) (sym (facts_there changes n it got)) (subst (λ fs. all_true fs s ≡ true) c.deref.ensures.value (c.all_follow.ensures done s known))
