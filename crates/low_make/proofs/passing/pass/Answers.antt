use Rattle.std.proofs.Common.{◌<◌, ◌≤◌, length, refl, subst, sym, ◌∙◌}
use Rattle.std.proofs.lemmas.List.{get_or_default, length-map}
use Rattle.low_ir.specs.View.{claim_of}
use Rattle.low_make.specs.View.{claims_of}
use Rattle.low_make.proofs.Sites.{none_passed_more, parameter_passed}
use Rattle.low_make.proofs.passing.pass.Goals as goal

pub returns-in-None : goal.returns-in-None
returns-in-None c =
    let own = claims_of c.args.caller.now.own.now in
    let claims = c.loop-i.claims.items in
    let over : length (claims_of claims) ≤ c.loop-i.i = subst (λ n. n ≤ c.loop-i.i) (sym (length-map claims claim_of)) c.in-None.ensures.item.3 in
    sym (none_passed_more c.args.caller.now.objects own c.args.arrays.now (claims_of claims) c.loop-i.i over) ∙ c.loop-i.invariant

pub loop-i-preserved : goal.loop-i-preserved
loop-i-preserved c =
    let own = claims_of c.args.caller.now.own.now in
    let there : c.loop-i.i < length c.loop-i.claims.items = subst (λ n. c.loop-i.i < n) c.loop-i.claims.ok.0 (c.in-Some.ensures.variant.0 refl) in
    parameter_passed c.args.caller.now.objects own c.args.arrays.now c.loop-i.claims.items _ c.loop-i.i c.in-Some.claim.now c.note_meant.new.claim _ c.loop-i-test.true there c.in-Some.ensures.value
    (get_or_default c.args.arrays.now c.loop-i.i _ _ c.loop-i-test.true) refl c.in_ok-note_meant-in-Some.ensures
    ∙ c.loop-i.invariant
