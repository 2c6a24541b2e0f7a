use Rattle.std.proofs.Common.{sym, ◌∙◌, ap, map, subst}
use Rattle.flow_facts.specs.Translating.{AreTranslated}
use Rattle.flow_facts.specs.declared.places.Places.{Places}
use Rattle.promise_report.specs.Facts.{AreFactLines, places_by}
use Rattle.compile_report.specs.Restricted.{as_claim}
use Rattle.compile_report.proofs.Claims.{claims_told}
use Rattle.compile_report.proofs.restricting.restricted.Goals as goal

pub returns : goal.returns
returns c =
    let facts = c.args.facts.now in
    let lines = c.args.lines.now in
    let translated = subst (λ (ps : Places). AreTranslated facts ps facts.restrictions c.in_ok-translated.translated.items) c.in_ok-places.ensures c.in_ok-translated.ensures in
    subst (AreFactLines facts (places_by facts lines) facts.restrictions) (sym (c.in_ok-claims.ensures ∙ ap (map as_claim) c.deref.ensures.value))
    (claims_told facts (places_by facts lines) facts.restrictions c.in_ok-translated.translated.items translated)
