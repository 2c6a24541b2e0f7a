use Rattle.std.proofs.Common.{All, subst}
use Rattle.report_text.specs.Reports.{report_of}
use Rattle.report_laws.specs.Typed.{IsWord, IsTypedNever, IsTypedWithin, IsTypedLoop, IsTypedFact, IsTypedPart, IsTypedShare, IsTyped}
use Rattle.report_laws.proofs.typed.is_typed.Goals as goal

pub returns : goal.returns
returns c =
    let r = report_of c.report.inside.version c.report.inside.kind c.report.inside.names c.report.inside.claims c.report.inside.columns c.report.inside.cert c.report.inside.shares in
    let typed : IsTyped r = record {
      kind = c.is_kind.ensures;
      names = subst (All (λ n. All IsWord n.places)) c.as_slice.ensures c.are_names.ensures;
      exits = subst (All IsWord) c.exits.ensures.value c.are_words.ensures;
      nevers = subst (All IsTypedNever) c.nevers.ensures.value c.are_nevers.ensures;
      regions = subst (All IsTypedWithin) c.regions.ensures.value c.are_regions.ensures;
      loops = subst (All IsTypedLoop) c.loops.ensures.value c.are_loops.ensures;
      facts = subst (All IsTypedFact) c.facts.ensures.value c.are_facts.ensures;
      potentials = subst (All (λ t. IsWord t.0)) c.as_slice-2.ensures c.are_potentials.ensures;
      parts = subst (All IsTypedPart) c.as_slice-3.ensures c.are_parts.ensures;
      shares = subst (All IsTypedShare) c.as_slice-4.ensures c.are_shares.ensures;
    } in
    subst IsTyped c.report.view_is typed
