use Rattle.std.proofs.Common.{◌<◌, All, ap, arith, map, subst, sym, ◌∙◌}
use Rattle.std.specs.Prelude.{slice_index_or}
use Rattle.std.proofs.lemmas.List.Elements.{All-map}
use Rattle.high_pass.specs.Composing.{no_origin}
use Rattle.high_pass.specs.Listing.{loop_entry}
use Rattle.high_pass.proofs.Elements.{map-pointwise}
use Rattle.high_pass.proofs.Origins.{keeps_among}
use Rattle.compile_claims.specs.Named.{by_entries, renamed}
use Rattle.compile_claims.proofs.naming.loops_named.Goals as goal

pub loops_by_source-requires-clause-small : goal.loops_by_source-requires-clause-small
loops_by_source-requires-clause-small c =
    let small = All-map (λ e. All (λ l. e.old < 4294967295) e.new) loop_entry c.args.copies.now (λ i d lt j l less. c.requires.small i d lt) in
    subst (λ os. All (λ k. (slice_index_or os k.source no_origin).old < 4294967295) c.args.claims.now) (sym c.deref.ensures.value)
    (λ i d lt.
    let j = (slice_index_or c.args.claims.now i d).source in
    subst (λ o. o.old < 4294967295) (sym (c.in_ok-origins.ensures.origins j (c.requires.there i d lt))) (keeps_among (λ x o. o.old < 4294967295) j (map loop_entry c.args.copies.now) no_origin small (omega arith)))

pub returns : goal.returns
returns c =
    let cs = c.args.claims.now in
    let es = map loop_entry c.args.copies.now in
    let origins = c.in_ok-origins.origins.items in
    c.in_ok-named.ensures
    ∙ ap (λ os. map (λ k. renamed (slice_index_or os k.source no_origin) k) cs) c.deref.ensures.value
    ∙ map-pointwise (λ k. renamed (slice_index_or origins k.source no_origin) k) (by_entries es) cs
    (λ i d lt. ap (λ o. renamed o (slice_index_or cs i d)) (c.in_ok-origins.ensures.origins (slice_index_or cs i d).source (c.requires.there i d lt)))
