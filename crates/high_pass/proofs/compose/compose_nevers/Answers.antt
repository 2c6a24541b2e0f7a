use Rattle.std.proofs.Common.{◌<◌, ◌≤◌, ◌++◌, All, ap, arith, get_or, length, map, subst, sym, ◌∙◌}
use Rattle.std.specs.List.{flat_map}
use Rattle.std.proofs.lemmas.List.{length-map}
use Rattle.high_pass.specs.Composing.{back_to, nevers_through, no_origin, origin_among, taken_back}
use Rattle.high_pass.specs.Listing.{listing_of, loop_entry, mark_entry}
use Rattle.high_pass.proofs.Continuing.{each_loop, each_never}
use Rattle.high_pass.proofs.Elements.{map-pointwise}
use Rattle.high_pass.proofs.Origins.{keeps_among}
use Rattle.high_pass.proofs.compose.compose_nevers.Goals as goal

pub origins_of-requires : goal.origins_of-requires
origins_of-requires c =
    subst (λ es. All (λ e. All (λ l. l.id < c.args.loops) e.new) (map loop_entry es)) (sym c.deref.ensures.value)
    (each_loop (λ k. k < c.args.loops) (listing_of c.args.whole.now) c.requires.loops_there)

pub copies_of_nevers-requires : goal.copies_of_nevers-requires
copies_of_nevers-requires c =
    subst (λ vs. All (λ v. v.mark < length c.deref-2.result.now) vs) (sym c.deref-3.ensures.value)
    (subst (λ n. All (λ v. v.mark < n) c.args.whole.now.nevers.items) (length-map c.args.step.now.marks.items mark_entry ∙ ap length (sym c.deref-2.ensures.value))
    (each_never (λ k. k < length (listing_of c.args.step.now).marks) (listing_of c.args.whole.now) c.requires.marks))

pub add_taken_back-requires-clause-small : goal.add_taken_back-requires-clause-small
add_taken_back-requires-clause-small c =
    subst (All (λ v. (get_or c.deref-5.result.now v.old no_origin).factor ≤ 67108863)) (sym c.deref-4.ensures.value)
    (subst (λ os. All (λ v. (get_or os v.old no_origin).factor ≤ 67108863) c.args.step.now.nevers.items) (sym c.deref-5.ensures.value)
    (λ k d lt.
    let j = (get_or c.args.step.now.nevers.items k d).old in
    let known = c.in_ok-origins.ensures.origins j (c.requires.nevers k d lt) ∙ ap (λ es. origin_among (map loop_entry es) j no_origin) c.deref.ensures.value in
    subst (λ o. o.factor ≤ 67108863) (sym known) (keeps_among (λ i o. o.factor ≤ 67108863) j (listing_of c.args.whole.now).loops no_origin c.requires.factors.loops (omega arith))))

pub returns : goal.returns
returns c =
    let nevers = c.args.step.now.nevers.items in
    let marks = c.args.step.now.marks.items in
    c.in_ok-add_taken_back.ensures
    ∙ ap (λ l. l ++ map (λ v. back_to (get_or c.deref-5.result.now v.old no_origin) v) c.deref-4.result.now)
    (c.in_ok-nevers.ensures ∙ ap (λ ms. flat_map (nevers_through (map mark_entry ms)) c.deref-3.result.now) c.deref-2.ensures.value ∙ ap (flat_map (nevers_through (map mark_entry marks))) c.deref-3.ensures.value)
    ∙ ap (λ l. flat_map (nevers_through (map mark_entry marks)) c.args.whole.now.nevers.items ++ l)
    (ap (map (λ v. back_to (get_or c.deref-5.result.now v.old no_origin) v)) c.deref-4.ensures.value
    ∙ ap (λ os. map (λ v. back_to (get_or os v.old no_origin) v) nevers) c.deref-5.ensures.value
    ∙ map-pointwise (λ v. back_to (get_or c.in_ok-origins.origins.items v.old no_origin) v) (taken_back (listing_of c.args.whole.now).loops) nevers
    (λ k d lt. ap (λ o. back_to o (get_or nevers k d)) (c.in_ok-origins.ensures.origins (get_or nevers k d).old (c.requires.nevers k d lt) ∙ ap (λ es. origin_among (map loop_entry es) (get_or nevers k d).old no_origin) c.deref.ensures.value)))
