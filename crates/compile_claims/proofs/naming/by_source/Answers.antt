use Rattle.std.proofs.Common.{◌≡◌, ℕ, ◌<◌, List, All, length, ap, arith, map, subst, sym, ◌∙◌}
use Rattle.std.proofs.lemmas.List.{length-map}
use Rattle.std.proofs.lemmas.List.Sorted.{length_permutation}
use Rattle.std.specs.List.{flat_map}
use Rattle.code_flow_system.specs.Claims.{claims_of}
use Rattle.code_flow_system.specs.declared.claims.LoopClaim.{LoopClaim}
use Rattle.high_ir.specs.declared.copies.LoopCopies.{LoopCopies}
use Rattle.high_ir.specs.declared.copies.NeverMark.{NeverMark}
use Rattle.high_pass.specs.Listing.{loop_entry}
use Rattle.compile_claims.specs.Named.{AreNevers, by_entries, nevers_at}
use Rattle.compile_claims.proofs.naming.by_source.Goals as goal

pub loops_named-requires-clause-there : goal.loops_named-requires-clause-there
loops_named-requires-clause-there c = subst (λ (cs : List LoopClaim). All (λ (k : LoopClaim). k.source < c.args.loops) cs) (sym c.loops.ensures.value) c.requires.there

pub loops_named-requires-clause-listed : goal.loops_named-requires-clause-listed
loops_named-requires-clause-listed c = subst (λ (es : List LoopCopies). All (λ e. All (λ l. l.id < c.args.loops) e.new) (map loop_entry es)) (sym c.deref.ensures.value) c.requires.listed

pub loops_named-requires-clause-small : goal.loops_named-requires-clause-small
loops_named-requires-clause-small c = subst (λ (es : List LoopCopies). All (λ (e : LoopCopies). e.old < 4294967295) es) (sym c.deref.ensures.value) c.requires.small

pub nevers_of-requires : goal.nevers_of-requires
nevers_of-requires c = subst (λ (vs : List NeverMark). All (λ (v : NeverMark). v.old < 4294967295) vs) (sym c.deref-2.ensures.value) c.requires.nevers

pub new-requires : goal.new-requires
new-requires c =
    let x = c.args.claims.now in
    let exits = ap (λ (l : List ℕ). length l) (c.in_ok-exits.ensures.items ∙ c.exits.ensures.value) in
    let regions = ap (λ l. length l) (c.in_ok-regions.ensures.items ∙ c.regions.ensures.value) in
    let loops = ap (λ (l : List LoopClaim). length l) (c.in_ok-named.ensures ∙ ap (map (by_entries (map loop_entry c.deref.result.now))) c.loops.ensures.value) in
    let many = length-map x.loops (by_entries (map loop_entry c.deref.result.now)) in
    let nevers = length_permutation (flat_map (nevers_at c.args.places.now) c.deref-2.result.now) c.in_ok-nevers.nevers.items c.in_ok-nevers.ensures.all in
    let marks = ap (λ vs. length (flat_map (nevers_at c.args.places.now) vs)) c.deref-2.ensures.value in
    let few = c.requires.few in
    omega (arith, exits, regions, loops, many, nevers, marks, few)

pub returns-clause-handed : goal.returns-clause-handed
returns-clause-handed c =
    let x = c.args.claims.now in
    let es = map loop_entry c.args.copies.now.loops.items in
    let nevers = c.in_ok-nevers.nevers.items in
    let loops = c.in_ok-named.ensures ∙ ap (map (by_entries (map loop_entry c.deref.result.now))) c.loops.ensures.value ∙ ap (λ vs. map (by_entries (map loop_entry vs)) x.loops) c.deref.ensures.value in
    let is =
    c.new.ensures
    ∙ ap (λ v. claims_of v nevers c.in_ok-regions.regions.items c.in_ok-named.named.items c.args.facts.items) (c.in_ok-exits.ensures.items ∙ c.exits.ensures.value)
    ∙ ap (λ v. claims_of x.exits nevers v c.in_ok-named.named.items c.args.facts.items) (c.in_ok-regions.ensures.items ∙ c.regions.ensures.value)
    ∙ ap (λ v. claims_of x.exits nevers x.regions v c.args.facts.items) loops in
    let own : AreNevers c.args.places.now c.args.copies.now.nevers.items nevers = subst (λ vs. AreNevers c.args.places.now vs nevers) c.deref-2.ensures.value c.in_ok-nevers.ensures in
    let same = ap (λ k. k.nevers) is in
    let facts = ap (λ k. k.facts) is in
    record {
      claims =
          subst (λ fs. c.new.result ≡ claims_of x.exits c.new.result.nevers x.regions (map (by_entries es) x.loops) fs) (sym facts)
          (subst (λ vs. c.new.result ≡ claims_of x.exits vs x.regions (map (by_entries es) x.loops) c.args.facts.items) (sym same) is);
      nevers = subst (AreNevers c.args.places.now c.args.copies.now.nevers.items) (sym same) own;
    }

pub returns-clause-facts : goal.returns-clause-facts
returns-clause-facts c = ap (λ k. k.facts) c.new.ensures
