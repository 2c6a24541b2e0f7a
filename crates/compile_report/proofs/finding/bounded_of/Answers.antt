use Rattle.std.proofs.Common.{sym, subst}
use Rattle.rv_core.specs.Table.{table_of}
use Rattle.path_conditions.specs.Searching.{CanSearch}
use Rattle.compile_report.specs.Sources.{names_of, tree_of}
use Rattle.compile_report.proofs.Values.{cycles_below, value_small}
use Rattle.compile_report.proofs.finding.bounded_of.Goals as goal

pub systems_are_reached-requires : goal.systems_are_reached-requires
systems_are_reached-requires c = c.requires.system

pub bound-requires-clause-can : goal.bound-requires-clause-can
bound-requires-clause-can c =
    let h = c.requires.made in
    let s = c.args.source.now in
    let m = c.args.made.now in
    let t = table_of c.args.costs.now in
    let system = c.args.system.now in
    let told = c.requires.claims in
    let can = c.made_can_be_bounded.ensures h.text (names_of s) (tree_of s) s.facts m told.0 system.claims c.args.costs.now system h.is_source h.is_made told.1 c.requires.system in
    subst (λ ls. CanSearch t system ls c.deref-2.result.now) (sym c.deref.ensures.value) (subst (λ ps. CanSearch t system m.laid.claimed.shapes.items ps) (sym c.deref-2.ensures.value) can)

pub returns-clause-value : goal.returns-clause-value
returns-clause-value c =
    let h = c.requires.made in
    let s = c.args.source.now in
    let m = c.args.made.now in
    let told = c.requires.claims in
    let can = c.made_can_be_bounded.ensures h.text (names_of s) (tree_of s) s.facts m told.0 c.args.system.now.claims c.args.costs.now c.args.system.now h.is_source h.is_made told.1 c.requires.system in
    let found = c.in_ok-bounded.ensures.found in
    value_small (table_of c.args.costs.now) c.args.system.now c.in_ok-bounded.bounded.cert m.laid.claimed.shapes.items m.laid.lists.spans.items can found.form found.accepted c.weak_duality.ensures.promise

pub returns-clause-cycles : goal.returns-clause-cycles
returns-clause-cycles c =
    let h = c.requires.made in
    let s = c.args.source.now in
    let m = c.args.made.now in
    let told = c.requires.claims in
    let can = c.made_can_be_bounded.ensures h.text (names_of s) (tree_of s) s.facts m told.0 c.args.system.now.claims c.args.costs.now c.args.system.now h.is_source h.is_made told.1 c.requires.system in
    let bounded = c.in_ok-bounded.bounded in
    let found = c.in_ok-bounded.ensures.found in
    cycles_below (table_of c.args.costs.now) c.args.system.now bounded.cert m.laid.claimed.shapes.items m.laid.lists.spans.items can found.form found.accepted c.weak_duality.ensures.promise bounded.columns bounded.kind found.kind
