use Rattle.std.proofs.Common.{◌+◌, ◌<◌, ◌^◌, ◌++◌, length, length-append, sym, subst, arith, All}
use Rattle.std.specs.List.{flat_map}
use Rattle.code_flow_system.specs.Claims.{claim_count}
use Rattle.high_ir.specs.declared.copies.LoopCopies.{LoopCopies}
use Rattle.high_ir.specs.declared.copies.NeverMark.{NeverMark}
use Rattle.promise_report.specs.Facts.{AreFactLines, places_by}
use Rattle.compile_claims.specs.Named.{AreHanded, nevers_at}
use Rattle.compile_stages.specs.Made.{copies_of}
use Rattle.compile_report.specs.Sources.{names_of, tree_of}
use Rattle.compile_claims.proofs.Counting.{lines_many}
use Rattle.compile_report.proofs.Claims.{claims_many}
use Rattle.compile_report.proofs.telling.claims_of.Goals as goal

pub by_source-requires-clause-there : goal.by_source-requires-clause-there
by_source-requires-clause-there c =
    let h = c.requires.made in
    let s = c.args.source.now in
    (c.made_can_be_named.ensures h.text (names_of s) (tree_of s) s.facts c.args.made.now h.is_source h.is_made).there

pub by_source-requires-clause-listed : goal.by_source-requires-clause-listed
by_source-requires-clause-listed c =
    let h = c.requires.made in
    let s = c.args.source.now in
    (c.made_can_be_named.ensures h.text (names_of s) (tree_of s) s.facts c.args.made.now h.is_source h.is_made).listed

pub by_source-requires-clause-small : goal.by_source-requires-clause-small
by_source-requires-clause-small c =
    let h = c.requires.made in
    let s = c.args.source.now in
    let m = c.args.made.now in
    let old = (c.made_can_be_named.ensures h.text (names_of s) (tree_of s) s.facts m h.is_source h.is_made).old in
    let small : All (λ (e : LoopCopies). e.old < 4294967295) m.stages.last.copies.loops.items = λ k d lt. let less = old k d lt in omega (arith, less) in
    small

pub by_source-requires-clause-nevers : goal.by_source-requires-clause-nevers
by_source-requires-clause-nevers c =
    let h = c.requires.made in
    let s = c.args.source.now in
    let m = c.args.made.now in
    let old = (c.made_can_be_named.ensures h.text (names_of s) (tree_of s) s.facts m h.is_source h.is_made).nevers in
    let small : All (λ (v : NeverMark). v.old < 4294967295) m.stages.last.copies.nevers.items = λ k d lt. let less = old k d lt in omega (arith, less) in
    small

pub by_source-requires-clause-few : goal.by_source-requires-clause-few
by_source-requires-clause-few c =
    let h = c.requires.made in
    let s = c.args.source.now in
    let m = c.args.made.now in
    let facts = c.in_ok-facts.facts.items in
    let lines = c.args.lines.now in
    let room = c.claims_are_few.ensures (names_of s) (tree_of s) s.facts m h.is_made in
    let limited = (c.restrictions_are_limited.ensures h.text (names_of s) (tree_of s) s.facts h.is_source).few in
    let many = claims_many s.facts (places_by s.facts lines) s.facts.restrictions facts c.in_ok-facts.ensures in
    subst (λ ps. claim_count m.laid.claimed.claims + length (flat_map (nevers_at ps) (copies_of m).nevers) + length facts < 2 ^ 32) (sym c.deref.ensures.value) (omega (arith, room, limited, many))

pub by_source-requires-clause-plain : goal.by_source-requires-clause-plain
by_source-requires-clause-plain c =
    let h = c.requires.made in
    let s = c.args.source.now in
    (c.made_can_be_named.ensures h.text (names_of s) (tree_of s) s.facts c.args.made.now h.is_source h.is_made).plain

pub by_source-requires-clause-none : goal.by_source-requires-clause-none
by_source-requires-clause-none c =
    let h = c.requires.made in
    let s = c.args.source.now in
    (c.made_can_be_named.ensures h.text (names_of s) (tree_of s) s.facts c.args.made.now h.is_source h.is_made).facts

pub restricted-requires : goal.restricted-requires
restricted-requires c =
    let s = c.args.source.now in
    let m = c.args.made.now in
    let many = lines_many (names_of s) m.laid.lists.places.items (s.facts.functions ++ s.facts.markers) (copies_of m).marks c.args.lines.now c.requires.lines in
    let both = length-append s.facts.functions s.facts.markers in
    omega (arith, many, both)

pub returns-clause-handed : goal.returns-clause-handed
returns-clause-handed c =
    let m = c.args.made.now in
    subst (λ ps. AreHanded (copies_of m) ps m.laid.claimed.claims c.in_ok-claims.claims) c.deref.ensures.value c.in_ok-claims.ensures.handed

pub returns-clause-restricted : goal.returns-clause-restricted
returns-clause-restricted c =
    let s = c.args.source.now in
    let lines = c.args.lines.now in
    record {
      each = subst (AreFactLines s.facts (places_by s.facts lines) s.facts.restrictions) (sym c.in_ok-claims.ensures.facts) c.in_ok-facts.ensures;
      sums = c.facts-facts.ensures.valid.sums;
    }
