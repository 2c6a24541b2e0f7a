-- Each function and each marker of a source has its copies.
use Rattle.std.proofs.Common.{◌≡◌, ℕ, ◌++◌, List, length, map, sym, ap, ◌∙◌, arith, length-append}
use Rattle.std.proofs.lemmas.List.{length-map}
use Rattle.facts_definitions.specs.FlowFacts.{name_id}
use Rattle.types_tree.specs.Tree.{function_name}
use Rattle.facts_definitions.specs.declared.facts.Facts.{Facts}
use Rattle.facts_sources.specs.Sources.{IsSource}
use Rattle.types_tree.specs.Tree.{Program}
use Rattle.plan_carried.specs.Sources.{source_marks}
use Rattle.plan_law.proofs.Sources.{checked}
use Rattle.high_pass.specs.Listing.{MarkEntry, mark_entry}
use Rattle.high_pass.proofs.Entries.{length_of_entries}
use Rattle.plan_formed.proofs.Facts.{says}
use Rattle.compile_stages.specs.declared.made.Made.{Made}
use Rattle.compile_stages.specs.Made.{IsMade, copies_of}

pub as_many : (source : List ℕ) (names : List (List ℕ)) (program : Program) (facts : Facts) (m : Made) → IsSource source names program facts → IsMade names program facts m → length m.stages.last.copies.marks.items ≡ length (facts.functions ++ facts.markers)
as_many source names program facts m is made =
    let are = (checked source names program facts is).facts_are in
    let said = says program names facts.ranks are.derived facts are.whole in
    let functions : length facts.functions ≡ length program.functions =
    ap (λ (x : Facts). length x.functions) said.facts_are ∙ length-map (map function_name program.functions) name_id ∙ length-map program.functions function_name in
    let n = source_marks program facts in
    let marks : length m.stages.last.copies.marks.items ≡ n =
    sym (length-map m.stages.last.copies.marks.items mark_entry) ∙ length_of_entries (λ (e : MarkEntry). e.old) (copies_of m).marks n made.carried.carries.marks in
    let both = length-append facts.functions facts.markers in
    omega (arith, functions, marks, both)
