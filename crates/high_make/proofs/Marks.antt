-- The marks that are listed, one behind the other.
use Rattle.std.proofs.Common.{◌≡◌, ap, ◌∙◌, sym, ℕ, ◌+◌, List, [], ◌∷◌, ◌++◌, map, arith}
use Rattle.std.proofs.lemmas.List.{map-append}
use Rattle.std.proofs.lemmas.List.FromFn.{map-range_with_len_more}
use Rattle.facts_definitions.specs.declared.facts.Facts.{Facts}
use Rattle.types_tree.specs.Tree.{Program}
use Rattle.high_ir.specs.declared.copies.MarkCopies.{MarkCopies}
use Rattle.high_ir.specs.declared.copies.NeverMark.{NeverMark}
use Rattle.plan_carried.specs.Sources.{planned_listing}
use Rattle.high_pass.specs.Listing.{Listing, LoopEntry, MarkEntry, mark_entry}
use Rattle.plan_runs.specs.Kept.{same_mark, same_marks}

pub one_more : (copies : List MarkCopies) (c : MarkCopies) (m : ℕ) → map mark_entry copies ≡ same_marks m → mark_entry c ≡ same_mark m → map mark_entry (copies ++ c ∷ []) ≡ same_marks (m + 1)
one_more copies c m e f =
    map-append mark_entry copies (c ∷ []) ∙ ap (λ es. es ++ mark_entry c ∷ []) e ∙ ap (λ x. same_marks m ++ x ∷ []) f ∙ sym (map-range_with_len_more same_mark 0 m m (omega arith))

-- a listing from its parts
pub listed : (marks : List MarkEntry) (loops : List LoopEntry) (nevers : List NeverMark) (program : Program) (facts : Facts) →
    marks ≡ (planned_listing program facts).marks → loops ≡ (planned_listing program facts).loops → nevers ≡ [] → record { marks = marks; loops = loops; nevers = nevers } ≡ planned_listing program facts
listed marks loops nevers program facts m l n =
    let made = planned_listing program facts in
    let whole : List MarkEntry → List LoopEntry → List NeverMark → Listing = λ ms ls ns. record { marks = ms; loops = ls; nevers = ns } in
    ap (λ x. whole x loops nevers) m ∙ ap (λ x. whole made.marks x nevers) l ∙ ap (λ x. whole made.marks made.loops x) n
