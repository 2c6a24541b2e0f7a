-- Where a walk begins, and what it comes to.
use Rattle.std.proofs.Common.{◌≡◌, ℕ, ◌-◌, List, [], map, ap, ◌∙◌}
use Rattle.std.specs.List.{range_with_len}
use Rattle.wcc_base.specs.Budgets.{most_operations}
use Rattle.high_ir.specs.Tree.{Function, Object, Program}
use Rattle.high_ir.specs.declared.copies.LoopCopies.{LoopCopies}
use Rattle.high_ir.specs.declared.copies.NeverMark.{NeverMark}
use Rattle.high_pass.specs.Listing.{Listing, LoopEntry, MarkEntry, loop_entry}
use Rattle.high_unrolled.proofs.Lawful.{made_program, of_parts}
use Rattle.high_unrolled.specs.declared.made.Made.{Made}
use Rattle.high_unrolled.specs.Programs.{copies_of, functions_spread, listing, nevers_from, program_busy, program_spread, unrolled}
use Rattle.unroller.specs.View.{Progress, at_start, continued, going}

pub begun_is : (p : Program) (room busy : ℕ) (made : List Made) (entries : List LoopCopies) → room ≡ most_operations - busy → busy ≡ program_busy p → made ≡ [] → entries ≡ [] → going room p.marks 0 made (map loop_entry entries) ≡ at_start p
begun_is p room busy made entries left counted none_made none_met =
    ap (λ r. going r p.marks 0 made (map loop_entry entries)) (left ∙ ap (λ b. most_operations - b) counted)
    ∙ ap (λ m. going (most_operations - program_busy p) p.marks 0 m (map loop_entry entries)) none_made
    ∙ ap (λ es. going (most_operations - program_busy p) p.marks 0 [] (map loop_entry es)) none_met

-- what a walk that begins there makes of the functions
module _ (k : ℕ) (p : Program) (fs : List Function) where
  pub walk_made : (start now : Progress) → start ≡ at_start p → fs ≡ p.functions → now ≡ continued start (functions_spread k start.place fs) → now ≡ continued (at_start p) (program_spread k p)
  walk_made start now begins read goes =
      goes
      ∙ ap (λ s. continued s (functions_spread k s.place fs)) begins
      ∙ ap (λ l. continued (at_start p) (functions_spread k (at_start p).place l)) read

  pub program_made : (gs : List Function) (os : List Object) (start now : Progress) → start ≡ at_start p → fs ≡ p.functions → gs ≡ (functions_spread k start.place fs).code → now ≡ continued start (functions_spread k start.place fs) → os ≡ p.objects →
      of_parts gs os p.main now.place.marks now.place.loops ≡ unrolled k p
  program_made gs os start now begins read code goes objects =
      let whole : now ≡ continued (at_start p) (program_spread k p) = walk_made start now begins read goes in
      made_program k p gs os now.place.marks now.place.loops
      (code ∙ ap (λ s. (functions_spread k s.place fs).code) begins ∙ ap (λ l. (functions_spread k (at_start p).place l).code) read)
      objects (ap (λ q. q.place.marks) whole) (ap (λ q. q.place.loops) whole)

-- a listing from its parts
abbrev pub of_entries : List MarkEntry → List LoopEntry → List NeverMark → Listing
of_entries marks loops nevers = record { marks = marks; loops = loops; nevers = nevers }

pub from_entries : (marks marks' : List MarkEntry) (loops : List LoopEntry) (nevers nevers' : List NeverMark) → marks ≡ marks' → nevers ≡ nevers' → of_entries marks loops nevers ≡ of_entries marks' loops nevers'
from_entries marks marks' loops nevers nevers' m n = ap (λ x. of_entries x loops nevers) m ∙ ap (of_entries marks' loops) n

abbrev listed : ℕ → ℕ → Progress → Listing
listed k n q = of_entries (map (copies_of n q.made) (range_with_len 0 n)) q.entries (nevers_from k n q.made)

pub as_listed : (k : ℕ) (p : Program) (q : Progress) (c : Listing) → c ≡ listed k p.marks q → q ≡ continued (at_start p) (program_spread k p) → c ≡ listing k p
as_listed k p q c is goes = is ∙ ap (listed k p.marks) goes
