-- Folding is lawful.
use Rattle.std.proofs.Common.{◌≡◌, ℕ, ◌+◌, ◌≤◌, List, [], ◌∷◌, length, map, Some, refl, sym, ap, ◌∙◌, subst, arith, All}
use Rattle.std.specs.List.{range_with_len}
use Rattle.std.proofs.lemmas.List.Elements.{All-cons, All-nil}
use Rattle.high_ir.specs.Formed.{IsHigh}
use Rattle.high_ir.specs.Runs.{count_of, hrun}
use Rattle.high_ir.specs.Standing.{loops_in}
use Rattle.high_ir.specs.Tree.{Function, Program}
use Rattle.high_pass.specs.Carries.{Carries, RunsAlike, StartsFewer, behaviour_of, bounds_of, shown}
use Rattle.high_pass.specs.Law.{IsLawful, WithinBudgets, signature_of}
use Rattle.high_pass.specs.Listing.{HasEachBelow, LoopEntry, listed_loops}
use Rattle.high_parts.proofs.SameMarks.{marks_listed, old_marks, opening_stays, reach_stays, shows_same}
use Rattle.high_parts.proofs.Numbers.{bounds_found, number_of, range_has_each}
use Rattle.high_folded.specs.Done.{IsFolded}
use Rattle.high_folded.specs.Folded.{folded_functions, folded_program, kept_in, kept_loops}
use Rattle.high_folded.specs.Listed.{folded_listing, loop_entries}
use Rattle.high_folded.proofs.Computed.{functions_done}
use Rattle.high_folded.proofs.Formed.{as_many_functions, kept_numbers}
use Rattle.high_folded.proofs.Holds.{All-holds, Holds, holds-map}
use Rattle.high_folded.proofs.Listing.{KeepsBounds, all_keep, each_entry, news_listed, olds_listed}
use Rattle.high_folded.proofs.Measures.{all_depths, all_frames, all_operations}
use Rattle.high_folded.proofs.Running.{hrun-folded}
use Rattle.high_folded.proofs.Standing.{loops_in-folded, loops_in_hold, numbers-stayed_in, numbered, stayed_in}
use Rattle.high_folded.proofs.Weights.{reach_less, weight_less}
use Rattle.high_folded.proofs.Wordy.{folded_whole}

-- no factor is above 1
factors_small : (olds kept : List ℕ) (next : ℕ) → All (λ e. All (λ l. l.factor ≤ 64) e.new) (loop_entries next olds kept)
factors_small olds kept next = each_entry (λ e. All (λ l. l.factor ≤ 64) e.new)
    (λ old. All-nil (λ l. l.factor ≤ 64))
    (λ old id. All-cons (λ l. l.factor ≤ 64) (record { id = id; factor = 1 }) [] (omega arith) (All-nil (λ l. l.factor ≤ 64)))
    olds kept next

signatures_same : (n : ℕ) (fs : List Function) → map signature_of (folded_functions n fs) ≡ map signature_of fs
signatures_same n [] = refl
signatures_same n (f ∷ fs) = ap (λ l. signature_of f ∷ l) (signatures_same (n + length (kept_loops f.body)) fs)

pub as_folded : (p : Program) → IsFolded p (folded_program p) (folded_listing p)
as_folded p = record { program_is = refl; copies_are = refl; done = functions_done p.functions 0 }

module _ (p : Program) (high : IsHigh p) where
  abbrev fs : List Function
  fs = p.functions

  abbrev gs : List Function
  gs = folded_functions 0 fs

  abbrev olds : List ℕ
  olds = range_with_len 0 p.loops

  abbrev entries : List LoopEntry
  entries = loop_entries 0 olds (kept_in fs)

  -- the loops that stay are loops of the program, in order
  kept_hold : Holds olds (kept_in fs)
  kept_hold =
      subst (λ l. Holds l (kept_in fs)) high.loops
      (subst (λ l. Holds (map number_of (loops_in fs)) l) (numbers-stayed_in fs) (holds-map number_of (loops_in fs) (stayed_in fs) (loops_in_hold fs)))

  loops_listed : HasEachBelow (length (kept_in fs)) (listed_loops (folded_listing p))
  loops_listed k = ap (count_of k) (news_listed olds (kept_in fs) 0 kept_hold) ∙ range_has_each (length (kept_in fs)) k

  -- a loop has its bounds before and behind
  bounds_before : All (λ l. bounds_of (loops_in fs) l.id ≡ Some l.bounds) (stayed_in fs)
  bounds_before = All-holds (λ l. bounds_of (loops_in fs) l.id ≡ Some l.bounds) (loops_in fs) (stayed_in fs) (loops_in_hold fs) (bounds_found (loops_in fs) 0 p.loops high.loops)

  bounds_behind : All (λ l. bounds_of (loops_in gs) l.id ≡ Some l.bounds) (numbered 0 (stayed_in fs))
  bounds_behind = subst (All (λ l. bounds_of (loops_in gs) l.id ≡ Some l.bounds)) (loops_in-folded 0 fs) (bounds_found (loops_in gs) 0 (length (kept_in fs)) (kept_numbers fs))

  bounds_kept : All (KeepsBounds (loops_in fs) (loops_in gs)) (loop_entries 0 olds (kept_in fs))
  bounds_kept =
      subst (λ ks. All (KeepsBounds (loops_in fs) (loops_in gs)) (loop_entries 0 olds ks)) (numbers-stayed_in fs)
      (all_keep (loops_in fs) (loops_in gs) olds (stayed_in fs) 0 bounds_before bounds_behind)

  carried : Carries (behaviour_of p) (folded_program p) (folded_listing p)
  carried = record {
    runs = λ input. subst (RunsAlike (folded_listing p) (shown (hrun p input))) (sym (hrun-folded p input)) (shows_same p.marks entries (hrun p input));
    marks = old_marks p.marks;
    loops = olds_listed olds (kept_in fs) 0 ∙ sym high.loops;
    lists = record { marks = marks_listed p.marks entries; loops = loops_listed };
    bounds = bounds_kept;
    functions = as_many_functions 0 fs;
    openings = λ f lt. opening_stays p.marks f (omega (arith, lt, high.openings));
    nevers = All-nil (λ v. StartsFewer (bounds_of (loops_in fs) v.old) v.factor);
  }

  within : WithinBudgets p → WithinBudgets (folded_program p)
  within b =
      let few = all_operations fs 0 in
      let deep = all_depths fs 0 in
      let frames = all_frames fs 0 in
      record {
        operations = omega (arith, b.operations, few);
        depth = omega (arith, b.depth, deep);
        locals = omega (arith, b.locals, frames);
      }

  pub lawful : IsLawful p (folded_program p) (folded_listing p)
  lawful = record {
    carries = carried;
    factors = record { loops = factors_small olds (kept_in fs) 0; nevers = All-nil (λ v. v.factor ≤ 64) };
    budgets = within;
    weight = weight_less p;
    reach = reach_stays p (folded_program p) (reach_less p) p.marks;
    whole = folded_whole p;
    functions = signatures_same 0 fs;
    objects = refl;
    main = refl;
  }
