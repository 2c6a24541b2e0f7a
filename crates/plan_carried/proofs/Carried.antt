-- A plan whose runs and loops are those of its source carries it.
use Rattle.std.proofs.Common.{◌≡◌, ℕ, suc, ◌+◌, ◌<◌, ◌≤◌, cond, List, [], ◌∷◌, length, map, Some, refl, sym, ap, ◌∙◌, subst, arith, All}
use Rattle.std.specs.Prelude.{◌==◌, get_or, Contains, IsPermutation}
use Rattle.std.specs.List.{flat_map, range_with_len}
use Rattle.std.proofs.lemmas.List.{append-nil}
use Rattle.std.proofs.lemmas.List.Elements.{All-cons, All-head, All-map, All-nil, All-tail, Contains-get_or}
use Rattle.std.proofs.lemmas.List.FromFn.{get_or-map-range_with_len}
use Rattle.std.proofs.lemmas.List.Sorted.{All-permutation, IsPermutation-map, IsPermutation-sym, sum_by-IsPermutation}
use Rattle.facts_definitions.specs.FlowFacts.{main_of}
use Rattle.facts_definitions.specs.declared.facts.Facts.{Facts}
use Rattle.types_tree.specs.Tree as c
use Rattle.types_tree.specs.Tree.{Program}
use Rattle.types_tree.specs.declared.variable.Variable.{Variable}
use Rattle.high_ir.specs.Formed.{IsHigh}
use Rattle.high_ir.specs.Runs.{count_of, hrun}
use Rattle.high_ir.specs.Standing.{Bounded, loops_in}
use Rattle.plan_definition.specs.Programs.{functions_planned, plan_of, program_planned}
use Rattle.plan_definition.specs.Statements.{Plan}
use Rattle.high_pass.specs.Carries.{AreBy, Behaviour, Carries, RunsAlike, StartsFewer, bounds_of}
use Rattle.high_pass.specs.Listing.{HasEachBelow, LoopEntry, MarkEntry, listed_loops, listed_marks, mark_copies}
use Rattle.plan_forms.specs.Numbers.{FunctionsNumbered, functions_loops as loops_count}
use Rattle.plan_carried.specs.Loops.{Planned, functions_loops, in_plan, in_source}
use Rattle.plan_carried.proofs.LoopNumbers.{functions_order, number_of}
use Rattle.plan_carried.proofs.LoopPrograms.{functions_stand}
use Rattle.plan_carried.proofs.LoopSources.{functions_are}
use Rattle.plan_runs.specs.Kept.{same_mark, same_marks}
use Rattle.plan_carried.specs.Sources.{loop_entry, planned_listing, source_behaviour, source_marks, source_shown}
use Rattle.plan_carried.proofs.Numbers.{bounds_found, loop_number, range_has_each}

-- marks
abbrev old_mark : MarkEntry → ℕ
old_mark e = e.old

abbrev new_marks : MarkEntry → List ℕ
new_marks e = e.new

marks-same : (xs : List ℕ) → map old_mark (map same_mark xs) ≡ xs
marks-same [] = refl
marks-same (x ∷ xs) = ap (λ l. x ∷ l) (marks-same xs)

copies-same : (xs : List ℕ) → flat_map new_marks (map same_mark xs) ≡ xs
copies-same [] = refl
copies-same (x ∷ xs) = ap (λ l. x ∷ l) (copies-same xs)

-- loops
abbrev old_loop : LoopEntry → ℕ
old_loop e = e.old

abbrev new_loops : LoopEntry → List ℕ
new_loops e = map (λ l. l.id) e.new

loops-old : (ls : List Planned) → map old_loop (map loop_entry ls) ≡ map loop_number (map in_source ls)
loops-old [] = refl
loops-old (l ∷ ls) = ap (λ r. l.old ∷ r) (loops-old ls)

loops-new : (ls : List Planned) → flat_map new_loops (map loop_entry ls) ≡ map loop_number (map in_plan ls)
loops-new [] = refl
loops-new (l ∷ ls) = ap (λ r. l.id ∷ r) (loops-new ls)

numbers-source : (ls : List Planned) → map loop_number (map in_source ls) ≡ map number_of ls
numbers-source [] = refl
numbers-source (l ∷ ls) = ap (λ r. l.old ∷ r) (numbers-source ls)

count-moved : (k : ℕ) (xs ys : List ℕ) → IsPermutation xs ys → count_of k xs ≡ count_of k ys
count-moved k xs ys p = sym (sum_by-IsPermutation (λ x. cond (x == k) 1 0) xs ys p)

-- what holds of each element that is mapped
all_unmapped : {A B : Type 0} (f : A → B) (P : B → Type 0) (xs : List A) → All P (map f xs) → All (λ x. P (f x)) xs
all_unmapped f P [] h = All-nil (λ x. P (f x))
all_unmapped f P (x ∷ xs) h = All-cons (λ x. P (f x)) x xs (All-head P (f x) (map f xs) h) (all_unmapped f P xs (All-tail P (f x) (map f xs) h))

planned_length : (plan : Plan) (variables : List Variable) (ranks : List ℕ) (number : ℕ) (fs : List c.Function) → length (functions_planned plan variables ranks number fs) ≡ length fs
planned_length plan variables ranks number [] = refl
planned_length plan variables ranks number (f ∷ fs) = ap suc (planned_length plan variables ranks (number + 1) fs)

module _ (program : Program) (names : List (List ℕ)) (facts : Facts) (is_high : IsHigh (program_planned program facts (main_of program names))) (numbered : FunctionsNumbered 0 program.functions)
    (runs : (input : List ℕ) → RunsAlike (planned_listing program facts) (source_shown program names facts input) (hrun (program_planned program facts (main_of program names)) input)) where
  abbrev ls : List Planned
  ls = functions_loops facts.bounds program.functions

  abbrev planned_loops : List Bounded
  planned_loops = loops_in (functions_planned (plan_of program facts) program.variables facts.ranks.of_functions 0 program.functions)

  stand : IsPermutation (map in_plan ls) planned_loops
  stand = functions_stand (plan_of program facts) program.variables facts.ranks.of_functions 0 program.functions

  loops_below : HasEachBelow (length facts.bounds) (listed_loops (planned_listing program facts))
  loops_below k =
      ap (count_of k) (loops-new ls)
      ∙ count-moved k (map loop_number (map in_plan ls)) (map loop_number planned_loops) (IsPermutation-map loop_number (map in_plan ls) planned_loops stand)
      ∙ ap (count_of k) is_high.loops
      ∙ range_has_each (length facts.bounds) k

  marks_below : HasEachBelow (source_marks program facts) (listed_marks (planned_listing program facts))
  marks_below k = ap (count_of k) (append-nil (flat_map new_marks (same_marks (source_marks program facts))) ∙ copies-same (range_with_len 0 (source_marks program facts))) ∙ range_has_each (source_marks program facts) k

  -- a loop has its bounds on both sides
  bounds_before : All (λ l. bounds_of (map in_source ls) l.old ≡ Some l.bounds) ls
  bounds_before = all_unmapped in_source (λ l. bounds_of (map in_source ls) l.id ≡ Some l.bounds) ls
      (bounds_found (map in_source ls) 0 (loops_count program.functions) (numbers-source ls ∙ functions_order facts.bounds program.functions 0 numbered))

  bounds_behind : All (λ l. bounds_of planned_loops l.id ≡ Some l.bounds) ls
  bounds_behind = all_unmapped in_plan (λ l. bounds_of planned_loops l.id ≡ Some l.bounds) ls
      (All-permutation (λ l. bounds_of planned_loops l.id ≡ Some l.bounds) planned_loops (map in_plan ls) (IsPermutation-sym (map in_plan ls) planned_loops stand) (bounds_found planned_loops 0 (length facts.bounds) is_high.loops))

  abbrev EntryBounds : LoopEntry → Type 0
  EntryBounds e = All (λ l. (1 ≤ l.factor) × AreBy (bounds_of (map in_source ls) e.old) l.factor (bounds_of planned_loops l.id)) e.new

  entry_bounds : (l : Planned) → bounds_of (map in_source ls) l.old ≡ Some l.bounds → bounds_of planned_loops l.id ≡ Some l.bounds → EntryBounds (loop_entry l)
  entry_bounds l before behind =
      All-cons (λ x. (1 ≤ x.factor) × AreBy (bounds_of (map in_source ls) l.old) x.factor (bounds_of planned_loops x.id)) (record { id = l.id; factor = 1 }) []
      (omega arith, subst (λ o. AreBy o 1 (bounds_of planned_loops l.id)) (sym before) behind)
      (All-nil (λ x. (1 ≤ x.factor) × AreBy (bounds_of (map in_source ls) l.old) x.factor (bounds_of planned_loops x.id)))

  opening : (f : ℕ) → f < length program.functions → Contains (mark_copies (same_marks (source_marks program facts)) f) f
  opening f lt = subst (λ e. Contains (new_marks e) f) (sym (get_or-map-range_with_len same_mark 0 (source_marks program facts) f f (record { old = f; new = [] }) (omega (arith, lt)) (omega arith))) (here f)
    where
      here : (f : ℕ) → Contains (f ∷ []) f
      here f = Contains-get_or (f ∷ []) 0 f (omega arith)

  -- the source, where its loops are listed as those of the plan
  abbrev behaves : List Bounded → Behaviour
  behaves loops = record { runs = source_shown program names facts; functions = length program.functions; marks = source_marks program facts; loops = loops }

  listed : Carries (behaves (map in_source ls)) (program_planned program facts (main_of program names)) (planned_listing program facts)
  listed = record {
    runs = runs;
    marks = marks-same (range_with_len 0 (source_marks program facts));
    loops = loops-old ls;
    lists = record { marks = marks_below; loops = loops_below };
    bounds = All-map EntryBounds loop_entry ls (λ i d lt. entry_bounds (get_or ls i d) (bounds_before i d lt) (bounds_behind i d lt));
    functions = planned_length (plan_of program facts) program.variables facts.ranks.of_functions 0 program.functions;
    openings = opening;
    nevers = All-nil (λ v. StartsFewer (bounds_of (map in_source ls) v.old) v.factor);
  }

  pub carried : Carries (source_behaviour program names facts) (program_planned program facts (main_of program names)) (planned_listing program facts)
  carried = subst (λ loops. Carries (behaves loops) (program_planned program facts (main_of program names)) (planned_listing program facts)) (functions_are facts.bounds program.functions) listed
