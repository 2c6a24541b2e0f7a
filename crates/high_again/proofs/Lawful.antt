-- The same program again is lawful.
use Rattle.std.proofs.Common.{◌≡◌, ℕ, ◌≤◌, Bool, true, false, List, [], ◌∷◌, get_or, map, Option, Some, refl, sym, ap, ◌∙◌, arith, All, le_refl}
use Rattle.std.specs.Prelude.{◌==◌, if◌then◌else◌}
use Rattle.std.specs.List.{flat_map, range_with_len}
use Rattle.std.proofs.lemmas.Bool.{eq-eqb, true≢false}
use Rattle.std.proofs.lemmas.List.Elements.{All-cons, All-map, All-nil, All-same}
use Rattle.high_ir.specs.declared.copies.LoopCopy.{LoopCopy}
use Rattle.high_ir.specs.Formed.{IsHigh}
use Rattle.high_ir.specs.Runs.{count_of, hrun}
use Rattle.high_ir.specs.Standing.{Bounded, Bounds, loops_in}
use Rattle.high_ir.specs.Tree.{Program}
use Rattle.high_ir.specs.Weight.{reach}
use Rattle.high_pass.specs.Carries.{AreBy, Carries, StartsFewer, behaviour_of, bounds_of}
use Rattle.high_pass.specs.Law.{IsLawful}
use Rattle.high_pass.specs.Listing.{HasEachBelow, LoopEntry, listed_loops}
use Rattle.high_again.specs.Same.{same_listing, same_loop}
use Rattle.high_parts.proofs.SameMarks.{marks_listed, old_marks, opening_stays, reach_stays, shows_same}
use Rattle.high_parts.proofs.Numbers.{range_has_each}

-- of loops that are their own copies, the old numbers and the new ones
abbrev old_loop : LoopEntry → ℕ
old_loop e = e.old

abbrev new_loops : LoopEntry → List ℕ
new_loops e = map (λ l. l.id) e.new

old_loops : (xs : List ℕ) → map old_loop (map same_loop xs) ≡ xs
old_loops [] = refl
old_loops (x ∷ xs) = ap (λ l. x ∷ l) (old_loops xs)

loops_again : (xs : List ℕ) → flat_map new_loops (map same_loop xs) ≡ xs
loops_again [] = refl
loops_again (x ∷ xs) = ap (λ l. x ∷ l) (loops_again xs)

-- each loop of a list has bounds in it, and a factor of 1 leaves them
abbrev KeepsBounds : List Bounded → ℕ → Type 0
KeepsBounds ls k = AreBy (bounds_of ls k) 1 (bounds_of ls k)

by_test : (same : Bool) (b : Bounds) (o : Option Bounds) → (same ≡ false → AreBy o 1 o) → AreBy (if same then Some b else o) 1 (if same then Some b else o)
by_test true b o rest = refl
by_test false b o rest = rest refl

keep_bounds : (ls : List Bounded) → All (λ (l : Bounded). KeepsBounds ls l.id) ls
keep_bounds [] = All-nil (λ (l : Bounded). KeepsBounds [] l.id)
keep_bounds (l ∷ ls) =
    All-cons (λ (x : Bounded). KeepsBounds (l ∷ ls) x.id) l ls
    (by_test (l.id == l.id) l.bounds (bounds_of ls l.id) (λ e. absurd (true≢false (sym (eq-eqb l.id l.id refl) ∙ e))))
    (λ i d lt. let x = get_or ls i d in by_test (l.id == x.id) l.bounds (bounds_of ls x.id) (λ e. keep_bounds ls i d lt))

-- a number that is listed alone
one_loop : (P : LoopCopy → Type 0) (k : ℕ) → P (record { id = k; factor = 1 }) → All P (same_loop k).new
one_loop P k h = All-cons P (record { id = k; factor = 1 }) [] h (All-nil P)

module _ (p : Program) (high : IsHigh p) where
  abbrev loops : List Bounded
  loops = loops_in p.functions

  abbrev numbers : List ℕ
  numbers = range_with_len 0 p.loops

  loops_listed : HasEachBelow p.loops (listed_loops (same_listing p))
  loops_listed k = ap (count_of k) (loops_again numbers) ∙ range_has_each p.loops k

  abbrev EntryBounds : LoopEntry → Type 0
  EntryBounds e = All (λ (l : LoopCopy). (1 ≤ l.factor) × AreBy (bounds_of loops e.old) l.factor (bounds_of loops l.id)) e.new

  numbers_keep : All (KeepsBounds loops) numbers
  numbers_keep = All-same (KeepsBounds loops) numbers (map (λ (l : Bounded). l.id) loops) (sym high.loops) (All-map (KeepsBounds loops) (λ (l : Bounded). l.id) loops (keep_bounds loops))

  entry_bounds : All EntryBounds (map same_loop numbers)
  entry_bounds = All-map EntryBounds same_loop numbers
      (λ i d lt.
      let k = get_or numbers i d in
      one_loop (λ (l : LoopCopy). (1 ≤ l.factor) × AreBy (bounds_of loops k) l.factor (bounds_of loops l.id)) k (omega arith, numbers_keep i d lt))

  carried : Carries (behaviour_of p) p (same_listing p)
  carried = record {
    runs = λ input. shows_same p.marks (map same_loop numbers) (hrun p input);
    marks = old_marks p.marks;
    loops = old_loops numbers ∙ sym high.loops;
    lists = record { marks = marks_listed p.marks (map same_loop numbers); loops = loops_listed };
    bounds = entry_bounds;
    functions = refl;
    openings = λ f lt. opening_stays p.marks f (omega (arith, lt, high.openings));
    nevers = All-nil (λ v. StartsFewer (bounds_of loops v.old) v.factor);
  }

  factors_small : All (λ (e : LoopEntry). All (λ (l : LoopCopy). l.factor ≤ 64) e.new) (map same_loop numbers)
  factors_small = All-map (λ (e : LoopEntry). All (λ (l : LoopCopy). l.factor ≤ 64) e.new) same_loop numbers (λ i d lt. one_loop (λ (l : LoopCopy). l.factor ≤ 64) (get_or numbers i d) (omega arith))

  pub lawful : IsLawful p p (same_listing p)
  lawful = record {
    carries = carried;
    factors = record { loops = factors_small; nevers = All-nil (λ v. v.factor ≤ 64) };
    budgets = λ within. within;
    weight = omega arith;
    reach = reach_stays p p (λ m. le_refl (reach p m)) p.marks;
    whole = λ whole. whole;
    functions = refl;
    objects = refl;
    main = refl;
  }
