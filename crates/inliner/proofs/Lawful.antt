-- The program with its calls opened keeps the program, so that inlining is lawful.
use Rattle.std.proofs.Common.{◌≡◌, ℕ, zero, suc, ◌<◌, ◌≤◌, ◌^◌, Bool, true, false, inl, inr, List, [], ◌∷◌, length, get_or, Some, refl, sym, ap, ◌∙◌, subst, arith, All}
use Rattle.std.specs.Prelude.{slice_get, sum_by, if◌then◌else◌, ◌==◌}
use Rattle.std.proofs.lemmas.List.{length-map}
use Rattle.std.proofs.lemmas.List.Elements.{All-cons, All-head, All-map, All-nil, All-tail}
use Rattle.std.proofs.lemmas.Option.{get_or_from_slice_get, slice_get-get_or, slice_get_within}
use Rattle.wcc_base.specs.Budgets.{most_depth}
use Rattle.high_ir.specs.Formed.{IsHigh, RanksFall}
use Rattle.high_ir.specs.Runs.{rank_or}
use Rattle.high_ir.specs.Size.{depth, function_nodes, greatest, program_nodes}
use Rattle.high_ir.specs.Standing.{blocks_needed, loops_in, loops_of, marks_of}
use Rattle.high_ir.specs.Tree.{Leave, Function, Program}
use Rattle.high_ir.specs.Whole.{HasWords}
use Rattle.high_pass.specs.Law.{IsLawful, signature_of}
use Rattle.high_pass.proofs.Continuing.{loops_below}
use Rattle.high_pass.proofs.Elements.{All-flat_map, All-flat_map_back, All-map_back}
use Rattle.high_renumber.specs.Keeping.{IsLoose, Keeps}
use Rattle.high_renumber.specs.Numbered.{copies_in, renumbered}
use Rattle.high_again.specs.Same.{same_listing}
use Rattle.high_again.proofs.Lawful.{lawful}
use Rattle.high_renumber.proofs.Lawful.{kept_is_lawful}
use Rattle.high_parts.proofs.Numbers.{bounds_found}
use Rattle.inliner.specs.Inlining.{begun, by_rank, copies_of_inlined, inlined, opened_program, swept}
use Rattle.inliner.proofs.Making.{Each, IsCopy, Keeping, all_keep, rank_there}
use Rattle.inliner.proofs.Sizing.{program_nodes-le}
use Rattle.inliner.proofs.Stepping.{swept_serves}
use Rattle.inliner.proofs.Untouched.{Untouched, all_untouched, both_steps}
use Rattle.inliner.proofs.Weights.{weights_less}
use Rattle.inliner.proofs.Reaches.{reaches_less}

each_of_all : (P : Function → Type 0) (fs : List Function) → All P fs → Each P fs
each_of_all P fs all g h found = subst P (get_or_from_slice_get fs g h h found) (all g h (slice_get_within fs g h found))

all_of_each : (P : Function → Type 0) (fs : List Function) → Each P fs → All P fs
all_of_each P fs each k d lt = each k (get_or fs k d) (slice_get-get_or fs k d lt)

greatest-least : (n : ℕ) (fs : List Function) → All (λ f. depth f.body ≤ n) fs → greatest (λ f. depth f.body) fs ≤ n
greatest-least n [] all = omega arith
greatest-least n (f ∷ fs) all = omega (arith, All-head (λ g. depth g.body ≤ n) f fs all, greatest-least n fs (All-tail (λ g. depth g.body ≤ n) f fs all))

least-greatest : (n : ℕ) (fs : List Function) → greatest (λ f. depth f.body) fs ≤ n → All (λ f. depth f.body ≤ n) fs
least-greatest n [] le = All-nil (λ f. depth f.body ≤ n)
least-greatest n (f ∷ fs) le = All-cons (λ g. depth g.body ≤ n) f fs (omega (arith, le)) (least-greatest n fs (omega (arith, le)))

abbrev nobody : Function
nobody = record { values = 0; arrays = 0; locals = 0; rank = 0; body = Leave 0 }

module _ (limit : ℕ) (p : Program) (high : IsHigh p) where
  own_loops : All (IsCopy p) (loops_in p.functions)
  own_loops = λ i d lt. (bounds_found (loops_in p.functions) 0 p.loops high.loops i d lt, All-map_back (λ x. x < p.loops) (λ l. l.id) (loops_in p.functions) (loops_below p high) i d lt)

  begins : Keeping p (begun p)
  begins = record {
    signatures = refl;
    falls = λ f h found. each_of_all (RanksFall p.functions) p.functions high.ranks f h found;
    leaves = each_of_all (λ h. blocks_needed h.body ≡ 0) p.functions high.leaves;
    marks = each_of_all (λ h. All (λ k. k < p.marks) (marks_of h.body)) p.functions (All-flat_map_back (λ k. k < p.marks) (λ h. marks_of h.body) p.functions high.marks);
    loops = each_of_all (λ h. All (IsCopy p) (loops_of h.body)) p.functions (All-flat_map_back (IsCopy p) (λ h. loops_of h.body) p.functions own_loops);
    depth = each_of_all (λ h. depth h.body ≤ most_depth) p.functions (least-greatest most_depth p.functions high.depth);
    operations = refl;
    bytes = refl;
    within = omega arith;
    small = omega arith;
    weights = λ n m g k found lt. weights_less p.functions (λ f h is. each_of_all (RanksFall p.functions) p.functions high.ranks f h is) n m g k found lt;
    reaches = λ mark n m g k found lt. reaches_less mark p.functions (λ f h is. each_of_all (RanksFall p.functions) p.functions high.ranks f h is) n m g k found lt;
    words = λ first. first;
  }

  openings : (f : ℕ) (h : Function) → slice_get p.functions f ≡ Some h → f < p.marks
  openings f h found = omega (arith, high.openings, slice_get_within p.functions f h found)

  pub swept_keeps : (n : ℕ) → Keeping p (swept limit p n)
  swept_keeps zero = begins
  swept_keeps (suc n) = all_keep limit p openings (swept limit p n) (by_rank p.functions) (swept_keeps n)

  swept_untouched : (n : ℕ) → Untouched p.functions (begun p).used (swept limit p n)
  swept_untouched zero = inl (refl, refl)
  swept_untouched (suc n) =
      both_steps p.functions (begun p).used (swept limit p n) (swept limit p (suc n)) (swept_untouched n) (all_untouched limit (swept limit p n) (by_rank p.functions))

  module _ (n : ℕ) where
    kept : Keeping p (swept limit p n)
    kept = swept_keeps n

    few_nodes : Untouched p.functions (begun p).used (swept limit p n) → program_nodes (opened_program limit p n) < 2 ^ 26
    few_nodes (inl same) = subst (λ fs. sum_by function_nodes fs < 2 ^ 26) (sym same.0) high.nodes
    few_nodes (inr few) = omega (arith, few, kept.operations, program_nodes-le (swept limit p n).functions)

    count : length (swept limit p n).functions ≡ length p.functions
    count = sym (length-map (swept limit p n).functions signature_of) ∙ ap length kept.signatures ∙ length-map p.functions signature_of

    copies : All (IsCopy p) (loops_in (swept limit p n).functions)
    copies = All-flat_map (IsCopy p) (λ h. loops_of h.body) (swept limit p n).functions (all_of_each (λ h. All (IsCopy p) (loops_of h.body)) (swept limit p n).functions kept.loops)

    pub loose : IsLoose (opened_program limit p n)
    loose = record {
      main = omega (arith, high.main, count);
      functions = omega (arith, high.openings, count);
      marks = All-flat_map (λ k. k < p.marks) (λ h. marks_of h.body) (swept limit p n).functions (all_of_each (λ h. All (λ k. k < p.marks) (marks_of h.body)) (swept limit p n).functions kept.marks);
      loops = All-map (λ k. k < p.loops) (λ l. l.id) (loops_in (swept limit p n).functions) (λ i d lt. let c = copies i d lt in c.1);
      leaves = all_of_each (λ h. blocks_needed h.body ≡ 0) (swept limit p n).functions kept.leaves;
      ranks = all_of_each (RanksFall (swept limit p n).functions) (swept limit p n).functions kept.falls;
      depth = greatest-least most_depth (swept limit p n).functions (all_of_each (λ h. depth h.body ≤ most_depth) (swept limit p n).functions kept.depth);
      nodes = few_nodes (swept_untouched n);
    }

    -- main is there
    main_there : (k : Function) × (slice_get p.functions p.main ≡ Some k)
    main_there = (get_or p.functions p.main nobody, slice_get-get_or p.functions p.main nobody high.main)

    main_rank : main_there.0.rank < suc (rank_or p.functions p.main 0)
    main_rank = omega (arith, rank_there p.functions p.main 0 main_there.0 main_there.1)

    pub keeps : Keeps p (opened_program limit p n)
    keeps = record {
      loose = loose;
      functions = kept.signatures;
      objects = refl;
      main = refl;
      marks = refl;
      loops = refl;
      serves = swept_serves limit p n;
      bounds = λ i d lt. let c = copies i d lt in c.0;
      budgets = λ within. record {
        operations = omega (arith, within.operations, kept.within, kept.operations);
        depth = loose.depth;
        locals = omega (arith, within.locals, kept.small, kept.bytes);
      };
      weight = kept.weights (suc (rank_or (swept limit p n).functions p.main 0)) (suc (rank_or p.functions p.main 0)) p.main main_there.0 main_there.1 main_rank;
      reach = λ mark. kept.reaches mark (suc (rank_or (swept limit p n).functions p.main 0)) (suc (rank_or p.functions p.main 0)) p.main main_there.0 main_there.1 main_rank;
      whole = λ whole. record {
        words = all_of_each (λ h. HasWords h.body) (swept limit p n).functions (kept.words (each_of_all (λ h. HasWords h.body) p.functions whole.words));
        objects = whole.objects;
      };
    }

    -- inlining is lawful
    pub inlined_is_lawful : IsLawful p (inlined limit p n) (copies_of_inlined limit p n)
    inlined_is_lawful = by_sweeps (n == 0)
      where
        by_sweeps : (b : Bool) → IsLawful p (if b then p else renumbered (opened_program limit p n)) (if b then same_listing p else copies_in (opened_program limit p n))
        by_sweeps true = lawful p high
        by_sweeps false = kept_is_lawful p (opened_program limit p n) high keeps
