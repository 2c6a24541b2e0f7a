-- A folded program keeps to the high form.
use Rattle.std.proofs.Common.{◌≡◌, ℕ, suc, ◌+◌, ◌<◌, ◌≤◌, List, [], ◌∷◌, length, map, refl, sym, ap, ◌∙◌, subst, arith, All}
use Rattle.std.specs.Prelude.{slice_index_or}
use Rattle.std.specs.List.{range_with_len}
use Rattle.std.proofs.lemmas.List.{length-map}
use Rattle.std.proofs.lemmas.List.Elements.{All-cons, All-head, All-nil, All-tail}
use Rattle.high_ir.specs.Formed.{IsHigh, LeavesWithin, RanksFall}
use Rattle.high_ir.specs.Runs.{rank_or}
use Rattle.high_ir.specs.Standing.{blocks_needed, callees_of, loops_in, marks_in}
use Rattle.high_ir.specs.Tree.{Function, Program}
use Rattle.high_parts.proofs.Numbers.{number_of}
use Rattle.high_folded.specs.Folded.{folded, folded_function, folded_functions, folded_program, kept_in, kept_loops}
use Rattle.high_folded.proofs.Holds.{All-holds}
use Rattle.high_folded.proofs.Measures.{all_depths, all_nodes, blocks-folded}
use Rattle.high_folded.proofs.Running.{ranks-folded}
use Rattle.high_folded.proofs.Standing.{callees-folded, loops_in-folded, marks_in-folded, numbers-numbered, numbers-stayed_in, stayed_in}

pub as_many_functions : (n : ℕ) (fs : List Function) → length (folded_functions n fs) ≡ length fs
as_many_functions n [] = refl
as_many_functions n (f ∷ fs) = ap suc (as_many_functions (n + length (kept_loops f.body)) fs)

leaves-folded : (n : ℕ) (fs : List Function) → All LeavesWithin fs → All LeavesWithin (folded_functions n fs)
leaves-folded n [] all = All-nil LeavesWithin
leaves-folded n (f ∷ fs) all =
    let m = n + length (kept_loops f.body) in
    All-cons LeavesWithin (folded_function n f) (folded_functions m fs)
    (none_needed (blocks_needed (folded n f.body)) (blocks_needed f.body) (blocks-folded f.body n) (All-head LeavesWithin f fs all))
    (leaves-folded m fs (All-tail LeavesWithin f fs all))
  where
    none_needed : (a b : ℕ) → a ≤ b → b ≡ 0 → a ≡ 0
    none_needed a b le none = omega (arith, le, none)

ranks_fall-folded : (all : List Function) (n : ℕ) (fs : List Function) → All (RanksFall all) fs → All (RanksFall all) (folded_functions n fs)
ranks_fall-folded all n [] h = All-nil (RanksFall all)
ranks_fall-folded all n (f ∷ fs) h =
    let m = n + length (kept_loops f.body) in
    All-cons (RanksFall all) (folded_function n f) (folded_functions m fs)
    (All-holds (λ g. rank_or all g f.rank < f.rank) (callees_of f.body) (callees_of (folded n f.body)) (callees-folded f.body n) (All-head (RanksFall all) f fs h))
    (ranks_fall-folded all m fs (All-tail (RanksFall all) f fs h))

pub kept_numbers : (fs : List Function) → map number_of (loops_in (folded_functions 0 fs)) ≡ range_with_len 0 (length (kept_in fs))
kept_numbers fs =
    ap (map number_of) (loops_in-folded 0 fs)
    ∙ numbers-numbered 0 (stayed_in fs)
    ∙ ap (range_with_len 0) (sym (length-map (stayed_in fs) number_of) ∙ ap length (numbers-stayed_in fs))

pub folded_is_high : (p : Program) → IsHigh p → IsHigh (folded_program p)
folded_is_high p h =
    let fs = p.functions in
    let gs = folded_functions 0 fs in
    let many : length gs ≡ length fs = as_many_functions 0 fs in
    let marks = marks_in-folded 0 fs in
    let ranks = ranks_fall-folded fs 0 fs h.ranks in
    let deep = all_depths fs 0 in
    let large = all_nodes fs 0 in
    record {
      main = subst (λ n. p.main < n) (sym many) h.main;
      openings = subst (λ n. n ≤ p.marks) (sym many) h.openings;
      others = subst (λ n. All (λ m. n ≤ m) (marks_in gs)) (sym many) (All-holds (λ m. length fs ≤ m) (marks_in fs) (marks_in gs) marks h.others);
      marks = All-holds (λ m. m < p.marks) (marks_in fs) (marks_in gs) marks h.marks;
      loops = kept_numbers fs;
      leaves = leaves-folded 0 fs h.leaves;
      ranks = subst (λ rs. All (λ f. All (λ g. slice_index_or rs g f.rank < f.rank) (callees_of f.body)) gs) (sym (ranks-folded 0 fs)) ranks;
      depth = omega (arith, deep, h.depth);
      nodes = omega (arith, large, h.nodes);
    }
