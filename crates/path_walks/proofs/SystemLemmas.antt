-- The functions of a system are settled one after the other.
use Rattle.std.proofs.Common.{◌≡◌, ℕ, zero, suc, ◌+◌, ◌<◌, ◌≤◌, pos, arith, refl, sym, ap, ◌∙◌, subst, List, [], ◌∷◌, length, drop, get_or, inl, inr, Contains, true, length-append}
use Rattle.std.proofs.Math.Seq.{drop-cons}
use Rattle.std.proofs.Math.ListN.{replicate}
use Rattle.std.proofs.lemmas.List.{drop_all, get_or_default, length-replicate}
use Rattle.code_flow_system.specs.declared.shapes.LoopShape.{LoopShape}
use Rattle.code_flow_system.specs.declared.shapes.Span.{Span}
use Rattle.code_flow_system.specs.Systems.{System, has_moves}
use Rattle.code_flow_system.specs.Shapes.{IsInSpan, IsInOne, AreAllApart}
use Rattle.loop_walks.specs.declared.step.Pair.{Pair}
use Rattle.loop_walks.specs.Walks.{worth_at}
use Rattle.loop_walks.specs.Levels.{Level, ground}
use Rattle.loop_walks.proofs.LevelLemmas.{Held, weighed-long}
use Rattle.loop_walks.proofs.WalkLemmas.{relaxed-long}
use Rattle.loop_worths.specs.Sizes.{StaysSmall}
use Rattle.path_places.specs.Places.{place_of}
use Rattle.path_places.specs.PlaceLaws.{function_steps, IsReachedWhole}
use Rattle.path_places.proofs.RankLemmas.{apart_one}
use Rattle.path_places.specs.Driver.{Prices, blank, function_loops, function_level, function_pairs, functions_level}
use Rattle.path_places.proofs.DriverLemmas.{fits_function, function_leaves, none_yet, function_holds, zero_at}
use Rattle.path_places.specs.Duals.{dealt, no_pairs, pairs_from, final_level, final_pairs}
use Rattle.path_walks.specs.Deals.{no_pair}
use Rattle.path_walks.specs.Functions.{IsFunction, HasSettled}
use Rattle.path_walks.specs.Sizes.{AllStaySmall}
use Rattle.path_walks.proofs.DealLemmas.{dealt-long}

next : (i : ℕ) → suc i ≡ i + 1
next i = omega arith

pub pairs-begin : (ls : List LoopShape) → replicate (length ls) no_pair ≡ no_pairs ls
pairs-begin [] = refl
pairs-begin (l ∷ ls) = ap (λ (xs : List Pair). no_pair ∷ xs) (pairs-begin ls)

-- spans behind a place are apart
apart_from : (ps : List Span) (i : ℕ) → AreAllApart ps → AreAllApart (drop i ps)
apart_from ps zero h = h
apart_from [] (suc i) h = tt
apart_from (p ∷ ps) (suc i) h = apart_from ps i h.1

-- the functions before i are settled
pub record Settling (s : System) (ls : List LoopShape) (ps : List Span) (q : Prices) (v : Level) (pairs : List Pair) (i : ℕ) : Type 0 where
  pub level : functions_level s ls q v (drop i ps) ≡ final_level s ls ps q
  pub pairs_are : pairs_from s ls q v (drop i ps) pairs ≡ final_pairs s ls ps q
  pub small : AllStaySmall s ls q v (drop i ps)
  pub long_worths : length v.worths ≡ suc (length s.moves)
  pub long_weights : length v.weights ≡ suc (length s.moves)
  pub fresh : (x : ℕ) → has_moves s.moves x ≡ true → IsInOne (drop i ps) x → worth_at v.weights (place_of s.moves x) ≡ pos 0
  pub known : length pairs ≡ length ls

module _ (s : System) (ls : List LoopShape) (ps : List Span) (whole : IsReachedWhole s ls ps) (q : Prices) where
  module _ (v : Level) (pairs : List Pair) (i : ℕ) (d : Span) (lt : i < length ps) (a : Settling s ls ps q v pairs i) where
    abbrev here : Span
    here = get_or ps i d

    cut : drop i ps ≡ here ∷ drop (i + 1) ps
    cut = drop-cons ps i d lt ∙ ap (λ j. get_or ps i d ∷ drop j ps) (next i)

    is_one : Contains ps here
    is_one = (i, lt, get_or_default ps i (get_or ps i d) d lt)

    own_fresh : (x : ℕ) → has_moves s.moves x ≡ true → IsInSpan here x → worth_at v.weights (place_of s.moves x) ≡ pos 0
    own_fresh x h o = a.fresh x h (subst (λ rs. IsInOne rs x) (sym cut) (inl o))

    both_small : StaysSmall q.low (function_steps s ls q.of v.worths here) v (function_loops s ls q v.worths here) × AllStaySmall s ls q (function_level s ls q v here) (drop (i + 1) ps)
    both_small = subst (λ rs. AllStaySmall s ls q v rs) cut a.small

    pub is_function : IsFunction s ls q v here
    is_function = let f = fits_function s ls ps whole q v.worths here is_one in record {
      system = record { shapes = whole.fits.shapes; loops = whole.fits.loops };
      long_worths = a.long_worths;
      long_weights = a.long_weights;
      steps = f.0;
      loops = f.1;
      none = none_yet s ls ps whole q v here (function_steps s ls q.of v.worths here) own_fresh s.claims.loops ls;
      small = both_small.0;
    }

    held : Held q.low (function_steps s ls q.of v.worths here) (ground q.low (function_steps s ls q.of v.worths here) v (function_loops s ls q v.worths here)) (function_level s ls q v here) (function_loops s ls q v.worths here) (function_pairs s ls q v here)
    held = let e = a.long_worths in let f = a.long_weights in function_holds s ls ps whole q v here is_one (omega (arith, e)) (omega (arith, f)) own_fresh

    apart_here : AreAllApart (here ∷ drop (i + 1) ps)
    apart_here = subst AreAllApart cut (apart_from ps i whole.fits.apart)

    next_level : (pairs' : List Pair) → pairs' ≡ dealt s.moves here ls pairs (function_pairs s ls q v here) → Settling s ls ps q (function_level s ls q v here) pairs' (i + 1)
    next_level pairs' e = record {
      level = sym (ap (λ rs. functions_level s ls q v rs) cut) ∙ a.level;
      pairs_are = ap (λ xs. pairs_from s ls q (function_level s ls q v here) (drop (i + 1) ps) xs) e ∙ (sym (ap (λ rs. pairs_from s ls q v rs pairs) cut) ∙ a.pairs_are);
      small = both_small.1;
      long_worths = held.long_worths ∙ (relaxed-long (ground q.low (function_steps s ls q.of v.worths here) v (function_loops s ls q v.worths here)).weights v.worths (function_steps s ls q.of v.worths here) ∙ a.long_worths);
      long_weights = held.long_weights ∙ (weighed-long q.low (function_steps s ls q.of v.worths here) v.weights (function_loops s ls q v.worths here) ∙ a.long_weights);
      fresh = λ x h o. (function_leaves s ls ps whole q v here (place_of s.moves x) is_one (inl (x, h, apart_one here (drop (i + 1) ps) x apart_here.0 o, refl))).1 ∙ a.fresh x h (subst (λ rs. IsInOne rs x) (sym cut) (inr o));
      known = ap length e ∙ dealt-long s.moves here ls pairs (function_pairs s ls q v here) a.known;
    }

    pub settling_next : (w : Level) (pairs' : List Pair) → HasSettled s ls q v here pairs w pairs' → Settling s ls ps q w pairs' (i + 1)
    settling_next w pairs' h = subst (λ x. Settling s ls ps q x pairs' (i + 1)) (sym h.level) (next_level pairs' h.multipliers)

  pub settling_start : (v : Level) (pairs : List Pair) → v ≡ blank (length s.moves) q.low → pairs ≡ no_pairs ls → AllStaySmall s ls q (blank (length s.moves) q.low) ps → Settling s ls ps q v pairs 0
  settling_start v pairs e f small = record {
    level = ap (λ x. functions_level s ls q x ps) e;
    pairs_are = ap (λ x. pairs_from s ls q x ps pairs) e ∙ ap (λ xs. pairs_from s ls q (blank (length s.moves) q.low) ps xs) f;
    small = subst (λ x. AllStaySmall s ls q x ps) (sym e) small;
    long_worths = ap (λ x. length x.worths) e ∙ (let a = length-append (replicate (length s.moves) q.low) (pos 0 ∷ []) in let b = length-replicate (length s.moves) q.low in omega (arith, a, b));
    long_weights = ap (λ x. length x.weights) e ∙ (let b = length-replicate (length s.moves + 1) (pos 0) in omega (arith, b));
    fresh = λ x h o. ap (λ y. worth_at y.weights (place_of s.moves x)) e ∙ zero_at (length s.moves + 1) (place_of s.moves x);
    known = ap length f ∙ none-long ls;
  }
    where
      none-long : (ks : List LoopShape) → length (no_pairs ks) ≡ length ks
      none-long [] = refl
      none-long (k ∷ ks) = ap suc (none-long ks)

  pub settling_end : (v : Level) (pairs : List Pair) (i : ℕ) → length ps ≤ i → Settling s ls ps q v pairs i → (v ≡ final_level s ls ps q) × (pairs ≡ final_pairs s ls ps q)
  settling_end v pairs i le a =
      let e = drop_all i ps le in
      (sym (ap (λ rs. functions_level s ls q v rs) e) ∙ a.level, sym (ap (λ rs. pairs_from s ls q v rs pairs) e) ∙ a.pairs_are)
