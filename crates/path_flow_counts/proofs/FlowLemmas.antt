-- The flow of a system from its last function to its first.
use Rattle.std.proofs.Common.{◌≡◌, ℕ, suc, ◌+◌, ◌≤◌, ◌<◌, ◌^◌, ℤ, pos, arith, refl, sym, ap, ◌∙◌, subst, List, [], ◌∷◌, ◌++◌, length, drop, get_or, All, Option, Some, None, Bool, true, false, cond, append_assoc, append-nil}
use Rattle.std.specs.Prelude.{◌==◌}
use Rattle.std.proofs.Math.Seq.{drop-cons}
use Rattle.std.proofs.Math.Nat.{mod-eq_of_lt}
use Rattle.std.proofs.lemmas.List.{drop_all}
use Rattle.std.proofs.lemmas.List.Elements.{All-nil, All-cons, All-head, All-tail}
use Rattle.code_flow_system.specs.declared.cert.Part.{Part}
use Rattle.code_flow_system.specs.declared.moves.Move.{Move}
use Rattle.code_flow_system.specs.declared.shapes.LoopShape.{LoopShape}
use Rattle.code_flow_system.specs.declared.shapes.Span.{Span}
use Rattle.code_flow_system.specs.Systems.{System}
use Rattle.loop_walks.specs.declared.step.Step.{Step}
use Rattle.loop_walks.specs.declared.step.Loop.{Loop}
use Rattle.loop_walks.specs.Turns.{way_at, turn_ways}
use Rattle.loop_walks.specs.Levels.{Level, level_of, weighed}
use Rattle.loop_walks.specs.Rows.{IsStep, Each, IsBack, AreLoops}
use Rattle.loop_walks.proofs.EachLemmas.{each_both, steps_are}
use Rattle.loop_flows.specs.Passes.{amount_at, spread}
use Rattle.loop_flows.specs.Flows.{Turning}
use Rattle.loop_flows.specs.Turns.{is_tight, turning_of, with_way, with_back, turnings}
use Rattle.loop_flow_counts.specs.declared.back.Back.{Back}
use Rattle.loop_flow_counts.specs.Wraps.{wrapped, all_wrapped, SameCounts, AgreeIn}
use Rattle.loop_flow_counts.specs.Made.{backs_by, HasTurned}
use Rattle.loop_flow_counts.proofs.WrapLemmas.{at_wrapped, wrapped-long}
use Rattle.loop_flow_counts.proofs.SpreadLemmas.{BeginsIn, spread_agrees, spread_same, counts_same, backs_same}
use Rattle.loop_flow_counts.proofs.TurnLemmas.{turned_from}
use Rattle.path_places.specs.Places.{place_of, is_walked}
use Rattle.path_places.specs.PlaceLaws.{function_steps, IsReachedWhole}
use Rattle.path_places.specs.Driver.{Prices, blank, function_loops, function_level}
use Rattle.path_places.specs.Duals.{final_level}
use Rattle.path_flows.specs.Flows.{Flowing, counted, called, function_ground, function_turnings, first_counts, function_counts, function_backs, function_flow, flow_from, first_flow, amounts_of, parts_of}
use Rattle.path_walks.specs.Functions.{IsFunction}
use Rattle.path_walks.specs.Sizes.{AllStaySmall}
use Rattle.path_flow_counts.specs.Puts.{IsPut}
use Rattle.path_flow_counts.specs.Sums.{SameFlow, flowing, backed}
use Rattle.path_flow_counts.specs.Parts.{part_of, part_if}
use Rattle.path_flow_counts.proofs.LevelLemmas.{own_steps, Before, before_all, is_function, level_back, walk_back, level_at, level_after, level_end, before_at, begins}
use Rattle.path_flow_counts.proofs.SumLemmas.{counted_same, called_same, backed_turned}

next : (i : ℕ) → suc i ≡ i + 1
next i = omega arith

-- the jumps back of turnings are among the places
pub backs_in : (low : ℤ) (n : ℕ) (ms : List Step) (weights : List ℤ) (rs : List Loop) (bs : List ℕ) → AreLoops n ms rs → All (λ (b : Back). b.place < n) (backs_by (turnings low ms weights rs) bs)
backs_in low n ms weights [] bs fits = All-nil (λ (b : Back). b.place < n)
backs_in low n ms weights (l ∷ rs) bs fits = by_back (λ cs. backs_in low n ms weights rs cs fits.2) l.back fits.0.back bs
  where
    by_way : ((cs : List ℕ) → All (λ (b : Back). b.place < n) (backs_by (turnings low ms weights rs) cs)) → (b : ℕ) → b < n → (o : Option ℤ) (cs : List ℕ) → All (λ (k : Back). k.place < n) (backs_by (with_way o (turning_of low (weighed low ms weights rs) l ms (turn_ways low (weighed low ms weights rs) l ms) b) (turnings low ms weights rs)) cs)
    by_way rest b lt None cs = rest cs
    by_way rest b lt (Some x) [] = All-nil (λ (k : Back). k.place < n)
    by_way rest b lt (Some x) (c ∷ cs) = All-cons (λ (k : Back). k.place < n) (record { place = b; count = wrapped c }) (backs_by (turnings low ms weights rs) cs) lt (rest cs)

    by_test : ((cs : List ℕ) → All (λ (b : Back). b.place < n) (backs_by (turnings low ms weights rs) cs)) → (b : ℕ) → b < n → (t : Bool) (cs : List ℕ) → All (λ (k : Back). k.place < n) (backs_by (cond t (turnings low ms weights rs) (with_way (way_at (turn_ways low (weighed low ms weights rs) l ms) 0) (turning_of low (weighed low ms weights rs) l ms (turn_ways low (weighed low ms weights rs) l ms) b) (turnings low ms weights rs))) cs)
    by_test rest b lt true cs = rest cs
    by_test rest b lt false cs = by_way rest b lt (way_at (turn_ways low (weighed low ms weights rs) l ms) 0) cs

    by_back : ((cs : List ℕ) → All (λ (b : Back). b.place < n) (backs_by (turnings low ms weights rs) cs)) → (o : Option ℕ) → IsBack l ms o → (cs : List ℕ) → All (λ (k : Back). k.place < n) (backs_by (with_back low (weighed low ms weights rs) l ms o (turnings low ms weights rs)) cs)
    by_back rest None h cs = rest cs
    by_back rest (Some b) h cs = by_test rest b (let h1 = h.1 in let e = fits.0.range.1 in omega (arith, h1, e)) (b == l.header) cs

-- the functions from i on are done
pub record Going (s : System) (ls : List LoopShape) (ps : List Span) (q : Prices) (level : Level) (f : Flowing) (i : ℕ) : Type 0 where
  pub level_is : level ≡ level_at s ls q (blank (length s.moves) q.low) ps i
  pub flow : SameFlow f (flow_from s ls q (level_at s ls q (blank (length s.moves) q.low) ps i) (drop i ps) (first_flow s))

module _ (s : System) (ls : List LoopShape) (q : Prices) where
  -- ---- one function

  module _ (v : Level) (p : Span) (fits : IsFunction s ls q v p) where
    abbrev ms : List Step
    ms = function_steps s ls q.of v.worths p

    abbrev ts : List Turning
    ts = function_turnings s ls q v p

    begin_in : Each (BeginsIn (is_tight (function_ground s ls q v p)) (place_of s.moves p.first) (place_of s.moves p.end) (length s.moves + 1)) (function_steps s ls q.of v.worths p)
    begin_in = each_both (λ k. (place_of s.moves p.first ≤ k.at) × (k.at < place_of s.moves p.end)) (IsStep (length s.moves)) (BeginsIn (is_tight (function_ground s ls q v p)) (place_of s.moves p.first) (place_of s.moves p.end) (length s.moves + 1)) ms
        (λ k i j c. (i.0, i.1, j.0, (let j1 = j.1 in omega (arith, j1)))) (own_steps s ls q v.worths p) (steps_are (length s.moves) ms fits.steps)

    -- its counts are those of what starts it
    pub counts_by : (room starts counts : List ℕ) (backs : List Back) → length room ≡ length s.moves + 1 → length starts ≡ length s.moves + 1 → AgreeIn (place_of s.moves p.first) (place_of s.moves p.end) room starts →
        HasTurned (length s.moves) (function_steps s ls q.of v.worths p) (spread (is_tight (function_ground s ls q v p)) room (function_steps s ls q.of v.worths p)) (function_turnings s ls q v p) counts backs →
        SameCounts counts (function_counts s ls q v p starts) × (backs ≡ backs_by (function_turnings s ls q v p) (function_backs s ls q v p starts))
    counts_by room starts counts backs long_room long agree h =
        let first = spread_agrees (is_tight (function_ground s ls q v p)) (place_of s.moves p.first) (place_of s.moves p.end) room starts ms (long_room ∙ sym long)
        (subst (λ k. Each (BeginsIn (is_tight (function_ground s ls q v p)) (place_of s.moves p.first) (place_of s.moves p.end) k) ms) (sym long_room) begin_in) agree in
        let r = turned_from (length s.moves) ms (spread (is_tight (function_ground s ls q v p)) room ms) (first_counts s ls q v p starts) counts ts backs first h in
        (r.counts, r.backs)

    pub backs_are_in : (starts : List ℕ) (backs : List Back) → backs ≡ backs_by (function_turnings s ls q v p) (function_backs s ls q v p starts) → All (λ (b : Back). b.place < length s.moves) backs
    backs_are_in starts backs e = subst (All (λ (b : Back). b.place < length s.moves)) (sym e) (backs_in q.low (length s.moves) ms v.weights (function_loops s ls q v.worths p) (function_backs s ls q v p starts) fits.loops)

    -- what it adds
    pub flow_by : (starts starts' amounts amounts' amounts'' counts : List ℕ) (backs : List Back) → SameCounts counts (function_counts s ls q v p starts) → backs ≡ backs_by (function_turnings s ls q v p) (function_backs s ls q v p starts) →
        SameCounts amounts' (counted (is_walked s.claims ls p) s.moves amounts counts) → SameCounts starts' (called s.moves (is_walked s.claims ls p) s.moves counts starts) → amounts'' ≡ backed backs amounts' →
        SameFlow (flowing starts' amounts'') (function_flow s ls q v p (flowing starts amounts))
    flow_by starts starts' amounts amounts' amounts'' counts backs e f g h k = record {
      starts = h ∙ called_same (is_walked s.claims ls p) s.moves s.moves counts (function_counts s ls q v p starts) starts starts e refl;
      amounts =
          ap all_wrapped (k ∙ ap (λ bs. backed bs amounts') f)
          ∙ backed_turned ts (function_backs s ls q v p starts) amounts' (counted (is_walked s.claims ls p) s.moves amounts (function_counts s ls q v p starts))
          (g ∙ counted_same (is_walked s.claims ls p) s.moves amounts amounts counts (function_counts s ls q v p starts) refl e);
    }

  -- functions add the same to flows that are the same
  pub flow_same : (v : Level) (p : Span) (f g : Flowing) → SameFlow f g → SameFlow (function_flow s ls q v p f) (function_flow s ls q v p g)
  flow_same v p f g e =
      let ms = function_steps s ls q.of v.worths p in
      let ts = function_turnings s ls q v p in
      let first = spread_same (is_tight (function_ground s ls q v p)) f.starts g.starts ms e.starts in
      let counts = counts_same (length s.moves) ms (first_counts s ls q v p f.starts) (first_counts s ls q v p g.starts) ts first in
      let backs = backs_same (length s.moves) ms (first_counts s ls q v p f.starts) (first_counts s ls q v p g.starts) ts first in
      let walked = is_walked s.claims ls p in
      let us = counted walked s.moves f.amounts (function_counts s ls q v p f.starts) in
      let us' = counted walked s.moves g.amounts (function_counts s ls q v p g.starts) in
      record {
        starts = called_same walked s.moves s.moves (function_counts s ls q v p f.starts) (function_counts s ls q v p g.starts) f.starts g.starts counts e.starts;
        amounts =
            sym (backed_turned ts (function_backs s ls q v p f.starts) us us refl)
            ∙ (ap (λ bs. all_wrapped (backed bs us)) backs
            ∙ backed_turned ts (function_backs s ls q v p g.starts) us us' (counted_same walked s.moves f.amounts g.amounts (function_counts s ls q v p f.starts) (function_counts s ls q v p g.starts) e.amounts counts));
      }

-- ---- all functions

module _ (s : System) (ls : List LoopShape) (ps : List Span) (whole : IsReachedWhole s ls ps) (q : Prices) where
  abbrev level_by : ℕ → Level
  level_by i = level_at s ls q (blank (length s.moves) q.low) ps i

  pub final-long : AllStaySmall s ls q (blank (length s.moves) q.low) ps → (length (final_level s ls ps q).worths ≡ length s.moves + 1) × (length (final_level s ls ps q).weights ≡ length s.moves + 1)
  final-long small =
      let b = before_at s ls ps whole q (blank (length s.moves) q.low) ps (length ps) (before_all s ls ps whole q small) in
      let e = level_end s ls q (blank (length s.moves) q.low) ps (length ps) (omega arith) in
      (sym (ap (λ v. length v.worths) e) ∙ (b.long_worths ∙ next (length s.moves)), sym (ap (λ v. length v.weights) e) ∙ (b.long_weights ∙ next (length s.moves)))

  pub going_start : (level : Level) (f : Flowing) (i : ℕ) → i ≡ length ps → level ≡ final_level s ls ps q → f ≡ first_flow s → Going s ls ps q level f i
  going_start level f i is e g =
      let none : drop i ps ≡ [] = drop_all i ps (omega (arith, is)) in
      record {
        level_is = e ∙ sym (level_end s ls q (blank (length s.moves) q.low) ps i (omega (arith, is)));
        flow = subst (λ rs. SameFlow f (flow_from s ls q (level_by i) rs (first_flow s))) (sym none) (record { starts = ap (λ k. all_wrapped k.starts) g; amounts = ap (λ k. all_wrapped k.amounts) g });
      }

  module _ (small : AllStaySmall s ls q (blank (length s.moves) q.low) ps) (i j : ℕ) (d : Span) (before : j ≡ i + 1) (lt : i < length ps) where
    abbrev here : Span
    here = get_or ps i d

    cut : drop i ps ≡ get_or ps i d ∷ drop j ps
    cut = drop-cons ps i d lt ∙ ap (λ k. get_or ps i d ∷ drop k ps) (next i ∙ sym before)

    pub ready : Before s ls ps whole q (level_at s ls q (blank (length s.moves) q.low) ps i) (get_or ps i d ∷ drop j ps)
    ready = subst (Before s ls ps whole q (level_by i)) cut (before_at s ls ps whole q (blank (length s.moves) q.low) ps i (before_all s ls ps whole q small))

    pub after : level_at s ls q (blank (length s.moves) q.low) ps j ≡ function_level s ls q (level_at s ls q (blank (length s.moves) q.low) ps i) (get_or ps i d)
    after = ap level_by before ∙ level_after s ls q (blank (length s.moves) q.low) ps i d lt

    -- the level before the function
    pub level_before : (now : Level) (f : Flowing) (worths weights : List ℤ) → Going s ls ps q now f j → length worths ≡ length now.worths → length weights ≡ length now.weights → IsPut (place_of s.moves (get_or ps i d).first) (place_of s.moves (get_or ps i d).end) q.low now.worths worths →
        IsPut (place_of s.moves (get_or ps i d).first) (place_of s.moves (get_or ps i d).end) (pos 0) now.weights weights → level_of worths weights ≡ level_at s ls q (blank (length s.moves) q.low) ps i
    level_before now f worths weights g long_worths long_weights a b = level_back s ls ps whole q (level_by i) here (drop j ps) ready now worths weights (g.level_is ∙ after) long_worths long_weights a b

    pub function_fits : (level : Level) → level ≡ level_at s ls q (blank (length s.moves) q.low) ps i → IsFunction s ls q level (get_or ps i d)
    function_fits level e = subst (λ v. IsFunction s ls q v here) (sym e) (is_function s ls ps whole q (level_by i) here (drop j ps) ready)

    pub going_next : (now : Level) (f g : Flowing) (level : Level) (worths' weights' worths weights : List ℤ) → Going s ls ps q now f j → level ≡ level_at s ls q (blank (length s.moves) q.low) ps i → worths' ≡ (function_ground s ls q level (get_or ps i d)).worths → weights' ≡ level.weights → length worths ≡ length worths' → length weights ≡ length weights' →
        IsPut (place_of s.moves (get_or ps i d).first) (place_of s.moves (get_or ps i d).end) q.low worths' worths → IsPut (place_of s.moves (get_or ps i d).first) (place_of s.moves (get_or ps i d).end) (pos 0) weights' weights → SameFlow g (function_flow s ls q level (get_or ps i d) f) → Going s ls ps q (level_of worths weights) g i
    going_next now f g level worths' weights' worths weights h e x y long_worths long_weights a b adds =
        let v = level_by i in
        let fs = flow_from s ls q (level_by j) (drop j ps) (first_flow s) in
        let same = flow_same s ls q v here f fs h.flow in
        let added : SameFlow g (function_flow s ls q v here f) = subst (λ u. SameFlow g (function_flow s ls q u here f)) e adds in
        let all : flow_from s ls q v (drop i ps) (first_flow s) ≡ function_flow s ls q v here fs =
        ap (λ rs. flow_from s ls q v rs (first_flow s)) cut ∙ ap (λ u. function_flow s ls q v here (flow_from s ls q u (drop j ps) (first_flow s))) (sym after) in
        record {
          level_is = walk_back s ls ps whole q v here (drop j ps) ready worths' weights' worths weights (x ∙ ap (λ u. (function_ground s ls q u here).worths) e) (y ∙ ap (λ u. u.weights) e) long_worths long_weights a b;
          flow = subst (SameFlow g) (sym all) (record { starts = added.starts ∙ same.starts; amounts = added.amounts ∙ same.amounts });
        }

  pub going_end : (level : Level) (f : Flowing) (i : ℕ) → i ≡ 0 → Going s ls ps q level f i → SameCounts f.amounts (amounts_of s ls ps q)
  going_end level f i is g =
      let h = subst (λ k. SameFlow f (flow_from s ls q (level_by k) (drop k ps) (first_flow s))) is g.flow in
      h.amounts ∙ ap (λ v. all_wrapped (flow_from s ls q v ps (first_flow s)).amounts) (begins s ls q (blank (length s.moves) q.low) ps)

-- ---- counts that fit

pub wraps_not : (us : List ℕ) → All (λ u. u < 2 ^ 127) us → all_wrapped us ≡ us
wraps_not [] h = refl
wraps_not (u ∷ us) h =
    let lt = All-head (λ x. x < 2 ^ 127) u us h in
    ap (λ x. x ∷ all_wrapped us) (mod-eq_of_lt {n = u} {m = 2 ^ 128} (omega (arith, lt))) ∙ ap (λ xs. u ∷ xs) (wraps_not us (All-tail (λ x. x < 2 ^ 127) u us h))

-- a count below 2^128 is read as it is
pub read_whole : (us : List ℕ) (i : ℕ) → amount_at us i < 2 ^ 128 → amount_at us i ≡ amount_at (all_wrapped us) i
read_whole us i small = sym (at_wrapped us i ∙ mod-eq_of_lt small)

pub fits_at : (us : List ℕ) (i : ℕ) → i < length us → All (λ u. u < 2 ^ 127) (all_wrapped us) → amount_at us i < 2 ^ 128 → amount_at us i < 2 ^ 127
fits_at us i lt h small = let l = wrapped-long us in subst (λ u. u < 2 ^ 127) (sym (read_whole us i small)) (h i 0 (omega (arith, lt, l)))

-- the parts of moves from k on are still to be listed
pub parts_next : (ms : List Move) (us : List ℕ) (out out' whole : List Part) (k : ℕ) (d : Move) (u : ℕ) → k < length ms → k < length us → u ≡ get_or us k 0 → out ++ parts_of (drop k ms) (drop k us) ≡ whole → out' ≡ out ++ part_if (get_or ms k d) u → out' ++ parts_of (drop (k + 1) ms) (drop (k + 1) us) ≡ whole
parts_next ms us out out' whole k d u lt lt' is h e =
    let m = get_or ms k d in
    let rest = parts_of (drop (k + 1) ms) (drop (k + 1) us) in
    let a : drop k ms ≡ m ∷ drop (k + 1) ms = drop-cons ms k d lt ∙ ap (λ j. m ∷ drop j ms) (next k) in
    let b : drop k us ≡ u ∷ drop (k + 1) us = drop-cons us k 0 lt' ∙ (ap (λ j. get_or us k 0 ∷ drop j us) (next k) ∙ ap (λ x. x ∷ drop (k + 1) us) (sym is)) in
    ap (λ xs. xs ++ rest) e ∙ (append_assoc out (part_if m u) rest
    ∙ (ap (λ xs. out ++ xs) (by_test (u == 0) (part_of m u) rest)
    ∙ (sym (ap (λ xs. out ++ parts_of (m ∷ drop (k + 1) ms) xs) b) ∙ (sym (ap (λ xs. out ++ parts_of xs (drop k us)) a) ∙ h))))
  where
    by_test : (t : Bool) (x : Part) (rest : List Part) → cond t [] (x ∷ []) ++ rest ≡ cond t rest (x ∷ rest)
    by_test true x rest = refl
    by_test false x rest = refl

pub parts_end : (ms : List Move) (us : List ℕ) (out whole : List Part) (k : ℕ) → length ms ≤ k → out ++ parts_of (drop k ms) (drop k us) ≡ whole → out ≡ whole
parts_end ms us out whole k le h = sym (append-nil out) ∙ (sym (ap (λ xs. out ++ parts_of xs (drop k us)) (drop_all k ms le)) ∙ h)
