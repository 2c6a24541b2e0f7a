-- The loops and functions of laid code fit its flow system.
use Rattle.std.proofs.Common.{◌≡◌, ◌≢◌, ◌⊎◌, ⊎_elim, inl, inr, ℕ, zero, suc, ◌+◌, ◌≤◌, ◌<◌, Bool, true, false, List, [], ◌∷◌, All, Contains, sym, ap, ◌∙◌, subst, arith}
use Rattle.std.specs.Prelude.{◌==◌, if◌then◌else◌}
use Rattle.std.proofs.lemmas.Bool.{cases_eq}
use Rattle.std.proofs.lemmas.Bool.Decides.{leb_tells, nat_tests}
use Rattle.std.proofs.lemmas.List.Elements.{All-nil, All-cons, All-head, All-tail, All-weaker, All-contains_itself}
use Rattle.rv_core.specs.Images.{Image}
use Rattle.code_flow_system.specs.declared.moves.Move.{Move}
use Rattle.code_flow_system.specs.declared.shapes.LoopShape.{LoopShape}
use Rattle.code_flow_system.specs.declared.shapes.Span.{Span}
use Rattle.code_flow_system.specs.Claims.{Claims}
use Rattle.code_flow_system.specs.Moves.{Code, code_of, moves_at, destinations}
use Rattle.code_flow_system.specs.Reach.{IsReached}
use Rattle.code_flow_system.specs.Systems.{System, moves_from, IsSystemOf}
use Rattle.code_flow_system.specs.Shapes.{AreShapesOf, IsInLoop, AreNested, AreAllNested, EntersAtHeader, IsLoop, onward, is_back, GoesUp, IsInSpan, AreApart, AreAllApart, IsInOne, StaysIn, BeginsEarlier, CallsEarlier, Fits}
use Rattle.asm_items.specs.Placings.{Placing, start_of, end_of}
use Rattle.asm_graphs.specs.Graphs.{Loop, Graph}
use Rattle.asm_graphs.specs.Laid.{IsShapeOf, IsShapeIn, AreShapes, span_of, spans_from, last_of, IsImageOf}
use Rattle.asm_graphs.proofs.WayLemmas.{one_of}
use Rattle.asm_graphs.proofs.ReachedLemmas.{IsSomeWord, reached, callee_in, moves_good}
use Rattle.asm_graphs.proofs.RangeLemmas.{Known, Well, RangesNest, known_start, in_function, one_function, block_range, latch_in, header_in, ranged, goes_into, stays_in, ranges_nest}
use Rattle.asm_graphs.proofs.BackLemmas.{jumps_back, goes_up}

all_of : {A : Type 0} (P : A → Type 0) (xs : List A) → ((x : A) → Contains xs x → P x) → All P xs
all_of P xs f = All-weaker (Contains xs) P f xs (All-contains_itself xs)

le_or : (a b : ℕ) → (a ≤ b) ⊎ (b < a)
le_or a b = ⊎_elim (λ h. inl h.1) (λ h. let k = h.1 in inr (omega arith)) (leb_tells a b)

-- a move is among those of its address
among_own : (ms : List Move) (m : Move) → Contains ms m → Contains (moves_from ms m.at) m
among_own [] m (n, lt, e) = absurd (omega arith)
among_own (x ∷ ms) m (zero, lt, e) =
    let at : x.at ≡ m.at = ap (λ (y : Move). y.at) e in
    let test : (x.at == m.at) ≡ true = grind (arith, nat_tests) in
    subst (λ b. Contains (if b then x ∷ moves_from ms m.at else moves_from ms m.at) m) (sym test) (0, omega arith, e)
among_own (x ∷ ms) m (suc n, lt, e) = by_test (x.at == m.at) (among_own ms m (n, omega arith, e))
  where
    by_test : (b : Bool) → Contains (moves_from ms m.at) m → Contains (if b then x ∷ moves_from ms m.at else moves_from ms m.at) m
    by_test true (j, less, f) = (suc j, omega arith, f)
    by_test false h = h

module _ (g : Graph) (l : Placing) (main : ℕ) (image : Image) (claims : Claims) (s : System) (here : IsImageOf g l main image claims) (sys : IsSystemOf image claims s) where
  abbrev c : Code
  c = code_of image claims

  abbrev IsHere : ℕ → Bool → ℕ → ℕ → Type 0
  IsHere a low f b = Known g l (code_of image claims) here.shaped here.laid a low f b

  abbrev IsWordAt : ℕ → Type 0
  IsWordAt a = IsSomeWord g l (code_of image claims) here.shaped here.laid a

  abbrev GoesFrom : ℕ → ℕ → ℕ → ℕ → Type 0
  GoesFrom f b a t = Well g l (code_of image claims) here.shaped here.laid f b a t

  -- each move of the system is one of a known word
  word_at : (m : Move) → Contains s.moves m → IsWordAt m.at
  word_at m has =
      let r = subst (λ e. IsReached (code_of image claims) e m.at) here.entry (sys.reached m has) in
      reached g l (code_of image claims) here.shaped here.laid main here.there r.0 m.at r.1

  own_move : (m : Move) → Contains s.moves m → Contains (moves_at (code_of image claims) m.at) m
  own_move m has = subst (λ ms. Contains ms m) (sys.own m.at (sys.reached m has)) (among_own s.moves m has)

  word_of_start : (f b : ℕ) → f < g.functions → b < g.blocks f → IsHere (start_of l f b) false f b
  word_of_start f b i j = known_start g l (code_of image claims) here.shaped here.laid f b i j

  -- loops

  nest_by : (f h : ℕ) (k m : Loop) (x y : LoopShape) → IsShapeOf l f k x → IsShapeOf l h m y → RangesNest g l (code_of image claims) here.shaped here.laid f k h m → AreNested x y
  nest_by f h k m x y p q (inl r) = let e = p.last in let d = q.first in inl (omega arith)
  nest_by f h k m x y p q (inr (inl r)) = let e = q.last in let d = p.first in inr (inl (omega arith))
  nest_by f h k m x y p q (inr (inr (inl r))) =
      let a = p.first in let b = p.last in let e = q.first in let d = q.last in let r0 = r.0 in let r1 = r.1 in
      inr (inr (inl (omega arith, omega arith)))
  nest_by f h k m x y p q (inr (inr (inr r))) =
      let a = p.first in let b = p.last in let e = q.first in let d = q.last in let r0 = r.0 in let r1 = r.1 in
      inr (inr (inr (omega arith, omega arith)))

  nest_shapes : (x y : LoopShape) → IsShapeIn g l x → IsShapeIn g l y → AreNested x y
  nest_shapes x y (f, k, i, r, p) (h, m, j, q, o) =
      nest_by f h k m x y p o (ranges_nest g l (code_of image claims) here.shaped here.laid f h k m i j r q)

  all_nested : (ls : List LoopShape) → All (IsShapeIn g l) ls → AreAllNested ls
  all_nested [] all = tt
  all_nested (x ∷ ls) all = (
    All-weaker (IsShapeIn g l) (AreNested x) (λ y it. nest_shapes x y (All-head (IsShapeIn g l) x ls all) it) ls (All-tail (IsShapeIn g l) x ls all),
    all_nested ls (All-tail (IsShapeIn g l) x ls all),
  )

  module _ (f : ℕ) (k : Loop) (x : LoopShape) (i : f < g.functions) (r : Contains (g.loops f) k) (p : IsShapeOf l f k x) where
    low_of : (a : ℕ) → IsInLoop x a → start_of l f k.header ≤ a
    low_of a h = let e = p.first in let b = h.from in omega arith

    high_of : (a : ℕ) → IsInLoop x a → a ≤ last_of l f k.latch
    high_of a h = let e = p.last in let b = h.to in omega arith

    in_loop : (a : ℕ) → start_of l f k.header ≤ a → a ≤ last_of l f k.latch → IsInLoop x a
    in_loop a h q = let e = p.first in let d = p.last in record { from = omega arith; to = omega arith }

    header_word : IsInLoop x (start_of l f k.header)
    header_word =
        let w = word_of_start f k.header i (header_in g l (code_of image claims) here.shaped here.laid f k r) in
        let b = block_range g l (code_of image claims) here.shaped here.laid (start_of l f k.header) false f k.header k.header k.latch w (omega arith) (here.shaped.range f k r) (latch_in g l (code_of image claims) here.shaped here.laid f k r) in
        in_loop (start_of l f k.header) b.0 b.1

    last_in : IsInLoop x (last_of l f k.latch)
    last_in = let h = header_word in let low = low_of (start_of l f k.header) h in let high = high_of (start_of l f k.header) h in in_loop (last_of l f k.latch) high (omega arith)

    outside : (a : ℕ) → ¬ IsInLoop x a → (a < start_of l f k.header) ⊎ (last_of l f k.latch < a)
    outside a out =
        ⊎_elim
        (λ (h : start_of l f k.header ≤ a). ⊎_elim (λ (q : a ≤ last_of l f k.latch). absurd (out (in_loop a h q))) (λ q. inr q) (le_or a (last_of l f k.latch)))
        (λ (h : a < start_of l f k.header). inl h)
        (le_or (start_of l f k.header) a)

    -- a function's first block is in no loop
    not_first : (h t : ℕ) → h < g.functions → t ≡ start_of l h 0 → IsInLoop x t → ⊥
    not_first h t j e within =
        let w = subst (λ n. IsHere n false h 0) (sym e) (word_of_start h 0 j (here.shaped.some h j)) in
        let q = ranged g l (code_of image claims) here.shaped here.laid t false h 0 f k i r w (low_of t within) (high_of t within) in
        let some = here.shaped.first f k r in
        let zero_is = q.1 in omega arith

    enters : (m : Move) → Contains s.moves m → EntersAtHeader x m
    enters m has out =
        let w = word_at m has in
        let good = moves_good g l (code_of image claims) here.shaped here.laid m.at w.low w.f w.b w.known m (own_move m has) in
        all_of (λ a. IsInLoop x a → a ≡ x.header) (destinations m) (λ a to within.
        ⊎_elim
        (λ (q : GoesFrom w.f w.b m.at a). goes_into g l (code_of image claims) here.shaped here.laid f m.at a w.low w.f w.b k i r w.known q (low_of a within) (high_of a within) (outside m.at out) ∙ sym p.header)
        (λ q. absurd (not_first q.0 a (callee_in g l (code_of image claims) here.shaped here.laid w.f q.0 w.known.function q.1) q.2 within))
        (good.arrives a to))

    goes_back : (m : Move) → Contains s.moves m → m.at ≡ x.back → destinations m ≡ x.header ∷ []
    goes_back m has e =
        let at : m.at ≡ last_of l f k.latch = e ∙ p.back in
        let b = jumps_back g l (code_of image claims) here.shaped here.laid f k i r in
        let own = subst (λ ms. Contains ms m) (ap (moves_at (code_of image claims)) at ∙ b.1) (own_move m has) in
        ap destinations (sym (one_of _ m own)) ∙ ap (λ a. a ∷ []) (sym p.header)

    is_loop : IsLoop s x
    is_loop = record {
      header = subst (IsInLoop x) (sym p.header) header_word;
      back = subst (IsInLoop x) (sym p.back) last_in;
      entry = λ within. absurd (not_first main s.entry here.there (sys.same_entry ∙ here.entry) within);
      goes_back = all_of (λ m. m.at ≡ x.back → destinations m ≡ x.header ∷ []) s.moves goes_back;
      entered = all_of (EntersAtHeader x) s.moves enters;
    }

  up_move : (ls : List LoopShape) → AreShapes g l ls → (m : Move) → Contains s.moves m → GoesUp ls m
  up_move ls shapes m has not_back =
      let w = word_at m has in
      all_of (λ a. m.at < a) (onward m) (λ a on.
      ⊎_elim
      (λ (up : m.at < a). up)
      (λ z. let e = sym not_back ∙ ap (is_back ls) z.2 ∙ shapes.every w.f z.0 w.known.function z.1 in cc)
      (goes_up g l (code_of image claims) here.shaped here.laid m.at a w.low w.f w.b m w.known (own_move m has) on))

  -- functions

  all_spans : (P : Span → Type 0) (f n : ℕ) → ((h : ℕ) → f ≤ h → h < f + n → P (span_of l h)) → All P (spans_from l f n)
  all_spans P f zero each = All-nil P
  all_spans P f (suc n) each =
      All-cons P (span_of l f) (spans_from l (suc f) n) (each f (omega arith) (omega arith)) (all_spans P (suc f) n (λ h from below. each h (omega arith) (omega arith)))

  apart_spans : (f h : ℕ) → f ≢ h → f < g.functions → h < g.functions → AreApart (span_of l f) (span_of l h)
  apart_spans f h d i j a p q =
      let p0 = p.from in let p1 = p.below in let q0 = q.from in let q1 = q.below in
      ⊎_elim (λ (z : end_of l f ≤ start_of l h 0). let y : ⊥ = omega arith in y) (λ (z : end_of l h ≤ start_of l f 0). let y : ⊥ = omega arith in y) (here.laid.apart f h d i j)

  all_apart : (f n : ℕ) → f + n ≤ g.functions → AreAllApart (spans_from l f n)
  all_apart f zero room = tt
  all_apart f (suc n) room = (
    all_spans (AreApart (span_of l f)) (suc f) n (λ h from below. apart_spans f h (λ e. omega arith) (omega arith) (omega arith)),
    all_apart (suc f) n (omega arith),
  )

  in_span : (h a : ℕ) → (start_of l h 0 ≤ a) × (a < end_of l h) → IsInSpan (span_of l h) a
  in_span h a r = record { from = r.0; below = r.1 }

  in_one : (f n h a : ℕ) → f ≤ h → h < f + n → IsInSpan (span_of l h) a → IsInOne (spans_from l f n) a
  in_one f zero h a from below within = absurd (omega arith)
  in_one f (suc n) h a from below within =
      ⊎_elim
      (λ (e : f ≡ h). inl (subst (λ x. IsInSpan (span_of l x) a) (sym e) within))
      (λ (d : f ≢ h). inr (in_one (suc f) n h a (omega arith) (omega arith) within))
      (cases_eq f h)

  span_at : (m : Move) (w : IsWordAt m.at) → IsInSpan (span_of l w.f) m.at
  span_at m w = in_span w.f m.at (in_function g l (code_of image claims) here.shaped here.laid m.at w.low w.f w.b w.known)

  stays_move : (m : Move) → Contains s.moves m → All (StaysIn m) (spans_from l 0 g.functions)
  stays_move m has =
      let w = word_at m has in
      let own = span_at m w in
      let good = moves_good g l (code_of image claims) here.shaped here.laid m.at w.low w.f w.b w.known m (own_move m has) in
      all_spans (StaysIn m) 0 g.functions (λ h from below within.
      let same : w.f ≡ h = one_function g l (code_of image claims) here.shaped here.laid m.at w.f h w.known.function (omega arith) own.from own.below within.from within.below in
      all_of (IsInSpan (span_of l h)) (onward m) (λ a on.
      subst (λ x. IsInSpan (span_of l x) a) same (in_span w.f a (stays_in g l (code_of image claims) here.shaped here.laid m.at a w.low w.f w.b w.known (good.onward a on)))))

  begins : (f n callee h target a : ℕ) → f ≤ callee → callee < h → h < f + n → target ≡ start_of l callee 0 → IsInSpan (span_of l h) a → BeginsEarlier (spans_from l f n) target a
  begins f zero callee h target a from less below e within = absurd (omega arith)
  begins f (suc n) callee h target a from less below e within =
      ⊎_elim
      (λ (same : f ≡ callee). inl (ap (λ x. start_of l x 0) same ∙ sym e, in_one (suc f) n h a (omega arith) (omega arith) within))
      (λ (d : f ≢ callee). inr (begins (suc f) n callee h target a (omega arith) less (omega arith) e within))
      (cases_eq f callee)

  calls_move : (m : Move) → Contains s.moves m → CallsEarlier (spans_from l 0 g.functions) m
  calls_move m has target back to behind =
      let w = word_at m has in
      let good = moves_good g l (code_of image claims) here.shaped here.laid m.at w.low w.f w.b w.known m (own_move m has) in
      let q = good.calls target back to behind in
      let less = here.shaped.falls w.f q.0 q.1 in
      let in_all = w.known.function in
      begins 0 g.functions q.0 w.f target m.at (omega arith) less (omega arith) q.2 (span_at m w)

  pub fits : (ls : List LoopShape) → AreShapesOf claims.loops ls → AreShapes g l ls → Fits s ls (spans_from l 0 g.functions)
  fits ls of shapes = record {
    shapes = subst (λ (d : Claims). AreShapesOf d.loops ls) (sym sys.same_claims) of;
    nested = all_nested ls shapes.each;
    loops = All-weaker (IsShapeIn g l) (IsLoop s) (λ x it. is_loop it.0 it.1 x it.2 it.3 it.4) ls shapes.each;
    up = all_of (GoesUp ls) s.moves (up_move ls shapes);
    apart = all_apart 0 g.functions (omega arith);
    covered = all_of (λ m. IsInOne (spans_from l 0 g.functions) m.at) s.moves (λ m has. let w = word_at m has in let i = w.known.function in in_one 0 g.functions w.f m.at (omega arith) (omega arith) (span_at m w));
    stays = all_of (λ m. All (StaysIn m) (spans_from l 0 g.functions)) s.moves stays_move;
    calls = all_of (CallsEarlier (spans_from l 0 g.functions)) s.moves calls_move;
  }
