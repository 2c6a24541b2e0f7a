-- The shapes of loop claims are those of the loops of the graph.
use Rattle.std.proofs.Common.{◌≡◌, ℕ, zero, suc, ◌<◌, Bool, true, false, List, [], ◌∷◌, length, map, refl, ap, ◌∙◌, subst, arith, Contains}
use Rattle.std.specs.Prelude.{◌==◌, ◌||◌, All, slice_index_or}
use Rattle.std.proofs.lemmas.Bool.Decides.{nat_tests}
use Rattle.std.proofs.lemmas.List.Elements.{All-cons, All-head, All-nil, All-tail}
use Rattle.rv_core.specs.Images.{Image}
use Rattle.code_flow_system.specs.declared.claims.LoopClaim.{LoopClaim}
use Rattle.code_flow_system.specs.declared.shapes.LoopShape.{LoopShape}
use Rattle.code_flow_system.specs.Shapes.{AreShapesOf, Fits, is_back}
use Rattle.code_flow_system.specs.Systems.{System, IsSystemOf}
use Rattle.asm_graphs.specs.Graphs.{Graph}
use Rattle.asm_graphs.specs.Graphs as graphs
use Rattle.asm_graphs.specs.Laid.{AreShapes, IsImageOf, IsShapeIn, last_of, spans_from}
use Rattle.asm_graphs.proofs.FittingLemmas.{fits}
use Rattle.asm_program.specs.Functions.{function_in, graph_of, loop_of}
use Rattle.asm_program.proofs.GraphLemmas.{in_map, with_loops}
use Rattle.claims_definition.specs.ClaimLaws.{IsClaimOf, IsSettled}
use Rattle.claims_definition.specs.Listed.{Laid, claims_of, loop_claim, loops_of, placing}
use Rattle.claims_definition.proofs.Claimed.{are_claims}
use Rattle.claims_definition.specs.Shapes.{AreShaped, IsShape}

contains_map : {A B : Type 0} (f : A → B) (xs : List A) (x : A) (n : ℕ) → n < length xs → slice_index_or xs n x ≡ x → Contains (map f xs) (f x)
contains_map f [] x n low e = absurd (omega (arith, low))
contains_map f (y ∷ xs) x zero low e = (0, omega arith, ap f e)
contains_map f (y ∷ xs) x (suc n) low e = let r = contains_map f xs x n (omega (arith, low)) e in let at = r.1 in (suc r.0, omega (arith, at), r.2)

in_order : (cs : List LoopClaim) (ss : List LoopShape) → AreShaped cs ss → AreShapesOf cs ss
in_order [] [] h = tt
in_order [] (s ∷ ss) h = absurd h
in_order (c ∷ cs) [] h = absurd h
in_order (c ∷ cs) (s ∷ ss) h = let k = h.0 in (k.header, k.back, in_order cs ss h.1)

either : (a b : Bool) → b ≡ true → (a || b) ≡ true
either true b e = refl
either false b e = e

back_there : (cs : List LoopClaim) (ss : List LoopShape) (c : LoopClaim) (n : ℕ) → AreShaped cs ss → n < length cs → slice_index_or cs n c ≡ c → is_back ss c.back ≡ true
back_there [] ss c n h low e = absurd (omega (arith, low))
back_there (x ∷ cs) [] c n h low e = absurd h
back_there (x ∷ cs) (s ∷ ss) c zero h low e =
    let k = h.0 in
    let same : s.back ≡ c.back = k.back ∙ ap (λ (y : LoopClaim). y.back) e in
    let test : (s.back == c.back) ≡ true = grind (arith, nat_tests, same) in
    ap (λ b. b || is_back ss c.back) test
back_there (x ∷ cs) (s ∷ ss) c (suc n) h low e = either (s.back == c.back) (is_back ss c.back) (back_there cs ss c n h.1 (omega (arith, low)) e)

module _ (l : Laid) (is : IsSettled l) where
  abbrev g : Graph
  g = graph_of l.memory l.program

  one_shape : (c : LoopClaim) (s : LoopShape) → IsClaimOf l c → IsShape c s → IsShapeIn g (placing l) s
  one_shape c s h k =
      let f = h.function in
      let low = with_loops l.memory l.program is.program f h.loop h.there in
      let header : c.header ≡ (loop_claim l f h.loop).header = ap (λ (y : LoopClaim). y.header) h.is in
      let back : c.back ≡ (loop_claim l f h.loop).back = ap (λ (y : LoopClaim). y.back) h.is in
      (f, loop_of h.loop, omega (arith, low), contains_map loop_of (function_in l.program f).loops h.loop h.there.0 h.there.1 h.there.2, record { header = k.header ∙ header; back = k.back ∙ back; first = k.first ∙ header; last = k.last ∙ back })

  each_shape : (cs : List LoopClaim) (ss : List LoopShape) → All (IsClaimOf l) cs → AreShaped cs ss → All (IsShapeIn g (placing l)) ss
  each_shape [] [] all h = All-nil (IsShapeIn g (placing l))
  each_shape [] (s ∷ ss) all h = absurd h
  each_shape (c ∷ cs) [] all h = absurd h
  each_shape (c ∷ cs) (s ∷ ss) all h =
      All-cons (IsShapeIn g (placing l)) s ss (one_shape c s (All-head (IsClaimOf l) c cs all) h.0) (each_shape cs ss (All-tail (IsClaimOf l) c cs all) h.1)

  are_shapes : (ss : List LoopShape) → AreShaped (loops_of l) ss → AreShapes g (placing l) ss
  are_shapes ss h =
      let claimed = are_claims l is in
      record {
        each = each_shape (loops_of l) ss claimed.each h;
        every = λ f k there has.
            let r = in_map loop_of (function_in l.program f).loops k has in
            let c = claimed.every f r.0 r.1 in
            let at : last_of (placing l) f r.0.latch ≡ last_of (placing l) f k.latch = ap (λ (y : graphs.Loop). last_of (placing l) f y.latch) r.2 in
            subst (λ a. is_back ss a ≡ true) at (back_there (loops_of l) ss (loop_claim l f r.0) c.0 h c.1 c.2);
      }

  pub claims_fit : (main : ℕ) (image : Image) (s : System) (ss : List LoopShape) → IsImageOf g (placing l) main image (claims_of l) → IsSystemOf image (claims_of l) s → AreShaped (claims_of l).loops ss → Fits s ss (spans_from (placing l) 0 (suc (length l.program.functions)))
  claims_fit main image s ss here sys h = fits g (placing l) main image (claims_of l) s here sys ss (in_order (loops_of l) ss h) (are_shapes ss h)
