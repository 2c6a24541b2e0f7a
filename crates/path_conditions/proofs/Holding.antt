-- What the conditions of a search give: bounds of loops that are short, and jumps back that are free.
use Rattle.std.proofs.Common.{◌≡◌, zero, suc, arith, refl, sym, ap, ◌∙◌, List, [], ◌∷◌, Contains, All}
use Rattle.std.proofs.lemmas.List.Elements.{All-cons, All-contains, All-head, All-nil, All-tail}
use Rattle.code_flow_system.specs.declared.claims.LoopClaim.{LoopClaim}
use Rattle.code_flow_system.specs.declared.shapes.LoopShape.{LoopShape}
use Rattle.code_flow_system.specs.Systems.{System}
use Rattle.code_flow_system.specs.Shapes.{AreShapesOf}
use Rattle.path_fit.specs.Loops.{HeadsOwnLoop}
use Rattle.path_places.proofs.HeaderLemmas.{back_of}
use Rattle.path_flows.specs.CountLaws.{BacksAreFree, HasBounds}
use Rattle.path_ranges.specs.Limits.{IsLoopWithin}
use Rattle.path_ranges.specs.Narrow.{HasShortBounds}

pub within_all : (cs : List LoopClaim) → All HasBounds cs → All HasShortBounds cs → All IsLoopWithin cs
within_all [] h k = All-nil IsLoopWithin
within_all (c ∷ cs) h k = All-cons IsLoopWithin c cs (All-head HasBounds c cs h, (All-head HasShortBounds c cs k).0) (within_all cs (All-tail HasBounds c cs h) (All-tail HasShortBounds c cs k))

shape_of : (cs : List LoopClaim) (ls : List LoopShape) → AreShapesOf cs ls → (c : LoopClaim) → Contains cs c → (l : LoopShape) × Contains ls l × (l.header ≡ c.header) × (l.back ≡ c.back)
shape_of [] ls are c (i, lt, e) = absurd (omega (arith, lt))
shape_of (d ∷ cs) [] are c i = absurd are
shape_of (d ∷ cs) (l ∷ ls) are c (zero, lt, e) = (l, (zero, omega arith, refl), are.0 ∙ ap (λ (x : LoopClaim). x.header) e, are.1 ∙ ap (λ (x : LoopClaim). x.back) e)
shape_of (d ∷ cs) (l ∷ ls) are c (suc i, lt, e) = later (shape_of cs ls are.2 c (i, omega (arith, lt), e))
  where
    later : ((k : LoopShape) × Contains ls k × (k.header ≡ c.header) × (k.back ≡ c.back)) → (k : LoopShape) × Contains (l ∷ ls) k × (k.header ≡ c.header) × (k.back ≡ c.back)
    later r = (r.0, (suc r.1.0, omega (arith, r.1.1), r.1.2), r.2, r.3)

pub backs_free : (s : System) (ls : List LoopShape) → AreShapesOf s.claims.loops ls → All (λ (l : LoopShape). HeadsOwnLoop ls l.back) ls → BacksAreFree s ls
backs_free s ls are apart c ic back other =
    let k = back_of ls c.header back in
    let l = shape_of s.claims.loops ls are c ic in
    let own : HeadsOwnLoop ls k.0.back = All-contains (λ (x : LoopShape). HeadsOwnLoop ls x.back) ls k.0 apart k.1 in
    let e : l.0.back ≡ k.0.back = All-contains (λ (x : LoopShape). x.header ≡ k.0.back → x.back ≡ k.0.back) ls l.0 own l.1 (l.2 ∙ sym k.2) in
    absurd (other (sym l.3 ∙ (e ∙ k.2)))
