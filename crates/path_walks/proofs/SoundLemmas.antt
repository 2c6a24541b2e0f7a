-- Claims that aren't bad by themselves ascend, and so do the loops that they are of.
use Rattle.std.proofs.Common.{◌≡◌, ℕ, suc, ◌<◌, arith, refl, ap, subst, sym, length, List, [], ◌∷◌, ◌++◌, All, Bool, true, false, Option, Some, None}
use Rattle.std.specs.Prelude.{◌&&◌, not, nat_lt}
use Rattle.std.proofs.lemmas.Bool.Decides.{nat_tests}
use Rattle.std.proofs.lemmas.List.Elements.{All-head, All-tail, All-cons, All-nil, All-weaker}
use Rattle.code_flow_system.specs.declared.claims.Never.{Never}
use Rattle.code_flow_system.specs.declared.claims.LoopClaim.{LoopClaim}
use Rattle.code_flow_system.specs.declared.shapes.LoopShape.{LoopShape}
use Rattle.code_flow_system.specs.Claims.{Claims, is_aligned, exit_flaws, never_flaws, region_flaws, loop_flaws, fact_flaws, AreSound}
use Rattle.code_flow_system.specs.Shapes.{AreShapesOf}
use Rattle.path_walks.specs.Opens.{AddressesRise}

abbrev AreFalse : List Bool → Type 0
AreFalse ts = All (λ t. t ≡ false) ts

left_part : (xs ys : List Bool) → AreFalse (xs ++ ys) → AreFalse xs
left_part [] ys h = All-nil (λ t. t ≡ false)
left_part (x ∷ xs) ys h = All-cons (λ t. t ≡ false) x xs (All-head (λ t. t ≡ false) x (xs ++ ys) h) (left_part xs ys (All-tail (λ t. t ≡ false) x (xs ++ ys) h))

right_part : (xs ys : List Bool) → AreFalse (xs ++ ys) → AreFalse ys
right_part [] ys h = h
right_part (x ∷ xs) ys h = right_part xs ys (All-tail (λ t. t ≡ false) x (xs ++ ys) h)

-- above the line before, by the last of some tests
above : (x y : ℕ) (a : Bool) → not (a && nat_lt x y) ≡ false → x < y
above x y true e = grind (arith, nat_tests)
above x y false e = cc

above_both : (x y : ℕ) (a b : Bool) → not (a && (b && nat_lt x y)) ≡ false → x < y
above_both x y true b e = above x y b e
above_both x y false b e = cc

nevers_above : (x : ℕ) (cs : List Never) → AreFalse (never_flaws (Some x) cs) → All (λ (d : Never). x < d.at) cs
nevers_above x [] h = All-nil (λ (d : Never). x < d.at)
nevers_above x (c ∷ cs) h =
    let lt = above x c.at (is_aligned c.at) (All-head (λ t. t ≡ false) _ (never_flaws (Some c.at) cs) h) in
    All-cons (λ (d : Never). x < d.at) c cs lt (All-weaker (λ (d : Never). c.at < d.at) (λ (d : Never). x < d.at) (λ d k. omega (arith, k, lt)) cs (nevers_above c.at cs (All-tail (λ t. t ≡ false) _ (never_flaws (Some c.at) cs) h)))

nevers_ascend : (o : Option ℕ) (cs : List Never) → AreFalse (never_flaws o cs) → AddressesRise (λ (c : Never). c.at) cs
nevers_ascend o [] h = tt
nevers_ascend o (c ∷ cs) h = let t = All-tail (λ t. t ≡ false) _ (never_flaws (Some c.at) cs) h in (nevers_above c.at cs t, nevers_ascend (Some c.at) cs t)

loops_above : (x : ℕ) (cs : List LoopClaim) → AreFalse (loop_flaws (Some x) cs) → All (λ (d : LoopClaim). x < d.header) cs
loops_above x [] h = All-nil (λ (d : LoopClaim). x < d.header)
loops_above x (c ∷ cs) h =
    let lt = above_both x c.header (is_aligned c.header) (is_aligned c.back) (All-head (λ t. t ≡ false) _ (loop_flaws (Some c.header) cs) h) in
    All-cons (λ (d : LoopClaim). x < d.header) c cs lt (All-weaker (λ (d : LoopClaim). c.header < d.header) (λ (d : LoopClaim). x < d.header) (λ d k. omega (arith, k, lt)) cs (loops_above c.header cs (All-tail (λ t. t ≡ false) _ (loop_flaws (Some c.header) cs) h)))

loops_ascend : (o : Option ℕ) (cs : List LoopClaim) → AreFalse (loop_flaws o cs) → AddressesRise (λ (c : LoopClaim). c.header) cs
loops_ascend o [] h = tt
loops_ascend o (c ∷ cs) h = let t = All-tail (λ t. t ≡ false) _ (loop_flaws (Some c.header) cs) h in (loops_above c.header cs t, loops_ascend (Some c.header) cs t)

pub nevers_rise : (c : Claims) → AreSound c → AddressesRise (λ (d : Never). d.at) c.nevers
nevers_rise c h =
    let a = right_part (exit_flaws None c.exits) (never_flaws None c.nevers ++ (region_flaws None c.regions ++ (loop_flaws None c.loops ++ fact_flaws c.facts))) h in
    nevers_ascend None c.nevers (left_part (never_flaws None c.nevers) (region_flaws None c.regions ++ (loop_flaws None c.loops ++ fact_flaws c.facts)) a)

pub loops_rise : (c : Claims) → AreSound c → AddressesRise (λ (d : LoopClaim). d.header) c.loops
loops_rise c h =
    let a = right_part (exit_flaws None c.exits) (never_flaws None c.nevers ++ (region_flaws None c.regions ++ (loop_flaws None c.loops ++ fact_flaws c.facts))) h in
    let b = right_part (never_flaws None c.nevers) (region_flaws None c.regions ++ (loop_flaws None c.loops ++ fact_flaws c.facts)) a in
    let d = right_part (region_flaws None c.regions) (loop_flaws None c.loops ++ fact_flaws c.facts) b in
    loops_ascend None c.loops (left_part (loop_flaws None c.loops) (fact_flaws c.facts) d)

-- shapes have the headers of their claims

heads_above : (x : ℕ) (cs : List LoopClaim) (ls : List LoopShape) → AreShapesOf cs ls → All (λ (d : LoopClaim). x < d.header) cs → All (λ (l : LoopShape). x < l.header) ls
heads_above x [] [] s h = All-nil (λ (l : LoopShape). x < l.header)
heads_above x [] (l ∷ ls) s h = absurd s
heads_above x (c ∷ cs) [] s h = absurd s
heads_above x (c ∷ cs) (l ∷ ls) s h = All-cons (λ (k : LoopShape). x < k.header) l ls (let e = s.0 in let lt = All-head (λ (d : LoopClaim). x < d.header) c cs h in omega (arith, e, lt)) (heads_above x cs ls s.2 (All-tail (λ (d : LoopClaim). x < d.header) c cs h))

heads_rise : (cs : List LoopClaim) (ls : List LoopShape) → AreShapesOf cs ls → AddressesRise (λ (d : LoopClaim). d.header) cs → AddressesRise (λ (l : LoopShape). l.header) ls
heads_rise [] [] s h = tt
heads_rise [] (l ∷ ls) s h = absurd s
heads_rise (c ∷ cs) [] s h = absurd s
heads_rise (c ∷ cs) (l ∷ ls) s h = (subst (λ x. All (λ (k : LoopShape). x < k.header) ls) (sym s.0) (heads_above c.header cs ls s.2 h.0), heads_rise cs ls s.2 h.1)

pub shapes_rise : (c : Claims) (ls : List LoopShape) → AreSound c → AreShapesOf c.loops ls → AddressesRise (λ (l : LoopShape). l.header) ls
shapes_rise c ls h s = heads_rise c.loops ls s (loops_rise c h)

pub shapes-long : (cs : List LoopClaim) (ls : List LoopShape) → AreShapesOf cs ls → length ls ≡ length cs
shapes-long [] [] s = refl
shapes-long [] (l ∷ ls) s = absurd s
shapes-long (c ∷ cs) [] s = absurd s
shapes-long (c ∷ cs) (l ∷ ls) s = ap suc (shapes-long cs ls s.2)
