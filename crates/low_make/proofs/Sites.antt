-- Which arrays calls pass, one call after another.
use Rattle.std.proofs.Common.{◌≡◌, ℕ, zero, suc, ◌+◌, ◌<◌, ◌≤◌, List, [], ◌∷◌, ◌++◌, map, length, get_or, set, take, drop, refl, sym, ap, ◌∙◌, subst, arith, add-one}
use Rattle.std.proofs.Math.ListN.{drop_of_length-le}
use Rattle.std.proofs.lemmas.List.{append-nil, get_or-map, length-map, map-set, take_all}
use Rattle.high_ir.specs.declared.object.Base.{Base}
use Rattle.std.specs.Prelude.{Vec}
use Rattle.std.specs.Global.{Global}
use Rattle.low_ir.specs.View.{claim_of}
use Rattle.low_make.specs.View.{claims_of}
use Rattle.lower_definition.specs.Calls.{Passed, Site, at_site, at_sites, meant, noted, passed_to}

pub at_sites_append : (objects : ℕ) (own : List (List ℕ)) (passed : Passed) (xs ys : List Site) → at_sites objects own passed (xs ++ ys) ≡ at_sites objects own (at_sites objects own passed xs) ys
at_sites_append objects own passed [] ys = refl
at_sites_append objects own passed (x ∷ xs) ys = at_sites_append objects own (at_site objects own passed x) xs ys

pub noted_append : (claim xs ys : List ℕ) → noted claim (xs ++ ys) ≡ noted (noted claim xs) ys
noted_append claim [] ys = refl
noted_append claim (x ∷ xs) ys = noted_append (noted claim (x ∷ [])) xs ys

-- one parameter more
pub one_passed : (objects : ℕ) (own : List (List ℕ)) (arrays : List Base) (cs : List (List ℕ)) (i : ℕ) (b : Base) → i < length arrays → i < length cs → b ≡ get_or arrays i b →
    let ds = set cs i (noted (get_or cs i []) (meant objects own b)) in
    take (i + 1) ds ++ passed_to objects own (drop (i + 1) arrays) (drop (i + 1) ds) ≡ take i cs ++ passed_to objects own (drop i arrays) (drop i cs)
one_passed objects own arrays cs i b within there is = subst (λ (n : ℕ). let ds = set cs i (noted (get_or cs i []) (meant objects own b)) in take n ds ++ passed_to objects own (drop n arrays) (drop n ds) ≡ take i cs ++ passed_to objects own (drop i arrays) (drop i cs)) (sym (add-one i)) (by_cases arrays cs i within there is)
  where
    by_cases : (arrays : List Base) (cs : List (List ℕ)) (i : ℕ) → i < length arrays → i < length cs → b ≡ get_or arrays i b →
        (let ds = set cs i (noted (get_or cs i []) (meant objects own b)) in take (suc i) ds ++ passed_to objects own (drop (suc i) arrays) (drop (suc i) ds) ≡ take i cs ++ passed_to objects own (drop i arrays) (drop i cs))
    by_cases [] cs i within there is = absurd (omega arith)
    by_cases (a ∷ others) [] i within there is = absurd (omega arith)
    by_cases (a ∷ others) (c ∷ cs) zero within there is = ap (λ x. noted c (meant objects own x) ∷ passed_to objects own others cs) is
    by_cases (a ∷ others) (c ∷ cs) (suc i) within there is = ap (λ x. c ∷ x) (by_cases others cs i (omega (arith, within)) (omega (arith, there)) is)

passed_to_none : (objects : ℕ) (own : List (List ℕ)) (arrays : List Base) → passed_to objects own arrays [] ≡ []
passed_to_none objects own [] = refl
passed_to_none objects own (b ∷ bs) = refl

-- no parameter is left
pub none_passed_more : (objects : ℕ) (own : List (List ℕ)) (arrays : List Base) (cs : List (List ℕ)) (i : ℕ) → length cs ≤ i → take i cs ++ passed_to objects own (drop i arrays) (drop i cs) ≡ cs
none_passed_more objects own arrays cs i over =
    ap (λ l. take i cs ++ passed_to objects own (drop i arrays) l) (drop_of_length-le cs over)
    ∙ ap (λ l. take i cs ++ l) (passed_to_none objects own (drop i arrays))
    ∙ append-nil (take i cs)
    ∙ take_all i cs over

-- an element is replaced, as a view has it
pub view_set : {A B : Type 0} (view : A → B) (xs : List A) (i : ℕ) (x new : A) (change : B → B) (d : B) → i < length xs → x ≡ get_or xs i x → view new ≡ change (view x) → map view (set xs i new) ≡ set (map view xs) i (change (get_or (map view xs) i d))
view_set view xs i x new change d lt is made =
    map-set view xs i new
    ∙ ap (set (map view xs) i) (made ∙ ap change (ap view is ∙ sym (get_or-map view xs i x d lt)))

-- one parameter more, whose array is in the claim now
pub parameter_passed : (objects : ℕ) (own : List (List ℕ)) (arrays : List Base) (claims now : List (Vec ℕ Global)) (i : ℕ) (claim new : Vec ℕ Global) (b : Base) → i < length arrays → i < length claims → claim ≡ get_or claims i claim → b ≡ get_or arrays i b →
    now ≡ set claims i new → new.items ≡ noted claim.items (meant objects own b) →
    take (i + 1) (claims_of now) ++ passed_to objects own (drop (i + 1) arrays) (drop (i + 1) (claims_of now)) ≡ take i (claims_of claims) ++ passed_to objects own (drop i arrays) (drop i (claims_of claims))
parameter_passed objects own arrays claims now i claim new b within there is named replaced made =
    let cs = claims_of claims in
    let inside : i < length cs = subst (λ n. i < n) (sym (length-map claims claim_of)) there in
    ap (λ ds. take (i + 1) ds ++ passed_to objects own (drop (i + 1) arrays) (drop (i + 1) ds))
    (ap claims_of replaced ∙ view_set claim_of claims i claim new (λ l. noted l (meant objects own b)) [] there is made)
    ∙ one_passed objects own arrays cs i b within inside named
