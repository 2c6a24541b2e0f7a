-- Claims and functions by their numbers.
use Rattle.std.proofs.Common.{◌≡◌, ℕ, zero, suc, ◌+◌, ◌<◌, true, List, [], ◌∷◌, ◌++◌, length, replicate, Some, refl, sym, ap, ◌∙◌, subst, arith, append_assoc, length-append}
use Rattle.std.specs.Prelude.{reverse, slice_get, slice_index_or}
use Rattle.std.specs.List.{flat_map}
use Rattle.std.proofs.lemmas.List.{get_or-append-add, get_or-map, get_or_append_left, length-replicate}
use Rattle.std.proofs.lemmas.List.Concat.{flat_map-cons}
use Rattle.std.proofs.lemmas.Option.{same_Some, slice_get_within, get_or_from_slice_get}
use Rattle.high_ir.specs.Tree.{Function, Program}
use Rattle.low_ir.specs.Code as code
use Rattle.low_ir.specs.Code.{Note}
use Rattle.low_ir.specs.Effects.{is_member}
use Rattle.lower_definition.specs.Calls.{Passed, all_passed, claims_among, none_passed, numbered, order}
use Rattle.lower_definition.specs.Programs.{lowered_function, lowered_functions, lowered_in, scope_of}
use Rattle.lower_origins.proofs.Members.{member_first, member_more}
use Rattle.lower_origins.specs.Closed.{listed}
use Rattle.lower_origins.proofs.Closing.{functions_grow}

pub length-numbered : (n : ℕ) (cs : List (List ℕ)) → length (numbered n cs) ≡ length cs
length-numbered n [] = refl
length-numbered n ([] ∷ cs) = ap suc (length-numbered n cs)
length-numbered n ((o ∷ os) ∷ cs) = ap suc (length-numbered (suc n) cs)

-- a claim of a parameter is its list
pub record IsNumber (n : ℕ) (cs : List (List ℕ)) (j c : ℕ) : Type 0 where
  pub place : ℕ
  pub is : c ≡ n + place
  pub inside : place < length (claims_among cs)
  pub same : slice_index_or (claims_among cs) place [] ≡ slice_index_or cs j []

pub number_of : (n : ℕ) (cs : List (List ℕ)) (j c : ℕ) → slice_get (numbered n cs) j ≡ Some (Some c) → IsNumber n cs j c
number_of n [] j c e = cc
number_of n ([] ∷ cs) zero c e = cc
number_of n ([] ∷ cs) (suc j) c e = let h = number_of n cs j c e in record { place = h.place; is = h.is; inside = h.inside; same = h.same }
number_of n ((o ∷ os) ∷ cs) zero c e =
    let same : n ≡ c = same_Some n c (same_Some (Some n) (Some c) e) in
    record { place = 0; is = omega (arith, same); inside = omega arith; same = refl }
number_of n ((o ∷ os) ∷ cs) (suc j) c e =
    let h = number_of (suc n) cs j c e in
    let is = h.is in
    let low = h.inside in
    record { place = suc h.place; is = omega (arith, is); inside = omega (arith, low); same = h.same }

-- a parameter for which something is passed has a claim
pub record HasNumber (n : ℕ) (cs : List (List ℕ)) (j : ℕ) : Type 0 where
  pub claim : ℕ
  pub is : slice_get (numbered n cs) j ≡ Some (Some claim)

pub has_number : (n : ℕ) (cs : List (List ℕ)) (j o : ℕ) → is_member (slice_index_or cs j []) o ≡ true → HasNumber n cs j
has_number n [] j o e = cc
has_number n ([] ∷ cs) zero o e = cc
has_number n ([] ∷ cs) (suc j) o e = let h = has_number n cs j o e in record { claim = h.claim; is = h.is }
has_number n ((x ∷ xs) ∷ cs) zero o e = record { claim = n; is = refl }
has_number n ((x ∷ xs) ∷ cs) (suc j) o e = let h = has_number (suc n) cs j o e in record { claim = h.claim; is = h.is }

module _ (p : Program) (passed : Passed) where
  abbrev claims_of : List ℕ → List (List ℕ)
  claims_of gs = flat_map (λ f. claims_among (listed passed f)) gs

  -- each of some functions is in the program
  abbrev pub AllThere : List ℕ → Type 0
  AllThere [] = Unit {0}
  AllThere (g ∷ gs) = ((h : Function) × (slice_get p.functions g ≡ Some h)) × AllThere gs

  -- a function of the low program, and its claims
  pub record Stood (all : List (List ℕ)) (functions : List (code.Function ℕ Note)) (i f : ℕ) (h : Function) : Type 0 where
    pub number : ℕ
    pub function : slice_get functions i ≡ Some (lowered_function (scope_of p passed h (numbered number (listed passed f))) f h)
    pub claims : (k : ℕ) → k < length (claims_among (listed passed f)) → slice_index_or all (number + k) [] ≡ slice_index_or (claims_among (listed passed f)) k []

  pub stood : (gs : List ℕ) (pre : List (List ℕ)) (n i f : ℕ) (h : Function) → AllThere gs → length pre ≡ n → slice_get gs i ≡ Some f → slice_get p.functions f ≡ Some h → Stood (pre ++ claims_of gs) (lowered_functions p passed n gs) i f h
  stood [] pre n i f h all size e there = cc
  stood (g ∷ gs) pre n zero f h all size e there =
      let same : g ≡ f = same_Some g f e in
      let own = claims_among (listed passed g) in
      let rest = lowered_functions p passed (n + length own) gs in
      let got : slice_get p.functions g ≡ Some h = ap (slice_get p.functions) same ∙ there in
      subst (λ x. Stood (pre ++ claims_of (g ∷ gs)) (lowered_functions p passed n (g ∷ gs)) 0 x h) same (record {
        number = n;
        function = ap (λ o. slice_get (lowered_in p passed n g o ++ rest) 0) got;
        claims = λ k low.
            ap (λ xs. slice_index_or (pre ++ xs) (n + k) []) (flat_map-cons (λ f. claims_among (listed passed f)) g gs)
            ∙ ap (λ m. slice_index_or (pre ++ (own ++ claims_of gs)) (m + k) []) (sym size)
            ∙ get_or-append-add pre (own ++ claims_of gs) k []
            ∙ get_or_append_left own (claims_of gs) [] k low;
      })
  stood (g ∷ gs) pre n (suc i) f h all size e there =
      let own = claims_among (listed passed g) in
      let m = n + length own in
      let rest = lowered_functions p passed m gs in
      let total : length (pre ++ own) ≡ m = length-append pre own ∙ ap (λ k. k + length own) size in
      let s = stood gs (pre ++ own) m i f h all.1 total e there in
      let same : (pre ++ own) ++ claims_of gs ≡ pre ++ claims_of (g ∷ gs) = append_assoc pre own (claims_of gs) ∙ ap (λ xs. pre ++ xs) (sym (flat_map-cons (λ f. claims_among (listed passed f)) g gs)) in
      record {
        number = s.number;
        function = ap (λ o. slice_get (lowered_in p passed n g o ++ rest) (suc i)) all.0.1 ∙ s.function;
        claims = λ k low. ap (λ xs. slice_index_or xs (s.number + k) []) (sym same) ∙ s.claims k low;
      }

-- functions that are members of a list are in the program
pub all_there : (p : Program) (passed : Passed) (gs : List ℕ) → ((g : ℕ) → is_member gs g ≡ true → (h : Function) × (slice_get p.functions g ≡ Some h)) → AllThere p passed gs
all_there p passed [] h = tt
all_there p passed (g ∷ gs) h = (h g (member_first g gs), all_there p passed gs (λ c e. h c (member_more g gs c e)))

-- of a function as many lists are kept as it has array parameters
pub listed_count : (p : Program) (f : ℕ) (h : Function) → slice_get p.functions f ≡ Some h → length (listed (all_passed p) f) ≡ h.arrays
listed_count p f h e =
    let inside = slice_get_within p.functions f h e in
    let grown = functions_grow (length p.objects) p.functions (reverse (order p)) (none_passed p.functions) in
    let first : listed (none_passed p.functions) f ≡ replicate h.arrays [] =
    get_or-map (λ (x : Function). replicate x.arrays []) p.functions f h [] inside ∙ ap (λ (x : Function). replicate x.arrays []) (get_or_from_slice_get p.functions f h h e) in
    grown.sizes f ∙ ap length first ∙ length-replicate {A = List ℕ} h.arrays []
