-- Each register in a slot of its own.
use Rattle.std.proofs.Common.{◌≡◌, ◌<◌, ℕ, zero, suc, ◌+◌, List, [], ◌∷◌, ◌++◌, length, get_or, take, Some, refl, sym, ap, ◌∙◌, subst, arith}
use Rattle.std.specs.Prelude.{map, nat_lt, true, slice_get, slice_index_or}
use Rattle.std.specs.List.{range_with_len}
use Rattle.std.proofs.lemmas.Bool.Decides.{nat_tests}
use Rattle.std.proofs.lemmas.List.{map-append, take_more}
use Rattle.low_ir.specs.declared.low.Function as functions
use Rattle.low_ir.specs.declared.places.Placing as placings
use Rattle.low_ir.specs.declared.places.Place.TheVariants.{Register as InRegister, Slot}
use Rattle.low_ir.specs.Code.{Function, Low, Note}
use Rattle.low_ir.specs.Places.{assignment, in_slots, is_lasting, no_placing, place_in, placing_of}
use Rattle.low_ir.specs.Spacing.{IsAssignment, is_inside}
use Rattle.low_ir.specs.View.{function_of}

index_or-slots : (n k v : ℕ) → slice_index_or (map Slot (range_with_len k n)) v (Slot (k + v)) ≡ Slot (k + v)
index_or-slots zero k v = refl
index_or-slots (suc n) k zero = let e : k ≡ k + 0 = omega arith in ap Slot e
index_or-slots (suc n) k (suc v) =
    let e : k + 1 + v ≡ k + suc v = omega arith in
    subst (λ m. slice_index_or (map Slot (range_with_len (k + 1) n)) v (Slot m) ≡ Slot m) e (index_or-slots n (k + 1) v)

place_in-slots : (fn : Function ℕ Note) (v : ℕ) → place_in (in_slots fn) v ≡ Slot v
place_in-slots fn v =
    let e : 0 + v ≡ v = omega arith in
    subst (λ m. slice_index_or (map Slot (range_with_len 0 fn.size)) v (Slot m) ≡ Slot m) e (index_or-slots fn.size 0 v)

index_or-in_slots : (fns : List (Function ℕ Note)) (f : ℕ) (fn : Function ℕ Note) → slice_get fns f ≡ Some fn → slice_index_or (map in_slots fns) f no_placing ≡ in_slots fn
index_or-in_slots [] f fn e = cc
index_or-in_slots (x ∷ fns) zero fn e = let same : x ≡ fn = cc in ap in_slots same
index_or-in_slots (x ∷ fns) (suc f) fn e = index_or-in_slots fns f fn e

-- the slots of a program are an assignment
pub slots_assigned : (p : Low) → IsAssignment (assignment (map in_slots p.functions)) p
slots_assigned p f fn e =
    let here = index_or-in_slots p.functions f fn e in
    let slot = λ (v : ℕ). ap (λ q. place_in q v) here ∙ place_in-slots fn v in
    record {
      apart = λ v w v1 w1 n t same. n (slots_differ v w (sym (slot v) ∙ same ∙ slot w));
      kept = λ at v q d v1 call n i is. absurd (no_register v q (sym (slot v) ∙ is));
      served = λ at v d v1 call n i. ap is_lasting (slot v);
      passed = λ v v1 has. ap is_lasting (slot v);
      inside = λ v lt. ap (is_inside (slice_index_or (map in_slots p.functions) f no_placing).slots) (slot v) ∙ ap (λ q. nat_lt v q.slots) here ∙ lt_test v fn.size lt;
    }
  where
    lt_test : (a b : ℕ) → a < b → nat_lt a b ≡ true
    lt_test a b h = grind (arith, nat_tests)

    slots_differ : (v w : ℕ) → Slot v ≡ Slot w → v ≡ w
    slots_differ v w h = cc

    no_register : (v q : ℕ) → Slot v ≡ InRegister q → ⊥
    no_register v q h = cc

-- one function more
pub placings_more : (ps qs : List placings.Placing) (p : placings.Placing) (fs : List functions.Function) (i : ℕ) (f : functions.Function) → i < length fs → f ≡ get_or fs i f → qs ≡ ps ++ p ∷ [] → placing_of p ≡ in_slots (function_of f) → map placing_of ps ≡ map (λ g. in_slots (function_of g)) (take i fs) → map placing_of qs ≡ map (λ g. in_slots (function_of g)) (take (i + 1) fs)
placings_more ps qs p fs i f lt read pushed slots before =
    ap (map placing_of) pushed
    ∙ map-append placing_of ps (p ∷ [])
    ∙ ap (λ l. l ++ placing_of p ∷ []) before
    ∙ ap (λ q. map (λ g. in_slots (function_of g)) (take i fs) ++ q ∷ []) (slots ∙ ap (λ g. in_slots (function_of g)) read)
    ∙ sym (map-append (λ g. in_slots (function_of g)) (take i fs) (get_or fs i f ∷ []))
    ∙ ap (map (λ g. in_slots (function_of g))) (sym (take_more fs i f lt))
