-- The first registers of each function in machine registers, all of which each call keeps, are an assignment.
use Rattle.std.proofs.Common.{◌≡◌, ◌<◌, ℕ, zero, suc, ◌+◌, Bool, true, false, List, [], ◌∷◌, ◌++◌, length, get_or, take, Some, Option, refl, sym, ap, ◌∙◌, subst, arith, if◌then◌else◌, ⊎_elim}
use Rattle.std.specs.Prelude.{map, nat_lt, slice_get, slice_index_or, replicate, ◌&&◌}
use Rattle.std.specs.List.{range_with_len}
use Rattle.std.proofs.lemmas.Bool.{and_parts, cases_eq, le-leb, ltb-true}
use Rattle.std.proofs.lemmas.Bool.Decides.{nat_tests}
use Rattle.std.proofs.lemmas.List.{map-append, take_more}
use Rattle.low_ir.specs.declared.low.Function as functions
use Rattle.low_ir.specs.declared.places.Placing as placings
use Rattle.low_ir.specs.declared.places.Place.{Place}
use Rattle.low_ir.specs.declared.places.Place.TheVariants.{Register as InRegister, Slot}
use Rattle.low_ir.specs.Code.{Instr, Call, Block, Function, Low, Note}
use Rattle.low_ir.specs.Effects.{is_member}
use Rattle.low_ir.specs.Live.{IsRest, place_of, CallAt}
use Rattle.low_ir.specs.Places.{assignment, is_lasting, kept_in, machine_registers, no_placing, place_in, placing_of, registers_of}
use Rattle.low_ir.specs.Spacing.{IsAssignment, is_inside}
use Rattle.low_ir.specs.View.{function_of}
use Rattle.image_saving.specs.Walks.{spots_in}
use Rattle.layout_cases.specs.Registers.{place_at, all_kept, in_registers}

index_at : (n k v : ℕ) (d : Place) → v < n → slice_index_or (map place_at (range_with_len k n)) v d ≡ place_at (k + v)
index_at zero k v d h = absurd (omega (arith, h))
index_at (suc n) k zero d h = let e : k ≡ k + 0 = omega arith in ap place_at e
index_at (suc n) k (suc v) d h = let e : k + 1 + v ≡ k + suc v = omega arith in index_at n (k + 1) v d (omega (arith, h)) ∙ ap place_at e

place_in-registers : (fn : Function ℕ Note) (v : ℕ) → v < fn.size → place_in (in_registers fn) v ≡ place_at v
place_in-registers fn v h = let e : 0 + v ≡ v = omega arith in index_at fn.size 0 v (Slot v) h ∙ ap place_at e

index_or-in_registers : (fns : List (Function ℕ Note)) (f : ℕ) (fn : Function ℕ Note) → slice_get fns f ≡ Some fn → slice_index_or (map in_registers fns) f no_placing ≡ in_registers fn
index_or-in_registers [] f fn e = cc
index_or-in_registers (x ∷ fns) zero fn e = let same : x ≡ fn = cc in ap in_registers same
index_or-in_registers (x ∷ fns) (suc f) fn e = index_or-in_registers fns f fn e

differ_by : (b c : Bool) (v w : ℕ) → (if b then InRegister v else Slot v) ≡ (if c then InRegister w else Slot w) → v ≡ w
differ_by true true v w e = cc
differ_by true false v w e = cc
differ_by false true v w e = cc
differ_by false false v w e = cc

places_differ : (v w : ℕ) → place_at v ≡ place_at w → v ≡ w
places_differ v w e = differ_by (nat_lt v machine_registers) (nat_lt w machine_registers) v w e

register_low : (v q : ℕ) → place_at v ≡ InRegister q → q < machine_registers
register_low v q e = by (nat_lt v machine_registers) refl e
  where
    by : (b : Bool) → nat_lt v machine_registers ≡ b → (if b then InRegister v else Slot v) ≡ InRegister q → q < machine_registers
    by true t k = let same : v ≡ q = cc in subst (λ n. n < machine_registers) same (ltb-true v machine_registers t)
    by false t k = cc

lt_test : (a b : ℕ) → a < b → nat_lt a b ≡ true
lt_test a b h = grind (arith, nat_tests)

place_inside : (size v : ℕ) → v < size → is_inside size (place_at v) ≡ true
place_inside size v h = by (nat_lt v machine_registers) refl
  where
    by : (b : Bool) → nat_lt v machine_registers ≡ b → is_inside size (if b then InRegister v else Slot v) ≡ true
    by true t = let small = ltb-true v machine_registers t in le-leb v machine_registers (omega (arith, small))
    by false t = lt_test v size h

place_lasts : (v : ℕ) → is_lasting (place_at v) ≡ true
place_lasts v = by (nat_lt v machine_registers) refl
  where
    by : (b : Bool) → nat_lt v machine_registers ≡ b → is_lasting (if b then InRegister v else Slot v) ≡ true
    by true t = t
    by false t = refl

-- each machine register is in the mask
abbrev all_below : (ℕ → Bool) → ℕ → Bool
all_below test zero = true
all_below test (suc n) = test n && all_below test n

below : (test : ℕ → Bool) (n k : ℕ) → all_below test n ≡ true → k < n → test k ≡ true
below test zero k e h = absurd (omega (arith, h))
below test (suc n) k e h =
    let both = and_parts (test n) (all_below test n) e in
    ⊎_elim (λ same. ap test same ∙ both.0) (λ d. below test n k both.1 (grind (arith, h, d))) (cases_eq k n)

all_member : (q : ℕ) → q < machine_registers → is_member (registers_of machine_registers all_kept) q ≡ true
all_member q h = below (is_member (registers_of machine_registers all_kept)) machine_registers q refl h

-- a call stands at a place of the code
rest_within : (all : List (Instr ℕ Note)) (n : ℕ) (i : Instr ℕ Note) (is : List (Instr ℕ Note)) → IsRest all n (i ∷ is) → n < length all
rest_within all zero i is e = let l = ap length e in omega (arith, l)
rest_within [] (suc n) i is e = absurd e
rest_within (x ∷ all) (suc n) i is e = let h = rest_within all n i is e in omega (arith, h)

place_within : (bs : List (Block ℕ Note)) (b n : ℕ) (block : Block ℕ Note) → slice_get bs b ≡ Some block → n < length block.code → place_of bs b + n < spots_in bs
place_within [] b n block e h = cc
place_within (x ∷ bs) zero n block e h =
    let same : x ≡ block = cc in
    let l = subst (λ (y : Block ℕ Note). n < length y.code) (sym same) h in
    omega (arith, l)
place_within (x ∷ bs) (suc b) n block e h = let r = place_within bs b n block e h in omega (arith, r)

call_within : (fn : Function ℕ Note) (p : ℕ) (d : Option ℕ) → CallAt fn p d → p < spots_in fn.blocks
call_within fn p d call =
    let spot = call.5 in
    subst (λ n. n < spots_in fn.blocks) (sym spot.at)
    (place_within fn.blocks spot.number spot.behind spot.block spot.there (rest_within spot.block.code spot.behind (Call d call.0 call.1 call.2) call.3 spot.code))

replicated : (n p x d : ℕ) → p < n → slice_index_or (replicate n x) p d ≡ x
replicated zero p x d h = absurd (omega (arith, h))
replicated (suc n) zero x d h = refl
replicated (suc n) (suc p) x d h = replicated n p x d (omega (arith, h))

-- the assignment
pub registers_assigned : (p : Low) → IsAssignment (assignment (map in_registers p.functions)) p
registers_assigned p f fn e =
    let here = index_or-in_registers p.functions f fn e in
    let place = λ (v : ℕ) (h : v < fn.size). ap (λ q. place_in q v) here ∙ place_in-registers fn v h in
    record {
      apart = λ v w h k n t same. n (places_differ v w (sym (place v h) ∙ same ∙ place w k));
      kept = λ at v q d h call n i is.
          ap (λ pl. is_member (kept_in pl at) q) here
          ∙ ap (λ m. is_member (registers_of machine_registers m) q) (replicated (spots_in fn.blocks) at all_kept 0 (call_within fn at d call))
          ∙ all_member q (register_low v q (sym (place v h) ∙ is));
      served = λ at v d h call n i. ap is_lasting (place v h) ∙ place_lasts v;
      passed = λ v h has. ap is_lasting (place v h) ∙ place_lasts v;
      inside = λ v h.
          ap (is_inside (slice_index_or (map in_registers p.functions) f no_placing).slots) (place v h)
          ∙ ap (λ q. is_inside q.slots (place_at v)) here
          ∙ place_inside fn.size v h;
    }

-- one function more
pub placings_more : (ps qs : List placings.Placing) (p : placings.Placing) (fs : List functions.Function) (i : ℕ) (f : functions.Function) → i < length fs → f ≡ get_or fs i f → qs ≡ ps ++ p ∷ [] → placing_of p ≡ in_registers (function_of f) → map placing_of ps ≡ map (λ g. in_registers (function_of g)) (take i fs) → map placing_of qs ≡ map (λ g. in_registers (function_of g)) (take (i + 1) fs)
placings_more ps qs p fs i f lt read pushed placed before =
    ap (map placing_of) pushed
    ∙ map-append placing_of ps (p ∷ [])
    ∙ ap (λ l. l ++ placing_of p ∷ []) before
    ∙ ap (λ q. map (λ g. in_registers (function_of g)) (take i fs) ++ q ∷ []) (placed ∙ ap (λ g. in_registers (function_of g)) read)
    ∙ sym (map-append (λ g. in_registers (function_of g)) (take i fs) (get_or fs i f ∷ []))
    ∙ ap (map (λ g. in_registers (function_of g))) (sym (take_more fs i f lt))
