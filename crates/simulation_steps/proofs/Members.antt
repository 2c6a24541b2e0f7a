-- Registers of parameters, and who calls.
use Rattle.std.proofs.Common.{◌≡◌, ◌≢◌, ⊎_elim, ℕ, zero, suc, ◌+◌, ◌<◌, ◌≤◌, Bool, true, false, List, [], ◌∷◌, ◌++◌, length, Contains, Option, Some, sym, ap, ◌∙◌, subst, arith, length-append, refl}
use Rattle.std.specs.Prelude.{◌==◌, if◌then◌else◌, slice_get}
use Rattle.std.proofs.lemmas.Bool.Decides.{nat_tests}
use Rattle.low_ir.specs.declared.places.Place.{Place}
use Rattle.low_ir.specs.declared.places.Place.TheVariants.{Register as InRegister, Slot}
use Rattle.low_ir.specs.Code.{Operand, Instr, Do, Call}
use Rattle.low_ir.specs.Effects.{is_member}
use Rattle.asm_program.specs.Numbers.{link, machine_register}
use Rattle.asm_program.specs.Emission.{registers_among, kept_among}
use Rattle.asm_program.specs.Functions.{PlacedBlock, callees_in, all_callees}
use Rattle.simulation_steps.proofs.Places.{value_is, lt_or}
use Rattle.simulation_steps.proofs.Holding.{got_contains}
use Rattle.simulation_steps.proofs.Homes.{member_head, member_tail, member_cases}
use Rattle.low_ir.specs.Places.{result_register}

-- registers of parameters, and those of them that a call keeps
pub kept_member : (ps : List Place) (note : List ℕ) (q : ℕ) → is_member (registers_among ps) q ≡ true → is_member note q ≡ true → is_member (kept_among ps note) q ≡ true
kept_member [] note q m k = cc
kept_member (Slot j ∷ ps) note q m k = kept_member ps note q m k
kept_member (InRegister r ∷ ps) note q m k =
    ⊎_elim
    (λ (same : r ≡ q). at_head (is_member note r) (ap (is_member note) same ∙ k) (subst (λ x. is_member (r ∷ kept_among ps note) x ≡ true) same (member_head r (kept_among ps note))))
    (λ (rest : is_member (registers_among ps) q ≡ true). behind (is_member note r) (kept_member ps note q rest k))
    (member_cases r q (registers_among ps) m)
  where
    at_head : (b : Bool) → b ≡ true → is_member (r ∷ kept_among ps note) q ≡ true → is_member (if b then (r ∷ kept_among ps note) else kept_among ps note) q ≡ true
    at_head true e h = h
    at_head false e h = cc

    behind : (b : Bool) → is_member (kept_among ps note) q ≡ true → is_member (if b then (r ∷ kept_among ps note) else kept_among ps note) q ≡ true
    behind true h = member_tail r q (kept_among ps note) h
    behind false h = h

pub kept_parameter : (ps : List Place) (note : List ℕ) (q : ℕ) → is_member (kept_among ps note) q ≡ true → is_member (registers_among ps) q ≡ true
kept_parameter [] note q m = m
kept_parameter (Slot j ∷ ps) note q m = kept_parameter ps note q m
kept_parameter (InRegister r ∷ ps) note q m = by_note (is_member note r) m (λ h. kept_parameter ps note q h)
  where
    by_note : (b : Bool) → is_member (if b then (r ∷ kept_among ps note) else kept_among ps note) q ≡ true → (is_member (kept_among ps note) q ≡ true → is_member (registers_among ps) q ≡ true) → is_member (r ∷ registers_among ps) q ≡ true
    by_note true h go = ⊎_elim (λ (same : r ≡ q). subst (λ x. is_member (r ∷ registers_among ps) x ≡ true) same (member_head r (registers_among ps))) (λ (rest : is_member (kept_among ps note) q ≡ true). member_tail r q (registers_among ps) (go rest)) (member_cases r q (kept_among ps note) h)
    by_note false h go = member_tail r q (registers_among ps) (go h)

-- what a call keeps of its parameters' registers is in its note
pub kept_noted : (ps : List Place) (note : List ℕ) (q : ℕ) → is_member (kept_among ps note) q ≡ true → is_member note q ≡ true
kept_noted [] note q m = absurd cc
kept_noted (Slot j ∷ ps) note q m = kept_noted ps note q m
kept_noted (InRegister r ∷ ps) note q m = by_note (is_member note r) refl m (λ h. kept_noted ps note q h)
  where
    by_note : (b : Bool) → is_member note r ≡ b → is_member (if b then (r ∷ kept_among ps note) else kept_among ps note) q ≡ true → (is_member (kept_among ps note) q ≡ true → is_member note q ≡ true) → is_member note q ≡ true
    by_note true is h go = ⊎_elim (λ (same : r ≡ q). subst (λ x. is_member note x ≡ true) same is) go (member_cases r q (kept_among ps note) h)
    by_note false is h go = go h

-- registers among places are among more of them
pub among_append : (ps qs : List Place) (q : ℕ) → Contains (registers_among qs) q → Contains (registers_among (ps ++ qs)) q
among_append [] qs q h = h
among_append (InRegister r ∷ ps) qs q h = let t = among_append ps qs q h in (suc t.0, omega (arith, t.1), t.2)
among_append (Slot j ∷ ps) qs q h = among_append ps qs q h

-- who calls is no leaf
in_callees : (is : List (Instr Place (List ℕ))) (d : Option Place) (f : ℕ) (args : List (Operand Place)) (note : List ℕ) → Contains is (Call d f args note) → 0 < length (callees_in is)
in_callees [] d f args note (k, less, e) = absurd (omega arith)
in_callees (Do i ∷ is) d f args note (zero, less, e) = absurd cc
in_callees (Do i ∷ is) d f args note (suc k, less, e) = in_callees is d f args note (k, omega arith, e)
in_callees (Call c h xs n ∷ is) d f args note x = omega arith

in_all : (bs : List PlacedBlock) (b : PlacedBlock) → Contains bs b → 0 < length (callees_in b.code) → 0 < length (all_callees bs)
in_all [] b (k, less, e) some = absurd (omega arith)
in_all (x ∷ bs) b (zero, less, e) some = let sum = length-append (callees_in x.code) (all_callees bs) in let first = subst (λ (y : PlacedBlock). 0 < length (callees_in y.code)) (sym e) some in omega arith
in_all (x ∷ bs) b (suc k, less, e) some = let sum = length-append (callees_in x.code) (all_callees bs) in let rest = in_all bs b (k, omega arith, e) some in omega arith

zero_test : (n : ℕ) → 0 < n → (n == 0) ≡ false
zero_test n h = grind (arith, nat_tests)

pub calls_some : (bs : List PlacedBlock) (n : ℕ) (b : PlacedBlock) (d : Option Place) (c : ℕ) (args : List (Operand Place)) (note : List ℕ) → slice_get bs n ≡ Some b → Contains b.code (Call d c args note) → (length (all_callees bs) == 0) ≡ false
calls_some bs n b d c args note e h = zero_test (length (all_callees bs)) (in_all bs b (got_contains bs n b e) (in_callees b.code d c args note h))

-- no register of a value is x1
pub link_apart : (q : ℕ) → machine_register q ≢ link
link_apart q e =
    ⊎_elim
    (λ (less : q < suc result_register). (value_is q (omega (arith, less))).link_not e)
    (λ (more : suc result_register ≤ q). let far : machine_register q ≡ q + 8 = grind (arith, nat_tests) in omega (arith, e))
    (lt_or q (suc result_register))
