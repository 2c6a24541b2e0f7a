-- The registers of a mask.
use Rattle.std.proofs.Common.{◌≡◌, ◌≢◌, ◌⊎◌, inl, inr, ℕ, zero, suc, ◌/◌, ◌%◌, ◌^◌, ◌==◌, ◌&&◌, ◌<◌, Bool, true, false, ◌+◌, List, [], ◌∷◌, ◌++◌, length, drop, get_or, All, refl, sym, ap, ◌∙◌, subst, arith, append_assoc, length-append, if◌then◌else◌}
use Rattle.std.specs.Prelude.{nat_lt}
use Rattle.std.proofs.lemmas.Bool.{cases_eq}
use Rattle.std.proofs.lemmas.Bool.Decides.{nat_tests}
use Rattle.std.proofs.lemmas.List.{get_or_append_left}
use Rattle.low_ir.specs.declared.places.Place.{Place}
use Rattle.low_ir.specs.declared.places.Place.TheVariants.{Register as InRegister, Slot}
use Rattle.low_ir.specs.Effects.{is_member}
use Rattle.low_ir.specs.Places.{registers_of}
use Rattle.asm_program.specs.Emission.{kept_among}
use Rattle.asm_program.specs.Ranges.{IsLasting}
use Rattle.asm_sound.proofs.Calls.{Below, kept_below}
use Rattle.asm_emission.proofs.Passing.{drop-next}

abbrev pub bit : ℕ → ℕ → Bool
bit mask q = mask / 2 ^ q % 2 == 1

less_same : (n q : ℕ) → n ≢ q → nat_lt q (suc n) ≡ nat_lt q n
less_same n q d = grind (arith, nat_tests)

-- one bit more
step : (mask n q : ℕ) (b : Bool) → bit mask n ≡ b → (n ≡ q) ⊎ (n ≢ q) → is_member (registers_of n mask) q ≡ (nat_lt q n && bit mask q) → is_member (if b then n ∷ registers_of n mask else registers_of n mask) q ≡ (nat_lt q (suc n) && bit mask q)
step mask n q true e (inl s) h =
    let same : (n == q) ≡ true = grind (arith, nat_tests) in
    let less : nat_lt q (suc n) ≡ true = grind (arith, nat_tests) in
    ap (λ t. if t then true else is_member (registers_of n mask) q) same ∙ sym (ap (λ t. t && bit mask q) less ∙ ap (bit mask) (sym s) ∙ e)
step mask n q true e (inr d) h =
    let other : (n == q) ≡ false = grind (arith, nat_tests) in
    ap (λ t. if t then true else is_member (registers_of n mask) q) other ∙ h ∙ ap (λ t. t && bit mask q) (sym (less_same n q d))
step mask n q false e (inl s) h =
    let none : nat_lt q n ≡ false = grind (arith, nat_tests) in
    let less : nat_lt q (suc n) ≡ true = grind (arith, nat_tests) in
    h ∙ ap (λ t. t && bit mask q) none ∙ sym (ap (λ t. t && bit mask q) less ∙ ap (bit mask) (sym s) ∙ e)
step mask n q false e (inr d) h = h ∙ ap (λ t. t && bit mask q) (sym (less_same n q d))

pub member_of : (n mask q : ℕ) → is_member (registers_of n mask) q ≡ (nat_lt q n && bit mask q)
member_of zero mask q = let none : nat_lt q 0 ≡ false = grind (arith, nat_tests) in ap (λ t. t && bit mask q) (sym none)
member_of (suc n) mask q = step mask n q (bit mask n) refl (cases_eq n q) (member_of n mask q)

pub member_below : (n mask q : ℕ) → q < n → bit mask q ≡ is_member (registers_of n mask) q
member_below n mask q less = let t : nat_lt q n ≡ true = grind (arith, nat_tests) in sym (member_of n mask q ∙ ap (λ b. b && bit mask q) t)

-- place by place
kept-cons : (p : Place) (ps : List Place) (note : List ℕ) → kept_among (p ∷ ps) note ≡ kept_among (p ∷ []) note ++ kept_among ps note
kept-cons (InRegister q) ps note = by (is_member note q)
  where
    by : (b : Bool) → (if b then q ∷ kept_among ps note else kept_among ps note) ≡ (if b then q ∷ [] else []) ++ kept_among ps note
    by true = refl
    by false = refl
kept-cons (Slot k) ps note = refl

pub kept-step : (old new start : List ℕ) (places : List Place) (k : ℕ) (d : Place) (note : List ℕ) → k < length places → new ≡ old ++ kept_among (get_or places k d ∷ []) note → old ++ kept_among (drop k places) note ≡ start → new ++ kept_among (drop (k + 1) places) note ≡ start
kept-step old new start places k d note less e h =
    let p = get_or places k d in
    let rest = drop (k + 1) places in
    ap (λ l. l ++ kept_among rest note) e
    ∙ append_assoc old (kept_among (p ∷ []) note) (kept_among rest note)
    ∙ ap (λ l. old ++ l) (sym (kept-cons p rest note))
    ∙ ap (λ l. old ++ kept_among l note) (sym (drop-next places k d less))
    ∙ h

-- what is kept of places is below 24
pub kept-small : (xs rest : List ℕ) (places : List Place) (note : List ℕ) → xs ++ rest ≡ kept_among places note → All IsLasting places → All Below xs
kept-small xs rest places note e h k d less =
    let all = subst (All Below) (sym e) (kept_below places note h) in
    let longer = length-append xs rest in
    subst Below (get_or_append_left xs rest d k less) (all k d (omega arith))
