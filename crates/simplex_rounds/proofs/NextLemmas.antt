-- One more item of a list that is made item by item.
use Rattle.std.proofs.Common.{◌≡◌, ℕ, zero, suc, ◌+◌, ◌<◌, pos, arith, refl, sym, ap, ◌∙◌, List, [], ◌∷◌, ◌++◌, length, drop, append_assoc}
use Rattle.std.specs.Prelude.{◌==◌, if◌then◌else◌}
use Rattle.simplex_rounds.specs.declared.starting.Side.{Side}
use Rattle.simplex_rounds.specs.Starts.{slacks, own_slacks}

one_more : (k : ℕ) → suc k + 1 ≡ suc (k + 1)
one_more k = omega arith

-- where what is left begins with the item that is pushed
pub next_item : {X : Type 0} (old new left rest whole : List X) (x y : X) → new ≡ old ++ x ∷ [] → x ≡ y → left ≡ y ∷ rest → old ++ left ≡ whole → new ++ rest ≡ whole
next_item old new left rest whole x y e f g h =
    ap (λ zs. zs ++ rest) e ∙ (append_assoc old (x ∷ []) rest ∙ (ap (λ z. old ++ z ∷ rest) f ∙ (ap (λ zs. old ++ zs) (sym g) ∙ h)))

pub slacks_next : (own n k : ℕ) (ss : List Side) → k < length ss → slacks own n (drop k ss) ≡ (if n == own then pos 1 else pos 0) ∷ slacks own (n + 1) (drop (k + 1) ss)
slacks_next own n k [] h = absurd (omega (arith, h))
slacks_next own n zero (s ∷ ss) h = refl
slacks_next own n (suc k) (s ∷ ss) h = slacks_next own n k ss (omega (arith, h)) ∙ ap (λ j. (if n == own then pos 1 else pos 0) ∷ slacks own (n + 1) (drop j (s ∷ ss))) (sym (one_more k))

pub owns_next : (n k : ℕ) (ss : List Side) → k < length ss → own_slacks n (drop k ss) ≡ n ∷ own_slacks (n + 1) (drop (k + 1) ss)
owns_next n k [] h = absurd (omega (arith, h))
owns_next n zero (s ∷ ss) h = refl
owns_next n (suc k) (s ∷ ss) h = owns_next n k ss (omega (arith, h)) ∙ ap (λ j. n ∷ own_slacks (n + 1) (drop j (s ∷ ss))) (sym (one_more k))
