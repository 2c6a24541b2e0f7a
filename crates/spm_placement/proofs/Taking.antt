-- The items that have the numbers of some of them.
use Rattle.std.proofs.Common.{◌≡◌, ℕ, ◌+◌, Bool, true, false, ◌||◌, ◌==◌, inl, inr, List, [], ◌∷◌, map, if◌then◌else◌, refl, sym, ap, ◌∙◌, arith}
use Rattle.std.proofs.lemmas.Bool.{or_parts}
use Rattle.std.proofs.lemmas.Bool.Decides.{nat_tests}
use Rattle.image_frames.specs.Placings.{is_among}
use Rattle.spm_placement.specs.declared.item.Item.{Item}
use Rattle.spm_placement.specs.Sets.{IsPartOf, bytes, number}
use Rattle.spm_placement.specs.Placings.{AreApart, bytes_where}

-- who has the number of no item has that of none of their part
pub not_among : (s xs : List Item) (n : ℕ) → IsPartOf s xs → is_among (map number xs) n ≡ false → is_among (map number s) n ≡ false
not_among s [] n p h = ap (λ t. is_among (map number t) n) p
not_among s (x ∷ xs) n (inl p) h = not_among s xs n p (or_parts (x.id == n) (is_among (map number xs) n) h).1
not_among s (x ∷ xs) n (inr p) h =
    let parts = or_parts (x.id == n) (is_among (map number xs) n) h in
    ap (λ t. is_among (map number t) n) p.1
    ∙ (ap (λ b. b || is_among (map number p.0) n) parts.0 ∙ not_among p.0 xs n p.2 parts.1)

itself : (n : ℕ) → (n == n) ≡ true
itself n = grind (arith, nat_tests)

turned : (m n : ℕ) → (m == n) ≡ false → (n == m) ≡ false
turned m n h = grind (arith, nat_tests)

-- one more number that no item has changes nothing
skipped : (n : ℕ) (test : ℕ → Bool) (xs : List Item) → is_among (map number xs) n ≡ false → bytes_where (λ m. (n == m) || test m) xs ≡ bytes_where test xs
skipped n test [] h = refl
skipped n test (x ∷ xs) h =
    let parts = or_parts (x.id == n) (is_among (map number xs) n) h in
    ap (λ b. (if b || test x.id then x.size else 0) + bytes_where (λ m. (n == m) || test m) xs) (turned x.id n parts.0)
    ∙ ap (λ k. (if test x.id then x.size else 0) + k) (skipped n test xs parts.1)

pub taken : (items s : List Item) → AreApart items → IsPartOf s items → bytes_where (is_among (map number s)) items ≡ bytes s
taken [] s apart p = sym (ap bytes p)
taken (x ∷ xs) s apart (inl p) =
    let nothing : (if is_among (map number s) x.id then x.size else 0) ≡ 0 = ap (λ b. if b then x.size else 0) (not_among s xs x.id p apart.0) in
    let rest = taken xs s apart.1 p in
    omega (arith, nothing, rest)
taken (x ∷ xs) s apart (inr p) =
    let t = p.0 in
    ap (λ u. bytes_where (is_among (map number u)) (x ∷ xs)) p.1
    ∙ (ap (λ b. (if b || is_among (map number t) x.id then x.size else 0) + bytes_where (is_among (map number (x ∷ t))) xs) (itself x.id)
    ∙ (ap (λ k. x.size + k) (skipped x.id (is_among (map number t)) xs apart.0 ∙ taken xs t apart.1 p.2)
    ∙ sym (ap bytes p.1)))
