-- The blocks that lead to each block.
use Rattle.std.proofs.Common.{◌≡◌, ◌⊎◌, inl, inr, ℕ, zero, suc, ◌+◌, ◌<◌, List, [], ◌∷◌, length, replicate, Some, Contains, refl, sym, ap, ◌∙◌, subst, arith}
use Rattle.std.specs.Prelude.{slice_get}
use Rattle.std.proofs.lemmas.List.Elements.{Contains-append_left, Contains-push, Contains-push_cases}
use Rattle.low_ir.specs.Code.{End, Jump, Branch, Return, Block, Note}
use Rattle.low_ir.specs.Formed.{LeadsOn}
use Rattle.low_ir.specs.Live.{place_of}
use Rattle.register_live_ranges.specs.declared.sources.Source.{Source}
use Rattle.register_live_ranges.specs.Found.{sources_of}
use Rattle.register_live_ranges.specs.Rows.{with_item}
use Rattle.register_live_ranges.specs.Sources.{blocks_led, end_led, source_at}
use Rattle.register_live_ranges.proofs.Noting.{length-with, row}

with_cases : {X : Type 0} (rows : List (List X)) (k v : ℕ) (x y : X) → Contains (row (with_item rows k x) v) y → Contains (row rows v) y ⊎ ((k ≡ v) × (x ≡ y))
with_cases [] k v x y h = inl h
with_cases (l ∷ ls) zero zero x y h = elim (Contains-push_cases l x y h) [ inl a ↦ inl a | inr a ↦ inr (refl, a) ]
with_cases (l ∷ ls) zero (suc v) x y h = inl h
with_cases (l ∷ ls) (suc k) zero x y h = inl h
with_cases (l ∷ ls) (suc k) (suc v) x y h = elim (with_cases ls k v x y h) [ inl a ↦ inl a | inr a ↦ inr (ap suc a.0, a.1) ]

with_keeps : {X : Type 0} (rows : List (List X)) (k v : ℕ) (x y : X) → Contains (row rows v) y → Contains (row (with_item rows k x) v) y
with_keeps [] k v x y h = h
with_keeps (l ∷ ls) zero zero x y h = Contains-append_left l (x ∷ []) y h
with_keeps (l ∷ ls) zero (suc v) x y h = h
with_keeps (l ∷ ls) (suc k) zero x y h = h
with_keeps (l ∷ ls) (suc k) (suc v) x y h = with_keeps ls k v x y h

with_has : {X : Type 0} (rows : List (List X)) (k : ℕ) (x : X) → k < length rows → Contains (row (with_item rows k x) k) x
with_has [] k x h = absurd (omega (arith, h))
with_has (l ∷ ls) zero x h = Contains-push l x
with_has (l ∷ ls) (suc k) x h = with_has ls k x (omega (arith, h))

-- one end
end_cases : (rows : List (List Source)) (x : Source) (end : End ℕ) (n : ℕ) (y : Source) → Contains (row (end_led rows x end) n) y → Contains (row rows n) y ⊎ (LeadsOn end n × (x ≡ y))
end_cases rows x (Jump b) n y h = with_cases rows b n x y h
end_cases rows x (Branch c l r taken other) n y h = elim (with_cases (with_item rows taken x) other n x y h) [
  | inl a ↦ elim (with_cases rows taken n x y a) [ inl k ↦ inl k | inr k ↦ inr (inl k.0, k.1) ]
  | inr a ↦ inr (inr a.0, a.1)
]
end_cases rows x (Return r) n y h = inl h

end_keeps : (rows : List (List Source)) (x : Source) (end : End ℕ) (n : ℕ) (y : Source) → Contains (row rows n) y → Contains (row (end_led rows x end) n) y
end_keeps rows x (Jump b) n y h = with_keeps rows b n x y h
end_keeps rows x (Branch c l r taken other) n y h = with_keeps (with_item rows taken x) other n x y (with_keeps rows taken n x y h)
end_keeps rows x (Return r) n y h = h

end_has : (rows : List (List Source)) (x : Source) (end : End ℕ) (n : ℕ) → n < length rows → LeadsOn end n → Contains (row (end_led rows x end) n) x
end_has rows x (Jump b) n h e = subst (λ m. Contains (row (with_item rows b x) m) x) e (with_has rows b x (subst (λ m. m < length rows) (sym e) h))
end_has rows x (Branch c l r taken other) n h (inl e) =
    with_keeps (with_item rows taken x) other n x x (subst (λ m. Contains (row (with_item rows taken x) m) x) e (with_has rows taken x (subst (λ m. m < length rows) (sym e) h)))
end_has rows x (Branch c l r taken other) n h (inr e) =
    let size = length-with rows taken x in
    subst (λ m. Contains (row (with_item (with_item rows taken x) other x) m) x) e (with_has (with_item rows taken x) other x (omega (arith, size, h, e)))
end_has rows x (Return r) n h e = absurd e

end_length : (rows : List (List Source)) (x : Source) (end : End ℕ) → length (end_led rows x end) ≡ length rows
end_length rows x (Jump b) = length-with rows b x
end_length rows x (Branch c l r taken other) = length-with (with_item rows taken x) other x ∙ length-with rows taken x
end_length rows x (Return r) = refl

-- a block from number b on, which begins at place s, leads to block n
pub record Led (b s : ℕ) (bs : List (Block ℕ Note)) (n : ℕ) (y : Source) : Type 0 where
  pub number : ℕ
  pub block : Block ℕ Note
  pub there : slice_get bs number ≡ Some block
  pub leads : LeadsOn block.end n
  pub is : y ≡ source_at (b + number) (s + place_of bs number) block

led_next : (b s : ℕ) (x : Block ℕ Note) (xs : List (Block ℕ Note)) (n : ℕ) (y : Source) → Led (suc b) (s + suc (length x.code)) xs n y → Led b s (x ∷ xs) n y
led_next b s x xs n y h =
    let e : suc b + h.number ≡ b + suc h.number = omega arith in
    let f : s + suc (length x.code) + place_of xs h.number ≡ s + (suc (length x.code) + place_of xs h.number) = omega arith in
    record { number = suc h.number; block = h.block; there = h.there; leads = h.leads; is = h.is ∙ (ap (λ m. source_at m (s + suc (length x.code) + place_of xs h.number) h.block) e ∙ ap (λ m. source_at (b + suc h.number) m h.block) f) }

led_from : (rows : List (List Source)) (b s : ℕ) (bs : List (Block ℕ Note)) (n : ℕ) (y : Source) → Contains (row (blocks_led rows b s bs) n) y → Contains (row rows n) y ⊎ Led b s bs n y
led_from rows b s [] n y h = inl h
led_from rows b s (x ∷ xs) n y h = elim (led_from (end_led rows (source_at b s x) x.end) (suc b) (s + suc (length x.code)) xs n y h) [
  | inl a ↦ elim (end_cases rows (source_at b s x) x.end n y a) [
    | inl k ↦ inl k
    | inr k ↦
        let e : b ≡ b + 0 = omega arith in
        let f : s ≡ s + 0 = omega arith in
        inr (record { number = 0; block = x; there = refl; leads = k.0; is = sym k.1 ∙ (ap (λ m. source_at m s x) e ∙ ap (λ m. source_at (b + 0) m x) f) })
  ]
  | inr a ↦ inr (led_next b s x xs n y a)
]

led_keeps : (rows : List (List Source)) (b s : ℕ) (bs : List (Block ℕ Note)) (n : ℕ) (y : Source) → Contains (row rows n) y → Contains (row (blocks_led rows b s bs) n) y
led_keeps rows b s [] n y h = h
led_keeps rows b s (x ∷ xs) n y h = led_keeps (end_led rows (source_at b s x) x.end) (suc b) (s + suc (length x.code)) xs n y (end_keeps rows (source_at b s x) x.end n y h)

led_has : (rows : List (List Source)) (b s : ℕ) (bs : List (Block ℕ Note)) (n : ℕ) (q : ℕ) (z : Block ℕ Note) → n < length rows → slice_get bs q ≡ Some z → LeadsOn z.end n → Contains (row (blocks_led rows b s bs) n) (source_at (b + q) (s + place_of bs q) z)
led_has rows b s [] n q z h e l = cc
led_has rows b s (x ∷ xs) n zero z h e l =
    let same : x ≡ z = cc in
    let c : b ≡ b + 0 = omega arith in
    let f : s ≡ s + 0 = omega arith in
    let is : source_at b s x ≡ source_at (b + 0) (s + 0) z = ap (λ (w : Block ℕ Note). source_at b s w) same ∙ (ap (λ m. source_at m s z) c ∙ ap (λ m. source_at (b + 0) m z) f) in
    subst (Contains (row (blocks_led rows b s (x ∷ xs)) n)) is
    (led_keeps (end_led rows (source_at b s x) x.end) (suc b) (s + suc (length x.code)) xs n (source_at b s x) (end_has rows (source_at b s x) x.end n h (subst (λ (w : Block ℕ Note). LeadsOn w.end n) (sym same) l)))
led_has rows b s (x ∷ xs) n (suc q) z h e l =
    let size = end_length rows (source_at b s x) x.end in
    let c : suc b + q ≡ b + suc q = omega arith in
    let f : s + suc (length x.code) + place_of xs q ≡ s + (suc (length x.code) + place_of xs q) = omega arith in
    subst (Contains (row (blocks_led rows b s (x ∷ xs)) n)) (ap (λ m. source_at m (s + suc (length x.code) + place_of xs q) z) c ∙ ap (λ m. source_at (b + suc q) m z) f)
    (led_has (end_led rows (source_at b s x) x.end) (suc b) (s + suc (length x.code)) xs n q z (omega (arith, size, h)) e l)

no_row : (n v : ℕ) → row (replicate {A = List Source} n []) v ≡ []
no_row zero v = refl
no_row (suc n) zero = refl
no_row (suc n) (suc v) = no_row n v

no_length : (n : ℕ) → length (replicate {A = List Source} n []) ≡ n
no_length zero = refl
no_length (suc n) = ap suc (no_length n)

pub sources_from : (bs : List (Block ℕ Note)) (n : ℕ) (y : Source) → Contains (row (sources_of bs) n) y → Led 0 0 bs n y
sources_from bs n y h = elim (led_from (replicate (length bs) []) 0 0 bs n y h) [
  | inl a ↦ absurd (let k = subst (λ l. Contains l y) (no_row (length bs) n) a in omega (arith, k.1))
  | inr a ↦ a
]

pub sources_have : (bs : List (Block ℕ Note)) (n q : ℕ) (z : Block ℕ Note) → n < length bs → slice_get bs q ≡ Some z → LeadsOn z.end n → Contains (row (sources_of bs) n) (source_at q (place_of bs q) z)
sources_have bs n q z h e l =
    let size = no_length (length bs) in
    let c : 0 + q ≡ q = omega arith in
    let f : 0 + place_of bs q ≡ place_of bs q = omega arith in
    subst (Contains (row (sources_of bs) n)) (ap (λ m. source_at m (0 + place_of bs q) z) c ∙ ap (λ m. source_at q m z) f) (led_has (replicate (length bs) []) 0 0 bs n q z (omega (arith, size, h)) e l)
