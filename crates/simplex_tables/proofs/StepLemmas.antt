-- One turn of the loop over two rows.
use Rattle.std.proofs.Common.{◌≡◌, ℕ, ◌+◌, ◌≤◌, ◌<◌, ℤ, pos, ◌-ℤ◌, ◌*ℤ◌, arith, refl, sym, ap, ◌∙◌, [], ◌∷◌, ◌++◌, length, drop, get_or, add-one, drop-cons, append_assoc, append-nil, Bool, true, false, ◌↔◌}
use Rattle.std.specs.Prelude.{◌||◌}
use Rattle.std.proofs.Math.ListN.{drop_of_length-le}
use Rattle.simplex_tables.specs.Rows.{Row, combined, any_wide, is_wide}

abbrev at' : Row → ℕ → ℤ
at' r i = get_or r i (pos 0)

pub combined_step : (p q : ℤ) (r ss : Row) (i : ℕ) → i < length r → length r ≡ length ss → combined p q (drop i r) (drop i ss) ≡ ((p *ℤ at' r i) -ℤ (q *ℤ at' ss i)) ∷ combined p q (drop (i + 1) r) (drop (i + 1) ss)
combined_step p q r ss i h e =
    let k : i < length ss = omega arith in
    rw (add-one, drop-cons r i (pos 0), drop-cons ss i (pos 0)) refl

pub wide_step : (p q : ℤ) (r ss : Row) (i : ℕ) → i < length r → length r ≡ length ss → any_wide p q (drop i r) (drop i ss) ≡ is_wide (p *ℤ at' r i) || (is_wide (q *ℤ at' ss i) || any_wide p q (drop (i + 1) r) (drop (i + 1) ss))
wide_step p q r ss i h e =
    let k : i < length ss = omega arith in
    rw (add-one, drop-cons r i (pos 0), drop-cons ss i (pos 0)) refl

-- a turn that goes on
pub goes_on : (p q : ℤ) (r ss out out' : Row) (z : ℤ) (i : ℕ) → i < length r → length r ≡ length ss → out' ≡ out ++ z ∷ [] → z ≡ (p *ℤ at' r i) -ℤ (q *ℤ at' ss i) → (is_wide (p *ℤ at' r i) || is_wide (q *ℤ at' ss i)) ≡ false →
    (out ++ combined p q (drop i r) (drop i ss) ≡ combined p q r ss) × (any_wide p q (drop i r) (drop i ss) ≡ any_wide p q r ss) →
    (out' ++ combined p q (drop (i + 1) r) (drop (i + 1) ss) ≡ combined p q r ss) × (any_wide p q (drop (i + 1) r) (drop (i + 1) ss) ≡ any_wide p q r ss)
goes_on p q r ss out out' z i h e o is small inv =
    let s = combined_step p q r ss i h e in
    let w = wide_step p q r ss i h e in (
      rw (o, is) (append_assoc out _ _ ∙ (ap (λ (l : Row). out ++ l) (sym s) ∙ inv.0)),
      sym (rests (is_wide (p *ℤ at' r i)) (is_wide (q *ℤ at' ss i)) _ small) ∙ (sym w ∙ inv.1),
    )
  where
    rests : (a b c : Bool) → a || b ≡ false → a || (b || c) ≡ c
    rests true b c h = cc
    rests false true c h = cc
    rests false false c h = refl

-- a turn that stops
pub stops : (p q : ℤ) (r ss : Row) (i : ℕ) → i < length r → length r ≡ length ss → (is_wide (p *ℤ at' r i) || is_wide (q *ℤ at' ss i)) ≡ true → any_wide p q (drop i r) (drop i ss) ≡ any_wide p q r ss → any_wide p q r ss ≡ true
stops p q r ss i h e wide inv = sym inv ∙ (wide_step p q r ss i h e ∙ rests (is_wide (p *ℤ at' r i)) (is_wide (q *ℤ at' ss i)) _ wide)
  where
    rests : (a b c : Bool) → a || b ≡ true → a || (b || c) ≡ true
    rests true b c h = refl
    rests false true c h = refl
    rests false false c h = cc

pub not_true : (b : Bool) → (false ≡ true ↔ b ≡ true) → b ≡ false
not_true true h = sym (h.1 refl)
not_true false h = refl

-- at the end nothing is left
pub at_end : (p p' q q' : ℤ) (r ss out : Row) (i : ℕ) → p' ≡ p → q' ≡ q → length r ≤ i → length r ≡ length ss →
    (out ++ combined p' q' (drop i r) (drop i ss) ≡ combined p' q' r ss) × (any_wide p' q' (drop i r) (drop i ss) ≡ any_wide p' q' r ss) →
    (out ≡ combined p q r ss) × (any_wide p q r ss ≡ false)
at_end p p' q q' r ss out i ep eq h e inv =
    let d : drop i r ≡ [] = drop_of_length-le r h in
    let k : any_wide p' q' (drop i r) (drop i ss) ≡ false = rw d refl in
    let l : combined p' q' (drop i r) (drop i ss) ≡ [] = rw d refl in
    rw (sym ep, sym eq) (sym (append-nil out) ∙ (ap (λ (x : Row). out ++ x) (sym l) ∙ inv.0), sym inv.1 ∙ k)

abbrev either : ℤ → ℤ → ℤ → ℤ → Bool
either p a q b = is_wide (p *ℤ a) || is_wide (q *ℤ b)

pub small_of : (p q a a' b b' : ℤ) → a' ≡ a → b' ≡ b → (either p a' q b' ≡ true → true ≡ false) → either p a q b ≡ false
small_of p q a a' b b' ea eb h = rw (sym ea, sym eb) (decide (either p a' q b') h)
  where
    decide : (t : Bool) → (t ≡ true → true ≡ false) → t ≡ false
    decide true h = h refl
    decide false h = refl

pub wide_of : (p q p' q' a a' b b' : ℤ) → a' ≡ a → b' ≡ b → either p a' q b' ≡ true → either p a q b ≡ true
wide_of p q p' q' a a' b b' ea eb h = rw (sym ea, sym eb) h
