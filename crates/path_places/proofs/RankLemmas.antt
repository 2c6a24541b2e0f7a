-- The numbers of spans: a move stays in its span, and a call goes to an earlier one.
use Rattle.std.proofs.Common.{◌≡◌, ℕ, zero, suc, ◌<◌, arith, refl, sym, ap, ◌∙◌, subst, List, [], ◌∷◌, Contains, All, inl, inr, Bool, true, false}
use Rattle.std.proofs.lemmas.Bool.Decides.{nat_tests}
use Rattle.std.proofs.lemmas.List.Elements.{All-head, All-tail, All-contains}
use Rattle.code_flow_system.specs.declared.moves.Move.{Move}
use Rattle.code_flow_system.specs.declared.shapes.Span.{Span}
use Rattle.code_flow_system.specs.Shapes.{onward, IsInSpan, AreApart, AreAllApart, IsInOne, StaysIn, BeginsEarlier}
use Rattle.path_places.specs.Reached.{AreFilled, in_span, rank}

-- a test of a span tells

pub span_of : (p : Span) (a : ℕ) → in_span p a ≡ true → IsInSpan p a
span_of p a h = record { from = grind (arith, nat_tests); below = grind (arith, nat_tests) }

pub is_in_span : (p : Span) (a : ℕ) → IsInSpan p a → in_span p a ≡ true
is_in_span p a h = let f = h.from in let b = h.below in grind (arith, nat_tests)

not_in_span : (p : Span) (a : ℕ) → (IsInSpan p a → ⊥) → in_span p a ≡ false
not_in_span p a h = decide (in_span p a) refl
  where
    decide : (t : Bool) → in_span p a ≡ t → t ≡ false
    decide true e = absurd (h (span_of p a e))
    decide false e = refl

pub rank_in : (p : Span) (ps : List Span) (a : ℕ) → IsInSpan p a → rank (p ∷ ps) a ≡ 0
rank_in p ps a h = let e = is_in_span p a h in rw e refl

pub rank_out : (p : Span) (ps : List Span) (a : ℕ) → (IsInSpan p a → ⊥) → rank (p ∷ ps) a ≡ suc (rank ps a)
rank_out p ps a h = let e = not_in_span p a h in rw e refl

-- a span has no address in common with those behind it
pub apart_one : (p : Span) (ps : List Span) (a : ℕ) → All (AreApart p) ps → IsInOne ps a → IsInSpan p a → ⊥
apart_one p [] a h one i = absurd one
apart_one p (q ∷ ps) a h one i = elim one [
  | inl k ↦ All-head (AreApart p) q ps h a i k
  | inr k ↦ apart_one p ps a (All-tail (AreApart p) q ps h) k i
]

stays_in_one : (ps : List Span) (m : Move) (d : ℕ) → IsInOne ps m.at → All (StaysIn m) ps → Contains (onward m) d → IsInOne ps d
stays_in_one [] m d one stays h = absurd one
stays_in_one (p ∷ ps) m d one stays h = elim one [
  | inl k ↦ inl (All-contains (IsInSpan p) (onward m) d (All-head (StaysIn m) p ps stays k) h)
  | inr k ↦ inr (stays_in_one ps m d k (All-tail (StaysIn m) p ps stays) h)
]

-- a move on stays in its span
pub rank_stays : (ps : List Span) (m : Move) (d : ℕ) → AreAllApart ps → IsInOne ps m.at → All (StaysIn m) ps → Contains (onward m) d → rank ps d ≡ rank ps m.at
rank_stays [] m d apart one stays h = absurd one
rank_stays (p ∷ ps) m d apart one stays h = elim one [
  | inl k ↦ rank_in p ps d (All-contains (IsInSpan p) (onward m) d (All-head (StaysIn m) p ps stays k) h) ∙ sym (rank_in p ps m.at k)
  | inr k ↦
      let later = stays_in_one ps m d k (All-tail (StaysIn m) p ps stays) h in
      rank_out p ps d (apart_one p ps d apart.0 later)
      ∙ (ap suc (rank_stays ps m d apart.1 k (All-tail (StaysIn m) p ps stays) h) ∙ sym (rank_out p ps m.at (apart_one p ps m.at apart.0 k)))
]

begins_in : (ps : List Span) (t a : ℕ) → AreFilled ps → BeginsEarlier ps t a → IsInOne ps t × IsInOne ps a
begins_in [] t a full h = absurd h
begins_in (p ∷ ps) t a full h = elim h [
  | inl k ↦
      let f = All-head (λ (q : Span). q.first < q.end) p ps full in
      let e = k.0 in
      (inl (record { from = omega (arith, e); below = omega (arith, e, f) }), inr k.1)
  | inr k ↦ let r = begins_in ps t a (All-tail (λ (q : Span). q.first < q.end) p ps full) k in (inr r.0, inr r.1)
]

-- a call goes to an earlier span
pub rank_earlier : (ps : List Span) (t a : ℕ) → AreFilled ps → AreAllApart ps → BeginsEarlier ps t a → rank ps t < rank ps a
rank_earlier [] t a full apart h = absurd h
rank_earlier (p ∷ ps) t a full apart h = elim h [
  | inl k ↦
      let f = All-head (λ (q : Span). q.first < q.end) p ps full in
      let e = k.0 in
      let x = rank_in p ps t (record { from = omega (arith, e); below = omega (arith, e, f) }) in
      let y = rank_out p ps a (apart_one p ps a apart.0 k.1) in omega (arith, x, y)
  | inr k ↦
      let b = begins_in ps t a (All-tail (λ (q : Span). q.first < q.end) p ps full) k in
      let r = rank_earlier ps t a (All-tail (λ (q : Span). q.first < q.end) p ps full) apart.1 k in
      let x = rank_out p ps t (apart_one p ps t apart.0 b.0) in
      let y = rank_out p ps a (apart_one p ps a apart.0 b.1) in omega (arith, x, y, r)
]

pub in_one : (ps : List Span) (p : Span) (a : ℕ) → Contains ps p → IsInSpan p a → IsInOne ps a
in_one [] p a (k, lt, e) h = absurd (omega (arith, lt))
in_one (q ∷ ps) p a (zero, lt, e) h = inl (subst (λ x. IsInSpan x a) (sym e) h)
in_one (q ∷ ps) p a (suc k, lt, e) h = inr (in_one ps p a (k, omega (arith, lt), e) h)

-- addresses of one span have one number
pub rank_equal : (ps : List Span) (p : Span) (a b : ℕ) → AreAllApart ps → Contains ps p → IsInSpan p a → IsInSpan p b → rank ps a ≡ rank ps b
rank_equal [] p a b apart (k, lt, e) h i = absurd (omega (arith, lt))
rank_equal (q ∷ ps) p a b apart (zero, lt, e) h i = rank_in q ps a (subst (λ x. IsInSpan x a) (sym e) h) ∙ sym (rank_in q ps b (subst (λ x. IsInSpan x b) (sym e) i))
rank_equal (q ∷ ps) p a b apart (suc k, lt, e) h i =
    let there : Contains ps p = (k, omega (arith, lt), e) in
    rank_out q ps a (apart_one q ps a apart.0 (in_one ps p a there h)) ∙ (ap suc (rank_equal ps p a b apart.1 there h i) ∙ sym (rank_out q ps b (apart_one q ps b apart.0 (in_one ps p b there i))))

-- an address of a span's number is in it
pub rank_inside : (ps : List Span) (p : Span) (a b : ℕ) → AreAllApart ps → Contains ps p → IsInSpan p b → IsInOne ps a → rank ps a ≡ rank ps b → IsInSpan p a
rank_inside [] p a b apart (k, lt, e) h one same = absurd (omega (arith, lt))
rank_inside (q ∷ ps) p a b apart (zero, lt, e) h one same = subst (λ x. IsInSpan x a) e (elim one [
  | inl i ↦ i
  | inr i ↦
      let x = rank_in q ps b (subst (λ x. IsInSpan x b) (sym e) h) in
      let y = rank_out q ps a (apart_one q ps a apart.0 i) in absurd (omega (arith, x, y, same))
])
rank_inside (q ∷ ps) p a b apart (suc k, lt, e) h one same =
    let there : Contains ps p = (k, omega (arith, lt), e) in
    let y = rank_out q ps b (apart_one q ps b apart.0 (in_one ps p b there h)) in
    elim one [
      | inl i ↦ let x = rank_in q ps a i in absurd (omega (arith, x, y, same))
      | inr i ↦ let x = rank_out q ps a (apart_one q ps a apart.0 i) in rank_inside ps p a b apart.1 there h i (omega (arith, x, y, same))
    ]
