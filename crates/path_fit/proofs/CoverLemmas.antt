-- Functions that have all moves, which stay in them and call those before them.
use Rattle.std.proofs.Common.{◌≡◌, ℕ, zero, suc, ◌+◌, ◌<◌, ◌≤◌, inl, inr, arith, refl, sym, ap, ◌∙◌, subst, List, [], ◌∷◌, take, drop, length, get_or, All, Bool, true, false, Option, Some, None, drop-cons, add-one}
use Rattle.std.specs.Prelude.{◌&&◌, nat_le, nat_lt, filter, if◌then◌else◌}
use Rattle.std.specs.List.{Any}
use Rattle.std.proofs.lemmas.Bool.Decides.{nat_tests}
use Rattle.std.proofs.lemmas.List.{get_or_default}
use Rattle.std.proofs.lemmas.List.Elements.{All-head, All-tail, All-cons, All-nil}
use Rattle.code_flow_system.specs.declared.shapes.Span.{Span}
use Rattle.code_flow_system.specs.declared.moves.Move.{Move}
use Rattle.code_flow_system.specs.Systems.{System}
use Rattle.code_flow_system.specs.Shapes.{IsInSpan, IsInOne, AreApart, AreAllApart, StaysIn, BeginsEarlier}
use Rattle.path_fit.specs.Spans.{lies_within, HoldsFirst, KeepsTo, KeepAt, KeepUpTo, SpansFit}
use Rattle.path_fit.proofs.PartLemmas.{filter_from, from_filter}

-- a function's range as a test

and_parts : (p q : Bool) → (p && q) ≡ true → (p ≡ true) × (q ≡ true)
and_parts true q e = (refl, e)
and_parts false q e = cc

both : (p q : Bool) → p ≡ true → q ≡ true → (p && q) ≡ true
both true q e f = f
both false q e f = cc

is_le : (a b : ℕ) → nat_le a b ≡ true → a ≤ b
is_le a b e = grind (arith, nat_tests)

le_is : (a b : ℕ) → a ≤ b → nat_le a b ≡ true
le_is a b h = grind (arith, nat_tests)

is_lt : (a b : ℕ) → nat_lt a b ≡ true → a < b
is_lt a b e = grind (arith, nat_tests)

lt_is : (a b : ℕ) → a < b → nat_lt a b ≡ true
lt_is a b h = grind (arith, nat_tests)

pub in_span : (p : Span) (a : ℕ) → lies_within p a ≡ true → IsInSpan p a
in_span p a e = let t = and_parts (nat_le p.first a) (nat_lt a p.end) e in record { from = is_le p.first a t.0; below = is_lt a p.end t.1 }

pub span_in : (p : Span) (a : ℕ) → IsInSpan p a → lies_within p a ≡ true
span_in p a h = both (nat_le p.first a) (nat_lt a p.end) (le_is p.first a h.from) (lt_is a p.end h.below)

-- how many moves functions have

abbrev pub moves_held : List Span → List Move → ℕ
moves_held [] ms = 0
moves_held (p ∷ ps) ms = length (filter (λ m. lies_within p m.at) ms) + moves_held ps ms

-- in how many functions an address lies
abbrev holders : List Span → ℕ → ℕ
holders [] a = 0
holders (p ∷ ps) a = (if lies_within p a then 1 else 0) + holders ps a

abbrev all_holders : List Span → List Move → ℕ
all_holders ps [] = 0
all_holders ps (m ∷ ms) = holders ps m.at + all_holders ps ms

all-none : (ms : List Move) → all_holders [] ms ≡ 0
all-none [] = refl
all-none (m ∷ ms) = let r = all-none ms in omega (arith, r)

all-more : (p : Span) (ps : List Span) (ms : List Move) → length (filter (λ m. lies_within p m.at) ms) + all_holders ps ms ≡ all_holders (p ∷ ps) ms
all-more p ps [] = refl
all-more p ps (m ∷ ms) = by_test (lies_within p m.at) (all-more p ps ms)
  where
    by_test : (b : Bool) → length (filter (λ m. lies_within p m.at) ms) + all_holders ps ms ≡ all_holders (p ∷ ps) ms →
        length (if b then m ∷ filter (λ m. lies_within p m.at) ms else filter (λ m. lies_within p m.at) ms) + (holders ps m.at + all_holders ps ms) ≡ ((if b then 1 else 0) + holders ps m.at) + all_holders (p ∷ ps) ms
    by_test true r = omega (arith, r)
    by_test false r = omega (arith, r)

held-holders : (ps : List Span) (ms : List Move) → moves_held ps ms ≡ all_holders ps ms
held-holders [] ms = sym (all-none ms)
held-holders (p ∷ ps) ms = ap (λ n. length (filter (λ m. lies_within p m.at) ms) + n) (held-holders ps ms) ∙ all-more p ps ms

-- functions that are apart: an address lies in one at most

none_holds : (p : Span) (ps : List Span) (a : ℕ) → All (AreApart p) ps → IsInSpan p a → holders ps a ≡ 0
none_holds p [] a h i = refl
none_holds p (q ∷ ps) a h i = by_test (none_holds p ps a (All-tail (AreApart p) q ps h) i) (lies_within q a) refl
  where
    by_test : holders ps a ≡ 0 → (b : Bool) → lies_within q a ≡ b → (if b then 1 else 0) + holders ps a ≡ 0
    by_test rest true e = absurd (All-head (AreApart p) q ps h a i (in_span q a e))
    by_test rest false e = omega (arith, rest)

one_holds : (ps : List Span) (a : ℕ) → AreAllApart ps → holders ps a ≤ 1
one_holds [] a h = omega arith
one_holds (p ∷ ps) a h = by_test (one_holds ps a h.1) (lies_within p a) refl
  where
    by_test : holders ps a ≤ 1 → (b : Bool) → lies_within p a ≡ b → (if b then 1 else 0) + holders ps a ≤ 1
    by_test rest true e = let z = none_holds p ps a h.0 (in_span p a e) in omega (arith, z)
    by_test rest false e = omega (arith, rest)

held_one : (ps : List Span) (a : ℕ) → 0 < holders ps a → IsInOne ps a
held_one [] a h = absurd (omega arith)
held_one (p ∷ ps) a h = by_test (held_one ps a) (lies_within p a) refl h
  where
    by_test : (0 < holders ps a → IsInOne ps a) → (b : Bool) → lies_within p a ≡ b → 0 < (if b then 1 else 0) + holders ps a → IsInOne (p ∷ ps) a
    by_test rest true e h = inl (in_span p a e)
    by_test rest false e h = inr (rest (let k : 0 < 0 + holders ps a = h in omega (arith, k)))

one_held : (ps : List Span) (a : ℕ) → IsInOne ps a → 0 < holders ps a
one_held [] a h = absurd h
one_held (p ∷ ps) a (inl h) = by_test (lies_within p a) (span_in p a h)
  where
    by_test : (b : Bool) → b ≡ true → 0 < (if b then 1 else 0) + holders ps a
    by_test true e = omega arith
    by_test false e = cc
one_held (p ∷ ps) a (inr h) = let r = one_held ps a h in omega arith

all_below : (ps : List Span) (ms : List Move) → AreAllApart ps → all_holders ps ms ≤ length ms
all_below ps [] h = omega arith
all_below ps (m ∷ ms) h = let r = all_below ps ms h in let o = one_holds ps m.at h in omega (arith, r, o)

pub held_below : (ps : List Span) (ms : List Move) → AreAllApart ps → moves_held ps ms ≤ length ms
held_below ps ms h = let e = held-holders ps ms in let r = all_below ps ms h in omega (arith, e, r)

all_cover : (ps : List Span) (ms : List Move) → AreAllApart ps → all_holders ps ms ≡ length ms → All (λ m. IsInOne ps m.at) ms
all_cover ps [] h e = All-nil _
all_cover ps (m ∷ ms) h e =
    let o = one_holds ps m.at h in
    let r = all_below ps ms h in
    All-cons (λ m. IsInOne ps m.at) m ms (held_one ps m.at (omega (arith, e, o, r))) (all_cover ps ms h (omega (arith, e, o, r)))

cover_all : (ps : List Span) (ms : List Move) → AreAllApart ps → All (λ m. IsInOne ps m.at) ms → all_holders ps ms ≡ length ms
cover_all ps [] h all = refl
cover_all ps (m ∷ ms) h all =
    let o = one_holds ps m.at h in
    let s = one_held ps m.at (All-head (λ m. IsInOne ps m.at) m ms all) in
    let r = cover_all ps ms h (All-tail (λ m. IsInOne ps m.at) m ms all) in omega (arith, o, s, r)

pub held_cover : (ps : List Span) (ms : List Move) → AreAllApart ps → moves_held ps ms ≡ length ms → All (λ m. IsInOne ps m.at) ms
held_cover ps ms h e = all_cover ps ms h (sym (held-holders ps ms) ∙ e)

pub cover_held : (ps : List Span) (ms : List Move) → AreAllApart ps → All (λ m. IsInOne ps m.at) ms → moves_held ps ms ≡ length ms
cover_held ps ms h all = held-holders ps ms ∙ cover_all ps ms h all

-- the turns of the loop that adds up
pub held_more : (ps : List Span) (ms : List Move) (i n : ℕ) (d : Span) → i < length ps → n ≡ length (filter (λ m. lies_within (get_or ps i d) m.at) ms) → n + moves_held (drop (i + 1) ps) ms ≡ moves_held (drop i ps) ms
held_more ps ms i n d lt e =
    let f : drop i ps ≡ get_or ps i d ∷ drop (i + 1) ps = rw add-one (drop-cons ps i d lt) in
    ap (λ k. k + moves_held (drop (i + 1) ps) ms) e ∙ ap (λ qs. moves_held qs ms) (sym f)

pub held_none : (ps : List Span) (ms : List Move) (i : ℕ) → length ps ≤ i → moves_held (drop i ps) ms ≡ 0
held_none [] ms zero h = refl
held_none [] ms (suc i) h = refl
held_none (p ∷ ps) ms zero h = absurd (omega arith)
held_none (p ∷ ps) ms (suc i) h = held_none ps ms i (omega arith)

-- calls of earlier functions

any_more : {X : Type 0} (P : X → Type 0) (x : X) (xs : List X) → Any P xs → Any P (x ∷ xs)
any_more P x xs (k, y, lt, is, r) = (suc k, y, omega arith, is, r)

pub one_at : (ps : List Span) (a i : ℕ) (d : Span) → i < length ps → IsInSpan (get_or ps i d) a → IsInOne ps a
one_at [] a i d lt h = absurd (omega arith)
one_at (p ∷ ps) a zero d lt h = inl h
one_at (p ∷ ps) a (suc i) d lt h = inr (one_at ps a i d (omega arith) h)

pub at_one : (ps : List Span) (a : ℕ) → IsInOne ps a → (i : ℕ) × (i < length ps) × ((d : Span) → IsInSpan (get_or ps i d) a)
at_one [] a h = absurd h
at_one (p ∷ ps) a (inl h) = (0, omega arith, λ d. h)
at_one (p ∷ ps) a (inr h) = let r = at_one ps a h in let lt = r.1 in (suc r.0, omega arith, r.2)

earlier_from : (ps : List Span) (t a i : ℕ) (d : Span) → i < length ps → IsInSpan (get_or ps i d) a → Any (λ p. p.first ≡ t) (take i ps) → BeginsEarlier ps t a
earlier_from [] t a i d lt h any = absurd (omega arith)
earlier_from (p ∷ ps) t a zero d lt h (k, q, less, is, begins) = absurd (omega arith)
earlier_from (p ∷ ps) t a (suc i) d lt h (zero, q, less, is, begins) = inl (ap (λ p. p.first) is ∙ begins, one_at ps a i d (omega arith) h)
earlier_from (p ∷ ps) t a (suc i) d lt h (suc k, q, less, is, begins) = inr (earlier_from ps t a i d (omega arith) h (k, q, omega arith, is, begins))

earlier_in : (ps : List Span) (t a : ℕ) → BeginsEarlier ps t a → IsInOne ps a
earlier_in [] t a h = h
earlier_in (p ∷ ps) t a (inl h) = inr h.1
earlier_in (p ∷ ps) t a (inr h) = inr (earlier_in ps t a h)

not_one : (p : Span) (ps : List Span) (a : ℕ) → All (AreApart p) ps → IsInSpan p a → IsInOne ps a → ⊥
not_one p [] a h i one = one
not_one p (q ∷ ps) a h i (inl one) = All-head (AreApart p) q ps h a i one
not_one p (q ∷ ps) a h i (inr one) = not_one p ps a (All-tail (AreApart p) q ps h) i one

to_earlier : (ps : List Span) (t a i : ℕ) (d : Span) → AreAllApart ps → i < length ps → IsInSpan (get_or ps i d) a → BeginsEarlier ps t a → Any (λ p. p.first ≡ t) (take i ps)
to_earlier [] t a i d apart lt h e = absurd (omega arith)
to_earlier (p ∷ ps) t a zero d apart lt h (inl e) = absurd (not_one p ps a apart.0 h e.1)
to_earlier (p ∷ ps) t a zero d apart lt h (inr e) = absurd (not_one p ps a apart.0 h (earlier_in ps t a e))
to_earlier (p ∷ ps) t a (suc i) d apart lt h (inl e) = (0, p, omega arith, refl, e.0)
to_earlier (p ∷ ps) t a (suc i) d apart lt h (inr e) = any_more (λ p. p.first ≡ t) p (take i ps) (to_earlier ps t a i d apart.1 (omega arith) h e)

-- functions whose moves stay in them and call earlier ones

abbrev AllStay : List Span → List Move → Type 0
AllStay ps ms = All (λ m. All (StaysIn m) ps) ms

pub fit_from : (s : System) (ps : List Span) → All HoldsFirst ps → AreAllApart ps → All (λ m. IsInOne ps m.at) s.moves → KeepUpTo (length ps) ps s.moves → SpansFit s ps
fit_from s ps filled apart covered keep = record {
  filled = filled;
  apart = apart;
  covered = covered;
  stays = λ k m lt i p long within. (kept i p long k m lt within).stays;
  calls = λ k m lt target back to behind.
      let o = at_one ps (get_or s.moves k m).at (covered k m lt) in
      let d : Span = record { first = 0; end = 0 } in
      earlier_from ps target (get_or s.moves k m).at o.0 d o.1 (o.2 d) ((kept o.0 d o.1 k m lt (o.2 d)).calls target back to behind);
}
  where
    kept : (i : ℕ) (p : Span) → i < length ps → (k : ℕ) (m : Move) → k < length s.moves → IsInSpan (get_or ps i p) (get_or s.moves k m).at → KeepsTo (take i ps) (get_or ps i p) (get_or s.moves k m)
    kept i p long k m lt within =
        from_filter (λ m. lies_within (get_or ps i p) m.at) (KeepsTo (take i ps) (get_or ps i p)) s.moves ((keep i long).all p) k m lt (span_in (get_or ps i p) (get_or s.moves k m).at within)

pub keep_from : (s : System) (ps : List Span) → SpansFit s ps → KeepUpTo (length ps) ps s.moves
keep_from s ps h i lt = record {
  all = λ d. filter_from (λ m. lies_within (get_or ps i d) m.at) (KeepsTo (take i ps) (get_or ps i d)) s.moves
      (λ k m long e.
      let within = in_span (get_or ps i d) (get_or s.moves k m).at e in
      record {
        stays = h.stays k m long i d lt within;
        calls = λ target back to behind. to_earlier ps target (get_or s.moves k m).at i d h.apart lt within (h.calls k m long target back to behind);
      });
}

-- what the code asks at a place
pub keep_at : (ps : List Span) (ms steps : List Move) (i : ℕ) (d : Span) → i < length ps → steps ≡ filter (λ m. lies_within (get_or ps i d) m.at) ms → All (KeepsTo (take i ps) (get_or ps i d)) steps → KeepAt i ps ms
keep_at ps ms steps i d lt e all = record { all = λ f. subst (λ (p : Span). All (KeepsTo (take i ps) p) (filter (λ m. lies_within p m.at) ms)) (get_or_default ps i d f lt) (subst (λ xs. All (KeepsTo (take i ps) (get_or ps i d)) xs) e all) }

pub at_keep : (ps : List Span) (ms steps : List Move) (i : ℕ) (d : Span) → steps ≡ filter (λ m. lies_within (get_or ps i d) m.at) ms → KeepAt i ps ms → All (KeepsTo (take i ps) (get_or ps i d)) steps
at_keep ps ms steps i d e h = subst (λ xs. All (KeepsTo (take i ps) (get_or ps i d)) xs) (sym e) (h.all d)

abbrev or_zero : Option ℕ → ℕ
or_zero None = 0
or_zero (Some a) = a

pub same_some : (a b : ℕ) → Some a ≡ Some b → a ≡ b
same_some a b e = ap or_zero e
