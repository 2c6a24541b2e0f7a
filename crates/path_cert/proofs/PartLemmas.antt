-- The form of listed flows and potentials: they ascend as the moves do.
use Rattle.std.proofs.Common.{◌≡◌, ◌≢◌, ℕ, zero, suc, ◌<◌, ℤ, pos, ◌<ℤ◌, arith, refl, ap, List, [], ◌∷◌, Contains, All, inl, inr, ◌⊎◌, Bool, true, false, cond}
use Rattle.std.specs.Prelude.{◌==◌, ◌&&◌}
use Rattle.std.proofs.lemmas.Int.{ints}
use Rattle.std.proofs.lemmas.Bool.Decides.{eqb_tells}
use Rattle.std.proofs.lemmas.List.Elements.{All-head, All-tail, All-contains, All-cons, All-nil}
use Rattle.code_flow_system.specs.declared.cert.Part.{Part}
use Rattle.code_flow_system.specs.declared.moves.Move.{Move}
use Rattle.code_flow_system.specs.Systems.{ComesBefore, AreAscending}
use Rattle.code_flow_system.specs.Certificates.{AddressesAscend, PartsAscend, IsPart, IsSmall, has_move}
use Rattle.loop_walks.specs.Walks.{worth_at}
use Rattle.path_places.specs.Places.{place_of}
use Rattle.path_places.specs.Duals.{potentials_of}
use Rattle.path_flows.specs.Flows.{parts_of}

-- ---- potentials

potentials_behind : (all : List Move) (ws : List ℤ) (m : Move) (ms : List Move) → m.number ≡ 0 → All (ComesBefore m) ms → All (λ u. m.at < u.0) (potentials_of all ws ms)
potentials_behind all ws m [] z h = All-nil (λ u. m.at < u.0)
potentials_behind all ws m (k ∷ ms) z h = elim (eqb_tells k.number 0) [
  | inl e ↦ rw e.0 (All-cons (λ u. m.at < u.0) (k.at, worth_at ws (place_of all k.at)) (potentials_of all ws ms)
      (elim (All-head (ComesBefore m) k ms h) [ inl lt ↦ lt | inr n ↦ let n1 = n.1 in let e1 = e.1 in absurd (omega (arith, n1, e1)) ])
      (potentials_behind all ws m ms z (All-tail (ComesBefore m) k ms h)))
  | inr e ↦ rw e.0 (potentials_behind all ws m ms z (All-tail (ComesBefore m) k ms h))
]

pub potentials_ascend : (all : List Move) (ws : List ℤ) (ms : List Move) → AreAscending ms → AddressesAscend (potentials_of all ws ms)
potentials_ascend all ws [] up = tt
potentials_ascend all ws (m ∷ ms) up = elim (eqb_tells m.number 0) [
  | inl e ↦ rw e.0 (potentials_behind all ws m ms e.1 up.0, potentials_ascend all ws ms up.1)
  | inr e ↦ rw e.0 (potentials_ascend all ws ms up.1)
]

-- ---- parts

-- what holds of the parts of moves with an amount
parts_each : (P : Part → Type 0) (ms : List Move) (us : List ℕ) → ((m : Move) → Contains ms m → (u : ℕ) → u ≢ 0 → P (record { at = m.at; number = m.number; part = pos u })) → All P (parts_of ms us)
parts_each P [] us h = All-nil P
parts_each P (m ∷ ms) [] h = All-nil P
parts_each P (m ∷ ms) (u ∷ us) h = elim (eqb_tells u 0) [
  | inl e ↦ rw e.0 (parts_each P ms us (λ k i. h k (suc i.0, omega (arith, i.1), i.2)))
  | inr e ↦ rw e.0 (All-cons P (record { at = m.at; number = m.number; part = pos u }) (parts_of ms us) (h m (zero, omega arith, refl) u e.1) (parts_each P ms us (λ k i. h k (suc i.0, omega (arith, i.1), i.2))))
]

pub parts_ascend : (ms : List Move) (us : List ℕ) → AreAscending ms → PartsAscend (parts_of ms us)
parts_ascend [] us up = tt
parts_ascend (m ∷ ms) [] up = tt
parts_ascend (m ∷ ms) (u ∷ us) up = elim (eqb_tells u 0) [
  | inl e ↦ rw e.0 (parts_ascend ms us up.1)
  | inr e ↦ rw e.0 (
    parts_each (λ q. (m.at < q.at) ⊎ ((m.at ≡ q.at) × (m.number < q.number))) ms us (λ k i v d. All-contains (ComesBefore m) ms k up.0 i),
    parts_ascend ms us up.1,
  )
]

pub parts_positive : (ms : List Move) (us : List ℕ) → All (λ p. pos 0 <ℤ p.part) (parts_of ms us)
parts_positive ms us = parts_each (λ p. pos 0 <ℤ p.part) ms us (λ m i u d. positive u d)
  where
    positive : (u : ℕ) → u ≢ 0 → pos 0 <ℤ pos u
    positive zero d = absurd (d refl)
    positive (suc u) d = omega (arith, ints)

moves_have : (ms : List Move) (m : Move) → Contains ms m → has_move ms m.at m.number ≡ true
moves_have [] m (i, lt, e) = absurd (omega (arith, lt))
moves_have (x ∷ ms) m (zero, lt, e) =
    let a = self x.at m.at (ap (λ (y : Move). y.at) e) in
    let b = self x.number m.number (ap (λ (y : Move). y.number) e) in rw (a, b) refl
  where
    self : (a b : ℕ) → a ≡ b → (a == b) ≡ true
    self a b e = elim (eqb_tells a b) [ inl k ↦ k.0 | inr k ↦ absurd (k.1 e) ]
moves_have (x ∷ ms) m (suc i, lt, e) = later ((x.at == m.at) && (x.number == m.number)) (moves_have ms m (i, omega (arith, lt), e))
  where
    later : (t : Bool) → has_move ms m.at m.number ≡ true → cond t true (has_move ms m.at m.number) ≡ true
    later true h = refl
    later false h = h

pub parts_there : (ms : List Move) (us : List ℕ) → All (λ p. has_move ms p.at p.number ≡ true) (parts_of ms us)
parts_there ms us = parts_each (λ p. has_move ms p.at p.number ≡ true) ms us (λ m i u d. moves_have ms m i)

pub parts_are : (ps : List Part) → All (λ p. pos 0 <ℤ p.part) ps → All (λ p. IsSmall p.part) ps → All IsPart ps
parts_are [] h k = All-nil IsPart
parts_are (p ∷ ps) h k = All-cons IsPart p ps (record { positive = All-head (λ q. pos 0 <ℤ q.part) p ps h; small = All-head (λ q. IsSmall q.part) p ps k })
    (parts_are ps (All-tail (λ q. pos 0 <ℤ q.part) p ps h) (All-tail (λ q. IsSmall q.part) p ps k))
