-- The potential of an address is the worth of its place, since each address has one move of number 0.
use Rattle.std.proofs.Common.{◌≡◌, ◌≢◌, ℕ, zero, suc, ℤ, pos, ◌+ℤ◌, arith, refl, sym, ap, ◌∙◌, subst, List, [], ◌∷◌, Contains, All, inl, inr, Bool, true, false, cond}
use Rattle.std.specs.Prelude.{◌==◌}
use Rattle.std.proofs.lemmas.Int.{ints}
use Rattle.std.proofs.lemmas.Bool.Decides.{eqb_tells}
use Rattle.std.proofs.lemmas.List.Elements.{All-cons, All-nil}
use Rattle.frac128.specs.Terms.{coefficient}
use Rattle.rv_core.specs.Instructions.{Instruction}
use Rattle.code_flow_system.specs.declared.moves.Move.{Move}
use Rattle.code_flow_system.specs.declared.moves.Way.{Way}
use Rattle.code_flow_system.specs.declared.moves.Way.TheVariants.{Next, Branches, Jumps, Calls, Ends, Strays}
use Rattle.code_flow_system.specs.Claims.{is_listed}
use Rattle.code_flow_system.specs.Moves.{way_of, moves_on}
use Rattle.code_flow_system.specs.Systems.{System, IsSystem, has_moves, moves_from}
use Rattle.code_flow_system.specs.Certificates.{is_given}
use Rattle.loop_walks.specs.Walks.{worth_at}
use Rattle.path_places.specs.Places.{place_of}
use Rattle.path_places.specs.Duals.{potentials_of}

pub all_of : {X : Type 0} (P : X → Type 0) (xs : List X) → ((x : X) → Contains xs x → P x) → All P xs
all_of P [] h = All-nil P
all_of P (x ∷ xs) h = All-cons P x xs (h x (zero, omega arith, refl)) (all_of P xs (λ y k. h y (suc k.0, omega (arith, k.1), k.2)))

-- what a function gives at the addresses of moves of number 0, added
abbrev zeros_by : (ℕ → ℤ) → List Move → ℤ
zeros_by f [] = pos 0
zeros_by f (m ∷ ms) = cond (m.number == 0) (f m.at) (pos 0) +ℤ zeros_by f ms

abbrev has_zero : List Move → Bool
has_zero [] = false
has_zero (m ∷ ms) = cond (m.number == 0) true (has_zero ms)

coefficient-zeros : (all : List Move) (ws : List ℤ) (ms : List Move) (a : ℕ) → coefficient (potentials_of all ws ms) a ≡ zeros_by (λ b. worth_at ws (place_of all b)) (moves_from ms a)
coefficient-zeros all ws [] a = refl
coefficient-zeros all ws (m ∷ ms) a = elim (eqb_tells m.at a) [
  | inl k ↦ elim (eqb_tells m.number 0) [
    | inl j ↦ rw j.0 (rw k.0 (rw j.0 (ap (λ (z : ℤ). worth_at ws (place_of all m.at) +ℤ z) (coefficient-zeros all ws ms a))))
    | inr j ↦ let r = coefficient-zeros all ws ms a in rw k.0 (rw j.0 (omega (arith, ints)))
  ]
  | inr k ↦ elim (eqb_tells m.number 0) [
    | inl j ↦ let r = coefficient-zeros all ws ms a in rw j.0 (rw k.0 (omega (arith, ints)))
    | inr j ↦ rw j.0 (rw k.0 (coefficient-zeros all ws ms a))
  ]
]

given-zero : (all : List Move) (ws : List ℤ) (ms : List Move) (a : ℕ) → is_given (potentials_of all ws ms) a ≡ has_zero (moves_from ms a)
given-zero all ws [] a = refl
given-zero all ws (m ∷ ms) a = elim (eqb_tells m.at a) [
  | inl k ↦ elim (eqb_tells m.number 0) [
    | inl j ↦ rw j.0 (rw k.0 (rw j.0 refl))
    | inr j ↦ rw k.0 (rw j.0 (given-zero all ws ms a))
  ]
  | inr k ↦ elim (eqb_tells m.number 0) [
    | inl j ↦ rw j.0 (rw k.0 (given-zero all ws ms a))
    | inr j ↦ rw j.0 (rw k.0 (given-zero all ws ms a))
  ]
]

from_some : (ms : List Move) (a : ℕ) → has_moves ms a ≡ true → moves_from ms a ≢ []
from_some [] a h = cc
from_some (m ∷ ms) a h = elim (eqb_tells m.at a) [
  | inl k ↦ rw k.0 (λ e. cc)
  | inr k ↦ rw k.0 (from_some ms a (later (m.at == a) k.0 h))
]
  where
    later : (t : Bool) → t ≡ false → cond t true (has_moves ms a) ≡ true → has_moves ms a ≡ true
    later true e h = cc
    later false e h = h

from_none : (ms : List Move) (a : ℕ) → has_moves ms a ≡ false → moves_from ms a ≡ []
from_none [] a h = refl
from_none (m ∷ ms) a h = elim (eqb_tells m.at a) [
  | inl k ↦ absurd (here (m.at == a) k.0 h)
  | inr k ↦ rw k.0 (from_none ms a (later (m.at == a) k.0 h))
]
  where
    here : (t : Bool) → t ≡ true → cond t true (has_moves ms a) ≡ false → ⊥
    here true e h = cc
    here false e h = cc

    later : (t : Bool) → t ≡ false → cond t true (has_moves ms a) ≡ false → has_moves ms a ≡ false
    later true e h = cc
    later false e h = h

zeros_on : (f : ℕ → ℤ) (w : Way) (a : ℕ) (i : Instruction) → moves_on w a i ≢ [] → zeros_by f (moves_on w a i) ≡ f a
zeros_on f Next a i some = omega (arith, ints)
zeros_on f (Branches t) a i some = omega (arith, ints)
zeros_on f (Jumps t) a i some = omega (arith, ints)
zeros_on f (Calls t) a i some = omega (arith, ints)
zeros_on f Ends a i some = omega (arith, ints)
zeros_on f Strays a i some = absurd (some refl)

zero_on : (w : Way) (a : ℕ) (i : Instruction) → moves_on w a i ≢ [] → has_zero (moves_on w a i) ≡ true
zero_on Next a i some = refl
zero_on (Branches t) a i some = refl
zero_on (Jumps t) a i some = refl
zero_on (Calls t) a i some = refl
zero_on Ends a i some = refl
zero_on Strays a i some = absurd (some refl)

module _ (s : System) (is : IsSystem s) (ws : List ℤ) where
  pub potential_at : (a : ℕ) → has_moves s.moves a ≡ true → coefficient (potentials_of s.moves ws s.moves) a ≡ worth_at ws (place_of s.moves a)
  potential_at a h =
      let o = is.own a h in
      coefficient-zeros s.moves ws s.moves a
      ∙ (ap (zeros_by (λ b. worth_at ws (place_of s.moves b))) o.are
      ∙ zeros_on (λ b. worth_at ws (place_of s.moves b)) (way_of (is_listed s.claims.exits a) o.before a o.instr) a o.instr (subst (λ ms. ms ≢ []) o.are (from_some s.moves a h)))

  -- a potential is given exactly where there are moves
  pub given_moves : (a : ℕ) → has_moves s.moves a ≡ is_given (potentials_of s.moves ws s.moves) a
  given_moves a = by_has (has_moves s.moves a) refl
    where
      by_has : (t : Bool) → has_moves s.moves a ≡ t → t ≡ is_given (potentials_of s.moves ws s.moves) a
      by_has true h =
          let o = is.own a h in
          sym (given-zero s.moves ws s.moves a
          ∙ (ap has_zero o.are ∙ zero_on (way_of (is_listed s.claims.exits a) o.before a o.instr) a o.instr (subst (λ ms. ms ≢ []) o.are (from_some s.moves a h))))
      by_has false h = sym (given-zero s.moves ws s.moves a ∙ ap has_zero (from_none s.moves a h))
