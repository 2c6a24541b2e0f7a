-- What code reaches is reached by the moves of its system.
use Rattle.std.proofs.Common.{◌≡◌, ℕ, zero, suc, arith, refl, sym, ap, ◌∙◌, subst, List, [], ◌∷◌, Contains, Bool, true, false, cond, inl, inr}
use Rattle.std.specs.Prelude.{◌==◌}
use Rattle.std.proofs.lemmas.Bool.Decides.{eqb_tells}
use Rattle.std.proofs.lemmas.List.Elements.{Contains-append_cases}
use Rattle.rv_core.specs.Images.{Image}
use Rattle.code_flow_system.specs.declared.moves.Move.{Move}
use Rattle.code_flow_system.specs.Claims.{Claims}
use Rattle.code_flow_system.specs.Moves.{code_of, destinations, destinations_of}
use Rattle.code_flow_system.specs.Reach.{ReachedIn}
use Rattle.code_flow_system.specs.Systems.{System, moves_from, IsSystemOf}
use Rattle.code_flow_system.proofs.ReachLemmas.{from_moves}
use Rattle.path_places.specs.Reached.{ReachedBy, AreReached}

-- one of the moves arrives there
move_to : (ms : List Move) (d : ℕ) → Contains (destinations_of ms) d → (m : Move) × Contains ms m × Contains (destinations m) d
move_to [] d (k, lt, e) = absurd (omega (arith, lt))
move_to (m ∷ ms) d h = elim (Contains-append_cases (destinations m) (destinations_of ms) d h) [
  | inl i ↦ (m, (zero, omega arith, refl), i)
  | inr i ↦ later (move_to ms d i)
]
  where
    later : ((k : Move) × Contains ms k × Contains (destinations k) d) → (k : Move) × Contains (m ∷ ms) k × Contains (destinations k) d
    later r = (r.0, (suc r.1.0, omega (arith, r.1.1), r.1.2), r.2)

-- moves of an address begin there
from_at : (ms : List Move) (a : ℕ) (m : Move) → Contains (moves_from ms a) m → m.at ≡ a
from_at [] a m (k, lt, e) = absurd (omega (arith, lt))
from_at (x ∷ ms) a m h = elim (eqb_tells x.at a) [
  | inl q ↦ here (x.at == a) q.0 q.1 (λ k. from_at ms a m k) h
  | inr q ↦ from_at ms a m (rest (x.at == a) q.0 h)
]
  where
    rest : (t : Bool) → t ≡ false → Contains (cond t (x ∷ moves_from ms a) (moves_from ms a)) m → Contains (moves_from ms a) m
    rest true e h = cc
    rest false e h = h

    here : (t : Bool) → t ≡ true → x.at ≡ a → (Contains (moves_from ms a) m → m.at ≡ a) → Contains (cond t (x ∷ moves_from ms a) (moves_from ms a)) m → m.at ≡ a
    here true t e later (zero, lt, f) = ap (λ (y : Move). y.at) (sym f) ∙ e
    here true t e later (suc k, lt, f) = later (k, omega (arith, lt), f)
    here false t e later h = cc

module _ (image : Image) (claims : Claims) (s : System) (is : IsSystemOf image claims s) where
  reached_by : (n a : ℕ) → ReachedIn (code_of image claims) image.entry n a → ReachedBy s.moves s.entry n a
  reached_by zero a e = e ∙ sym is.same_entry
  reached_by (suc n) a h =
      let own = is.own h.0 (n, h.1) in
      let m = move_to (moves_from s.moves h.0) a (subst (λ ms. Contains (destinations_of ms) a) (sym own) h.2) in
      (h.0, reached_by n h.0 h.1, (m.0, from_moves s.moves h.0 m.0 m.1, from_at s.moves h.0 m.0 m.1, m.2))

  pub all_reached : AreReached s
  all_reached m im = let r = is.reached m im in (r.0, reached_by r.0 m.at r.1)
