-- The moves of a word that goes a promised way.
use Rattle.std.proofs.Common.{◌≡◌, ◌⊎◌, inl, inr, ℕ, zero, suc, ◌+◌, ◌^◌, ◌<◌, [], ◌∷◌, Contains, Some, None, refl, ap, ◌∙◌, subst, arith}
use Rattle.rv_core.specs.Instructions.{Instruction}
use Rattle.rv_core.specs.Machine.{behind}
use Rattle.code_flow_system.specs.declared.moves.Move.{Move}
use Rattle.code_flow_system.specs.declared.moves.Way.{Way}
use Rattle.code_flow_system.specs.declared.moves.Way.TheVariants.{Next, Branches, Jumps, Calls, Ends, Strays}
use Rattle.code_flow_system.specs.Moves.{Code, move, moves_on, moves_at, moves_by, way_of, fetch_before, destinations}
use Rattle.code_flow_system.specs.Shapes.{onward}
use Rattle.asm_items.specs.Outcomes.{Around, GoesWell, CallsWell, IsFine}

pub one_of : {A : Type 0} (x t : A) → Contains (x ∷ []) t → x ≡ t
one_of x t (zero, lt, e) = e
one_of x t (suc n, lt, e) = absurd (omega arith)

pub two_of : {A : Type 0} (x y t : A) → Contains (x ∷ y ∷ []) t → (x ≡ t) ⊎ (y ≡ t)
two_of x y t (zero, lt, e) = inl e
two_of x y t (suc zero, lt, e) = inr e
two_of x y t (suc (suc n), lt, e) = absurd (omega arith)

none_of : {A : Type 0} (t : A) → Contains [] t → ⊥
none_of t (n, lt, e) = absurd (omega arith)

-- the moves of an address whose word goes this way
pub moves_of_way : (c : Code) (a : ℕ) (i : Instruction) (w : Way) → c.fetch a ≡ Some i → way_of (c.exit a) (fetch_before c a) a i ≡ w → moves_at c a ≡ moves_on w a i
moves_of_way c a i w there is = ap (moves_by c a) there ∙ ap (λ v. moves_on v a i) is

module _ (k : Around) (a : ℕ) (small : a + 4 < 2 ^ 32) where
  -- a move goes where the block promises
  pub record IsGood (m : Move) : Type 0 where
    pub at : m.at ≡ a
    pub onward : (t : ℕ) → Contains (onward m) t → GoesWell k a t
    pub arrives : (t : ℕ) → Contains (destinations m) t → GoesWell k a t ⊎ CallsWell k t
    pub calls : (t back : ℕ) → m.to ≡ Some t → m.behind ≡ Some back → CallsWell k t

  behind_is : a + 4 ≡ behind a
  behind_is = omega arith

  good_step : (n t : ℕ) (i : Instruction) → GoesWell k a t → IsGood (move a n i (Some t) None)
  good_step n t i h = record {
    at = refl;
    onward = λ u has. subst (GoesWell k a) (one_of t u has) h;
    arrives = λ u has. inl (subst (GoesWell k a) (one_of t u has) h);
    calls = λ u back e none. cc;
  }

  good_call : (t : ℕ) (i : Instruction) → CallsWell k t → GoesWell k a (behind a) → IsGood (move a 0 i (Some t) (Some (behind a)))
  good_call t i called h = record {
    at = refl;
    onward = λ u has. subst (GoesWell k a) (one_of (behind a) u has) h;
    arrives = λ u has. by_one u (two_of t (behind a) u has);
    calls = λ u back e some. let same : t ≡ u = cc in subst (CallsWell k) same called;
  }
    where
      by_one : (u : ℕ) → (t ≡ u) ⊎ (behind a ≡ u) → GoesWell k a u ⊎ CallsWell k u
      by_one u (inl e) = inr (subst (CallsWell k) e called)
      by_one u (inr e) = inl (subst (GoesWell k a) e h)

  good_end : (i : Instruction) → IsGood (move a 0 i None None)
  good_end i = record {
    at = refl;
    onward = λ u has. absurd (none_of u has);
    arrives = λ u has. absurd (none_of u has);
    calls = λ u back e some. cc;
  }

  pub good_moves : (w : Way) (i : Instruction) → IsFine k a w → (m : Move) → Contains (moves_on w a i) m → IsGood m
  good_moves Next i h m has = subst IsGood (one_of _ m has) (good_step 0 (behind a) i (subst (GoesWell k a) behind_is h))
  good_moves (Branches t) i h m has = by_one (two_of _ _ m has)
    where
      by_one : (move a 0 i (Some (behind a)) None ≡ m) ⊎ (move a 1 i (Some t) None ≡ m) → IsGood m
      by_one (inl e) = subst IsGood e (good_step 0 (behind a) i (subst (GoesWell k a) behind_is h.0))
      by_one (inr e) = subst IsGood e (good_step 1 t i h.1)
  good_moves (Jumps t) i h m has = subst IsGood (one_of _ m has) (good_step 0 t i h)
  good_moves (Calls t) i h m has = subst IsGood (one_of _ m has) (good_call t i h.0 (subst (GoesWell k a) behind_is h.1))
  good_moves Ends i h m has = subst IsGood (one_of _ m has) (good_end i)
  good_moves Strays i h m has = absurd h

  -- there is a move
  pub some_moves : (w : Way) (i : Instruction) → IsFine k a w → moves_on w a i ≡ [] → ⊥
  some_moves Next i h e = cc
  some_moves (Branches t) i h e = cc
  some_moves (Jumps t) i h e = cc
  some_moves (Calls t) i h e = cc
  some_moves Ends i h e = cc
  some_moves Strays i h e = absurd h
