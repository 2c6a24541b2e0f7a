-- An image and claims have one system.
use Rattle.std.proofs.Common.{◌≡◌, ◌≢◌, ℕ, ◌<◌, ◌≤◌, ◌⊎◌, suc, inl, inr, arith, refl, sym, ap, ◌∙◌, subst, List, [], ◌∷◌, Contains, All, Bool, true, false}
use Rattle.std.specs.Prelude.{◌==◌, if◌then◌else◌}
use Rattle.std.proofs.lemmas.Bool.{cases_lt}
use Rattle.std.proofs.lemmas.Bool.Decides.{nat_tests, eqb_tells}
use Rattle.std.proofs.lemmas.List.Elements.{All-head, All-tail}
use Rattle.rv_core.specs.Images.{Image}
use Rattle.code_flow_system.specs.declared.moves.Move.{Move}
use Rattle.code_flow_system.specs.Claims.{Claims}
use Rattle.code_flow_system.specs.Moves.{code_of}
use Rattle.code_flow_system.specs.Reach.{IsReached}
use Rattle.code_flow_system.specs.Systems.{System, ComesBefore, AreAscending, moves_from, IsSystemOf}

same_test : (a : ℕ) → (a == a) ≡ true
same_test a = grind (arith, nat_tests)

other_test : (a b : ℕ) → a ≢ b → (a == b) ≡ false
other_test a b e = grind (arith, nat_tests)

moves_from-here : (m : Move) (ms : List Move) → moves_from (m ∷ ms) m.at ≡ m ∷ moves_from ms m.at
moves_from-here m ms = ap (λ (b : Bool). if b then m ∷ moves_from ms m.at else moves_from ms m.at) (same_test m.at)

moves_from-elsewhere : (m : Move) (ms : List Move) (a : ℕ) → m.at ≢ a → moves_from (m ∷ ms) a ≡ moves_from ms a
moves_from-elsewhere m ms a e = ap (λ (b : Bool). if b then m ∷ moves_from ms a else moves_from ms a) (other_test m.at a e)

-- the moves behind one lie at no lesser address
not_less : (m n : Move) → ComesBefore m n → m.at ≤ n.at
not_less m n (inl lt) = omega (arith, lt)
not_less m n (inr e) = omega (arith, e.0)

moves_from-below : (m : Move) (ms : List Move) (a : ℕ) → All (ComesBefore m) ms → a < m.at → moves_from ms a ≡ []
moves_from-below m [] a h lt = refl
moves_from-below m (n ∷ ms) a h lt =
    let le : m.at ≤ n.at = not_less m n (All-head (ComesBefore m) n ms h) in
    moves_from-elsewhere n ms a (λ e. absurd (omega (arith, e, le, lt))) ∙ moves_from-below m ms a (All-tail (ComesBefore m) n ms h) lt

abbrev SameFrom : List Move → List Move → Type 0
SameFrom ms ks = (a : ℕ) → moves_from ms a ≡ moves_from ks a

-- the first of two lists doesn't lie below the other's first
first_below : (m k : Move) (ms ks : List Move) → All (ComesBefore k) ks → SameFrom (m ∷ ms) (k ∷ ks) → m.at < k.at → ⊥
first_below m k ms ks h same lt =
    let none : moves_from (k ∷ ks) m.at ≡ [] = moves_from-elsewhere k ks m.at (λ e. absurd (omega (arith, e, lt))) ∙ moves_from-below k ks m.at h lt in
    let e : m ∷ moves_from ms m.at ≡ [] = sym (moves_from-here m ms) ∙ (same m.at ∙ none) in
    cc

same_first : (m k : Move) (ms ks : List Move) → SameFrom (m ∷ ms) (k ∷ ks) → m.at ≡ k.at → m ≡ k
same_first m k ms ks same e =
    let f : moves_from (k ∷ ks) m.at ≡ k ∷ moves_from ks k.at = subst (λ a. moves_from (k ∷ ks) a ≡ k ∷ moves_from ks k.at) (sym e) (moves_from-here k ks) in
    let g : m ∷ moves_from ms m.at ≡ k ∷ moves_from ks k.at = sym (moves_from-here m ms) ∙ (same m.at ∙ f) in
    cc

same_rest : (m : Move) (ms ks : List Move) → SameFrom (m ∷ ms) (m ∷ ks) → SameFrom ms ks
same_rest m ms ks same a = elim (eqb_tells m.at a) [
  | inl e ↦ subst (λ b. moves_from ms b ≡ moves_from ks b) e.1 here
  | inr e ↦ sym (moves_from-elsewhere m ms a e.1) ∙ (same a ∙ moves_from-elsewhere m ks a e.1)
]
  where
    here : moves_from ms m.at ≡ moves_from ks m.at
    here =
        let e : m ∷ moves_from ms m.at ≡ m ∷ moves_from ks m.at = sym (moves_from-here m ms) ∙ (same m.at ∙ moves_from-here m ks) in
        cc

-- ascending lists with the same moves at each address are the same
same_moves : (ms ks : List Move) → AreAscending ms → AreAscending ks → SameFrom ms ks → ms ≡ ks
same_moves [] [] p q same = refl
same_moves [] (k ∷ ks) p q same = let e : [] ≡ k ∷ moves_from ks k.at = same k.at ∙ moves_from-here k ks in cc
same_moves (m ∷ ms) [] p q same = let e : m ∷ moves_from ms m.at ≡ [] = sym (moves_from-here m ms) ∙ same m.at in cc
same_moves (m ∷ ms) (k ∷ ks) p q same =
    let e : m ≡ k = firsts (cases_lt m.at k.at) (cases_lt k.at m.at) in
    let rest : ms ≡ ks = same_moves ms ks p.1 q.1 (same_rest m ms ks (subst (λ (n : Move). SameFrom (m ∷ ms) (n ∷ ks)) (sym e) same)) in
    cc
  where
    firsts : (m.at < k.at) ⊎ (k.at ≤ m.at) → (k.at < m.at) ⊎ (m.at ≤ k.at) → m ≡ k
    firsts (inl lt) x = absurd (first_below m k ms ks q.0 same lt)
    firsts (inr le) (inl lt) = absurd (first_below k m ks ms p.0 (λ a. sym (same a)) lt)
    firsts (inr le) (inr ge) = same_first m k ms ks same (omega (arith, le, ge))

-- an address with moves is reached
reached_from : (P : ℕ → Type 0) (ms : List Move) (a : ℕ) → ((m : Move) → Contains ms m → P m.at) → moves_from ms a ≢ [] → P a
reached_from P [] a h some = absurd (some refl)
reached_from P (m ∷ ms) a h some = elim (eqb_tells m.at a) [
  | inl e ↦ subst P e.1 (h m (0, omega arith, refl))
  | inr e ↦ reached_from P ms a (λ n k. h n (suc k.0, omega (arith, k.1), k.2)) (λ none. some (moves_from-elsewhere m ms a e.1 ∙ none))
]

none_or_some : (ms : List Move) → (ms ≡ []) ⊎ (ms ≢ [])
none_or_some [] = inl refl
none_or_some (m ∷ ms) = inr (λ e. cc)

same_from : (image : Image) (claims : Claims) (s r : System) → IsSystemOf image claims s → IsSystemOf image claims r → SameFrom s.moves r.moves
same_from image claims s r p q a = by_moves (none_or_some (moves_from s.moves a)) (none_or_some (moves_from r.moves a))
  where
    both : IsReached (code_of image claims) image.entry a → moves_from s.moves a ≡ moves_from r.moves a
    both h = p.own a h ∙ sym (q.own a h)

    by_moves : (moves_from s.moves a ≡ []) ⊎ (moves_from s.moves a ≢ []) → (moves_from r.moves a ≡ []) ⊎ (moves_from r.moves a ≢ []) → moves_from s.moves a ≡ moves_from r.moves a
    by_moves (inr some) x = both (reached_from (IsReached (code_of image claims) image.entry) s.moves a p.reached some)
    by_moves (inl none) (inr some) = both (reached_from (IsReached (code_of image claims) image.entry) r.moves a q.reached some)
    by_moves (inl none) (inl too) = none ∙ sym too

same_system : (s r : System) → s.entry ≡ r.entry → s.claims ≡ r.claims → s.moves ≡ r.moves → s ≡ r
same_system s r e f g = λ i. record { entry = e i; claims = f i; moves = g i }

pub one_system : (image : Image) (claims : Claims) (s r : System) → IsSystemOf image claims s → IsSystemOf image claims r → s ≡ r
one_system image claims s r p q =
    same_system s r (p.same_entry ∙ sym q.same_entry) (p.same_claims ∙ sym q.same_claims) (same_moves s.moves r.moves p.ascending q.ascending (same_from image claims s r p q))
