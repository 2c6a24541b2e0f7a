-- The two instructions of a far jump are counted alike.
use Rattle.std.proofs.Common.{◌≡◌, ◌≢◌, ℕ, zero, suc, ◌+◌, ℤ, pos, ◌+ℤ◌, Bool, true, false, List, [], ◌∷◌, ◌++◌, Contains, Some, None, refl, sym, ap, ◌∙◌, subst, arith}
use Rattle.std.specs.Prelude.{◌==◌, if◌then◌else◌}
use Rattle.std.proofs.lemmas.Int.{ints}
use Rattle.std.proofs.lemmas.Bool.Decides.{nat_tests}
use Rattle.std.proofs.lemmas.List.Elements.{Contains-append_left, Contains-append_right}
use Rattle.frac128.specs.Terms.{coefficient, when_same}
use Rattle.frac128.proofs.TermsLemmas.{coefficient-append, when_same-here}
use Rattle.rv_core.specs.Instructions.{Instruction}
use Rattle.rv_core.specs.Images.{Image}
use Rattle.code_flow_system.specs.declared.moves.Move.{Move}
use Rattle.code_flow_system.specs.Claims.{Claims}
use Rattle.code_flow_system.specs.Moves.{Code, code_of, move, moves_at, destinations, destinations_of}
use Rattle.code_flow_system.specs.Reach.{GoesTo, IsReached, is_resolved}
use Rattle.code_flow_system.specs.Systems.{System, moves_from, IsSystemOf}
use Rattle.code_flow_system.specs.Counts.{Amounts, amount, each_with, arrivals, count, IsConserved}

same_number : (a b : ℕ) → (a == b) ≡ true → a ≡ b
same_number a b e = grind (arith, nat_tests)

other_number : (a b : ℕ) → (a == b) ≡ false → a ≢ b
other_number a b e = λ h. grind (arith, nat_tests)

when_other : (a b : ℕ) (n : ℤ) → a ≢ b → when_same a b n ≡ pos 0
when_other a b n other = let no : (a == b) ≡ false = grind (arith, nat_tests, other) in ap (λ (t : Bool). if t then n else pos 0) no

-- a move is among those of its address
among_own : (ms : List Move) (m : Move) → Contains ms m → Contains (moves_from ms m.at) m
among_own [] m (n, lt, e) = absurd (omega arith)
among_own (x ∷ ms) m (zero, lt, e) =
    let at : x.at ≡ m.at = ap (λ (y : Move). y.at) e in
    let test : (x.at == m.at) ≡ true = grind (arith, nat_tests) in
    subst (λ b. Contains (if b then x ∷ moves_from ms m.at else moves_from ms m.at) m) (sym test) (0, omega arith, e)
among_own (x ∷ ms) m (suc n, lt, e) = by_test (x.at == m.at) (among_own ms m (n, omega arith, e))
  where
    by_test : (b : Bool) → Contains (moves_from ms m.at) m → Contains (if b then x ∷ moves_from ms m.at else moves_from ms m.at) m
    by_test true (j, less, f) = (suc j, omega arith, f)
    by_test false h = h

-- and its destinations are among theirs
among_destinations : (ms : List Move) (m : Move) (t : ℕ) → Contains ms m → Contains (destinations m) t → Contains (destinations_of ms) t
among_destinations [] m t (n, lt, e) has = absurd (omega arith)
among_destinations (y ∷ ms) m t (zero, lt, e) has = Contains-append_left (destinations y) (destinations_of ms) t (subst (λ (z : Move). Contains (destinations z) t) (sym e) has)
among_destinations (y ∷ ms) m t (suc n, lt, e) has = Contains-append_right (destinations y) (destinations_of ms) t (among_destinations ms m t (n, omega arith, e) has)

none_arrives : (n : ℤ) (ds : List ℕ) (t : ℕ) → ((d : ℕ) → Contains ds d → d ≢ t) → coefficient (each_with n ds) t ≡ pos 0
none_arrives n [] t h = refl
none_arrives n (d ∷ ds) t h =
    let here = when_other d t n (h d (0, omega arith, refl)) in
    let rest = none_arrives n ds t (λ e c. let less = c.1 in h e (suc c.0, omega (arith, less), c.2)) in
    omega (arith, ints)

-- where the moves of one address alone arrive at another, and nowhere else
record Feeds (a t : ℕ) (m : Move) : Type 0 where
  here : m.at ≡ a → destinations m ≡ t ∷ []
  elsewhere : m.at ≢ a → (d : ℕ) → Contains (destinations m) d → d ≢ t

arrivals_are : (x : Amounts) (a t : ℕ) (ms : List Move) → ((m : Move) → Contains ms m → Feeds a t m) → coefficient (arrivals x ms) t ≡ count x ms a
arrivals_are x a t [] h = refl
arrivals_are x a t (m ∷ ms) h =
    let r = arrivals_are x a t ms (λ k c. let less = c.1 in h k (suc c.0, omega (arith, less), c.2)) in
    let e = coefficient-append (each_with (amount x m) (destinations m)) (arrivals x ms) t in
    by_place (m.at == a) refl (h m (0, omega arith, refl)) r e
  where
    by_place : (test : Bool) → (m.at == a) ≡ test → Feeds a t m → coefficient (arrivals x ms) t ≡ count x ms a
        → coefficient (each_with (amount x m) (destinations m) ++ arrivals x ms) t ≡ coefficient (each_with (amount x m) (destinations m)) t +ℤ coefficient (arrivals x ms) t
        → coefficient (each_with (amount x m) (destinations m) ++ arrivals x ms) t ≡ count x (m ∷ ms) a
    by_place true is feeds r e =
        let d = ap (λ ds. coefficient (each_with (amount x m) ds) t) (feeds.here (same_number m.at a is)) in
        let f = when_same-here t (amount x m) in
        let z : when_same m.at a (amount x m) ≡ amount x m = ap (λ (b : Bool). if b then amount x m else pos 0) is in
        omega (arith, ints)
    by_place false is feeds r e =
        let d = none_arrives (amount x m) (destinations m) t (feeds.elsewhere (other_number m.at a is)) in
        let z : when_same m.at a (amount x m) ≡ pos 0 = ap (λ (b : Bool). if b then amount x m else pos 0) is in
        omega (arith, ints)

one_of : {A : Type 0} (x t : A) → Contains (x ∷ []) t → x ≡ t
one_of x t (zero, less, e) = e
one_of x t (suc n, less, e) = absurd (omega arith)

module _ (image : Image) (claims : Claims) (s : System) (sys : IsSystemOf image claims s) (a : ℕ) (i : Instruction) (resolved : is_resolved (code_of image claims) (a + 4) ≡ true)
    (moves : moves_at (code_of image claims) a ≡ move a 0 i (Some (a + 4)) None ∷ []) where
  abbrev c : Code
  c = code_of image claims

  feeds : (m : Move) → Contains s.moves m → Feeds a (a + 4) m
  feeds m has = record {
    here = λ at.
        let own : Contains (moves_at c m.at) m = subst (λ ms. Contains ms m) (sys.own m.at (sys.reached m has)) (among_own s.moves m has) in
        let is : move a 0 i (Some (a + 4)) None ≡ m = one_of (move a 0 i (Some (a + 4)) None) m (subst (λ ms. Contains ms m) (ap (moves_at c) at ∙ moves) own) in
        sym (ap destinations is);
    elsewhere = λ other d there same.
        let own : Contains (moves_at c m.at) m = subst (λ ms. Contains ms m) (sys.own m.at (sys.reached m has)) (among_own s.moves m has) in
        let goes : GoesTo c m.at (a + 4) = subst (GoesTo c m.at) same (among_destinations (moves_at c m.at) m d own there) in
        let from = sys.reached m has in
        let arrives : IsReached c image.entry (a + 4) = (suc from.0, (m.at, from.1, goes)) in
        let behind = ((sys.code (a + 4) arrives).paired resolved).alone m.at from goes in
        omega (arith, other, behind);
  }

  no_entry : s.entry ≢ a + 4
  no_entry e =
      let at : a + 4 ≡ image.entry = sym e ∙ sys.same_entry in
      ((sys.code (a + 4) (0, at)).paired resolved).no_entry at

  pub pair_counted : (unit : ℕ) (x : Amounts) → IsConserved s.entry unit x s.moves → count x s.moves (a + 4) ≡ count x s.moves a
  pair_counted unit x conserved =
      let all = conserved (a + 4) in
      let none = when_other s.entry (a + 4) (pos unit) no_entry in
      let arrived = arrivals_are x a (a + 4) s.moves feeds in
      omega (arith, ints)
