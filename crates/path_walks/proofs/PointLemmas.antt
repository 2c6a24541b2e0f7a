-- What a search by halving tells of an ascending list.
use Rattle.std.proofs.Common.{◌≡◌, ℕ, zero, suc, ◌+◌, ◌<◌, ◌≤◌, arith, refl, sym, ap, ◌∙◌, List, [], ◌∷◌, ◌++◌, length, get_or, All, Option, Some, None, Bool, true, false, cond}
use Rattle.std.specs.Prelude.{◌==◌, ◌&&◌, ◌||◌, nat_lt, nat_le}
use Rattle.std.specs.List.Sorted.{IsNonDecreasingBy, IsPartitionPoint}
use Rattle.std.proofs.lemmas.Bool.Decides.{nat_tests}
use Rattle.std.proofs.lemmas.List.Elements.{All-head, All-tail, All-cons, All-nil, All-weaker}
use Rattle.code_flow_system.specs.declared.claims.Never.{Never}
use Rattle.code_flow_system.specs.declared.claims.LoopClaim.{LoopClaim}
use Rattle.code_flow_system.specs.declared.moves.Move.{Move}
use Rattle.code_flow_system.specs.declared.shapes.LoopShape.{LoopShape}
use Rattle.std.specs.Option.{option_to_list}
use Rattle.code_flow_system.specs.Moves.{destinations}
use Rattle.code_flow_system.specs.Shapes.{onward, onward_by, is_back}
use Rattle.code_flow_lookup.proofs.RunLemmas.{Rises, non_decreasing}
use Rattle.loop_walks.specs.declared.step.Step.{Step}
use Rattle.loop_walks.specs.Rows.{NotBefore, AreSteps}
use Rattle.path_places.specs.Places.{place_of, before, is_never, is_shut}
use Rattle.path_walks.specs.Opens.{AddressesRise, any_at, GoesBack}

rising : {X : Type 0} (key : X → ℕ) (xs : List X) → AddressesRise key xs → Rises key xs
rising key [] h = tt
rising key (x ∷ xs) h = (All-weaker (λ y. key x < key y) (λ y. key x ≤ key y) (λ y c. omega arith) xs h.0, rising key xs h.1)

pub rises : {X : Type 0} (key : X → ℕ) (xs : List X) → AddressesRise key xs → IsNonDecreasingBy key xs
rises key xs h = non_decreasing key xs (rising key xs h)

-- steps ascend by where they begin

not_before_all : (a : ℕ) (ms : List Step) → NotBefore a ms → All (λ (m : Step). a ≤ m.at) ms
not_before_all a [] h = All-nil (λ (m : Step). a ≤ m.at)
not_before_all a (m ∷ ms) h = All-cons (λ (k : Step). a ≤ k.at) m ms h.0 (not_before_all a ms h.1)

steps_rising : (n : ℕ) (ms : List Step) → AreSteps n ms → Rises (λ (m : Step). m.at) ms
steps_rising n [] h = tt
steps_rising n (m ∷ ms) h = (not_before_all m.at ms h.1, steps_rising n ms h.2)

pub steps_rise : (n : ℕ) (ms : List Step) → AreSteps n ms → IsNonDecreasingBy (λ (m : Step). m.at) ms
steps_rise n ms h = non_decreasing (λ (m : Step). m.at) ms (steps_rising n ms h)

-- the first n are before an address, and the others not
abbrev pub IsPoint : {X : Type 0} → (X → ℕ) → ℕ → List X → ℕ → Type 0
IsPoint key a xs n = IsPartitionPoint (λ x. nat_lt (key x) a ≡ true) (λ x. nat_lt (key x) a ≡ false) xs n

-- the rest of a list at a point
point_rest : {X : Type 0} (key : X → ℕ) (a : ℕ) (x : X) (xs : List X) (n : ℕ) → IsPoint key a (x ∷ xs) (suc n) → IsPoint key a xs n
point_rest key a x xs n p = (λ k d h l. p.0 (suc k) d (omega arith) (omega arith), λ k d h l. p.1 (suc k) d (omega arith) (omega arith))

none_rest : {X : Type 0} (key : X → ℕ) (a : ℕ) (x : X) (xs : List X) → IsPoint key a (x ∷ xs) zero → IsPoint key a xs zero
none_rest key a x xs p = (λ k d h l. absurd (omega arith), λ k d h l. p.1 (suc k) d (omega arith) (omega arith))

-- the place of an address is that of a search
pub place_is : (ms : List Move) (n a : ℕ) → n ≤ length ms → IsPoint (λ (m : Move). m.at) a ms n → n ≡ place_of ms a
place_is [] n a le p = omega arith
place_is (m ∷ ms) zero a le p =
    let i = place_is ms zero a (omega arith) (none_rest (λ (k : Move). k.at) a m ms p) in
    let e = ap (λ (t : Bool). cond t 1 0 + place_of ms a) (p.1 0 m (omega arith) (omega arith)) in
    omega (arith, i, e)
place_is (m ∷ ms) (suc n) a le p =
    let i = place_is ms n a (omega arith) (point_rest (λ (k : Move). k.at) a m ms n p) in
    let e = ap (λ (t : Bool). cond t 1 0 + place_of ms a) (p.0 0 m (omega arith) (omega arith)) in
    omega (arith, i, e)

below_next : (b a : ℕ) → nat_le b a ≡ nat_lt b (a + 1)
below_next b a = grind (arith, nat_tests)

pub behind_is : (ms : List Move) (n a : ℕ) → n ≤ length ms → IsPartitionPoint (λ (m : Move). nat_le m.at a ≡ true) (λ (m : Move). nat_le m.at a ≡ false) ms n → n ≡ place_of ms (a + 1)
behind_is ms n a le p = place_is ms n (a + 1) le (λ k d h l. sym (below_next (get_or ms k d).at a) ∙ p.0 k d h l, λ k d h l. sym (below_next (get_or ms k d).at a) ∙ p.1 k d h l)

-- as many steps are before a place
pub before_is : (ms : List Step) (n a : ℕ) → n ≤ length ms → IsPoint (λ (m : Step). m.at) a ms n → n ≡ before a ms
before_is [] n a le p = omega arith
before_is (m ∷ ms) zero a le p = sym (ap (λ (t : Bool). cond t (1 + before a ms) 0) (p.1 0 m (omega arith) (omega arith)))
before_is (m ∷ ms) (suc n) a le p =
    let i = before_is ms n a (omega arith) (point_rest (λ (k : Step). k.at) a m ms n p) in
    let e = ap (λ (t : Bool). cond t (1 + before a ms) 0) (p.0 0 m (omega arith) (omega arith)) in
    omega (arith, i, e)

-- an element with that key

less_is : (b a : ℕ) → nat_lt b a ≡ true → (b == a) ≡ false
less_is b a h = grind (arith, nat_tests)

more_is : (b c a : ℕ) → nat_lt b a ≡ false → b < c → (c == a) ≡ false
more_is b c a h l = grind (arith, nat_tests)

other : (t u v : Bool) → t ≡ false → (t && u) || v ≡ v
other true u v h = cc
other false u v h = refl

last : (t : Bool) → t || false ≡ t
last true = refl
last false = refl

module _ {X : Type 0} (key : X → ℕ) (test : X → Bool) where
  none_above : (xs : List X) (b a : ℕ) → nat_lt b a ≡ false → All (λ y. b < key y) xs → any_at key test xs a ≡ false
  none_above [] b a h l = refl
  none_above (x ∷ xs) b a h l = other (key x == a) (test x) (any_at key test xs a) (more_is b (key x) a h (All-head (λ y. b < key y) x xs l)) ∙ none_above xs b a h (All-tail (λ y. b < key y) x xs l)

  -- where all are before the address, none has it
  pub any_missing : (xs : List X) (n a : ℕ) → length xs ≤ n → IsPoint key a xs n → any_at key test xs a ≡ false
  any_missing [] n a le p = refl
  any_missing (x ∷ xs) zero a le p = absurd (omega arith)
  any_missing (x ∷ xs) (suc n) a le p = other (key x == a) (test x) (any_at key test xs a) (less_is (key x) a (p.0 0 x (omega arith) (omega arith))) ∙ any_missing xs n a (omega arith) (point_rest key a x xs n p)

  -- only the first one that isn't before it may have it
  pub any_found : (xs : List X) (n a : ℕ) (d : X) → AddressesRise key xs → n < length xs → IsPoint key a xs n → any_at key test xs a ≡ ((key (get_or xs n d) == a) && test (get_or xs n d))
  any_found [] n a d h lt p = absurd (omega arith)
  any_found (x ∷ xs) zero a d h lt p = ap (λ (t : Bool). ((key x == a) && test x) || t) (none_above xs (key x) a (p.1 0 x (omega arith) (omega arith)) h.0) ∙ last ((key x == a) && test x)
  any_found (x ∷ xs) (suc n) a d h lt p = other (key x == a) (test x) (any_at key test xs a) (less_is (key x) a (p.0 0 x (omega arith) (omega arith))) ∙ any_found xs n a d h.1 (omega arith) (point_rest key a x xs n p)

-- the tests of claims are such

pub plain : (t : Bool) → (t && true) ≡ t
plain true = refl
plain false = refl

pub never_any : (cs : List Never) (a : ℕ) → is_never cs a ≡ any_at (λ (c : Never). c.at) (λ c. true) cs a
never_any [] a = refl
never_any (c ∷ cs) a = ap (λ (t : Bool). t || is_never cs a) (sym (plain (c.at == a))) ∙ ap (λ (t : Bool). ((c.at == a) && true) || t) (never_any cs a)

pub shut_any : (cs : List LoopClaim) (a : ℕ) → is_shut cs a ≡ any_at (λ (c : LoopClaim). c.header) (λ (c : LoopClaim). c.max == 0) cs a
shut_any [] a = refl
shut_any (c ∷ cs) a = ap (λ (t : Bool). ((c.header == a) && (c.max == 0)) || t) (shut_any cs a)

pub not_eq : (x y : ℕ) → (x ≡ y → ⊥) → (x == y) ≡ false
not_eq x y e = grind (arith, nat_tests)

pub is_eq : (x y : ℕ) → x ≡ y → (x == y) ≡ true
is_eq x y e = grind (arith, nat_tests)

eq_is : (x y : ℕ) → (x == y) ≡ true → x ≡ y
eq_is x y e = grind (arith, nat_tests)

-- a jump back is found by its header
pub back_any : (ls : List LoopShape) (a h : ℕ) → All (λ (l : LoopShape). l.back ≡ a → l.header ≡ h) ls → is_back ls a ≡ any_at (λ (l : LoopShape). l.header) (λ (l : LoopShape). l.back == a) ls h
back_any [] a h to = refl
back_any (l ∷ ls) a h to =
    ap (λ (t : Bool). t || is_back ls a) (by_test (l.back == a) refl) ∙ ap (λ (t : Bool). ((l.header == h) && (l.back == a)) || t) (back_any ls a h (All-tail (λ (k : LoopShape). k.back ≡ a → k.header ≡ h) l ls to))
  where
    by_test : (t : Bool) → (l.back == a) ≡ t → t ≡ ((l.header == h) && t)
    by_test true e = ap (λ (u : Bool). u && true) (sym (is_eq l.header h (All-head (λ (k : LoopShape). k.back ≡ a → k.header ≡ h) l ls to (eq_is l.back a e))))
    by_test false e = sym (none (l.header == h))
      where
        none : (u : Bool) → (u && false) ≡ false
        none true = refl
        none false = refl

-- and where a move goes on to nowhere, it is none
pub back_none : (ls : List LoopShape) (a : ℕ) → All (λ (l : LoopShape). l.back ≡ a → ⊥) ls → is_back ls a ≡ false
back_none [] a h = refl
back_none (l ∷ ls) a h = ap (λ (t : Bool). t || is_back ls a) (by_test (l.back == a) refl) ∙ back_none ls a (All-tail (λ (k : LoopShape). k.back ≡ a → ⊥) l ls h)
  where
    by_test : (t : Bool) → (l.back == a) ≡ t → t ≡ false
    by_test true e = absurd (All-head (λ (k : LoopShape). k.back ≡ a → ⊥) l ls h (eq_is l.back a e))
    by_test false e = refl

pub and_same : (t u : Bool) → t ≡ false → t ≡ (t && u)
and_same true u e = cc
and_same false u e = refl

-- a move that arrives at one address goes on there alone
alone : (to back : Option ℕ) (h : ℕ) → option_to_list to ++ option_to_list back ≡ h ∷ [] → onward_by to back ≡ h ∷ []
alone None None h e = let l = ap length e in absurd (omega (arith, l))
alone (Some t) None h e = e
alone None (Some b) h e = e
alone (Some t) (Some b) h e = let l = ap length e in absurd (omega (arith, l))

pub back_heads : (ls : List LoopShape) (m : Move) (to : ℕ) → GoesBack ls m → onward m ≡ to ∷ [] → All (λ (l : LoopShape). l.back ≡ m.at → l.header ≡ to) ls
back_heads ls m to h e = All-weaker (λ (l : LoopShape). m.at ≡ l.back → destinations m ≡ l.header ∷ []) (λ (l : LoopShape). l.back ≡ m.at → l.header ≡ to)
    (λ l k b. let f : (l.header ∷ []) ≡ (to ∷ []) = sym (alone m.to m.behind l.header (k (sym b))) ∙ e in ap (λ (xs : List ℕ). get_or xs 0 0) f) ls h

pub back_never : (ls : List LoopShape) (m : Move) → GoesBack ls m → onward m ≡ [] → All (λ (l : LoopShape). l.back ≡ m.at → ⊥) ls
back_never ls m h e = All-weaker (λ (l : LoopShape). m.at ≡ l.back → destinations m ≡ l.header ∷ []) (λ (l : LoopShape). l.back ≡ m.at → ⊥)
    (λ l k b. let f : (l.header ∷ []) ≡ [] = sym (alone m.to m.behind l.header (k (sym b))) ∙ e in let n = ap length f in omega (arith, n)) ls h
