-- The collected moves: those of exactly the marked places, in order.
use Rattle.std.proofs.Common.{◌≡◌, ◌≢◌, ℕ, zero, suc, ◌+◌, inl, inr, arith, refl, sym, ap, ◌∙◌, subst, List, [], ◌∷◌, ◌++◌, get_or, Contains, All, Bool, true, false, Option, Some, None}
use Rattle.std.specs.Prelude.{◌==◌, if◌then◌else◌}
use Rattle.std.proofs.lemmas.Bool.Decides.{nat_tests, eqb_tells}
use Rattle.std.proofs.lemmas.List.{append-nil}
use Rattle.std.proofs.lemmas.List.Elements.{All-head, All-tail, All-cons, All-nil, All-append, All-contains, Contains-append_cases}
use Rattle.rv_core.specs.Instructions.{Instruction}
use Rattle.rv_core.specs.Machine.{behind}
use Rattle.code_flow_system.specs.declared.moves.Move.{Move}
use Rattle.code_flow_system.specs.declared.moves.Way.{Way}
use Rattle.code_flow_system.specs.declared.moves.Way.TheVariants.{Next, Branches, Jumps, Calls, Ends, Strays}
use Rattle.code_flow_system.specs.Moves.{Code, move, moves_on, moves_at, moves_by}
use Rattle.code_flow_system.specs.Systems.{ComesBefore, AreAscending, moves_from, has_moves}
use Rattle.code_flow.specs.Places.{address_at}
use Rattle.code_flow.specs.Walks.{way_by_fetch, way_at}
use Rattle.code_flow.specs.Faults.{collected, is_stray}
use Rattle.code_flow.proofs.LeastLemmas.{address_at-lt}

-- the moves of one address

same_test : (a : ℕ) → (a == a) ≡ true
same_test a = grind (arith, nat_tests)

other_test : (a b : ℕ) → a ≢ b → (a == b) ≡ false
other_test a b e = grind (arith, nat_tests)

abbrev StandAt : ℕ → List Move → Type 0
StandAt a ms = All (λ m. m.at ≡ a) ms

stand_on : (w : Way) (a : ℕ) (i : Instruction) → StandAt a (moves_on w a i)
stand_on Next a i = All-cons (λ m. m.at ≡ a) _ [] refl (All-nil _)
stand_on (Branches to) a i = All-cons (λ m. m.at ≡ a) _ (move a 1 i (Some to) None ∷ []) refl (All-cons (λ m. m.at ≡ a) _ [] refl (All-nil _))
stand_on (Jumps to) a i = All-cons (λ m. m.at ≡ a) _ [] refl (All-nil _)
stand_on (Calls to) a i = All-cons (λ m. m.at ≡ a) _ [] refl (All-nil _)
stand_on Ends a i = All-cons (λ m. m.at ≡ a) _ [] refl (All-nil _)
stand_on Strays a i = All-nil _

pub stand_at : (c : Code) (a : ℕ) → All (λ m. m.at ≡ a) (moves_at c a)
stand_at c a = by_fetch (c.fetch a)
  where
    by_fetch : (o : Option Instruction) → All (λ m. m.at ≡ a) (moves_by c a o)
    by_fetch None = All-nil _
    by_fetch (Some i) = stand_on (way_by_fetch c a (Some i)) a i

ascend_on : (w : Way) (a : ℕ) (i : Instruction) → AreAscending (moves_on w a i)
ascend_on Next a i = (All-nil _, tt)
ascend_on (Branches to) a i = (All-cons (ComesBefore (move a 0 i (Some (behind a)) None)) (move a 1 i (Some to) None) [] (inr (refl, omega arith)) (All-nil _), (All-nil _, tt))
ascend_on (Jumps to) a i = (All-nil _, tt)
ascend_on (Calls to) a i = (All-nil _, tt)
ascend_on Ends a i = (All-nil _, tt)
ascend_on Strays a i = tt

ascend_at : (c : Code) (a : ℕ) → AreAscending (moves_at c a)
ascend_at c a = by_fetch (c.fetch a)
  where
    by_fetch : (o : Option Instruction) → AreAscending (moves_by c a o)
    by_fetch None = tt
    by_fetch (Some i) = ascend_on (way_by_fetch c a (Some i)) a i

-- where a way strays there are no moves, and else some
stray_on : (w : Way) (a : ℕ) (i : Instruction) → is_stray w ≡ true → moves_on w a i ≡ []
stray_on Strays a i h = refl
stray_on Next a i h = cc
stray_on (Branches to) a i h = cc
stray_on (Jumps to) a i h = cc
stray_on (Calls to) a i h = cc
stray_on Ends a i h = cc

some_on : (w : Way) (a : ℕ) (i : Instruction) → moves_on w a i ≡ [] → is_stray w ≡ true
some_on Strays a i h = refl
some_on Next a i h = cc
some_on (Branches to) a i h = cc
some_on (Jumps to) a i h = cc
some_on (Calls to) a i h = cc
some_on Ends a i h = cc

pub stray_none : (c : Code) (a : ℕ) → is_stray (way_at c a) ≡ true → moves_at c a ≡ []
stray_none c a h = by_fetch (c.fetch a) h
  where
    by_fetch : (o : Option Instruction) → is_stray (way_by_fetch c a o) ≡ true → moves_by c a o ≡ []
    by_fetch None h = refl
    by_fetch (Some i) h = stray_on (way_by_fetch c a (Some i)) a i h

pub none_stray : (c : Code) (a : ℕ) → moves_at c a ≡ [] → is_stray (way_at c a) ≡ true
none_stray c a h = by_fetch (c.fetch a) h
  where
    by_fetch : (o : Option Instruction) → moves_by c a o ≡ [] → is_stray (way_by_fetch c a o) ≡ true
    by_fetch None h = refl
    by_fetch (Some i) h = some_on (way_by_fetch c a (Some i)) a i h

-- what is among the collected moves

pub record IsCollected (c : Code) (p : ℕ) (bs : List Bool) (m : Move) : Type 0 where
  pub place : ℕ
  pub marked : get_or bs place false ≡ true
  pub among : Contains (moves_at c (address_at (p + place))) m

collected_later : (c : Code) (p : ℕ) (b : Bool) (bs : List Bool) (m : Move) → IsCollected c (p + 1) bs m → IsCollected c p (b ∷ bs) m
collected_later c p b bs m h =
    let e : p + 1 + h.place ≡ p + suc h.place = omega arith in
    record { place = suc h.place; marked = h.marked; among = subst (λ q. Contains (moves_at c (address_at q)) m) e h.among }

pub collected_from : (c : Code) (p : ℕ) (bs : List Bool) (m : Move) → Contains (collected c p bs) m → IsCollected c p bs m
collected_from c p [] m h = absurd (omega (arith, h.1))
collected_from c p (true ∷ bs) m h = elim (Contains-append_cases (moves_at c (address_at p)) (collected c (p + 1) bs) m h) [
  | inl k ↦ let e : p + 0 ≡ p = omega arith in record { place = 0; marked = refl; among = subst (λ q. Contains (moves_at c (address_at q)) m) (sym e) k }
  | inr k ↦ collected_later c p true bs m (collected_from c (p + 1) bs m k)
]
collected_from c p (false ∷ bs) m h = collected_later c p false bs m (collected_from c (p + 1) bs m h)

-- they ascend

ascending-append : (xs ys : List Move) → AreAscending xs → AreAscending ys → ((x y : Move) → Contains xs x → Contains ys y → ComesBefore x y) → AreAscending (xs ++ ys)
ascending-append [] ys h k f = k
ascending-append (x ∷ xs) ys h k f = (
  All-append (ComesBefore x) xs ys h.0 (all_of ys (λ y c. f x y (0, omega arith, refl) c)),
  ascending-append xs ys h.1 k (λ z y c d. f z y (suc c.0, omega (arith, c.1), c.2) d),
)
  where
    all_of : (ys : List Move) → ((y : Move) → Contains ys y → ComesBefore x y) → All (ComesBefore x) ys
    all_of [] g = All-nil _
    all_of (y ∷ ys) g = All-cons (ComesBefore x) y ys (g y (0, omega arith, refl)) (all_of ys (λ z c. g z (suc c.0, omega (arith, c.1), c.2)))

pub collected_ascend : (c : Code) (p : ℕ) (bs : List Bool) → AreAscending (collected c p bs)
collected_ascend c p [] = tt
collected_ascend c p (false ∷ bs) = collected_ascend c (p + 1) bs
collected_ascend c p (true ∷ bs) = ascending-append (moves_at c (address_at p)) (collected c (p + 1) bs) (ascend_at c (address_at p)) (collected_ascend c (p + 1) bs) (λ x y h k.
    let e = All-contains (λ m. m.at ≡ address_at p) (moves_at c (address_at p)) x (stand_at c (address_at p)) h in
    let f = collected_from c (p + 1) bs y k in
    let g = All-contains (λ m. m.at ≡ address_at (p + 1 + f.place)) (moves_at c (address_at (p + 1 + f.place))) y (stand_at c (address_at (p + 1 + f.place))) f.among in
    let lt = address_at-lt p (p + 1 + f.place) (omega arith) in
    inl (omega arith))

-- the moves of one address among them

moves_from-append : (xs ys : List Move) (a : ℕ) → moves_from (xs ++ ys) a ≡ moves_from xs a ++ moves_from ys a
moves_from-append [] ys a = refl
moves_from-append (x ∷ xs) ys a = by_place (x.at == a) (moves_from-append xs ys a)
  where
    by_place : (b : Bool) → moves_from (xs ++ ys) a ≡ moves_from xs a ++ moves_from ys a → (if b then x ∷ moves_from (xs ++ ys) a else moves_from (xs ++ ys) a) ≡ (if b then x ∷ moves_from xs a else moves_from xs a) ++ moves_from ys a
    by_place true e = ap (λ zs. x ∷ zs) e
    by_place false e = e

moves_from-here : (ms : List Move) (a : ℕ) → StandAt a ms → moves_from ms a ≡ ms
moves_from-here [] a h = refl
moves_from-here (m ∷ ms) a h =
    let e : (m.at == a) ≡ true = subst (λ x. (m.at == x) ≡ true) (All-head (λ m. m.at ≡ a) m ms h) (same_test m.at) in
    ap (λ (b : Bool). if b then m ∷ moves_from ms a else moves_from ms a) e ∙ ap (λ zs. m ∷ zs) (moves_from-here ms a (All-tail (λ m. m.at ≡ a) m ms h))

moves_from-elsewhere : (ms : List Move) (a : ℕ) → ((m : Move) → Contains ms m → m.at ≢ a) → moves_from ms a ≡ []
moves_from-elsewhere [] a h = refl
moves_from-elsewhere (m ∷ ms) a h =
    let e = other_test m.at a (h m (0, omega arith, refl)) in
    ap (λ (b : Bool). if b then m ∷ moves_from ms a else moves_from ms a) e ∙ moves_from-elsewhere ms a (λ n k. h n (suc k.0, omega (arith, k.1), k.2))

at_of : (c : Code) (p : ℕ) (bs : List Bool) (m : Move) (h : IsCollected c p bs m) → m.at ≡ address_at (p + h.place)
at_of c p bs m h = All-contains (λ m. m.at ≡ address_at (p + h.place)) (moves_at c (address_at (p + h.place))) m (stand_at c (address_at (p + h.place))) h.among

pub collected_at : (c : Code) (p : ℕ) (bs : List Bool) (k : ℕ) → get_or bs k false ≡ true → moves_from (collected c p bs) (address_at (p + k)) ≡ moves_at c (address_at (p + k))
collected_at c p [] k h = absurd (none k h)
  where
    none : (k : ℕ) → get_or [] k false ≡ true → ⊥
    none k h = cc
collected_at c p (true ∷ bs) zero h =
    let z : p + 0 ≡ p = omega arith in
    let here = moves_from-here (moves_at c (address_at p)) (address_at p) (stand_at c (address_at p)) in
    let rest = moves_from-elsewhere (collected c (p + 1) bs) (address_at p) (λ m k e.
    let f = collected_from c (p + 1) bs m k in let g = at_of c (p + 1) bs m f in let lt = address_at-lt p (p + 1 + f.place) (omega arith) in omega arith) in
    subst (λ q. moves_from (collected c p (true ∷ bs)) (address_at q) ≡ moves_at c (address_at q)) (sym z)
    (moves_from-append (moves_at c (address_at p)) (collected c (p + 1) bs) (address_at p) ∙ (ap (λ ms. ms ++ moves_from (collected c (p + 1) bs) (address_at p)) here ∙ (ap (λ ms. moves_at c (address_at p) ++ ms) rest ∙ append-nil (moves_at c (address_at p)))))
collected_at c p (false ∷ bs) zero h = absurd (let e : false ≡ true = h in cc)
collected_at c p (true ∷ bs) (suc k) h =
    let e : p + 1 + k ≡ p + suc k = omega arith in
    let r = subst (λ q. moves_from (collected c (p + 1) bs) (address_at q) ≡ moves_at c (address_at q)) e (collected_at c (p + 1) bs k h) in
    let other = moves_from-elsewhere (moves_at c (address_at p)) (address_at (p + suc k)) (λ m h f.
    let g = All-contains (λ m. m.at ≡ address_at p) (moves_at c (address_at p)) m (stand_at c (address_at p)) h in let lt = address_at-lt p (p + suc k) (omega arith) in omega arith) in
    moves_from-append (moves_at c (address_at p)) (collected c (p + 1) bs) (address_at (p + suc k)) ∙ (ap (λ ms. ms ++ moves_from (collected c (p + 1) bs) (address_at (p + suc k))) other ∙ r)
collected_at c p (false ∷ bs) (suc k) h =
    let e : p + 1 + k ≡ p + suc k = omega arith in
    subst (λ q. moves_from (collected c (p + 1) bs) (address_at q) ≡ moves_at c (address_at q)) e (collected_at c (p + 1) bs k h)

-- which addresses have moves

pub has_moves-some : (ms : List Move) (a : ℕ) → moves_from ms a ≢ [] → has_moves ms a ≡ true
has_moves-some [] a h = absurd (h refl)
has_moves-some (m ∷ ms) a h = by_place (m.at == a) refl (has_moves-some ms a)
  where
    by_place : (b : Bool) → (m.at == a) ≡ b → (moves_from ms a ≢ [] → has_moves ms a ≡ true) → (if b then true else has_moves ms a) ≡ true
    by_place true e later = refl
    by_place false e later = later (λ none. h (ap (λ (b : Bool). if b then m ∷ moves_from ms a else moves_from ms a) e ∙ none))

pub moves_of_has : (ms : List Move) (a : ℕ) → has_moves ms a ≡ true → (m : Move) × Contains ms m × (m.at ≡ a)
moves_of_has [] a h = cc
moves_of_has (m ∷ ms) a h = elim (eqb_tells m.at a) [
  | inl e ↦ (m, (0, omega arith, refl), e.1)
  | inr e ↦ let r = moves_of_has ms a (later (m.at == a) (other_test m.at a e.1) h) in (r.0, (suc r.1.0, omega (arith, r.1.1), r.1.2), r.2)
]
  where
    later : (b : Bool) → b ≡ false → (if b then true else has_moves ms a) ≡ true → has_moves ms a ≡ true
    later true e h = cc
    later false e h = h
