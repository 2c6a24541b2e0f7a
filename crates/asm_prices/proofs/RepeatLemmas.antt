-- What blocks are worth, seen from an earlier one: each as often as the loops allow that are still to be entered.
use Rattle.std.proofs.Common.{◌≡◌, ◌≢◌, ℕ, zero, suc, ◌+◌, ◌-◌, ◌*◌, ◌<◌, ◌≤◌, Bool, true, false, List, [], ◌∷◌, Contains, Option, Some, None, refl, sym, ap, ◌∙◌, subst, ⊎_elim, inl, inr, arith}
use Rattle.std.specs.Prelude.{◌⊎◌, ◌==◌, ◌&&◌, nat_lt, nat_le, if◌then◌else◌}
use Rattle.std.proofs.lemmas.Bool.Decides.{leb_tells, nat_tests}
use Rattle.asm_prices.specs.Worths.{LoopBound, times}

-- how often a loop multiplies block t, seen from an earlier block b
abbrev pub factor : LoopBound → ℕ → ℕ → ℕ
factor l b t = if nat_lt b l.loop.header && (nat_le l.loop.header t && nat_le t l.loop.latch) then l.most else 1

abbrev pub repeats : List LoopBound → ℕ → ℕ → ℕ
repeats [] b t = 1
repeats (l ∷ ls) b t = factor l b t * repeats ls b t

abbrev pub sum_from : (ℕ → ℕ) → ℕ → ℕ → ℕ
sum_from g a zero = 0
sum_from g a (suc n) = g a + sum_from g (suc a) n

pub sum_le : (g h : ℕ → ℕ) (a n : ℕ) → ((k : ℕ) → a ≤ k → k < a + n → g k ≤ h k) → sum_from g a n ≤ sum_from h a n
sum_le g h a zero f = omega arith
sum_le g h a (suc n) f = let k = sum_le g h (suc a) n (λ k p q. f k (omega arith) (omega arith)) in let l = f a (omega arith) (omega arith) in omega arith

pub sum_split : (g : ℕ → ℕ) (a m n : ℕ) → sum_from g a (m + n) ≡ sum_from g a m + sum_from g (a + m) n
sum_split g a zero n = let e : a + 0 ≡ a = omega arith in let f : 0 + n ≡ n = omega arith in let x = ap (sum_from g a) f in let y = ap (λ k. sum_from g k n) e in omega arith
sum_split g a (suc m) n =
    let e : suc m + n ≡ suc (m + n) = omega arith in
    let f : suc a + m ≡ a + suc m = omega arith in
    let k = sum_split g (suc a) m n in
    let x = ap (sum_from g a) e in
    let y = ap (λ k. sum_from g k n) f in omega arith

-- what is left behind a place of the range
pub sum_late : (g : ℕ → ℕ) (a b n m : ℕ) → a ≤ b → a + n ≡ b + m → sum_from g b m ≤ sum_from g a n
sum_late g a b n m h e =
    let c : n ≡ (b - a) + m = omega arith in
    let d : a + (b - a) ≡ b = omega arith in
    let k = sum_split g a (b - a) m in
    let x = ap (sum_from g a) c in
    let y = ap (λ k. sum_from g k m) d in omega arith

factor_yes : (l : LoopBound) (b t : ℕ) → b < l.loop.header → l.loop.header ≤ t → t ≤ l.loop.latch → factor l b t ≡ l.most
factor_yes l b t p q r =
    let e1 : nat_lt b l.loop.header ≡ true = grind (arith, nat_tests) in
    let e2 : nat_le l.loop.header t ≡ true = grind (arith, nat_tests) in
    let e3 : nat_le t l.loop.latch ≡ true = grind (arith, nat_tests) in
    ap (λ x. if x && (nat_le l.loop.header t && nat_le t l.loop.latch) then l.most else 1) e1 ∙ ap (λ x. if x && nat_le t l.loop.latch then l.most else 1) e2 ∙ ap (λ x. if x then l.most else 1) e3

if_no : (x y z : Bool) (m : ℕ) → (x ≡ false) ⊎ ((y ≡ false) ⊎ (z ≡ false)) → (if x && (y && z) then m else 1) ≡ 1
if_no false y z m h = refl
if_no true false z m h = refl
if_no true true false m h = refl
if_no true true true m (inl e) = let k : ⊥ = cc in absurd k
if_no true true true m (inr (inl e)) = let k : ⊥ = cc in absurd k
if_no true true true m (inr (inr e)) = let k : ⊥ = cc in absurd k

less_not : (a b : ℕ) → b ≤ a → nat_lt a b ≡ false
less_not a b h = grind (arith, nat_tests)

le_not : (a b : ℕ) → b < a → nat_le a b ≡ false
le_not a b h = grind (arith, nat_tests)

pub factor_no : (l : LoopBound) (b t : ℕ) → (l.loop.header ≤ b) ⊎ ((t < l.loop.header) ⊎ (l.loop.latch < t)) → factor l b t ≡ 1
factor_no l b t h =
    if_no _ _ _ l.most
    (⊎_elim (λ p. inl (less_not b l.loop.header p)) (λ q. ⊎_elim (λ p. inr (inl (le_not l.loop.header t p))) (λ p. inr (inr (le_not t l.loop.latch p))) q) h)

pub le_or : (a b : ℕ) → (a ≤ b) ⊎ (b < a)
le_or a b = ⊎_elim (λ h. inl h.1) (λ h. let k = h.1 in inr (omega arith)) (leb_tells a b)

cases : (l : LoopBound) (b t : ℕ) → ((b < l.loop.header) × (l.loop.header ≤ t) × (t ≤ l.loop.latch)) ⊎ ((l.loop.header ≤ b) ⊎ ((t < l.loop.header) ⊎ (l.loop.latch < t)))
cases l b t =
    ⊎_elim
    (λ (p : l.loop.header ≤ b). inr (inl p))
    (λ (p : b < l.loop.header).
    ⊎_elim
    (λ (q : l.loop.header ≤ t).
    ⊎_elim (λ (r : t ≤ l.loop.latch). inl (p, q, r)) (λ (r : l.loop.latch < t). inr (inr (inr r))) (le_or t l.loop.latch))
    (λ (q : t < l.loop.header). inr (inr (inl q)))
    (le_or l.loop.header t))
    (le_or l.loop.header b)

-- nothing that holds t is entered between b and n
abbrev pub Same : ℕ → ℕ → ℕ → LoopBound → Type 0
Same b n t l = (l.loop.header ≤ b) ⊎ ((n < l.loop.header) ⊎ (l.loop.latch < t))

factor_same : (l : LoopBound) (b n t : ℕ) → b ≤ n → Same b n t l → factor l b t ≡ factor l n t
factor_same l b n t p s =
    ⊎_elim
    (λ c. ⊎_elim
    (λ (u : l.loop.header ≤ b). let v = c.0 in absurd (omega arith))
    (λ r. ⊎_elim
    (λ (u : n < l.loop.header). factor_yes l b t c.0 c.1 c.2 ∙ sym (factor_yes l n t u c.1 c.2))
    (λ (u : l.loop.latch < t). let v = c.2 in absurd (omega arith))
    r)
    s)
    (λ c. factor_no l b t c ∙ sym (factor_no l n t (⊎_elim (λ (u : l.loop.header ≤ b). inl (omega arith)) (λ r. inr r) c)))
    (cases l b t)

abbrev pub AllSame : ℕ → ℕ → ℕ → List LoopBound → Type 0
AllSame b n t [] = Unit {0}
AllSame b n t (l ∷ ls) = Same b n t l × AllSame b n t ls

repeats_same : (ls : List LoopBound) (b n t : ℕ) → b ≤ n → AllSame b n t ls → repeats ls b t ≡ repeats ls n t
repeats_same [] b n t p s = refl
repeats_same (l ∷ ls) b n t p s = ap (λ k. k * repeats ls b t) (factor_same l b n t p s.0) ∙ ap (λ k. factor l n t * k) (repeats_same ls b n t p s.1)

-- no loop but l is entered between b and n, and l is
abbrev pub NotInto : ℕ → ℕ → LoopBound → Type 0
NotInto b n l = (l.loop.header ≤ b) ⊎ ((n < l.loop.header) ⊎ (l.loop.latch < n))

abbrev pub NoneInto : ℕ → ℕ → List LoopBound → Type 0
NoneInto b n [] = Unit {0}
NoneInto b n (l ∷ ls) = NotInto b n l × NoneInto b n ls

abbrev pub OnlyInto : ℕ → ℕ → LoopBound → List LoopBound → Type 0
OnlyInto b n l [] = ⊥
OnlyInto b n l (k ∷ ks) = ((k ≡ l) × NoneInto b n ks) ⊎ (NotInto b n k × OnlyInto b n l ks)

same_one : (l : LoopBound) (b n t : ℕ) → n ≤ t → NotInto b n l → Same b n t l
same_one l b n t q (inl h) = inl h
same_one l b n t q (inr (inl h)) = inr (inl h)
same_one l b n t q (inr (inr h)) = inr (inr (omega arith))

same_of : (ls : List LoopBound) (b n t : ℕ) → n ≤ t → NoneInto b n ls → AllSame b n t ls
same_of [] b n t q h = tt
same_of (l ∷ ls) b n t q h = (same_one l b n t q h.0, same_of ls b n t q h.1)

swap : (x y z : ℕ) → x * (y * z) ≡ y * (x * z)
swap x y z = grind arith

repeats_into : (ls : List LoopBound) (l : LoopBound) (b n t : ℕ) → b ≤ n → b < l.loop.header → l.loop.header ≤ n → n ≤ t → t ≤ l.loop.latch → OnlyInto b n l ls → repeats ls b t ≡ l.most * repeats ls n t
repeats_into [] l b n t a p q r s h = absurd h
repeats_into (k ∷ ks) l b n t a p q r s (inl h) =
    let e = h.0 in
    let f1 = ap (λ x. factor x b t) e ∙ factor_yes l b t p (omega arith) s in
    let f2 = ap (λ x. factor x n t) e ∙ factor_no l n t (inl q) in
    let g = repeats_same ks b n t a (same_of ks b n t r h.1) in
    let one : 1 * repeats ks n t ≡ repeats ks n t = omega arith in
    ap (λ x. x * repeats ks b t) f1 ∙ ap (λ x. l.most * x) (g ∙ sym one ∙ ap (λ x. x * repeats ks n t) (sym f2))
repeats_into (k ∷ ks) l b n t a p q r s (inr h) =
    ap (λ x. x * repeats ks b t) (factor_same k b n t a (same_one k b n t r h.0)) ∙ ap (λ x. factor k n t * x) (repeats_into ks l b n t a p q r s h.1) ∙ swap (factor k n t) l.most (repeats ks n t)

repeats_past : (ls : List LoopBound) (l : LoopBound) (b n t : ℕ) → b ≤ n → n ≤ t → l.loop.latch < t → OnlyInto b n l ls → repeats ls b t ≡ repeats ls n t
repeats_past [] l b n t a r s h = absurd h
repeats_past (k ∷ ks) l b n t a r s (inl h) =
    repeats_same (k ∷ ks) b n t a (inr (inr (subst (λ x. x.loop.latch < t) (sym h.0) s)), same_of ks b n t r h.1)
repeats_past (k ∷ ks) l b n t a r s (inr h) =
    ap (λ x. x * repeats ks b t) (factor_same k b n t a (same_one k b n t r h.0)) ∙ ap (λ x. factor k n t * x) (repeats_past ks l b n t a r s h.1)

module _ (ls : List LoopBound) (c : ℕ → ℕ) where
  -- what n blocks from a on are worth, seen from b
  abbrev pub ahead : ℕ → ℕ → ℕ → ℕ
  ahead b a n = sum_from (λ t. c t * repeats ls b t) a n

  ahead_same : (b n a m : ℕ) → b ≤ n → n ≤ a → ((t : ℕ) → a ≤ t → AllSame b n t ls) → ahead n a m ≤ ahead b a m
  ahead_same b n a m p q h =
      sum_le _ _ a m (λ t u v. let e = ap (λ k. c t * k) (repeats_same ls b n t p (h t u)) in omega arith)

  -- a move on to a later block that enters no loop
  pub step_pays : (b n k m : ℕ) → b < n → suc b + k ≡ n + m → NoneInto b n ls → ahead n n m ≤ ahead b (suc b) k
  step_pays b n k m p e h =
      let x = ahead_same b n n m (omega arith) (omega arith) (λ t u. same_of ls b n t u h) in
      let y = sum_late (λ t. c t * repeats ls b t) (suc b) n k m (omega arith) e in omega arith

  -- into a loop from outside, to its header: m times what is left of the loop, and what follows
  pub into_pays : (l : LoopBound) (b n k i o : ℕ) → b < l.loop.header → l.loop.header ≤ n → n + i ≡ suc l.loop.latch → suc b + k ≡ n + i + o → OnlyInto b n l ls → sum_from (λ t. l.most * (c t * repeats ls n t)) n i + ahead n (suc l.loop.latch) o ≤ ahead b (suc b) k
  into_pays l b n k i o p q r e h =
      let y = sum_late (λ t. c t * repeats ls b t) (suc b) n k (i + o) (omega arith) (omega arith) in
      let z = sum_split (λ t. c t * repeats ls b t) n i o in
      let w = ap (λ a. ahead b a o) r in
      let u = sum_le (λ t. l.most * (c t * repeats ls n t)) (λ t. c t * repeats ls b t) n i (λ t u v. let e = ap (λ a. c t * a) (repeats_into ls l b n t (omega arith) p q u (omega arith) h) ∙ swap (c t) l.most (repeats ls n t) in omega arith) in
      let v = sum_le (λ t. c t * repeats ls n t) (λ t. c t * repeats ls b t) (suc l.loop.latch) o (λ t u v. let e = ap (λ a. c t * a) (repeats_past ls l b n t (omega arith) (omega arith) u h) in omega arith) in
      omega arith

  -- back to the header n of a loop from b: what follows the loop
  pub back_pays : (l : LoopBound) (b n k o : ℕ) → n ≤ b → b ≤ l.loop.latch → suc b + k ≡ suc l.loop.latch + o → ((t : ℕ) → l.loop.latch < t → AllSame n b t ls) → ahead n (suc l.loop.latch) o ≤ ahead b (suc b) k
  back_pays l b n k o p q e h =
      let y = sum_late (λ t. c t * repeats ls b t) (suc b) (suc l.loop.latch) k o (omega arith) e in
      let x = sum_le (λ t. c t * repeats ls n t) (λ t. c t * repeats ls b t) (suc l.loop.latch) o (λ t u v. let e = ap (λ a. c t * a) (repeats_same ls n b t p (h t u)) in omega arith) in
      omega arith

-- what a graph keeps of each loop, for a way on from b to n
abbrev pub IntoHead : ℕ → ℕ → LoopBound → Type 0
IntoHead b n l = NotInto b n l ⊎ ((b < l.loop.header) × (l.loop.header ≡ n) × (n ≤ l.loop.latch))

abbrev pub AllHeads : ℕ → ℕ → List LoopBound → Type 0
AllHeads b n [] = Unit {0}
AllHeads b n (l ∷ ls) = IntoHead b n l × AllHeads b n ls

-- no two loops have one header
abbrev pub Other : ℕ → List LoopBound → Type 0
Other n [] = Unit {0}
Other n (l ∷ ls) = (l.loop.header ≢ n) × Other n ls

abbrev pub Distinct : List LoopBound → Type 0
Distinct [] = Unit {0}
Distinct (l ∷ ls) = Other l.loop.header ls × Distinct ls

none_of : (ls : List LoopBound) (b n : ℕ) → Other n ls → AllHeads b n ls → NoneInto b n ls
none_of [] b n o h = tt
none_of (l ∷ ls) b n o h = (⊎_elim (λ k. k) (λ (k : (b < l.loop.header) × (l.loop.header ≡ n) × (n ≤ l.loop.latch)). absurd (o.0 k.1)) h.0, none_of ls b n o.1 h.1)

pub record Entered (b n : ℕ) (ls : List LoopBound) : Type 0 where
  pub loop : LoopBound
  pub only : OnlyInto b n loop ls
  pub out : b < loop.loop.header
  pub first : loop.loop.header ≡ n
  pub last : n ≤ loop.loop.latch

pub classify : (ls : List LoopBound) (b n : ℕ) → Distinct ls → AllHeads b n ls → NoneInto b n ls ⊎ Entered b n ls
classify [] b n d h = inl tt
classify (l ∷ ls) b n d h =
    ⊎_elim
    (λ (k : NotInto b n l).
    ⊎_elim
    (λ (r : NoneInto b n ls). inl (k, r))
    (λ (r : Entered b n ls). inr (record { loop = r.loop; only = inr (k, r.only); out = r.out; first = r.first; last = r.last }))
    (classify ls b n d.1 h.1))
    (λ (k : (b < l.loop.header) × (l.loop.header ≡ n) × (n ≤ l.loop.latch)).
    inr (record { loop = l; only = inl (refl, none_of ls b n (subst (λ c. Other c ls) k.1 d.0) h.1); out = k.0; first = k.1; last = k.2 }))
    h.0

-- loops are well nested
abbrev pub NestedIn : LoopBound → List LoopBound → Type 0
NestedIn l [] = Unit {0}
NestedIn l (k ∷ ks) = ((k.loop.latch < l.loop.header) ⊎ ((l.loop.latch < k.loop.header) ⊎ ((k.loop.header ≤ l.loop.header) ⊎ (k.loop.latch ≤ l.loop.latch)))) × NestedIn l ks

pub back_same : (ls : List LoopBound) (l : LoopBound) (b t : ℕ) → NestedIn l ls → l.loop.header ≤ b → b ≤ l.loop.latch → l.loop.latch < t → AllSame l.loop.header b t ls
back_same [] l b t h p q r = tt
back_same (k ∷ ks) l b t h p q r = (
  ⊎_elim (λ (u : k.loop.latch < l.loop.header). inr (inr (omega arith)))
      (λ o. ⊎_elim (λ (u : l.loop.latch < k.loop.header). inr (inl (omega arith))) (λ w. ⊎_elim (λ (u : k.loop.header ≤ l.loop.header). inl u) (λ (u : k.loop.latch ≤ l.loop.latch). inr (inr (omega arith))) w) o)
      h.0,
  back_same ks l b t h.1 p q r,
)

-- seen from itself, a block begins once
pub repeats_self : (ls : List LoopBound) (b : ℕ) → repeats ls b b ≡ 1
repeats_self [] b = refl
repeats_self (l ∷ ls) b =
    let f = factor_no l b b (⊎_elim (λ (p : l.loop.header ≤ b). inl p) (λ (p : b < l.loop.header). inr (inl p)) (le_or l.loop.header b)) in
    let r = repeats_self ls b in
    ap (λ x. x * repeats ls b b) f ∙ (let one : 1 * repeats ls b b ≡ repeats ls b b = omega arith in one) ∙ r

-- seen from a function's first block, as often as the loops may start it for each call
pub repeats_first : (ls : List LoopBound) (t : ℕ) → ((l : LoopBound) → Contains ls l → 0 < l.loop.header) → repeats ls 0 t ≡ times ls t
repeats_first [] t h = refl
repeats_first (l ∷ ls) t h =
    let some : 0 < l.loop.header = h l (zero, omega arith, refl) in
    let e : nat_lt 0 l.loop.header ≡ true = grind (arith, nat_tests) in
    let r = repeats_first ls t (λ k has. h k (suc has.0, (let i = has.1 in omega arith), has.2)) in
    ap (λ x. (if x && (nat_le l.loop.header t && nat_le t l.loop.latch) then l.most else 1) * repeats ls 0 t) e
    ∙ ap (λ n. (if nat_le l.loop.header t && nat_le t l.loop.latch then l.most else 1) * n) r

-- the loop whose header a block is

abbrev pub head_of : List LoopBound → ℕ → Option LoopBound
head_of [] b = None
head_of (l ∷ ls) b = if l.loop.header == b then Some l else head_of ls b

if_yes : {A : Type 0} (x : Bool) (s t : A) → x ≡ true → (if x then s else t) ≡ s
if_yes true s t e = refl
if_yes false s t e = let k : ⊥ = cc in absurd k

if_not : {A : Type 0} (x : Bool) (s t : A) → x ≡ false → (if x then s else t) ≡ t
if_not true s t e = let k : ⊥ = cc in absurd k
if_not false s t e = refl

same_is : (a b : ℕ) → a ≡ b → (a == b) ≡ true
same_is a b h = grind (arith, nat_tests)

same_not : (a b : ℕ) → a ≢ b → (a == b) ≡ false
same_not a b h = grind (arith, nat_tests)

-- where headers differ, it is the one that has it
pub head_is : (ls : List LoopBound) (l : LoopBound) → Distinct ls → Contains ls l → head_of ls l.loop.header ≡ Some l
head_is [] l d (n, lt, e) = absurd (omega arith)
head_is (k ∷ ks) l d (zero, lt, e) =
    if_yes (k.loop.header == l.loop.header) (Some k) (head_of ks l.loop.header) (same_is k.loop.header l.loop.header (ap (λ (x : LoopBound). x.loop.header) e)) ∙ ap Some e
head_is (k ∷ ks) l d (suc n, lt, e) =
    if_not (k.loop.header == l.loop.header) (Some k) (head_of ks l.loop.header) (same_not k.loop.header l.loop.header (λ z. other_than ks l k.loop.header d.0 (n, omega arith, e) (sym z)))
    ∙ head_is ks l d.1 (n, omega arith, e)
  where
    other_than : (ks : List LoopBound) (l : LoopBound) (c : ℕ) → Other c ks → Contains ks l → l.loop.header ≢ c
    other_than [] l c o (n, lt, e) z = absurd (omega arith)
    other_than (k ∷ ks) l c o (zero, lt, e) z = o.0 (ap (λ (x : LoopBound). x.loop.header) e ∙ z)
    other_than (k ∷ ks) l c o (suc n, lt, e) z = other_than ks l c o.1 (n, omega arith, e) z

-- and it is among them
pub head_has : (ls : List LoopBound) (b : ℕ) (l : LoopBound) → head_of ls b ≡ Some l → Contains ls l × (l.loop.header ≡ b)
head_has [] b l e = cc
head_has (k ∷ ks) b l e = by_test (k.loop.header == b) refl e (head_has ks b l)
  where
    by_test : (x : Bool) → (k.loop.header == b) ≡ x → (if x then Some k else head_of ks b) ≡ Some l → (head_of ks b ≡ Some l → Contains ks l × (l.loop.header ≡ b)) → Contains (k ∷ ks) l × (l.loop.header ≡ b)
    by_test true t e later =
        let same : k ≡ l = cc in
        let is : k.loop.header ≡ b = grind (arith, nat_tests) in ((zero, omega arith, same), sym (ap (λ (x : LoopBound). x.loop.header) same) ∙ is)
    by_test false t e later = let r = later e in ((suc r.0.0, (let i = r.0.1 in omega arith), r.0.2), r.1)
