-- Where objects live, by their numbers.
use Rattle.std.proofs.Common.{◌≡◌, refl, ap, ◌∙◌, sym, ℕ, ◌+◌, ◌<◌, ◌≤◌, zero, suc, Bool, true, false, cond, List, [], ◌∷◌, ◌++◌, length, Some, arith, suc-add, zero-add, length-append, le-leb}
use Rattle.std.specs.Prelude.{◌==◌, if◌then◌else◌, nat_le, slice_get}
use Rattle.std.specs.List.{All}
use Rattle.std.proofs.lemmas.Bool.{eq-eqb, false≢true, leb-true, ne_eqb, true≢false}
use Rattle.std.proofs.lemmas.List.Elements.{All-head, All-tail}
use Rattle.std.proofs.lemmas.List.Sums.{sum_by-cons}
use Rattle.std.proofs.lemmas.Option.{none-some, same_Some}
use Rattle.types_tree.specs.declared.variable.Duration.{Duration}
use Rattle.types_tree.specs.declared.variable.Duration.TheVariants.{Static, Automatic}
use Rattle.types_tree.specs.declared.variable.Extent.{Extent}
use Rattle.types_tree.specs.declared.variable.Extent.TheVariants.{Scalar, Array as Elements, Parameter as Passed}
use Rattle.types_tree.specs.declared.variable.Variable.{Variable}
use Rattle.high_ir.specs.declared.object.Array.{Array}
use Rattle.high_ir.specs.declared.object.Base.{Base}
use Rattle.high_ir.specs.declared.object.Base.TheVariants.{Object, Parameter}
use Rattle.plan_definition.specs.declared.home.Home.{Home}
use Rattle.plan_definition.specs.declared.home.Home.TheVariants.{Frame, Memory}
use Rattle.plan_definition.specs.Layouts.{Next, ahead, begun, frame_scalars, home_by, homes_from, is_frame, next_by}
use Rattle.plan_served.specs.Places.{IsHome}

-- homes one behind the other, in one frame
abbrev pub plain_homes : List Variable → Next → List Home
plain_homes [] next = []
plain_homes (v ∷ rest) next = home_by v.duration v.extent v next ∷ plain_homes rest (next_by v.duration v.extent next)

abbrev pub AtMost : ℕ → List ℕ → Type 0
AtMost n xs = All (λ x. x ≤ n) xs

abbrev pub AtLeast : ℕ → List ℕ → Type 0
AtLeast n xs = All (λ x. n ≤ x) xs

-- what is left of functions that begin before one
record IsLeft (n first : ℕ) (given rest left : List ℕ) : Type 0 where
  some : List ℕ
  left_is : left ≡ some ++ first ∷ rest
  at_most : AtMost first some

ahead_left : (n first : ℕ) (given rest : List ℕ) → n < first → AtMost first given → IsLeft n first given rest (ahead (given ++ first ∷ rest) n)
ahead_left n first [] rest lt most = of (nat_le first n) refl
  where
    of : (b : Bool) → nat_le first n ≡ b → IsLeft n first [] rest (if b then ahead rest n else first ∷ rest)
    of true e = absurd (beyond (leb-true first n e))
      where
        beyond : first ≤ n → ⊥
        beyond le = omega (arith, lt, le)
    of false e = record { some = []; left_is = refl; at_most = most }
ahead_left n first (x ∷ given) rest lt most = of (nat_le x n) (ahead_left n first given rest lt (All-tail (λ y. y ≤ first) x given most))
  where
    of : (b : Bool) → IsLeft n first given rest (ahead (given ++ first ∷ rest) n) → IsLeft n first (x ∷ given) rest (if b then ahead (given ++ first ∷ rest) n else x ∷ given ++ first ∷ rest)
    of true l = record { some = l.some; left_is = l.left_is; at_most = l.at_most }
    of false l = record { some = x ∷ given; left_is = refl; at_most = most }

-- no function begins at a number
ahead_none : (n m : ℕ) (rest : List ℕ) → n < m → AtLeast m rest → ahead rest n ≡ rest
ahead_none n m [] lt least = refl
ahead_none n m (x ∷ rest) lt least = of (nat_le x n) refl
  where
    of : (b : Bool) → nat_le x n ≡ b → (if b then ahead rest n else x ∷ rest) ≡ x ∷ rest
    of true e = let le = leb-true x n e in let ge : m ≤ x = All-head (λ y. m ≤ y) x rest least in absurd (omega (arith, lt, le, ge))
    of false e = refl

-- one begins here
ahead_here : (first m : ℕ) (given rest : List ℕ) → first < m → AtMost first given → AtLeast m rest → ahead (given ++ first ∷ rest) first ≡ rest
ahead_here first m [] rest lt most least = ap (λ b. if b then ahead rest first else first ∷ rest) (le-leb first first (omega arith)) ∙ ahead_none first m rest lt least
ahead_here first m (x ∷ given) rest lt most least =
    ap (λ b. if b then ahead (given ++ first ∷ rest) first else x ∷ given ++ first ∷ rest) (le-leb x first (All-head (λ y. y ≤ first) x given most))
    ∙ ahead_here first m given rest lt (All-tail (λ y. y ≤ first) x given most) least

-- the homes up to where a function begins
record IsReached (homes : List Home) (first : ℕ) (rest : List ℕ) (count : ℕ) (vs : List Variable) : Type 0 where
  some : List ℕ
  next : Next
  at_most : AtMost first some
  same : (i : ℕ) → slice_get homes (count + i) ≡ slice_get (homes_from (some ++ first ∷ rest) vs first next) i

reached : (first : ℕ) (given rest : List ℕ) (xs vs : List Variable) (number : ℕ) (next : Next) → number + length xs ≡ first → AtMost first given → IsReached (homes_from (given ++ first ∷ rest) (xs ++ vs) number next) first rest (length xs) vs
reached first given rest [] vs number next is most = record {
  some = given;
  next = next;
  at_most = most;
  same = λ i. ap (slice_get (homes_from (given ++ first ∷ rest) vs number next)) (zero-add i) ∙ ap (λ n. slice_get (homes_from (given ++ first ∷ rest) vs n next) i) (here number first is);
}
  where
    here : (n m : ℕ) → n + 0 ≡ m → n ≡ m
    here n m e = omega (arith, e)
reached first given rest (x ∷ xs) vs number next is most =
    let firsts = given ++ first ∷ rest in
    let after = ahead firsts number in
    let l = ahead_left number first given rest (omega (arith, is)) most in
    let now = begun (length after == length firsts) next in
    let r = reached first l.some rest xs vs (number + 1) (next_by x.duration x.extent now) (omega (arith, is)) l.at_most in
    record {
      some = r.some;
      next = r.next;
      at_most = r.at_most;
      same = λ i.
          ap (slice_get (homes_from firsts (x ∷ xs ++ vs) number next)) (suc-add (length xs) i)
          ∙ ap (λ fs. slice_get (homes_from fs (xs ++ vs) (number + 1) (next_by x.duration x.extent now)) (length xs + i)) l.left_is
          ∙ r.same i;
    }

-- within a function
plain : (m : ℕ) (rest : List ℕ) (own after : List Variable) (number : ℕ) (next : Next) → number + length own ≤ m → AtLeast m rest → (i : ℕ) → i < length own → slice_get (homes_from rest (own ++ after) number next) i ≡ slice_get (plain_homes own next) i
plain m rest [] after number next le least i lt = absurd (omega (arith, lt))
plain m rest (v ∷ own) after number next le least i lt =
    let none = ahead_none number m rest (omega (arith, le)) least in
    ap (λ fs. slice_get (home_by v.duration v.extent v (begun (length fs == length rest) next) ∷ homes_from fs (own ++ after) (number + 1) (next_by v.duration v.extent (begun (length fs == length rest) next))) i) none
    ∙ ap (λ b. slice_get (home_by v.duration v.extent v (begun b next) ∷ homes_from rest (own ++ after) (number + 1) (next_by v.duration v.extent (begun b next))) i) (eq-eqb (length rest) (length rest) refl)
    ∙ of i lt (λ j below. plain m rest own after (number + 1) (next_by v.duration v.extent next) (omega (arith, le)) least j below)
  where
    of : (i : ℕ) → i < suc (length own) → ((j : ℕ) → j < length own → slice_get (homes_from rest (own ++ after) (number + 1) (next_by v.duration v.extent next)) j ≡ slice_get (plain_homes own (next_by v.duration v.extent next)) j) →
        slice_get (home_by v.duration v.extent v next ∷ homes_from rest (own ++ after) (number + 1) (next_by v.duration v.extent next)) i ≡ slice_get (plain_homes (v ∷ own) next) i
    of zero lt more = refl
    of (suc j) lt more = more j (omega (arith, lt))

-- the homes of a function's own objects
pub record AreOwn (homes : List Home) (first : ℕ) (own : List Variable) : Type 0 where
  pub next : Next
  pub variable_is : next.variable ≡ 0
  pub parameter_is : next.parameter ≡ 0
  pub same : (i : ℕ) → i < length own → slice_get homes (first + i) ≡ slice_get (plain_homes own next) i

pub own_homes : (first m : ℕ) (given rest : List ℕ) (before own after : List Variable) (start : Next) → length before ≡ first → AtMost first given → AtLeast m rest → first + length own ≤ m → AreOwn (homes_from (given ++ first ∷ rest) (before ++ (own ++ after)) 0 start) first own
own_homes first m given rest before [] after start is most least le = record { next = record { variable = 0; parameter = 0; object = 0 }; variable_is = refl; parameter_is = refl; same = λ i lt. absurd (omega (arith, lt)) }
own_homes first m given rest before (v ∷ own) after start is most least le =
    let r = reached first given rest before (v ∷ own ++ after) 0 start (zero-add (length before) ∙ is) most in
    let begins = begun false r.next in
    let here = ahead_here first m r.some rest (omega (arith, le)) r.at_most least in
    let behind = next_by v.duration v.extent begins in
    let inner = plain m rest own after (first + 1) behind (omega (arith, le)) least in
    record {
      next = begins;
      variable_is = refl;
      parameter_is = refl;
      same = λ i lt.
          ap (λ n. slice_get (homes_from (given ++ first ∷ rest) (before ++ (v ∷ own ++ after)) 0 start) (n + i)) (sym is)
          ∙ r.same i
          ∙ ap (λ fs. slice_get (home_by v.duration v.extent v (begun (length fs == length (r.some ++ first ∷ rest)) r.next) ∷ homes_from fs (own ++ after) (first + 1) (next_by v.duration v.extent (begun (length fs == length (r.some ++ first ∷ rest)) r.next))) i) here
          ∙ ap (λ b. slice_get (home_by v.duration v.extent v (begun b r.next) ∷ homes_from rest (own ++ after) (first + 1) (next_by v.duration v.extent (begun b r.next))) i)
          (ne_eqb (length rest) (length (r.some ++ first ∷ rest)) (longer r.some rest))
          ∙ of i lt behind begins (λ j below. inner j below);
    }
  where
    longer : (some rest : List ℕ) → length rest ≡ length (some ++ first ∷ rest) → ⊥
    longer some rest e = let h = length-append some (first ∷ rest) in omega (arith, h, e)

    of : (i : ℕ) → i < suc (length own) → (behind begins : Next) → ((j : ℕ) → j < length own → slice_get (homes_from rest (own ++ after) (first + 1) behind) j ≡ slice_get (plain_homes own behind) j) →
        slice_get (home_by v.duration v.extent v begins ∷ homes_from rest (own ++ after) (first + 1) behind) i ≡ slice_get (home_by v.duration v.extent v begins ∷ plain_homes own behind) i
    of zero lt behind begins more = refl
    of (suc j) lt behind begins more = more j (omega (arith, lt))

-- each object lives as its variable says
pub homes_by : (firsts : List ℕ) (vs : List Variable) (number : ℕ) (next : Next) (i : ℕ) (v : Variable) → slice_get vs i ≡ Some v → (here : Next) × (slice_get (homes_from firsts vs number next) i ≡ Some (home_by v.duration v.extent v here))
homes_by firsts [] number next i v e = absurd (none-some v e)
homes_by firsts (w ∷ vs) number next zero v e =
    let here = begun (length (ahead firsts number) == length firsts) next in
    (here, ap (λ u. Some (home_by u.duration u.extent u here)) (same_Some w v e))
homes_by firsts (w ∷ vs) number next (suc i) v e =
    let after = ahead firsts number in
    homes_by after vs (number + 1) (next_by w.duration w.extent (begun (length after == length firsts) next)) i v e

pub home_is : (d : Duration) (e : Extent) (v : Variable) (next : Next) → IsHome d e (home_by d e v next)
home_is Static extent v next = tt
home_is Automatic Scalar v next = tt
home_is Automatic (Elements count) v next = tt
home_is Automatic Passed v next = tt

abbrev variable_number : Home → ℕ
variable_number (Frame x) = x
variable_number (Memory array) = 0

abbrev pub is_frame_home : Home → Bool
is_frame_home (Frame x) = true
is_frame_home (Memory array) = false

abbrev object_in : Base → ℕ
object_in (Object n) = n
object_in (Parameter j) = 0

abbrev pub is_object : Base → Bool
is_object (Object n) = true
is_object (Parameter j) = false

abbrev pub base_in : Home → Base
base_in (Frame x) = Parameter 0
base_in (Memory array) = array.base

-- frames
frame_here : (d : Duration) (e : Extent) (v : Variable) (next : Next) (x : ℕ) → home_by d e v next ≡ Frame x → (x ≡ next.variable) × (is_frame d e ≡ true)
frame_here Static extent v next x e = absurd (false≢true (ap is_frame_home e))
frame_here Automatic Scalar v next x e = (sym (ap variable_number e), refl)
frame_here Automatic (Elements count) v next x e = absurd (false≢true (ap is_frame_home e))
frame_here Automatic Passed v next x e = absurd (false≢true (ap is_frame_home e))

abbrev one_if : Bool → ℕ
one_if b = cond b 1 0

next_variable : (d : Duration) (e : Extent) (next : Next) → (next_by d e next).variable ≡ next.variable + one_if (is_frame d e)
next_variable Static extent next = omega arith
next_variable Automatic Scalar next = refl
next_variable Automatic (Elements count) next = omega arith
next_variable Automatic Passed next = omega arith

pub frame_within : (zs : List Variable) (next : Next) (i x : ℕ) → slice_get (plain_homes zs next) i ≡ Some (Frame x) → (next.variable ≤ x) × (x < next.variable + frame_scalars zs)
frame_within [] next i x e = absurd (none-some (Frame x) e)
frame_within (v ∷ rest) next zero x e =
    let h = frame_here v.duration v.extent v next x (same_Some (home_by v.duration v.extent v next) (Frame x) e) in
    let one : one_if (is_frame v.duration v.extent) ≡ 1 = ap one_if h.1 in
    let is = h.0 in
    let counted = sum_by-cons (λ w. one_if (is_frame w.duration w.extent)) v rest in
    (omega (arith, is), omega (arith, is, one, counted))
frame_within (v ∷ rest) next (suc i) x e =
    let h = frame_within rest (next_by v.duration v.extent next) i x e in
    let n = next_variable v.duration v.extent next in
    let low = h.0 in
    let high = h.1 in
    let counted = sum_by-cons (λ w. one_if (is_frame w.duration w.extent)) v rest in
    (omega (arith, n, low), omega (arith, n, high, counted))

frame_later : (v : Variable) (rest : List Variable) (next : Next) (j x : ℕ) → home_by v.duration v.extent v next ≡ Frame x → slice_get (plain_homes rest (next_by v.duration v.extent next)) j ≡ Some (Frame x) → ⊥
frame_later v rest next j x first second =
    let h = frame_here v.duration v.extent v next x first in
    let one : one_if (is_frame v.duration v.extent) ≡ 1 = ap one_if h.1 in
    let n = next_variable v.duration v.extent next in
    let low = (frame_within rest (next_by v.duration v.extent next) j x second).0 in
    let is = h.0 in
    omega (arith, one, n, low, is)

pub frames_apart : (zs : List Variable) (next : Next) (i j x : ℕ) → slice_get (plain_homes zs next) i ≡ Some (Frame x) → slice_get (plain_homes zs next) j ≡ Some (Frame x) → i ≡ j
frames_apart [] next i j x e f = absurd (none-some (Frame x) e)
frames_apart (v ∷ rest) next zero zero x e f = refl
frames_apart (v ∷ rest) next zero (suc j) x e f = absurd (frame_later v rest next j x (same_Some (home_by v.duration v.extent v next) (Frame x) e) f)
frames_apart (v ∷ rest) next (suc i) zero x e f = absurd (frame_later v rest next i x (same_Some (home_by v.duration v.extent v next) (Frame x) f) e)
frames_apart (v ∷ rest) next (suc i) (suc j) x e f = ap suc (frames_apart rest (next_by v.duration v.extent next) i j x e f)

-- arrays
pub begun_object : (b : Bool) (next : Next) → (begun b next).object ≡ next.object
begun_object true next = refl
begun_object false next = refl

pub array_here : (d : Duration) (e : Extent) (v : Variable) (next : Next) (a : Array) (n : ℕ) → home_by d e v next ≡ Memory a → a.base ≡ Object n → (n ≡ next.object) × ((next_by d e next).object ≡ next.object + 1)
array_here Static extent v next a n e b = (ap object_in (sym b ∙ sym (ap base_in e)), refl)
array_here Automatic Scalar v next a n e b = absurd (true≢false (ap is_frame_home e))
array_here Automatic (Elements count) v next a n e b = (ap object_in (sym b ∙ sym (ap base_in e)), refl)
array_here Automatic Passed v next a n e b = absurd (true≢false (ap is_object (sym b ∙ sym (ap base_in e))))

next_object : (d : Duration) (e : Extent) (next : Next) → next.object ≤ (next_by d e next).object
next_object Static extent next = omega arith
next_object Automatic Scalar next = omega arith
next_object Automatic (Elements count) next = omega arith
next_object Automatic Passed next = omega arith

array_within : (firsts : List ℕ) (vs : List Variable) (number : ℕ) (next : Next) (i : ℕ) (a : Array) (n : ℕ) → slice_get (homes_from firsts vs number next) i ≡ Some (Memory a) → a.base ≡ Object n → next.object ≤ n
array_within firsts [] number next i a n e b = absurd (none-some (Memory a) e)
array_within firsts (v ∷ rest) number next zero a n e b =
    let same = length (ahead firsts number) == length firsts in
    let here = begun same next in
    let h = (array_here v.duration v.extent v here a n (same_Some (home_by v.duration v.extent v here) (Memory a) e) b).0 in
    let o = begun_object same next in
    omega (arith, h, o)
array_within firsts (v ∷ rest) number next (suc i) a n e b =
    let after = ahead firsts number in
    let same = length after == length firsts in
    let here = begun same next in
    let h = array_within after rest (number + 1) (next_by v.duration v.extent here) i a n e b in
    let o = begun_object same next in
    let m = next_object v.duration v.extent here in
    omega (arith, h, o, m)

array_later : (firsts : List ℕ) (v : Variable) (rest : List Variable) (number : ℕ) (here : Next) (j : ℕ) (a b : Array) (n : ℕ) → home_by v.duration v.extent v here ≡ Memory a → a.base ≡ Object n → slice_get (homes_from firsts rest number (next_by v.duration v.extent here)) j ≡ Some (Memory b) → b.base ≡ Object n → ⊥
array_later firsts v rest number here j a b n first base second base2 =
    let h = array_here v.duration v.extent v here a n first base in
    let low = array_within firsts rest number (next_by v.duration v.extent here) j b n second base2 in
    let is = h.0 in
    let more = h.1 in
    omega (arith, low, is, more)

pub arrays_apart : (firsts : List ℕ) (vs : List Variable) (number : ℕ) (next : Next) (i j : ℕ) (a b : Array) (n : ℕ) → slice_get (homes_from firsts vs number next) i ≡ Some (Memory a) → a.base ≡ Object n → slice_get (homes_from firsts vs number next) j ≡ Some (Memory b) → b.base ≡ Object n → i ≡ j
arrays_apart firsts [] number next i j a b n e k f l = absurd (none-some (Memory a) e)
arrays_apart firsts (v ∷ rest) number next zero zero a b n e k f l = refl
arrays_apart firsts (v ∷ rest) number next zero (suc j) a b n e k f l =
    let after = ahead firsts number in
    let here = begun (length after == length firsts) next in
    absurd (array_later after v rest (number + 1) here j a b n (same_Some (home_by v.duration v.extent v here) (Memory a) e) k f l)
arrays_apart firsts (v ∷ rest) number next (suc i) zero a b n e k f l =
    let after = ahead firsts number in
    let here = begun (length after == length firsts) next in
    absurd (array_later after v rest (number + 1) here i b a n (same_Some (home_by v.duration v.extent v here) (Memory b) f) l e k)
arrays_apart firsts (v ∷ rest) number next (suc i) (suc j) a b n e k f l =
    let after = ahead firsts number in
    ap suc (arrays_apart after rest (number + 1) (next_by v.duration v.extent (begun (length after == length firsts) next)) i j a b n e k f l)
