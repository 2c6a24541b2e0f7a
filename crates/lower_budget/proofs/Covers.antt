-- Each scaled variable of a statement has a register that is shared.
use Rattle.std.proofs.Common.{◌≡◌, ℕ, suc, ◌+◌, ◌≤◌, Bool, true, false, List, [], ◌∷◌, ◌++◌, length, Option, Some, None, refl, sym, ap, ◌∙◌, subst, arith, append_assoc, length-append}
use Rattle.std.specs.Prelude.{◌==◌, ◌&&◌, if◌then◌else◌}
use Rattle.std.proofs.lemmas.Bool.{eq-eqb}
use Rattle.std.proofs.lemmas.List.{append-nil}
use Rattle.lower_definition.specs.Values.{Scaled, Share, shared, shares_from, with_share}

abbrev pub Has : Option ℕ → Type 0
Has None = ⊥
Has (Some r) = Unit {0}

abbrev pub Covers : List Share → List Scaled → Type 0
Covers ss [] = Unit {0}
Covers ss (x ∷ xs) = Has (shared ss x.variable x.scale) × Covers ss xs

pub covers_front : (ss : List Share) (xs ys : List Scaled) → Covers ss (xs ++ ys) → Covers ss xs
covers_front ss [] ys h = tt
covers_front ss (x ∷ xs) ys h = (h.0, covers_front ss xs ys h.1)

pub covers_back : (ss : List Share) (xs ys : List Scaled) → Covers ss (xs ++ ys) → Covers ss ys
covers_back ss [] ys h = h
covers_back ss (x ∷ xs) ys h = covers_back ss xs ys h.1

has_more : (ss more : List Share) (x k : ℕ) → Has (shared ss x k) → Has (shared (ss ++ more) x k)
has_more [] more x k h = absurd h
has_more (s ∷ ss) more x k h = by_test ((s.variable == x) && (s.scale == k)) h (λ g. has_more ss more x k g)
  where
    by_test : (b : Bool) → Has (if b then Some s.register else shared ss x k) → (Has (shared ss x k) → Has (shared (ss ++ more) x k)) → Has (if b then Some s.register else shared (ss ++ more) x k)
    by_test true h go = tt
    by_test false h go = go h

has_last : (ss : List Share) (x k r : ℕ) → Has (shared (ss ++ record { variable = x; scale = k; register = r } ∷ []) x k)
has_last [] x k r = subst (λ b. Has (if b then Some r else None)) (sym both) tt
  where
    both : ((x == x) && (k == k)) ≡ true
    both = ap (λ b. b && (k == k)) (eq-eqb x x refl) ∙ eq-eqb k k refl
has_last (s ∷ ss) x k r = by_test ((s.variable == x) && (s.scale == k)) (has_last ss x k r)
  where
    by_test : (b : Bool) → Has (shared (ss ++ record { variable = x; scale = k; register = r } ∷ []) x k) → Has (if b then Some s.register else shared (ss ++ record { variable = x; scale = k; register = r } ∷ []) x k)
    by_test true h = tt
    by_test false h = h

-- shares that grow
record Longer (ss ts : List Share) : Type 0 where
  more : List Share
  is : ts ≡ ss ++ more

longer_has : (ss ts : List Share) (x k : ℕ) → Longer ss ts → Has (shared ss x k) → Has (shared ts x k)
longer_has ss ts x k l h = subst (λ zs. Has (shared zs x k)) (sym l.is) (has_more ss l.more x k h)

longer_then : (ss ts us : List Share) → Longer ss ts → Longer ts us → Longer ss us
longer_then ss ts us a b = record { more = a.more ++ b.more; is = b.is ∙ ap (λ zs. zs ++ b.more) a.is ∙ append_assoc ss a.more b.more }

with_longer : (o : Option ℕ) (x : Scaled) (t : ℕ) (ss : List Share) → Longer ss (with_share o x t ss)
with_longer (Some r) x t ss = record { more = []; is = sym (append-nil ss) }
with_longer None x t ss = record { more = record { variable = x.variable; scale = x.scale; register = t + length ss } ∷ []; is = refl }

from_longer : (t : ℕ) (xs : List Scaled) (ss : List Share) → Longer ss (shares_from t ss xs)
from_longer t [] ss = record { more = []; is = sym (append-nil ss) }
from_longer t (x ∷ xs) ss =
    let ts = with_share (shared ss x.variable x.scale) x t ss in
    longer_then ss ts (shares_from t ts xs) (with_longer (shared ss x.variable x.scale) x t ss) (from_longer t xs ts)

with_has : (ss : List Share) (x : Scaled) (t : ℕ) (o : Option ℕ) → shared ss x.variable x.scale ≡ o → Has (shared (with_share o x t ss) x.variable x.scale)
with_has ss x t (Some r) e = subst Has (sym e) tt
with_has ss x t None e = has_last ss x.variable x.scale (t + length ss)

pub from_covers : (t : ℕ) (xs : List Scaled) (ss : List Share) → Covers (shares_from t ss xs) xs
from_covers t [] ss = tt
from_covers t (x ∷ xs) ss =
    let ts = with_share (shared ss x.variable x.scale) x t ss in
    (longer_has ts (shares_from t ts xs) x.variable x.scale (from_longer t xs ts) (with_has ss x t (shared ss x.variable x.scale) refl), from_covers t xs ts)

with_count : (o : Option ℕ) (x : Scaled) (t : ℕ) (ss : List Share) → length (with_share o x t ss) ≤ suc (length ss)
with_count (Some r) x t ss = omega arith
with_count None x t ss = let e = length-append ss (record { variable = x.variable; scale = x.scale; register = t + length ss } ∷ []) in omega (arith, e)

pub from_count : (t : ℕ) (xs : List Scaled) (ss : List Share) → length (shares_from t ss xs) ≤ length ss + length xs
from_count t [] ss = omega arith
from_count t (x ∷ xs) ss =
    let ts = with_share (shared ss x.variable x.scale) x t ss in
    let a = with_count (shared ss x.variable x.scale) x t ss in
    let b = from_count t xs ts in
    omega (arith, a, b)
