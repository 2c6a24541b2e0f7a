-- What the expressions of a body are in the frame of a caller.
use Rattle.std.proofs.Common.{◌≡◌, ℕ, zero, suc, ◌+◌, List, [], ◌∷◌, map, Option, Some, None, refl, ap, ◌∙◌, subst, arith}
use Rattle.std.specs.Prelude.{slice_get, slice_index_or}
use Rattle.std.proofs.lemmas.Option.{none-some}
use Rattle.high_ir.specs.declared.object.Array.{Array}
use Rattle.high_ir.specs.declared.object.Base.{Base}
use Rattle.high_ir.specs.declared.object.Base.TheVariants.{Object, Parameter}
use Rattle.high_ir.specs.Meaning.{Contents, World, Variables, array_of, at_value, element, keep, object_number, objects_of, only_if, stored, value_of, values_of, with_array}
use Rattle.high_ir.specs.Tree.{Expr, Constant, Variable, Element, Unary, Binary}
use Rattle.high_ir.specs.Words.{binary_word, same_kind, unary_word}
use Rattle.inliner.specs.Moving.{Place, moved_array, moved_base, moved_expr}
use Rattle.inliner.proofs.Embedding.{Sees, held}

-- the caller's arrays are those that were passed
pub record Meets (arrays : List Base) (passed old : List ℕ) : Type 0 where
  pub by : (b : Base) (n : ℕ) → object_number old b ≡ Some n → object_number passed (moved_base arrays b) ≡ Some n

pub at_some : {A B : Type 0} (o p : Option A) (f g : A → Option B) (v : B) → ((x : A) → o ≡ Some x → p ≡ Some x) → ((x : A) → f x ≡ Some v → g x ≡ Some v) → at_value o f ≡ Some v → at_value p g ≡ Some v
at_some None p f g v h k e = absurd (none-some v e)
at_some (Some x) p f g v h k e = ap (λ q. at_value q g) (h x refl) ∙ k x e

one_more : (passed : List ℕ) (b : Base) (bs : List Base) (ns : List ℕ) (i n : ℕ) (d : Base) (o : Option ℕ) (p : Option (List ℕ)) → object_number passed b ≡ o → objects_of passed bs ≡ p → at_value o (λ m. at_value p (λ ms. Some (m ∷ ms))) ≡ Some ns → slice_get ns i ≡ Some n →
    ((j : ℕ) (ms : List ℕ) → objects_of passed bs ≡ Some ms → slice_get ms j ≡ Some n → object_number passed (slice_index_or bs j d) ≡ Some n) → object_number passed (slice_index_or (b ∷ bs) i d) ≡ Some n
one_more passed b bs ns i n d None p same rest is e ih = absurd (none-some ns is)
one_more passed b bs ns i n d (Some m) None same rest is e ih = absurd (none-some ns is)
one_more passed b bs ns zero n d (Some m) (Some ms) same rest is e ih =
    let whole : m ∷ ms ≡ ns = cc in
    same ∙ ap (λ xs. slice_get xs 0) whole ∙ e
one_more passed b bs ns (suc i) n d (Some m) (Some ms) same rest is e ih =
    let whole : m ∷ ms ≡ ns = cc in
    ih i ms rest (ap (λ xs. slice_get xs (suc i)) whole ∙ e)

objects_at : (passed : List ℕ) (bs : List Base) (ns : List ℕ) (i n : ℕ) (d : Base) → objects_of passed bs ≡ Some ns → slice_get ns i ≡ Some n → object_number passed (slice_index_or bs i d) ≡ Some n
objects_at passed [] ns i n d is e =
    let whole : [] ≡ ns = cc in
    absurd (none-some n (ap (λ xs. slice_get xs i) whole ∙ e))
objects_at passed (b ∷ bs) ns i n d is e = one_more passed b bs ns i n d (object_number passed b) (objects_of passed bs) refl refl is e (λ j ms r q. objects_at passed bs ms j n d r q)

base_at : (arrays : List Base) (passed old : List ℕ) → objects_of passed arrays ≡ Some old → (b : Base) (n : ℕ) → object_number old b ≡ Some n → object_number passed (moved_base arrays b) ≡ Some n
base_at arrays passed old is (Object k) n e = e
base_at arrays passed old is (Parameter k) n e = objects_at passed arrays old k n (Parameter k) is e

-- arrays that are passed in a list
pub meets_passed : (arrays : List Base) (passed old : List ℕ) → objects_of passed arrays ≡ Some old → Meets arrays passed old
meets_passed arrays passed old is = record { by = λ b n e. base_at arrays passed old is b n e }

module _ (p : Place) (passed old : List ℕ) (meets : Meets p.arrays passed old) where
  pub array_moved : (w : World) (array : Array) (c : Contents) → array_of old w array ≡ Some c → array_of passed w (moved_array p.arrays array) ≡ Some c
  array_moved w array c e =
      at_some (object_number old array.base) (object_number passed (moved_base p.arrays array.base)) (λ n. at_value (slice_get w.objects n) (λ c. only_if (same_kind c.kind array.kind) (Some c))) (λ n. at_value (slice_get w.objects n) (λ c. only_if (same_kind c.kind array.kind) (Some c))) c
      (λ n q. meets.by array.base n q) (λ n q. q) e

  pub keep_moved : (w : World) (array : Array) (i v : ℕ) (u : World) → keep old w array i v ≡ Some u → keep passed w (moved_array p.arrays array) i v ≡ Some u
  keep_moved w array i v u e =
      at_some (object_number old array.base) (object_number passed (moved_base p.arrays array.base))
      (λ n. at_value (array_of old w array) (λ c. at_value (stored c i v) (λ d. Some (with_array w n d))))
      (λ n. at_value (array_of passed w (moved_array p.arrays array)) (λ c. at_value (stored c i v) (λ d. Some (with_array w n d))))
      u (λ n q. meets.by array.base n q)
      (λ n q. at_some (array_of old w array) (array_of passed w (moved_array p.arrays array)) (λ c. at_value (stored c i v) (λ d. Some (with_array w n d))) (λ c. at_value (stored c i v) (λ d. Some (with_array w n d))) u
      (λ c r. array_moved w array c r) (λ c r. r) q)
      e

  pub objects_moved : (bs : List Base) (ns : List ℕ) → objects_of old bs ≡ Some ns → objects_of passed (map (moved_base p.arrays) bs) ≡ Some ns
  objects_moved [] ns e = e
  objects_moved (b ∷ bs) ns e =
      at_some (object_number old b) (object_number passed (moved_base p.arrays b)) (λ n. at_value (objects_of old bs) (λ ns. Some (n ∷ ns))) (λ n. at_value (objects_of passed (map (moved_base p.arrays) bs)) (λ ns. Some (n ∷ ns))) ns
      (λ n q. meets.by b n q)
      (λ n q. at_some (objects_of old bs) (objects_of passed (map (moved_base p.arrays) bs)) (λ ns. Some (n ∷ ns)) (λ ns. Some (n ∷ ns)) ns (λ ms r. objects_moved bs ms r) (λ ms r. r) q)
      e

  module _ (vars vs : Variables) (sees : Sees p.base vars vs) (w : World) where
    pub value_moved : (e : Expr) (v : ℕ) → value_of old vars w e ≡ Some v → value_of passed vs w (moved_expr p e) ≡ Some v
    value_moved (Constant word) v is = is
    value_moved (Variable x) v is = sees.by x v is
    value_moved (Element array index) v is =
        at_some (value_of old vars w index) (value_of passed vs w (moved_expr p index)) (λ i. at_value (array_of old w array) (λ c. element c i)) (λ i. at_value (array_of passed w (moved_array p.arrays array)) (λ c. element c i)) v
        (λ i q. value_moved index i q)
        (λ i q. at_some (array_of old w array) (array_of passed w (moved_array p.arrays array)) (λ c. element c i) (λ c. element c i) v (λ c r. array_moved w array c r) (λ c r. r) q)
        is
    value_moved (Unary operator operand) v is =
        at_some (value_of old vars w operand) (value_of passed vs w (moved_expr p operand)) (λ u. Some (unary_word operator u)) (λ u. Some (unary_word operator u)) v
        (λ u q. value_moved operand u q) (λ u q. q) is
    value_moved (Binary operator a b) v is =
        at_some (value_of old vars w a) (value_of passed vs w (moved_expr p a)) (λ x. at_value (value_of old vars w b) (λ y. Some (binary_word operator x y))) (λ x. at_value (value_of passed vs w (moved_expr p b)) (λ y. Some (binary_word operator x y))) v
        (λ x q. value_moved a x q)
        (λ x q. at_some (value_of old vars w b) (value_of passed vs w (moved_expr p b)) (λ y. Some (binary_word operator x y)) (λ y. Some (binary_word operator x y)) v (λ y r. value_moved b y r) (λ y r. r) q)
        is

    pub values_moved : (es : List Expr) (xs : List ℕ) → values_of old vars w es ≡ Some xs → values_of passed vs w (map (moved_expr p) es) ≡ Some xs
    values_moved [] xs is = is
    values_moved (e ∷ es) xs is =
        at_some (value_of old vars w e) (value_of passed vs w (moved_expr p e)) (λ v. at_value (values_of old vars w es) (λ ys. Some (v ∷ ys))) (λ v. at_value (values_of passed vs w (map (moved_expr p) es)) (λ ys. Some (v ∷ ys))) xs
        (λ v q. value_moved e v q)
        (λ v q. at_some (values_of old vars w es) (values_of passed vs w (map (moved_expr p) es)) (λ ys. Some (v ∷ ys)) (λ ys. Some (v ∷ ys)) xs (λ ys r. values_moved es ys r) (λ ys r. r) q)
        is

-- a caller's own expressions in its larger frame
module _ (passed : List ℕ) (vars vs : Variables) (sees : Sees 0 vars vs) (w : World) where
  pub value_same : (e : Expr) (v : ℕ) → value_of passed vars w e ≡ Some v → value_of passed vs w e ≡ Some v
  value_same (Constant word) v is = is
  value_same (Variable x) v is = let z : 0 + x ≡ x = omega arith in subst (λ k. held vs k ≡ Some v) z (sees.by x v is)
  value_same (Element array index) v is =
      at_some (value_of passed vars w index) (value_of passed vs w index) (λ i. at_value (array_of passed w array) (λ c. element c i)) (λ i. at_value (array_of passed w array) (λ c. element c i)) v (λ i q. value_same index i q) (λ i q. q) is
  value_same (Unary operator operand) v is =
      at_some (value_of passed vars w operand) (value_of passed vs w operand) (λ u. Some (unary_word operator u)) (λ u. Some (unary_word operator u)) v (λ u q. value_same operand u q) (λ u q. q) is
  value_same (Binary operator a b) v is =
      at_some (value_of passed vars w a) (value_of passed vs w a) (λ x. at_value (value_of passed vars w b) (λ y. Some (binary_word operator x y))) (λ x. at_value (value_of passed vs w b) (λ y. Some (binary_word operator x y))) v
      (λ x q. value_same a x q)
      (λ x q. at_some (value_of passed vars w b) (value_of passed vs w b) (λ y. Some (binary_word operator x y)) (λ y. Some (binary_word operator x y)) v (λ y r. value_same b y r) (λ y r. r) q)
      is

  pub values_same : (es : List Expr) (xs : List ℕ) → values_of passed vars w es ≡ Some xs → values_of passed vs w es ≡ Some xs
  values_same [] xs is = is
  values_same (e ∷ es) xs is =
      at_some (value_of passed vars w e) (value_of passed vs w e) (λ v. at_value (values_of passed vars w es) (λ ys. Some (v ∷ ys))) (λ v. at_value (values_of passed vs w es) (λ ys. Some (v ∷ ys))) xs
      (λ v q. value_same e v q)
      (λ v q. at_some (values_of passed vars w es) (values_of passed vs w es) (λ ys. Some (v ∷ ys)) (λ ys. Some (v ∷ ys)) xs (λ ys r. values_same es ys r) (λ ys r. r) q)
      is
