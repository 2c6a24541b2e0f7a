-- At the start of a run.
use Rattle.std.proofs.Common.{◌≡◌, ℕ, zero, suc, ◌*◌, ◌<◌, ◌≤◌, ◌^◌, List, [], ◌∷◌, ◌++◌, length, map, replicate, take, Option, Some, None, refl, sym, ap, ◌∙◌, subst, arith}
use Rattle.std.specs.Prelude.{All, slice_get}
use Rattle.std.proofs.lemmas.List.{length-map, length-replicate}
use Rattle.std.proofs.lemmas.List.Elements.{All-head, All-tail}
use Rattle.std.proofs.lemmas.Option.{same_Some}
use Rattle.high_ir.specs.declared.object.Kind.{Kind as HighKind}
use Rattle.high_ir.specs.declared.object.Kind.TheVariants as kinds
use Rattle.high_ir.specs.declared.object.Storage.{Storage as HighStorage}
use Rattle.high_ir.specs.declared.object.Storage.TheVariants as storages
use Rattle.high_ir.specs.Meaning as high
use Rattle.high_ir.specs.Runs as runs
use Rattle.high_ir.specs.Tree.{Object}
use Rattle.high_ir.specs.Words as words
use Rattle.high_ir.specs.Whole.{IsSmall}
use Rattle.high_ir.proofs.Words.{converted_below}
use Rattle.low_ir.specs.Effects.{contents, first_elements, start}
use Rattle.low_ir.specs.Kinds.{converted}
use Rattle.lower_definition.specs.Objects.{kind_of, object_of, scale_of, storage_of}
use Rattle.lower_definition.specs.Values.{Scope}
use Rattle.lower_values.specs.Meeting.{AreWords, IsSound, MeetsWorld, contents_of}
use Rattle.lower_values.proofs.Widths.{converted-kind_of}

-- lists of words
words_take : (n : ℕ) (xs : List (Option ℕ)) → AreWords xs → AreWords (take n xs)
words_take zero xs h i v e = cc
words_take (suc n) [] h i v e = cc
words_take (suc n) (x ∷ xs) h zero v e = h 0 v e
words_take (suc n) (x ∷ xs) h (suc i) v e = words_take n xs (λ j z f. h (suc j) z f) i v e

words_append : (xs ys : List (Option ℕ)) → AreWords xs → AreWords ys → AreWords (xs ++ ys)
words_append [] ys h k i v e = k i v e
words_append (x ∷ xs) ys h k zero v e = h 0 v e
words_append (x ∷ xs) ys h k (suc i) v e = words_append xs ys (λ j z f. h (suc j) z f) k i v e

words_zeros : (n : ℕ) → AreWords (replicate n (Some 0))
words_zeros zero i v e = cc
words_zeros (suc n) zero v e = let is : 0 ≡ v = same_Some 0 v e in omega (arith, is)
words_zeros (suc n) (suc i) v e = words_zeros n i v e

words_none : (n : ℕ) → AreWords (replicate n None)
words_none zero i v e = cc
words_none (suc n) zero v e = cc
words_none (suc n) (suc i) v e = words_none n i v e

words_given : (k : HighKind) (vs : List ℕ) → All (λ v. v < 2 ^ 32) vs → AreWords (map (λ v. Some (words.converted k v)) vs)
words_given k [] all i v e = cc
words_given k (x ∷ vs) all zero v e = subst (λ n. n < 2 ^ 32) (same_Some (words.converted k x) v e) (converted_below k x (All-head (λ v. v < 2 ^ 32) x vs all))
words_given k (x ∷ vs) all (suc i) v e = words_given k vs (All-tail (λ v. v < 2 ^ 32) x vs all) i v e

given_same : (k : HighKind) (vs : List ℕ) → All (λ v. v < 2 ^ 32) vs → map (λ v. Some (converted (kind_of k) v)) vs ≡ map (λ v. Some (words.converted k v)) vs
given_same k [] all = refl
given_same k (x ∷ vs) all =
    ap (λ n. Some n ∷ map (λ v. Some (converted (kind_of k) v)) vs) (converted-kind_of k x (All-head (λ v. v < 2 ^ 32) x vs all))
    ∙ ap (λ xs. Some (words.converted k x) ∷ xs) (given_same k vs (All-tail (λ v. v < 2 ^ 32) x vs all))

take_count : (n : ℕ) (xs : List (Option ℕ)) → length (take n xs) ≤ n
take_count zero xs = omega arith
take_count (suc n) [] = omega arith
take_count (suc n) (x ∷ xs) = let h = take_count n xs in omega (arith, h)

fewer : (k : HighKind) (a b : ℕ) → a ≤ b → words.kind_bytes k * b ≤ 2 ^ 32 → 2 ^ scale_of k * a ≤ 2 ^ 32
fewer kinds.Unsigned8 a b h k = omega (arith, h, k)
fewer kinds.Signed8 a b h k = omega (arith, h, k)
fewer kinds.Unsigned16 a b h k = omega (arith, h, k)
fewer kinds.Signed16 a b h k = omega (arith, h, k)
fewer kinds.Word a b h k = omega (arith, h, k)

module _ (o : Object) (small : IsSmall o) where
  elements_same : (s : HighStorage) → first_elements (storage_of s) (object_of o) ≡ runs.first_elements s o
  elements_same storages.Constant = ap (λ xs. take o.size (xs ++ replicate o.size (Some 0))) (given_same o.kind o.values small.values)
  elements_same storages.Global = ap (λ xs. take o.size (xs ++ replicate o.size (Some 0))) (given_same o.kind o.values small.values)
  elements_same storages.Local = refl

  contents_same : contents (object_of o) ≡ contents_of (runs.contents o)
  contents_same = ap (λ es. record { kind = kind_of o.kind; storage = storage_of o.storage; elements = es }) (elements_same o.storage)

  elements_words : (s : HighStorage) → AreWords (runs.first_elements s o)
  elements_words storages.Constant =
      let given = map (λ v. Some (words.converted o.kind v)) o.values in
      let zeros = replicate o.size (Some 0) in
      words_take o.size (given ++ zeros) (words_append given zeros (words_given o.kind o.values small.values) (words_zeros o.size))
  elements_words storages.Global =
      let given = map (λ v. Some (words.converted o.kind v)) o.values in
      let zeros = replicate o.size (Some 0) in
      words_take o.size (given ++ zeros) (words_append given zeros (words_given o.kind o.values small.values) (words_zeros o.size))
  elements_words storages.Local = words_none o.size

  elements_count : (s : HighStorage) → length (runs.first_elements s o) ≤ o.size
  elements_count storages.Constant = take_count o.size (map (λ v. Some (words.converted o.kind v)) o.values ++ replicate o.size (Some 0))
  elements_count storages.Global = take_count o.size (map (λ v. Some (words.converted o.kind v)) o.values ++ replicate o.size (Some 0))
  elements_count storages.Local = let e : length (replicate {A = Option ℕ} o.size None) ≡ o.size = length-replicate {A = Option ℕ} o.size None in omega (arith, e)

  sound_start : IsSound (runs.contents o)
  sound_start = record { size = fewer o.kind (length (runs.first_elements o.storage o)) o.size (elements_count o.storage) small.size; words = elements_words o.storage }

objects_same : (os : List Object) → All IsSmall os → map contents (map object_of os) ≡ map contents_of (map runs.contents os)
objects_same [] all = refl
objects_same (o ∷ os) all =
    ap (λ c. c ∷ map contents (map object_of os)) (contents_same o (All-head IsSmall o os all))
    ∙ ap (λ cs. contents_of (runs.contents o) ∷ cs) (objects_same os (All-tail IsSmall o os all))

sound_at : (os : List Object) (i : ℕ) (c : high.Contents) → All IsSmall os → slice_get (map runs.contents os) i ≡ Some c → IsSound c
sound_at [] i c all e = cc
sound_at (o ∷ os) zero c all e = subst IsSound (same_Some (runs.contents o) c e) (sound_start o (All-head IsSmall o os all))
sound_at (o ∷ os) (suc i) c all e = sound_at os i c (All-tail IsSmall o os all) e

input_at : (input : List ℕ) (i b : ℕ) → All (λ c. c < 2 ^ 8) input → slice_get input i ≡ Some b → b < 2 ^ 32
input_at [] i b all e = cc
input_at (x ∷ xs) zero b all e =
    let small = All-head (λ c. c < 2 ^ 8) x xs all in
    let is : x ≡ b = same_Some x b e in
    omega (arith, small, is)
input_at (x ∷ xs) (suc i) b all e = input_at xs i b (All-tail (λ c. c < 2 ^ 8) x xs all) e

pub start_meets : (scope : Scope) (os : List Object) (input : List ℕ) → scope.objects ≡ length os → All IsSmall os → All (λ c. c < 2 ^ 8) input → MeetsWorld scope (runs.start os input) (start (map object_of os) input)
start_meets scope os input count small bytes = record {
  objects = objects_same os small;
  count = length-map os runs.contents ∙ sym count;
  sound = λ o c e. sound_at os o c small e;
  input = refl;
  input_words = λ i b e. input_at input i b bytes e;
  output = refl;
}
