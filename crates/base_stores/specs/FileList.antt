-- Files kept as a list of names and contents, and the place of a name in it.
use Rattle.std.specs.Prelude.{◌≡◌, ℕ, ◌+◌, ◌<◌, List, [], ◌∷◌, ◌++◌, length, take, drop, Some, None, map, slice_index_or}
use Rattle.wcc_base.specs.Outside.{Files, file_of, put_file}

-- what a list of names and contents tells
abbrev pub told : {S V : Type 0} → (S → List ℕ) → (V → List ℕ) → List (S × V) → Files
told name bytes es = map (λ e. (name e.0, bytes e.1)) es

-- no file has that name
pub record IsAbsent (name : List ℕ) (fs : Files) : Type 0 where
  pub none : file_of fs name ≡ None
  pub put : (bytes : List ℕ) → put_file name bytes fs ≡ fs ++ (name, bytes) ∷ []

-- the file of that name stands at that place of the list
pub record IsPlace {S V : Type 0} (text : S → List ℕ) (bytes : V → List ℕ) (name : List ℕ) (es : List (S × V)) (i : ℕ) : Type 0 where
  pub within : i < length es
  pub named : (d : S × V) → text (slice_index_or es i d).0 ≡ name
  pub found : (d : S × V) → file_of (told text bytes es) name ≡ Some (bytes (slice_index_or es i d).1)
  pub put : (b : List ℕ) → put_file name b (told text bytes es) ≡ told text bytes (take i es) ++ (name, b) ∷ told text bytes (drop (i + 1) es)

-- the file of that name isn't before that place
pub record Passed {S V : Type 0} (text : S → List ℕ) (bytes : V → List ℕ) (name : List ℕ) (es : List (S × V)) (i : ℕ) : Type 0 where
  pub found : file_of (told text bytes es) name ≡ file_of (told text bytes (drop i es)) name
  pub put : (b : List ℕ) → put_file name b (told text bytes es) ≡ told text bytes (take i es) ++ put_file name b (told text bytes (drop i es))
