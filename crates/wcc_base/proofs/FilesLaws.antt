-- Laws of files.
use Rattle.std.proofs.Common.{◌≡◌, ℕ, List, [], ◌∷◌, ◌++◌, Bool, true, false, cond, Option, Some, None, refl, ap, ◌∙◌, unwrap_or}
use Rattle.std.specs.Str.{bytes_eq}
use Rattle.std.specs.Prelude.{IsSome, IfSome}
use Rattle.std.proofs.lemmas.Slice.Eq.{bytes_eq-Decides}
use Rattle.wcc_base.specs.Outside.{Files, file_of, put_file, told_put, told_add}

same_name : (name : List ℕ) → bytes_eq name name ≡ true
same_name name = (bytes_eq-Decides name name).1 refl

pub file_of-put_same : (name b : List ℕ) (fs : Files) → file_of (put_file name b fs) name ≡ Some b
file_of-put_same name b [] = rw (same_name name) refl
file_of-put_same name b (f ∷ fs) = by_test (file_of-put_same name b fs) (bytes_eq f.0 name) refl
  where
    by_test : file_of (put_file name b fs) name ≡ Some b → (t : Bool) → bytes_eq f.0 name ≡ t → file_of (cond t ((name, b) ∷ fs) (f ∷ put_file name b fs)) name ≡ Some b
    by_test rest true e = rw (same_name name) refl
    by_test rest false e = rw e rest

pub put_file-put_file : (name a b : List ℕ) (fs : Files) → put_file name b (put_file name a fs) ≡ put_file name b fs
put_file-put_file name a b [] = rw (same_name name) refl
put_file-put_file name a b (f ∷ fs) = by_test (put_file-put_file name a b fs) (bytes_eq f.0 name) refl
  where
    by_test : put_file name b (put_file name a fs) ≡ put_file name b fs → (t : Bool) → bytes_eq f.0 name ≡ t → put_file name b (cond t ((name, a) ∷ fs) (f ∷ put_file name a fs)) ≡ cond t ((name, b) ∷ fs) (f ∷ put_file name b fs)
    by_test rest true e = rw (same_name name) refl
    by_test rest false e = rw e (ap (λ l. f ∷ l) rest)

pub told_file_is_there : (name b : List ℕ) (o : Option Files) → IfSome (told_put name b o) (λ fs. IsSome (file_of fs name))
told_file_is_there name b None = tt
told_file_is_there name b (Some fs) = rw (file_of-put_same name b fs) refl

pub told_put-told_put : (name a b : List ℕ) (o : Option Files) → told_put name b (told_put name a o) ≡ told_put name b o
told_put-told_put name a b None = refl
told_put-told_put name a b (Some fs) = ap Some (put_file-put_file name a b fs)

pub told_add-told_put : (name a b : List ℕ) (o : Option Files) → told_add name b (told_put name a o) ≡ told_put name (a ++ b) o
told_add-told_put name a b None = refl
told_add-told_put name a b (Some fs) =
    ap (λ x. Some (put_file name (unwrap_or x [] ++ b) (put_file name a fs))) (file_of-put_same name a fs) ∙ ap Some (put_file-put_file name a (a ++ b) fs)
