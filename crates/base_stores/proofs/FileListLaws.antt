-- The search for a file in a list of names and contents.
use Rattle.std.proofs.Common.{◌≡◌, ℕ, ◌+◌, ◌<◌, List, [], ◌∷◌, ◌++◌, length, take, drop, set, true, Some, refl, sym, ap, ◌∙◌, arith, get_or, unwrap_or}
use Rattle.std.specs.Str.{bytes_eq}
use Rattle.std.proofs.lemmas.Slice.Eq.{bytes_eq-Decides}
use Rattle.std.proofs.lemmas.List.{map-append, take-append-drop, take-set, drop-set}
use Rattle.std.proofs.lemmas.Grind.{common_steps}
use Rattle.wcc_base.specs.Outside.{file_of, bytes_of, put_file}
use Rattle.base_stores.specs.FileList.{told, IsPlace, Passed}

-- one entry and the rest
at_drop : {X : Type 0} (es : List X) (i : ℕ) (e : X) → i < length es → e ≡ get_or es i e → drop i es ≡ e ∷ drop (i + 1) es
at_drop es i e lt is = grind (arith, common_steps)

get_or_any : {X : Type 0} (es : List X) (i : ℕ) (e d : X) → i < length es → e ≡ get_or es i e → get_or es i d ≡ e
get_or_any es i e d lt is = grind (arith, common_steps)

head_found : {S V : Type 0} (text : S → List ℕ) (bytes : V → List ℕ) (name : List ℕ) (e : S × V) (es : List (S × V)) → bytes_eq (text e.0) name ≡ true → file_of (told text bytes (e ∷ es)) name ≡ Some (bytes e.1)
head_found text bytes name e es same = rw same refl

head_put : {S V : Type 0} (text : S → List ℕ) (bytes : V → List ℕ) (name : List ℕ) (e : S × V) (es : List (S × V)) (b : List ℕ) → bytes_eq (text e.0) name ≡ true → put_file name b (told text bytes (e ∷ es)) ≡ (name, b) ∷ told text bytes es
head_put text bytes name e es b same = rw same refl

pub here : {S V : Type 0} (text : S → List ℕ) (bytes : V → List ℕ) (name : List ℕ) (es : List (S × V)) (i : ℕ) (e : S × V) → i < length es → e ≡ get_or es i e → bytes_eq (text e.0) name ≡ true → Passed text bytes name es i → IsPlace text bytes name es i
here text bytes name es i e lt is same p =
    let cut : drop i es ≡ e ∷ drop (i + 1) es = at_drop es i e lt is in
    record {
      within = lt;
      named = λ d. ap (λ x. text x.0) (get_or_any es i e d lt is) ∙ (bytes_eq-Decides (text e.0) name).0 same;
      found = λ d. p.found ∙ ap (λ l. file_of (told text bytes l) name) cut ∙ head_found text bytes name e (drop (i + 1) es) same ∙ ap (λ x. Some (bytes x.1)) (sym (get_or_any es i e d lt is));
      put = λ b. p.put b ∙ ap (λ l. told text bytes (take i es) ++ put_file name b (told text bytes l)) cut ∙ ap (λ l. told text bytes (take i es) ++ l) (head_put text bytes name e (drop (i + 1) es) b same);
    }

-- an entry written back
told-set : {S V : Type 0} (text : S → List ℕ) (bytes : V → List ℕ) (es : List (S × V)) (i : ℕ) (e : S × V) → i < length es → told text bytes (set es i e) ≡ told text bytes (take i es) ++ (text e.0, bytes e.1) ∷ told text bytes (drop (i + 1) es)
told-set text bytes es i e lt =
    ap (told text bytes) (sym (take-append-drop i (set es i e)) ∙ grind (arith, common_steps, take-set es i e, drop-set es i e lt)) ∙ map-append (λ x. (text x.0, bytes x.1)) (take i es) (e ∷ drop (i + 1) es)

pub put_back : {S V : Type 0} (text : S → List ℕ) (bytes : V → List ℕ) (name b : List ℕ) (es : List (S × V)) (i : ℕ) (e : S × V) (v : V) → IsPlace text bytes name es i → e ≡ get_or es i e → bytes v ≡ b → told text bytes (set es i (e.0, v)) ≡ put_file name b (told text bytes es)
put_back text bytes name b es i e v p is same =
    told-set text bytes es i (e.0, v) p.within
    ∙ ap (λ x. told text bytes (take i es) ++ x ∷ told text bytes (drop (i + 1) es)) (ap (λ t. (t, bytes v)) (ap (λ x. text x.0) is ∙ p.named e) ∙ ap (λ t. (name, t)) same)
    ∙ sym (p.put b)

pub same_back : {S V : Type 0} (text : S → List ℕ) (bytes : V → List ℕ) (name : List ℕ) (es : List (S × V)) (i : ℕ) (e : S × V) (v : V) → IsPlace text bytes name es i → e ≡ get_or es i e → bytes v ≡ bytes e.1 → told text bytes (set es i (e.0, v)) ≡ told text bytes es
same_back text bytes name es i e v p is same =
    told-set text bytes es i (e.0, v) p.within
    ∙ ap (λ b. told text bytes (take i es) ++ (text e.0, b) ∷ told text bytes (drop (i + 1) es)) same
    ∙ sym (map-append (λ x. (text x.0, bytes x.1)) (take i es) (e ∷ drop (i + 1) es))
    ∙ ap (told text bytes) (ap (λ l. take i es ++ l) (sym (at_drop es i e p.within is)) ∙ take-append-drop i es)

-- a piece added to an entry
pub add_back : {S V : Type 0} (text : S → List ℕ) (bytes : V → List ℕ) (name piece : List ℕ) (es : List (S × V)) (i : ℕ) (e : S × V) (v : V) → IsPlace text bytes name es i → e ≡ get_or es i e → bytes v ≡ bytes e.1 ++ piece → told text bytes (set es i (e.0, v)) ≡ put_file name (bytes_of (told text bytes es) name ++ piece) (told text bytes es)
add_back text bytes name piece es i e v p is same =
    put_back text bytes name _ es i e v p is
    (same ∙ ap (λ o. unwrap_or o [] ++ piece) (ap (λ x. Some (bytes x.1)) is ∙ sym (p.found e)))
