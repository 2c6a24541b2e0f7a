-- A marker's name is among those in its text, and its number is that of the name.
use Rattle.std.proofs.Common.{◌≡◌, ℕ, zero, suc, ◌+◌, ◌<◌, Bool, true, false, List, [], ◌∷◌, ◌++◌, length, Some, None, refl, sym, ap, ◌∙◌, subst, inl, inr, ◌⊎◌, arith, add-one}
use Rattle.std.specs.Prelude.{◌&&◌, ◌||◌, if◌then◌else◌, nat_le, slice_index_or}
use Rattle.std.specs.List.{Contains}
use Rattle.std.specs.Cmp.Lexicographic.{bytes_decides}
use Rattle.std.proofs.lemmas.Bool.{false≢true}
use Rattle.std.proofs.lemmas.Bool.Decides.{nat_tests}
use Rattle.std.proofs.lemmas.List.Elements.{All-contains_itself, All-head, Contains-append_right}
use Rattle.std.proofs.lemmas.Option.{none-some, same_Some}
use Rattle.facts_definitions.specs.FlowFacts.{id_in}
use Rattle.facts_definitions.specs.PragmaTexts as texts
use Rattle.facts_definitions.specs.PragmaTexts.{is_name, marker_name, name_among, pragma_runs, runs_from, same_bytes, same_class}
use Rattle.c_tree.specs.Bytes.{is_letter, is_name_byte}
use Rattle.c_tree.specs.Names.{name_of}
use Rattle.c_tree.specs.Pragmas as pragmas
use Rattle.c_tree.specs.Pragmas.{behind_first_word, is_gap, names_from, names_in}

here : {A : Type 0} (x : A) (xs : List A) → Contains (x ∷ xs) x
here x xs = All-head (Contains (x ∷ xs)) x xs (All-contains_itself (x ∷ xs))

behind : {A : Type 0} (y x : A) (xs : List A) → Contains xs x → Contains (y ∷ xs) x
behind y x xs h = Contains-append_right (y ∷ []) xs x h

one_of : {A : Type 0} (y x : A) (xs : List A) → Contains (y ∷ xs) x → (y ≡ x) ⊎ Contains xs x
one_of y x xs h = of h.0 h.1 h.2
  where
    of : (k : ℕ) → k < length (y ∷ xs) → slice_index_or (y ∷ xs) k x ≡ x → (y ≡ x) ⊎ Contains xs x
    of zero lt e = inl e
    of (suc k) lt e = inr (k, omega (arith, lt), e)

-- runs of bytes of names, and the names among them

abbrev starts : List ℕ → Bool
starts [] = false
starts (b ∷ bytes) = is_letter b

first_true : (x y : Bool) → (x && y) ≡ true → x ≡ true
first_true true y h = refl
first_true false y h = h

name_starts : (name : List ℕ) → is_name name ≡ true → starts name ≡ true
name_starts [] h = h
name_starts (b ∷ bytes) h = first_true (is_letter b) (texts.all_name_bytes bytes) h

no_letter : (b : ℕ) → is_name_byte b ≡ false → is_letter b ≡ false
no_letter b h = of (is_letter b) (nat_le 48 b && nat_le b 57) h
  where
    of : (x y : Bool) → (x || y) ≡ false → x ≡ false
    of true y h = h
    of false y h = refl

starts_push : (begun : List ℕ) (b : ℕ) → starts begun ≡ false → is_name_byte b ≡ false → starts (begun ++ b ∷ []) ≡ false
starts_push [] b h other = no_letter b other
starts_push (x ∷ begun) b h other = h

no_gap : (b : ℕ) → is_gap b ≡ true → is_name_byte b ≡ false
no_gap b h = grind (arith, nat_tests)

-- a name that ends a run, or stands behind it
flushed : (name begun : List ℕ) (runs names : List (List ℕ)) → is_name name ≡ true → (Contains runs name → Contains names name) → Contains (texts.with_run begun runs) name → Contains (pragmas.with_run begun names) name
flushed name [] runs names is rest h = rest h
flushed name (b ∷ begun) runs names is rest h = of (is_letter b) refl (one_of (b ∷ begun) name runs h)
  where
    of : (t : Bool) → is_letter b ≡ t → ((b ∷ begun) ≡ name) ⊎ Contains runs name → Contains (if t then (b ∷ begun) ∷ names else names) name
    of true e (inl same) = subst (λ n. Contains ((b ∷ begun) ∷ names) n) same (here (b ∷ begun) names)
    of true e (inr more) = behind (b ∷ begun) name names (rest more)
    of false e (inl same) = absurd (false≢true (sym e ∙ ap starts same ∙ name_starts name is))
    of false e (inr more) = rest more

-- a run that is no name
passed : (name begun : List ℕ) (runs names : List (List ℕ)) → is_name name ≡ true → starts begun ≡ false → (Contains runs name → Contains names name) → Contains (texts.with_run begun runs) name → Contains names name
passed name [] runs names is other rest h = rest h
passed name (b ∷ begun) runs names is other rest h = of (one_of (b ∷ begun) name runs h)
  where
    of : ((b ∷ begun) ≡ name) ⊎ Contains runs name → Contains names name
    of (inl same) = absurd (false≢true (sym other ∙ ap starts same ∙ name_starts name is))
    of (inr more) = rest more

module _ (name : List ℕ) (is : is_name name ≡ true) where
  mutual
    runs_named : (begun bytes : List ℕ) → Contains (runs_from true begun bytes) name → Contains (names_from begun bytes) name
    runs_named begun [] h = flushed name begun [] [] is (λ none. none) h
    runs_named begun (b ∷ bytes) h = of (is_gap b) (is_name_byte b) refl refl (runs_named [] bytes) (runs_named (begun ++ b ∷ []) bytes) (runs_other (b ∷ []) bytes) h
      where
        of : (gap named : Bool) → is_gap b ≡ gap → is_name_byte b ≡ named
            → (Contains (runs_from true [] bytes) name → Contains (names_from [] bytes) name)
            → (Contains (runs_from true (begun ++ b ∷ []) bytes) name → Contains (names_from (begun ++ b ∷ []) bytes) name)
            → (starts (b ∷ []) ≡ false → Contains (runs_from false (b ∷ []) bytes) name → Contains (names_from [] bytes) name)
            → Contains (if gap then texts.with_run begun (runs_from true [] bytes) else (if same_class true named then runs_from true (begun ++ b ∷ []) bytes else texts.with_run begun (runs_from named (b ∷ []) bytes))) name
            → Contains (if named then names_from (begun ++ b ∷ []) bytes else pragmas.with_run begun (names_from [] bytes)) name
        of true true e f anew on other h = absurd (false≢true (sym (no_gap b e) ∙ f))
        of true false e f anew on other h = flushed name begun (runs_from true [] bytes) (names_from [] bytes) is anew h
        of false true e f anew on other h = on h
        of false false e f anew on other h = flushed name begun (runs_from false (b ∷ []) bytes) (names_from [] bytes) is (other (no_letter b f)) h

    runs_other : (begun bytes : List ℕ) → starts begun ≡ false → Contains (runs_from false begun bytes) name → Contains (names_from [] bytes) name
    runs_other begun [] s h = passed name begun [] [] is s (λ none. none) h
    runs_other begun (b ∷ bytes) s h = of (is_gap b) (is_name_byte b) refl refl (runs_other [] bytes refl) (runs_other (begun ++ b ∷ []) bytes) (runs_named (b ∷ []) bytes) h
      where
        of : (gap named : Bool) → is_gap b ≡ gap → is_name_byte b ≡ named
            → (Contains (runs_from false [] bytes) name → Contains (names_from [] bytes) name)
            → (starts (begun ++ b ∷ []) ≡ false → Contains (runs_from false (begun ++ b ∷ []) bytes) name → Contains (names_from [] bytes) name)
            → (Contains (runs_from true (b ∷ []) bytes) name → Contains (names_from (b ∷ []) bytes) name)
            → Contains (if gap then texts.with_run begun (runs_from false [] bytes) else (if same_class false named then runs_from false (begun ++ b ∷ []) bytes else texts.with_run begun (runs_from named (b ∷ []) bytes))) name
            → Contains (if named then names_from (b ∷ []) bytes else names_from [] bytes) name
        of true true e f anew on named h = absurd (false≢true (sym (no_gap b e) ∙ f))
        of true false e f anew on named h = passed name begun (runs_from false [] bytes) (names_from [] bytes) is s anew h
        of false true e f anew on named h = passed name begun (runs_from true (b ∷ []) bytes) (names_from (b ∷ []) bytes) is s named h
        of false false e f anew on named h = on (starts_push begun b s f) h

-- the run of a marker
one_run : (runs : List (List ℕ)) (name : List ℕ) → name_among runs ≡ Some name → Contains runs name × (is_name name ≡ true)
one_run [] name h = absurd (none-some name h)
one_run (n ∷ []) name h = of (is_name n) refl h
  where
    of : (t : Bool) → is_name n ≡ t → (if t then Some n else None) ≡ Some name → Contains (n ∷ []) name × (is_name name ≡ true)
    of true e h = let same = same_Some n name h in (subst (Contains (n ∷ [])) same (here n []), ap is_name (sym same) ∙ e)
    of false e h = absurd (none-some name h)
one_run (n ∷ m ∷ more) name h = absurd (none-some name h)

pub marker_among : (text name : List ℕ) → marker_name text ≡ Some name → Contains (names_in text) name
marker_among text name h = let r = one_run (pragma_runs text) name h in runs_named name r.1 [] (behind_first_word false text) r.0

-- a name that is listed has a number
pub numbered : (names : List (List ℕ)) (name : List ℕ) → Contains names name → name_of names (id_in names name) ≡ name
numbered [] name h = absurd (omega (arith, h.1))
numbered (n ∷ names) name h = of (same_bytes n name) refl (one_of n name names h) (numbered names name)
  where
    of : (t : Bool) → same_bytes n name ≡ t → (n ≡ name) ⊎ Contains names name → (Contains names name → name_of names (id_in names name) ≡ name) → name_of (n ∷ names) (if t then 0 else id_in names name + 1) ≡ name
    of true e o rest = (bytes_decides n name).0 e
    of false e (inl same) rest = absurd (false≢true (sym e ∙ (bytes_decides n name).1 same))
    of false e (inr more) rest = ap (name_of (n ∷ names)) (add-one (id_in names name)) ∙ rest more
