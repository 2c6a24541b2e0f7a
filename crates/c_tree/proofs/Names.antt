-- How a list of names grows, and the form of the names in it.
use Rattle.std.proofs.Common.{◌≡◌, ℕ, zero, suc, ◌+◌, ◌-◌, ◌<◌, ◌≤◌, Bool, true, false, ◌||◌, List, [], ◌∷◌, ◌++◌, length, map, refl, sym, ap, subst, ◌∙◌, arith, append_assoc, true≢false, length-take, length-drop}
use Rattle.std.specs.Prelude.{if◌then◌else◌, nat_eq, slice_index, slice_range}
use Rattle.std.specs.List.{All, Contains, list_any}
use Rattle.std.specs.Cmp.Lexicographic.{pointwise, bytes_decides}
use Rattle.std.proofs.lemmas.Bool.Decides.{nat_tests}
use Rattle.std.proofs.lemmas.List.{append-nil, get_or-drop, get_or-take}
use Rattle.std.proofs.lemmas.List.Elements.{All-append, All-cons, All-contains_itself, All-head, All-nil, Contains-append_left, Contains-append_right}
use Rattle.c_tree.specs.declared.token.Token.{Token}
use Rattle.c_tree.specs.declared.token.TokenKind.{TokenKind}
use Rattle.c_tree.specs.declared.token.TokenKind.TheVariants as kinds
use Rattle.c_tree.specs.Bytes.{IsLetter, IsNameByte, is_letter, is_name_byte}
use Rattle.c_tree.specs.Names.{HasNameForm, names_among, names_of_tokens, names_said, with_name, with_names}
use Rattle.c_tree.specs.Pragmas.{behind_first_word, names_from, names_in, pragma_text, with_run}
use Rattle.c_tree.specs.Said.{AreTokens, IsName, IsToken, Lexeme, lexeme, said}
use Rattle.c_tree.specs.Spelling.{spoken}

pub with_names-append : (names xs ys : List (List ℕ)) → with_names names (xs ++ ys) ≡ with_names (with_names names xs) ys
with_names-append names [] ys = refl
with_names-append names (x ∷ xs) ys = with_names-append (with_name names x) xs ys

pub names_among-append : (xs ys : List Lexeme) → names_among (xs ++ ys) ≡ names_among xs ++ names_among ys
names_among-append [] ys = refl
names_among-append (x ∷ xs) ys = ap (λ names. names_said x ++ names) (names_among-append xs ys) ∙ sym (append_assoc (names_said x) (names_among xs) (names_among ys))

-- the names before, and more behind them
abbrev pub Extends : (before after : List (List ℕ)) → Type 0
Extends before after = (more : List (List ℕ)) × (after ≡ before ++ more)

with_name-extends : (names : List (List ℕ)) (name : List ℕ) → Extends names (with_name names name)
with_name-extends names name = by (list_any (pointwise nat_eq name) names)
  where
    by : (among : Bool) → Extends names (if among then names else names ++ name ∷ [])
    by true = ([], sym (append-nil names))
    by false = (name ∷ [], refl)

pub with_names-extends : (names more : List (List ℕ)) → Extends names (with_names names more)
with_names-extends names [] = ([], sym (append-nil names))
with_names-extends names (name ∷ more) =
    let first = with_name-extends names name in
    let rest = with_names-extends (with_name names name) more in
    (first.0 ++ rest.0, rest.1 ∙ ap (λ names. names ++ rest.0) first.1 ∙ append_assoc names first.0 rest.0)

with_name-All : (P : List ℕ → Type 0) (names : List (List ℕ)) (name : List ℕ) → All P names → P name → All P (with_name names name)
with_name-All P names name all p = by (list_any (pointwise nat_eq name) names)
  where
    by : (among : Bool) → All P (if among then names else names ++ name ∷ [])
    by true = all
    by false = All-append P names (name ∷ []) all (All-cons P name [] p (All-nil P))

-- each name of a list is so, by the names in turn
abbrev pub EachName : (List ℕ → Type 0) → List (List ℕ) → Type 0
EachName P [] = Unit {0}
EachName P (name ∷ names) = P name × EachName P names

pub EachName-append : (P : List ℕ → Type 0) (xs ys : List (List ℕ)) → EachName P xs → EachName P ys → EachName P (xs ++ ys)
EachName-append P [] ys h k = k
EachName-append P (x ∷ xs) ys h k = (h.0, EachName-append P xs ys h.1 k)

pub All-from_EachName : (P : List ℕ → Type 0) (names : List (List ℕ)) → EachName P names → All P names
All-from_EachName P [] h = All-nil P
All-from_EachName P (name ∷ names) h = All-cons P name names h.0 (All-from_EachName P names h.1)

pub with_names-All : (P : List ℕ → Type 0) (names more : List (List ℕ)) → All P names → EachName P more → All P (with_names names more)
with_names-All P names [] all h = all
with_names-All P names (name ∷ more) all h = with_names-All P (with_name names name) more (with_name-All P names name all h.0) h.1

-- a name that is among others
among : (name : List ℕ) (names : List (List ℕ)) → list_any (pointwise nat_eq name) names ≡ true → Contains names name
among name [] h = absurd (true≢false (sym h))
among name (first ∷ names) h = by (pointwise nat_eq name first) refl h (among name names)
  where
    by : (same : Bool) → pointwise nat_eq name first ≡ same → (same || list_any (pointwise nat_eq name) names) ≡ true → (list_any (pointwise nat_eq name) names ≡ true → Contains names name) → Contains (first ∷ names) name
    by true e h rest = subst (Contains (first ∷ names)) (sym ((bytes_decides name first).0 e)) (All-head (Contains (first ∷ names)) first names (All-contains_itself (first ∷ names)))
    by false e h rest = Contains-append_right (first ∷ []) names name (rest h)

with_name-Contains : (names : List (List ℕ)) (name : List ℕ) → Contains (with_name names name) name
with_name-Contains names name = by (list_any (pointwise nat_eq name) names) refl
  where
    by : (test : Bool) → list_any (pointwise nat_eq name) names ≡ test → Contains (if test then names else names ++ name ∷ []) name
    by true e = among name names e
    by false e = Contains-append_right names (name ∷ []) name (All-head (Contains (name ∷ [])) name [] (All-contains_itself (name ∷ [])))

kept : (names more : List (List ℕ)) (name : List ℕ) → Contains names name → Contains (with_names names more) name
kept names more name h = let e = with_names-extends names more in subst (λ all. Contains all name) (sym e.1) (Contains-append_left names e.0 name h)

-- all that are taken in stand there
pub with_names-Contains : (names more : List (List ℕ)) → EachName (Contains (with_names names more)) more
with_names-Contains names [] = tt
with_names-Contains names (name ∷ more) = (kept (with_name names name) more name (with_name-Contains names name), with_names-Contains (with_name names name) more)

abbrev EachByte : (ℕ → Type 0) → List ℕ → Type 0
EachByte P [] = Unit {0}
EachByte P (b ∷ bytes) = P b × EachByte P bytes

EachByte-push : (P : ℕ → Type 0) (bytes : List ℕ) (b : ℕ) → EachByte P bytes → P b → EachByte P (bytes ++ b ∷ [])
EachByte-push P [] b h p = (p, tt)
EachByte-push P (x ∷ bytes) b h p = (h.0, EachByte-push P bytes b h.1 p)

byte_at : (P : ℕ → Type 0) (bytes : List ℕ) (i : ℕ) → EachByte P bytes → i < length bytes → P (slice_index bytes i)
byte_at P [] i h lt = absurd (omega (arith, lt))
byte_at P (b ∷ bytes) zero h lt = h.0
byte_at P (b ∷ bytes) (suc i) h lt = byte_at P bytes i h.1 (omega (arith, lt))

letter : (b : ℕ) → is_letter b ≡ true → IsLetter b
letter b h = grind (arith, nat_tests)

name_byte : (b : ℕ) → is_name_byte b ≡ true → IsNameByte b
name_byte b h = grind (arith, nat_tests)

with_run-named : (run : List ℕ) (names : List (List ℕ)) → EachByte IsNameByte run → EachName HasNameForm names → EachName HasNameForm (with_run run names)
with_run-named [] names h k = k
with_run-named (b ∷ bytes) names h k = by (is_letter b) refl
  where
    by : (test : Bool) → is_letter b ≡ test → EachName HasNameForm (if test then (b ∷ bytes) ∷ names else names)
    by true e = (record { some = omega arith; first = letter b e; bytes = λ i after before. byte_at IsNameByte (b ∷ bytes) i h before }, k)
    by false e = k

names_from-named : (begun bytes : List ℕ) → EachByte IsNameByte begun → EachName HasNameForm (names_from begun bytes)
names_from-named begun [] h = with_run-named begun [] h tt
names_from-named begun (b ∷ bytes) h = by (is_name_byte b) refl (names_from-named (begun ++ b ∷ []) bytes) (with_run-named begun (names_from [] bytes) h (names_from-named [] bytes tt))
  where
    by : (test : Bool) → is_name_byte b ≡ test → (EachByte IsNameByte (begun ++ b ∷ []) → EachName HasNameForm (names_from (begun ++ b ∷ []) bytes)) → EachName HasNameForm (with_run begun (names_from [] bytes)) → EachName HasNameForm (if test then names_from (begun ++ b ∷ []) bytes else with_run begun (names_from [] bytes))
    by true e more other = more (EachByte-push IsNameByte begun b h (name_byte b e))
    by false e more other = other

-- the names in a text have the form of names
pub names_in-named : (text : List ℕ) → EachName HasNameForm (names_in text)
names_in-named text = names_from-named [] (behind_first_word false text) tt

name_form : (source : List ℕ) (at end : ℕ) → at < end → end ≤ length source → IsName source at end → HasNameForm (slice_range source at end)
name_form source at end some within is = record {
  some = omega (arith, size, some);
  first = subst IsLetter (ap (slice_index source) (omega arith) ∙ sym (read 0 (omega (arith, some)))) is.first;
  bytes = λ i after before. subst IsNameByte (sym (read i (omega (arith, size, before)))) (is.bytes (at + i) (omega arith) (omega (arith, size, before)));
}
  where
    size : length (slice_range source at end) ≡ end - at
    size = simp (length-take, length-drop) (omega (arith, within, some))

    read : (i : ℕ) → i < end - at → slice_index (slice_range source at end) i ≡ slice_index source (at + i)
    read i lt = get_or-take (end - at) _ i 0 lt ∙ get_or-drop at source i 0

said_named : (kind : TokenKind) (source : List ℕ) (at end : ℕ) → IsToken kind source at end → EachName HasNameForm (names_said (lexeme kind source at end))
said_named kinds.Name source at end is = (name_form source at end is.some is.within is.form, tt)
said_named kinds.Number source at end is = tt
said_named kinds.Character source at end is = tt
said_named kinds.LoopBound source at end is = tt
said_named kinds.Marker source at end is = names_in-named (pragma_text source at end)
said_named kinds.FlowRestriction source at end is = names_in-named (pragma_text source at end)
said_named _ source at end is = tt

among_named : (source : List ℕ) (tokens : List Token) → AreTokens source tokens → EachName HasNameForm (names_among (map (λ token. token.said) (spoken (record { source = source; list = tokens }))))
among_named source [] are = tt
among_named source (token ∷ tokens) are = EachName-append HasNameForm (names_said (said source token)) _ (said_named token.kind source token.at token.end are.0) (among_named source tokens are.1)

-- the names of tokens have the form of names
pub tokens_named : (source : List ℕ) (tokens : List Token) → AreTokens source tokens → All HasNameForm (names_of_tokens (spoken (record { source = source; list = tokens })))
tokens_named source tokens are = with_names-All HasNameForm [] _ (All-nil HasNameForm) (among_named source tokens are)
