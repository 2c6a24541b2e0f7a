-- The names of a source stand in its tokens, which share no byte.
use Rattle.std.proofs.Common.{◌≡◌, ℕ, ◌+◌, ◌<◌, ◌≤◌, Bool, true, false, List, [], ◌∷◌, ◌++◌, length, map, refl, sym, ap, ◌∙◌, subst, arith}
use Rattle.std.specs.Prelude.{codes, if◌then◌else◌, nat_eq}
use Rattle.std.specs.List.{list_any}
use Rattle.std.specs.Cmp.Lexicographic.{pointwise}
use Rattle.c_tree.specs.declared.token.Token.{Token}
use Rattle.c_tree.specs.declared.token.TokenKind.{TokenKind}
use Rattle.c_tree.specs.declared.token.TokenKind.TheVariants as tokens
use Rattle.c_tree.specs.Named.{named_unit}
use Rattle.c_tree.specs.Names.{name_of, names_among, names_said, with_name, with_names}
use Rattle.c_tree.specs.Pragmas.{pragma_text}
use Rattle.c_tree.specs.Said.{IsToken, lexeme, said}
use Rattle.c_tree.specs.Spelling.{spell_unit, spoken}
use Rattle.c_tree.specs.Tree.{TranslationUnit}
use Rattle.c_tree.proofs.Holding.{said_agree}
use Rattle.c_lexer.specs.declared.pieces.Kind.{Kind}
use Rattle.c_lexer.specs.declared.pieces.Kind.TheVariants as kinds
use Rattle.c_lexer.specs.declared.pieces.Piece.{Piece}
use Rattle.c_lexer.specs.Cut.{IsCut, tokens_of, with_token}
use Rattle.c_lexer.proofs.Tokens.{stands_token}
use Rattle.facts_sources.specs.Sources.{HasUnit}
use Rattle.facts_limits.specs.Names.{names_length}
use Rattle.facts_limits.proofs.Pragmas.{names_in_size, pragma_size, range_size}

names_append : (xs ys : List (List ℕ)) → names_length (xs ++ ys) ≡ names_length xs + names_length ys
names_append [] ys = omega arith
names_append (x ∷ xs) ys = let rest = names_append xs ys in omega (arith, rest)

-- what a token says stands in it
said_size : (kind : TokenKind) (source : List ℕ) (at end : ℕ) → IsToken kind source at end → names_length (names_said (lexeme kind source at end)) + at ≤ end
said_size tokens.Name source at end is = let size = range_size source at end is.within in let some = is.some in omega (arith, size, some)
said_size tokens.Marker source at end is = let names = names_in_size (pragma_text source at end) in let text = pragma_size (codes "marker") source at end is.some is.within is.form in omega (arith, names, text)
said_size tokens.FlowRestriction source at end is = let names = names_in_size (pragma_text source at end) in let text = pragma_size (codes "flowrestriction") source at end is.some is.within is.form in omega (arith, names, text)
said_size _ source at end is = let some = is.some in omega (arith, some)

-- what tokens say
abbrev told : List ℕ → List Token → List (List ℕ)
told source list = names_among (map (λ token. token.said) (spoken (record { source = source; list = list })))

cut_size : (pieces : List Piece) (fresh : Bool) (source : List ℕ) (from to : ℕ) → IsCut pieces fresh source from to → names_length (told source (tokens_of pieces from)) + from ≤ to
cut_size [] fresh source from to cut = omega (arith, cut)
cut_size (piece ∷ pieces) fresh source from to cut = by piece.kind refl (cut_size pieces piece.fresh source piece.end to cut.2) cut.0.longest.piece.some
  where
    by : (kind : Kind) → piece.kind ≡ kind → names_length (told source (tokens_of pieces piece.end)) + piece.end ≤ to → from < piece.end → names_length (told source (with_token kind from piece.end (tokens_of pieces piece.end))) + from ≤ to
    by (kinds.Token kind) is rest some =
        let own = said_size kind source from piece.end (stands_token piece fresh source from kind cut.0 is) in
        let both = names_append (names_said (lexeme kind source from piece.end)) (told source (tokens_of pieces piece.end)) in
        omega (arith, rest, own, both)
    by kinds.Blank is rest some = omega (arith, rest, some)
    by kinds.Comment is rest some = omega (arith, rest, some)
    by kinds.Dropped is rest some = omega (arith, rest, some)
    by kinds.Outside is rest some = omega (arith, rest, some)

-- each name once
with_name_size : (names : List (List ℕ)) (name : List ℕ) → names_length (with_name names name) ≤ names_length names + length name
with_name_size names name = by (list_any (pointwise nat_eq name) names)
  where
    by : (among : Bool) → names_length (if among then names else names ++ name ∷ []) ≤ names_length names + length name
    by true = omega arith
    by false = let both = names_append names (name ∷ []) in omega (arith, both)

with_names_size : (names more : List (List ℕ)) → names_length (with_names names more) ≤ names_length names + names_length more
with_names_size names [] = omega arith
with_names_size names (name ∷ more) =
    let rest = with_names_size (with_name names name) more in
    let one = with_name_size names name in
    omega (arith, rest, one)

pub fit : (source : List ℕ) (names : List (List ℕ)) (unit : TranslationUnit ℕ) → HasUnit source names unit → names_length names ≤ length source
fit source names unit h =
    let tokens = h.tokens in
    let cut = cut_size h.has.0 true source 0 (length source) h.has.1 in
    let own = subst (λ list. names_length (told source list) + 0 ≤ length source) (sym h.has.2) cut in
    let all = subst (λ s. names_length (told s tokens.list) + 0 ≤ length source) (sym h.of_source) own in
    let agree = said_agree (spell_unit (named_unit (name_of names) unit)) (spoken tokens) h.tree.1 in
    let same : names ≡ with_names [] (told tokens.source tokens.list) = h.in_order ∙ sym (ap (λ l. with_names [] (names_among l)) agree) in
    let once = with_names_size [] (told tokens.source tokens.list) in
    let long = ap names_length same in
    omega (arith, all, once, long)
