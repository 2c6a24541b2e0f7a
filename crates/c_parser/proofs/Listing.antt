-- The names of a tree stand in the list of names, in the order in which they first stand.
use Rattle.std.proofs.Common.{◌≡◌, ℕ, ◌<◌, List, [], ◌∷◌, ◌++◌, length, map, sym, ◌∙◌, ap, subst}
use Rattle.std.specs.Prelude.{slice_index}
use Rattle.std.specs.List.{All, Contains}
use Rattle.c_tree.specs.declared.pragma.Pragma.{Pragma}
use Rattle.c_tree.specs.declared.token.TokenKind.{TokenKind}
use Rattle.c_tree.specs.declared.token.TokenKind.TheVariants as kinds
use Rattle.c_tree.specs.Formed.{EachOf}
use Rattle.c_tree.specs.Holding.{HoldsExternal}
use Rattle.c_tree.specs.Named.{map_row, named_external}
use Rattle.c_tree.specs.Names.{names_among, names_of_tokens, names_said, with_names}
use Rattle.c_tree.specs.Pragmas.{names_in}
use Rattle.c_tree.specs.Said as lexemes
use Rattle.c_tree.specs.Said.{Lexeme}
use Rattle.c_tree.specs.Spelling.{Spoken, Agree, mark_said, spell_externals}
use Rattle.c_tree.specs.Tree.{Row, External}
use Rattle.c_tree.proofs.Holding.{EachSpoken, Meets, holds_externals, marks_agree, said_agree}
use Rattle.c_tree.proofs.Names.{All-from_EachName, EachName, with_names-Contains}
use Rattle.parse_grammar.specs.Begun.{Bytes}
use Rattle.parse_words.specs.declared.lexeme.Lexeme as lexeme
use Rattle.parse_words.specs.declared.lexeme.Lexeme.TheVariants as variants
use Rattle.parse_words.specs.declared.lexeme.Word.{Word}
use Rattle.parse_words.specs.Lexemes.{lexeme_of, word_said}
use Rattle.parse_words.specs.Words.{AreNumbered, IsNumbered}

-- the number of a name as its bytes
abbrev pub as_bytes : ℕ → Bytes
as_bytes number = number ∷ []

abbrev pub IsBelow : ℕ → Bytes → Type 0
IsBelow count bytes = slice_index bytes 0 < count

abbrev pub AreIn : List Bytes → Bytes → Type 0
AreIn names text = All (Contains names) (names_in text)

each_front : (P : Bytes → Type 0) (xs ys : List Bytes) → EachName P (xs ++ ys) → EachName P xs
each_front P [] ys h = tt
each_front P (x ∷ xs) ys h = (h.0, each_front P xs ys h.1)

each_behind : (P : Bytes → Type 0) (xs ys : List Bytes) → EachName P (xs ++ ys) → EachName P ys
each_behind P [] ys h = h
each_behind P (x ∷ xs) ys h = each_behind P xs ys h.1

pragma_meets : (names : List Bytes) (count : ℕ) (kind : TokenKind) (text : Bytes) → EachName (Contains names) (names_said (lexemes.Pragma kind text)) → Meets (IsBelow count) (AreIn names) (lexemes.Pragma kind text)
pragma_meets names count kinds.Marker text h = All-from_EachName (Contains names) (names_in text) h
pragma_meets names count kinds.FlowRestriction text h = All-from_EachName (Contains names) (names_in text) h
pragma_meets names count _ text h = tt

word_meets : (f : ℕ → Bytes) (names : List Bytes) (count : ℕ) (said : lexeme.Lexeme) → IsNumbered count said → EachName (Contains names) (names_said (lexeme_of f said)) → Meets (IsBelow count) (AreIn names) (lexeme_of as_bytes said)
word_meets f names count (variants.Plain kind) n h = tt
word_meets f names count (variants.Name name) n h = n
word_meets f names count (variants.Integer constant) n h = tt
word_meets f names count (variants.Character value) n h = tt
word_meets f names count (variants.Pragma kind text) n h = pragma_meets names count kind text h

abbrev says : Spoken → Lexeme
says token = token.said

words_meet : (f : ℕ → Bytes) (names : List Bytes) (count : ℕ) (words : List Word) → AreNumbered count words → EachName (Contains names) (names_among (map says (map (word_said f) words))) → EachSpoken (Meets (IsBelow count) (AreIn names)) (map (word_said as_bytes) words)
words_meet f names count [] n h = tt
words_meet f names count (word ∷ words) n h =
    let rest = names_among (map says (map (word_said f) words)) in (
      word_meets f names count word.lexeme n.0 (each_front (Contains names) (names_said (lexeme_of f word.lexeme)) rest h),
      words_meet f names count words n.1 (each_behind (Contains names) (names_said (lexeme_of f word.lexeme)) rest h),
    )

-- what words say, with names that stand in their list, lists the names of the tree
pub listed : (f : ℕ → Bytes) (names : List Bytes) (row : Row (External ℕ)) (words : List Word) (tokens : List Spoken) → Agree (spell_externals (map_row (named_external as_bytes) row)) (map (word_said as_bytes) words) → AreNumbered (length names) words → map (word_said f) words ≡ tokens → names ≡ names_of_tokens tokens → EachOf (HoldsExternal (λ number. number < length names) (λ (pragma : Pragma). All (Contains names) (names_in pragma.text))) row
listed f names row words tokens a n said e =
    let all : EachName (Contains names) (names_among (map says tokens)) = subst (λ names. EachName (Contains names) (names_among (map says tokens))) (sym e) (with_names-Contains [] (names_among (map says tokens))) in
    let meet = words_meet f names (length names) words n (subst (λ ts. EachName (Contains names) (names_among (map says ts))) (sym said) all) in
    holds_externals as_bytes (IsBelow (length names)) (AreIn names) row (marks_agree (Meets (IsBelow (length names)) (AreIn names)) (spell_externals (map_row (named_external as_bytes) row)) (map (word_said as_bytes) words) a meet)

-- the list is that of the tree's names
pub in_order : (names : List Bytes) (row : Row (External Bytes)) (tokens : List Spoken) → Agree (spell_externals row) tokens → names ≡ names_of_tokens tokens → names ≡ with_names [] (names_among (map mark_said (spell_externals row)))
in_order names row tokens a e = e ∙ ap (λ said. with_names [] (names_among said)) (said_agree (spell_externals row) tokens a)
