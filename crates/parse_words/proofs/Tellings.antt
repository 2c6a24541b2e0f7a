-- Words that say what tokens say, one more at a time.
use Rattle.std.proofs.Common.{◌≡◌, ℕ, zero, suc, ◌+◌, ◌<◌, ◌≤◌, List, [], ◌∷◌, ◌++◌, map, length, take, sym, ap, subst, ◌∙◌, arith, append_assoc, length-append}
use Rattle.std.specs.Prelude.{slice_index_or}
use Rattle.std.proofs.lemmas.List.{map-append, take_more, take_all, append-nil, length-map}
use Rattle.c_tree.specs.declared.token.Token.{Token}
use Rattle.c_tree.specs.Names.{AreNames, name_of, names_among, names_of_tokens, names_said, with_names}
use Rattle.c_tree.specs.Said.{said, AreTokens, IsToken, TokenList}
use Rattle.c_tree.specs.Spelling.{Spoken, spoken}
use Rattle.c_tree.specs.Said as lexemes
use Rattle.c_tree.proofs.Names.{names_among-append, tokens_named, with_names-append, with_names-extends}
use Rattle.parse_words.specs.declared.lexeme.Lexeme.{Lexeme}
use Rattle.parse_words.specs.declared.lexeme.Lexeme.TheVariants as variants
use Rattle.parse_words.specs.declared.lexeme.Word.{Word}
use Rattle.parse_words.specs.Lexemes.{lexeme_of, word_said}
use Rattle.parse_words.specs.Words.{AreNumbered, IsNumbered, Tell}

more_numbers : (n m : ℕ) → n ≤ m → (lexeme : Lexeme) → IsNumbered n lexeme → IsNumbered m lexeme
more_numbers n m le (variants.Name name) h = omega (arith, le, h)
more_numbers n m le (variants.Plain kind) h = tt
more_numbers n m le (variants.Integer constant) h = tt
more_numbers n m le (variants.Character value) h = tt
more_numbers n m le (variants.Pragma kind text) h = tt

numbered_push : (n m : ℕ) → n ≤ m → (words : List Word) (word : Word) → AreNumbered n words → IsNumbered m word.lexeme → AreNumbered m (words ++ word ∷ [])
numbered_push n m le [] word h k = (k, tt)
numbered_push n m le (first ∷ words) word h k = (more_numbers n m le first.lexeme h.0, numbered_push n m le words word h.1 k)

names_push : (front : List Spoken) (next : Spoken) → names_of_tokens (front ++ next ∷ []) ≡ with_names (names_of_tokens front) (names_said next.said)
names_push front next =
    let says : Spoken → lexemes.Lexeme = λ token. token.said in
    let all : names_among (map says (front ++ next ∷ [])) ≡ names_among (map says front) ++ names_said next.said =
    ap names_among (map-append says front (next ∷ [])) ∙ names_among-append (map says front) (next.said ∷ []) ∙ ap (λ names. names_among (map says front) ++ names) (append-nil (names_said next.said)) in
    ap (with_names []) all ∙ with_names-append [] (names_among (map says front)) (names_said next.said)

-- the word after these, whose lexeme may say names more
module _ (words : List Word) (names after : List (List ℕ)) (front : List Spoken) (lexeme : Lexeme) (at : ℕ) (says : lexemes.Lexeme) where
  abbrev word : Word
  word = record { lexeme = lexeme; at = at }

  abbrev next : Spoken
  next = record { said = says; at = at }

  said_more : (extra : List (List ℕ)) → after ≡ names ++ extra → ((more : List (List ℕ)) → lexeme_of (name_of (after ++ more)) lexeme ≡ says) → Tell words names front → (more : List (List ℕ)) → map (word_said (name_of (after ++ more))) (words ++ word ∷ []) ≡ front ++ next ∷ []
  said_more extra grown same told more =
      let longer : after ++ more ≡ names ++ (extra ++ more) = ap (λ names. names ++ more) grown ∙ append_assoc names extra more in
      let before : map (word_said (name_of (after ++ more))) words ≡ front = ap (λ names. map (word_said (name_of names)) words) longer ∙ told.said (extra ++ more) in
      let spoken_so : lexemes.Lexeme → Spoken = λ said. record { said = said; at = at } in
      map-append (word_said (name_of (after ++ more))) words (word ∷ []) ∙ ap (λ said. said ++ word_said (name_of (after ++ more)) word ∷ []) before ∙ ap (λ said. front ++ spoken_so said ∷ []) (same more)

  pub tell_more : ((more : List (List ℕ)) → lexeme_of (name_of (after ++ more)) lexeme ≡ says) → after ≡ with_names names (names_said says) → IsNumbered (length after) lexeme → Tell words names front → Tell (words ++ record { lexeme = lexeme; at = at } ∷ []) after (front ++ record { said = says; at = at } ∷ [])
  tell_more named grown numbered told =
      let extends = with_names-extends names (names_said says) in
      let longer : after ≡ names ++ extends.0 = grown ∙ extends.1 in
      record {
        said = said_more extends.0 longer named told;
        numbered = numbered_push (length names) (length after) (omega (arith, ap length longer, length-append names extends.0)) words word told.numbered numbered;
        named = grown ∙ ap (λ names. with_names names (names_said says)) told.named ∙ sym (names_push front next);
      }

pub token_at : (source : List ℕ) (tokens : List Token) (place : ℕ) (other : Token) → AreTokens source tokens → place < length tokens → IsToken (slice_index_or tokens place other).kind source (slice_index_or tokens place other).at (slice_index_or tokens place other).end
token_at source [] place other are lt = absurd (omega (arith, lt))
token_at source (token ∷ tokens) zero other are lt = are.0
token_at source (token ∷ tokens) (suc place) other are lt = token_at source tokens place other are.1 (omega (arith, lt))

-- what one token more says
pub spoken_more : (source : List ℕ) (tokens : List Token) (place : ℕ) (other : Token) → place < length tokens → spoken (record { source = source; list = take (place + 1) tokens }) ≡ spoken (record { source = source; list = take place tokens }) ++ record { said = said source (slice_index_or tokens place other); at = (slice_index_or tokens place other).at } ∷ []
spoken_more source tokens place other lt =
    let says : Token → Spoken = λ token. record { said = said source token; at = token.at } in
    ap (map says) (take_more tokens place other lt) ∙ map-append says (take place tokens) (slice_index_or tokens place other ∷ [])

-- what the words say once the tokens are at their end, with all names in a list of their own
module _ (words : List Word) (names all : List (List ℕ)) (source : List ℕ) (tokens : List Token) (place : ℕ) (whole : TokenList) (same : all ≡ names) (told : Tell words names (spoken (record { source = source; list = take place tokens }))) (end : length tokens ≤ place) (same_source : source ≡ whole.source) (same_list : tokens ≡ whole.list) where
  all_spoken : spoken (record { source = source; list = take place tokens }) ≡ spoken whole
  all_spoken = ap (λ tokens. spoken (record { source = source; list = tokens })) (take_all place tokens end) ∙ (λ j. spoken (record { source = same_source j; list = same_list j }))

  pub told_all : map (word_said (name_of all)) words ≡ spoken whole
  told_all = ap (λ names. map (word_said (name_of names)) words) (same ∙ sym (append-nil names)) ∙ told.said [] ∙ all_spoken

  pub all_numbered : AreNumbered (length all) words
  all_numbered = subst (λ names. AreNumbered (length names) words) (sym same) told.numbered

  pub all_named : all ≡ names_of_tokens (spoken whole)
  all_named = same ∙ told.named ∙ ap names_of_tokens all_spoken

  pub all_formed : AreTokens source tokens → AreNames all
  all_formed are =
      let from_source : names_of_tokens (spoken (record { source = source; list = tokens })) ≡ names_of_tokens (spoken whole) = (λ j. names_of_tokens (spoken (record { source = same_source j; list = same_list j }))) in
      subst AreNames (from_source ∙ sym all_named) (tokens_named source tokens are)

-- there are as many words as tokens
pub few_words : (words : List Word) (f : ℕ → List ℕ) (tokens : TokenList) → map (word_said f) words ≡ spoken tokens → (list : List Token) → list ≡ tokens.list → length list ≤ 1048576 → length words ≤ 1048576
few_words words f tokens said list same most =
    let count = sym (length-map words (word_said f)) ∙ ap length said ∙ length-map tokens.list _ ∙ ap length (sym same) in
    omega (arith, count, most)
