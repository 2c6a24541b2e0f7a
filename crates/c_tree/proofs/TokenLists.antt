-- Lists of tokens that have the forms of their kinds.
use Rattle.std.proofs.Common.{◌≡◌, ℕ, ◌<◌, ◌≤◌, List, [], ◌∷◌, ◌++◌, length, length-append, arith, subst, sym}
use Rattle.c_tree.specs.declared.token.Token.{Token}
use Rattle.c_tree.specs.Said.{IsToken, TokenList, AreTokens}

pub AreTokens-push : (source : List ℕ) (tokens : List Token) (token : Token) → AreTokens source tokens → IsToken token.kind source token.at token.end → AreTokens source (tokens ++ token ∷ [])
AreTokens-push source [] token are is = (is, tt)
AreTokens-push source (first ∷ tokens) token are is = (are.0, AreTokens-push source tokens token are.1 is)

-- one token more
pub tokens_push : (tokens whole : TokenList) (token : Token) → tokens ≡ whole → AreTokens tokens.source tokens.list → IsToken token.kind whole.source token.at token.end → length whole.list < 1048576 → (length (tokens.list ++ token ∷ []) ≤ 1048576) × AreTokens tokens.source (tokens.list ++ token ∷ [])
tokens_push tokens whole token same are is room =
    let IsHere : TokenList → Type 0 = λ t. IsToken token.kind t.source token.at token.end in
    let HasRoom : TokenList → Type 0 = λ t. length t.list < 1048576 in
    let here = subst IsHere (sym same) is in
    let left : length tokens.list < 1048576 = subst HasRoom (sym same) room in
    (omega (arith, left, length-append tokens.list (token ∷ [])), AreTokens-push tokens.source tokens.list token are here)
