-- A source has one tree, with one numbering of its names.
use Rattle.std.proofs.Common.{◌≡◌, ℕ, List, [], map, sym, ap, subst, ◌∙◌}
use Rattle.c_tree.specs.declared.token.Token.{Token}
use Rattle.c_tree.specs.Named.{named_unit}
use Rattle.c_tree.specs.Names.{name_of, names_among, names_of_unit}
use Rattle.c_tree.specs.Said.{TokenList}
use Rattle.c_tree.specs.Spelling.{mark_said, spell_unit, spoken}
use Rattle.c_tree.specs.Tree.{TranslationUnit}
use Rattle.c_lexer.specs.Cut.{HasTokens}
use Rattle.c_lexer.proofs.Unique.{one_list}
use Rattle.c_tree.specs.Formed.{IsTreeOf}
use Rattle.c_parser.proofs.Refusals.{one_tree}
use Rattle.facts_sources.specs.Sources.{HasUnit}
use Rattle.facts_laws.proofs.Cutting.{list_tokens}
use Rattle.facts_laws.proofs.Naming.{HasName, IsPragma, named_each}
use Rattle.facts_laws.proofs.Numbering.{AreOnce, number_of, once_all, once_none, within_names}
use Rattle.facts_laws.proofs.Renaming.{unit_back}

same_tokens : (a b : TokenList) → a.source ≡ b.source → a.list ≡ b.list → a ≡ b
same_tokens a b s l = parts a.source b.source a.list b.list s l
  where
    parts : (s t : List ℕ) (k l : List Token) → s ≡ t → k ≡ l → ◌≡◌ {A = TokenList} (record { source = s; list = k }) (record { source = t; list = l })
    parts s t k l d e = cc

-- a source is one list of tokens
pub one_tokens : (source : List ℕ) (a b : TokenList) → a.source ≡ source → b.source ≡ source → HasTokens source a.list → HasTokens source b.list → a ≡ b
one_tokens source a b s t h k = same_tokens a b (s ∙ sym t) (one_list source a.list b.list h k)

-- the numbers in a tree are those of its names
numbered_back : (source : List ℕ) (names : List (List ℕ)) (unit : TranslationUnit ℕ) → HasUnit source names unit → named_unit (number_of names) (named_unit (name_of names) unit) ≡ unit
numbered_back source names unit h =
    let once : AreOnce names = subst AreOnce (sym h.in_order) (once_all [] (names_among (map mark_said (spell_unit (named_unit (name_of names) unit)))) once_none) in
    let are = list_tokens h.tokens.source h.tokens.list (subst (λ s. HasTokens s h.tokens.list) (sym h.of_source) h.has) in
    unit_back (name_of names) (number_of names) (HasName names) IsPragma (λ n some. once n (within_names names n some)) unit (named_each h.tokens names unit are h.tree.1)

pub one_unit : (source : List ℕ) (names others : List (List ℕ)) (unit other : TranslationUnit ℕ) → HasUnit source names unit → HasUnit source others other → (names ≡ others) × (unit ≡ other)
one_unit source names others unit other h k =
    let tokens = one_tokens source h.tokens k.tokens h.of_source k.of_source h.has k.has in
    let trees : named_unit (name_of names) unit ≡ named_unit (name_of others) other =
    one_tree (named_unit (name_of names) unit) (named_unit (name_of others) other) (spoken h.tokens) h.tree (subst (λ t. IsTreeOf (named_unit (name_of others) other) (spoken t)) (sym tokens) k.tree) in
    let names_are : names ≡ others = h.in_order ∙ ap names_of_unit trees ∙ sym k.in_order in
    let back : named_unit (number_of names) (named_unit (name_of others) other) ≡ other =
    subst (λ ns. named_unit (number_of ns) (named_unit (name_of others) other) ≡ other) (sym names_are) (numbered_back source others other k) in
    (names_are, sym (numbered_back source names unit h) ∙ ap (named_unit (number_of names)) trees ∙ back)
