-- The machine reads back each well-formed unit, so no tokens are the spelling of two.
use Rattle.std.proofs.Common.{◌≡◌, ℕ, List, [], ◌∷◌, ◌++◌, refl, sym, ◌∙◌, ap, subst, append-nil}
use Rattle.c_tree.specs.declared.token.TokenKind.TheVariants as kinds
use Rattle.c_tree.specs.declared.expression.Specifier.{Specifier}
use Rattle.c_tree.specs.Said as lexemes
use Rattle.c_tree.specs.Said.{Plain}
use Rattle.c_tree.specs.Formed.{EachOf, IsFormedExternal, IsFormedUnit, IsFirstPlace}
use Rattle.c_tree.specs.Spelling.{Spoken, Mark, Kept, Agree, kept, free, specifier_kind, spell_specifiers, spell_row, spell_param, spell_items, spell_external, spell_externals, spell_unit}
use Rattle.c_tree.specs.Tree.{Row, Nothing, Then, NoItem, External, Restriction, Declaring, Function, TranslationUnit, Whole}
use Rattle.parse_grammar.specs.Begun.{Bytes, Heads, OfFunction, AtFile, Signs, File, Among, Specified, Named, ParamsOpen, ParamsDone}
use Rattle.parse_grammar.specs.Machine.{Moved, Goes, step, after_all, file_item}
use Rattle.parse_grammar.proofs.Leads.{Leads, go_then, go_stay, go_kept, go_next, split, specifier_read}
use Rattle.parse_grammar.proofs.ReadDeclarations.{read_declaration, read_head, read_params}
use Rattle.parse_grammar.proofs.ReadStatements.{read_items}

declared_at : (front : Row (External Bytes)) (word : Specifier) (here : ℕ) → step (File front) (record { said = Plain (specifier_kind word); at = here }) ≡ Goes (Specified (word ∷ []) here (AtFile front))
declared_at front word here = ap (λ o. file_item o (Plain (specifier_kind word)) here front) (specifier_read word)

read_external : (e : External Bytes) (front : Row (External Bytes)) (ms : List Mark) (ts : List Spoken) → IsFormedExternal e → Agree (spell_external e ++ ms) ts → Leads ts (File front) (File (Then front e)) ms
read_external (Restriction pragma) front ms ts f g = go_kept (lexemes.Pragma kinds.FlowRestriction pragma.text) pragma.at ms (File front) (File (Then front (Restriction pragma))) refl ts g
read_external (Declaring d) front ms ts f g = read_declaration d (AtFile front) (File front) (declared_at front) f ms ts g
read_external (Function all name name_at params body body_at at) front ms ts f g =
    let row = spell_row spell_param params in
    let braces = OfFunction (Heads all name name_at params body_at at front) in
    let block = kept kinds.LeftBrace body_at ∷ (spell_items body ++ free kinds.RightBrace ∷ []) in
    let proto = Signs all name name_at at (AtFile front) in
    go_then ts _ (Specified all at (AtFile front)) _ (Kept (lexemes.Name name) name_at ∷ free kinds.LeftParen ∷ ((row ++ free kinds.RightParen ∷ block) ++ ms)) ms
    (read_head all at (AtFile front) (File front) (declared_at front) f.0 _ ts (split (spell_specifiers all at) (Kept (lexemes.Name name) name_at ∷ free kinds.LeftParen ∷ (row ++ free kinds.RightParen ∷ block)) ms ts g))
    (λ rest g. go_then rest _ (Named proto) _ (free kinds.LeftParen ∷ ((row ++ free kinds.RightParen ∷ block) ++ ms)) ms
    (go_kept (lexemes.Name name) name_at _ (Specified all at (AtFile front)) (Named proto) refl rest g)
    (λ rest g. go_then rest _ (ParamsOpen proto) _ ((row ++ free kinds.RightParen ∷ block) ++ ms) ms
    (go_next (Plain kinds.LeftParen) _ (Named proto) (ParamsOpen proto) (λ here. refl) rest g)
    (λ rest g. go_then rest _ (ParamsDone proto params) _ (block ++ ms) ms
    (read_params params proto (block ++ ms) rest f.1 (split row (free kinds.RightParen ∷ block) ms rest g))
    (λ rest g. go_then rest _ (Among NoItem braces) _ ((spell_items body ++ free kinds.RightBrace ∷ []) ++ ms) ms
    (go_kept (Plain kinds.LeftBrace) body_at _ (ParamsDone proto params) (Among NoItem braces) refl rest g)
    (λ rest g. go_then rest _ (Among body braces) _ (free kinds.RightBrace ∷ ms) ms
    (read_items body braces (free kinds.RightBrace) ms rest f.2 (λ e. cc) (split (spell_items body) (free kinds.RightBrace ∷ []) ms rest g))
    (go_next (Plain kinds.RightBrace) ms (Among body braces) (File (Then front (Function all name name_at params body body_at at))) (λ here. refl)))))))

pub read_externals : (items : Row (External Bytes)) (ms : List Mark) (ts : List Spoken) → EachOf IsFormedExternal items → Agree (spell_externals items ++ ms) ts → Leads ts (File Nothing) (File items) ms
read_externals Nothing ms ts f g = go_stay ts (File Nothing) ms g
read_externals (Then front last) ms ts f g =
    go_then ts _ (File front) _ (spell_external last ++ ms) ms
    (read_externals front (spell_external last ++ ms) ts f.0 (split (spell_externals front) (spell_external last) ms ts g))
    (λ rest g. read_external last front ms rest f.1 g)

-- the machine ends at file level behind the unit's items
pub read_unit : (items : Row (External Bytes)) (ts : List Spoken) → EachOf IsFormedExternal items → Agree (spell_externals items) ts → after_all (Goes (File Nothing)) ts ≡ Goes (File items)
read_unit items ts f g =
    let l = read_externals items [] ts f (subst (λ ms. Agree ms ts) (sym (append-nil (spell_externals items))) g) in
    l.same ∙ nothing_left l.rest l.agrees
  where
    nothing_left : (rest : List Spoken) → Agree [] rest → after_all (Goes (File items)) rest ≡ Goes (File items)
    nothing_left [] h = refl
    nothing_left (t ∷ rest) h = absurd h

first_place : (items : Row (External Bytes)) (a b : ℕ) → IsFirstPlace a items → IsFirstPlace b items → a ≡ b
first_place Nothing a b f g = absurd f
first_place (Then Nothing last) a b f g = f ∙ sym g
first_place (Then (Then front middle) last) a b f g = first_place (Then front middle) a b f g

same_file : (a b : Row (External Bytes)) → ◌≡◌ {A = Moved} (Goes (File a)) (Goes (File b)) → a ≡ b
same_file a b e = cc

-- no tokens are the spelling of two well-formed units
pub one_unit : (s t : TranslationUnit Bytes) (ts : List Spoken) → IsFormedUnit s → IsFormedUnit t → Agree (spell_unit s) ts → Agree (spell_unit t) ts → s ≡ t
one_unit (Whole items at) (Whole others here) ts f g a b =
    let same : items ≡ others = same_file items others (sym (read_unit items ts f.1 a) ∙ read_unit others ts g.1 b) in
    let e : at ≡ here = first_place others at here (subst (λ xs. IsFirstPlace at xs) same f.0) g.0 in
    ap (λ xs. Whole xs at) same ∙ ap (λ n. Whole others n) e
