-- The machine reads back objects, parameters and declarations.
use Rattle.std.proofs.Common.{◌≡◌, ℕ, List, [], ◌∷◌, ◌++◌, map, Bool, true, false, refl, sym, ap, subst, append_assoc, append-nil}
use Rattle.std.specs.Prelude.{Option, Some, None}
use Rattle.c_tree.specs.declared.token.TokenKind.TheVariants as kinds
use Rattle.c_tree.specs.declared.expression.Specifier.{Specifier}
use Rattle.c_tree.specs.declared.expression.Specifier.TheVariants as specifiers
use Rattle.c_tree.specs.Said as lexemes
use Rattle.c_tree.specs.Said.{Plain}
use Rattle.c_tree.specs.Formed.{IsSome, EachOf, IsFormedShape, IsFormedObject, IsFormedParam, IsFormedDeclaration}
use Rattle.c_tree.specs.Spelling.{Spoken, Mark, Free, Agree, free, free_specifier, specifier_kind, spell_row, spell_specifiers, spell_shape, spell_initial, spell_object, spell_name, spell_param, spell_declaration}
use Rattle.c_tree.specs.Tree as trees
use Rattle.c_tree.specs.Tree.{Row, Nothing, Then, Shape, Scalar, Unsized, Sized, Absent, Value, Object, Declared, Param, Parameter, Declaration, Objects, Prototype}
use Rattle.parse_grammar.specs.Begun.{Bytes, Scope, Heading, Proto, Signs, Declarator, OfObject, OfParam, State, Specified, Named, Further, Declares, Shaped, Ended, ParamsOpen, ParamNext, ParamSpecified, ParamsDone}
use Rattle.parse_grammar.specs.Machine.{Goes, step, after_all, specified, param_begins, param_specified, declared}
use Rattle.parse_grammar.proofs.Leads.{Leads, go_then, go_same, go_kept, go_next, go_free, split, specifier_read}
use Rattle.parse_grammar.proofs.ReadParts.{read_shape, read_behind, end_mark}

-- further specifiers, in a state that keeps them
words : (b : List Specifier → State) → ((front : List Specifier) (word : Specifier) (here : ℕ) → step (b front) (record { said = Plain (specifier_kind word); at = here }) ≡ Goes (b (front ++ word ∷ []))) → (others front : List Specifier) (ms : List Mark) (ts : List Spoken) → Agree (map free_specifier others ++ ms) ts → Leads ts (b front) (b (front ++ others)) ms
words b h [] front ms ts g = record { rest = ts; agrees = g; same = ap (λ ws. after_all (Goes (b ws)) ts) (sym (append-nil front)) }
words b h (word ∷ others) front ms ts g =
    go_then ts (b front) (b (front ++ word ∷ [])) (b (front ++ word ∷ others)) (map free_specifier others ++ ms) ms
    (go_next (Plain (specifier_kind word)) (map free_specifier others ++ ms) (b front) (b (front ++ word ∷ [])) (h front word) ts g)
    (λ rest g. subst (λ ws. Leads rest (b (front ++ word ∷ [])) (b ws) ms) (append_assoc front (word ∷ []) others) (words b h others (front ++ word ∷ []) ms rest g))

-- all specifiers, from the state before them
read_specifiers : (b : List Specifier → State) → ((front : List Specifier) (word : Specifier) (here : ℕ) → step (b front) (record { said = Plain (specifier_kind word); at = here }) ≡ Goes (b (front ++ word ∷ []))) → (all : List Specifier) (at : ℕ) (a : State) → ((word : Specifier) → step a (record { said = Plain (specifier_kind word); at = at }) ≡ Goes (b (word ∷ []))) → IsSome all → (ms : List Mark) (ts : List Spoken) → Agree (spell_specifiers all at ++ ms) ts → Leads ts a (b all) ms
read_specifiers b h [] at a k f ms ts g = absurd f
read_specifiers b h (first ∷ others) at a k f ms ts g =
    go_then ts a (b (first ∷ [])) (b (first ∷ others)) (map free_specifier others ++ ms) ms
    (go_kept (Plain (specifier_kind first)) at (map free_specifier others ++ ms) a (b (first ∷ [])) (k first) ts g)
    (λ rest g. words b h others (first ∷ []) ms rest g)

more_specified : (at : ℕ) (scope : Scope) (front : List Specifier) (word : Specifier) (here : ℕ) → step (Specified front at scope) (record { said = Plain (specifier_kind word); at = here }) ≡ Goes (Specified (front ++ word ∷ []) at scope)
more_specified at scope front word here = ap (λ o. specified o (Plain (specifier_kind word)) here front at scope) (specifier_read word)

-- the first name does as any other, where no bracket of parameters follows
behind_named : (shape : Shape Bytes) (value : trees.Initial Bytes) (all : List Specifier) (name : Bytes) (name_at at : ℕ) (scope : Scope) (b : Bool) (ms : List Mark) (ts : List Spoken) → Agree (spell_shape shape ++ (spell_initial value ++ end_mark b ∷ ms)) ts → Leads ts (Named (Signs all name name_at at scope)) (Declares (OfObject (Heading all Nothing at scope) name name_at)) (spell_shape shape ++ (spell_initial value ++ end_mark b ∷ ms))
behind_named Scalar Absent all name name_at at scope true ms ts g = go_same (end_mark true) ms (Named (Signs all name name_at at scope)) _ (λ at. refl) ts g
behind_named Scalar Absent all name name_at at scope false ms ts g = go_same (end_mark false) ms (Named (Signs all name name_at at scope)) _ (λ at. refl) ts g
behind_named Scalar (Value value) all name name_at at scope b ms ts g = go_same (free kinds.Equal) _ (Named (Signs all name name_at at scope)) _ (λ at. refl) ts g
behind_named Scalar (trees.Listed values comma) all name name_at at scope b ms ts g = go_same (free kinds.Equal) _ (Named (Signs all name name_at at scope)) _ (λ at. refl) ts g
behind_named Unsized value all name name_at at scope b ms ts g = go_same (free kinds.LeftBracket) _ (Named (Signs all name name_at at scope)) _ (λ at. refl) ts g
behind_named (Sized size) value all name name_at at scope b ms ts g = go_same (free kinds.LeftBracket) _ (Named (Signs all name name_at at scope)) _ (λ at. refl) ts g

-- the objects of a declaration, up to the comma or semicolon behind the last
read_objects : (front : Row (Object Bytes)) (last : Object Bytes) (all : List Specifier) (at : ℕ) (scope : Scope) (b : Bool) (ms : List Mark) (ts : List Spoken) → EachOf IsFormedObject (Then front last) → Agree (spell_row spell_object (Then front last) ++ end_mark b ∷ ms) ts → Leads ts (Specified all at scope) (Ended (Heading all front at scope) last) (end_mark b ∷ ms)
read_objects Nothing (Declared name shape value name_at) all at scope b ms ts f g =
    let behind = spell_shape shape ++ (spell_initial value ++ end_mark b ∷ ms) in
    go_then ts _ (Named (Signs all name name_at at scope)) _ ((spell_shape shape ++ spell_initial value) ++ end_mark b ∷ ms) (end_mark b ∷ ms)
    (go_kept (lexemes.Name name) name_at _ (Specified all at scope) (Named (Signs all name name_at at scope)) refl ts g)
    (λ rest g. go_then rest _ (Declares (OfObject (Heading all Nothing at scope) name name_at)) _ behind (end_mark b ∷ ms)
    (behind_named shape value all name name_at at scope b ms rest (split (spell_shape shape) (spell_initial value) (end_mark b ∷ ms) rest g))
    (λ rest g. read_behind shape value (Heading all Nothing at scope) name name_at b ms rest f.1.0 f.1.1 g))
read_objects (Then front middle) (Declared name shape value name_at) all at scope b ms ts f g =
    let head = Heading all (Then front middle) at scope in
    go_then ts _ (Ended (Heading all front at scope) middle) _ (end_mark false ∷ (spell_object (Declared name shape value name_at) ++ end_mark b ∷ ms)) (end_mark b ∷ ms)
    (read_objects front middle all at scope false (spell_object (Declared name shape value name_at) ++ end_mark b ∷ ms) ts f.0 (split (spell_row spell_object (Then front middle)) (free kinds.Comma ∷ spell_object (Declared name shape value name_at)) (end_mark b ∷ ms) ts g))
    (λ rest g. go_then rest _ (Further head) _ (spell_object (Declared name shape value name_at) ++ end_mark b ∷ ms) (end_mark b ∷ ms)
    (go_next (Plain kinds.Comma) _ (Ended (Heading all front at scope) middle) (Further head) (λ at. refl) rest g)
    (λ rest g. go_then rest _ (Declares (OfObject head name name_at)) _ ((spell_shape shape ++ spell_initial value) ++ end_mark b ∷ ms) (end_mark b ∷ ms)
    (go_kept (lexemes.Name name) name_at _ (Further head) (Declares (OfObject head name name_at)) refl rest g)
    (λ rest g. read_behind shape value head name name_at b ms rest f.1.0 f.1.1 (split (spell_shape shape) (spell_initial value) (end_mark b ∷ ms) rest g))))

-- what ends a parameter: a comma or the closing bracket
abbrev param_mark : Bool → Mark
param_mark true = free kinds.RightParen
param_mark false = free kinds.Comma

-- the state behind a parameter
abbrev behind_param : Proto → Row (Param Bytes) → Param Bytes → State
behind_param proto front (Parameter all name shape at) = Shaped (OfParam proto front all name at) shape

more_param : (proto : Proto) (params : Row (Param Bytes)) (at : ℕ) (front : List Specifier) (word : Specifier) (here : ℕ) → step (ParamSpecified proto params front at) (record { said = Plain (specifier_kind word); at = here }) ≡ Goes (ParamSpecified proto params (front ++ word ∷ []) at)
more_param proto params at front word here = ap (λ o. param_specified o (Plain (specifier_kind word)) proto params front at) (specifier_read word)

-- a parameter without a name does as one with it
without_name : (shape : Shape Bytes) (proto : Proto) (params : Row (Param Bytes)) (all : List Specifier) (at : ℕ) (b : Bool) (ms : List Mark) (ts : List Spoken) → Agree (spell_shape shape ++ param_mark b ∷ ms) ts → Leads ts (ParamSpecified proto params all at) (Declares (OfParam proto params all None at)) (spell_shape shape ++ param_mark b ∷ ms)
without_name Scalar proto params all at true ms ts g = go_same (param_mark true) ms (ParamSpecified proto params all at) _ (λ at. refl) ts g
without_name Scalar proto params all at false ms ts g = go_same (param_mark false) ms (ParamSpecified proto params all at) _ (λ at. refl) ts g
without_name Unsized proto params all at b ms ts g = go_same (free kinds.LeftBracket) _ (ParamSpecified proto params all at) _ (λ at. refl) ts g
without_name (Sized size) proto params all at b ms ts g = go_same (free kinds.LeftBracket) _ (ParamSpecified proto params all at) _ (λ at. refl) ts g

read_name : (name : Option Bytes) (shape : Shape Bytes) (proto : Proto) (params : Row (Param Bytes)) (all : List Specifier) (at : ℕ) (b : Bool) (ms : List Mark) (ts : List Spoken) → Agree (spell_name name ++ (spell_shape shape ++ param_mark b ∷ ms)) ts → Leads ts (ParamSpecified proto params all at) (Declares (OfParam proto params all name at)) (spell_shape shape ++ param_mark b ∷ ms)
read_name None shape proto params all at b ms ts g = without_name shape proto params all at b ms ts g
read_name (Some name) shape proto params all at b ms ts g = go_next (lexemes.Name name) _ (ParamSpecified proto params all at) (Declares (OfParam proto params all (Some name) at)) (λ at. refl) ts g

param_shape : (shape : Shape Bytes) (declarator : Declarator) (b : Bool) (ms : List Mark) (ts : List Spoken) → IsFormedShape shape → Agree (spell_shape shape ++ param_mark b ∷ ms) ts → Leads ts (Declares declarator) (Shaped declarator shape) (param_mark b ∷ ms)
param_shape shape declarator true ms ts f g = read_shape shape declarator (param_mark true) ms ts f refl g
param_shape shape declarator false ms ts f g = read_shape shape declarator (param_mark false) ms ts f refl g

read_param : (param : Param Bytes) (proto : Proto) (params : Row (Param Bytes)) (a : State) → ((word : Specifier) (here : ℕ) → step a (record { said = Plain (specifier_kind word); at = here }) ≡ Goes (ParamSpecified proto params (word ∷ []) here)) → (b : Bool) (ms : List Mark) (ts : List Spoken) → IsFormedParam param → Agree (spell_param param ++ param_mark b ∷ ms) ts → Leads ts a (behind_param proto params param) (param_mark b ∷ ms)
read_param (Parameter all name shape at) proto params a h b ms ts f g =
    let behind = spell_shape shape ++ param_mark b ∷ ms in
    let parts = subst (λ xs. Agree (spell_specifiers all at ++ xs) ts) (append_assoc (spell_name name) (spell_shape shape) (param_mark b ∷ ms)) (split (spell_specifiers all at) (spell_name name ++ spell_shape shape) (param_mark b ∷ ms) ts g) in
    go_then ts a (ParamSpecified proto params all at) _ (spell_name name ++ behind) (param_mark b ∷ ms)
    (read_specifiers (λ ws. ParamSpecified proto params ws at) (more_param proto params at) all at a (λ word. h word at) f.0 (spell_name name ++ behind) ts parts)
    (λ rest g. go_then rest _ (Declares (OfParam proto params all name at)) _ behind (param_mark b ∷ ms)
    (read_name name shape proto params all at b ms rest g)
    (λ rest g. param_shape shape (OfParam proto params all name at) b ms rest f.1 g))

first_param : (proto : Proto) (word : Specifier) (here : ℕ) → step (ParamsOpen proto) (record { said = Plain (specifier_kind word); at = here }) ≡ Goes (ParamSpecified proto Nothing (word ∷ []) here)
first_param proto specifiers.Static here = refl
first_param proto _ here = refl

next_param : (proto : Proto) (front : Row (Param Bytes)) (word : Specifier) (here : ℕ) → step (ParamNext proto front) (record { said = Plain (specifier_kind word); at = here }) ≡ Goes (ParamSpecified proto front (word ∷ []) here)
next_param proto front word here = ap (λ o. param_begins o here proto front) (specifier_read word)

behind_comma : (proto : Proto) (front : Row (Param Bytes)) (param : Param Bytes) (here : ℕ) → step (behind_param proto front param) (record { said = Plain kinds.Comma; at = here }) ≡ Goes (ParamNext proto (Then front param))
behind_comma proto front (Parameter all name shape at) here = refl

behind_bracket : (proto : Proto) (front : Row (Param Bytes)) (param : Param Bytes) (here : ℕ) → step (behind_param proto front param) (record { said = Plain kinds.RightParen; at = here }) ≡ Goes (ParamsDone proto (Then front param))
behind_bracket proto front (Parameter all name shape at) here = refl

read_some : (front : Row (Param Bytes)) (last : Param Bytes) (proto : Proto) (b : Bool) (ms : List Mark) (ts : List Spoken) → EachOf IsFormedParam (Then front last) → Agree (spell_row spell_param (Then front last) ++ param_mark b ∷ ms) ts → Leads ts (ParamsOpen proto) (behind_param proto front last) (param_mark b ∷ ms)
read_some Nothing last proto b ms ts f g = read_param last proto Nothing (ParamsOpen proto) (first_param proto) b ms ts f.1 g
read_some (Then front middle) last proto b ms ts f g =
    go_then ts _ (behind_param proto front middle) _ (param_mark false ∷ (spell_param last ++ param_mark b ∷ ms)) (param_mark b ∷ ms)
    (read_some front middle proto false (spell_param last ++ param_mark b ∷ ms) ts f.0 (split (spell_row spell_param (Then front middle)) (free kinds.Comma ∷ spell_param last) (param_mark b ∷ ms) ts g))
    (λ rest g. go_then rest _ (ParamNext proto (Then front middle)) _ (spell_param last ++ param_mark b ∷ ms) (param_mark b ∷ ms)
    (go_next (Plain kinds.Comma) _ (behind_param proto front middle) (ParamNext proto (Then front middle)) (behind_comma proto front middle) rest g)
    (λ rest g. read_param last proto (Then front middle) (ParamNext proto (Then front middle)) (next_param proto (Then front middle)) b ms rest f.1 g))

-- the parameters and their closing bracket
pub read_params : (params : Row (Param Bytes)) (proto : Proto) (ms : List Mark) (ts : List Spoken) → EachOf IsFormedParam params → Agree (spell_row spell_param params ++ free kinds.RightParen ∷ ms) ts → Leads ts (ParamsOpen proto) (ParamsDone proto params) ms
read_params Nothing proto ms ts f g = go_next (Plain kinds.RightParen) ms (ParamsOpen proto) (ParamsDone proto Nothing) (λ at. refl) ts g
read_params (Then front last) proto ms ts f g =
    go_then ts _ (behind_param proto front last) _ (free kinds.RightParen ∷ ms) ms
    (read_some front last proto true ms ts f g)
    (go_next (Plain kinds.RightParen) ms (behind_param proto front last) (ParamsDone proto (Then front last)) (behind_bracket proto front last))

-- the specifiers of a declaration or function, from the state before them
pub read_head : (all : List Specifier) (at : ℕ) (scope : Scope) (a : State) → ((word : Specifier) (here : ℕ) → step a (record { said = Plain (specifier_kind word); at = here }) ≡ Goes (Specified (word ∷ []) here scope)) → IsSome all → (ms : List Mark) (ts : List Spoken) → Agree (spell_specifiers all at ++ ms) ts → Leads ts a (Specified all at scope) ms
read_head all at scope a h f ms ts g = read_specifiers (λ ws. Specified ws at scope) (more_specified at scope) all at a (λ word. h word at) f ms ts g

pub read_declaration : (d : Declaration Bytes) (scope : Scope) (a : State) → ((word : Specifier) (here : ℕ) → step a (record { said = Plain (specifier_kind word); at = here }) ≡ Goes (Specified (word ∷ []) here scope)) → IsFormedDeclaration d → (ms : List Mark) (ts : List Spoken) → Agree (spell_declaration d ++ ms) ts → Leads ts a (declared scope d) ms
read_declaration (Objects all Nothing at) scope a h f ms ts g = absurd f.1
read_declaration (Objects all (Then front last) at) scope a h f ms ts g =
    let row = spell_row spell_object (Then front last) in
    let parts = subst (λ xs. Agree (spell_specifiers all at ++ xs) ts) (append_assoc row (free kinds.Semicolon ∷ []) ms) (split (spell_specifiers all at) (row ++ free kinds.Semicolon ∷ []) ms ts g) in
    go_then ts a (Specified all at scope) _ (row ++ free kinds.Semicolon ∷ ms) ms
    (read_head all at scope a h f.0 (row ++ free kinds.Semicolon ∷ ms) ts parts)
    (λ rest g. go_then rest _ (Ended (Heading all front at scope) last) _ (free kinds.Semicolon ∷ ms) ms
    (read_objects front last all at scope true ms rest f.2 g)
    (go_next (Plain kinds.Semicolon) ms (Ended (Heading all front at scope) last) (declared scope (Objects all (Then front last) at)) (λ at. refl)))
read_declaration (Prototype all name params at) scope a h f ms ts g =
    let row = spell_row spell_param params in
    let ends = free kinds.RightParen ∷ free kinds.Semicolon ∷ [] in
    go_then ts a (Specified all at scope) _ (Free (lexemes.Name name) ∷ free kinds.LeftParen ∷ ((row ++ ends) ++ ms)) ms
    (read_head all at scope a h f.0 _ ts (split (spell_specifiers all at) (Free (lexemes.Name name) ∷ free kinds.LeftParen ∷ (row ++ ends)) ms ts g))
    (λ rest g. go_free (lexemes.Name name) (free kinds.LeftParen ∷ ((row ++ ends) ++ ms)) ms (Specified all at scope) (declared scope (Prototype all name params at)) (λ here. Named (Signs all name here at scope)) (λ here. refl)
    (λ here rest g. go_then rest _ (ParamsOpen (Signs all name here at scope)) _ ((row ++ ends) ++ ms) ms
    (go_next (Plain kinds.LeftParen) ((row ++ ends) ++ ms) (Named (Signs all name here at scope)) (ParamsOpen (Signs all name here at scope)) (λ at. refl) rest g)
    (λ rest g. go_then rest _ (ParamsDone (Signs all name here at scope) params) _ (free kinds.Semicolon ∷ ms) ms
    (read_params params (Signs all name here at scope) (free kinds.Semicolon ∷ ms) rest f.1 (split row ends ms rest g))
    (go_next (Plain kinds.Semicolon) ms (ParamsDone (Signs all name here at scope) params) (declared scope (Prototype all name params at)) (λ at. refl))))
    rest g)
