-- What the machine reads is well formed and spelled so.
use Rattle.std.proofs.Common.{◌≡◌, ◌≢◌, ℕ, List, [], ◌∷◌, ◌++◌, ◌⊎◌, inl, inr, true, false, refl, sym, ◌∙◌, ap, subst, append_assoc}
use Rattle.std.specs.Prelude.{Option, Some, None}
use Rattle.c_tree.specs.declared.token.TokenKind.TheVariants as kinds
use Rattle.c_tree.specs.declared.expression.Specifier.{Specifier}
use Rattle.c_tree.specs.declared.expression.Specifier.TheVariants as specifiers
use Rattle.c_tree.specs.Said as lexemes
use Rattle.c_tree.specs.Said.{Lexeme, Plain}
use Rattle.c_tree.specs.Formed.{EachOf, IsFormed, IsFormedObject, IsFormedParam, IsFormedDeclaration, IsFormedStatement, AreFormedItems, ends_open}
use Rattle.c_tree.specs.Spelling.{Mark, Kept, Free, kept, free, specifier_kind, spell, spell_all, spell_row, spell_optional, spell_specifiers, spell_shape, spell_object, spell_param, spell_declaration, spell_bound, spell_start, spell_test, spell_statement, spell_items, spell_externals}
use Rattle.c_tree.specs.declared.pragma.Pragma.{Pragma}
use Rattle.c_tree.specs.Tree.{Row, Then, Expr, AndExpr, Value, Object, Declared, Param, Declaration, Objects, Statement, If, IfElse, While, For, Items, AndStatement}
use Rattle.parse_grammar.specs.Begun.{Bytes, Heads, Frames, InItems, InThen, InElse, InWhile, InDo, InFor, Braces, OfBlock, OfSwitch, OfFunction, Scope, AtFile, AmongItems, AtFor, Head, Heading, Proto, Test, OfIf, OfWhile, OfDo, OfChoice, Evaluates, Returns, Tests, Starts, Guards, Repeats, Sizes, Initialises, Lists, Labels, Base, State, Wants, Defaults}
use Rattle.parse_grammar.specs.Machine.{Goes, begin_statement, begin_loop, close, label, item, among, settle, body, declared, object_ends, param_ends, tested, specifier_of}
use Rattle.parse_grammar.proofs.ReadStatements.{labels_of, no_else}
use Rattle.parse_grammar.proofs.Around.{before_row, for_around, frames_around, braces_around, scope_around, head_around, proto_around, declarator_around, test_around, around, SoundFrames, SoundBraces, SoundScope, SoundHead, SoundProto, SoundTest, SoundState, Keeps}
use Rattle.parse_grammar.proofs.SoundExpr.{implies_same, row_more, all_more, Takes, keeps_begin, specifier_says}

-- a declaration is whole
pub declared_around : (scope : Scope) (d : Declaration Bytes) (rest : List Mark) → around (declared scope d) rest ≡ scope_around scope (spell_declaration d ++ rest)
declared_around (AtFile front) d rest = append_assoc (spell_externals front) (spell_declaration d) rest
declared_around (AmongItems front braces) d rest = ap (braces_around braces) (append_assoc (spell_items front) (spell_declaration d) rest)
declared_around (AtFor bound at under) d rest = refl

pub declared_sound : (scope : Scope) (d : Declaration Bytes) → SoundScope scope → IsFormedDeclaration d → SoundState (declared scope d)
declared_sound (AtFile front) d s f = (s, f)
declared_sound (AmongItems front braces) d s f = ((s.0, f), s.1)
declared_sound (AtFor bound at under) d s f = (f, s)

pub keeps_object_ends : (said : Lexeme) (head : Head) (object : Object Bytes) (rest : List Mark) → SoundHead head → IsFormedObject object → Keeps (object_ends said head object) rest (head_around head (spell_object object ++ Free said ∷ rest))
keeps_object_ends (Plain kinds.Comma) (Heading all objects at scope) object rest s f =
    ((s.0, (s.1, f), s.2), implies_same _ _ (ap (λ ms. scope_around scope (spell_specifiers all at ++ ms)) (row_more spell_object objects object (free kinds.Comma ∷ rest))))
keeps_object_ends (Plain kinds.Semicolon) (Heading all objects at scope) object rest s f =
    let row = spell_row spell_object (Then objects object) in (
      declared_sound scope (Objects all (Then objects object) at) s.2 (s.0, tt, (s.1, f)),
      implies_same _ _ (declared_around scope (Objects all (Then objects object) at) rest ∙ ap (scope_around scope) (append_assoc (spell_specifiers all at) (row ++ free kinds.Semicolon ∷ []) rest ∙ ap (λ ms. spell_specifiers all at ++ ms) (append_assoc row (free kinds.Semicolon ∷ []) rest ∙ row_more spell_object objects object (free kinds.Semicolon ∷ rest)))),
    )
keeps_object_ends _ head object rest s f = tt

pub keeps_param_ends : (said : Lexeme) (proto : Proto) (front : Row (Param Bytes)) (param : Param Bytes) (rest : List Mark) → SoundProto proto → EachOf IsFormedParam front → IsFormedParam param → Keeps (param_ends said proto front param) rest (proto_around proto (free kinds.LeftParen ∷ before_row spell_param front (spell_param param ++ Free said ∷ rest)))
keeps_param_ends (Plain kinds.Comma) proto front param rest s f h = ((tt, (f, h), s), implies_same _ _ (ap (λ ms. proto_around proto (free kinds.LeftParen ∷ ms)) (row_more spell_param front param (free kinds.Comma ∷ rest))))
keeps_param_ends (Plain kinds.RightParen) proto front param rest s f h = (((f, h), s), implies_same _ _ (ap (λ ms. proto_around proto (free kinds.LeftParen ∷ ms)) (row_more spell_param front param (free kinds.RightParen ∷ rest))))
keeps_param_ends _ proto front param rest s f h = tt

keeps_tested : (test : Test) (tree : Expr Bytes) (rest : List Mark) → IsFormed tree → SoundTest test → Keeps (Goes (tested test tree)) rest (test_around test (free kinds.LeftParen ∷ (spell tree ++ free kinds.RightParen ∷ rest)))
keeps_tested (OfIf at under) tree rest f s = ((f, s), implies_same _ _ refl)
keeps_tested (OfWhile bound at under) tree rest f s = ((f, s), implies_same _ _ refl)
keeps_tested (OfDo bound body at under) tree rest f s =
    let behind = free kinds.While ∷ spell_test tree [] in
    ((tt, (f, s.0), s.1), implies_same _ _ (ap (frames_around under) (append_assoc (spell_bound bound) (kept kinds.Do at ∷ (spell_statement body ++ behind)) rest ∙ ap (λ ms. spell_bound bound ++ kept kinds.Do at ∷ ms) (append_assoc (spell_statement body) behind rest ∙ ap (λ ms. spell_statement body ++ free kinds.While ∷ free kinds.LeftParen ∷ ms) (append_assoc (spell tree) (free kinds.RightParen ∷ []) rest)))))
keeps_tested (OfChoice at under) tree rest f s = ((f, s), implies_same _ _ refl)

pub keeps_took : Takes
keeps_took (Evaluates under) (Plain kinds.Semicolon) tree rest f h s = ((refl, (refl, f), s), implies_same _ _ (ap (frames_around under) (append_assoc (spell tree) (free kinds.Semicolon ∷ []) rest)))
keeps_took (Returns at under) (Plain kinds.Semicolon) tree rest f h s = ((refl, f, s), implies_same _ _ (ap (λ ms. frames_around under (kept kinds.Return at ∷ ms)) (append_assoc (spell tree) (free kinds.Semicolon ∷ []) rest)))
keeps_took (Tests test) (Plain kinds.RightParen) tree rest f h s = keeps_tested test tree rest f s
keeps_took (Starts bound at under) (Plain kinds.Semicolon) tree rest f h s = ((f, s), implies_same _ _ (ap (λ ms. frames_around under (for_around bound at ms)) (append_assoc (spell tree) (free kinds.Semicolon ∷ []) rest)))
keeps_took (Guards bound start at under) (Plain kinds.Semicolon) tree rest f h s = ((s.0, f, s.1), implies_same _ _ refl)
keeps_took (Repeats bound start test at under) (Plain kinds.RightParen) tree rest f h s = ((s.0, s.1, f, s.2), implies_same _ _ refl)
keeps_took (Sizes declarator) (Plain kinds.RightBracket) tree rest f h s = (((h, f), s), implies_same _ _ (ap (λ ms. declarator_around declarator (free kinds.LeftBracket ∷ ms)) (append_assoc (spell tree) (free kinds.RightBracket ∷ []) rest)))
keeps_took (Initialises head name shape at) said tree rest f h s =
    subst (λ all. Keeps (object_ends said head (Declared name shape (Value tree) at)) rest all)
    (ap (λ ms. head_around head (Kept (lexemes.Name name) at ∷ ms)) (append_assoc (spell_shape shape) (free kinds.Equal ∷ spell tree) (Free said ∷ rest)))
    (keeps_object_ends said head (Declared name shape (Value tree) at) rest s.1 (s.0, (h, f)))
keeps_took (Lists head name shape front at) (Plain kinds.Comma) tree rest f h s =
    ((tt, (s.1, h, f), s.0, s.2), implies_same _ _ (ap (λ ms. head_around head (Kept (lexemes.Name name) at ∷ (spell_shape shape ++ free kinds.Equal ∷ free kinds.LeftBrace ∷ ms))) (all_more front tree (free kinds.Comma ∷ rest))))
keeps_took (Lists head name shape front at) (Plain kinds.RightBrace) tree rest f h s =
    let values = spell_all (AndExpr front tree) in (
      ((s.0, (tt, (s.1, h, f))), s.2),
      implies_same _ _ (ap (λ ms. head_around head (Kept (lexemes.Name name) at ∷ ms)) (append_assoc (spell_shape shape) (free kinds.Equal ∷ free kinds.LeftBrace ∷ (values ++ free kinds.RightBrace ∷ [])) rest ∙ ap (λ ms. spell_shape shape ++ free kinds.Equal ∷ free kinds.LeftBrace ∷ ms) (append_assoc values (free kinds.RightBrace ∷ []) rest ∙ all_more front tree (free kinds.RightBrace ∷ rest)))),
    )
keeps_took (Labels front braces at) (Plain kinds.Colon) tree rest f h s =
    (((s.1, s.0, (h, f)), s.2), implies_same _ _ (ap (braces_around braces) (append_assoc (spell_items front) (kept kinds.Case at ∷ (spell tree ++ free kinds.Colon ∷ [])) rest ∙ ap (λ ms. spell_items front ++ kept kinds.Case at ∷ ms) (append_assoc (spell tree) (free kinds.Colon ∷ []) rest))))
keeps_took _ said tree rest f h s = tt

pub keeps_begin_statement : (said : Lexeme) (at : ℕ) (under : Frames) (rest : List Mark) → SoundFrames under → Keeps (begin_statement said at under) rest (frames_around under (Kept said at ∷ rest))
keeps_begin_statement (Plain kinds.Semicolon) at under rest s = ((refl, tt, s), implies_same _ _ refl)
keeps_begin_statement (Plain kinds.LeftBrace) at under rest s = ((tt, s), implies_same _ _ refl)
keeps_begin_statement (Plain kinds.If) at under rest s = (s, implies_same _ _ refl)
keeps_begin_statement (Plain kinds.While) at under rest s = (s, implies_same _ _ refl)
keeps_begin_statement (Plain kinds.Do) at under rest s = (s, implies_same _ _ refl)
keeps_begin_statement (Plain kinds.For) at under rest s = (s, implies_same _ _ refl)
keeps_begin_statement (Plain kinds.Switch) at under rest s = (s, implies_same _ _ refl)
keeps_begin_statement (Plain kinds.Break) at under rest s = ((tt, tt, s), implies_same _ _ refl)
keeps_begin_statement (Plain kinds.Continue) at under rest s = ((tt, tt, s), implies_same _ _ refl)
keeps_begin_statement (Plain kinds.Return) at under rest s = (s, implies_same _ _ refl)
keeps_begin_statement (lexemes.Pragma kinds.Marker bytes) at under rest s = ((refl, tt, s), implies_same _ _ refl)
keeps_begin_statement (lexemes.Pragma kinds.LoopBound bytes) at under rest s = (s, implies_same _ _ refl)
keeps_begin_statement said at under rest s = keeps_begin said at (Base (Evaluates under)) rest s

pub keeps_begin_loop : (said : Lexeme) (at : ℕ) (bound : Pragma) (under : Frames) (rest : List Mark) → SoundFrames under → Keeps (begin_loop said at bound under) rest (frames_around under (spell_bound (Some bound) ++ Kept said at ∷ rest))
keeps_begin_loop (Plain kinds.While) at bound under rest s = (s, implies_same _ _ refl)
keeps_begin_loop (Plain kinds.Do) at bound under rest s = (s, implies_same _ _ refl)
keeps_begin_loop (Plain kinds.For) at bound under rest s = (s, implies_same _ _ refl)
keeps_begin_loop _ at bound under rest s = tt

keeps_close : (braces : Braces) (items : Items Bytes) (rest : List Mark) → AreFormedItems (labels_of braces) items → SoundBraces braces → Keeps (Goes (close braces items)) rest (braces_around braces (spell_items items ++ free kinds.RightBrace ∷ rest))
keeps_close (OfBlock at under) items rest f s = ((refl, f, s), implies_same _ _ (ap (λ ms. frames_around under (kept kinds.LeftBrace at ∷ ms)) (append_assoc (spell_items items) (free kinds.RightBrace ∷ []) rest)))
keeps_close (OfSwitch test at under) items rest f s =
    ((refl, (s.0, f), s.1), implies_same _ _ (ap (λ ms. frames_around under (kept kinds.Switch at ∷ free kinds.LeftParen ∷ ms)) (append_assoc (spell test) (free kinds.RightParen ∷ free kinds.LeftBrace ∷ (spell_items items ++ free kinds.RightBrace ∷ [])) rest ∙ ap (λ ms. spell test ++ free kinds.RightParen ∷ free kinds.LeftBrace ∷ ms) (append_assoc (spell_items items) (free kinds.RightBrace ∷ []) rest))))
keeps_close (OfFunction (Heads all name name_at params body_at at front)) items rest f s =
    let row = spell_row spell_param params in
    let block = kept kinds.LeftBrace body_at ∷ (spell_items items ++ free kinds.RightBrace ∷ []) in
    let name_on = Kept (lexemes.Name name) name_at ∷ free kinds.LeftParen ∷ (row ++ free kinds.RightParen ∷ block) in (
      (s.2, (s.0, s.1, f)),
      implies_same _ _ (append_assoc (spell_externals front) (spell_specifiers all at ++ name_on) rest ∙ ap (λ ms. spell_externals front ++ ms) (append_assoc (spell_specifiers all at) name_on rest ∙ ap (λ ms. spell_specifiers all at ++ Kept (lexemes.Name name) name_at ∷ free kinds.LeftParen ∷ ms) (append_assoc row (free kinds.RightParen ∷ block) rest ∙ ap (λ ms. row ++ free kinds.RightParen ∷ kept kinds.LeftBrace body_at ∷ ms) (append_assoc (spell_items items) (free kinds.RightBrace ∷ []) rest)))),
    )

keeps_label : (braces : Braces) (state : State) (rest all : List Mark) → (labels_of braces ≡ true → Keeps (Goes state) rest all) → Keeps (label braces state) rest all
keeps_label (OfBlock at under) state rest all h = tt
keeps_label (OfSwitch test at under) state rest all h = h refl
keeps_label (OfFunction header) state rest all h = tt

-- the token as the tree keeps it, among items
abbrev pub item_mark : Lexeme → ℕ → Mark
item_mark (Plain kinds.RightBrace) at = free kinds.RightBrace
item_mark said at = Kept said at

keeps_item : (said : Lexeme) (at : ℕ) (front : Items Bytes) (braces : Braces) (rest : List Mark) → AreFormedItems (labels_of braces) front → SoundBraces braces → Keeps (item said at front braces) rest (braces_around braces (spell_items front ++ item_mark said at ∷ rest))
keeps_item (Plain kinds.RightBrace) at front braces rest f s = keeps_close braces front rest f s
keeps_item (lexemes.Pragma kinds.FlowRestriction bytes) at front braces rest f s = ((f, s), implies_same _ _ (ap (braces_around braces) (append_assoc (spell_items front) (Kept (lexemes.Pragma kinds.FlowRestriction bytes) at ∷ []) rest)))
keeps_item (Plain kinds.Case) at front braces rest f s = keeps_label braces (Wants (Base (Labels front braces at))) rest _ (λ h. ((h, f, s), implies_same _ _ refl))
keeps_item (Plain kinds.Default) at front braces rest f s = keeps_label braces (Defaults front braces at) rest _ (λ h. ((h, f, s), implies_same _ _ refl))
keeps_item said at front braces rest f s = keeps_begin_statement said at (InItems front braces) rest (f, s)

item_mark_word : (word : Specifier) (at : ℕ) → item_mark (Plain (specifier_kind word)) at ≡ kept (specifier_kind word) at
item_mark_word specifiers.Static at = refl
item_mark_word _ at = refl

pub keeps_among : (o : Option Specifier) (said : Lexeme) (at : ℕ) (front : Items Bytes) (braces : Braces) (rest : List Mark) → specifier_of said ≡ o → AreFormedItems (labels_of braces) front → SoundBraces braces → Keeps (among o said at front braces) rest (braces_around braces (spell_items front ++ item_mark said at ∷ rest))
keeps_among None said at front braces rest e f s = keeps_item said at front braces rest f s
keeps_among (Some word) said at front braces rest e f s =
    ((tt, (f, s)), implies_same _ _ (ap (λ m. braces_around braces (spell_items front ++ m ∷ rest)) (sym (ap (λ l. item_mark l at) (specifier_says said word e) ∙ item_mark_word word at))))

abbrev pub then_mark : Lexeme → Mark → Mark
then_mark (Plain kinds.Else) m = free kinds.Else
then_mark said m = m

then_mark_other : (said : Lexeme) (m : Mark) → said ≢ Plain kinds.Else → then_mark said m ≡ m
then_mark_other (Plain kinds.Else) m h = absurd (h refl)
then_mark_other _ m h = refl

-- the token as the tree keeps it, behind a statement
abbrev pub settle_mark : Frames → Lexeme → ℕ → Mark
settle_mark (InItems front braces) said here = item_mark said here
settle_mark (InThen test at under) said here = then_mark said (settle_mark under said here)
settle_mark (InElse test first at under) said here = settle_mark under said here
settle_mark (InWhile bound test at under) said here = settle_mark under said here
settle_mark (InFor bound start test step at under) said here = settle_mark under said here
settle_mark (InDo bound at under) said here = Free said

is_else : (said : Lexeme) → (said ≡ Plain kinds.Else) ⊎ (said ≢ Plain kinds.Else)
is_else (Plain kinds.Else) = inl refl
is_else _ = inr (λ e. cc)

keeps_then : (said : Lexeme) (here : ℕ) (test : Expr Bytes) (at : ℕ) (under : Frames) (s : Statement Bytes) (rest : List Mark) → (said ≡ Plain kinds.Else) ⊎ (said ≢ Plain kinds.Else) → IsFormed test → SoundFrames under → IsFormedStatement s → (said ≡ Plain kinds.Else → ends_open s ≡ false)
    → ((said ≡ Plain kinds.Else → true ≡ false) → Keeps (settle under said here (If test s at)) rest (frames_around under (spell_statement (If test s at) ++ settle_mark under said here ∷ rest)))
    → Keeps (settle (InThen test at under) said here s) rest (frames_around (InThen test at under) (spell_statement s ++ settle_mark (InThen test at under) said here ∷ rest))
keeps_then said here test at under s rest (inl e) t u f h ih =
    let P : Lexeme → Type 0 = λ l. Keeps (settle (InThen test at under) l here s) rest (frames_around (InThen test at under) (spell_statement s ++ settle_mark (InThen test at under) l here ∷ rest)) in
    subst P (sym e) ((h e, t, f, u), implies_same _ _ refl)
keeps_then said here test at under s rest (inr n) t u f h ih =
    let mark = settle_mark under said here in
    let e : frames_around under (spell_statement (If test s at) ++ mark ∷ rest) ≡ frames_around (InThen test at under) (spell_statement s ++ then_mark said mark ∷ rest) = ap (λ ms. frames_around under (kept kinds.If at ∷ free kinds.LeftParen ∷ ms)) (append_assoc (spell test) (free kinds.RightParen ∷ spell_statement s) (mark ∷ rest)) ∙ ap (λ m. frames_around (InThen test at under) (spell_statement s ++ m ∷ rest)) (sym (then_mark_other said mark n)) in
    let g = ih (λ e. absurd (n e)) in
    subst (λ o. Keeps o rest (frames_around (InThen test at under) (spell_statement s ++ then_mark said mark ∷ rest))) (sym (no_else said here test at under s n))
    (subst (λ all. Keeps (settle under said here (If test s at)) rest all) e g)

keeps_do : (said : Lexeme) (bound : Option Pragma) (at : ℕ) (under : Frames) (here : ℕ) (s : Statement Bytes) (rest : List Mark) → SoundFrames under → IsFormedStatement s → Keeps (settle (InDo bound at under) said here s) rest (frames_around (InDo bound at under) (spell_statement s ++ Free said ∷ rest))
keeps_do (Plain kinds.While) bound at under here s rest u f = ((f, u), implies_same _ _ refl)
keeps_do _ bound at under here s rest u f = tt

pub keeps_settle : (under : Frames) (said : Lexeme) (here : ℕ) (s : Statement Bytes) (rest : List Mark) → SoundFrames under → IsFormedStatement s → (said ≡ Plain kinds.Else → ends_open s ≡ false) → Keeps (settle under said here s) rest (frames_around under (spell_statement s ++ settle_mark under said here ∷ rest))
keeps_settle (InItems front braces) said here s rest u f h =
    subst (λ all. Keeps (among (specifier_of said) said here (AndStatement front s) braces) rest all) (ap (braces_around braces) (append_assoc (spell_items front) (spell_statement s) (item_mark said here ∷ rest)))
    (keeps_among (specifier_of said) said here (AndStatement front s) braces rest refl (u.0, f) u.1)
keeps_settle (InThen test at under) said here s rest u f h = keeps_then said here test at under s rest (is_else said) u.0 u.1 f h (λ k. keeps_settle under said here (If test s at) rest u.1 (u.0, f) k)
keeps_settle (InElse test first at under) said here s rest u f h =
    let mark = settle_mark under said here in
    subst (λ all. Keeps (settle under said here (IfElse test first s at)) rest all)
    (ap (λ ms. frames_around under (kept kinds.If at ∷ free kinds.LeftParen ∷ ms)) (append_assoc (spell test) (free kinds.RightParen ∷ (spell_statement first ++ free kinds.Else ∷ spell_statement s)) (mark ∷ rest) ∙ ap (λ ms. spell test ++ free kinds.RightParen ∷ ms) (append_assoc (spell_statement first) (free kinds.Else ∷ spell_statement s) (mark ∷ rest))))
    (keeps_settle under said here (IfElse test first s at) rest u.3 (u.0, u.1, u.2, f) h)
keeps_settle (InWhile bound test at under) said here s rest u f h =
    let mark = settle_mark under said here in
    subst (λ all. Keeps (settle under said here (While bound test s at)) rest all)
    (ap (frames_around under) (append_assoc (spell_bound bound) (kept kinds.While at ∷ spell_test test (spell_statement s)) (mark ∷ rest) ∙ ap (λ ms. spell_bound bound ++ kept kinds.While at ∷ free kinds.LeftParen ∷ ms) (append_assoc (spell test) (free kinds.RightParen ∷ spell_statement s) (mark ∷ rest))))
    (keeps_settle under said here (While bound test s at) rest u.1 (u.0, f) h)
keeps_settle (InFor bound start test step at under) said here s rest u f h =
    let end = settle_mark under said here ∷ rest in
    let behind_step = spell_optional step ++ free kinds.RightParen ∷ spell_statement s in
    let behind_test = spell_optional test ++ free kinds.Semicolon ∷ behind_step in
    subst (λ all. Keeps (settle under said here (For bound start test step s at)) rest all)
    (ap (frames_around under) (append_assoc (spell_bound bound) (kept kinds.For at ∷ free kinds.LeftParen ∷ (spell_start start ++ behind_test)) end ∙ ap (for_around bound at) (append_assoc (spell_start start) behind_test end ∙ ap (λ xs. spell_start start ++ xs) (append_assoc (spell_optional test) (free kinds.Semicolon ∷ behind_step) end ∙ ap (λ xs. spell_optional test ++ free kinds.Semicolon ∷ xs) (append_assoc (spell_optional step) (free kinds.RightParen ∷ spell_statement s) end)))))
    (keeps_settle under said here (For bound start test step s at) rest u.3 (u.0, u.1, u.2, f) h)
keeps_settle (InDo bound at under) said here s rest u f h = keeps_do said bound at under here s rest u f
