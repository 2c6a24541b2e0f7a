-- Each step keeps what has been read, and so does a run.
use Rattle.std.proofs.Common.{◌≡◌, ℕ, List, [], ◌∷◌, ◌++◌, map, false, refl, sym, ◌∙◌, ap, subst, append_assoc, append-nil}
use Rattle.std.proofs.lemmas.List.{map-append}
use Rattle.std.specs.Prelude.{Option, Some, None}
use Rattle.c_tree.specs.declared.token.TokenKind.TheVariants as kinds
use Rattle.c_tree.specs.declared.expression.Specifier.{Specifier}
use Rattle.c_tree.specs.Said as lexemes
use Rattle.c_tree.specs.Said.{Lexeme, Plain}
use Rattle.c_tree.specs.Formed.{IsSome, IsSomeRow, EachOf, AreSome, AreFormed, IsFormedOption, IsFormedShape, IsFormedParam, IsFormedStart, IsFormedStatement, IsFormedExternal, ends_open}
use Rattle.c_tree.specs.Spelling.{Spoken, Mark, Kept, Free, Fits, Agree, kept, free, free_specifier, specifier_kind, spell, spell_all, spell_row, spell_optional, spell_specifiers, spell_shape, spell_name, spell_param, spell_bound, spell_start, spell_statement, spell_items, spell_externals}
use Rattle.c_tree.specs.Tree as trees
use Rattle.c_tree.specs.declared.pragma.Pragma.{Pragma}
use Rattle.c_tree.specs.Tree.{Row, Nothing, Then, Expr, Exprs, NoExpr, AndExpr, Shape, Scalar, Absent, Declared, Param, Parameter, Prototype, Default, ForStart, Statement, If, While, Do, For, Switch, Break, Continue, Return, External}
use Rattle.parse_grammar.specs.Begun.{Bytes, Heads, Frames, InItems, InThen, InElse, InWhile, InDo, InFor, Braces, OfBlock, OfSwitch, OfFunction, Scope, AtFile, AmongItems, AtFor, Head, Heading, Proto, Signs, Declarator, OfObject, OfParam, Returns, Tests, Starts, Guards, Repeats, Sizes, Initialises, Lists, Stack, Base, InParen, InCall, State, Wants, Has, Opened, Typed, Called, File, Among, Begins, Stands, Closes, Bounded, Opens, Chooses, Answers, Defaults, Loops, LoopStarts, LoopTests, LoopSteps, Specified, Named, Further, Declares, Sizing, Shaped, Initial, Listed, Ended, ParamsOpen, ParamNext, ParamSpecified, ParamsDone}
use Rattle.parse_grammar.specs.Machine.{Moved, Goes, Stuck, opened, typed, cast_ends, called, semicolon, paren, brace, colon, answers, loop_starts, loop_tests, loop_steps, file_item, first_name, specified, shaped, declares, named, further, sizing, initial, listed, param_begins, params_open, param_named, param_specified, body, params_done, object_ends, param_ends, step, after_all, specifier_of}
use Rattle.parse_grammar.proofs.Around.{before_row, before_all, for_around, frames_around, braces_around, scope_around, head_around, proto_around, declarator_around, stack_around, around, SoundFrames, SoundScope, SoundHead, SoundProto, SoundDeclarator, SoundStack, SoundState, Implies, Keeps, spell_open, IsOpen}
use Rattle.parse_grammar.proofs.SoundExpr.{implies_same, one_demand, keeps_begin, keeps_has, specifier_says}
use Rattle.parse_grammar.proofs.SoundUnit.{declared_around, declared_sound, keeps_object_ends, keeps_param_ends, keeps_took, keeps_begin_statement, keeps_begin_loop, item_mark, keeps_among, then_mark, settle_mark, keeps_settle}

weak_next : (x : Mark) (a b : List Mark) → Implies a b → Implies (x ∷ a) (x ∷ b)
weak_next x a b h = record { holds = longer }
  where
    longer : (ts : List Spoken) → Agree (x ∷ a) ts → Agree (x ∷ b) ts
    longer [] g = absurd g
    longer (t ∷ ts) g = (g.0, h.holds ts g.1)

-- these marks behind others
weak_append : (xs a b : List Mark) → Implies a b → Implies (xs ++ a) (xs ++ b)
weak_append [] a b h = h
weak_append (x ∷ xs) a b h = weak_next x (xs ++ a) (xs ++ b) (weak_append xs a b h)

-- a place that the tree does not keep
weak_free : (said : Lexeme) (at : ℕ) (ms : List Mark) → Implies (Kept said at ∷ ms) (Free said ∷ ms)
weak_free said at ms = record { holds = λ ts g. freed ts g }
  where
    freed : (ts : List Spoken) → Agree (Kept said at ∷ ms) ts → Agree (Free said ∷ ms) ts
    freed [] g = absurd g
    freed (t ∷ ts) g = (ap (λ t. t.said) g.0, g.1)

mutual
  frames_weak : (under : Frames) (a b : List Mark) → Implies a b → Implies (frames_around under a) (frames_around under b)
  frames_weak (InItems front braces) a b h = braces_weak braces _ _ (weak_append (spell_items front) a b h)
  frames_weak (InThen test at under) a b h = frames_weak under _ _ (weak_append (kept kinds.If at ∷ free kinds.LeftParen ∷ []) _ _ (weak_append (spell test) _ _ (weak_append (free kinds.RightParen ∷ []) a b h)))
  frames_weak (InElse test first at under) a b h = frames_weak under _ _ (weak_append (kept kinds.If at ∷ free kinds.LeftParen ∷ []) _ _ (weak_append (spell test) _ _ (weak_append (free kinds.RightParen ∷ []) _ _ (weak_append (spell_statement first) _ _ (weak_append (free kinds.Else ∷ []) a b h)))))
  frames_weak (InWhile bound test at under) a b h = frames_weak under _ _ (weak_append (spell_bound bound) _ _ (weak_append (kept kinds.While at ∷ free kinds.LeftParen ∷ []) _ _ (weak_append (spell test) _ _ (weak_append (free kinds.RightParen ∷ []) a b h))))
  frames_weak (InDo bound at under) a b h = frames_weak under _ _ (weak_append (spell_bound bound) _ _ (weak_append (kept kinds.Do at ∷ []) a b h))
  frames_weak (InFor bound start test step at under) a b h =
      frames_weak under _ _ (weak_append (spell_bound bound) _ _ (weak_append (kept kinds.For at ∷ free kinds.LeftParen ∷ []) _ _ (weak_append (spell_start start) _ _ (weak_append (spell_optional test) _ _ (weak_append (free kinds.Semicolon ∷ []) _ _ (weak_append (spell_optional step) _ _ (weak_append (free kinds.RightParen ∷ []) a b h)))))))

  braces_weak : (braces : Braces) (a b : List Mark) → Implies a b → Implies (braces_around braces a) (braces_around braces b)
  braces_weak (OfBlock at under) a b h = frames_weak under _ _ (weak_append (kept kinds.LeftBrace at ∷ []) a b h)
  braces_weak (OfSwitch test at under) a b h = frames_weak under _ _ (weak_append (kept kinds.Switch at ∷ free kinds.LeftParen ∷ []) _ _ (weak_append (spell test) _ _ (weak_append (free kinds.RightParen ∷ free kinds.LeftBrace ∷ []) a b h)))
  braces_weak (OfFunction header) a b h = header_weak header a b h
    where
      header_weak : (header : _) (a b : List Mark) → Implies a b → Implies (braces_around (OfFunction header) a) (braces_around (OfFunction header) b)
      header_weak (Heads all name name_at params body_at at front) a b h = weak_append (spell_externals front) _ _ (weak_append (spell_specifiers all at) _ _ (weak_append (Kept (lexemes.Name name) name_at ∷ free kinds.LeftParen ∷ []) _ _ (weak_append (spell_row spell_param params) _ _ (weak_append (free kinds.RightParen ∷ kept kinds.LeftBrace body_at ∷ []) a b h))))

scope_weak : (scope : Scope) (a b : List Mark) → Implies a b → Implies (scope_around scope a) (scope_around scope b)
scope_weak (AtFile front) a b h = weak_append (spell_externals front) a b h
scope_weak (AmongItems front braces) a b h = braces_weak braces _ _ (weak_append (spell_items front) a b h)
scope_weak (AtFor bound at under) a b h = frames_weak under _ _ (weak_append (spell_bound bound) _ _ (weak_append (kept kinds.For at ∷ free kinds.LeftParen ∷ []) a b h))

implies_then : (a b c : List Mark) → Implies a b → b ≡ c → Implies a c
implies_then a b c h e = record { holds = λ ts g. subst (λ ms. Agree ms ts) e (h.holds ts g) }

some_more : (all : List Specifier) (word : Specifier) → IsSome (all ++ word ∷ [])
some_more [] word = tt
some_more (first ∷ others) word = tt

-- one specifier more
specifiers_more : (all : List Specifier) (word : Specifier) (at : ℕ) (rest : List Mark) → IsSome all → spell_specifiers (all ++ word ∷ []) at ++ rest ≡ spell_specifiers all at ++ free_specifier word ∷ rest
specifiers_more [] word at rest f = absurd f
specifiers_more (first ∷ others) word at rest f = ap (λ ms. kept (specifier_kind first) at ∷ (ms ++ rest)) (map-append free_specifier others (word ∷ [])) ∙ ap (λ ms. kept (specifier_kind first) at ∷ ms) (append_assoc (map free_specifier others) (free_specifier word ∷ []) rest)

-- the token as the tree keeps it
abbrev unless_specifier : Option Specifier → Lexeme → ℕ → Mark
unless_specifier (Some word) said here = Free said
unless_specifier None said here = Kept said here

abbrev unless_paren : Lexeme → ℕ → Mark
unless_paren (Plain kinds.RightParen) here = free kinds.RightParen
unless_paren said here = Kept said here

abbrev unless_semicolon : Lexeme → ℕ → Mark
unless_semicolon (Plain kinds.Semicolon) here = free kinds.Semicolon
unless_semicolon said here = Kept said here

abbrev unless_bracket : Lexeme → ℕ → Mark
unless_bracket (Plain kinds.RightBracket) here = free kinds.RightBracket
unless_bracket said here = Kept said here

abbrev unless_opening : Lexeme → ℕ → Mark
unless_opening (Plain kinds.LeftBrace) here = free kinds.LeftBrace
unless_opening said here = Kept said here

abbrev start_mark : Option Specifier → Lexeme → ℕ → Mark
start_mark (Some word) said here = Kept said here
start_mark None said here = unless_semicolon said here

abbrev only_opening : Lexeme → ℕ → Mark
only_opening (Plain kinds.LeftBrace) here = kept kinds.LeftBrace here
only_opening said here = Free said

keeps_opened : (o : Option Specifier) (said : Lexeme) (here at : ℕ) (under : Stack) (rest : List Mark) → specifier_of said ≡ o → SoundStack under → Keeps (opened o said here at under) rest (stack_around under (kept kinds.LeftParen at ∷ unless_specifier o said here ∷ rest))
keeps_opened None said here at under rest e s = keeps_begin said here (InParen at under) rest s
keeps_opened (Some word) said here at under rest e s = ((tt, s), implies_same _ _ (ap (λ l. stack_around under (kept kinds.LeftParen at ∷ Free l ∷ rest)) (sym (specifier_says said word e))))

keeps_cast : (said : Lexeme) (all : List Specifier) (at : ℕ) (under : Stack) (rest : List Mark) → IsSome all → SoundStack under → Keeps (cast_ends said all at under) rest (stack_around under (kept kinds.LeftParen at ∷ (map free_specifier all ++ Free said ∷ rest)))
keeps_cast (Plain kinds.RightParen) all at under rest f s = ((f, s), implies_same _ _ refl)
keeps_cast _ all at under rest f s = tt

keeps_typed : (o : Option Specifier) (said : Lexeme) (all : List Specifier) (at : ℕ) (under : Stack) (rest : List Mark) → specifier_of said ≡ o → IsSome all → SoundStack under → Keeps (typed o said all at under) rest (stack_around under (kept kinds.LeftParen at ∷ (map free_specifier all ++ Free said ∷ rest)))
keeps_typed None said all at under rest e f s = keeps_cast said all at under rest f s
keeps_typed (Some word) said all at under rest e f s = (
  (some_more all word, s),
  implies_same _ _ (ap (λ ms. stack_around under (kept kinds.LeftParen at ∷ (ms ++ rest))) (map-append free_specifier all (word ∷ [])) ∙ ap (λ ms. stack_around under (kept kinds.LeftParen at ∷ ms)) (append_assoc (map free_specifier all) (free_specifier word ∷ []) rest) ∙ ap (λ l. stack_around under (kept kinds.LeftParen at ∷ (map free_specifier all ++ Free l ∷ rest))) (sym (specifier_says said word e))),
)

keeps_called : (said : Lexeme) (here : ℕ) (function : Bytes) (at : ℕ) (under : Stack) (rest : List Mark) → SoundStack under → Keeps (called said here function at under) rest (stack_around under (Kept (lexemes.Name function) at ∷ free kinds.LeftParen ∷ unless_paren said here ∷ rest))
keeps_called (Plain kinds.RightParen) here function at under rest s = ((tt, one_demand under, s), implies_same _ _ refl)
keeps_called said here function at under rest s = keeps_begin said here (InCall function at NoExpr under) rest (tt, s)

keeps_file : (o : Option Specifier) (said : Lexeme) (here : ℕ) (front : Row (External Bytes)) (rest : List Mark) → specifier_of said ≡ o → EachOf IsFormedExternal front → Keeps (file_item o said here front) rest (spell_externals front ++ Kept said here ∷ rest)
keeps_file None (lexemes.Pragma kinds.FlowRestriction bytes) here front rest e f = ((f, tt), implies_same _ _ (append_assoc (spell_externals front) (Kept (lexemes.Pragma kinds.FlowRestriction bytes) here ∷ []) rest))
keeps_file (Some word) said here front rest e f = ((tt, f), implies_same _ _ (ap (λ l. spell_externals front ++ Kept l here ∷ rest) (sym (specifier_says said word e))))
keeps_file None _ here front rest e f = tt

-- what a semicolon closes
open_then : (s : Statement Bytes) (rest : List Mark) → IsOpen s → spell_statement s ++ rest ≡ spell_open s ++ free kinds.Semicolon ∷ rest
open_then (Break at) rest o = refl
open_then (Continue at) rest o = refl
open_then (Do bound body test at) rest o =
    let head : List Mark → List Mark = λ ms. spell_bound bound ++ kept kinds.Do at ∷ (spell_statement body ++ free kinds.While ∷ free kinds.LeftParen ∷ ms) in
    let end = free kinds.Semicolon ∷ rest in
    let flat : (xs ys : List Mark) → (spell_bound bound ++ kept kinds.Do at ∷ (spell_statement body ++ free kinds.While ∷ free kinds.LeftParen ∷ xs)) ++ ys ≡ head (xs ++ ys) = λ xs ys. append_assoc (spell_bound bound) (kept kinds.Do at ∷ (spell_statement body ++ free kinds.While ∷ free kinds.LeftParen ∷ xs)) ys ∙ ap (λ ms. spell_bound bound ++ kept kinds.Do at ∷ ms) (append_assoc (spell_statement body) (free kinds.While ∷ free kinds.LeftParen ∷ xs) ys) in
    flat (spell test ++ free kinds.RightParen ∷ free kinds.Semicolon ∷ []) rest ∙ ap head (append_assoc (spell test) (free kinds.RightParen ∷ free kinds.Semicolon ∷ []) rest ∙ sym (append_assoc (spell test) (free kinds.RightParen ∷ []) end)) ∙ sym (flat (spell test ++ free kinds.RightParen ∷ []) end)
open_then _ rest o = absurd o

open_closed : (s : Statement Bytes) → IsOpen s → ends_open s ≡ false
open_closed (Break at) o = refl
open_closed (Continue at) o = refl
open_closed (Do bound body test at) o = refl
open_closed _ o = absurd o

keeps_semicolon : (said : Lexeme) (s : Statement Bytes) (under : Frames) (rest : List Mark) → IsOpen s → IsFormedStatement s → SoundFrames under → Keeps (semicolon said (Stands s under)) rest (frames_around under (spell_open s ++ Free said ∷ rest))
keeps_semicolon (Plain kinds.Semicolon) s under rest o f u = ((open_closed s o, f, u), implies_same _ _ (ap (frames_around under) (open_then s rest o)))
keeps_semicolon _ s under rest o f u = tt

keeps_paren : (said : Lexeme) (state : State) (rest : List Mark) (a : List Mark → List Mark) → SoundState state → around state rest ≡ a (free kinds.LeftParen ∷ rest) → Keeps (paren said state) rest (a (Free said ∷ rest))
keeps_paren (Plain kinds.LeftParen) state rest a s e = (s, implies_same _ _ e)
keeps_paren _ state rest a s e = tt

keeps_brace : (said : Lexeme) (state : State) (rest : List Mark) (a : List Mark → List Mark) → SoundState state → around state rest ≡ a (free kinds.LeftBrace ∷ rest) → Keeps (brace said state) rest (a (Free said ∷ rest))
keeps_brace (Plain kinds.LeftBrace) state rest a s e = (s, implies_same _ _ e)
keeps_brace _ state rest a s e = tt

keeps_colon : (said : Lexeme) (state : State) (rest : List Mark) (a : List Mark → List Mark) → SoundState state → around state rest ≡ a (free kinds.Colon ∷ rest) → Keeps (colon said state) rest (a (Free said ∷ rest))
keeps_colon (Plain kinds.Colon) state rest a s e = (s, implies_same _ _ e)
keeps_colon _ state rest a s e = tt

keeps_answers : (said : Lexeme) (here at : ℕ) (under : Frames) (rest : List Mark) → SoundFrames under → Keeps (answers said here at under) rest (frames_around under (kept kinds.Return at ∷ unless_semicolon said here ∷ rest))
keeps_answers (Plain kinds.Semicolon) here at under rest s = ((refl, tt, s), implies_same _ _ refl)
keeps_answers said here at under rest s = keeps_begin said here (Base (Returns at under)) rest s

keeps_loop_value : (said : Lexeme) (here : ℕ) (bound : Option Pragma) (at : ℕ) (under : Frames) (rest : List Mark) → SoundFrames under → Keeps (loop_starts None said here bound at under) rest (frames_around under (for_around bound at (unless_semicolon said here ∷ rest)))
keeps_loop_value (Plain kinds.Semicolon) here bound at under rest s = ((tt, s), implies_same _ _ refl)
keeps_loop_value said here bound at under rest s = keeps_begin said here (Base (Starts bound at under)) rest s

keeps_loop_starts : (o : Option Specifier) (said : Lexeme) (here : ℕ) (bound : Option Pragma) (at : ℕ) (under : Frames) (rest : List Mark) → specifier_of said ≡ o → SoundFrames under → Keeps (loop_starts o said here bound at under) rest (frames_around under (for_around bound at (start_mark o said here ∷ rest)))
keeps_loop_starts None said here bound at under rest e s = keeps_loop_value said here bound at under rest s
keeps_loop_starts (Some word) said here bound at under rest e s = ((tt, s), implies_same _ _ (ap (λ l. frames_around under (for_around bound at (Kept l here ∷ rest))) (sym (specifier_says said word e))))

keeps_loop_tests : (said : Lexeme) (here : ℕ) (bound : Option Pragma) (start : ForStart Bytes) (at : ℕ) (under : Frames) (rest : List Mark) → IsFormedStart start → SoundFrames under → Keeps (loop_tests said here bound start at under) rest (frames_around under (for_around bound at (spell_start start ++ unless_semicolon said here ∷ rest)))
keeps_loop_tests (Plain kinds.Semicolon) here bound start at under rest f s = ((f, tt, s), implies_same _ _ refl)
keeps_loop_tests said here bound start at under rest f s = keeps_begin said here (Base (Guards bound start at under)) rest (f, s)

keeps_loop_steps : (said : Lexeme) (here : ℕ) (bound : Option Pragma) (start : ForStart Bytes) (test : Option (Expr Bytes)) (at : ℕ) (under : Frames) (rest : List Mark) → IsFormedStart start → IsFormedOption test → SoundFrames under → Keeps (loop_steps said here bound start test at under) rest (frames_around under (for_around bound at (spell_start start ++ (spell_optional test ++ free kinds.Semicolon ∷ unless_paren said here ∷ rest))))
keeps_loop_steps (Plain kinds.RightParen) here bound start test at under rest f h s = ((f, h, tt, s), implies_same _ _ refl)
keeps_loop_steps said here bound start test at under rest f h s = keeps_begin said here (Base (Repeats bound start test at under)) rest (f, h, s)

keeps_first_name : (said : Lexeme) (here : ℕ) (all : List Specifier) (at : ℕ) (scope : Scope) (rest : List Mark) → IsSome all → SoundScope scope → Keeps (first_name said here all at scope) rest (scope_around scope (spell_specifiers all at ++ Kept said here ∷ rest))
keeps_first_name (lexemes.Name name) here all at scope rest f s = ((f, s), implies_same _ _ refl)
keeps_first_name _ here all at scope rest f s = tt

keeps_specified : (o : Option Specifier) (said : Lexeme) (here : ℕ) (all : List Specifier) (at : ℕ) (scope : Scope) (rest : List Mark) → specifier_of said ≡ o → IsSome all → SoundScope scope → Keeps (specified o said here all at scope) rest (scope_around scope (spell_specifiers all at ++ unless_specifier o said here ∷ rest))
keeps_specified None said here all at scope rest e f s = keeps_first_name said here all at scope rest f s
keeps_specified (Some word) said here all at scope rest e f s = ((some_more all word, s), implies_same _ _ (ap (scope_around scope) (specifiers_more all word at rest f) ∙ ap (λ l. scope_around scope (spell_specifiers all at ++ Free l ∷ rest)) (sym (specifier_says said word e))))

keeps_object : (said : Lexeme) (head : Head) (name : Bytes) (at : ℕ) (shape : Shape Bytes) (rest : List Mark) → IsFormedShape shape → SoundHead head → Keeps (object_ends said head (Declared name shape Absent at)) rest (head_around head (Kept (lexemes.Name name) at ∷ (spell_shape shape ++ Free said ∷ rest)))
keeps_object said head name at shape rest f s =
    subst (λ all. Keeps (object_ends said head (Declared name shape Absent at)) rest all) (ap (λ ms. head_around head (Kept (lexemes.Name name) at ∷ (ms ++ Free said ∷ rest))) (append-nil (spell_shape shape)))
    (keeps_object_ends said head (Declared name shape Absent at) rest s (f, tt))

keeps_shaped : (said : Lexeme) (declarator : Declarator) (shape : Shape Bytes) (rest : List Mark) → IsFormedShape shape → SoundDeclarator declarator → Keeps (shaped said declarator shape) rest (declarator_around declarator (spell_shape shape ++ Free said ∷ rest))
keeps_shaped (Plain kinds.Equal) (OfObject head name at) shape rest f s = ((f, s), implies_same _ _ refl)
keeps_shaped said (OfObject head name at) shape rest f s = keeps_object said head name at shape rest f s
keeps_shaped said (OfParam proto front all name at) shape rest f s =
    subst (λ marks. Keeps (param_ends said proto front (Parameter all name shape at)) rest marks)
    (ap (λ ms. proto_around proto (free kinds.LeftParen ∷ before_row spell_param front ms)) (append_assoc (spell_specifiers all at) (spell_name name ++ spell_shape shape) (Free said ∷ rest) ∙ ap (λ ms. spell_specifiers all at ++ ms) (append_assoc (spell_name name) (spell_shape shape) (Free said ∷ rest))))
    (keeps_param_ends said proto front (Parameter all name shape at) rest s.2 s.0 (s.1, f))

keeps_declares : (said : Lexeme) (declarator : Declarator) (rest : List Mark) → SoundDeclarator declarator → Keeps (declares said declarator) rest (declarator_around declarator (Free said ∷ rest))
keeps_declares (Plain kinds.LeftBracket) declarator rest s = (s, implies_same _ _ refl)
keeps_declares said declarator rest s = keeps_shaped said declarator Scalar rest tt s

keeps_named : (said : Lexeme) (proto : Proto) (rest : List Mark) → SoundProto proto → Keeps (named said proto) rest (proto_around proto (Free said ∷ rest))
keeps_named (Plain kinds.LeftParen) proto rest s = (s, implies_same _ _ refl)
keeps_named said (Signs all name name_at at scope) rest s = keeps_declares said (OfObject (Heading all Nothing at scope) name name_at) rest (s.0, tt, s.1)

keeps_further : (said : Lexeme) (here : ℕ) (head : Head) (rest : List Mark) → SoundHead head → Keeps (further said here head) rest (head_around head (Kept said here ∷ rest))
keeps_further (lexemes.Name name) here head rest s = (s, implies_same _ _ refl)
keeps_further _ here head rest s = tt

keeps_sizing : (said : Lexeme) (here : ℕ) (declarator : Declarator) (rest : List Mark) → SoundDeclarator declarator → Keeps (sizing said here declarator) rest (declarator_around declarator (free kinds.LeftBracket ∷ unless_bracket said here ∷ rest))
keeps_sizing (Plain kinds.RightBracket) here declarator rest s = ((tt, s), implies_same _ _ refl)
keeps_sizing said here declarator rest s = keeps_begin said here (Base (Sizes declarator)) rest s

keeps_initial : (said : Lexeme) (here : ℕ) (head : Head) (name : Bytes) (shape : Shape Bytes) (at : ℕ) (rest : List Mark) → IsFormedShape shape → SoundHead head → Keeps (initial said here head name shape at) rest (head_around head (Kept (lexemes.Name name) at ∷ (spell_shape shape ++ free kinds.Equal ∷ unless_opening said here ∷ rest)))
keeps_initial (Plain kinds.LeftBrace) here head name shape at rest f s = ((f, tt, s), implies_same _ _ refl)
keeps_initial said here head name shape at rest f s = keeps_begin said here (Base (Initialises head name shape at)) rest (f, s)

keeps_further_value : (said : Lexeme) (here : ℕ) (head : Head) (name : Bytes) (shape : Shape Bytes) (front : Exprs Bytes) (at : ℕ) (rest : List Mark) → AreSome front → AreFormed front → IsFormedShape shape → SoundHead head → Keeps (listed said here head name shape front at) rest (head_around head (Kept (lexemes.Name name) at ∷ (spell_shape shape ++ free kinds.Equal ∷ free kinds.LeftBrace ∷ before_all front (item_mark said here ∷ rest))))
keeps_further_value (Plain kinds.RightBrace) here head name shape NoExpr at rest o f h s = absurd o
keeps_further_value (Plain kinds.RightBrace) here head name shape (AndExpr front last) at rest o f h s =
    let values = spell_all (AndExpr front last) in (
      ((h, (tt, f)), s),
      implies_same _ _ (ap (λ ms. head_around head (Kept (lexemes.Name name) at ∷ ms)) (append_assoc (spell_shape shape) (free kinds.Equal ∷ free kinds.LeftBrace ∷ (values ++ free kinds.Comma ∷ free kinds.RightBrace ∷ [])) rest ∙ ap (λ ms. spell_shape shape ++ free kinds.Equal ∷ free kinds.LeftBrace ∷ ms) (append_assoc values (free kinds.Comma ∷ free kinds.RightBrace ∷ []) rest))),
    )
keeps_further_value said here head name shape front at rest o f h s = keeps_begin said here (Base (Lists head name shape front at)) rest (h, f, s)

some_before : (front : Exprs Bytes) (rest : List Mark) → AreSome front → before_all front rest ≡ spell_all front ++ free kinds.Comma ∷ rest
some_before NoExpr rest o = absurd o
some_before (AndExpr front last) rest o = refl

keeps_listed : (said : Lexeme) (here : ℕ) (head : Head) (name : Bytes) (shape : Shape Bytes) (front : Exprs Bytes) (at : ℕ) (rest : List Mark) → AreSome front → AreFormed front → IsFormedShape shape → SoundHead head → Keeps (listed said here head name shape front at) rest (head_around head (Kept (lexemes.Name name) at ∷ (spell_shape shape ++ free kinds.Equal ∷ free kinds.LeftBrace ∷ (spell_all front ++ free kinds.Comma ∷ item_mark said here ∷ rest))))
keeps_listed said here head name shape front at rest o f h s =
    subst (λ all. Keeps (listed said here head name shape front at) rest all) (ap (λ ms. head_around head (Kept (lexemes.Name name) at ∷ (spell_shape shape ++ free kinds.Equal ∷ free kinds.LeftBrace ∷ ms))) (some_before front (item_mark said here ∷ rest) o))
    (keeps_further_value said here head name shape front at rest o f h s)

keeps_param_begins : (o : Option Specifier) (said : Lexeme) (here : ℕ) (proto : Proto) (front : Row (Param Bytes)) (rest : List Mark) → specifier_of said ≡ o → EachOf IsFormedParam front → SoundProto proto → Keeps (param_begins o here proto front) rest (proto_around proto (free kinds.LeftParen ∷ before_row spell_param front (Kept said here ∷ rest)))
keeps_param_begins None said here proto front rest e f s = tt
keeps_param_begins (Some word) said here proto front rest e f s = ((f, tt, s), implies_same _ _ (ap (λ l. proto_around proto (free kinds.LeftParen ∷ before_row spell_param front (Kept l here ∷ rest))) (sym (specifier_says said word e))))

keeps_params_open : (said : Lexeme) (here : ℕ) (proto : Proto) (rest : List Mark) → SoundProto proto → Keeps (params_open said here proto) rest (proto_around proto (free kinds.LeftParen ∷ unless_paren said here ∷ rest))
keeps_params_open (Plain kinds.RightParen) here proto rest s = ((tt, s), implies_same _ _ refl)
keeps_params_open said here proto rest s = keeps_param_begins (specifier_of said) said here proto Nothing rest refl tt s

some_before_row : (front : Row (Param Bytes)) (rest : List Mark) → IsSomeRow front → before_row spell_param front rest ≡ spell_row spell_param front ++ free kinds.Comma ∷ rest
some_before_row Nothing rest o = absurd o
some_before_row (Then front last) rest o = refl

keeps_param_next : (said : Lexeme) (here : ℕ) (proto : Proto) (front : Row (Param Bytes)) (rest : List Mark) → IsSomeRow front → EachOf IsFormedParam front → SoundProto proto → Keeps (param_begins (specifier_of said) here proto front) rest (proto_around proto (free kinds.LeftParen ∷ (spell_row spell_param front ++ free kinds.Comma ∷ Kept said here ∷ rest)))
keeps_param_next said here proto front rest o f s =
    subst (λ all. Keeps (param_begins (specifier_of said) here proto front) rest all) (ap (λ ms. proto_around proto (free kinds.LeftParen ∷ ms)) (some_before_row front (Kept said here ∷ rest) o))
    (keeps_param_begins (specifier_of said) said here proto front rest refl f s)

keeps_param_named : (said : Lexeme) (proto : Proto) (front : Row (Param Bytes)) (all : List Specifier) (at : ℕ) (rest : List Mark) → EachOf IsFormedParam front → IsSome all → SoundProto proto → Keeps (param_named said proto front all at) rest (proto_around proto (free kinds.LeftParen ∷ before_row spell_param front (spell_specifiers all at ++ Free said ∷ rest)))
keeps_param_named (lexemes.Name name) proto front all at rest f h s = ((f, h, s), implies_same _ _ refl)
keeps_param_named said proto front all at rest f h s = keeps_declares said (OfParam proto front all None at) rest (f, h, s)

keeps_param_specified : (o : Option Specifier) (said : Lexeme) (proto : Proto) (front : Row (Param Bytes)) (all : List Specifier) (at : ℕ) (rest : List Mark) → specifier_of said ≡ o → EachOf IsFormedParam front → IsSome all → SoundProto proto → Keeps (param_specified o said proto front all at) rest (proto_around proto (free kinds.LeftParen ∷ before_row spell_param front (spell_specifiers all at ++ Free said ∷ rest)))
keeps_param_specified None said proto front all at rest e f h s = keeps_param_named said proto front all at rest f h s
keeps_param_specified (Some word) said proto front all at rest e f h s =
    ((f, some_more all word, s), implies_same _ _ (ap (λ ms. proto_around proto (free kinds.LeftParen ∷ before_row spell_param front ms)) (specifiers_more all word at rest h ∙ ap (λ l. spell_specifiers all at ++ Free l ∷ rest) (sym (specifier_says said word e)))))

keeps_body : (proto : Proto) (params : Row (Param Bytes)) (here : ℕ) (rest : List Mark) → EachOf IsFormedParam params → SoundProto proto → Keeps (body proto params here) rest (proto_around proto (free kinds.LeftParen ∷ (spell_row spell_param params ++ free kinds.RightParen ∷ kept kinds.LeftBrace here ∷ rest)))
keeps_body (Signs all name name_at at (AtFile front)) params here rest f s = ((tt, (s.0, f, s.1)), implies_same _ _ refl)
keeps_body (Signs all name name_at at (AmongItems front braces)) params here rest f s = tt
keeps_body (Signs all name name_at at (AtFor bound here_at under)) params here rest f s = tt

keeps_params_done : (said : Lexeme) (here : ℕ) (proto : Proto) (params : Row (Param Bytes)) (rest : List Mark) → EachOf IsFormedParam params → SoundProto proto → Keeps (params_done said here proto params) rest (proto_around proto (free kinds.LeftParen ∷ (spell_row spell_param params ++ free kinds.RightParen ∷ only_opening said here ∷ rest)))
keeps_params_done (Plain kinds.Semicolon) here (Signs all name name_at at scope) params rest f s =
    let row = spell_row spell_param params in
    let ends = free kinds.RightParen ∷ free kinds.Semicolon ∷ [] in
    let name_on = Free (lexemes.Name name) ∷ free kinds.LeftParen ∷ (row ++ ends) in (
      declared_sound scope (Prototype all name params at) s.1 (s.0, f),
      implies_then _ _ _
          (scope_weak scope _ _ (weak_append (spell_specifiers all at) _ _ (weak_free (lexemes.Name name) name_at (free kinds.LeftParen ∷ (row ++ free kinds.RightParen ∷ free kinds.Semicolon ∷ rest)))))
          (sym (declared_around scope (Prototype all name params at) rest ∙ ap (scope_around scope) (append_assoc (spell_specifiers all at) name_on rest ∙ ap (λ ms. spell_specifiers all at ++ Free (lexemes.Name name) ∷ free kinds.LeftParen ∷ ms) (append_assoc row ends rest)))),
    )
keeps_params_done (Plain kinds.LeftBrace) here proto params rest f s = keeps_body proto params here rest f s
keeps_params_done _ here proto params rest f s = tt

-- the token as the tree keeps it, in a state
abbrev mark_of : State → Spoken → Mark
mark_of (Wants under) token = Kept token.said token.at
mark_of (Opened at under) token = unless_specifier (specifier_of token.said) token.said token.at
mark_of (Called function at under) token = unless_paren token.said token.at
mark_of (File front) token = Kept token.said token.at
mark_of (Among front braces) token = item_mark token.said token.at
mark_of (Begins under) token = Kept token.said token.at
mark_of (Stands statement under) token = settle_mark under token.said token.at
mark_of (Bounded bound under) token = Kept token.said token.at
mark_of (Answers at under) token = unless_semicolon token.said token.at
mark_of (LoopStarts bound at under) token = start_mark (specifier_of token.said) token.said token.at
mark_of (LoopTests bound start at under) token = unless_semicolon token.said token.at
mark_of (LoopSteps bound start test at under) token = unless_paren token.said token.at
mark_of (Specified all at scope) token = unless_specifier (specifier_of token.said) token.said token.at
mark_of (Further head) token = Kept token.said token.at
mark_of (Sizing declarator) token = unless_bracket token.said token.at
mark_of (Initial head name shape at) token = unless_opening token.said token.at
mark_of (Listed head name shape front at) token = item_mark token.said token.at
mark_of (ParamsOpen proto) token = unless_paren token.said token.at
mark_of (ParamNext proto front) token = Kept token.said token.at
mark_of (ParamsDone proto params) token = only_opening token.said token.at
mark_of _ token = Free token.said

keeps_step : (state : State) (token : Spoken) (rest : List Mark) → SoundState state → Keeps (step state token) rest (around state (mark_of state token ∷ rest))
keeps_step (Wants under) token rest s = keeps_begin token.said token.at under rest s
keeps_step (Has tree under) token rest s = keeps_has keeps_took token.said tree under rest s.0 s.1 s.2
keeps_step (Opened at under) token rest s = keeps_opened (specifier_of token.said) token.said token.at at under rest refl s
keeps_step (Typed all at under) token rest s = keeps_typed (specifier_of token.said) token.said all at under rest refl s.0 s.1
keeps_step (Called function at under) token rest s = keeps_called token.said token.at function at under rest s
keeps_step (File front) token rest s = keeps_file (specifier_of token.said) token.said token.at front rest refl s
keeps_step (Among front braces) token rest s = keeps_among (specifier_of token.said) token.said token.at front braces rest refl s.0 s.1
keeps_step (Begins under) token rest s = keeps_begin_statement token.said token.at under rest s
keeps_step (Stands statement under) token rest s = keeps_settle under token.said token.at statement rest s.2 s.1 (λ e. s.0)
keeps_step (Closes statement under) token rest s = keeps_semicolon token.said statement under rest s.0 s.1 s.2
keeps_step (Bounded bound under) token rest s = keeps_begin_loop token.said token.at bound under rest s
keeps_step (Opens test) token rest s = keeps_paren token.said (Wants (Base (Tests test))) rest (around (Opens test)) s refl
keeps_step (Chooses test at under) token rest s = keeps_brace token.said (Among trees.NoItem (OfSwitch test at under)) rest (around (Chooses test at under)) (tt, s) refl
keeps_step (Answers at under) token rest s = keeps_answers token.said token.at at under rest s
keeps_step (Defaults front braces at) token rest s = keeps_colon token.said (Among (trees.AndLabel front (Default at)) braces) rest (around (Defaults front braces at)) ((s.1, s.0, tt), s.2) (ap (braces_around braces) (append_assoc (spell_items front) (kept kinds.Default at ∷ free kinds.Colon ∷ []) rest))
keeps_step (Loops bound at under) token rest s = keeps_paren token.said (LoopStarts bound at under) rest (around (Loops bound at under)) s refl
keeps_step (LoopStarts bound at under) token rest s = keeps_loop_starts (specifier_of token.said) token.said token.at bound at under rest refl s
keeps_step (LoopTests bound start at under) token rest s = keeps_loop_tests token.said token.at bound start at under rest s.0 s.1
keeps_step (LoopSteps bound start test at under) token rest s = keeps_loop_steps token.said token.at bound start test at under rest s.0 s.1 s.2
keeps_step (Specified all at scope) token rest s = keeps_specified (specifier_of token.said) token.said token.at all at scope rest refl s.0 s.1
keeps_step (Named proto) token rest s = keeps_named token.said proto rest s
keeps_step (Further head) token rest s = keeps_further token.said token.at head rest s
keeps_step (Declares declarator) token rest s = keeps_declares token.said declarator rest s
keeps_step (Sizing declarator) token rest s = keeps_sizing token.said token.at declarator rest s
keeps_step (Shaped declarator shape) token rest s = keeps_shaped token.said declarator shape rest s.0 s.1
keeps_step (Initial head name shape at) token rest s = keeps_initial token.said token.at head name shape at rest s.0 s.1
keeps_step (Listed head name shape front at) token rest s = keeps_listed token.said token.at head name shape front at rest s.0 s.1 s.2 s.3
keeps_step (Ended head object) token rest s = keeps_object_ends token.said head object rest s.1 s.0
keeps_step (ParamsOpen proto) token rest s = keeps_params_open token.said token.at proto rest s
keeps_step (ParamNext proto front) token rest s = keeps_param_next token.said token.at proto front rest s.0 s.1 s.2
keeps_step (ParamSpecified proto front all at) token rest s = keeps_param_specified (specifier_of token.said) token.said proto front all at rest refl s.0 s.1 s.2
keeps_step (ParamsDone proto params) token rest s = keeps_params_done token.said token.at proto params rest s.0 s.1

fits_item : (said : Lexeme) (at : ℕ) → Fits (item_mark said at) (record { said = said; at = at })
fits_item (Plain kinds.RightBrace) at = refl
fits_item _ at = refl

fits_paren : (said : Lexeme) (at : ℕ) → Fits (unless_paren said at) (record { said = said; at = at })
fits_paren (Plain kinds.RightParen) at = refl
fits_paren _ at = refl

fits_semicolon : (said : Lexeme) (at : ℕ) → Fits (unless_semicolon said at) (record { said = said; at = at })
fits_semicolon (Plain kinds.Semicolon) at = refl
fits_semicolon _ at = refl

fits_bracket : (said : Lexeme) (at : ℕ) → Fits (unless_bracket said at) (record { said = said; at = at })
fits_bracket (Plain kinds.RightBracket) at = refl
fits_bracket _ at = refl

fits_opening : (said : Lexeme) (at : ℕ) → Fits (unless_opening said at) (record { said = said; at = at })
fits_opening (Plain kinds.LeftBrace) at = refl
fits_opening _ at = refl

fits_only : (said : Lexeme) (at : ℕ) → Fits (only_opening said at) (record { said = said; at = at })
fits_only (Plain kinds.LeftBrace) at = refl
fits_only _ at = refl

fits_specifier : (o : Option Specifier) (said : Lexeme) (at : ℕ) → Fits (unless_specifier o said at) (record { said = said; at = at })
fits_specifier None said at = refl
fits_specifier (Some word) said at = refl

fits_start : (o : Option Specifier) (said : Lexeme) (at : ℕ) → Fits (start_mark o said at) (record { said = said; at = at })
fits_start None said at = fits_semicolon said at
fits_start (Some word) said at = refl

fits_then : (said : Lexeme) (at : ℕ) (m : Mark) → Fits m (record { said = said; at = at }) → Fits (then_mark said m) (record { said = said; at = at })
fits_then (Plain kinds.Else) at m h = refl
fits_then _ at m h = h

fits_settle : (under : Frames) (said : Lexeme) (at : ℕ) → Fits (settle_mark under said at) (record { said = said; at = at })
fits_settle (InItems front braces) said at = fits_item said at
fits_settle (InThen test here under) said at = fits_then said at (settle_mark under said at) (fits_settle under said at)
fits_settle (InElse test first here under) said at = fits_settle under said at
fits_settle (InWhile bound test here under) said at = fits_settle under said at
fits_settle (InFor bound start test step here under) said at = fits_settle under said at
fits_settle (InDo bound here under) said at = refl

-- each token fits the mark that the state gives it
fits_state : (state : State) (token : Spoken) → Fits (mark_of state token) token
fits_state (Opened at under) token = fits_specifier (specifier_of token.said) token.said token.at
fits_state (Called function at under) token = fits_paren token.said token.at
fits_state (Among front braces) token = fits_item token.said token.at
fits_state (Stands statement under) token = fits_settle under token.said token.at
fits_state (Answers at under) token = fits_semicolon token.said token.at
fits_state (LoopStarts bound at under) token = fits_start (specifier_of token.said) token.said token.at
fits_state (LoopTests bound start at under) token = fits_semicolon token.said token.at
fits_state (LoopSteps bound start test at under) token = fits_paren token.said token.at
fits_state (Specified all at scope) token = fits_specifier (specifier_of token.said) token.said token.at
fits_state (Sizing declarator) token = fits_bracket token.said token.at
fits_state (Initial head name shape at) token = fits_opening token.said token.at
fits_state (Listed head name shape front at) token = fits_item token.said token.at
fits_state (ParamsOpen proto) token = fits_paren token.said token.at
fits_state (ParamsDone proto params) token = fits_only token.said token.at
fits_state _ token = refl

-- what has been taken agrees with what the state has begun, whatever comes next
abbrev pub Taken : State → List Spoken → Type 0
Taken state taken = (ms : List Mark) (ts : List Spoken) → Agree ms ts → Agree (around state ms) (taken ++ ts)

one_more : (state next : State) (token : Spoken) (taken : List Spoken) → SoundState state → Taken state taken → step state token ≡ Goes next → SoundState next × Taken next (taken ++ token ∷ [])
one_more state next token taken s t e =
    let keeps : (rest : List Mark) → Keeps (Goes next) rest (around state (mark_of state token ∷ rest)) = λ rest. subst (λ o. Keeps o rest (around state (mark_of state token ∷ rest))) e (keeps_step state token rest s) in (
      (keeps []).0,
      λ ms ts g. subst (λ xs. Agree (around next ms) xs) (sym (append_assoc taken (token ∷ []) ts)) ((keeps ms).1.holds (taken ++ token ∷ ts) (t (mark_of state token ∷ ms) (token ∷ ts) (fits_state state token, g))),
    )

-- a run keeps it
pub run_sound : (tokens taken : List Spoken) (state last : State) → SoundState state → Taken state taken → after_all (Goes state) tokens ≡ Goes last → SoundState last × Taken last (taken ++ tokens)
run_sound [] taken state last s t e = let same : state ≡ last = same_state state last e in (subst SoundState same s, subst (λ xs. Taken last xs) (sym (append-nil taken)) (subst (λ s. Taken s taken) same t))
  where
    same_state : (a b : State) → ◌≡◌ {A = Moved} (Goes a) (Goes b) → a ≡ b
    same_state a b e = cc
run_sound (token ∷ tokens) taken state last s t e = steps (step state token) refl e (λ next h k. let m = one_more state next token taken s t h in subst (λ xs. SoundState last × Taken last xs) (append_assoc taken (token ∷ []) tokens) (run_sound tokens (taken ++ token ∷ []) next last m.0 m.1 k))
  where
    steps : (o : Moved) → step state token ≡ o → after_all o tokens ≡ Goes last → ((next : State) → step state token ≡ Goes next → after_all (Goes next) tokens ≡ Goes last → SoundState last × Taken last (taken ++ token ∷ tokens)) → SoundState last × Taken last (taken ++ token ∷ tokens)
    steps (Goes next) h k g = g next h k
    steps Stuck h k g = absurd (no_end last k)
      where
        no_end : (last : State) → ◌≡◌ {A = Moved} Stuck (Goes last) → ⊥
        no_end last e = cc

-- what the machine reads is well formed and spelled so
pub read_sound : (items : Row (External Bytes)) (tokens : List Spoken) → after_all (Goes (File Nothing)) tokens ≡ Goes (File items) → EachOf IsFormedExternal items × Agree (spell_externals items) tokens
read_sound items tokens e =
    let r = run_sound tokens [] (File Nothing) (File items) tt (λ ms ts g. g) e in
    (r.0, subst (λ ms. Agree ms tokens) (append-nil (spell_externals items)) (subst (λ ts. Agree (spell_externals items ++ []) ts) (append-nil tokens) (r.1 [] [] tt)))
