-- The machine reads back statements, and the items between braces.
use Rattle.std.proofs.Common.{◌≡◌, ◌≢◌, ℕ, List, [], ◌∷◌, ◌++◌, Bool, true, false, refl, sym, ◌∙◌, ap, subst, append_assoc, arith}
use Rattle.std.specs.Prelude.{Option, Some, None}
use Rattle.std.proofs.lemmas.Bool.{false≢true}
use Rattle.c_tree.specs.declared.token.TokenKind.{TokenKind}
use Rattle.c_tree.specs.declared.token.TokenKind.TheVariants as kinds
use Rattle.c_tree.specs.declared.expression.Specifier.{Specifier}
use Rattle.c_tree.specs.declared.expression.Specifier.TheVariants as specifiers
use Rattle.c_tree.specs.Said as lexemes
use Rattle.c_tree.specs.Said.{Lexeme, Plain}
use Rattle.c_tree.specs.Formed.{place, IsFormed, IsSome, IsFormedOption, IsFormedLabel, IsFormedStart, IsFormedDeclaration, IsFormedStatement, AreFormedItems, ends_open}
use Rattle.c_tree.specs.Spelling.{Spoken, Mark, Kept, Agree, kept, free, specifier_kind, spell, spell_specifiers, spell_declaration, spell_optional, spell_pragma, spell_bound, spell_label, spell_start, spell_test, spell_statement, spell_items}
use Rattle.c_tree.specs.declared.pragma.Pragma.{Pragma}
use Rattle.c_tree.specs.Tree.{Expr, Declaration, Objects, Prototype, Label, Case, Default, ForStart, NoStart, StartValue, StartDeclaration, Statement, Block, Empty, Evaluate, Marker, If, IfElse, While, Do, For, Switch, Break, Continue, Return, Items, NoItem, AndDeclaration, AndStatement, AndRestriction, AndLabel}
use Rattle.parse_grammar.specs.Begun.{Bytes, Frames, InItems, InThen, InElse, InWhile, InDo, InFor, Braces, OfBlock, OfSwitch, OfFunction, AmongItems, AtFor, Test, OfIf, OfWhile, OfDo, OfChoice, Evaluates, Returns, Tests, Starts, Guards, Repeats, Labels, Base, State, Wants, Among, Begins, Stands, Closes, Bounded, Opens, Chooses, Answers, Defaults, Loops, LoopStarts, LoopTests, LoopSteps, Specified}
use Rattle.parse_grammar.specs.Machine.{Goes, step, begin, begin_statement, answers, loop_starts, loop_tests, loop_steps, specifier_of, among, label, settle, tested}
use Rattle.parse_grammar.proofs.Levels.{level_within}
use Rattle.parse_grammar.proofs.Leads.{said_of, Leads, go_then, go_stay, go_same, go_kept, go_next, split, starts, by_start, first_of, with_more, specifier_read}
use Rattle.parse_grammar.proofs.ReadParts.{whole}
use Rattle.parse_grammar.proofs.ReadDeclarations.{read_declaration}

-- a test in round brackets
read_test : (test : Test) (e : Expr Bytes) (behind ms : List Mark) (ts : List Spoken) → IsFormed e → Agree (spell_test e behind ++ ms) ts → Leads ts (Opens test) (tested test e) (behind ++ ms)
read_test test e behind ms ts f g =
    go_then ts (Opens test) (Wants (Base (Tests test))) (tested test e) ((spell e ++ free kinds.RightParen ∷ behind) ++ ms) (behind ++ ms)
    (go_next (Plain kinds.LeftParen) _ (Opens test) (Wants (Base (Tests test))) (λ at. refl) ts g)
    (λ rest g. whole e (Tests test) (Plain kinds.RightParen) (behind ++ ms) (Wants (Base (Tests test))) (tested test e) (λ token s. refl) f (level_within e) (omega arith) refl rest (split (spell e) (free kinds.RightParen ∷ behind) ms rest g))

answers_starts : (at : ℕ) (under : Frames) (token : Spoken) → starts token.said ≡ true → step (Answers at under) token ≡ begin token.said token.at (Base (Returns at under))
answers_starts at under token h =
    by_start (λ said. answers said token.at at under ≡ begin said token.at (Base (Returns at under))) (λ name. refl) (λ constant. refl) (λ value. refl) refl refl refl refl refl refl refl token.said h

loop_starts_starts : (bound : Option Pragma) (at : ℕ) (under : Frames) (token : Spoken) → starts token.said ≡ true → step (LoopStarts bound at under) token ≡ begin token.said token.at (Base (Starts bound at under))
loop_starts_starts bound at under token h =
    by_start (λ said. loop_starts (specifier_of said) said token.at bound at under ≡ begin said token.at (Base (Starts bound at under))) (λ name. refl) (λ constant. refl) (λ value. refl) refl refl refl refl refl refl refl token.said h

loop_tests_starts : (bound : Option Pragma) (start : ForStart Bytes) (at : ℕ) (under : Frames) (token : Spoken) → starts token.said ≡ true → step (LoopTests bound start at under) token ≡ begin token.said token.at (Base (Guards bound start at under))
loop_tests_starts bound start at under token h =
    by_start (λ said. loop_tests said token.at bound start at under ≡ begin said token.at (Base (Guards bound start at under))) (λ name. refl) (λ constant. refl) (λ value. refl) refl refl refl refl refl refl refl token.said h

loop_steps_starts : (bound : Option Pragma) (start : ForStart Bytes) (test : Option (Expr Bytes)) (at : ℕ) (under : Frames) (token : Spoken) → starts token.said ≡ true → step (LoopSteps bound start test at under) token ≡ begin token.said token.at (Base (Repeats bound start test at under))
loop_steps_starts bound start test at under token h =
    by_start (λ said. loop_steps said token.at bound start test at under ≡ begin said token.at (Base (Repeats bound start test at under))) (λ name. refl) (λ constant. refl) (λ value. refl) refl refl refl refl refl refl refl token.said h

statement_starts : (under : Frames) (token : Spoken) → starts token.said ≡ true → step (Begins under) token ≡ begin token.said token.at (Base (Evaluates under))
statement_starts under token h =
    by_start (λ said. begin_statement said token.at under ≡ begin said token.at (Base (Evaluates under))) (λ name. refl) (λ constant. refl) (λ value. refl) refl refl refl refl refl refl refl token.said h

-- the keyword of a loop, behind its pragma where it has one
loop_begins : (kind : TokenKind) (at : ℕ) (under : Frames) (b : Option Pragma → State) → step (Begins under) (record { said = Plain kind; at = at }) ≡ Goes (b None) → ((bound : Pragma) → step (Bounded bound under) (record { said = Plain kind; at = at }) ≡ Goes (b (Some bound))) → (bound : Option Pragma) (ms : List Mark) (ts : List Spoken) → Agree (spell_bound bound ++ kept kind at ∷ ms) ts → Leads ts (Begins under) (b bound) ms
loop_begins kind at under b n h None ms ts g = go_kept (Plain kind) at ms (Begins under) (b None) n ts g
loop_begins kind at under b n h (Some pragma) ms ts g =
    go_then ts _ (Bounded pragma under) _ (kept kind at ∷ ms) ms
    (go_kept (lexemes.Pragma kinds.LoopBound pragma.text) pragma.at _ (Begins under) (Bounded pragma under) refl ts g)
    (go_kept (Plain kind) at ms (Bounded pragma under) (b (Some pragma)) (h pragma))

first_declared : (bound : Option Pragma) (at : ℕ) (under : Frames) (word : Specifier) (here : ℕ) → step (LoopStarts bound at under) (record { said = Plain (specifier_kind word); at = here }) ≡ Goes (Specified (word ∷ []) here (AtFor bound at under))
first_declared bound at under specifiers.Static here = refl
first_declared bound at under _ here = refl

-- what stands first in the head of a `for`
read_start : (start : ForStart Bytes) (bound : Option Pragma) (at : ℕ) (under : Frames) (ms : List Mark) (ts : List Spoken) → IsFormedStart start → Agree (spell_start start ++ ms) ts → Leads ts (LoopStarts bound at under) (LoopTests bound start at under) ms
read_start NoStart bound at under ms ts f g = go_next (Plain kinds.Semicolon) ms (LoopStarts bound at under) (LoopTests bound NoStart at under) (λ here. refl) ts g
read_start (StartValue e) bound at under ms ts f g =
    whole e (Starts bound at under) (Plain kinds.Semicolon) ms (LoopStarts bound at under) (LoopTests bound (StartValue e) at under) (loop_starts_starts bound at under) f (level_within e) (omega arith) refl ts (split (spell e) (free kinds.Semicolon ∷ []) ms ts g)
read_start (StartDeclaration d) bound at under ms ts f g = read_declaration d (AtFor bound at under) (LoopStarts bound at under) (first_declared bound at under) f ms ts g

read_loop_test : (test : Option (Expr Bytes)) (bound : Option Pragma) (start : ForStart Bytes) (at : ℕ) (under : Frames) (ms : List Mark) (ts : List Spoken) → IsFormedOption test → Agree (spell_optional test ++ free kinds.Semicolon ∷ ms) ts → Leads ts (LoopTests bound start at under) (LoopSteps bound start test at under) ms
read_loop_test None bound start at under ms ts f g = go_next (Plain kinds.Semicolon) ms (LoopTests bound start at under) (LoopSteps bound start None at under) (λ here. refl) ts g
read_loop_test (Some e) bound start at under ms ts f g = whole e (Guards bound start at under) (Plain kinds.Semicolon) ms (LoopTests bound start at under) (LoopSteps bound start (Some e) at under) (loop_tests_starts bound start at under) f (level_within e) (omega arith) refl ts g

read_loop_step : (last : Option (Expr Bytes)) (bound : Option Pragma) (start : ForStart Bytes) (test : Option (Expr Bytes)) (at : ℕ) (under : Frames) (ms : List Mark) (ts : List Spoken) → IsFormedOption last → Agree (spell_optional last ++ free kinds.RightParen ∷ ms) ts → Leads ts (LoopSteps bound start test at under) (Begins (InFor bound start test last at under)) ms
read_loop_step None bound start test at under ms ts f g = go_next (Plain kinds.RightParen) ms (LoopSteps bound start test at under) (Begins (InFor bound start test None at under)) (λ here. refl) ts g
read_loop_step (Some e) bound start test at under ms ts f g = whole e (Repeats bound start test at under) (Plain kinds.RightParen) ms (LoopSteps bound start test at under) (Begins (InFor bound start test (Some e) at under)) (loop_steps_starts bound start test at under) f (level_within e) (omega arith) refl ts g

-- the head of a `for`, up to its body
read_for : (bound : Option Pragma) (start : ForStart Bytes) (test last : Option (Expr Bytes)) (at : ℕ) (under : Frames) (ms : List Mark) (ts : List Spoken) → IsFormedStart start → IsFormedOption test → IsFormedOption last → Agree (spell_bound bound ++ kept kinds.For at ∷ free kinds.LeftParen ∷ (spell_start start ++ (spell_optional test ++ free kinds.Semicolon ∷ (spell_optional last ++ free kinds.RightParen ∷ ms)))) ts → Leads ts (Begins under) (Begins (InFor bound start test last at under)) ms
read_for bound start test last at under ms ts f h k g =
    let behind_step = spell_optional last ++ free kinds.RightParen ∷ ms in
    let behind_test = spell_optional test ++ free kinds.Semicolon ∷ behind_step in
    go_then ts _ (Loops bound at under) _ (free kinds.LeftParen ∷ (spell_start start ++ behind_test)) ms
    (loop_begins kinds.For at under (λ bound. Loops bound at under) refl (λ bound. refl) bound _ ts g)
    (λ rest g. go_then rest _ (LoopStarts bound at under) _ (spell_start start ++ behind_test) ms
    (go_next (Plain kinds.LeftParen) _ (Loops bound at under) (LoopStarts bound at under) (λ here. refl) rest g)
    (λ rest g. go_then rest _ (LoopTests bound start at under) _ behind_test ms
    (read_start start bound at under behind_test rest f g)
    (λ rest g. go_then rest _ (LoopSteps bound start test at under) _ behind_step ms
    (read_loop_test test bound start at under behind_step rest h g)
    (λ rest g. read_loop_step last bound start test at under ms rest k g))))

read_return : (value : Option (Expr Bytes)) (at : ℕ) (under : Frames) (ms : List Mark) (ts : List Spoken) → IsFormedOption value → Agree (spell_optional value ++ free kinds.Semicolon ∷ ms) ts → Leads ts (Answers at under) (Stands (Return value at) under) ms
read_return None at under ms ts f g = go_next (Plain kinds.Semicolon) ms (Answers at under) (Stands (Return None at) under) (λ here. refl) ts g
read_return (Some e) at under ms ts f g = whole e (Returns at under) (Plain kinds.Semicolon) ms (Answers at under) (Stands (Return (Some e) at) under) (answers_starts at under) f (level_within e) (omega arith) refl ts g

-- without an `else`, an `if` ends with its first part
pub no_else : (said : Lexeme) (here : ℕ) (test : Expr Bytes) (at : ℕ) (under : Frames) (s : Statement Bytes) → said ≢ Plain kinds.Else → settle (InThen test at under) said here s ≡ settle under said here (If test s at)
no_else (Plain kinds.Else) here test at under s h = absurd (h refl)
no_else _ here test at under s h = refl

-- what begins an item between braces
abbrev BeginsItem : List Mark → Type 0
BeginsItem ms = (x : Mark) × (xs : List Mark) × (ms ≡ x ∷ xs) × (said_of x ≢ Plain kinds.Else)

-- what begins a statement, between braces as elsewhere
abbrev BeginsStatement : List Mark → Type 0
BeginsStatement ms = (x : Mark) × (xs : List Mark) × (ms ≡ x ∷ xs) × (said_of x ≢ Plain kinds.Else) × ((here : ℕ) (front : Items Bytes) (braces : Braces) → among (specifier_of (said_of x)) (said_of x) here front braces ≡ begin_statement (said_of x) here (InItems front braces))

starts_no_else : (said : Lexeme) → starts said ≡ true → said ≢ Plain kinds.Else
starts_no_else (Plain kinds.Else) h = absurd (false≢true h)
starts_no_else _ h = λ e. cc

starts_item : (said : Lexeme) → starts said ≡ true → (here : ℕ) (front : Items Bytes) (braces : Braces) → among (specifier_of said) said here front braces ≡ begin_statement said here (InItems front braces)
starts_item said h here front braces =
    by_start (λ said. among (specifier_of said) said here front braces ≡ begin_statement said here (InItems front braces)) (λ name. refl) (λ constant. refl) (λ value. refl) refl refl refl refl refl refl refl said h

bound_begins : (bound : Option Pragma) (kind : TokenKind) (at : ℕ) (ms : List Mark) → Plain kind ≢ Plain kinds.Else → ((here : ℕ) (front : Items Bytes) (braces : Braces) → among (specifier_of (Plain kind)) (Plain kind) here front braces ≡ begin_statement (Plain kind) here (InItems front braces)) → BeginsStatement (spell_bound bound ++ kept kind at ∷ ms)
bound_begins None kind at ms n h = (kept kind at, ms, refl, n, h)
bound_begins (Some pragma) kind at ms n h = (Kept (lexemes.Pragma kinds.LoopBound pragma.text) pragma.at, _, refl, (λ e. cc), (λ here front braces. refl))

first_of_statement : (s : Statement Bytes) → BeginsStatement (spell_statement s)
first_of_statement (Block items at) = (kept kinds.LeftBrace at, _, refl, (λ e. cc), (λ here front braces. refl))
first_of_statement (Empty at) = (kept kinds.Semicolon at, _, refl, (λ e. cc), (λ here front braces. refl))
first_of_statement (Evaluate value at) = let f = with_more (spell value) (free kinds.Semicolon ∷ []) (first_of value) in (f.0, f.1, f.2, starts_no_else (said_of f.0) f.3, starts_item (said_of f.0) f.3)
first_of_statement (Marker pragma) = (Kept (lexemes.Pragma kinds.Marker pragma.text) pragma.at, _, refl, (λ e. cc), (λ here front braces. refl))
first_of_statement (If test first at) = (kept kinds.If at, _, refl, (λ e. cc), (λ here front braces. refl))
first_of_statement (IfElse test first second at) = (kept kinds.If at, _, refl, (λ e. cc), (λ here front braces. refl))
first_of_statement (While bound test body at) = bound_begins bound kinds.While at _ (λ e. cc) (λ here front braces. refl)
first_of_statement (Do bound body test at) = bound_begins bound kinds.Do at _ (λ e. cc) (λ here front braces. refl)
first_of_statement (For bound start test last body at) = bound_begins bound kinds.For at _ (λ e. cc) (λ here front braces. refl)
first_of_statement (Switch test items at) = (kept kinds.Switch at, _, refl, (λ e. cc), (λ here front braces. refl))
first_of_statement (Break at) = (kept kinds.Break at, _, refl, (λ e. cc), (λ here front braces. refl))
first_of_statement (Continue at) = (kept kinds.Continue at, _, refl, (λ e. cc), (λ here front braces. refl))
first_of_statement (Return value at) = (kept kinds.Return at, _, refl, (λ e. cc), (λ here front braces. refl))

no_else_specifier : (word : Specifier) → Plain (specifier_kind word) ≢ Plain kinds.Else
no_else_specifier specifiers.Static = λ e. cc
no_else_specifier _ = λ e. cc

first_of_specifiers : (all : List Specifier) (at : ℕ) (ms : List Mark) → IsSome all → BeginsItem (spell_specifiers all at ++ ms)
first_of_specifiers [] at ms f = absurd f
first_of_specifiers (first ∷ others) at ms f = (kept (specifier_kind first) at, _, refl, no_else_specifier first)

first_of_declaration : (d : Declaration Bytes) → IsFormedDeclaration d → BeginsItem (spell_declaration d)
first_of_declaration (Objects all objects at) f = first_of_specifiers all at _ f.0
first_of_declaration (Prototype all name params at) f = first_of_specifiers all at _ f.0

first_of_label : (l : Label Bytes) → BeginsItem (spell_label l)
first_of_label (Case value at) = (kept kinds.Case at, _, refl, (λ e. cc))
first_of_label (Default at) = (kept kinds.Default at, _, refl, (λ e. cc))

-- a list of items leads to the marks behind it, whatever begins them
abbrev ReadsFront : Items Bytes → Braces → List Spoken → Type 0
ReadsFront front braces ts = (x : Mark) (xs : List Mark) → said_of x ≢ Plain kinds.Else → Agree (spell_items front ++ x ∷ xs) ts → Leads ts (Among NoItem braces) (Among front braces) (x ∷ xs)

front_then : (front : Items Bytes) (braces : Braces) (part ms : List Mark) (ts : List Spoken) → BeginsItem part → ReadsFront front braces ts → Agree ((spell_items front ++ part) ++ ms) ts → Leads ts (Among NoItem braces) (Among front braces) (part ++ ms)
front_then front braces part ms ts b h g =
    let e : part ++ ms ≡ b.0 ∷ (b.1 ++ ms) = ap (λ xs. xs ++ ms) b.2 in
    subst (λ xs. Leads ts (Among NoItem braces) (Among front braces) xs) (sym e)
    (h b.0 (b.1 ++ ms) b.3 (subst (λ xs. Agree (spell_items front ++ xs) ts) e (split (spell_items front) part ms ts g)))

-- between braces, a statement begins as elsewhere
statement_among : (s : Statement Bytes) (front : Items Bytes) (braces : Braces) (ms : List Mark) (ts : List Spoken) → Agree (spell_statement s ++ ms) ts → Leads ts (Among front braces) (Begins (InItems front braces)) (spell_statement s ++ ms)
statement_among s front braces ms ts g =
    let w = first_of_statement s in
    let e : spell_statement s ++ ms ≡ w.0 ∷ (w.1 ++ ms) = ap (λ xs. xs ++ ms) w.2 in
    subst (λ xs. Leads ts (Among front braces) (Begins (InItems front braces)) xs) (sym e)
    (go_same w.0 (w.1 ++ ms) (Among front braces) (Begins (InItems front braces)) (λ here. w.4 here front braces) ts (subst (λ xs. Agree xs ts) e g))

-- whether labels may stand there
abbrev pub labels_of : Braces → Bool
labels_of (OfBlock at under) = false
labels_of (OfSwitch test at under) = true
labels_of (OfFunction header) = false

label_goes : (braces : Braces) (state : State) → labels_of braces ≡ true → label braces state ≡ Goes state
label_goes (OfBlock at under) state h = absurd (false≢true h)
label_goes (OfSwitch test at under) state h = refl
label_goes (OfFunction header) state h = absurd (false≢true h)

read_label : (l : Label Bytes) (front : Items Bytes) (braces : Braces) (ms : List Mark) (ts : List Spoken) → labels_of braces ≡ true → IsFormedLabel l → Agree (spell_label l ++ ms) ts → Leads ts (Among front braces) (Among (AndLabel front l) braces) ms
read_label (Case value at) front braces ms ts h f g =
    go_then ts _ (Wants (Base (Labels front braces at))) _ ((spell value ++ free kinds.Colon ∷ []) ++ ms) ms
    (go_kept (Plain kinds.Case) at _ (Among front braces) (Wants (Base (Labels front braces at))) (label_goes braces _ h) ts g)
    (λ rest g. whole value (Labels front braces at) (Plain kinds.Colon) ms (Wants (Base (Labels front braces at))) (Among (AndLabel front (Case value at)) braces) (λ token s. refl) f.1 f.0 (omega arith) refl rest (split (spell value) (free kinds.Colon ∷ []) ms rest g))
read_label (Default at) front braces ms ts h f g =
    go_then ts _ (Defaults front braces at) _ (free kinds.Colon ∷ ms) ms
    (go_kept (Plain kinds.Default) at _ (Among front braces) (Defaults front braces at) (label_goes braces _ h) ts g)
    (go_next (Plain kinds.Colon) ms (Defaults front braces at) (Among (AndLabel front (Default at)) braces) (λ here. refl))

declared_among : (front : Items Bytes) (braces : Braces) (word : Specifier) (here : ℕ) → step (Among front braces) (record { said = Plain (specifier_kind word); at = here }) ≡ Goes (Specified (word ∷ []) here (AmongItems front braces))
declared_among front braces word here = ap (λ o. among o (Plain (specifier_kind word)) here front braces) (specifier_read word)

read_restriction : (pragma : Pragma) (front : Items Bytes) (braces : Braces) (ms : List Mark) (ts : List Spoken) → Agree (spell_pragma kinds.FlowRestriction pragma ++ ms) ts → Leads ts (Among front braces) (Among (AndRestriction front pragma) braces) ms
read_restriction pragma front braces ms ts g = go_kept (lexemes.Pragma kinds.FlowRestriction pragma.text) pragma.at ms (Among front braces) (Among (AndRestriction front pragma) braces) refl ts g

first_of_pragma : (pragma : Pragma) → BeginsItem (spell_pragma kinds.FlowRestriction pragma)
first_of_pragma pragma = (Kept (lexemes.Pragma kinds.FlowRestriction pragma.text) pragma.at, [], refl, (λ e. cc))

-- the parts of a `for`, as its head reads them
for_parts : (bound : Option Pragma) (start : ForStart Bytes) (test last : Option (Expr Bytes)) (body : Statement Bytes) (at : ℕ) (m : Mark) (ms : List Mark) (ts : List Spoken) → Agree (spell_statement (For bound start test last body at) ++ m ∷ ms) ts → Agree (spell_bound bound ++ kept kinds.For at ∷ free kinds.LeftParen ∷ (spell_start start ++ (spell_optional test ++ free kinds.Semicolon ∷ (spell_optional last ++ free kinds.RightParen ∷ (spell_statement body ++ m ∷ ms))))) ts
for_parts bound start test last body at m ms ts g =
    let rest = m ∷ ms in
    let behind_step = spell_optional last ++ free kinds.RightParen ∷ spell_statement body in
    let behind_test = spell_optional test ++ free kinds.Semicolon ∷ behind_step in
    let e = append_assoc (spell_start start) behind_test rest ∙ ap (λ xs. spell_start start ++ xs) (append_assoc (spell_optional test) (free kinds.Semicolon ∷ behind_step) rest ∙ ap (λ xs. spell_optional test ++ free kinds.Semicolon ∷ xs) (append_assoc (spell_optional last) (free kinds.RightParen ∷ spell_statement body) rest)) in
    subst (λ xs. Agree (spell_bound bound ++ kept kinds.For at ∷ free kinds.LeftParen ∷ xs) ts) e (split (spell_bound bound) (kept kinds.For at ∷ free kinds.LeftParen ∷ (spell_start start ++ behind_test)) rest ts g)

closes_open : (s : Statement Bytes) → ends_open s ≡ false → ends_open s ≡ true → Plain kinds.Else ≢ Plain kinds.Else
closes_open s f h = absurd (false≢true (sym f ∙ h))

mutual
  pub read_statement : (s : Statement Bytes) (under : Frames) (m : Mark) (ms : List Mark) (ts : List Spoken) → IsFormedStatement s → (ends_open s ≡ true → said_of m ≢ Plain kinds.Else) → Agree (spell_statement s ++ m ∷ ms) ts → Leads ts (Begins under) (Stands s under) (m ∷ ms)
  read_statement (Block items at) under m ms ts f h g =
      go_then ts _ (Among NoItem (OfBlock at under)) _ ((spell_items items ++ free kinds.RightBrace ∷ []) ++ m ∷ ms) (m ∷ ms)
      (go_kept (Plain kinds.LeftBrace) at _ (Begins under) (Among NoItem (OfBlock at under)) refl ts g)
      (λ rest g. go_then rest _ (Among items (OfBlock at under)) _ (free kinds.RightBrace ∷ m ∷ ms) (m ∷ ms)
      (read_items items (OfBlock at under) (free kinds.RightBrace) (m ∷ ms) rest f (λ e. cc) (split (spell_items items) (free kinds.RightBrace ∷ []) (m ∷ ms) rest g))
      (go_next (Plain kinds.RightBrace) (m ∷ ms) (Among items (OfBlock at under)) (Stands (Block items at) under) (λ here. refl)))
  read_statement (Empty at) under m ms ts f h g = go_kept (Plain kinds.Semicolon) at (m ∷ ms) (Begins under) (Stands (Empty at) under) refl ts g
  read_statement (Evaluate value at) under m ms ts f h g =
      subst (λ n. Leads ts (Begins under) (Stands (Evaluate value n) under) (m ∷ ms)) (sym f.0)
      (whole value (Evaluates under) (Plain kinds.Semicolon) (m ∷ ms) (Begins under) (Stands (Evaluate value (place value)) under) (statement_starts under) f.1 (level_within value) (omega arith) refl ts (split (spell value) (free kinds.Semicolon ∷ []) (m ∷ ms) ts g))
  read_statement (Marker pragma) under m ms ts f h g = go_kept (lexemes.Pragma kinds.Marker pragma.text) pragma.at (m ∷ ms) (Begins under) (Stands (Marker pragma) under) refl ts g
  read_statement (If test first at) under m ms ts f h g =
      go_then ts _ (Opens (OfIf at under)) _ (spell_test test (spell_statement first) ++ m ∷ ms) (m ∷ ms)
      (go_kept (Plain kinds.If) at _ (Begins under) (Opens (OfIf at under)) refl ts g)
      (λ rest g. go_then rest _ (Begins (InThen test at under)) _ (spell_statement first ++ m ∷ ms) (m ∷ ms)
      (read_test (OfIf at under) test (spell_statement first) (m ∷ ms) rest f.0 g)
      (λ rest g. go_then rest _ (Stands first (InThen test at under)) _ (m ∷ ms) (m ∷ ms)
      (read_statement first (InThen test at under) m ms rest f.1 (λ e. h refl) g)
      (go_same m ms (Stands first (InThen test at under)) (Stands (If test first at) under) (λ here. no_else (said_of m) here test at under first (h refl)))))
  read_statement (IfElse test first second at) under m ms ts f h g =
      go_then ts _ (Opens (OfIf at under)) _ (spell_test test (spell_statement first ++ free kinds.Else ∷ spell_statement second) ++ m ∷ ms) (m ∷ ms)
      (go_kept (Plain kinds.If) at _ (Begins under) (Opens (OfIf at under)) refl ts g)
      (λ rest g. go_then rest _ (Begins (InThen test at under)) _ ((spell_statement first ++ free kinds.Else ∷ spell_statement second) ++ m ∷ ms) (m ∷ ms)
      (read_test (OfIf at under) test (spell_statement first ++ free kinds.Else ∷ spell_statement second) (m ∷ ms) rest f.1 g)
      (λ rest g. go_then rest _ (Stands first (InThen test at under)) _ (free kinds.Else ∷ (spell_statement second ++ m ∷ ms)) (m ∷ ms)
      (read_statement first (InThen test at under) (free kinds.Else) (spell_statement second ++ m ∷ ms) rest f.2 (closes_open first f.0) (split (spell_statement first) (free kinds.Else ∷ spell_statement second) (m ∷ ms) rest g))
      (λ rest g. go_then rest _ (Begins (InElse test first at under)) _ (spell_statement second ++ m ∷ ms) (m ∷ ms)
      (go_next (Plain kinds.Else) _ (Stands first (InThen test at under)) (Begins (InElse test first at under)) (λ here. refl) rest g)
      (λ rest g. go_then rest _ (Stands second (InElse test first at under)) _ (m ∷ ms) (m ∷ ms)
      (read_statement second (InElse test first at under) m ms rest f.3 h g)
      (go_same m ms (Stands second (InElse test first at under)) (Stands (IfElse test first second at) under) (λ here. refl))))))
  read_statement (While bound test body at) under m ms ts f h g =
      go_then ts _ (Opens (OfWhile bound at under)) _ (spell_test test (spell_statement body) ++ m ∷ ms) (m ∷ ms)
      (loop_begins kinds.While at under (λ bound. Opens (OfWhile bound at under)) refl (λ bound. refl) bound _ ts (split (spell_bound bound) (kept kinds.While at ∷ spell_test test (spell_statement body)) (m ∷ ms) ts g))
      (λ rest g. go_then rest _ (Begins (InWhile bound test at under)) _ (spell_statement body ++ m ∷ ms) (m ∷ ms)
      (read_test (OfWhile bound at under) test (spell_statement body) (m ∷ ms) rest f.0 g)
      (λ rest g. go_then rest _ (Stands body (InWhile bound test at under)) _ (m ∷ ms) (m ∷ ms)
      (read_statement body (InWhile bound test at under) m ms rest f.1 h g)
      (go_same m ms (Stands body (InWhile bound test at under)) (Stands (While bound test body at) under) (λ here. refl))))
  read_statement (Do bound body test at) under m ms ts f h g =
      go_then ts _ (Begins (InDo bound at under)) _ ((spell_statement body ++ free kinds.While ∷ spell_test test (free kinds.Semicolon ∷ [])) ++ m ∷ ms) (m ∷ ms)
      (loop_begins kinds.Do at under (λ bound. Begins (InDo bound at under)) refl (λ bound. refl) bound _ ts (split (spell_bound bound) (kept kinds.Do at ∷ (spell_statement body ++ free kinds.While ∷ spell_test test (free kinds.Semicolon ∷ []))) (m ∷ ms) ts g))
      (λ rest g. go_then rest _ (Stands body (InDo bound at under)) _ (free kinds.While ∷ (spell_test test (free kinds.Semicolon ∷ []) ++ m ∷ ms)) (m ∷ ms)
      (read_statement body (InDo bound at under) (free kinds.While) (spell_test test (free kinds.Semicolon ∷ []) ++ m ∷ ms) rest f.1 (λ o e. cc) (split (spell_statement body) (free kinds.While ∷ spell_test test (free kinds.Semicolon ∷ [])) (m ∷ ms) rest g))
      (λ rest g. go_then rest _ (Opens (OfDo bound body at under)) _ (spell_test test (free kinds.Semicolon ∷ []) ++ m ∷ ms) (m ∷ ms)
      (go_next (Plain kinds.While) _ (Stands body (InDo bound at under)) (Opens (OfDo bound body at under)) (λ here. refl) rest g)
      (λ rest g. go_then rest _ (Closes (Do bound body test at) under) _ (free kinds.Semicolon ∷ m ∷ ms) (m ∷ ms)
      (read_test (OfDo bound body at under) test (free kinds.Semicolon ∷ []) (m ∷ ms) rest f.0 g)
      (go_next (Plain kinds.Semicolon) (m ∷ ms) (Closes (Do bound body test at) under) (Stands (Do bound body test at) under) (λ here. refl)))))
  read_statement (For bound start test last body at) under m ms ts f h g =
      go_then ts _ (Begins (InFor bound start test last at under)) _ (spell_statement body ++ m ∷ ms) (m ∷ ms)
      (read_for bound start test last at under (spell_statement body ++ m ∷ ms) ts f.0 f.1 f.2 (for_parts bound start test last body at m ms ts g))
      (λ rest g. go_then rest _ (Stands body (InFor bound start test last at under)) _ (m ∷ ms) (m ∷ ms)
      (read_statement body (InFor bound start test last at under) m ms rest f.3 h g)
      (go_same m ms (Stands body (InFor bound start test last at under)) (Stands (For bound start test last body at) under) (λ here. refl)))
  read_statement (Switch test items at) under m ms ts f h g =
      go_then ts _ (Opens (OfChoice at under)) _ (spell_test test (free kinds.LeftBrace ∷ (spell_items items ++ free kinds.RightBrace ∷ [])) ++ m ∷ ms) (m ∷ ms)
      (go_kept (Plain kinds.Switch) at _ (Begins under) (Opens (OfChoice at under)) refl ts g)
      (λ rest g. go_then rest _ (Chooses test at under) _ (free kinds.LeftBrace ∷ ((spell_items items ++ free kinds.RightBrace ∷ []) ++ m ∷ ms)) (m ∷ ms)
      (read_test (OfChoice at under) test (free kinds.LeftBrace ∷ (spell_items items ++ free kinds.RightBrace ∷ [])) (m ∷ ms) rest f.0 g)
      (λ rest g. go_then rest _ (Among NoItem (OfSwitch test at under)) _ ((spell_items items ++ free kinds.RightBrace ∷ []) ++ m ∷ ms) (m ∷ ms)
      (go_next (Plain kinds.LeftBrace) _ (Chooses test at under) (Among NoItem (OfSwitch test at under)) (λ here. refl) rest g)
      (λ rest g. go_then rest _ (Among items (OfSwitch test at under)) _ (free kinds.RightBrace ∷ m ∷ ms) (m ∷ ms)
      (read_items items (OfSwitch test at under) (free kinds.RightBrace) (m ∷ ms) rest f.1 (λ e. cc) (split (spell_items items) (free kinds.RightBrace ∷ []) (m ∷ ms) rest g))
      (go_next (Plain kinds.RightBrace) (m ∷ ms) (Among items (OfSwitch test at under)) (Stands (Switch test items at) under) (λ here. refl)))))
  read_statement (Break at) under m ms ts f h g =
      go_then ts _ (Closes (Break at) under) _ (free kinds.Semicolon ∷ m ∷ ms) (m ∷ ms)
      (go_kept (Plain kinds.Break) at _ (Begins under) (Closes (Break at) under) refl ts g)
      (go_next (Plain kinds.Semicolon) (m ∷ ms) (Closes (Break at) under) (Stands (Break at) under) (λ here. refl))
  read_statement (Continue at) under m ms ts f h g =
      go_then ts _ (Closes (Continue at) under) _ (free kinds.Semicolon ∷ m ∷ ms) (m ∷ ms)
      (go_kept (Plain kinds.Continue) at _ (Begins under) (Closes (Continue at) under) refl ts g)
      (go_next (Plain kinds.Semicolon) (m ∷ ms) (Closes (Continue at) under) (Stands (Continue at) under) (λ here. refl))
  read_statement (Return value at) under m ms ts f h g =
      go_then ts _ (Answers at under) _ ((spell_optional value ++ free kinds.Semicolon ∷ []) ++ m ∷ ms) (m ∷ ms)
      (go_kept (Plain kinds.Return) at _ (Begins under) (Answers at under) refl ts g)
      (λ rest g. read_return value at under (m ∷ ms) rest f (split (spell_optional value) (free kinds.Semicolon ∷ []) (m ∷ ms) rest g))

  -- behind the opening brace
  pub read_items : (items : Items Bytes) (braces : Braces) (m : Mark) (ms : List Mark) (ts : List Spoken) → AreFormedItems (labels_of braces) items → said_of m ≢ Plain kinds.Else → Agree (spell_items items ++ m ∷ ms) ts → Leads ts (Among NoItem braces) (Among items braces) (m ∷ ms)
  read_items NoItem braces m ms ts f h g = go_stay ts (Among NoItem braces) (m ∷ ms) g
  read_items (AndDeclaration front d) braces m ms ts f h g =
      go_then ts _ (Among front braces) _ (spell_declaration d ++ m ∷ ms) (m ∷ ms)
      (front_then front braces (spell_declaration d) (m ∷ ms) ts (first_of_declaration d f.1) (λ x xs n g. read_items front braces x xs ts f.0 n g) g)
      (λ rest g. read_declaration d (AmongItems front braces) (Among front braces) (declared_among front braces) f.1 (m ∷ ms) rest g)
  read_items (AndStatement front s) braces m ms ts f h g =
      let w = first_of_statement s in
      go_then ts _ (Among front braces) _ (spell_statement s ++ m ∷ ms) (m ∷ ms)
      (front_then front braces (spell_statement s) (m ∷ ms) ts (w.0, w.1, w.2, w.3) (λ x xs n g. read_items front braces x xs ts f.0 n g) g)
      (λ rest g. go_then rest _ (Begins (InItems front braces)) _ (spell_statement s ++ m ∷ ms) (m ∷ ms)
      (statement_among s front braces (m ∷ ms) rest g)
      (λ rest g. go_then rest _ (Stands s (InItems front braces)) _ (m ∷ ms) (m ∷ ms)
      (read_statement s (InItems front braces) m ms rest f.1 (λ e. h) g)
      (go_same m ms (Stands s (InItems front braces)) (Among (AndStatement front s) braces) (λ here. refl))))
  read_items (AndRestriction front pragma) braces m ms ts f h g =
      go_then ts _ (Among front braces) _ (spell_pragma kinds.FlowRestriction pragma ++ m ∷ ms) (m ∷ ms)
      (front_then front braces (spell_pragma kinds.FlowRestriction pragma) (m ∷ ms) ts (first_of_pragma pragma) (λ x xs n g. read_items front braces x xs ts f n g) g)
      (λ rest g. read_restriction pragma front braces (m ∷ ms) rest g)
  read_items (AndLabel front l) braces m ms ts f h g =
      go_then ts _ (Among front braces) _ (spell_label l ++ m ∷ ms) (m ∷ ms)
      (front_then front braces (spell_label l) (m ∷ ms) ts (first_of_label l) (λ x xs n g. read_items front braces x xs ts f.0 n g) g)
      (λ rest g. read_label l front braces (m ∷ ms) rest f.1 f.2 g)
