-- Each state is completed by some tokens, so what the machine has taken begins the spelling of a unit.
use Rattle.std.proofs.Common.{◌≡◌, ◌≢◌, ℕ, ◌<◌, List, [], ◌∷◌, ◌++◌, false, refl, sym, ◌∙◌, ap, subst, arith}
use Rattle.std.specs.Prelude.{Some, None}
use Rattle.c_tree.specs.declared.token.TokenKind.{TokenKind}
use Rattle.c_tree.specs.declared.token.TokenKind.TheVariants as kinds
use Rattle.c_tree.specs.Said as lexemes
use Rattle.c_tree.specs.Said.{Plain}
use Rattle.c_tree.specs.declared.expression.Specifier.TheVariants as words
use Rattle.c_tree.specs.Formed.{place, external_place, IsFirstPlace}
use Rattle.c_tree.specs.Spelling.{Spoken}
use Rattle.c_tree.specs.Tree as trees
use Rattle.c_tree.specs.Tree.{Row, Nothing, Then, Expr, Name, Paren, Index, Call, Prefix, Cast, Binary, Conditional, Assign, NoExpr, AndExpr, Declaration, Statement, Empty, If, IfElse, While, For, Do, Items, NoItem, External}
use Rattle.parse_grammar.specs.Begun.{Bytes, Header, Heads, Frames, InItems, InThen, InElse, InWhile, InDo, InFor, Braces, OfBlock, OfSwitch, OfFunction, Scope, AtFile, AmongItems, AtFor, Head, Heading, Proto, Signs, Declarator, OfObject, OfParam, Test, OfIf, OfWhile, OfDo, OfChoice, Purpose, Evaluates, Returns, Tests, Starts, Guards, Repeats, Sizes, Initialises, Lists, Labels, Stack, Base, InParen, InIndex, InCall, AfterPrefix, AfterCast, AfterJoin, AfterQuestion, AfterColon, AfterAssign, demand, State, Wants, Has, Opened, Typed, Called, File, Among, Begins, Stands, Closes, Bounded, Opens, Chooses, Answers, Defaults, Loops, LoopStarts, LoopTests, LoopSteps, Specified, Named, Further, Declares, Sizing, Shaped, Initial, Listed, Ended, ParamsOpen, ParamNext, ParamSpecified, ParamsDone}
use Rattle.parse_grammar.specs.Machine.{Goes, role, reach, declared, step, after_all, leave}
use Rattle.parse_grammar.specs.Law.{run, BeginsWith}
use Rattle.parse_grammar.proofs.Laws.{after_all-append}
use Rattle.parse_grammar.proofs.SoundSteps.{read_sound}
use Rattle.parse_grammar.proofs.Levels.{most}
use Rattle.parse_grammar.proofs.Leads.{ends}
use Rattle.parse_grammar.proofs.ReadStatements.{no_else}

abbrev plain : TokenKind → Spoken
plain kind = record { said = Plain kind; at = 0 }

abbrev zero_token : Spoken
zero_token = record { said = lexemes.Name []; at = 0 }

-- these tokens lead from the state to the end of a unit
record Reaches (state : State) (tokens : List Spoken) : Type 0 where
  pub front : Row (External Bytes)
  pub last : External Bytes
  pub leads : after_all (Goes state) tokens ≡ Goes (File (Then front last))

reaches_step : (a b : State) (t : Spoken) (ts : List Spoken) → step a t ≡ Goes b → Reaches b ts → Reaches a (t ∷ ts)
reaches_step a b t ts e r = record { front = r.front; last = r.last; leads = ap (λ o. after_all o ts) e ∙ r.leads }

reaches_as : (a b : State) (t : Spoken) (ts : List Spoken) → step a t ≡ step b t → Reaches b (t ∷ ts) → Reaches a (t ∷ ts)
reaches_as a b t ts e r = record { front = r.front; last = r.last; leads = ap (λ o. after_all o ts) e ∙ r.leads }

abbrev mutual
  -- what ends a statement's surroundings
  ends_frames : Frames → List Spoken
  ends_frames (InItems front braces) = plain kinds.RightBrace ∷ ends_braces braces
  ends_frames (InThen test at under) = ends_frames under
  ends_frames (InElse test first at under) = ends_frames under
  ends_frames (InWhile bound test at under) = ends_frames under
  ends_frames (InDo bound at under) = plain kinds.While ∷ plain kinds.LeftParen ∷ zero_token ∷ plain kinds.RightParen ∷ plain kinds.Semicolon ∷ ends_frames under
  ends_frames (InFor bound start test last at under) = ends_frames under

  ends_braces : Braces → List Spoken
  ends_braces (OfBlock at under) = ends_frames under
  ends_braces (OfSwitch test at under) = ends_frames under
  ends_braces (OfFunction header) = []

-- it begins with no `else`
record FirstEnd (under : Frames) : Type 0 where
  pub token : Spoken
  pub rest : List Spoken
  pub split : ends_frames under ≡ token ∷ rest
  pub other : token.said ≢ Plain kinds.Else

first_end : (under : Frames) → FirstEnd under
first_end (InItems front braces) = record { token = plain kinds.RightBrace; rest = ends_braces braces; split = refl; other = λ e. cc }
first_end (InThen test at under) = let k = first_end under in record { token = k.token; rest = k.rest; split = k.split; other = k.other }
first_end (InElse test first at under) = let k = first_end under in record { token = k.token; rest = k.rest; split = k.split; other = k.other }
first_end (InWhile bound test at under) = let k = first_end under in record { token = k.token; rest = k.rest; split = k.split; other = k.other }
first_end (InDo bound at under) = record { token = plain kinds.While; rest = plain kinds.LeftParen ∷ zero_token ∷ plain kinds.RightParen ∷ plain kinds.Semicolon ∷ ends_frames under; split = refl; other = λ e. cc }
first_end (InFor bound start test last at under) = let k = first_end under in record { token = k.token; rest = k.rest; split = k.split; other = k.other }

-- where two states do the same at the token that ends the surroundings
frames_as : (a b : State) (under : Frames) → ((token : Spoken) → token.said ≢ Plain kinds.Else → step a token ≡ step b token) → Reaches b (ends_frames under) → Reaches a (ends_frames under)
frames_as a b under h r =
    let k = first_end under in
    subst (λ ts. Reaches a ts) (sym k.split) (reaches_as a b k.token k.rest (h k.token k.other) (subst (λ ts. Reaches b ts) k.split r))

do_end : (bound : _) (at : ℕ) (under : Frames) (s : Statement Bytes) → ((t : Statement Bytes) → Reaches (Stands t under) (ends_frames under)) → Reaches (Stands s (InDo bound at under)) (ends_frames (InDo bound at under))
do_end bound at under s h =
    reaches_step _ (Opens (OfDo bound s at under)) _ _ refl
    (reaches_step _ (Wants (Base (Tests (OfDo bound s at under)))) _ _ refl
    (reaches_step _ (Has (Name [] 0) (Base (Tests (OfDo bound s at under)))) _ _ refl
    (reaches_step _ (Closes (Do bound s (Name [] 0) at) under) _ _ refl
    (reaches_step _ (Stands (Do bound s (Name [] 0) at) under) _ _ refl (h (Do bound s (Name [] 0) at))))))

function_end : (header : Header) (a : State) (items : Items Bytes) → step a (plain kinds.RightBrace) ≡ step (Among items (OfFunction header)) (plain kinds.RightBrace) → Reaches a (plain kinds.RightBrace ∷ [])
function_end (Heads all name name_at params body_at at front) a items e = record { front = front; last = trees.Function all name name_at params items body_at at; leads = ap (λ o. after_all o []) e }

mutual
  frames_end : (under : Frames) (s : Statement Bytes) → Reaches (Stands s under) (ends_frames under)
  frames_end (InItems front braces) s = braces_end braces (Stands s (InItems front braces)) (trees.AndStatement front s) refl
  frames_end (InThen test at under) s = frames_as (Stands s (InThen test at under)) (Stands (If test s at) under) under (λ token n. no_else token.said token.at test at under s n) (frames_end under (If test s at))
  frames_end (InElse test first at under) s = frames_as (Stands s (InElse test first at under)) (Stands (IfElse test first s at) under) under (λ token n. refl) (frames_end under (IfElse test first s at))
  frames_end (InWhile bound test at under) s = frames_as (Stands s (InWhile bound test at under)) (Stands (While bound test s at) under) under (λ token n. refl) (frames_end under (While bound test s at))
  frames_end (InFor bound start test last at under) s = frames_as (Stands s (InFor bound start test last at under)) (Stands (For bound start test last s at) under) under (λ token n. refl) (frames_end under (For bound start test last s at))
  frames_end (InDo bound at under) s = do_end bound at under s (λ t. frames_end under t)

  braces_end : (braces : Braces) (a : State) (items : Items Bytes) → step a (plain kinds.RightBrace) ≡ step (Among items braces) (plain kinds.RightBrace) → Reaches a (plain kinds.RightBrace ∷ ends_braces braces)
  braces_end (OfBlock at under) a items e = reaches_step a (Stands (trees.Block items at) under) _ _ e (frames_end under (trees.Block items at))
  braces_end (OfSwitch test at under) a items e = reaches_step a (Stands (trees.Switch test items at) under) _ _ e (frames_end under (trees.Switch test items at))
  braces_end (OfFunction header) a items e = function_end header a items e

among_end : (front : Items Bytes) (braces : Braces) → Reaches (Among front braces) (plain kinds.RightBrace ∷ ends_braces braces)
among_end front braces = braces_end braces (Among front braces) front refl

begins_end : (under : Frames) → Reaches (Begins under) (plain kinds.Semicolon ∷ ends_frames under)
begins_end under = reaches_step _ (Stands (Empty 0) under) _ _ refl (frames_end under (Empty 0))

abbrev ends_scope : Scope → List Spoken
ends_scope (AtFile front) = []
ends_scope (AmongItems front braces) = plain kinds.RightBrace ∷ ends_braces braces
ends_scope (AtFor bound at under) = plain kinds.Semicolon ∷ plain kinds.RightParen ∷ plain kinds.Semicolon ∷ ends_frames under

loop_steps_end : (bound : _) (start : _) (test : _) (at : ℕ) (under : Frames) → Reaches (LoopSteps bound start test at under) (plain kinds.RightParen ∷ plain kinds.Semicolon ∷ ends_frames under)
loop_steps_end bound start test at under = reaches_step _ (Begins (InFor bound start test None at under)) _ _ refl (begins_end (InFor bound start test None at under))

loop_tests_end : (bound : _) (start : _) (at : ℕ) (under : Frames) → Reaches (LoopTests bound start at under) (plain kinds.Semicolon ∷ plain kinds.RightParen ∷ plain kinds.Semicolon ∷ ends_frames under)
loop_tests_end bound start at under = reaches_step _ (LoopSteps bound start None at under) _ _ refl (loop_steps_end bound start None at under)

scope_end : (scope : Scope) (d : Declaration Bytes) → Reaches (declared scope d) (ends_scope scope)
scope_end (AtFile front) d = record { front = front; last = trees.Declaring d; leads = refl }
scope_end (AmongItems front braces) d = among_end (trees.AndDeclaration front d) braces
scope_end (AtFor bound at under) d = loop_tests_end bound (trees.StartDeclaration d) at under

abbrev ends_head : Head → List Spoken
ends_head (Heading all objects at scope) = plain kinds.Semicolon ∷ ends_scope scope

head_end : (head : Head) (object : trees.Object Bytes) → Reaches (Ended head object) (ends_head head)
head_end (Heading all objects at scope) object = reaches_step _ (declared scope (trees.Objects all (Then objects object) at)) _ _ refl (scope_end scope (trees.Objects all (Then objects object) at))

abbrev ends_proto : Proto → List Spoken
ends_proto (Signs all name name_at at scope) = plain kinds.Semicolon ∷ ends_scope scope

proto_end : (proto : Proto) (params : Row (trees.Param Bytes)) → Reaches (ParamsDone proto params) (ends_proto proto)
proto_end (Signs all name name_at at scope) params = reaches_step _ (declared scope (trees.Prototype all name params at)) _ _ refl (scope_end scope (trees.Prototype all name params at))

abbrev ends_declarator : Declarator → List Spoken
ends_declarator (OfObject head name at) = ends_head head
ends_declarator (OfParam proto front all name at) = plain kinds.RightParen ∷ ends_proto proto

declarator_end : (declarator : Declarator) (shape : trees.Shape Bytes) → Reaches (Shaped declarator shape) (ends_declarator declarator)
declarator_end (OfObject (Heading all objects at scope) name here) shape =
    let object = trees.Declared name shape trees.Absent here in
    reaches_step _ (declared scope (trees.Objects all (Then objects object) at)) _ _ refl (scope_end scope (trees.Objects all (Then objects object) at))
declarator_end (OfParam proto front all name at) shape = reaches_step _ (ParamsDone proto (Then front (trees.Parameter all name shape at))) _ _ refl (proto_end proto (Then front (trees.Parameter all name shape at)))

-- without a size, a declarator ends as a scalar
scalar_end : (declarator : Declarator) → Reaches (Declares declarator) (ends_declarator declarator)
scalar_end (OfObject (Heading all objects at scope) name here) =
    let object = trees.Declared name trees.Scalar trees.Absent here in
    reaches_step _ (declared scope (trees.Objects all (Then objects object) at)) _ _ refl (scope_end scope (trees.Objects all (Then objects object) at))
scalar_end (OfParam proto front all name at) = reaches_step _ (ParamsDone proto (Then front (trees.Parameter all name trees.Scalar at))) _ _ refl (proto_end proto (Then front (trees.Parameter all name trees.Scalar at)))

abbrev ends_test : Test → List Spoken
ends_test (OfIf at under) = plain kinds.RightParen ∷ plain kinds.Semicolon ∷ ends_frames under
ends_test (OfWhile bound at under) = plain kinds.RightParen ∷ plain kinds.Semicolon ∷ ends_frames under
ends_test (OfDo bound body at under) = plain kinds.RightParen ∷ plain kinds.Semicolon ∷ ends_frames under
ends_test (OfChoice at under) = plain kinds.RightParen ∷ plain kinds.LeftBrace ∷ plain kinds.RightBrace ∷ ends_frames under

chooses_end : (test : Expr Bytes) (at : ℕ) (under : Frames) → Reaches (Chooses test at under) (plain kinds.LeftBrace ∷ plain kinds.RightBrace ∷ ends_frames under)
chooses_end test at under = reaches_step _ (Among NoItem (OfSwitch test at under)) _ _ refl (among_end NoItem (OfSwitch test at under))

test_end : (test : Test) (tree : Expr Bytes) → Reaches (Has tree (Base (Tests test))) (ends_test test)
test_end (OfIf at under) tree = reaches_step _ (Begins (InThen tree at under)) _ _ refl (begins_end (InThen tree at under))
test_end (OfWhile bound at under) tree = reaches_step _ (Begins (InWhile bound tree at under)) _ _ refl (begins_end (InWhile bound tree at under))
test_end (OfDo bound body at under) tree = reaches_step _ (Closes (Do bound body tree at) under) _ _ refl (reaches_step _ (Stands (Do bound body tree at) under) _ _ refl (frames_end under (Do bound body tree at)))
test_end (OfChoice at under) tree = reaches_step _ (Chooses tree at under) _ _ refl (chooses_end tree at under)

abbrev ends_purpose : Purpose → List Spoken
ends_purpose (Evaluates under) = plain kinds.Semicolon ∷ ends_frames under
ends_purpose (Returns at under) = plain kinds.Semicolon ∷ ends_frames under
ends_purpose (Tests test) = ends_test test
ends_purpose (Starts bound at under) = plain kinds.Semicolon ∷ plain kinds.Semicolon ∷ plain kinds.RightParen ∷ plain kinds.Semicolon ∷ ends_frames under
ends_purpose (Guards bound start at under) = plain kinds.Semicolon ∷ plain kinds.RightParen ∷ plain kinds.Semicolon ∷ ends_frames under
ends_purpose (Repeats bound start test at under) = plain kinds.RightParen ∷ plain kinds.Semicolon ∷ ends_frames under
ends_purpose (Sizes declarator) = plain kinds.RightBracket ∷ ends_declarator declarator
ends_purpose (Initialises head name shape at) = ends_head head
ends_purpose (Lists head name shape front at) = plain kinds.RightBrace ∷ ends_head head
ends_purpose (Labels front braces at) = plain kinds.Colon ∷ plain kinds.RightBrace ∷ ends_braces braces

purpose_end : (purpose : Purpose) (tree : Expr Bytes) → Reaches (Has tree (Base purpose)) (ends_purpose purpose)
purpose_end (Evaluates under) tree = reaches_step _ (Stands (trees.Evaluate tree (place tree)) under) _ _ refl (frames_end under (trees.Evaluate tree (place tree)))
purpose_end (Returns at under) tree = reaches_step _ (Stands (trees.Return (Some tree) at) under) _ _ refl (frames_end under (trees.Return (Some tree) at))
purpose_end (Tests test) tree = test_end test tree
purpose_end (Starts bound at under) tree = reaches_step _ (LoopTests bound (trees.StartValue tree) at under) _ _ refl (loop_tests_end bound (trees.StartValue tree) at under)
purpose_end (Guards bound start at under) tree = reaches_step _ (LoopSteps bound start (Some tree) at under) _ _ refl (loop_steps_end bound start (Some tree) at under)
purpose_end (Repeats bound start test at under) tree = reaches_step _ (Begins (InFor bound start test (Some tree) at under)) _ _ refl (begins_end (InFor bound start test (Some tree) at under))
purpose_end (Sizes declarator) tree = reaches_step _ (Shaped declarator (trees.Sized tree)) _ _ refl (declarator_end declarator (trees.Sized tree))
purpose_end (Initialises (Heading all objects at scope) name shape here) tree =
    let object = trees.Declared name shape (trees.Value tree) here in
    reaches_step _ (declared scope (trees.Objects all (Then objects object) at)) _ _ refl (scope_end scope (trees.Objects all (Then objects object) at))
purpose_end (Lists head name shape front at) tree =
    let object = trees.Declared name shape (trees.Listed (AndExpr front tree) false) at in
    reaches_step _ (Ended head object) _ _ refl (head_end head object)
purpose_end (Labels front braces at) tree = reaches_step _ (Among (trees.AndLabel front (trees.Case tree at)) braces) _ _ refl (among_end (trees.AndLabel front (trees.Case tree at)) braces)

abbrev ends_stack : Stack → List Spoken
ends_stack (Base purpose) = ends_purpose purpose
ends_stack (InParen at under) = plain kinds.RightParen ∷ ends_stack under
ends_stack (InIndex array at under) = plain kinds.RightBracket ∷ ends_stack under
ends_stack (InCall function at front under) = plain kinds.RightParen ∷ ends_stack under
ends_stack (AfterPrefix operator at under) = ends_stack under
ends_stack (AfterCast all at under) = ends_stack under
ends_stack (AfterJoin operator left under) = ends_stack under
ends_stack (AfterQuestion test under) = plain kinds.Colon ∷ zero_token ∷ ends_stack under
ends_stack (AfterColon test first under) = ends_stack under
ends_stack (AfterAssign operator target under) = ends_stack under

-- it begins with a token that goes on with no operand
record FirstCloser (under : Stack) : Type 0 where
  pub token : Spoken
  pub rest : List Spoken
  pub split : ends_stack under ≡ token ∷ rest
  pub closes : reach (role token.said) ≡ 16

first_of_test : (test : Test) → (token : Spoken) × (rest : List Spoken) × (ends_test test ≡ token ∷ rest) × (reach (role token.said) ≡ 16)
first_of_test (OfIf at under) = (plain kinds.RightParen, _, refl, refl)
first_of_test (OfWhile bound at under) = (plain kinds.RightParen, _, refl, refl)
first_of_test (OfDo bound body at under) = (plain kinds.RightParen, _, refl, refl)
first_of_test (OfChoice at under) = (plain kinds.RightParen, _, refl, refl)

first_of_purpose : (purpose : Purpose) → (token : Spoken) × (rest : List Spoken) × (ends_purpose purpose ≡ token ∷ rest) × (reach (role token.said) ≡ 16)
first_of_purpose (Evaluates under) = (plain kinds.Semicolon, _, refl, refl)
first_of_purpose (Returns at under) = (plain kinds.Semicolon, _, refl, refl)
first_of_purpose (Tests test) = first_of_test test
first_of_purpose (Starts bound at under) = (plain kinds.Semicolon, _, refl, refl)
first_of_purpose (Guards bound start at under) = (plain kinds.Semicolon, _, refl, refl)
first_of_purpose (Repeats bound start test at under) = (plain kinds.RightParen, _, refl, refl)
first_of_purpose (Sizes declarator) = (plain kinds.RightBracket, _, refl, refl)
first_of_purpose (Initialises (Heading all objects at scope) name shape here) = (plain kinds.Semicolon, _, refl, refl)
first_of_purpose (Lists head name shape front at) = (plain kinds.RightBrace, _, refl, refl)
first_of_purpose (Labels front braces at) = (plain kinds.Colon, _, refl, refl)

first_closer : (under : Stack) → FirstCloser under
first_closer (Base purpose) = let k = first_of_purpose purpose in record { token = k.0; rest = k.1; split = k.2; closes = k.3 }
first_closer (InParen at under) = record { token = plain kinds.RightParen; rest = ends_stack under; split = refl; closes = refl }
first_closer (InIndex array at under) = record { token = plain kinds.RightBracket; rest = ends_stack under; split = refl; closes = refl }
first_closer (InCall function at front under) = record { token = plain kinds.RightParen; rest = ends_stack under; split = refl; closes = refl }
first_closer (AfterPrefix operator at under) = let k = first_closer under in record { token = k.token; rest = k.rest; split = k.split; closes = k.closes }
first_closer (AfterCast all at under) = let k = first_closer under in record { token = k.token; rest = k.rest; split = k.split; closes = k.closes }
first_closer (AfterJoin operator left under) = let k = first_closer under in record { token = k.token; rest = k.rest; split = k.split; closes = k.closes }
first_closer (AfterQuestion test under) = record { token = plain kinds.Colon; rest = zero_token ∷ ends_stack under; split = refl; closes = refl }
first_closer (AfterColon test first under) = let k = first_closer under in record { token = k.token; rest = k.rest; split = k.split; closes = k.closes }
first_closer (AfterAssign operator target under) = let k = first_closer under in record { token = k.token; rest = k.rest; split = k.split; closes = k.closes }

-- an operand ends with the part that it ends
stack_as : (tree whole : Expr Bytes) (above under : Stack) → demand above < 16 → ((token : Spoken) → leave above (role token.said) token.said tree ≡ step (Has whole under) token) → Reaches (Has whole under) (ends_stack under) → Reaches (Has tree above) (ends_stack under)
stack_as tree whole above under h same r =
    let k = first_closer under in
    let closes : demand above < reach (role k.token.said) = omega (arith, h, k.closes) in
    subst (λ ts. Reaches (Has tree above) ts) (sym k.split)
    (reaches_as (Has tree above) (Has whole under) k.token k.rest (ends (role k.token.said) k.token.said tree above closes ∙ same k.token) (subst (λ ts. Reaches (Has whole under) ts) k.split r))

stack_end : (under : Stack) (tree : Expr Bytes) → Reaches (Has tree under) (ends_stack under)
stack_end (Base purpose) tree = purpose_end purpose tree
stack_end (InParen at under) tree = reaches_step _ (Has (Paren tree at) under) _ _ refl (stack_end under (Paren tree at))
stack_end (InIndex array at under) tree = reaches_step _ (Has (Index array tree at) under) _ _ refl (stack_end under (Index array tree at))
stack_end (InCall function at front under) tree = reaches_step _ (Has (Call function (AndExpr front tree) at) under) _ _ refl (stack_end under (Call function (AndExpr front tree) at))
stack_end (AfterPrefix operator at under) tree = stack_as tree (Prefix operator tree at) (AfterPrefix operator at under) under (omega arith) (λ token. refl) (stack_end under (Prefix operator tree at))
stack_end (AfterCast all at under) tree = stack_as tree (Cast all tree at) (AfterCast all at under) under (omega arith) (λ token. refl) (stack_end under (Cast all tree at))
stack_end (AfterJoin operator left under) tree = stack_as tree (Binary operator left tree (place left)) (AfterJoin operator left under) under (omega (arith, most operator)) (λ token. refl) (stack_end under (Binary operator left tree (place left)))
stack_end (AfterQuestion test under) tree =
    let whole = Conditional test tree (Name [] 0) (place test) in
    reaches_step _ (Wants (AfterColon test tree under)) _ _ refl
    (reaches_step _ (Has (Name [] 0) (AfterColon test tree under)) _ _ refl
    (stack_as (Name [] 0) whole (AfterColon test tree under) under (omega arith) (λ token. refl) (stack_end under whole)))
stack_end (AfterColon test first under) tree = stack_as tree (Conditional test first tree (place test)) (AfterColon test first under) under (omega arith) (λ token. refl) (stack_end under (Conditional test first tree (place test)))
stack_end (AfterAssign operator target under) tree = stack_as tree (Assign operator target tree (place target)) (AfterAssign operator target under) under (omega arith) (λ token. refl) (stack_end under (Assign operator target tree (place target)))

wants_end : (under : Stack) → Reaches (Wants under) (zero_token ∷ ends_stack under)
wants_end under = reaches_step _ (Has (Name [] 0) under) _ _ refl (stack_end under (Name [] 0))

abbrev completion : State → List Spoken
completion (Wants under) = zero_token ∷ ends_stack under
completion (Has tree under) = ends_stack under
completion (Opened at under) = zero_token ∷ plain kinds.RightParen ∷ ends_stack under
completion (Typed all at under) = plain kinds.RightParen ∷ zero_token ∷ ends_stack under
completion (Called function at under) = plain kinds.RightParen ∷ ends_stack under
completion (File front) = plain kinds.Int ∷ zero_token ∷ plain kinds.Semicolon ∷ []
completion (Among front braces) = plain kinds.RightBrace ∷ ends_braces braces
completion (Begins under) = plain kinds.Semicolon ∷ ends_frames under
completion (Stands statement under) = ends_frames under
completion (Closes statement under) = plain kinds.Semicolon ∷ ends_frames under
completion (Bounded bound under) = plain kinds.While ∷ plain kinds.LeftParen ∷ zero_token ∷ plain kinds.RightParen ∷ plain kinds.Semicolon ∷ ends_frames under
completion (Opens test) = plain kinds.LeftParen ∷ zero_token ∷ ends_test test
completion (Chooses test at under) = plain kinds.LeftBrace ∷ plain kinds.RightBrace ∷ ends_frames under
completion (Answers at under) = plain kinds.Semicolon ∷ ends_frames under
completion (Defaults front braces at) = plain kinds.Colon ∷ plain kinds.RightBrace ∷ ends_braces braces
completion (Loops bound at under) = plain kinds.LeftParen ∷ plain kinds.Semicolon ∷ plain kinds.Semicolon ∷ plain kinds.RightParen ∷ plain kinds.Semicolon ∷ ends_frames under
completion (LoopStarts bound at under) = plain kinds.Semicolon ∷ plain kinds.Semicolon ∷ plain kinds.RightParen ∷ plain kinds.Semicolon ∷ ends_frames under
completion (LoopTests bound start at under) = plain kinds.Semicolon ∷ plain kinds.RightParen ∷ plain kinds.Semicolon ∷ ends_frames under
completion (LoopSteps bound start test at under) = plain kinds.RightParen ∷ plain kinds.Semicolon ∷ ends_frames under
completion (Specified all at scope) = zero_token ∷ plain kinds.Semicolon ∷ ends_scope scope
completion (Named proto) = ends_proto proto
completion (Further head) = zero_token ∷ ends_head head
completion (Declares declarator) = ends_declarator declarator
completion (Sizing declarator) = plain kinds.RightBracket ∷ ends_declarator declarator
completion (Shaped declarator shape) = ends_declarator declarator
completion (Initial head name shape at) = zero_token ∷ ends_head head
completion (Listed head name shape front at) = zero_token ∷ plain kinds.RightBrace ∷ ends_head head
completion (Ended head object) = ends_head head
completion (ParamsOpen proto) = plain kinds.RightParen ∷ ends_proto proto
completion (ParamNext proto front) = plain kinds.Int ∷ plain kinds.RightParen ∷ ends_proto proto
completion (ParamSpecified proto front all at) = plain kinds.RightParen ∷ ends_proto proto
completion (ParamsDone proto params) = ends_proto proto

named_end : (proto : Proto) → Reaches (Named proto) (ends_proto proto)
named_end (Signs all name name_at at scope) =
    let object = trees.Declared name trees.Scalar trees.Absent name_at in
    reaches_step _ (declared scope (trees.Objects all (Then Nothing object) at)) _ _ refl (scope_end scope (trees.Objects all (Then Nothing object) at))

opens_end : (test : Test) → Reaches (Opens test) (plain kinds.LeftParen ∷ zero_token ∷ ends_test test)
opens_end test = reaches_step _ (Wants (Base (Tests test))) _ _ refl (wants_end (Base (Tests test)))

loop_starts_end : (bound : _) (at : ℕ) (under : Frames) → Reaches (LoopStarts bound at under) (plain kinds.Semicolon ∷ plain kinds.Semicolon ∷ plain kinds.RightParen ∷ plain kinds.Semicolon ∷ ends_frames under)
loop_starts_end bound at under = reaches_step _ (LoopTests bound trees.NoStart at under) _ _ refl (loop_tests_end bound trees.NoStart at under)

param_end : (proto : Proto) (front : Row (trees.Param Bytes)) (all : List _) (at : ℕ) → Reaches (ParamSpecified proto front all at) (plain kinds.RightParen ∷ ends_proto proto)
param_end proto front all at = reaches_step _ (ParamsDone proto (Then front (trees.Parameter all None trees.Scalar at))) _ _ refl (proto_end proto (Then front (trees.Parameter all None trees.Scalar at)))

file_end : (front : Row (External Bytes)) → Reaches (File front) (completion (File front))
file_end front = record { front = front; last = trees.Declaring (trees.Objects (words.Int ∷ []) (Then Nothing (trees.Declared [] trees.Scalar trees.Absent 0)) 0); leads = refl }

-- each state is completed
completes : (state : State) → Reaches state (completion state)
completes (Wants under) = wants_end under
completes (Has tree under) = stack_end under tree
completes (Opened at under) = reaches_step _ (Has (Name [] 0) (InParen at under)) _ _ refl (stack_end (InParen at under) (Name [] 0))
completes (Typed all at under) = reaches_step _ (Wants (AfterCast all at under)) _ _ refl (wants_end (AfterCast all at under))
completes (Called function at under) = reaches_step _ (Has (Call function NoExpr at) under) _ _ refl (stack_end under (Call function NoExpr at))
completes (File front) = file_end front
completes (Among front braces) = among_end front braces
completes (Begins under) = begins_end under
completes (Stands statement under) = frames_end under statement
completes (Closes statement under) = reaches_step _ (Stands statement under) _ _ refl (frames_end under statement)
completes (Bounded bound under) = reaches_step _ (Opens (OfWhile (Some bound) 0 under)) _ _ refl (opens_end (OfWhile (Some bound) 0 under))
completes (Opens test) = opens_end test
completes (Chooses test at under) = chooses_end test at under
completes (Answers at under) = reaches_step _ (Stands (trees.Return None at) under) _ _ refl (frames_end under (trees.Return None at))
completes (Defaults front braces at) = reaches_step _ (Among (trees.AndLabel front (trees.Default at)) braces) _ _ refl (among_end (trees.AndLabel front (trees.Default at)) braces)
completes (Loops bound at under) = reaches_step _ (LoopStarts bound at under) _ _ refl (loop_starts_end bound at under)
completes (LoopStarts bound at under) = loop_starts_end bound at under
completes (LoopTests bound start at under) = loop_tests_end bound start at under
completes (LoopSteps bound start test at under) = loop_steps_end bound start test at under
completes (Specified all at scope) = reaches_step _ (Named (Signs all [] 0 at scope)) _ _ refl (named_end (Signs all [] 0 at scope))
completes (Named proto) = named_end proto
completes (Further head) = reaches_step _ (Declares (OfObject head [] 0)) _ _ refl (scalar_end (OfObject head [] 0))
completes (Declares declarator) = scalar_end declarator
completes (Sizing declarator) = reaches_step _ (Shaped declarator trees.Unsized) _ _ refl (declarator_end declarator trees.Unsized)
completes (Shaped declarator shape) = declarator_end declarator shape
completes (Initial head name shape at) = reaches_step _ (Has (Name [] 0) (Base (Initialises head name shape at))) _ _ refl (stack_end (Base (Initialises head name shape at)) (Name [] 0))
completes (Listed head name shape front at) = reaches_step _ (Has (Name [] 0) (Base (Lists head name shape front at))) _ _ refl (stack_end (Base (Lists head name shape front at)) (Name [] 0))
completes (Ended head object) = head_end head object
completes (ParamsOpen proto) = reaches_step _ (ParamsDone proto Nothing) _ _ refl (proto_end proto Nothing)
completes (ParamNext proto front) = reaches_step _ (ParamSpecified proto front (words.Int ∷ []) 0) _ _ refl (param_end proto front (words.Int ∷ []) 0)
completes (ParamSpecified proto front all at) = param_end proto front all at
completes (ParamsDone proto params) = proto_end proto params

some_first : (front : Row (External Bytes)) (last : External Bytes) → (at : ℕ) × IsFirstPlace at (Then front last)
some_first Nothing last = (external_place last, refl)
some_first (Then front middle) last = some_first front middle

-- what the machine has taken begins the spelling of a unit
pub goes_true : (front : List Spoken) (state : State) → run front ≡ Goes state → (unit : trees.TranslationUnit Bytes) × BeginsWith unit front
goes_true front state e =
    let r = completes state in
    let first = some_first r.front r.last in
    let leads : run (front ++ completion state) ≡ Goes (File (Then r.front r.last)) = after_all-append (Goes (File Nothing)) front (completion state) ∙ ap (λ o. after_all o (completion state)) e ∙ r.leads in
    let sound = read_sound (Then r.front r.last) (front ++ completion state) leads in
    (trees.Whole (Then r.front r.last) first.0, (completion state, (first.1, sound.0), sound.1))
