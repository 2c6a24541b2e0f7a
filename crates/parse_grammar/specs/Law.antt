-- What the grammar promises of the machine and of the spelling of units.
use Rattle.std.specs.Prelude.{◌≡◌, ◌+◌, ◌≤◌, List, ◌++◌, length}
use Rattle.c_tree.specs.Said.{TokenList}
use Rattle.c_tree.specs.Formed.{EachOf, IsFormedExternal, IsFormedUnit}
use Rattle.c_tree.specs.Size.{size_unit}
use Rattle.c_tree.specs.Spelling.{Spoken, Agree, IsSpelling, spell_externals, spell_unit}
use Rattle.c_tree.specs.Tree.{Row, Nothing, External, TranslationUnit}
use Rattle.parse_grammar.specs.Begun.{Bytes, State, File}
use Rattle.parse_grammar.specs.Machine.{Moved, Goes, Stuck, after_all}
use Rattle.parse_grammar.specs.Depth.{deep}

-- no list of tokens is the spelling of two well-formed units
abbrev pub IsUnambiguous : Type 0
IsUnambiguous = (tokens : TokenList) (s t : TranslationUnit Bytes) → IsFormedUnit s → IsFormedUnit t → IsSpelling s tokens → IsSpelling t tokens → s ≡ t

-- where these tokens lead, from the start of a unit
abbrev pub run : List Spoken → Moved
run tokens = after_all (Goes (File Nothing)) tokens

-- the spelling of a well-formed unit leads behind its items
abbrev pub ReadsBack : Type 0
ReadsBack = (items : Row (External Bytes)) (tokens : List Spoken) → EachOf IsFormedExternal items → Agree (spell_externals items) tokens → run tokens ≡ Goes (File items)

-- the items behind which tokens lead are well formed, and the tokens are their spelling
abbrev pub ReadsTrue : Type 0
ReadsTrue = (items : Row (External Bytes)) (tokens : List Spoken) → run tokens ≡ Goes (File items) → EachOf IsFormedExternal items × Agree (spell_externals items) tokens

-- a well-formed unit whose spelling begins with these tokens
abbrev pub BeginsWith : TranslationUnit Bytes → List Spoken → Type 0
BeginsWith unit front = (rest : List Spoken) × IsFormedUnit unit × Agree (spell_unit unit) (front ++ rest)

-- where tokens lead nowhere, no spelling begins with them
abbrev pub StopsTrue : Type 0
StopsTrue = (front : List Spoken) (unit : TranslationUnit Bytes) → run front ≡ Stuck → BeginsWith unit front → ⊥

-- a unit whose spelling begins with tokens is at least as deep as what they have begun
abbrev pub DeepensTrue : Type 0
DeepensTrue = (front : List Spoken) (state : State) (unit : TranslationUnit Bytes) → run front ≡ Goes state → BeginsWith unit front → deep state ≤ (size_unit unit).depth

-- a unit has at most one node more than it has tokens
abbrev pub CountsTrue : Type 0
CountsTrue = (unit : TranslationUnit Bytes) (tokens : List Spoken) → IsFormedUnit unit → Agree (spell_unit unit) tokens → (size_unit unit).nodes ≤ length tokens + 1

-- what leads somewhere begins the spelling of a well-formed unit
abbrev pub GoesTrue : Type 0
GoesTrue = (front : List Spoken) (state : State) → run front ≡ Goes state → (unit : TranslationUnit Bytes) × BeginsWith unit front
