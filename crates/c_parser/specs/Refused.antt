-- What the parser promises of its answer (C11 6.4 to 6.9).
use Rattle.std.specs.Prelude.{◌≡◌, ℕ, ◌+◌, ◌<◌, ◌≤◌, List, length, take}
use Rattle.c_tree.specs.Formed.{IsTreeOf}
use Rattle.c_tree.specs.Size.{size_unit}
use Rattle.c_tree.specs.Spelling.{Spoken}
use Rattle.c_tree.specs.Tree.{Nothing, TranslationUnit}
use Rattle.parse_grammar.specs.Begun.{Bytes, State, File}
use Rattle.parse_grammar.specs.Machine.{Moved, Goes, Stuck}
use Rattle.parse_grammar.specs.Depth.{deep}
use Rattle.parse_grammar.specs.Law.{BeginsWith, run}
use Rattle.c_parser.specs.declared.fault.ParseFault.{ParseFault}
use Rattle.c_parser.specs.declared.fault.ParseFault.TheVariants.{Syntax, Deep, Memory}

-- some well-formed unit's spelling begins with these tokens
abbrev pub SomeBegins : List Spoken → Type 0
SomeBegins front = (unit : TranslationUnit Bytes) × BeginsWith unit front

abbrev pub NoneBegins : List Spoken → Type 0
NoneBegins front = (unit : TranslationUnit Bytes) → BeginsWith unit front → ⊥

-- no unit is spelled so, all before the place begins some spelling, and with the token at it nothing does;
-- or what the tokens begin is too deep
abbrev pub IsRefused : ParseFault → List Spoken → Type 0
IsRefused (Syntax token) tokens = (token ≤ length tokens) × ((unit : TranslationUnit Bytes) → IsTreeOf unit tokens → ⊥) × SomeBegins (take token tokens) × (token < length tokens → NoneBegins (take (token + 1) tokens))
IsRefused (Deep token) tokens = (token < length tokens) × SomeBegins (take (token + 1) tokens) × ((unit : TranslationUnit Bytes) → BeginsWith unit (take (token + 1) tokens) → 256 < (size_unit unit).depth)
IsRefused Memory tokens = Unit {0}

-- the first token at which the machine stops, or behind which it has begun what is too deep; before it nothing was
abbrev pub Stops : ParseFault → List Spoken → Type 0
Stops (Syntax token) tokens = (token ≤ length tokens) × (state : State) × (run (take token tokens) ≡ Goes state) × (token < length tokens → run (take (token + 1) tokens) ≡ Stuck) × (length tokens ≤ token → (items : _) → state ≡ File items → items ≡ Nothing) × (deep state ≤ 256)
Stops (Deep token) tokens = (token < length tokens) × (state : State) × (run (take (token + 1) tokens) ≡ Goes state) × (256 < deep state) × (before : State) × (run (take token tokens) ≡ Goes before) × (deep before ≤ 256)
Stops Memory tokens = Unit {0}

-- how a step at this token halts: it leads nowhere, or what has begun is too deep
abbrev pub Halts : ParseFault → ℕ → Moved → Type 0
Halts (Syntax t) token moved = (t ≡ token) × (moved ≡ Stuck)
Halts (Deep t) token moved = (t ≡ token) × (state : State) × (moved ≡ Goes state) × (256 < deep state)
Halts Memory token moved = Unit {0}
