-- From where all tokens lead to what the parser answers.
use Rattle.std.specs.Prelude.{Vec, IfErr, IfOk}
use Rattle.std.specs.Global.{Global}
use Rattle.std.proofs.Common.{Result, Ok, Err, ◌≡◌, ℕ, ◌+◌, ◌<◌, ◌≤◌, ◌^◌, List, [], length, map, refl, sym, ◌∙◌, ap, subst, arith}
use Rattle.c_tree.specs.declared.external.External as externals
use Rattle.c_tree.specs.Formed.{EachOf, IsFirstPlace, IsFormedExternal, IsFormedUnit, external_place, IsTreeOf}
use Rattle.c_tree.specs.Named.{map_row, named_external}
use Rattle.c_tree.specs.Size.{size_external, size_row, size_unit}
use Rattle.std.proofs.lemmas.List.{length-map}
use Rattle.c_tree.specs.declared.token.Token.{Token}
use Rattle.c_tree.specs.Said.{TokenList, said}
use Rattle.c_tree.specs.Spelling.{Spoken, Agree, spell_externals, spoken}
use Rattle.c_tree.specs.declared.unit.Unit as units
use Rattle.wcc_base.specs.declared.text.Text as texts
use Rattle.c_tree.specs.Names.{AreListed, name_of, names_of_tokens}
use Rattle.c_tree.specs.Units.{named_tree_of}
use Rattle.c_tree.specs.Tree.{Row, Nothing, Then, External, Whole}
use Rattle.c_tree.specs.View.{external_of, row_of}
use Rattle.c_tree.proofs.NamedForms.{externals_formed, first_named}
use Rattle.c_tree.proofs.NamedSizes.{size_externals_named}
use Rattle.parse_begun.specs.declared.begun.State as states
use Rattle.parse_begun.specs.View.{Names, state_of}
use Rattle.parse_words.specs.Lexemes.{word_said}
use Rattle.parse_grammar.specs.Begun.{Bytes, State, File}
use Rattle.parse_grammar.specs.Depth.{deep}
use Rattle.parse_grammar.proofs.Nodes.{nodes_unit}
use Rattle.parse_grammar.proofs.SoundSteps.{read_sound}
use Rattle.parse_grammar.specs.Law.{run}
use Rattle.parse_grammar.specs.Machine.{Goes}
use Rattle.c_parser.proofs.Refusals.{take_all}
use Rattle.c_parser.specs.declared.fault.ParseFault.{ParseFault}
use Rattle.c_parser.specs.declared.fault.ParseFault.TheVariants.{Syntax}
use Rattle.c_parser.proofs.Listing.{as_bytes, listed}
use Rattle.c_parser.specs.Led.{Led}
use Rattle.c_parser.specs.Refused.{Stops}

-- the items with their names
abbrev named_row : Names → Row (External ℕ) → Row (External Bytes)
named_row f row = map_row (named_external f) row

pub formed_of : (f : Names) (row : Row (External ℕ)) (tokens : List Spoken) → run tokens ≡ Goes (File (named_row f row)) → EachOf IsFormedExternal row
formed_of f row tokens h = externals_formed f row (read_sound (named_row f row) tokens h).0

pub spelled_of : (f : Names) (row : Row (External ℕ)) (tokens : List Spoken) → run tokens ≡ Goes (File (named_row f row)) → Agree (spell_externals (named_row f row)) tokens
spelled_of f row tokens h = (read_sound (named_row f row) tokens h).1

some_place : (front : Row (External Bytes)) (last : External Bytes) → (at : ℕ) × IsFirstPlace at (Then front last)
some_place Nothing last = (external_place last, refl)
some_place (Then front middle) last = some_place front middle

few : (row : Row (External Bytes)) (tokens : List Spoken) → run tokens ≡ Goes (File row) → (size_row size_external row).nodes ≤ length tokens
few Nothing tokens h = omega arith
few (Then front last) tokens h =
    let at = some_place front last in
    let read = read_sound (Then front last) tokens h in
    let n = nodes_unit (Whole (Then front last) at.0) tokens (at.1, read.0) read.1 in
    omega (arith, n)

pub small_of : (f : Names) (row : Row (External ℕ)) (tokens : List Spoken) → run tokens ≡ Goes (File (named_row f row)) → length tokens ≤ 1048576 → (size_row size_external row).nodes + 1 < 2 ^ 32
small_of f row tokens h k =
    let n = few (named_row f row) tokens h in
    let same = ap (λ s. s.nodes) (size_externals_named f row) in
    omega (arith, n, same, k)

pub shallow_of : (f : Names) (row : Row (External ℕ)) → deep (File (named_row f row)) ≤ 256 → (size_row size_external row).depth + 1 ≤ 256
shallow_of f row h = let same = ap (λ s. s.depth) (size_externals_named f row) in omega (arith, h, same)

-- all tokens lead to a state that no unit ends with
pub at_end : (tokens : List Spoken) (count : ℕ) (state : State) → count ≡ length tokens → run tokens ≡ Goes state → ((items : Row (External Bytes)) → state ≡ File items → items ≡ Nothing) → deep state ≤ 256 → Stops (Syntax count) tokens
at_end tokens count state e h k d = (
  omega (arith, e),
  state,
  ap run (take_all tokens count (omega (arith, e)) (omega (arith, e))) ∙ h,
  λ within. absurd (omega (arith, e, within)),
  λ all items same. k items same,
  d,
)

same_items : (a b : Row (External Bytes)) → ◌≡◌ {A = State} (File a) (File b) → a ≡ b
same_items a b e = cc

pub empty_of : (f : Names) (xs : List externals.External) (tokens : List Spoken) (count : ℕ) → count ≡ length tokens → run tokens ≡ Goes (File (named_row f (row_of external_of Nothing xs))) → xs ≡ [] → deep (File (named_row f (row_of external_of Nothing xs))) ≤ 256 → Stops (Syntax count) tokens
empty_of f xs tokens count e h k d = at_end tokens count (File (named_row f (row_of external_of Nothing xs))) e h (λ items same. sym (same_items (named_row f (row_of external_of Nothing xs)) items same) ∙ ap (λ xs. named_row f (row_of external_of Nothing xs)) k) d

-- what is known of each fault holds of the one that was told
pub each_fault : {A : Type 0} (r : Result A ParseFault) (P Q : ParseFault → Type 0) → ((x : ParseFault) → P x → Q x) → IfErr r P → IfErr r Q
each_fault (Ok a) P Q k h = tt
each_fault (Err x) P Q k h = k x h

-- what a unit of these items with these names is to the tokens
pub record IsMade (unit : units.Unit) (tokens : List Spoken) : Type 0 where
  pub tree : IsTreeOf (named_tree_of unit) tokens
  pub shallow : (size_unit (named_tree_of unit)).depth ≤ 256
  pub few : (size_unit (named_tree_of unit)).nodes ≤ length tokens + 1

made : (unit : units.Unit) (tokens : List Spoken) → run tokens ≡ Goes (File (named_row (name_of unit.names.items) (row_of external_of Nothing unit.items.items))) → deep (File (named_row (name_of unit.names.items) (row_of external_of Nothing unit.items.items))) ≤ 256 → IsFirstPlace unit.at (row_of external_of Nothing unit.items.items) → IsMade unit tokens
made unit tokens h d first =
    let f = name_of unit.names.items in
    let row = row_of external_of Nothing unit.items.items in
    let read = read_sound (named_row f row) tokens h in
    let formed : IsFormedUnit (Whole (named_row f row) unit.at) = (first_named f unit.at row first, read.0) in
    record { tree = (formed, read.1); shallow = d; few = nodes_unit (Whole (named_row f row) unit.at) tokens formed read.1 }

pub made_of : (r : Result units.Unit ParseFault) (items : Vec externals.External Global) (names : Vec texts.Text Global) (tokens : List Spoken) → run tokens ≡ Goes (File (named_row (name_of names.items) (row_of external_of Nothing items.items))) → deep (File (named_row (name_of names.items) (row_of external_of Nothing items.items))) ≤ 256 → IfOk r (λ unit. unit.items ≡ items) → IfOk r (λ unit. unit.names ≡ names) → IfOk r (λ unit. IsFirstPlace unit.at (row_of external_of Nothing items.items)) → IfOk r (λ unit. IsMade unit tokens)
made_of (Err x) items names tokens h d i n first = tt
made_of (Ok unit) items names tokens h d i n first =
    made unit tokens
    (subst (λ v. run tokens ≡ Goes (File (named_row (name_of v.items) (row_of external_of Nothing unit.items.items)))) (sym n) (subst (λ v. run tokens ≡ Goes (File (named_row (name_of names.items) (row_of external_of Nothing v.items)))) (sym i) h))
    (subst (λ v. deep (File (named_row (name_of v.items) (row_of external_of Nothing unit.items.items))) ≤ 256) (sym n) (subst (λ v. deep (File (named_row (name_of names.items) (row_of external_of Nothing v.items))) ≤ 256) (sym i) d))
    (subst (λ v. IsFirstPlace unit.at (row_of external_of Nothing v.items)) (sym i) first)

-- what holds of a unit that was made holds of the answer
pub each_unit : (r : Result units.Unit ParseFault) (P Q : units.Unit → Type 0) → ((unit : units.Unit) → P unit → Q unit) → IfOk r P → IfOk r Q
each_unit (Err x) P Q k h = tt
each_unit (Ok unit) P Q k h = k unit h

-- where the words say what the tokens say, the tokens lead there
pub led_named : (state : states.State) (names : List Bytes) (tokens : List Spoken) → Led state names tokens → run tokens ≡ Goes (state_of (name_of names) state)
led_named state names tokens l = ap run (sym l.said) ∙ l.leads (name_of names)

-- the names in the items behind which words lead stand in their list
pub led_listed : (state : states.State) (names : List Bytes) (tokens : List Spoken) (row : Row (External ℕ)) → Led state names tokens → ((f : Names) → state_of f state ≡ File (named_row f row)) → names ≡ names_of_tokens tokens → (at : ℕ) → AreListed names (Whole row at)
led_listed state names tokens row l e order at =
    let spelled = spelled_of as_bytes row (map (word_said as_bytes) l.words) (l.leads as_bytes ∙ ap Goes (e as_bytes)) in
    listed (name_of names) names row l.words tokens spelled l.numbered l.said order

-- as many words as tokens
pub count_of : (tokens : TokenList) (xs : List Token) → xs ≡ tokens.list → length xs ≡ length (spoken tokens)
count_of tokens xs e = ap length e ∙ sym (length-map tokens.list (λ token. record { said = said tokens.source token; at = token.at }))
