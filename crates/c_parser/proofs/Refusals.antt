-- From where the machine stops to what a fault says, by the laws of the grammar.
use Rattle.std.proofs.Common.{◌≡◌, ℕ, ◌+◌, ◌<◌, ◌≤◌, ◌⊎◌, inl, inr, List, length, take, drop, refl, sym, ◌∙◌, ap, subst, arith, take-append-drop}
use Rattle.std.proofs.Math.Seq.{take-length}
use Rattle.std.proofs.lemmas.Bool.{cases_lt}
use Rattle.c_tree.specs.Size.{size_unit}
use Rattle.c_tree.specs.Spelling.{Spoken, Agree, spell_unit}
use Rattle.c_tree.specs.Tree.{Row, Nothing, Then, External, TranslationUnit, Whole}
use Rattle.parse_grammar.specs.Begun.{Bytes, State, File}
use Rattle.parse_grammar.specs.Machine.{Moved, Goes}
use Rattle.parse_grammar.proofs.Completion.{goes_true}
use Rattle.parse_grammar.proofs.Laws.{deepens_true, stops_true}
use Rattle.parse_grammar.proofs.ReadUnit.{one_unit, read_unit}
use Rattle.parse_grammar.specs.Law.{BeginsWith, DeepensTrue, GoesTrue, ReadsBack, StopsTrue, run}
use Rattle.c_parser.specs.declared.fault.ParseFault.{ParseFault}
use Rattle.c_parser.specs.declared.fault.ParseFault.TheVariants.{Syntax, Deep, Memory}
use Rattle.c_parser.specs.Refused.{IsRefused, Stops}
use Rattle.c_tree.specs.Formed.{IsTreeOf}

pub take_all : (tokens : List Spoken) (n : ℕ) → length tokens ≤ n → n ≤ length tokens → take n tokens ≡ tokens
take_all tokens n h k = let e : n ≡ length tokens = omega arith in ap (λ n. take n tokens) e ∙ take-length tokens

-- a spelling begins with its first tokens
begins_front : (unit : TranslationUnit Bytes) (tokens : List Spoken) (n : ℕ) → IsTreeOf unit tokens → BeginsWith unit (take n tokens)
begins_front unit tokens n s = (drop n tokens, s.0, subst (λ ts. Agree (spell_unit unit) ts) (sym (take-append-drop n tokens)) s.1)

-- the end of a unit lies behind an item
file_ends : ReadsBack → (unit : TranslationUnit Bytes) (tokens : List Spoken) (state : State) → IsTreeOf unit tokens → run tokens ≡ Goes state → ((items : Row (External Bytes)) → state ≡ File items → items ≡ Nothing) → ⊥
file_ends back (Whole Nothing at) tokens state s e h = s.0.0
file_ends back (Whole (Then front last) at) tokens state s e h =
    let same : state ≡ File (Then front last) = same_state state (File (Then front last)) (sym e ∙ back (Then front last) tokens s.0.1 s.1) in
    no_row front last (h (Then front last) same)
  where
    same_state : (a b : State) → ◌≡◌ {A = Moved} (Goes a) (Goes b) → a ≡ b
    same_state a b e = cc

    no_row : (front : Row (External Bytes)) (last : External Bytes) → ◌≡◌ {A = Row (External Bytes)} (Then front last) Nothing → ⊥
    no_row front last e = cc

refused_of : ReadsBack → StopsTrue → GoesTrue → DeepensTrue → (fault : ParseFault) (tokens : List Spoken) → Stops fault tokens → IsRefused fault tokens
refused_of back stops goes deepens Memory tokens h = tt
refused_of back stops goes deepens (Deep token) tokens h =
    (h.0, goes (take (token + 1) tokens) h.1 h.2, λ unit b. let d = deepens (take (token + 1) tokens) h.1 unit h.2 b in omega (arith, d, h.3))
refused_of back stops goes deepens (Syntax token) tokens h = (
  h.0,
  λ unit s. unspelled unit s (cases_lt token (length tokens)),
  goes (take token tokens) h.1 h.2,
  λ within unit b. stops (take (token + 1) tokens) unit (h.3 within) b,
)
  where
    unspelled : (unit : TranslationUnit Bytes) → IsTreeOf unit tokens → (token < length tokens) ⊎ (length tokens ≤ token) → ⊥
    unspelled unit s (inl within) = stops (take (token + 1) tokens) unit (h.3 within) (begins_front unit tokens (token + 1) s)
    unspelled unit s (inr all) = file_ends back unit tokens h.1 s (ap run (sym (take_all tokens token all h.0)) ∙ h.2) (h.4 all)

pub refused : (fault : ParseFault) (tokens : List Spoken) → Stops fault tokens → IsRefused fault tokens
refused = refused_of read_unit stops_true goes_true deepens_true

-- a list that is spelled by a tree of such a depth is refused for want of memory alone
pub only_memory : (fault : ParseFault) (tokens : List Spoken) (unit : TranslationUnit Bytes) → IsRefused fault tokens → IsTreeOf unit tokens → (size_unit unit).depth ≤ 256 → fault ≡ Memory
only_memory Memory tokens unit r s d = refl
only_memory (Syntax token) tokens unit r s d = absurd (r.1 unit s)
only_memory (Deep token) tokens unit r s d = let deep = r.2 unit (begins_front unit tokens (token + 1) s) in absurd (omega (arith, d, deep))

-- there is one such tree
pub one_tree : (s t : TranslationUnit Bytes) (tokens : List Spoken) → IsTreeOf s tokens → IsTreeOf t tokens → s ≡ t
one_tree s t tokens a b = one_unit s t tokens a.0 b.0 a.1 b.1
