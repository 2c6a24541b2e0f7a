-- Tokens are refused at one token and for one cause.
use Rattle.std.proofs.Common.{◌≡◌, ◌≢◌, ℕ, ◌+◌, ◌-◌, ◌<◌, ◌≤◌, inl, inr, List, [], ◌∷◌, take, drop, refl, sym, ap, subst, ◌∙◌, arith}
use Rattle.std.proofs.Math.Seq.{take-add}
use Rattle.std.proofs.lemmas.Bool.{cases_lt}
use Rattle.c_tree.specs.Spelling.{Spoken}
use Rattle.c_tree.specs.Tree.{Nothing}
use Rattle.parse_grammar.specs.Begun.{State, File}
use Rattle.parse_grammar.specs.Depth.{deep}
use Rattle.parse_grammar.specs.Law.{run}
use Rattle.parse_grammar.specs.Machine.{Moved, Goes, Stuck, after_all}
use Rattle.parse_grammar.proofs.Grows.{Grows, run_grows}
use Rattle.parse_grammar.proofs.Laws.{after_all-append}
use Rattle.c_parser.specs.declared.fault.ParseFault.{ParseFault}
use Rattle.c_parser.specs.declared.fault.ParseFault.TheVariants.{Syntax, Deep, Memory}
use Rattle.c_parser.specs.Refused.{Stops}

-- behind more tokens
abbrev Later : Moved → Moved → Type 0
Later before after = (rest : List Spoken) × (after ≡ after_all before rest)

later : (tokens : List Spoken) (m n : ℕ) → m ≤ n → Later (run (take m tokens)) (run (take n tokens))
later tokens m n le =
    let rest = take (n - m) (drop m tokens) in
    let size : n ≡ m + (n - m) = omega (arith, le) in
    (rest, ap (λ n. run (take n tokens)) size ∙ ap run (take-add m (n - m) tokens) ∙ after_all-append (Goes (File Nothing)) (take m tokens) rest)

-- where the machine is stuck, more tokens lead nowhere
stuck_stays : (tokens : List Spoken) (m n : ℕ) (state : State) → m ≤ n → run (take m tokens) ≡ Stuck → run (take n tokens) ≡ Goes state → ⊥
stuck_stays tokens m n state le stuck goes =
    let more = later tokens m n le in
    nowhere more.0 (ap (λ moved. after_all moved more.0) (sym stuck) ∙ sym more.1 ∙ goes)
  where
    nowhere : (rest : List Spoken) → after_all Stuck rest ≡ Goes state → ⊥
    nowhere [] e = cc
    nowhere (token ∷ rest) e = cc

-- what is too deep stays so
deep_stays : (tokens : List Spoken) (m n : ℕ) (before state : State) → m ≤ n → run (take m tokens) ≡ Goes before → run (take n tokens) ≡ Goes state → deep before ≤ deep state
deep_stays tokens m n before state le first second =
    let more = later tokens m n le in
    subst (λ moved. Grows (deep before) moved) (ap (λ moved. after_all moved more.0) (sym first) ∙ sym more.1 ∙ second) (run_grows more.0 (deep before) (Goes before) (omega arith))

syntax_once : (token other : ℕ) (tokens : List Spoken) → Stops (Syntax token) tokens → Stops (Syntax other) tokens → token < other → ⊥
syntax_once token other tokens h k lt = stuck_stays tokens (token + 1) other k.1 (omega (arith, lt)) (h.3 (omega (arith, lt, k.0))) k.2

deep_once : (token other : ℕ) (tokens : List Spoken) → Stops (Deep token) tokens → Stops (Deep other) tokens → token < other → ⊥
deep_once token other tokens h k lt =
    let grown = deep_stays tokens (token + 1) other h.1 k.4 (omega (arith, lt)) h.2 k.5 in
    absurd (omega (arith, grown, h.3, k.6))

either_once : (token other : ℕ) (tokens : List Spoken) → Stops (Syntax token) tokens → Stops (Deep other) tokens → ⊥
either_once token other tokens h k = elim (cases_lt other token) [
  | inl lt ↦ (let grown = deep_stays tokens (other + 1) token k.1 h.1 (omega (arith, lt)) k.2 h.2 in absurd (omega (arith, grown, h.5, k.3)))
  | inr le ↦ stuck_stays tokens (token + 1) (other + 1) k.1 (omega (arith, le)) (h.3 (omega (arith, le, k.0))) k.2
]

one_place : (m n : ℕ) → (m < n → ⊥) → (n < m → ⊥) → m ≡ n
one_place m n h k = elim (cases_lt m n) [
  | inl lt ↦ absurd (h lt)
  | inr le ↦ elim (cases_lt n m) [ inl lt ↦ absurd (k lt) | inr ge ↦ omega (arith, le, ge) ]
]

pub one_stop : (fault other : ParseFault) (tokens : List Spoken) → Stops fault tokens → Stops other tokens → fault ≢ Memory → other ≢ Memory → fault ≡ other
one_stop (Syntax token) (Syntax other) tokens h k m n = ap Syntax (one_place token other (syntax_once token other tokens h k) (syntax_once other token tokens k h))
one_stop (Deep token) (Deep other) tokens h k m n = ap Deep (one_place token other (deep_once token other tokens h k) (deep_once other token tokens k h))
one_stop (Syntax token) (Deep other) tokens h k m n = absurd (either_once token other tokens h k)
one_stop (Deep token) (Syntax other) tokens h k m n = absurd (either_once other token tokens k h)
one_stop Memory other tokens h k m n = absurd (m refl)
one_stop fault Memory tokens h k m n = absurd (n refl)
