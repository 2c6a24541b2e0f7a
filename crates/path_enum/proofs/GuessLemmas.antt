-- Guessed multipliers can be asked at, and what the second search keeps of the answers.
use Rattle.std.proofs.Common.{◌≡◌, ℕ, ◌+◌, ◌*◌, ◌≤◌, ◌^◌, ℤ, pos, ◌≤ℤ◌, arith, refl, sym, ◌∙◌, subst, List, [], ◌∷◌, ◌++◌, length, All, inl, inr, ◌⊎◌, Bool, true, false, cond, Option, Some, None, unsigned_abs}
use Rattle.std.specs.Prelude.{nat_lt, IfSome}
use Rattle.std.proofs.lemmas.Int.{ints}
use Rattle.std.proofs.lemmas.List.Elements.{All-append}
use Rattle.rv_core.specs.Table.{Table}
use Rattle.wcc_base.specs.declared.compare.Compare.{Compare}
use Rattle.code_flow_system.specs.declared.cert.Cert.{Cert}
use Rattle.code_flow_system.specs.declared.shapes.LoopShape.{LoopShape}
use Rattle.code_flow_system.specs.declared.shapes.Span.{Span}
use Rattle.code_flow_system.specs.Systems.{System}
use Rattle.code_flow_system.specs.Certificates.{fact_limits, IsSigned}
use Rattle.simplex_rounds.specs.declared.pricing.Multipliers.{Multipliers}
use Rattle.simplex_laws.specs.RoundLaws.{HaveSigns}
use Rattle.path_fact_kinds.specs.Columns.{ops_of}
use Rattle.path_fact_columns.specs.Conditions.{AreNarrow}
use Rattle.path_fact_columns.specs.Answers.{certificate_at}
use Rattle.path_fact_columns.specs.Adding.{AreAsked}
use Rattle.path_fact_columns.proofs.ScaledLemmas.{limits_signed}
use Rattle.path_cutting_planes.specs.Guesses.{IsGuess}
use Rattle.path_enum.specs.declared.asking.Answered.{Answered}
use Rattle.path_enum.specs.declared.guessing.Guesses.{Guesses}
use Rattle.path_enum.specs.declared.guessing.Walked.{Walked}
use Rattle.path_enum.specs.declared.guessing.Walked.TheVariants as walks
use Rattle.path_enum.specs.Marks.{answered, lesser, least_of}
use Rattle.path_enum.specs.Steps.{IsBound, IsAnswered, IsBegun, IsNoLess}
use Rattle.path_enum.specs.Guessing.{AreGuesses, IsWalked}
use Rattle.path_enum.proofs.NextLemmas.{ops_long}
use Rattle.path_enum.proofs.LeastLemmas.{least_first, still_no_less, all_no_less, own_no_less, one_all}

-- ---- bounds

module _ (t : Table) (s : System) where
  lesser_bound : (a b : Cert) → IsBound t s a → IsBound t s b → IsBound t s (lesser a b)
  lesser_bound a b h k = by_test (nat_lt b.cycles a.cycles)
    where
      by_test : (q : Bool) → IsBound t s (cond q b a)
      by_test true = k
      by_test false = h

  least_bound : (a : Cert) (o : Option Cert) → IsBound t s a → IfSome o (IsBound t s) → IsBound t s (least_of a o)
  least_bound a None h k = h
  least_bound a (Some b) h k = lesser_bound a b h k

-- ---- guesses

module _ (t : Table) (s : System) (ls : List LoopShape) (ps : List Span) (os : List Compare) (os_is : os ≡ ops_of s.claims.facts) where
  pub guess_narrow : (n : ℕ) (y : Multipliers) → n ≡ length s.claims.loops + 1 → IsGuess os n y → AreNarrow s y.scale y.facts
  guess_narrow n y e g = record {
    count = g.count ∙ ops_long s.claims.facts os os_is;
    scaled = subst (λ k. y.scale * k ≤ 2 ^ 44) e g.scaled;
    facts = subst (λ k. All (λ z. unsigned_abs z * k ≤ 2 ^ 44) y.facts) e g.facts;
  }

  pub guess_signs : (n : ℕ) (y : Multipliers) → IsGuess os n y → All IsSigned (fact_limits s.claims.facts y.facts)
  guess_signs n y g = limits_signed s.claims.facts y.facts (subst (λ xs. HaveSigns xs y.facts) os_is g.signs)

  pub guess_asked : (n : ℕ) (y : Multipliers) (a : Answered) → n ≡ length s.claims.loops + 1 → IsGuess os n y → IsAnswered t s ls ps y a → AreAsked t s ls ps a.multipliers
  guess_asked n y a e g h = subst (AreAsked t s ls ps) (sym h.multipliers) (record {
    scale = g.some;
    narrow = guess_narrow n y e g;
    worth = subst (λ (z : ℤ). pos 0 ≤ℤ z) h.worth h.positive;
  })

-- ---- answers

module _ (t : Table) (s : System) (ls : List LoopShape) (ps : List Span) where
  pub first_kept : (g : Guesses) (y : Multipliers) (c : Cert) → AreAsked t s ls ps y → IsBound t s c → IsNoLess t s ls ps c y → g.asked.items ≡ y ∷ [] → g.least ≡ c → AreGuesses t s ls ps g
  first_kept g y c h b n e l = record {
    asked = subst (All (AreAsked t s ls ps)) (sym e) (one_all t s ls ps (AreAsked t s ls ps) y h);
    least = subst (IsBound t s) (sym l) b;
    none_less = subst (All (IsNoLess t s ls ps g.least)) (sym e) (one_all t s ls ps (IsNoLess t s ls ps g.least) y (subst (λ (d : Cert). IsNoLess t s ls ps d y) (sym l) n));
  }

  pub more_kept : (g h : Guesses) (y : Multipliers) (o : Option Cert) → AreGuesses t s ls ps g → AreAsked t s ls ps y → IfSome o (IsBound t s) → o ≡ certificate_at t s ls ps y.scale y.facts → h.asked.items ≡ g.asked.items ++ y ∷ [] → h.least ≡ least_of g.least o → AreGuesses t s ls ps h × (h.least.cycles ≤ g.least.cycles)
  more_kept g h y o kept asked bound own e l =
      let less : h.least.cycles ≤ g.least.cycles = subst (λ (d : Cert). d.cycles ≤ g.least.cycles) (sym l) (least_first g.least o) in (
        record {
          asked = subst (All (AreAsked t s ls ps)) (sym e) (All-append (AreAsked t s ls ps) g.asked.items (y ∷ []) kept.asked (one_all t s ls ps (AreAsked t s ls ps) y asked));
          least = subst (IsBound t s) (sym l) (least_bound t s g.least o kept.least bound);
          none_less = subst (All (IsNoLess t s ls ps h.least)) (sym e) (All-append (IsNoLess t s ls ps h.least) g.asked.items (y ∷ []) (all_no_less t s ls ps g.least h.least g.asked.items less kept.none_less) (one_all t s ls ps (IsNoLess t s ls ps h.least) y (subst (λ (d : Cert). IsNoLess t s ls ps d y) (sym l) (own_no_less t s ls ps g.least o y own))));
        },
        less,
      )

  pub answer_kept : (g h : Guesses) (a : Answered) → AreGuesses t s ls ps g → AreAsked t s ls ps a.multipliers → IsAnswered t s ls ps a.multipliers a → h.asked.items ≡ g.asked.items ++ a.multipliers ∷ [] → h.least ≡ least_of g.least a.cert → AreGuesses t s ls ps h × (h.least.cycles ≤ g.least.cycles)
  answer_kept g h a kept asked is e l = more_kept g h a.multipliers a.cert kept asked is.bound is.cert e l

  pub either_kept : (n : ℕ) (g : Guesses) (w : Walked) → AreGuesses t s ls ps g × (g.least.cycles ≤ n) → (w ≡ walks.Goes g) ⊎ (w ≡ walks.Stays g) → IsWalked t s ls ps n w
  either_kept n g w h (inl e) = subst (IsWalked t s ls ps n) (sym e) h
  either_kept n g w h (inr e) = subst (IsWalked t s ls ps n) (sym e) h

  -- fewer cycles at the end of a round are no more than at its beginning
  pub walked_less : (m n : ℕ) (w : Walked) → m ≤ n → IsWalked t s ls ps m w → IsWalked t s ls ps n w
  walked_less m n (walks.Empty c) lt h = h
  walked_less m n (walks.Greatest c) lt h = h
  walked_less m n (walks.Goes g) lt h = (h.0, let k = h.1 in omega (arith, k, lt))
  walked_less m n (walks.Stays g) lt h = (h.0, let k = h.1 in omega (arith, k, lt))

  pub begun_kept : (a : Answered) (c : Cert) (g : Guesses) → IsBegun t s ls ps a → a.cert ≡ Some c → g.asked.items ≡ a.multipliers ∷ [] → g.least ≡ c → AreGuesses t s ls ps g
  begun_kept a c g h e asked least =
      let same : h.bound.0 ≡ c = some_same (sym h.bound.1 ∙ e) in
      first_kept g a.multipliers c h.asked (subst (IsBound t s) same h.bound.2) (subst (λ (d : Cert). IsNoLess t s ls ps d a.multipliers) same h.bound.4) asked least
    where
      some_same : {x y : Cert} → Some x ≡ Some y → x ≡ y
      some_same e = cc

  -- with a lesser bound the first search begins as before
  pub begun_less : (a : Answered) (c d : Cert) → IsBegun t s ls ps a → a.cert ≡ Some c → IsBound t s d → d.cycles ≤ c.cycles → IsBegun t s ls ps (answered d a.column a.multipliers)
  begun_less a c d h e bound lt =
      let same : h.bound.0 ≡ c = some_same (sym h.bound.1 ∙ e) in
      let less : d.cycles ≤ h.bound.0.cycles = subst (λ (x : Cert). d.cycles ≤ x.cycles) (sym same) lt in
      let most = h.bound.3 in record {
        best = h.best;
        asked = h.asked;
        column = h.column;
        each = h.each;
        bound = (d, refl, bound, (let p : pos d.cycles ≤ℤ pos h.bound.0.cycles = omega (arith, ints, less) in omega (arith, ints)), still_no_less t s ls ps h.bound.0 d a.multipliers less h.bound.4);
      }
    where
      some_same : {x y : Cert} → Some x ≡ Some y → x ≡ y
      some_same e = cc
