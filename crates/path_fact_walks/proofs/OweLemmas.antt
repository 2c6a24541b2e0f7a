-- What is left beside a certificate with multiplied facts is what is left of the prices with them.
use Rattle.std.proofs.Common.{rules, ◌≡◌, ℕ, zero, suc, ◌^◌, ◌<◌, ℤ, pos, ◌+ℤ◌, ◌*ℤ◌, arith, refl, ap, ◌∙◌, List, [], ◌∷◌, ◌++◌, length, All, Option, Some, None, Bool, true, false}
use Rattle.std.specs.Prelude.{◌==◌, nat_le, MatchOption, if◌then◌else◌}
use Rattle.std.specs.Option.{IsSome}
use Rattle.std.proofs.Math.ListN.{replicate}
use Rattle.std.proofs.Math.IntN.{zero-*ℤ}
use Rattle.std.proofs.lemmas.Bool.Decides.{nat_tests}
use Rattle.std.proofs.lemmas.Int.{ints}
use Rattle.std.proofs.lemmas.List.Elements.{All-head, All-tail}
use Rattle.frac128.specs.Terms.{Terms, coefficient}
use Rattle.frac128.proofs.TermsLemmas.{int_sum_by-append}
use Rattle.rv_core.specs.Table.{Table}
use Rattle.code_flow_lookup.specs.Runs.{those_at}
use Rattle.code_flow_system.specs.declared.cert.Cert.{Cert}
use Rattle.code_flow_system.specs.declared.claims.Never.{Never}
use Rattle.code_flow_system.specs.declared.moves.Move.{Move}
use Rattle.code_flow_system.specs.Claims.{Claims}
use Rattle.code_flow_system.specs.Systems.{System, IsSystem}
use Rattle.code_flow_system.specs.Certificates.{Limit, never_limits, loop_limits, fact_limits, limits, held, row_size, potential, scaled_price, whole_part, IsNarrow}
use Rattle.loop_walks.specs.declared.step.Pair.{Pair}
use Rattle.loop_walks.specs.Walks.{larger}
use Rattle.path_places.specs.Duals.{Values, owed, most_owed, both_of, potentials_of, owe_of, never_multipliers, loop_multipliers}
use Rattle.path_cert.specs.Certificates.{entry_worth}
use Rattle.path_places.proofs.PotentialLemmas.{potential_at}
use Rattle.path_values.specs.Owed.{owed_by, larger_of, most_by, owe_at, nevers_by, loops_by}
use Rattle.path_values.specs.Laws.{AreNarrow}
use Rattle.path_values.proofs.ValueLemmas.{nevers_are, loops_are}
use Rattle.path_walks.specs.declared.walks.Settled.{Settled}
use Rattle.path_cert.specs.Priced.{fact_price}
use Rattle.path_fact_walks.specs.Plain.{plain_with, cert_by, AreAddable}

nothing_held : (cs : List Never) (n : ℕ) (a : ℕ) → held (never_limits cs (replicate n (pos 0))) a ≡ pos 0
nothing_held [] n a = refl
nothing_held (c ∷ cs) zero a = refl
nothing_held (c ∷ cs) (suc n) a = let r = nothing_held cs n a in let z = zero-*ℤ (coefficient ((c.at, pos 1) ∷ []) a) in omega (arith, ints)

plain_holds : (claims : Claims) (scale : ℕ) (ys : List ℤ) (ts : Terms) (ps : List Pair) (a : ℕ) → held (limits claims (plain_with claims scale ys ts ps)) a ≡ held (loop_limits claims.loops (both_of ps)) a +ℤ held (fact_limits claims.facts ys) a
plain_holds claims scale ys ts ps a =
    let f : Limit → ℤ = λ l. l.by *ℤ coefficient l.terms a in
    let x = int_sum_by-append f (never_limits claims.nevers (replicate (length claims.nevers) (pos 0))) (loop_limits claims.loops (both_of ps) ++ fact_limits claims.facts ys) in
    let y = int_sum_by-append f (loop_limits claims.loops (both_of ps)) (fact_limits claims.facts ys) in
    let n = nothing_held claims.nevers (length claims.nevers) a in
    omega (arith, ints)

module _ (price price' : Move → ℤ) (p : ℕ → ℤ) (ls ls' : List Limit) (same : (m : Move) → owed price p ls m ≡ owed price' p ls' m) where
  -- where no row is wide
  most_same : (ms : List Move) (a : ℕ) → All (λ m. IsNarrow (row_size price p ls m)) ms → most_by price p ls (those_at (λ (m : Move). m.at) a ms) ≡ Some (most_owed price' p ls' ms a)
  most_same [] a n = refl
  most_same (m ∷ ms) a n = by_test (m.at == a) (most_same ms a (All-tail (λ k. IsNarrow (row_size price p ls k)) m ms n))
    where
      here : owed_by price p ls m ≡ Some (owed price' p ls' m)
      here = ap (λ (t : Bool). if t then None else Some (owed price p ls m)) (narrow (2 ^ 126) (row_size price p ls m) (All-head (λ k. IsNarrow (row_size price p ls k)) m ms n)) ∙ ap Some (same m)
        where
          narrow : (w size : ℕ) → size < w → nat_le w size ≡ false
          narrow w size h = grind (arith, nat_tests)

      by_test : (t : Bool) → most_by price p ls (those_at (λ (k : Move). k.at) a ms) ≡ Some (most_owed price' p ls' ms a) →
          most_by price p ls (if t then m ∷ those_at (λ (k : Move). k.at) a ms else those_at (λ (k : Move). k.at) a ms) ≡ Some (if t then larger (owed price' p ls' m) (most_owed price' p ls' ms a) else most_owed price' p ls' ms a)
      by_test true r = ap (λ (o : Option ℤ). larger_of o (most_by price p ls (those_at (λ (k : Move). k.at) a ms))) here ∙ ap (larger_of (Some (owed price' p ls' m))) r
      by_test false r = r

module _ (t : Table) (s : System) (scale : ℕ) (ys : List ℤ) (x : Values) where
  abbrev plain : Cert
  plain = plain_with s.claims scale ys (potentials_of s.moves x.worths s.moves) x.pairs

  pub owe_is : AreNarrow t s plain → (a : ℕ) → owe_at t s plain a ≡ Some (owe_of s (fact_price t s scale ys) x a)
  owe_is narrow a = most_same (scaled_price t s plain) (fact_price t s scale ys) (potential plain) (limits s.claims plain) (loop_limits s.claims.loops (both_of x.pairs)) same s.moves a narrow
    where
      same : (m : Move) → owed (scaled_price t s plain) (potential plain) (limits s.claims plain) m ≡ owed (fact_price t s scale ys) (potential plain) (loop_limits s.claims.loops (both_of x.pairs)) m
      same m = let h = plain_holds s.claims scale ys (potentials_of s.moves x.worths s.moves) x.pairs m.at in omega (arith, ints)

  pub nevers_found : (c : Cert) → AreAddable t s scale ys x → c ≡ plain → nevers_by (owe_at t s c) s.claims.nevers ≡ Some (never_multipliers s (fact_price t s scale ys) x)
  nevers_found c able is = ap (λ (y : Cert). nevers_by (owe_at t s y) s.claims.nevers) is ∙ nevers_are (owe_at t s plain) (owe_of s (fact_price t s scale ys) x) (owe_is able.narrow) s.claims.nevers

  pub loops_found : (c : Cert) (ps : List Pair) → AreAddable t s scale ys x → c ≡ plain → ps ≡ x.pairs → loops_by (owe_at t s c) s.claims.loops ps ≡ Some (loop_multipliers s (fact_price t s scale ys) x)
  loops_found c ps able is e = ap (λ (y : Cert). loops_by (owe_at t s y) s.claims.loops ps) is ∙ (ap (λ (y : List Pair). loops_by (owe_at t s plain) s.claims.loops y) e ∙ loops_are (owe_at t s plain) (owe_of s (fact_price t s scale ys) x) (owe_is able.narrow) s.claims.loops x.pairs)

-- the certificate of what walks found, by its parts
pub plain_is : (s : System) (r : Settled) (scale : ℕ) (ys : List ℤ) (c : Cert) (ts : Terms) (ms : List Move) (ws : List ℤ) (ps : List Pair) → c ≡ plain_with s.claims scale ys ts ps → ts ≡ potentials_of ms ws ms → ms ≡ s.moves → ws ≡ r.worths → ps ≡ r.pairs → c ≡ plain_with s.claims scale ys (potentials_of s.moves r.worths s.moves) r.pairs
plain_is s r scale ys c ts ms ws ps e f g h k =
    e ∙ (ap (λ (y : Terms). plain_with s.claims scale ys y ps) (f ∙ (ap (λ (y : List Move). potentials_of y ws y) g ∙ ap (λ (y : List ℤ). potentials_of s.moves y s.moves) h)) ∙ ap (λ (y : List Pair). plain_with s.claims scale ys (potentials_of s.moves r.worths s.moves) y) k)

-- answers that are there

pub some_of : {V X : Type 0} (o : Option V) (items : V → List X) (got : Option (List X)) (xs : List X) → got ≡ Some xs → MatchOption o (got ≡ None) (λ v. got ≡ Some (items v)) → IsSome o
some_of None items got xs e h = cc
some_of (Some v) items got xs e h = search rules

pub items_of : {V X : Type 0} (o : Option V) (items : V → List X) (got : Option (List X)) (xs : List X) (v : V) → got ≡ Some xs → MatchOption o (got ≡ None) (λ v. got ≡ Some (items v)) → o ≡ Some v → items v ≡ xs
items_of None items got xs v e h f = cc
items_of (Some w) items got xs v e h f = cc

-- a certificate with another bound and other multipliers
abbrev pub with_all : Cert → ℕ → List ℤ → List (ℤ × ℤ) → Cert
with_all c n ns us = record {
  cycles = n;
  mark = c.mark;
  scale = c.scale;
  potentials = c.potentials;
  nevers = ns;
  loops = us;
  facts = c.facts;
  flow = c.flow;
}

module _ (s : System) (price : Move → ℤ) (scale : ℕ) (ys : List ℤ) (x : Values) where
  abbrev plain_one : Cert
  plain_one = plain_with s.claims scale ys (potentials_of s.moves x.worths s.moves) x.pairs

  pub cert_is : (c : Cert) (n : ℕ) (ns : List ℤ) (us : List (ℤ × ℤ)) → c ≡ plain_one → n ≡ whole_part (entry_worth s x) scale → ns ≡ never_multipliers s price x → us ≡ loop_multipliers s price x → with_all c n ns us ≡ cert_by s price scale ys x
  cert_is c n ns us e k f g =
      ap (λ (y : Cert). with_all y n ns us) e
      ∙ (ap (λ m. with_all plain_one m ns us) k
      ∙ (ap (λ (y : List ℤ). with_all plain_one (whole_part (entry_worth s x) scale) y us) f
      ∙ ap (λ (y : List (ℤ × ℤ)). with_all plain_one (whole_part (entry_worth s x) scale) (never_multipliers s price x) y) g))

  pub worth_found : IsSystem s → (c : Cert) → c ≡ plain_one → (z : ℤ) → z ≡ coefficient c.potentials s.entry → z ≡ entry_worth s x
  worth_found system c e z h = h ∙ (ap (λ (y : Cert). coefficient y.potentials s.entry) e ∙ potential_at s system x.worths s.entry system.entry)
