-- The ranges of the certificate of the walks at prices that pay for facts.
use Rattle.std.proofs.Common.{◌≡◌, ℕ, ◌+◌, ◌*◌, ◌^◌, ◌≤◌, ◌<◌, ℤ, pos, ◌-ℤ◌, ◌*ℤ◌, ◌≤ℤ◌, arith, List, [], ◌∷◌, ◌++◌, Contains, All, unsigned_abs}
use lib.IntN.{negsuc}
use Rattle.std.proofs.lemmas.Int.{ints}
use Rattle.std.proofs.lemmas.List.Elements.{All-head, All-tail, All-contains, All-cons, All-nil}
use Rattle.frac128.specs.Terms.{coefficient}
use Rattle.rv_core.specs.Table.{Table}
use Rattle.code_flow_system.specs.declared.cert.Cert.{Cert}
use Rattle.code_flow_system.specs.declared.moves.Move.{Move}
use Rattle.code_flow_system.specs.declared.shapes.LoopShape.{LoopShape}
use Rattle.code_flow_system.specs.declared.shapes.Span.{Span}
use Rattle.code_flow_system.specs.Moves.{destinations}
use Rattle.code_flow_system.specs.MoveCosts.{move_cost}
use Rattle.code_flow_system.specs.Systems.{System}
use Rattle.code_flow_system.specs.Certificates.{Limit, never_limits, loop_limits, fact_limits, limits, held, size_by, row_size, scaled_price, potential, whole_part, IsNarrow, IsSmall}
use Rattle.loop_ranges.specs.Near.{IsUpTo}
use Rattle.path_places.specs.Duals.{values_of, potentials_of, never_multipliers, loop_multipliers, dual_of}
use Rattle.path_places.proofs.PotentialLemmas.{all_of}
use Rattle.path_ranges.specs.Bounded.{IsBounded}
use Rattle.path_ranges.specs.Ranges.{IsEnough}
use Rattle.path_sizes.specs.DualRanges.{IsNarrowDual}
use Rattle.path_sizes.proofs.ClaimSizes.{size-append, held_size}
use Rattle.path_sizes.proofs.RowSizes.{sizes}
use Rattle.path_sizes.proofs.FineSizes.{loose_most, duals_narrow}
use Rattle.path_cert.specs.Ranges.{HasRanges}
use Rattle.path_cert.specs.Best.{best_worth}
use Rattle.path_cert.specs.Priced.{fact_price, fact_size, fact_prices, fact_certificate}
use Rattle.path_cert.specs.BestLaws.{SizesCoverPrices, FactsHaveRanges}

pub sizes_cover_prices : (t : Table) (s : System) → SizesCoverPrices t s
sizes_cover_prices t s scale ys = all_of (λ m. IsUpTo (fact_price t s scale ys m) (fact_size t s scale ys m)) s.moves (λ m im.
    within (held (fact_limits s.claims.facts ys) m.at) (move_cost t s m * scale) (size_by (λ l. l.by *ℤ coefficient l.terms m.at) (fact_limits s.claims.facts ys)) (held_size (fact_limits s.claims.facts ys) m.at))
  where
    within : (z : ℤ) (c k : ℕ) → unsigned_abs z ≤ k → IsUpTo (pos c -ℤ z) (pos (c + k))
    within (pos z) c k h = (omega (arith, ints), omega (arith, ints))
    within (negsuc z) c k h = (omega (arith, ints), omega (arith, ints))

all_map : {X : Type 0} (P Q : X → Type 0) (xs : List X) → ((x : X) → P x → Q x) → All P xs → All Q xs
all_map P Q [] f h = All-nil Q
all_map P Q (x ∷ xs) f h = All-cons Q x xs (f x (All-head P x xs h)) (all_map P Q xs f (All-tail P x xs h))

module _ (t : Table) (s : System) (ls : List LoopShape) (ps : List Span) (scale : ℕ) (ys : List ℤ) (low most : ℤ) (starts size : ℕ) (b : IsBounded s ls ps (fact_prices t s scale ys low) (fact_size t s scale ys) most starts)
    (enough : IsEnough s (fact_prices t s scale ys low) most starts (pos size)) (fits : 3 * size < 2 ^ 120) where
  abbrev cert : Cert
  cert = fact_certificate t s ls ps scale ys low

  abbrev term : ℕ → Limit → ℤ
  term a l = l.by *ℤ coefficient l.terms a

  abbrev nl : List Limit
  nl = never_limits s.claims.nevers (never_multipliers s (fact_price t s scale ys) (values_of s ls ps (fact_prices t s scale ys low)))

  abbrev ll : List Limit
  ll = loop_limits s.claims.loops (loop_multipliers s (fact_price t s scale ys) (values_of s ls ps (fact_prices t s scale ys low)))

  abbrev fl : List Limit
  fl = fact_limits s.claims.facts ys

  small : size < 2 ^ 124
  small = omega (arith, fits)

  narrow : IsNarrowDual s (fact_price t s scale ys) (values_of s ls ps (fact_prices t s scale ys low)) size
  narrow = duals_narrow s ls ps (fact_prices t s scale ys low) (fact_size t s scale ys) most starts size b enough small

  -- the cost and the facts' terms come to no more than the size
  price_small : (m : Move) → Contains s.moves m → move_cost t s m * scale + size_by (term m.at) fl ≤ size
  price_small m im =
      let l = loose_most s ls ps (fact_prices t s scale ys low) (fact_size t s scale ys) most starts size b enough small m im in
      let z = (sizes s ls ps (fact_prices t s scale ys low) (fact_size t s scale ys) most starts size b enough small).2 in
      later (move_cost t s m * scale + size_by (term m.at) fl) size most l z
    where
      later : (a b : ℕ) (y : ℤ) → pos a ≤ℤ y → y ≤ℤ pos b → a ≤ b
      later a b y h k = omega (arith, ints)

  row_narrow : (m : Move) → Contains s.moves m → IsNarrow (row_size (scaled_price t s (fact_certificate t s ls ps scale ys low)) (potential (fact_certificate t s ls ps scale ys low)) (limits s.claims (fact_certificate t s ls ps scale ys low)) m)
  row_narrow m im =
      let r = All-contains (λ m. row_size (fact_price t s scale ys) (coefficient (potentials_of s.moves (values_of s ls ps (fact_prices t s scale ys low)).worths s.moves)) (dual_of s (fact_price t s scale ys) (values_of s ls ps (fact_prices t s scale ys low))).limits m ≤ 32 * size) s.moves m narrow.rows im in
      let p = price_small m im in
      let a = size-append (term m.at) nl (ll ++ fl) in
      let c = size-append (term m.at) ll fl in
      let d = size-append (term m.at) nl ll in
      added (unsigned_abs (fact_price t s scale ys m)) (move_cost t s m * scale) (unsigned_abs (potential (fact_certificate t s ls ps scale ys low) m.at)) (size_by (potential (fact_certificate t s ls ps scale ys low)) (destinations m))
      (size_by (term m.at) nl) (size_by (term m.at) ll) (size_by (term m.at) fl) (size_by (term m.at) (nl ++ ll)) (size_by (term m.at) (ll ++ fl)) (size_by (term m.at) (nl ++ (ll ++ fl))) r p a c d
    where
      added : (q c v w n l f nl lf nlf : ℕ) → q + v + w + nl ≤ 32 * size → c + f ≤ size → nlf ≡ n + lf → lf ≡ l + f → nl ≡ n + l → c + v + w + nlf < 2 ^ 126
      added q c v w n l f nl lf nlf r p a d e = omega (arith, fits, r, p, a, d, e)

  pub ranges : whole_part (best_worth s ls ps (fact_prices t s scale ys low)) scale < 2 ^ 63 → HasRanges t s (fact_certificate t s ls ps scale ys low)
  ranges cycles = record {
    cycles = cycles;
    potentials = all_map (λ u. unsigned_abs u.1 ≤ size) (λ u. IsSmall u.1) (potentials_of s.moves (values_of s ls ps (fact_prices t s scale ys low)).worths s.moves) (λ u h. omega (arith, fits, h)) narrow.potentials;
    nevers = all_map (λ w. unsigned_abs w ≤ 3 * size) IsSmall (never_multipliers s (fact_price t s scale ys) (values_of s ls ps (fact_prices t s scale ys low))) (λ w h. omega (arith, fits, h)) narrow.nevers;
    loops = all_map (λ w. (unsigned_abs w.0 ≤ size) × (unsigned_abs w.1 ≤ 3 * size)) (λ w. IsSmall w.0 × IsSmall w.1) (loop_multipliers s (fact_price t s scale ys) (values_of s ls ps (fact_prices t s scale ys low)))
        (λ w h. let h0 = h.0 in let h1 = h.1 in (omega (arith, fits, h0), omega (arith, fits, h1))) narrow.loops;
    rows = all_of (λ m. IsNarrow (row_size (scaled_price t s (fact_certificate t s ls ps scale ys low)) (potential (fact_certificate t s ls ps scale ys low)) (limits s.claims (fact_certificate t s ls ps scale ys low)) m)) s.moves row_narrow;
  }

pub facts_ranged : (t : Table) (s : System) (ls : List LoopShape) (ps : List Span) → FactsHaveRanges t s ls ps
facts_ranged t s ls ps scale ys low most starts size b enough fits cycles = ranges t s ls ps scale ys low most starts size b enough fits cycles
