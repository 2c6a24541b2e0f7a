-- What walks at narrow multipliers find can be added up by a checker, and is the certificate of the definitions.
use Rattle.std.proofs.Common.{◌≡◌, ℕ, zero, suc, ◌+◌, ◌*◌, ◌≤◌, ◌<◌, ◌^◌, ℤ, pos, neg_ℤ, ◌*ℤ◌, ◌≤ℤ◌, ◌<ℤ◌, arith, refl, sym, ap, ◌∙◌, subst, List, [], ◌∷◌, ◌++◌, length, Contains, All, unsigned_abs}
use Rattle.std.specs.Prelude.{Some, None, if◌then◌else◌}
use Rattle.std.specs.Int.RustNames.{int_lt}
use Rattle.std.proofs.Math.ListN.{replicate, length-replicate}
use Rattle.std.proofs.Math.IntN.{zero-*ℤ}
use Rattle.std.proofs.lemmas.Int.{ints}
use Rattle.std.proofs.lemmas.List.Elements.{All-head, All-tail, All-cons, All-nil, All-contains, All-weaker}
use Rattle.frac128.specs.Terms.{Terms, coefficient}
use Rattle.rv_core.specs.Table.{Table}
use Rattle.code_flow_system.specs.declared.claims.Never.{Never}
use Rattle.code_flow_system.specs.declared.moves.Move.{Move}
use Rattle.code_flow_system.specs.declared.shapes.LoopShape.{LoopShape}
use Rattle.code_flow_system.specs.declared.shapes.Span.{Span}
use Rattle.code_flow_system.specs.Claims.{Claims}
use Rattle.code_flow_system.specs.Moves.{destinations}
use Rattle.code_flow_system.specs.MoveCosts.{move_cost}
use Rattle.code_flow_system.specs.Systems.{System}
use Rattle.code_flow_system.specs.Certificates.{Limit, never_limits, loop_limits, fact_limits, limits, size_by, row_size, scaled_price, potential, whole_part, IsNarrow, IsSmall, IsPart}
use Rattle.loop_walks.specs.declared.step.Pair.{Pair}
use Rattle.loop_walks.specs.Levels.{Level, level_of}
use Rattle.path_places.specs.PlaceLaws.{IsReachedWhole}
use Rattle.path_places.specs.Duals.{Values, values_of, potentials_of, both_of, final_level, final_pairs}
use Rattle.path_places.proofs.PotentialLemmas.{all_of}
use Rattle.path_sizes.specs.DualRanges.{IsNarrowDual}
use Rattle.path_sizes.proofs.ClaimSizes.{size-append}
use Rattle.path_sizes.proofs.RowSizes.{sizes}
use Rattle.path_sizes.proofs.FineSizes.{loose_most, duals_narrow}
use Rattle.path_cert.specs.Certificates.{entry_worth}
use Rattle.path_cert.proofs.PartLemmas.{potentials_ascend}
use Rattle.path_walks.specs.declared.walks.Settled.{Settled}
use Rattle.path_values.specs.Laws.{AreNarrow as AreNarrowRows}
use Rattle.path_places.proofs.LongLemmas.{worths_long}
use Rattle.path_cert.specs.Priced.{fact_price, fact_size, fact_prices, fact_most, fact_low}
use Rattle.path_cert.specs.Facts.{fact_numbers}
use Rattle.path_cert.proofs.FactLemmas.{facts_bounded}
use Rattle.path_fact_walks.specs.Plain.{values_in, plain_with, cert_by, AreAddable}
use Rattle.path_fact_walks.specs.Sizes.{AreMultiplied}
use Rattle.path_conditions.specs.Walking.{IsSearchable}
use Rattle.path_fact_columns.specs.Conditions.{AreNarrow}
use Rattle.path_fact_columns.specs.Answers.{worth_at, certificate_at}
use Rattle.path_fact_columns.proofs.WalkLemmas.{numbers_narrow, whole_below}

nothing_sized : (cs : List Never) (n a : ℕ) → size_by (λ (l : Limit). l.by *ℤ coefficient l.terms a) (never_limits cs (replicate n (pos 0))) ≡ 0
nothing_sized [] n a = refl
nothing_sized (c ∷ cs) zero a = refl
nothing_sized (c ∷ cs) (suc n) a = let r = nothing_sized cs n a in let z = ap unsigned_abs (zero-*ℤ (coefficient ((c.at, pos 1) ∷ []) a)) in omega (arith, r, z)

plain_sized : (claims : Claims) (scale : ℕ) (ys : List ℤ) (ts : Terms) (ps : List Pair) (a : ℕ) → size_by (λ (l : Limit). l.by *ℤ coefficient l.terms a) (limits claims (plain_with claims scale ys ts ps)) ≡ size_by (λ (l : Limit). l.by *ℤ coefficient l.terms a) (loop_limits claims.loops (both_of ps)) + size_by (λ (l : Limit). l.by *ℤ coefficient l.terms a) (fact_limits claims.facts ys)
plain_sized claims scale ys ts ps a =
    let x = size-append (λ (l : Limit). l.by *ℤ coefficient l.terms a) (never_limits claims.nevers (replicate (length claims.nevers) (pos 0))) (loop_limits claims.loops (both_of ps) ++ fact_limits claims.facts ys) in
    let y = size-append (λ (l : Limit). l.by *ℤ coefficient l.terms a) (loop_limits claims.loops (both_of ps)) (fact_limits claims.facts ys) in
    let n = nothing_sized claims.nevers (length claims.nevers) a in
    omega (arith, x, y, n)

zeros_small : (n : ℕ) → All IsSmall (replicate n (pos 0))
zeros_small zero = All-nil IsSmall
zeros_small (suc n) = All-cons IsSmall (pos 0) (replicate n (pos 0)) (omega arith) (zeros_small n)

both_long : (ps : List Pair) → length (both_of ps) ≡ length ps
both_long [] = refl
both_long (p ∷ ps) = ap suc (both_long ps)

both_small : (ps : List Pair) → All (λ p. IsSmall p.least × IsSmall p.most) ps → All (λ w. IsSmall w.0 × IsSmall w.1) (both_of ps)
both_small [] h = All-nil (λ w. IsSmall w.0 × IsSmall w.1)
both_small (p ∷ ps) h = All-cons (λ w. IsSmall w.0 × IsSmall w.1) (p.least, p.most) (both_of ps) (All-head (λ p. IsSmall p.least × IsSmall p.most) p ps h) (both_small ps (All-tail (λ p. IsSmall p.least × IsSmall p.most) p ps h))

module _ (t : Table) (s : System) (scale : ℕ) (ys : List ℤ) (x : Values) (size : ℕ) (n : IsNarrowDual s (fact_price t s scale ys) x size) (fits : 3 * size < 2 ^ 120)
    (price_small : (m : Move) → Contains s.moves m → move_cost t s m * scale + size_by (λ (l : Limit). l.by *ℤ coefficient l.terms m.at) (fact_limits s.claims.facts ys) ≤ size) where
  row : (m : Move) → Contains s.moves m → IsNarrow (row_size (scaled_price t s (plain_with s.claims scale ys (potentials_of s.moves x.worths s.moves) x.pairs)) (potential (plain_with s.claims scale ys (potentials_of s.moves x.worths s.moves) x.pairs)) (limits s.claims (plain_with s.claims scale ys (potentials_of s.moves x.worths s.moves) x.pairs)) m)
  row m im =
      let r = All-contains (λ m. row_size (fact_price t s scale ys) (coefficient (potentials_of s.moves x.worths s.moves)) (loop_limits s.claims.loops (both_of x.pairs)) m ≤ 32 * size) s.moves m n.plain im in
      let p = price_small m im in
      let e = plain_sized s.claims scale ys (potentials_of s.moves x.worths s.moves) x.pairs m.at in
      added (unsigned_abs (fact_price t s scale ys m)) (move_cost t s m * scale) (unsigned_abs (coefficient (potentials_of s.moves x.worths s.moves) m.at)) (size_by (coefficient (potentials_of s.moves x.worths s.moves)) (destinations m))
      (size_by (λ (l : Limit). l.by *ℤ coefficient l.terms m.at) (loop_limits s.claims.loops (both_of x.pairs))) (size_by (λ (l : Limit). l.by *ℤ coefficient l.terms m.at) (fact_limits s.claims.facts ys))
      (size_by (λ (l : Limit). l.by *ℤ coefficient l.terms m.at) (limits s.claims (plain_with s.claims scale ys (potentials_of s.moves x.worths s.moves) x.pairs))) r p e
    where
      added : (q c v w l f a : ℕ) → q + v + w + l ≤ 32 * size → c + f ≤ size → a ≡ l + f → c + v + w + a < 2 ^ 126
      added q c v w l f a r p e = omega (arith, fits, r, p, e)

  rows : AreNarrowRows t s (plain_with s.claims scale ys (potentials_of s.moves x.worths s.moves) x.pairs)
  rows = all_of (λ m. IsNarrow (row_size (scaled_price t s (plain_with s.claims scale ys (potentials_of s.moves x.worths s.moves) x.pairs)) (potential (plain_with s.claims scale ys (potentials_of s.moves x.worths s.moves) x.pairs)) (limits s.claims (plain_with s.claims scale ys (potentials_of s.moves x.worths s.moves) x.pairs)) m)) s.moves row

  pairs_small : All (λ p. IsSmall p.least × IsSmall p.most) x.pairs
  pairs_small = All-weaker (λ p. (unsigned_abs p.least ≤ size) × (unsigned_abs p.most ≤ size)) (λ p. IsSmall p.least × IsSmall p.most) (λ p h. let a = h.0 in let b = h.1 in (omega (arith, fits, a), omega (arith, fits, b))) x.pairs n.pairs

  pub addable : (ls : List LoopShape) (ps : List Span) → IsReachedWhole s ls ps → 0 < scale → scale ≤ 2 ^ 48 → length ys ≡ length s.claims.facts → All IsSmall ys → length s.moves < length x.worths → whole_part (entry_worth s x) scale < 2 ^ 63 → AreAddable t s scale ys x
  addable ls ps whole some few count small long cycles = record {
    system = whole.system;
    scaled = some;
    long = long;
    form = record {
      nevers = length-replicate (length s.claims.nevers) (pos 0);
      loops = both_long x.pairs ∙ n.long;
      facts = count;
      cycles = omega arith;
      scale = (some, few);
      ascending = potentials_ascend s.moves x.worths s.moves whole.system.ascending;
      potentials = All-weaker (λ u. unsigned_abs u.1 ≤ size) (λ u. IsSmall u.1) (λ u h. omega (arith, fits, h)) (potentials_of s.moves x.worths s.moves) n.potentials;
      small_nevers = zeros_small (length s.claims.nevers);
      small_loops = both_small x.pairs pairs_small;
      small_facts = small;
      parts = All-nil IsPart;
      parts_ascend = tt;
      unit = (refl, refl);
    };
    narrow = rows;
    pairs = n.long;
    small = All-weaker (λ p. IsSmall p.least × IsSmall p.most) (λ p. IsSmall p.most) (λ p h. h.1) x.pairs pairs_small;
    cycles = cycles;
  }

small_one : (u n : ℕ) → u * (n + 1) ≤ 2 ^ 44 → u ≤ 2 ^ 44
small_one u n h = let e : u * (n + 1) ≡ u * n + u = omega arith in omega (arith, e, h)

low_negative : (k : ℕ) → neg_ℤ (pos k) ≤ℤ pos 0
low_negative k = omega (arith, ints)

module _ (t : Table) (s : System) (ls : List LoopShape) (ps : List Span) (is : IsSearchable t s ls ps) (scale : ℕ) (ys : List ℤ) (ok : AreNarrow s scale ys) (some : 0 < scale) where
  size_small : fact_numbers (length s.claims.loops) (fact_most scale ys) < 2 ^ 124
  size_small = let f = numbers_narrow t s ls ps is scale ys ok in omega (arith, f)

  -- the cost and the facts' terms come to no more than the size
  price_small : (m : Move) → Contains s.moves m → move_cost t s m * scale + size_by (λ (l : Limit). l.by *ℤ coefficient l.terms m.at) (fact_limits s.claims.facts ys) ≤ fact_numbers (length s.claims.loops) (fact_most scale ys)
  price_small m im =
      let b = facts_bounded t s ls ps is.limited scale ys in
      let l = loose_most s ls ps (fact_prices t s scale ys (fact_low scale ys)) (fact_size t s scale ys) (pos (fact_most scale ys)) (2 ^ 32) (fact_numbers (length s.claims.loops) (fact_most scale ys)) b.bounded b.enough size_small m im in
      let z = (sizes s ls ps (fact_prices t s scale ys (fact_low scale ys)) (fact_size t s scale ys) (pos (fact_most scale ys)) (2 ^ 32) (fact_numbers (length s.claims.loops) (fact_most scale ys)) b.bounded b.enough size_small).2 in
      later (move_cost t s m * scale + size_by (λ (l : Limit). l.by *ℤ coefficient l.terms m.at) (fact_limits s.claims.facts ys)) (fact_numbers (length s.claims.loops) (fact_most scale ys)) (pos (fact_most scale ys)) l z
    where
      later : (a b : ℕ) (y : ℤ) → pos a ≤ℤ y → y ≤ℤ pos b → a ≤ b
      later a b y h k = omega (arith, ints)

  pub are_multiplied : AreMultiplied s scale ys
  are_multiplied = record {
    scaled = small_one scale (length s.claims.loops) ok.scaled;
    count = ok.count;
    few = is.few;
    small = All-weaker (λ u. unsigned_abs u * (length s.claims.loops + 1) ≤ 2 ^ 44) (λ u. unsigned_abs u ≤ 2 ^ 44) (λ u h. small_one (unsigned_abs u) (length s.claims.loops) h) ys ok.facts;
  }

  -- what walks found
  module _ (r : Settled) (level : level_of r.worths r.weights ≡ final_level s ls ps (fact_prices t s scale ys (fact_low scale ys))) (pairs : r.pairs ≡ final_pairs s ls ps (fact_prices t s scale ys (fact_low scale ys))) where
    pub found_values : values_in r ≡ values_of s ls ps (fact_prices t s scale ys (fact_low scale ys))
    found_values =
        ap (λ (ws : List ℤ). both ws r.pairs) (ap (λ (v : Level). v.worths) level)
        ∙ ap (λ (xs : List Pair). both (final_level s ls ps (fact_prices t s scale ys (fact_low scale ys))).worths xs) pairs
      where
        both : List ℤ → List Pair → Values
        both ws xs = record { worths = ws; pairs = xs }

    pub found_long : length s.moves < length r.worths
    found_long = subst (λ (v : Values). length s.moves < length v.worths) (sym found_values) (worths_long s ls ps is.limited.limited.whole (fact_prices t s scale ys (fact_low scale ys)) (low_negative (4 * fact_most scale ys)))

    pub found_worth : entry_worth s (values_in r) ≡ worth_at t s ls ps scale ys
    found_worth = ap (entry_worth s) found_values

    pub found_addable : worth_at t s ls ps scale ys <ℤ pos (scale * 2 ^ 60) → AreAddable t s scale ys (values_in r)
    found_addable below =
        let b = facts_bounded t s ls ps is.limited scale ys in
        let n = duals_narrow s ls ps (fact_prices t s scale ys (fact_low scale ys)) (fact_size t s scale ys) (pos (fact_most scale ys)) (2 ^ 32) (fact_numbers (length s.claims.loops) (fact_most scale ys)) b.bounded b.enough size_small in
        subst (AreAddable t s scale ys) (sym found_values)
        (addable t s scale ys (values_of s ls ps (fact_prices t s scale ys (fact_low scale ys))) (fact_numbers (length s.claims.loops) (fact_most scale ys)) n (numbers_narrow t s ls ps is scale ys ok) price_small ls ps is.limited.limited.whole some
        (let w = small_one scale (length s.claims.loops) ok.scaled in omega (arith, w))
        ok.count
        (All-weaker (λ u. unsigned_abs u * (length s.claims.loops + 1) ≤ 2 ^ 44) IsSmall (λ u h. let w = small_one (unsigned_abs u) (length s.claims.loops) h in omega (arith, w)) ys ok.facts)
        (worths_long s ls ps is.limited.limited.whole (fact_prices t s scale ys (fact_low scale ys)) (low_negative (4 * fact_most scale ys)))
        (whole_below (worth_at t s ls ps scale ys) scale some below))

    -- the certificate, if its bound is below 2^60
    pub found_certificate : (z : ℤ) → z ≡ worth_at t s ls ps scale ys →
        (if int_lt z (pos (scale * 2 ^ 60)) then Some (cert_by s (fact_price t s scale ys) scale ys (values_in r)) else None) ≡ certificate_at t s ls ps scale ys
    found_certificate z e =
        ap (λ (y : ℤ). if int_lt y (pos (scale * 2 ^ 60)) then Some (cert_by s (fact_price t s scale ys) scale ys (values_in r)) else None) e
        ∙ ap (λ (v : Values). if int_lt (worth_at t s ls ps scale ys) (pos (scale * 2 ^ 60)) then Some (cert_by s (fact_price t s scale ys) scale ys v) else None) found_values
