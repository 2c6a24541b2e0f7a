-- A flow from a reached address goes on from the entry: so it is a loose flow.
use Rattle.std.proofs.Common.{◌≡◌, ℕ, zero, suc, ℤ, pos, ◌+ℤ◌, ◌*ℤ◌, ◌≤ℤ◌, arith, refl, sym, subst, List, [], ◌∷◌, Contains, All, inl, inr, Bool, true, false}
use Rattle.std.proofs.lemmas.Int.{ints}
use Rattle.std.proofs.lemmas.List.Elements.{All-contains, All-cons, All-nil}
use Rattle.frac128.specs.Terms.{coefficient, when_same}
use Rattle.code_flow_system.specs.declared.claims.LoopClaim.{LoopClaim}
use Rattle.code_flow_system.specs.declared.moves.Move.{Move}
use Rattle.code_flow_system.specs.declared.shapes.LoopShape.{LoopShape}
use Rattle.code_flow_system.specs.declared.shapes.Span.{Span}
use Rattle.code_flow_system.specs.Moves.{destinations}
use Rattle.code_flow_system.specs.Systems.{System}
use Rattle.code_flow_system.specs.Counts.{Amounts, inflow}
use Rattle.code_flow_system.specs.Loose.{moves_elsewhere, most_turns, IsLoose, KeepsTurns}
use Rattle.code_flow_system.specs.Shapes.{IsInLoop, IsLoop, is_back}
use Rattle.path_places.specs.Reached.{ReachedBy}
use Rattle.path_places.specs.PlaceLaws.{IsReachedWhole}
use Rattle.path_places.proofs.HeaderLemmas.{back_of, only, enters}
use Rattle.path_places.proofs.FunctionLemmas.{move_of}
use Rattle.path_ranges.specs.LooseLaws.{LooseTotalsBelow}
use Rattle.path_ranges.proofs.TotalLemmas.{count-total, arrivals-total, elsewhere-total}
use Rattle.path_ranges.proofs.PartLemmas.{left, outer, part_more, IsPart}
use Rattle.path_ranges.proofs.PlaceFlows.{Part, no_turns, before_parts, IsFrom}

all_of : {X : Type 0} (P : X → Type 0) (xs : List X) → ((x : X) → Contains xs x → P x) → All P xs
all_of P [] h = All-nil P
all_of P (x ∷ xs) h = All-cons P x xs (h x (zero, omega arith, refl)) (all_of P xs (λ y i. h y (suc i.0, (let k = i.1 in omega (arith, k)), i.2)))

module _ (s : System) (ls : List LoopShape) (ps : List Span) (whole : IsReachedWhole s ls ps) (price : Move → ℤ) (prices : All (λ m. pos 0 ≤ℤ price m) s.moves) where
  -- a flow from the address is one from the entry
  abbrev Reaches : ℕ → Type 0
  Reaches a = (v : ℤ) → Part s ls ps whole price (a ∷ []) v → Part s ls ps whole price (s.entry ∷ []) v

  -- and so is one from the headers of the loops around it
  abbrev ReachesWith : ℕ → Type 0
  ReachesWith a = Reaches a × ((l : LoopShape) → Contains ls l → IsInLoop l a → Reaches l.header)

  -- a flow before which a move is made
  lead : (m : Move) → Contains s.moves m → is_back ls m.at ≡ false → (d : ℕ) → Contains (destinations m) d → (v : ℤ) → Part s ls ps whole price (d ∷ []) v → Part s ls ps whole price (m.at ∷ []) v
  lead m im free d id v k =
      let p = before_parts s ls ps whole price m im free v (pos 0) (record { amounts = k.amounts; part = part_more s ps whole.system.ascending (destinations m) d k.amounts id k.part; value = k.value }) (no_turns s ls ps whole price m.at (pos 0) (omega (arith, ints))) in
      record { amounts = p.amounts; part = p.part; value = (let e = p.value in let c = All-contains (λ x. pos 0 ≤ℤ price x) s.moves m prices im in omega (arith, ints)) }

  reaches_next : (m : Move) (d : ℕ) → Contains s.moves m → Contains (destinations m) d → ReachesWith m.at → Reaches d
  reaches_next m d im id w = by_back (is_back ls m.at) refl
    where
      by_back : (t : Bool) → is_back ls m.at ≡ t → Reaches d
      by_back false is = λ v k. w.0 v (lead m im is d id v k)
      by_back true is =
          let k = back_of ls m.at is in
          let loop = All-contains (IsLoop s) ls k.0 whole.fits.loops k.1 in
          let goes = All-contains (λ (x : Move). x.at ≡ k.0.back → destinations x ≡ k.0.header ∷ []) s.moves m loop.goes_back im (sym k.2) in
          let e : d ≡ k.0.header = only k.0.header d (subst (λ xs. Contains xs d) goes id) in
          subst (λ a. Reaches a) (sym e) (w.1 k.0 k.1 (subst (λ a. IsInLoop k.0 a) k.2 loop.back))

  reaches_with : (n a : ℕ) → ReachedBy s.moves s.entry n a → ReachesWith a
  reaches_with zero a e = (
    λ v k. subst (λ b. Part s ls ps whole price (b ∷ []) v) e k,
    λ l il h. at_header l (a_header l il (subst (λ b. IsInLoop l b) e h)),
  )
    where
      a_header : (l : LoopShape) → Contains ls l → IsInLoop l s.entry → s.entry ≡ l.header
      a_header l il h = (All-contains (IsLoop s) ls l whole.fits.loops il).entry h

      at_header : (l : LoopShape) → s.entry ≡ l.header → Reaches l.header
      at_header l q v k = subst (λ b. Part s ls ps whole price (b ∷ []) v) (sym q) k
  reaches_with (suc n) a h = next (subst (λ c. ReachesWith c) (sym h.2.2) (reaches_with n h.0 h.1))
    where
      next : ReachesWith h.2.0.at → ReachesWith a
      next w =
          let r = reaches_next h.2.0 a h.2.1 h.2.3 w in (
            r,
            λ l il i. elim (enters s ls ps whole.fits whole.filled h.2.0 a h.2.1 h.2.3 l il i) [
              | inl inside ↦ w.1 l il inside
              | inr e ↦ subst (λ b. Reaches b) e r
            ],
          )

  -- a flow from the entry is a loose flow
  entry_loose : (x : Amounts) → IsPart s ps whole.system.ascending (s.entry ∷ []) x → IsLoose s 1 x
  entry_loose x part = record {
    positive = omega arith;
    kept = λ a. let k = part.kept a in let c = count-total x s.moves a in let r = arrivals-total x s.moves a in omega (arith, ints);
    loops = all_of (KeepsTurns s 1 x) s.claims.loops turns;
  }
    where
      turns : (c : LoopClaim) → Contains s.claims.loops c → KeepsTurns s 1 x c
      turns c i =
          let k = part.loops c i in
          let l = count-total x s.moves c.header in
          let e : ((when_same s.entry c.header (pos 1) +ℤ pos 0) +ℤ outer s ps whole.system.ascending x c) ≡ coefficient (inflow s.entry 1 x (moves_elsewhere c.back s.moves)) c.header = (let o = elsewhere-total x s.moves c.back c.header in omega (arith, ints)) in
          let k' : left s ps whole.system.ascending x c.header ≤ℤ (pos (most_turns c) *ℤ coefficient (inflow s.entry 1 x (moves_elsewhere c.back s.moves)) c.header) = subst (λ (z : ℤ). left s ps whole.system.ascending x c.header ≤ℤ (pos (most_turns c) *ℤ z)) e k in
          omega (arith, ints)

  -- so it is below the bound
  pub flow_below : (bound : ℤ) → pos 0 ≤ℤ bound → LooseTotalsBelow s price bound → (i : ℕ) (v : ℤ) → IsFrom s ls ps whole price i v → v ≤ℤ bound
  flow_below bound pb below i v f = elim f [
    | inl h ↦ omega (arith, ints)
    | inr k ↦
        let m = move_of s.moves k.at k.there in
        let r = whole.reached m.0 m.1 in
        let w = reaches_with r.0 m.0.at r.1 in
        let q = (subst (λ a. Reaches a) m.2 w.0) v k.flow in
        let b = below q.amounts (entry_loose q.amounts q.part) in
        let e = q.value in omega (arith, ints)
  ]
