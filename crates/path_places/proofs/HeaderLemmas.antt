-- In its function a loop's header is the first reached address of its range.
use Rattle.std.proofs.Common.{◌≡◌, ℕ, zero, suc, ◌≤◌, ◌<◌, arith, refl, sym, ap, ◌∙◌, subst, List, [], ◌∷◌, ◌++◌, Contains, All, inl, inr, ◌⊎◌, Bool, true, false, Option, Some, None}
use Rattle.std.specs.Prelude.{◌==◌, ◌||◌, ◌&&◌, nat_le}
use Rattle.std.specs.Option.{option_to_list}
use Rattle.std.proofs.lemmas.Bool.Decides.{nat_tests, eqb_tells}
use Rattle.std.proofs.lemmas.List.Elements.{All-contains}
use Rattle.code_flow_system.specs.declared.moves.Move.{Move}
use Rattle.code_flow_system.specs.declared.shapes.LoopShape.{LoopShape}
use Rattle.code_flow_system.specs.declared.shapes.Span.{Span}
use Rattle.code_flow_system.specs.Moves.{destinations}
use Rattle.code_flow_system.specs.Systems.{System}
use Rattle.code_flow_system.specs.Shapes.{IsInLoop, EntersAtHeader, IsLoop, onward_by, onward, is_back, GoesUp, IsInOne, StaysIn, CallsEarlier, Fits}
use Rattle.path_places.specs.Reached.{ReachedBy, AreFilled, rank}
use Rattle.path_places.proofs.RankLemmas.{rank_stays, rank_earlier}

-- the address is in an earlier span than the header, or in the header's and not before it
abbrev pub IsBehind : List Span → LoopShape → ℕ → Type 0
IsBehind ps l a = (rank ps a < rank ps l.header) ⊎ ((rank ps a ≡ rank ps l.header) × (l.header ≤ a))

abbrev pub BehindAll : List LoopShape → List Span → ℕ → Type 0
BehindAll ls ps a = (l : LoopShape) → Contains ls l → IsInLoop l a → IsBehind ps l a

-- and so are the headers of the loops around it
abbrev WithHeaders : List LoopShape → List Span → ℕ → Type 0
WithHeaders ls ps a = BehindAll ls ps a × ((k : LoopShape) → Contains ls k → IsInLoop k a → BehindAll ls ps k.header)

-- where a move arrives: on, or at the target of a call
pub arrives : (to back : Option ℕ) (d : ℕ) → Contains (option_to_list to ++ option_to_list back) d → Contains (onward_by to back) d ⊎ ((to ≡ Some d) × (b : ℕ) × (back ≡ Some b))
arrives None None d h = inl h
arrives (Some t) None d h = inl h
arrives None (Some b) d h = inl h
arrives (Some t) (Some b) d (zero, lt, e) = inr (ap Some e, b, refl)
arrives (Some t) (Some b) d (suc k, lt, e) = inl (k, omega (arith, lt), e)

-- the loop whose jump back it is
pub back_of : (ls : List LoopShape) (a : ℕ) → is_back ls a ≡ true → (k : LoopShape) × Contains ls k × (k.back ≡ a)
back_of [] a h = cc
back_of (l ∷ ls) a h = elim (eqb_tells l.back a) [
  | inl e ↦ (l, (zero, omega arith, refl), e.1)
  | inr e ↦ later (back_of ls a (rest (l.back == a) e.0 h))
]
  where
    rest : (t : Bool) → t ≡ false → t || is_back ls a ≡ true → is_back ls a ≡ true
    rest true e h = cc
    rest false e h = h

    later : ((k : LoopShape) × Contains ls k × (k.back ≡ a)) → (k : LoopShape) × Contains (l ∷ ls) k × (k.back ≡ a)
    later r = (r.0, (suc r.1.0, omega (arith, r.1.1), r.1.2), r.2)

pub only : (x d : ℕ) → Contains (x ∷ []) d → d ≡ x
only x d (zero, lt, e) = sym e
only x d (suc k, lt, e) = absurd (omega (arith, lt))

pub decide_in : (l : LoopShape) (a : ℕ) → IsInLoop l a ⊎ (IsInLoop l a → ⊥)
decide_in l a = by_test (nat_le l.first a && nat_le a l.last) refl
  where
    by_test : (t : Bool) → (nat_le l.first a && nat_le a l.last) ≡ t → IsInLoop l a ⊎ (IsInLoop l a → ⊥)
    by_test true e = inl (record { from = grind (arith, nat_tests); to = grind (arith, nat_tests) })
    by_test false e = inr (λ h. let f = h.from in let t = h.to in absurd (grind (arith, nat_tests)))

module _ (s : System) (ls : List LoopShape) (ps : List Span) (fits : Fits s ls ps) (full : AreFilled ps) where
  pub enters : (m : Move) (d : ℕ) → Contains s.moves m → Contains (destinations m) d → (l : LoopShape) → Contains ls l → IsInLoop l d → IsInLoop l m.at ⊎ (d ≡ l.header)
  enters m d im id l il h = elim (decide_in l m.at) [
    | inl k ↦ inl k
    | inr k ↦
        let loop = All-contains (IsLoop s) ls l fits.loops il in
        let e = All-contains (EntersAtHeader l) s.moves m loop.entered im in
        inr (All-contains (λ a. IsInLoop l a → a ≡ l.header) (destinations m) d (e k) id h)
  ]

  at_header : (l : LoopShape) (d : ℕ) → d ≡ l.header → IsBehind ps l d
  at_header l d e = inr (ap (rank ps) e, omega (arith, e))

  goes_behind : (m : Move) (d : ℕ) → Contains s.moves m → Contains (destinations m) d → WithHeaders ls ps m.at → BehindAll ls ps d
  goes_behind m d im id w l il h = elim (enters m d im id l il h) [
    | inr e ↦ at_header l d e
    | inl inside ↦ by_back (is_back ls m.at) refl inside
  ]
    where
      on_from : (rank ps d ≡ rank ps m.at) → m.at < d → IsBehind ps l m.at → IsBehind ps l d
      on_from e lt b = elim b [ inl k ↦ inl (omega (arith, e, k)) | inr k ↦ let k0 = k.0 in let k1 = k.1 in inr (e ∙ k0, omega (arith, lt, k1)) ]

      call_from : rank ps d < rank ps m.at → IsBehind ps l m.at → IsBehind ps l d
      call_from lt b = inl (elim b [ inl k ↦ omega (arith, lt, k) | inr k ↦ let k0 = k.0 in omega (arith, lt, k0) ])

      by_back : (t : Bool) → is_back ls m.at ≡ t → IsInLoop l m.at → IsBehind ps l d
      by_back true is inside =
          let k = back_of ls m.at is in
          let loop = All-contains (IsLoop s) ls k.0 fits.loops k.1 in
          let goes = All-contains (λ (x : Move). x.at ≡ k.0.back → destinations x ≡ k.0.header ∷ []) s.moves m loop.goes_back im (sym k.2) in
          let e : d ≡ k.0.header = only k.0.header d (subst (λ xs. Contains xs d) goes id) in
          let b : IsInLoop k.0 m.at = subst (λ a. IsInLoop k.0 a) k.2 loop.back in
          subst (λ a. IsBehind ps l a) (sym e) (w.1 k.0 k.1 b l il (subst (λ a. IsInLoop l a) e h))
      by_back false is inside = elim (arrives m.to m.behind d id) [
        | inl on ↦
            let up = All-contains (GoesUp ls) s.moves m fits.up im is in
            on_from (rank_stays ps m d fits.apart (All-contains (λ (x : Move). IsInOne ps x.at) s.moves m fits.covered im) (All-contains (λ (x : Move). All (StaysIn x) ps) s.moves m fits.stays im) on)
            (All-contains (λ a. m.at < a) (onward m) d up on) (w.0 l il inside)
        | inr call ↦
            call_from (rank_earlier ps d m.at full fits.apart (All-contains (CallsEarlier ps) s.moves m fits.calls im d call.1 call.0 call.2)) (w.0 l il inside)
      ]

  goes_with : (m : Move) (d : ℕ) → Contains s.moves m → Contains (destinations m) d → WithHeaders ls ps m.at → WithHeaders ls ps d
  goes_with m d im id w =
      let b = goes_behind m d im id w in
      (b, λ k ik h. elim (enters m d im id k ik h) [ inl inside ↦ w.1 k ik inside | inr e ↦ subst (λ a. BehindAll ls ps a) e b ])

  at_entry : WithHeaders ls ps s.entry
  at_entry =
      let b : BehindAll ls ps s.entry = λ l il h. at_header l s.entry ((All-contains (IsLoop s) ls l fits.loops il).entry h) in
      (b, λ k ik h. subst (λ a. BehindAll ls ps a) ((All-contains (IsLoop s) ls k fits.loops ik).entry h) b)

  reached_with : (n a : ℕ) → ReachedBy s.moves s.entry n a → WithHeaders ls ps a
  reached_with zero a e = subst (λ b. WithHeaders ls ps b) (sym e) at_entry
  reached_with (suc n) a h = goes_with h.2.0 a h.2.1 h.2.3 (subst (λ c. WithHeaders ls ps c) (sym h.2.2) (reached_with n h.0 h.1))

  -- a reached address of a loop's range is in an earlier function than its header, or not before it
  pub reached_behind : (n a : ℕ) → ReachedBy s.moves s.entry n a → BehindAll ls ps a
  reached_behind n a r = (reached_with n a r).0
