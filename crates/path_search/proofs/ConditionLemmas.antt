-- Where a header is the jump back of another loop, that loop never turns.
use Rattle.std.proofs.Common.{◌≡◌, ◌≢◌, ℕ, zero, suc, ◌≤◌, arith, refl, sym, ap, ◌∙◌, subst, List, [], ◌∷◌, Contains, inl, inr, ◌⊎◌, Bool, true, false}
use Rattle.std.proofs.lemmas.Bool.Decides.{eqb_tells}
use Rattle.std.proofs.lemmas.List.Elements.{All-contains}
use Rattle.code_flow_system.specs.declared.moves.Move.{Move}
use Rattle.code_flow_system.specs.declared.shapes.LoopShape.{LoopShape}
use Rattle.code_flow_system.specs.declared.shapes.Span.{Span}
use Rattle.code_flow_system.specs.Moves.{destinations}
use Rattle.code_flow_system.specs.Systems.{System, has_moves}
use Rattle.code_flow_system.specs.Shapes.{IsInLoop, AreNested, AreAllNested, EntersAtHeader, IsLoop, Fits}
use Rattle.path_places.specs.Reached.{ReachedBy, AreReached}
use Rattle.path_places.proofs.HeaderLemmas.{only, decide_in}
use Rattle.path_places.proofs.FunctionLemmas.{move_of}
use Rattle.path_search.specs.Conditions.{SharedHeadersNeverTurn}

-- two of the ranges nest
nested_two : (ls : List LoopShape) → AreAllNested ls → (k l : LoopShape) → Contains ls k → Contains ls l → (k ≡ l) ⊎ (AreNested k l ⊎ AreNested l k)
nested_two [] h k l (i, lt, e) il = absurd (omega (arith, lt))
nested_two (x ∷ ls) h k l (zero, lt, e) (zero, lt', e') = inl (sym e ∙ e')
nested_two (x ∷ ls) h k l (zero, lt, e) (suc j, lt', e') = inr (inl (subst (λ (y : LoopShape). AreNested y l) e (All-contains (AreNested x) ls l h.0 (j, omega (arith, lt'), e'))))
nested_two (x ∷ ls) h k l (suc i, lt, e) (zero, lt', e') = inr (inr (subst (λ (y : LoopShape). AreNested y k) e' (All-contains (AreNested x) ls k h.0 (i, omega (arith, lt), e))))
nested_two (x ∷ ls) h k l (suc i, lt, e) (suc j, lt', e') = nested_two ls h.1 k l (i, omega (arith, lt), e) (j, omega (arith, lt'), e')

-- one range lies in the other
abbrev Lies : LoopShape → LoopShape → Type 0
Lies k l = (l.first ≤ k.first) × (k.last ≤ l.last)

meet : (k l : LoopShape) (a : ℕ) → AreNested k l → IsInLoop k a → IsInLoop l a → Lies k l ⊎ Lies l k
meet k l a h i j = let i0 = i.from in let i1 = i.to in let j0 = j.from in let j1 = j.to in elim h [
  | inl f ↦ absurd (omega (arith, f, i1, j0))
  | inr g ↦ elim g [
    | inl f ↦ absurd (omega (arith, f, i0, j1))
    | inr f ↦ f
  ]
]

either : (k l : LoopShape) (a : ℕ) → (k ≡ l) ⊎ (AreNested k l ⊎ AreNested l k) → IsInLoop k a → IsInLoop l a → Lies k l ⊎ Lies l k
either k l a h i j = elim h [
  | inl e ↦ inl (let f = ap (λ (x : LoopShape). x.first) e in let g = ap (λ (x : LoopShape). x.last) e in (omega (arith, f), omega (arith, g)))
  | inr n ↦ elim n [
    | inl f ↦ meet k l a f i j
    | inr f ↦ elim (meet l k a f j i) [ inl x ↦ inr x | inr x ↦ inl x ]
  ]
]

lies_in : (k l : LoopShape) (a : ℕ) → Lies k l → IsInLoop k a → IsInLoop l a
lies_in k l a h i = let h0 = h.0 in let h1 = h.1 in let i0 = i.from in let i1 = i.to in record { from = omega (arith, h0, i0); to = omega (arith, h1, i1) }

module _ (s : System) (ls : List LoopShape) (ps : List Span) (fits : Fits s ls ps) where
  is_loop : (l : LoopShape) → Contains ls l → IsLoop s l
  is_loop l il = All-contains (IsLoop s) ls l fits.loops il

  -- a move arrives in a range from within, or at the header
  enters : (m : Move) (d : ℕ) → Contains s.moves m → Contains (destinations m) d → (l : LoopShape) → Contains ls l → IsInLoop l d → IsInLoop l m.at ⊎ (d ≡ l.header)
  enters m d im id l il h = elim (decide_in l m.at) [
    | inl k ↦ inl k
    | inr k ↦ inr (All-contains (λ a. IsInLoop l a → a ≡ l.header) (destinations m) d (All-contains (EntersAtHeader l) s.moves m (is_loop l il).entered im k) id h)
  ]

  -- a range whose header lies within another loop's range in it, and isn't that loop's header, is never come to
  module _ (inner outer : LoopShape) (ii : Contains ls inner) (io : Contains ls outer) (lies : Lies inner outer) (within : IsInLoop inner outer.header) (other : outer.header ≢ inner.header) where
    never_come : (n a : ℕ) → ReachedBy s.moves s.entry n a → IsInLoop outer a → ⊥
    never_come zero a e h =
        let at : s.entry ≡ outer.header = (is_loop outer io).entry (subst (λ b. IsInLoop outer b) e h) in
        other (sym at ∙ (is_loop inner ii).entry (subst (λ b. IsInLoop inner b) (sym at) within))
    never_come (suc n) a r h = elim (enters r.2.0 a r.2.1 r.2.3 outer io h) [
      | inl k ↦ never_come n r.0 r.1 (subst (λ b. IsInLoop outer b) r.2.2 k)
      | inr e ↦ elim (enters r.2.0 a r.2.1 r.2.3 inner ii (subst (λ b. IsInLoop inner b) (sym e) within)) [
        | inl k ↦ never_come n r.0 r.1 (subst (λ b. IsInLoop outer b) r.2.2 (lies_in inner outer r.2.0.at lies k))
        | inr f ↦ other (sym e ∙ f)
      ]
    ]

  -- k jumps back from the header of l
  module _ (k l : LoopShape) (ik : Contains ls k) (il : Contains ls l) (shared : l.header ≡ k.back) where
    -- and from there to no other address of l's range: of that one the header alone is reached
    stays_at : (IsInLoop l k.header → k.header ≡ l.header) → (n a : ℕ) → ReachedBy s.moves s.entry n a → IsInLoop l a → a ≡ l.header
    stays_at out zero a e h = e ∙ (is_loop l il).entry (subst (λ b. IsInLoop l b) e h)
    stays_at out (suc n) a r h = elim (enters r.2.0 a r.2.1 r.2.3 l il h) [
      | inr e ↦ e
      | inl i ↦
          let at : r.0 ≡ l.header = stays_at out n r.0 r.1 (subst (λ b. IsInLoop l b) r.2.2 i) in
          let goes = All-contains (λ (x : Move). x.at ≡ k.back → destinations x ≡ k.header ∷ []) s.moves r.2.0 (is_loop k ik).goes_back r.2.1 (r.2.2 ∙ (at ∙ shared)) in
          let to : a ≡ k.header = only k.header a (subst (λ xs. Contains xs a) goes r.2.3) in
          to ∙ out (subst (λ b. IsInLoop l b) to h)
    ]

    not_reached : l.back ≢ k.back → (n : ℕ) → ReachedBy s.moves s.entry n l.back → ⊥
    not_reached other n r = elim (decide_in l k.header) [
      | inr out ↦ other (stays_at (λ i. absurd (out i)) n l.back r (is_loop l il).back ∙ shared)
      | inl inside ↦ by_header inside (decide k.header l.header)
    ]
      where
        decide : (a b : ℕ) → (a ≡ b) ⊎ (a ≢ b)
        decide a b = elim (eqb_tells a b) [ inl e ↦ inl e.1 | inr e ↦ inr e.1 ]

        by_header : IsInLoop l k.header → (k.header ≡ l.header) ⊎ (k.header ≢ l.header) → ⊥
        by_header inside (inl same) = other (stays_at (λ i. same) n l.back r (is_loop l il).back ∙ shared)
        by_header inside (inr apart) =
            let here : IsInLoop k l.header = subst (λ b. IsInLoop k b) (sym shared) (is_loop k ik).back in
            elim (either k l l.header (nested_two ls fits.nested k l ik il) here (is_loop l il).header) [
              | inl lies ↦ never_come k l ik il lies here (λ e. apart (sym e)) n l.back r (is_loop l il).back
              | inr lies ↦ never_come l k il ik lies inside apart n l.back r (lies_in l k l.back lies (is_loop l il).back)
            ]

  pub shared_headers : AreReached s → SharedHeadersNeverTurn s ls
  shared_headers reached k l ik il shared other = by_has (has_moves s.moves l.back) refl
    where
      by_has : (t : Bool) → has_moves s.moves l.back ≡ t → has_moves s.moves l.back ≡ false
      by_has false e = e
      by_has true e =
          let m = move_of s.moves l.back e in
          let r = reached m.0 m.1 in
          absurd (not_reached k l ik il shared other r.0 (subst (λ a. ReachedBy s.moves s.entry r.0 a) m.2 r.1))
