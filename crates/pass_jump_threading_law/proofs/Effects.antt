-- What an instruction does depends on no trace.
use Rattle.std.proofs.Common.{◌≡◌, ℕ, ◌+◌, Bool, true, false, List, [], ◌∷◌, Option, Some, None, refl, sym, ap, ◌∙◌}
use Rattle.std.specs.Prelude.{◌%◌, ◌^◌, slice_index_or}
use Rattle.low_ir.specs.Code.{Base, Fixed, Through, Address, Plain, Set, Operate, Point, Load, Store, Put, Get}
use Rattle.low_ir.specs.declared.run.Began.{Began}
use Rattle.low_ir.specs.declared.run.Value.{Value}
use Rattle.low_ir.specs.declared.run.Value.TheVariants.{Word, Pointer}
use Rattle.low_ir.specs.Effects.{Contents, World, Did, effect, effect_of, from_base, by_offset, resolved, nothing_more, only_if, is_member, gives, changes, there, loaded, stored, with_objects}

-- a world with another trace
abbrev pub traced : World → List Began → World
traced u t = record { objects = u.objects; input = u.input; output = u.output; trace = t }

module _ (t : List Began) where
  abbrev pub did_traced : Option Did → Option Did
  did_traced None = None
  did_traced (Some d) = Some (record { world = traced d.world t; value = d.value })

  only_if_traced : (b : Bool) (x y : Option Did) → y ≡ did_traced x → only_if b y ≡ did_traced (only_if b x)
  only_if_traced false x y e = refl
  only_if_traced true x y e = e

  nothing_traced : (xs : List Value) (x y : Option Did) → y ≡ did_traced x → nothing_more xs y ≡ did_traced (nothing_more xs x)
  nothing_traced [] x y e = e
  nothing_traced (z ∷ xs) x y e = refl

  offset_traced : (offset : Option ℕ) (xs : List Value) (go go2 : ℕ → Option Did) → ((w : ℕ) → go2 w ≡ did_traced (go w)) → by_offset offset xs go2 ≡ did_traced (by_offset offset xs go)
  offset_traced None xs go go2 e = nothing_traced xs (go 0) (go2 0) (e 0)
  offset_traced (Some r) [] go go2 e = refl
  offset_traced (Some r) (Word w ∷ xs) go go2 e = nothing_traced xs (go w) (go2 w) (e w)
  offset_traced (Some r) (Pointer o n ∷ xs) go go2 e = nothing_traced xs None None refl

  base_traced : (claims : List (List ℕ)) (base : Base ℕ) (xs : List Value) (go go2 : ℕ → ℕ → List Value → Option Did) → ((o n : ℕ) (rest : List Value) → go2 o n rest ≡ did_traced (go o n rest)) → from_base claims base xs go2 ≡ did_traced (from_base claims base xs go)
  base_traced claims (Fixed o) xs go go2 e = e o 0 xs
  base_traced claims (Through r claim) [] go go2 e = refl
  base_traced claims (Through r claim) (Word w ∷ xs) go go2 e = refl
  base_traced claims (Through r claim) (Pointer o n ∷ xs) go go2 e = only_if_traced (is_member (slice_index_or claims claim []) o) (go o n xs) (go2 o n xs) (e o n xs)

  resolved_traced : (claims : List (List ℕ)) (a : Address ℕ) (xs : List Value) (go go2 : ℕ → ℕ → Option Did) → ((o n : ℕ) → go2 o n ≡ did_traced (go o n)) → resolved claims a xs go2 ≡ did_traced (resolved claims a xs go)
  resolved_traced claims a xs go go2 e =
      base_traced claims a.base xs (λ o n rest. by_offset a.offset rest (λ w. go o ((n + w + a.displacement) % 2 ^ 32))) (λ o n rest. by_offset a.offset rest (λ w. go2 o ((n + w + a.displacement) % 2 ^ 32)))
      (λ o n rest. offset_traced a.offset rest (λ w. go o ((n + w + a.displacement) % 2 ^ 32)) (λ w. go2 o ((n + w + a.displacement) % 2 ^ 32)) (λ w. e o ((n + w + a.displacement) % 2 ^ 32)))

  load_traced : (u : World) (o : Option ℕ) → there o (λ w. gives (traced u t) (Word w)) ≡ did_traced (there o (λ w. gives u (Word w)))
  load_traced u None = refl
  load_traced u (Some w) = refl

  store_traced : (u : World) (o : Option (List Contents)) → there o (λ objects. changes (with_objects (traced u t) objects)) ≡ did_traced (there o (λ objects. changes (with_objects u objects)))
  store_traced u None = refl
  store_traced u (Some objects) = refl

  effect_traced : (claims : List (List ℕ)) (i : Plain ℕ) (xs : List Value) (u : World) → effect claims i xs (traced u t) ≡ did_traced (effect claims i xs u)
  effect_traced claims (Set d x) [] u = refl
  effect_traced claims (Set d x) (v ∷ []) u = refl
  effect_traced claims (Set d x) (v ∷ (w ∷ xs)) u = refl
  effect_traced claims (Operate operator d x y) [] u = refl
  effect_traced claims (Operate operator d x y) (Word m ∷ []) u = refl
  effect_traced claims (Operate operator d x y) (Pointer o n ∷ []) u = refl
  effect_traced claims (Operate operator d x y) (Word m ∷ (Word n ∷ [])) u = refl
  effect_traced claims (Operate operator d x y) (Word m ∷ (Pointer o n ∷ [])) u = refl
  effect_traced claims (Operate operator d x y) (Pointer o n ∷ (v ∷ [])) u = refl
  effect_traced claims (Operate operator d x y) (v ∷ (w ∷ (z ∷ xs))) u = refl
  effect_traced claims (Point d a) xs u = resolved_traced claims a xs (λ o n. gives u (Pointer o n)) (λ o n. gives (traced u t) (Pointer o n)) (λ o n. refl)
  effect_traced claims (Load kind d a) xs u =
      resolved_traced claims a xs (λ o n. there (loaded u.objects kind o n) (λ w. gives u (Word w))) (λ o n. there (loaded u.objects kind o n) (λ w. gives (traced u t) (Word w)))
      (λ o n. load_traced u (loaded u.objects kind o n))
  effect_traced claims (Store kind a x) [] u = refl
  effect_traced claims (Store kind a x) (Word w ∷ xs) u =
      resolved_traced claims a xs (λ o n. there (stored u.objects kind o n w) (λ objects. changes (with_objects u objects)))
      (λ o n. there (stored u.objects kind o n w) (λ objects. changes (with_objects (traced u t) objects)))
      (λ o n. store_traced u (stored u.objects kind o n w))
  effect_traced claims (Store kind a x) (Pointer o n ∷ xs) u = refl
  effect_traced claims (Put x) [] u = refl
  effect_traced claims (Put x) (Word w ∷ []) u = refl
  effect_traced claims (Put x) (Pointer o n ∷ []) u = refl
  effect_traced claims (Put x) (v ∷ (w ∷ xs)) u = refl
  effect_traced claims (Get d) xs u = refl

  pub effects_traced : (claims : List (List ℕ)) (i : Plain ℕ) (os : Option (List Value)) (u : World) → effect_of claims i os (traced u t) ≡ did_traced (effect_of claims i os u)
  effects_traced claims i None u = refl
  effects_traced claims i (Some xs) u = effect_traced claims i xs u

some_did : (d e : Did) → Some d ≡ Some e → d ≡ e
some_did d e h = cc

-- an instruction leaves the trace as it is
pub trace_kept : (claims : List (List ℕ)) (i : Plain ℕ) (os : Option (List Value)) (u : World) (did : Did) → effect_of claims i os u ≡ Some did → did.world.trace ≡ u.trace
trace_kept claims i os u did e =
    let t = u.trace in
    let is = some_did did (record { world = traced did.world t; value = did.value }) (sym e ∙ effects_traced t claims i os u ∙ ap (did_traced t) e) in
    ap (λ (d : Did). d.world.trace) is
