-- What those that wait need of a caller, and it doesn't save, they need of the callee; and so do calls.
use Rattle.std.proofs.Common.{◌≡◌, ◌≢◌, ◌⊎◌, inl, inr, ℕ, zero, suc, ◌<◌, ◌≤◌, Bool, true, false, List, [], ◌∷◌, length, refl, sym, ap, ◌∙◌, subst, arith, if◌then◌else◌}
use Rattle.std.specs.Prelude.{replicate, slice_index_or, slice_set}
use Rattle.std.proofs.lemmas.List.{length-set, length-replicate}
use Rattle.std.proofs.lemmas.Bool.{cases_eq, false≢true}
use Rattle.image_frames.specs.Registers.{holds}
use Rattle.image_frames.specs.Needs.{Site, Outline, outline_at, asks, spread_sites, spread, needing}
use Rattle.image_frames.proofs.TableLemmas.{set_stays, set_holds, set_other}

-- one of the calls
abbrev pub HasSite : List Site → Site → Type 0
HasSite [] s = ⊥
HasSite (x ∷ xs) s = (x ≡ s) ⊎ HasSite xs s

abbrev pub AreBelow : ℕ → List Site → Type 0
AreBelow f [] = Unit {0}
AreBelow f (s ∷ ss) = (s.callee < f) × AreBelow f ss

pub site_below : (f : ℕ) (ss : List Site) (s : Site) → AreBelow f ss → HasSite ss s → s.callee < f
site_below f [] s b h = absurd h
site_below f (x ∷ ss) s b (inl e) = subst (λ (y : Site). y.callee < f) e b.0
site_below f (x ∷ ss) s b (inr h) = site_below f ss s b.1 h

module _ (os : List Outline) (q : ℕ) where
  site_stays : (a : Bool) (s : Site) (needs : List Bool) (g : ℕ) → holds needs g ≡ true → holds (if a then slice_set needs s.callee true else needs) g ≡ true
  site_stays true s needs g h = set_stays needs s.callee g h
  site_stays false s needs g h = h

  site_length : (a : Bool) (s : Site) (needs : List Bool) → length (if a then slice_set needs s.callee true else needs) ≡ length needs
  site_length true s needs = length-set needs s.callee true
  site_length false s needs = refl

  site_other : (a : Bool) (s : Site) (needs : List Bool) (g : ℕ) → s.callee ≢ g → holds (if a then slice_set needs s.callee true else needs) g ≡ holds needs g
  site_other true s needs g d = set_other needs s.callee g true d
  site_other false s needs g d = refl

  sites_stay : (n w : Bool) (ss : List Site) (needs : List Bool) (g : ℕ) → holds needs g ≡ true → holds (spread_sites os q n w ss needs) g ≡ true
  sites_stay n w [] needs g h = h
  sites_stay n w (s ∷ ss) needs g h = sites_stay n w ss (if asks os q n w s then slice_set needs s.callee true else needs) g (site_stays (asks os q n w s) s needs g h)

  sites_length : (n w : Bool) (ss : List Site) (needs : List Bool) → length (spread_sites os q n w ss needs) ≡ length needs
  sites_length n w [] needs = refl
  sites_length n w (s ∷ ss) needs = sites_length n w ss (if asks os q n w s then slice_set needs s.callee true else needs) ∙ site_length (asks os q n w s) s needs

  sites_other : (n w : Bool) (f : ℕ) (ss : List Site) (needs : List Bool) (g : ℕ) → AreBelow f ss → f ≤ g → holds (spread_sites os q n w ss needs) g ≡ holds needs g
  sites_other n w f [] needs g b h = refl
  sites_other n w f (s ∷ ss) needs g b h =
      sites_other n w f ss (if asks os q n w s then slice_set needs s.callee true else needs) g b.1 h
      ∙ site_other (asks os q n w s) s needs g (λ e. let l = b.0 in absurd (omega (arith, e, l, h)))

  sites_ask : (n w : Bool) (ss : List Site) (needs : List Bool) (s : Site) → HasSite ss s → asks os q n w s ≡ true → s.callee < length needs → holds (spread_sites os q n w ss needs) s.callee ≡ true
  sites_ask n w [] needs s h a within = absurd h
  sites_ask n w (x ∷ ss) needs s (inl e) a within =
      sites_stay n w ss (if asks os q n w x then slice_set needs x.callee true else needs) s.callee (by (asks os q n w x) (ap (asks os q n w) e ∙ a))
    where
      by : (b : Bool) → b ≡ true → holds (if b then slice_set needs x.callee true else needs) s.callee ≡ true
      by true k = subst (λ (y : Site). holds (slice_set needs y.callee true) s.callee ≡ true) (sym e) (set_holds needs s.callee within)
      by false k = absurd (false≢true k)
  sites_ask n w (x ∷ ss) needs s (inr h) a within =
      sites_ask n w ss (if asks os q n w x then slice_set needs x.callee true else needs) s h a (subst (λ k. s.callee < k) (sym (site_length (asks os q n w x) x needs)) within)

  abbrev step : ℕ → List Bool → List Bool
  step f needs = spread_sites os q (slice_index_or needs f false) (holds (outline_at os f).written q) (outline_at os f).sites needs

  spread_stays : (f : ℕ) (needs : List Bool) (g : ℕ) → holds needs g ≡ true → holds (spread os q f needs) g ≡ true
  spread_stays zero needs g h = h
  spread_stays (suc f) needs g h = spread_stays f (step f needs) g (sites_stay (slice_index_or needs f false) (holds (outline_at os f).written q) (outline_at os f).sites needs g h)

  module _ (below : (f : ℕ) → AreBelow f (outline_at os f).sites) where
    spread_other : (f : ℕ) (needs : List Bool) (g : ℕ) → f ≤ g → holds (spread os q f needs) g ≡ holds needs g
    spread_other zero needs g h = refl
    spread_other (suc f) needs g h =
        spread_other f (step f needs) g (omega arith)
        ∙ sites_other (slice_index_or needs f false) (holds (outline_at os f).written q) f (outline_at os f).sites needs g (below f) (omega arith)

    spread_asks : (m f : ℕ) (needs : List Bool) (s : Site) → f < m → HasSite (outline_at os f).sites s → s.callee < length needs → asks os q (holds (spread os q m needs) f) (holds (outline_at os f).written q) s ≡ true → holds (spread os q m needs) s.callee ≡ true
    spread_asks zero f needs s less h within a = absurd (omega arith)
    spread_asks (suc m) f needs s less h within a = by (cases_eq f m) (λ l. spread_asks m f (step m needs) s l h (subst (λ k. s.callee < k) (sym (sites_length (slice_index_or needs m false) (holds (outline_at os m).written q) (outline_at os m).sites needs)) within) a)
      where
        by : (f ≡ m) ⊎ (f ≢ m) → (f < m → holds (spread os q m (step m needs)) s.callee ≡ true) → holds (spread os q m (step m needs)) s.callee ≡ true
        by (inl e) go =
            let same = spread_other m (step m needs) f (omega (arith, e)) ∙ sites_other (slice_index_or needs m false) (holds (outline_at os m).written q) m (outline_at os m).sites needs f (below m) (omega (arith, e)) in
            let asked = ap (λ b. asks os q b (holds (outline_at os f).written q) s) (sym same) ∙ a in
            spread_stays m (step m needs) s.callee
            (sites_ask (slice_index_or needs m false) (holds (outline_at os m).written q) (outline_at os m).sites needs s
            (subst (λ k. HasSite (outline_at os k).sites s) e h)
            (subst (λ k. asks os q (slice_index_or needs k false) (holds (outline_at os k).written q) s ≡ true) e asked) within)
        by (inr d) go = go (omega (arith, d, less))

    pub needing_asks : (f : ℕ) (s : Site) → f < length os → HasSite (outline_at os f).sites s → asks os q (slice_index_or (needing os q) f false) (holds (outline_at os f).written q) s ≡ true → slice_index_or (needing os q) s.callee false ≡ true
    needing_asks f s less h a =
        let lower = site_below f (outline_at os f).sites s (below f) h in
        spread_asks (length os) f (replicate (length os) false) s less h
        (subst (λ k. s.callee < k) (sym (length-replicate (length os) false)) (omega arith)) a
