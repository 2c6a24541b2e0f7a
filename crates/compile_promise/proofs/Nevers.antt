-- The claims on never marks stand behind more starts than their loops make.
use Rattle.std.proofs.Common.{◌≡◌, ℕ, Bool, true, false, List, [], ◌∷◌, map, Some, refl, sym, subst, All}
use Rattle.std.specs.Prelude.{◌==◌, if◌then◌else◌}
use Rattle.std.specs.List.{flat_map}
use Rattle.std.proofs.lemmas.List.Concat.{flat_map-cons}
use Rattle.std.proofs.lemmas.List.Elements.{All-append, All-head, All-map, All-nil, All-tail}
use Rattle.std.proofs.lemmas.List.Sorted.{All-permutation}
use Rattle.code_flow_system.specs.declared.claims.Never.{Never}
use Rattle.facts_loops.specs.Factors as source
use Rattle.facts_loops.specs.Loops.{SourceLoop, starts_of}
use Rattle.high_ir.specs.declared.copies.NeverMark.{NeverMark}
use Rattle.high_pass.specs.Carries.{Behaviour, StartsFewer, bounds_of}
use Rattle.plan_carried.specs.Loops.{as_bounds, bounded as in_passes}
use Rattle.compile_claims.specs.Places.{places_at}
use Rattle.compile_claims.specs.Named.{AreNevers, never_at, nevers_at}
use Rattle.promise_report.specs.Facts.{IsNeverLine}

-- what passes say of a loop that makes fewer starts is so of its starts
fewer_starts : (ls : List SourceLoop) (k f : ℕ) → StartsFewer (bounds_of (map in_passes ls) k) f → source.StartsFewer (starts_of ls k) f
fewer_starts [] k f h = h
fewer_starts (l ∷ ls) k f h = of (l.number == k) (fewer_starts ls k f) h
  where
    of : (same : Bool) → (StartsFewer (bounds_of (map in_passes ls) k) f → source.StartsFewer (starts_of ls k) f)
        → StartsFewer (if same then Some (as_bounds l.starts) else bounds_of (map in_passes ls) k) f → source.StartsFewer (if same then Some l.starts else starts_of ls k) f
    of true rest h = h
    of false rest h = rest h

module _ (sources : List SourceLoop) (old : Behaviour) (loops_are : old.loops ≡ map in_passes sources) (places : List (List ℕ)) where
  abbrev MakesFewer : NeverMark → Type 0
  MakesFewer v = StartsFewer (bounds_of old.loops v.old) v.factor

  own_lined : (v : NeverMark) → MakesFewer v → All (IsNeverLine sources) (nevers_at places v)
  own_lined v fewer = All-map (IsNeverLine sources) (never_at v) (places_at places v.mark)
      (λ i d lt. record { number = v.old; source = refl; fewer = fewer_starts sources v.old v.factor (subst (λ ls. StartsFewer (bounds_of ls v.old) v.factor) loops_are fewer) })

  all_lined : (vs : List NeverMark) → All MakesFewer vs → All (IsNeverLine sources) (flat_map (nevers_at places) vs)
  all_lined [] h = All-nil (IsNeverLine sources)
  all_lined (v ∷ vs) h =
      subst (All (IsNeverLine sources)) (sym (flat_map-cons (nevers_at places) v vs))
      (All-append (IsNeverLine sources) (nevers_at places v) (flat_map (nevers_at places) vs) (own_lined v (All-head MakesFewer v vs h)) (all_lined vs (All-tail MakesFewer v vs h)))

  pub nevers_lined : (vs : List NeverMark) → All MakesFewer vs → (ns : List Never) → AreNevers places vs ns → All (IsNeverLine sources) ns
  nevers_lined vs h ns handed = All-permutation (IsNeverLine sources) (flat_map (nevers_at places) vs) ns handed.all (all_lined vs h)
