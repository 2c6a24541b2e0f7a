-- A place that no step of a function begins at, and that is no header or jump back of its loops, keeps its worth and weight.
use Rattle.std.proofs.Common.{◌≡◌, ◌≢◌, ℕ, ℤ, pos, refl, sym, ◌∙◌, List, [], ◌∷◌, Bool, true, false, cond, Option, Some, None, get_or-set_other}
use Rattle.std.specs.Prelude.{◌==◌, slice_set}
use Rattle.loop_walks.specs.declared.step.Step.{Step}
use Rattle.loop_walks.specs.declared.step.Loop.{Loop}
use Rattle.loop_walks.specs.declared.step.Pair.{Pair}
use Rattle.loop_walks.specs.Walks.{larger, worth_at, body_steps}
use Rattle.loop_walks.specs.Turns.{gain}
use Rattle.loop_walks.specs.Multipliers.{first_weight, weight_of, back_worth}
use Rattle.loop_walks.specs.Levels.{weighed, gains, Level, level_pair, raised, level_by, levels, ground, settled}
use Rattle.loop_walks.specs.Rows.{Each}
use Rattle.loop_walks.proofs.EachLemmas.{each_between}
use Rattle.loop_walks.proofs.WalkLemmas.{relaxed_other}

-- no header or jump back is at the place
abbrev pub Avoids : ℕ → List Loop → Type 0
Avoids a [] = Unit {0}
Avoids a (l ∷ ls) = (l.header ≢ a) × ((b : ℕ) → l.back ≡ Some b → b ≢ a) × Avoids a ls

other : (ws : List ℤ) (a b : ℕ) (z : ℤ) → a ≢ b → worth_at (slice_set ws a z) b ≡ worth_at ws b
other ws a b z d = get_or-set_other ws a b z (pos 0) (λ e. d (sym e))

raised_untouched : (ws : List ℤ) (l : Loop) (o : Option ℕ) (z : ℤ) (a : ℕ) → ((b : ℕ) → o ≡ Some b → b ≢ a) → worth_at (raised ws l o z) a ≡ worth_at ws a
raised_untouched ws l None z a h = refl
raised_untouched ws l (Some b) z a h = by_test (b == l.header)
  where
    by_test : (t : Bool) → worth_at (cond t ws (slice_set ws b (larger (worth_at ws b) z))) a ≡ worth_at ws a
    by_test true = refl
    by_test false = other ws b a (larger (worth_at ws b) z) (h b refl)

module _ (low : ℤ) (ms : List Step) (a : ℕ) (none : Each (λ m. m.at ≢ a) ms) where
  weighed_untouched : (weights : List ℤ) (ls : List Loop) → Avoids a ls → worth_at (weighed low ms weights ls) a ≡ worth_at weights a
  weighed_untouched weights [] h = refl
  weighed_untouched weights (l ∷ ls) h =
      other (weighed low ms weights ls) l.header a (first_weight low l (gain low (weighed low ms weights ls) l ms)) h.0 ∙ weighed_untouched weights ls h.2

  level_untouched : (v : Level) (l : Loop) (p : Pair) → l.header ≢ a → ((b : ℕ) → l.back ≡ Some b → b ≢ a) → (worth_at (level_by ms v l p).worths a ≡ worth_at v.worths a) × (worth_at (level_by ms v l p).weights a ≡ worth_at v.weights a)
  level_untouched v l p h k = (
    relaxed_other (slice_set v.weights l.header (weight_of l p)) (raised v.worths l l.back (back_worth l (worth_at v.worths l.header) p)) (body_steps l ms) a (each_between (λ m. m.at ≢ a) l.body l.rest ms none)
        ∙ raised_untouched v.worths l l.back (back_worth l (worth_at v.worths l.header) p) a k,
    other v.weights l.header a (weight_of l p) h,
  )

  levels_untouched : (v : Level) (ls : List Loop) (gs : List ℤ) → Avoids a ls → (worth_at (levels low ms v ls gs).worths a ≡ worth_at v.worths a) × (worth_at (levels low ms v ls gs).weights a ≡ worth_at v.weights a)
  levels_untouched v [] gs h = (refl, refl)
  levels_untouched v (l ∷ ls) [] h = (refl, refl)
  levels_untouched v (l ∷ ls) (g ∷ gs) h =
      let r = levels_untouched (level_by ms v l (level_pair low ms v.worths l g)) ls gs h.2 in
      let k = level_untouched v l (level_pair low ms v.worths l g) h.0 h.1 in
      (r.0 ∙ k.0, r.1 ∙ k.1)

  pub settled_untouched : (v : Level) (ls : List Loop) → Avoids a ls → (worth_at (settled low ms v ls).worths a ≡ worth_at v.worths a) × (worth_at (settled low ms v ls).weights a ≡ worth_at v.weights a)
  settled_untouched v ls h =
      let r = levels_untouched (ground low ms v ls) ls (gains low ms v.weights ls) h in
      (r.0 ∙ relaxed_other (weighed low ms v.weights ls) v.worths ms a none, r.1 ∙ weighed_untouched v.weights ls h)
