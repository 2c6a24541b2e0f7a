-- Parts of a run in functions that are called.
use Rattle.std.proofs.Common.{◌≡◌, ℕ, ◌<◌, ◌≤◌, List, [], ◌∷◌, ◌++◌, sym, ap, ◌∙◌, ⊎_elim, arith, append_assoc}
use Rattle.std.specs.Prelude.{slice_index_or}
use Rattle.std.proofs.lemmas.Bool.{cases_lt}
use Rattle.std.proofs.lemmas.List.{append-nil}
use Rattle.low_ir.specs.declared.run.Began.{Began}
use Rattle.low_ir.specs.Code.{Loop, Low}
use Rattle.lower_nesting.specs.Segments.{AreBelow, LoopsGrow, Quiet}
use Rattle.lower_nesting.proofs.Turning.{Others, grown_then, others_grown}

pub below_wider : (f g : ℕ) (es : List Began) → f ≤ g → AreBelow f es → AreBelow g es
below_wider f g [] low h = tt
below_wider f g (e ∷ es) low h = let k = h.0 in (omega (arith, low, k), below_wider f g es low h.1)

-- blocks of lower functions are none of a loop's
pub below_others : (f g : ℕ) (l : Loop) (es : List Began) → f ≤ g → AreBelow f es → Others g l es
below_others f g l [] low h = tt
below_others f g l (e ∷ es) low h = (λ same. let k = h.0 in absurd (not_both e.function f g same k low), below_others f g l es low h.1)
  where
    not_both : (x f g : ℕ) → x ≡ g → x < f → f ≤ g → ⊥
    not_both x f g a b c = omega (arith, a, b, c)

pub loops_then : (q : Low) (f : ℕ) (xs ys : List Began) → LoopsGrow q f xs → LoopsGrow q f ys → LoopsGrow q f (xs ++ ys)
loops_then q f xs ys h k g fn there low i d inside =
    let l = slice_index_or fn.loops i d in
    grown_then g l xs ys (h g fn there low i d inside) (k g fn there low i d inside)

pub loops_nothing : (q : Low) (f : ℕ) → LoopsGrow q f []
loops_nothing q f g fn there low i d inside = others_grown g (slice_index_or fn.loops i d) [] tt

pub quiet_nothing : (q : Low) (f : ℕ) (a : List Began) → Quiet q f a a
quiet_nothing q f a = record { events = []; are = sym (append-nil a); below = tt; loops = loops_nothing q f }

pub more_is : (a b c xs ys : List Began) → b ≡ a ++ xs → c ≡ b ++ ys → c ≡ a ++ (xs ++ ys)
more_is a b c xs ys e f = f ∙ ap (λ z. z ++ ys) e ∙ append_assoc a xs ys

-- seen from a function of a higher number
pub quiet_wider : (q : Low) (f g : ℕ) (a b : List Began) → f ≤ g → Quiet q f a b → Quiet q g a b
quiet_wider q f g a b low h = record {
  events = h.events;
  are = h.are;
  below = below_wider f g h.events low h.below;
  loops = λ k fn there inside i d at.
      let l = slice_index_or fn.loops i d in
      ⊎_elim (λ (lower : k < f). h.loops k fn there lower i d at) (λ (other : f ≤ k). others_grown k l h.events (below_others f k l h.events other h.below)) (cases_lt k f);
}
