-- Blocks that begin, as a loop sees them.
use Rattle.std.proofs.Common.{◌≡◌, ℕ, Bool, true, false, List, [], ◌∷◌, ◌++◌, refl, sym, ap, ◌∙◌, append_assoc}
use Rattle.std.specs.Prelude.{◌==◌, ◌&&◌, if◌then◌else◌}
use Rattle.std.proofs.lemmas.Bool.{and_parts, eqb-true, eq-eqb}
use Rattle.low_ir.specs.declared.run.Began.{Began}
use Rattle.low_ir.specs.Code.{Loop}
use Rattle.low_ir.specs.Turns.{Turns, is_at, started, turn, turns}
use Rattle.lower_nesting.specs.Segments.{AreWithin, Grown}

pub turns-append : (f : ℕ) (l : Loop) (t : Turns) (xs ys : List Began) → turns f l t (xs ++ ys) ≡ turns f l (turns f l t xs) ys
turns-append f l t [] ys = refl
turns-append f l t (x ∷ xs) ys = turns-append f l (turn f l t x) xs ys

-- whether a block is that of a number
pub not_at : (e : Began) (f b : ℕ) → (e.function ≡ f → e.block ≡ b → ⊥) → is_at e f b ≡ false
not_at e f b apart = by_test (is_at e f b) refl
  where
    by_test : (t : Bool) → is_at e f b ≡ t → is_at e f b ≡ false
    by_test false same = same
    by_test true same = let k = and_parts (e.function == f) (e.block == b) same in absurd (apart (eqb-true e.function f k.0) (eqb-true e.block b k.1))

pub is_at_same : (f b : ℕ) → is_at (record { function = f; block = b }) f b ≡ true
is_at_same f b = ap (λ x. x && (b == b)) (eq-eqb f f refl) ∙ eq-eqb b b refl

-- a block that is none of a loop's
pub turn_other : (f : ℕ) (l : Loop) (t : Turns) (e : Began) → is_at e f l.header ≡ false → is_at e f l.latch ≡ false → turn f l t e ≡ t
turn_other f l t e h k =
    ap (λ b. if b then record { again = false; starts = started t.again t.starts } else if is_at e f l.latch then record { again = true; starts = t.starts } else t) h
    ∙ ap (λ b. if b then record { again = true; starts = t.starts } else t) k

-- blocks of which none is one of a loop's
abbrev pub Others : ℕ → Loop → List Began → Type 0
Others f l [] = Unit {0}
Others f l (e ∷ es) = (e.function ≡ f → (e.block ≡ l.header → ⊥) × (e.block ≡ l.latch → ⊥)) × Others f l es

pub turns_others : (f : ℕ) (l : Loop) (t : Turns) (es : List Began) → Others f l es → turns f l t es ≡ t
turns_others f l t [] h = refl
turns_others f l t (e ∷ es) h =
    ap (λ x. turns f l x es) (turn_other f l t e (not_at e f l.header (λ s b. (h.0 s).0 b)) (not_at e f l.latch (λ s b. (h.0 s).1 b)))
    ∙ turns_others f l t es h.1

turns_is : (t : Turns) → t.again ≡ false → t ≡ record { again = false; starts = t.starts }
turns_is t e = ap (λ a. record { again = a; starts = t.starts }) e

pub others_grown : (f : ℕ) (l : Loop) (es : List Began) → Others f l es → Grown f l es
others_grown f l es h t fresh = record { entries = []; are = turns_others f l t es h ∙ turns_is t fresh; within = tt }

within_append : (l : Loop) (ns ms : List ℕ) → AreWithin l ns → AreWithin l ms → AreWithin l (ns ++ ms)
within_append l [] ms h k = k
within_append l (n ∷ ns) ms h k = (h.0, within_append l ns ms h.1 k)

pub grown_then : (f : ℕ) (l : Loop) (xs ys : List Began) → Grown f l xs → Grown f l ys → Grown f l (xs ++ ys)
grown_then f l xs ys h k t fresh =
    let a = h t fresh in
    let u : Turns = record { again = false; starts = a.entries ++ t.starts } in
    let b = k u refl in
    record {
      entries = b.entries ++ a.entries;
      are =
          turns-append f l t xs ys
          ∙ ap (λ x. turns f l x ys) a.are
          ∙ b.are
          ∙ ap (λ (s : List ℕ). record { again = false; starts = s }) (sym (append_assoc b.entries a.entries t.starts));
      within = within_append l b.entries a.entries b.within a.within;
    }
