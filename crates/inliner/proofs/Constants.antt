-- Constants stay words where bodies are moved and calls are opened.
use Rattle.std.proofs.Common.{◌≡◌, ℕ, ◌+◌, Bool, true, false, List, [], ◌∷◌, map, Option, Some, None, refl}
use Rattle.std.specs.Prelude.{slice_get}
use Rattle.high_ir.specs.Tree.{Expr, Constant, Variable, Element, Unary, Binary, Statement, Set, Put, Get, Keep, Mark, Seq, If, Loop, Block, Leave, Call, Return, Statements, End, Then, Function}
use Rattle.high_ir.specs.Whole.{AllHaveWords, AreWordy, HasWords, IsWordy}
use Rattle.inliner.specs.declared.used.Used.{Used}
use Rattle.inliner.specs.Budgets.{fits}
use Rattle.inliner.specs.Moving.{Place, ended, moved, moved_all, moved_expr}
use Rattle.inliner.specs.Opening.{Site, assigned, opening}
use Rattle.inliner.specs.Walking.{at_call, opened, opened_all, opened_if}

-- in the frame of another function
module _ (p : Place) where
  moved_wordy : (e : Expr) → IsWordy e → IsWordy (moved_expr p e)
  moved_wordy (Constant w) h = h
  moved_wordy (Variable x) h = tt
  moved_wordy (Element array index) h = moved_wordy index h
  moved_wordy (Unary operator operand) h = moved_wordy operand h
  moved_wordy (Binary operator left right) h = (moved_wordy left h.0, moved_wordy right h.1)

  moved_all_wordy : (es : List Expr) → AreWordy es → AreWordy (map (moved_expr p) es)
  moved_all_wordy [] h = tt
  moved_all_wordy (e ∷ es) h = (moved_wordy e h.0, moved_all_wordy es h.1)

  ended_words : (into : Option ℕ) (depth : ℕ) (e : Expr) → IsWordy e → HasWords (ended into depth e)
  ended_words None depth e h = tt
  ended_words (Some x) depth e h = (h, (tt, tt))

  mutual
    pub moved_words : (depth : ℕ) (s : Statement) → HasWords s → HasWords (moved p depth s)
    moved_words depth (Set x e) h = moved_wordy e h
    moved_words depth (Put e) h = moved_wordy e h
    moved_words depth (Get x) h = tt
    moved_words depth (Keep array i e) h = (moved_wordy i h.0, moved_wordy e h.1)
    moved_words depth (Mark m) h = tt
    moved_words depth (Seq parts) h = moved_words_all depth parts h
    moved_words depth (If test a b) h = (moved_wordy test h.0, (moved_words depth a h.1.0, moved_words depth b h.1.1))
    moved_words depth (Loop id least most body) h = moved_words depth body h
    moved_words depth (Block body) h = moved_words (depth + 1) body h
    moved_words depth (Leave j) h = tt
    moved_words depth (Call f values arrays into) h = moved_all_wordy values h
    moved_words depth (Return e) h = ended_words p.into depth (moved_expr p e) (moved_wordy e h)

    moved_words_all : (depth : ℕ) (ss : Statements) → AllHaveWords ss → AllHaveWords (moved_all p depth ss)
    moved_words_all depth End h = tt
    moved_words_all depth (Then s rest) h = (moved_words depth s h.0, moved_words_all depth rest h.1)

assigned_words : (x : ℕ) (es : List Expr) (after : Statements) → AreWordy es → AllHaveWords after → AllHaveWords (assigned x es after)
assigned_words x [] after h k = k
assigned_words x (e ∷ es) after h k = (h.0, assigned_words (x + 1) es after h.1 k)

opening_words : (s : Site) (n : ℕ) (body : Statement) → AreWordy s.values → HasWords body → HasWords (opening s n body)
opening_words s n body values h =
    let p : Place = record { base = n; arrays = s.arrays; into = s.into } in
    (tt, assigned_words n s.values (Then (Block (moved p 0 body)) End) values (moved_words p 0 body h, tt))

-- with calls opened
module _ (limit : ℕ) (fs : List Function) (each : (g : ℕ) (h : Function) → slice_get fs g ≡ Some h → HasWords h.body) where
  if_words : (b : Bool) (used : Used) (s : Site) (h : Function) → slice_get fs s.function ≡ Some h → AreWordy s.values → HasWords (opened_if b used s h).statement
  if_words false used s h found values = values
  if_words true used s h found values = opening_words s used.next h.body values (each s.function h found)

  call_words : (used : Used) (around : ℕ) (s : Site) (o : Option Function) → slice_get fs s.function ≡ o → AreWordy s.values → HasWords (at_call limit used around s o).statement
  call_words used around s None found values = values
  call_words used around s (Some h) found values = if_words (fits limit used around s h) used s h found values

  mutual
    pub opened_words : (around : ℕ) (s : Statement) (used : Used) → HasWords s → HasWords (opened limit fs around s used).statement
    opened_words around (Set x e) used h = h
    opened_words around (Put e) used h = h
    opened_words around (Get x) used h = h
    opened_words around (Keep array i e) used h = h
    opened_words around (Mark m) used h = h
    opened_words around (Seq parts) used h = opened_words_all (around + 1) parts used h
    opened_words around (If test a b) used h =
        let first = opened limit fs (around + 1) a used in
        (h.0, (opened_words (around + 1) a used h.1.0, opened_words (around + 1) b first.used h.1.1))
    opened_words around (Loop id least most body) used h = opened_words (around + 1) body used h
    opened_words around (Block body) used h = opened_words (around + 1) body used h
    opened_words around (Leave j) used h = h
    opened_words around (Call f values arrays into) used h = call_words used around (record { function = f; values = values; arrays = arrays; into = into }) (slice_get fs f) refl h
    opened_words around (Return e) used h = h

    opened_words_all : (around : ℕ) (ss : Statements) (used : Used) → AllHaveWords ss → AllHaveWords (opened_all limit fs around ss used).parts
    opened_words_all around End used h = tt
    opened_words_all around (Then s rest) used h =
        let first = opened limit fs around s used in
        (opened_words around s used h.0, opened_words_all around rest first.used h.1)
