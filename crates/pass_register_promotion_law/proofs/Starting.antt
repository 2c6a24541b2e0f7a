-- Where runs start, and blocks.
use Rattle.std.proofs.Common.{◌≡◌, ℕ, zero, suc, ◌<◌, Bool, true, false, List, [], ◌∷◌, map, Some, None, refl, sym, ap, ◌∙◌, subst, arith}
use Rattle.std.specs.Prelude.{◌==◌, ◌&&◌, ◌||◌, All, option_map, slice_get}
use Rattle.std.proofs.lemmas.Bool.{eqb-true}
use Rattle.std.proofs.lemmas.List.Elements.{All-head, All-tail}
use Rattle.std.proofs.lemmas.Option.{slice_get-map}
use Rattle.low_ir.specs.declared.object.Kind.{Kind}
use Rattle.low_ir.specs.declared.object.Storage.TheVariants.{Global}
use Rattle.low_ir.specs.Kinds.{converted}
use Rattle.low_ir.specs.Code.{Block, Function, Loop, Low, Note, Object}
use Rattle.low_ir.specs.Effects.{contents}
use Rattle.low_ir.specs.Formed.{IsLoop, IsLow, LeadsOn, LeadsTo_as, is_back}
use Rattle.pass_common_subexpressions_law.proofs.Effects.{some_same}
use Rattle.pass_register_promotion_law.specs.Suiting.{IsScalar}
use Rattle.pass_register_promotion_law.proofs.Narrow.{converted_again, converted_zero}
use Rattle.pass_register_promotion_law.proofs.Scalars.{HasWord, scalar}

-- what stands at a place
pub all_at : {A : Type 0} (P : A → Type 0) (xs : List A) (n : ℕ) (x : A) → All P xs → slice_get xs n ≡ Some x → P x
all_at P [] n x h e = cc
all_at P (y ∷ ys) zero x h e = let same : y ≡ x = cc in subst P same (All-head P y ys h)
all_at P (y ∷ ys) (suc n) x h e = all_at P ys n x (All-tail P y ys h) e

-- lists with the same at each place are the same
pub same_lists : {A : Type 0} (xs ys : List A) → ((n : ℕ) → slice_get xs n ≡ slice_get ys n) → xs ≡ ys
same_lists [] [] h = refl
same_lists [] (y ∷ ys) h = let no : None ≡ Some y = h 0 in cc
same_lists (x ∷ xs) [] h = let no : Some x ≡ None = h 0 in cc
same_lists (x ∷ xs) (y ∷ ys) h = let same : x ≡ y = some_same x y (h 0) in ap (λ z. z ∷ xs) same ∙ ap (λ zs. y ∷ zs) (same_lists xs ys (λ n. h (suc n)))

-- no loop has the first block as its header
no_back : (fn : Function ℕ Note) (ls : List Loop) (b : ℕ) → All (IsLoop fn) ls → is_back ls b 0 ≡ true → ⊥
no_back fn [] b h e = cc
no_back fn (l ∷ ls) b h e = by_header (l.latch == b) (l.header == 0) (is_back ls b 0) refl e (All-head (IsLoop fn) l ls h).header (no_back fn ls b (All-tail (IsLoop fn) l ls h))
  where
    by_header : (c d rest : Bool) → (l.header == 0) ≡ d → ((c && d) || rest) ≡ true → 0 < l.header → (rest ≡ true → ⊥) → ⊥
    by_header true true rest same e more go = let zero_header = eqb-true l.header 0 same in omega (arith, zero_header, more)
    by_header true false rest same e more go = go e
    by_header false d rest same e more go = go e

-- so no block leads to the first one
pub not_first : (q : Low) (f : ℕ) (fn : Function ℕ Note) → IsLow q → slice_get q.functions f ≡ Some fn → (b : ℕ) (bl : Block ℕ Note) → slice_get fn.blocks b ≡ Some bl → LeadsOn bl.end 0 → ⊥
not_first q f fn low there b bl e leads =
    let k = low.functions f fn there in
    no_back fn fn.loops b k.loops (k.forward b 0 (subst (λ o. LeadsTo_as o 0) (sym e) leads) (omega arith))

-- at first a scalar holds a word
record IsGlobal (kind : Kind) (values : List ℕ) : Type 0 where
  word : ℕ
  kept : converted kind word ≡ word
  is : contents (record { kind = kind; storage = Global; size = 1; values = values }) ≡ scalar kind (Some word)

global_word : (kind : Kind) (values : List ℕ) → IsGlobal kind values
global_word kind [] = record { word = 0; kept = converted_zero kind; is = refl }
global_word kind (v ∷ values) = record { word = converted kind v; kept = converted_again kind v; is = refl }

scalar_object : (kind : Kind) (x : Object) → x.kind ≡ kind → x.storage ≡ Global → x.size ≡ 1 → x ≡ record { kind = kind; storage = Global; size = 1; values = x.values }
scalar_object kind x e f g =
    ap (λ k. record { kind = k; storage = x.storage; size = x.size; values = x.values }) e
    ∙ ap (λ s. record { kind = kind; storage = s; size = x.size; values = x.values }) f
    ∙ ap (λ n. record { kind = kind; storage = Global; size = n; values = x.values }) g

pub first_word : (objects : List Object) (o : ℕ) (kind : Kind) → IsScalar objects o kind → HasWord (map contents objects) o kind
first_word objects o kind s =
    let w = global_word kind s.object.values in
    record {
      word = w.word;
      kept = w.kept;
      is = slice_get-map contents objects o ∙ ap (option_map contents) s.there ∙ ap (λ x. Some (contents x)) (scalar_object kind s.object s.alike s.storage s.size) ∙ ap Some w.is;
    }
