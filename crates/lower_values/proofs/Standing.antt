-- A frame stands in a bank as long as its registers are what they were.
use Rattle.std.proofs.Common.{◌≡◌, ℕ, ◌<◌, ◌≤◌, true, List, [], ◌∷◌, ◌++◌, length, Option, Some, None, sym, ap, ◌∙◌, arith}
use Rattle.std.specs.Prelude.{slice_get, slice_index_or, slice_set, nat_lt, if◌then◌else◌}
use Rattle.std.proofs.lemmas.Bool.Decides.{nat_tests}
use Rattle.std.proofs.lemmas.Option.{same_Some, slice_get_within}
use Rattle.high_ir.specs.declared.object.Base.{Base as HighBase}
use Rattle.high_ir.specs.declared.object.Base.TheVariants.{Object, Parameter}
use Rattle.high_ir.specs.Meaning as high
use Rattle.rv_core.specs.declared.row.Alu.TheVariants as alu
use Rattle.rv_core.specs.Arithmetic.{alu_value}
use Rattle.low_ir.specs.declared.run.Value.TheVariants.{Word, Pointer}
use Rattle.low_ir.specs.Code.{Base, Fixed, Through, Do, Call, Operate, Register, Constant}
use Rattle.low_ir.specs.Effects.{World, there}
use Rattle.low_ir.specs.Runs.{Bank}
use Rattle.lower_definition.specs.Operators.{Code}
use Rattle.lower_definition.specs.Values.{Scope, Share, bytes, pointer, base_of, through}
use Rattle.lower_values.specs.Computing.{after_instr, computed}
use Rattle.lower_values.specs.Meeting.{Stands, MeetsFrame, MeetsWorld, array_value}
use Rattle.lower_values.proofs.Writing.{has_constant, operate_after}
use Rattle.lower_values.proofs.Elements.{index_within}
use Rattle.lower_values.proofs.Widths.{shift_bytes}
use Rattle.lower_values.proofs.Reading.{Means}

module _ (scope : Scope) (claims : List (List ℕ)) (passed : List ℕ) (vars : high.Variables) (shares : List Share) where
  pub stands_after : (s s' : Bank) (t t' : ℕ) → Stands scope claims passed vars shares s t → ((q : ℕ) → q < t → slice_index_or s' q None ≡ slice_index_or s q None) → t ≤ t' → Stands scope claims passed vars shares s' t'
  stands_after s s' t t' h same more =
      let frame = h.frame in
      record {
        frame = record {
          variables = λ x v e.
              let inside = index_within vars x v e in
              let count = frame.count in
              let free = h.free in
              same x (omega (arith, inside, count, free)) ∙ frame.variables x v e;
          words = frame.words;
          count = frame.count;
          arrays = frame.arrays;
          pointers = λ j o e.
              let p = frame.pointers j o e in
              let inside = slice_get_within passed j o e in
              let arrays = frame.arrays in
              let free = h.free in
              record { held = same (pointer scope j) (omega (arith, inside, arrays, free)) ∙ p.held; claimed = p.claimed };
        };
        sharing = record {
          variable = λ x k r e. let low = h.sharing.variable x k r e in omega (arith, low, more);
          below = λ x k r e. let low = h.sharing.below x k r e in omega (arith, low, more);
          held = λ x k r v e f. same r (h.sharing.below x k r e) ∙ h.sharing.held x k r v e (sym (same x (h.sharing.variable x k r e)) ∙ f);
        };
        free = let free = h.free in omega (arith, free, more);
      }

-- the value of an array that is there
pub array_there : (objects o : ℕ) → o < objects → array_value objects o ≡ Pointer o 0
array_there objects o inside =
    let test : nat_lt o objects ≡ true = grind (arith, nat_tests, inside) in
    ap (λ b. if b then Pointer o 0 else Word 0) test

-- the base of an array that is there
pub record Based (scope : Scope) (claims : List (List ℕ)) (s : Bank) (b : HighBase) (o : ℕ) : Type 0 where
  pub base : Base ℕ
  pub is : base_of scope b ≡ Some base
  pub means : Means claims s base o

pub based : (scope : Scope) (claims : List (List ℕ)) (passed : List ℕ) (vars : high.Variables) (w : high.World) (u : World) (s : Bank) (b : HighBase) (o : ℕ) (c : high.Contents) → MeetsWorld scope w u → MeetsFrame scope claims passed vars s → high.object_number passed b ≡ Some o → slice_get w.objects o ≡ Some c → Based scope claims s b o
based scope claims passed vars w u s (Object n) o c meets frame e inside =
    let same : n ≡ o = same_Some n o e in
    let low = slice_get_within w.objects o c inside in
    let count = meets.count in
    let test : nat_lt n scope.objects ≡ true = grind (arith, nat_tests, same, low, count) in
    record { base = Fixed n; is = ap (λ b. if b then Some (Fixed n) else None) test; means = same }
based scope claims passed vars w u s (Parameter j) o c meets frame e inside =
    let p = frame.pointers j o e in
    let low = slice_get_within w.objects o c inside in
    let count = meets.count in
    let there_is : o < scope.objects = omega (arith, low, count) in
    let k = p.claimed there_is in
    record { base = Through (pointer scope j) k.claim; is = ap (through (pointer scope j)) k.named; means = (p.held ∙ ap Some (array_there scope.objects o there_is), k.member) }

-- what leads on leads on
there_then : (o : Option Bank) (go further : Bank → Option Bank) (s1 s2 : Bank) → there o go ≡ Some s1 → ((s : Bank) → go s ≡ Some s1 → further s ≡ Some s2) → there o further ≡ Some s2
there_then None go further s1 s2 e k = cc
there_then (Some s) go further s1 s2 e k = k s e

-- code and then other code
pub computed_then : (claims : List (List ℕ)) (u : World) (a b : Code) (s s1 s2 : Bank) → computed claims u a s ≡ Some s1 → computed claims u b s1 ≡ Some s2 → computed claims u (a ++ b) s ≡ Some s2
computed_then claims u [] b s s1 s2 e f = ap (computed claims u b) (same_Some s s1 e) ∙ f
computed_then claims u (Call into g args note ∷ is) b s s1 s2 e f = cc
computed_then claims u (Do i ∷ is) b s s1 s2 e f =
    there_then (after_instr claims u i s) (computed claims u is) (computed claims u (is ++ b)) s1 s2 e (λ s3 h. computed_then claims u is b s3 s1 s2 h f)

-- a scaled register
pub shift_after : (claims : List (List ℕ)) (u : World) (s : Bank) (n r k p : ℕ) → n < length s → k < 32 → slice_index_or s r None ≡ Some (Word p) → after_instr claims u (Operate alu.ShiftLeft n (Register r) (Constant k)) s ≡ Some (slice_set s n (Some (Word (bytes k p))))
unfolding alu_value
shift_after claims u s n r k p inside small e =
    operate_after claims u s alu.ShiftLeft n (Register r) (Constant k) p k inside e (has_constant s k (omega (arith, small)))
    ∙ ap (λ m. Some (slice_set s n (Some (Word m)))) (shift_bytes k p small)
