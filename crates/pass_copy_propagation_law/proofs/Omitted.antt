-- Instructions that change nothing but a register.
use Rattle.std.proofs.Common.{◌≡◌, ◌+◌, ℕ, Bool, true, false, List, [], ◌∷◌, length, Option, Some, None, sym, ap, ◌∙◌, subst, get_or-set_other}
use Rattle.std.specs.Prelude.{◌%◌, ◌^◌, nat_lt, slice_index_or, slice_set}
use Rattle.rv_core.specs.Arithmetic.{alu_value}
use Rattle.low_ir.specs.declared.run.Value.{Value}
use Rattle.low_ir.specs.declared.run.Value.TheVariants.{Word, Pointer}
use Rattle.low_ir.specs.Code.{Base, Fixed, Through, Address, Plain, Set, Operate, Point, Load, Store, Put, Get, Do}
use Rattle.low_ir.specs.Effects.{Did, World, by_offset, dest, effect, effect_of, from_base, gives, is_member, loaded, nothing_more, only_if, resolved, there, word}
use Rattle.low_ir.specs.Runs.{Bank, set_in, virtual, write_to}
use Rattle.pass_copy_propagation_law.specs.Copies.{Forgets, Standing, WritesOnly}
use Rattle.pass_copy_propagation_law.proofs.Stores.{Shows}

pub writes_dest : (i : Plain ℕ) (d : ℕ) → WritesOnly (Do i) d → dest i ≡ Some d
writes_dest (Set d x) e only = ap Some only
writes_dest (Operate operator d x y) e only = ap Some only
writes_dest (Point d a) e only = ap Some only
writes_dest (Load kind d a) e only = ap Some only
writes_dest (Store kind a x) e only = absurd only
writes_dest (Put x) e only = absurd only
writes_dest (Get d) e only = absurd only

-- what goes on from an address leaves the world as it is
module _ (u : World) where
  stays_given : (x : Value) → (did : Did) → gives u x ≡ Some did → did.world ≡ u
  stays_given x did e = let same : record { world = u; value = x } ≡ did = cc in ap (λ (z : Did). z.world) (sym same)

  none_more : (xs : List Value) (o : Option Did) → ((did : Did) → o ≡ Some did → did.world ≡ u) → (did : Did) → nothing_more xs o ≡ Some did → did.world ≡ u
  none_more [] o h did e = h did e
  none_more (x ∷ xs) o h did e = cc

  if_word : (x : Value) (go : ℕ → Option Did) → ((n : ℕ) (did : Did) → go n ≡ Some did → did.world ≡ u) → (did : Did) → word x go ≡ Some did → did.world ≡ u
  if_word (Word w) go h did e = h w did e
  if_word (Pointer o n) go h did e = cc

  if_only : (b : Bool) (o : Option Did) → ((did : Did) → o ≡ Some did → did.world ≡ u) → (did : Did) → only_if b o ≡ Some did → did.world ≡ u
  if_only false o h did e = cc
  if_only true o h did e = h did e

  offset_stays : (o : Option ℕ) (xs : List Value) (go : ℕ → Option Did) → ((n : ℕ) (did : Did) → go n ≡ Some did → did.world ≡ u) → (did : Did) → by_offset o xs go ≡ Some did → did.world ≡ u
  offset_stays None xs go h did e = none_more xs (go 0) (h 0) did e
  offset_stays (Some r) [] go h did e = cc
  offset_stays (Some r) (x ∷ rest) go h did e = none_more rest (word x go) (if_word x go h) did e

  address_stays : (claims : List (List ℕ)) (a : Address ℕ) (xs : List Value) (go : ℕ → ℕ → Option Did) → ((o n : ℕ) (did : Did) → go o n ≡ Some did → did.world ≡ u) → (did : Did) → resolved claims a xs go ≡ Some did → did.world ≡ u
  address_stays claims a xs go h did e = by_base a.base xs e
    where
      go_on : ℕ → ℕ → List Value → Option Did
      go_on o n rest = by_offset a.offset rest (λ w. go o ((n + w + a.displacement) % 2 ^ 32))

      goes_on : (o n : ℕ) (rest : List Value) → go_on o n rest ≡ Some did → did.world ≡ u
      goes_on o n rest k = offset_stays a.offset rest (λ w. go o ((n + w + a.displacement) % 2 ^ 32)) (λ w. h o ((n + w + a.displacement) % 2 ^ 32)) did k

      by_base : (b : Base ℕ) (xs : List Value) → from_base claims b xs go_on ≡ Some did → did.world ≡ u
      by_base (Fixed o) xs k = goes_on o 0 xs k
      by_base (Through r c) [] k = cc
      by_base (Through r c) (Word w ∷ rest) k = cc
      by_base (Through r c) (Pointer o n ∷ rest) k = if_only (is_member (slice_index_or claims c []) o) (go_on o n rest) (λ d2 e2. offset_stays a.offset rest (λ w. go o ((n + w + a.displacement) % 2 ^ 32)) (λ w. h o ((n + w + a.displacement) % 2 ^ 32)) d2 e2) did k

  loaded_stays : (x : Option ℕ) (did : Did) → there x (λ w. gives u (Word w)) ≡ Some did → did.world ≡ u
  loaded_stays None did e = cc
  loaded_stays (Some w) did e = stays_given (Word w) did e

  effect_stays : (claims : List (List ℕ)) (i : Plain ℕ) (xs : List Value) (did : Did) (d : ℕ) → WritesOnly (Do i) d → effect claims i xs u ≡ Some did → did.world ≡ u
  effect_stays claims (Set d x) [] did c only e = cc
  effect_stays claims (Set d x) (y ∷ rest) did c only e = none_more rest (gives u y) (stays_given y) did e
  effect_stays claims (Operate operator d x y) [] did c only e = cc
  effect_stays claims (Operate operator d x y) (p ∷ []) did c only e = cc
  effect_stays claims (Operate operator d x y) (p ∷ q ∷ rest) did c only e =
      none_more rest (word p (λ m. word q (λ n. gives u (Word (alu_value operator m n)))))
      (if_word p (λ m. word q (λ n. gives u (Word (alu_value operator m n)))) (λ m. if_word q (λ n. gives u (Word (alu_value operator m n))) (λ n. stays_given (Word (alu_value operator m n))))) did e
  effect_stays claims (Point d a) xs did c only e = address_stays claims a xs (λ o n. gives u (Pointer o n)) (λ o n. stays_given (Pointer o n)) did e
  effect_stays claims (Load kind d a) xs did c only e = address_stays claims a xs (λ o n. there (loaded u.objects kind o n) (λ w. gives u (Word w))) (λ o n. loaded_stays (loaded u.objects kind o n)) did e
  effect_stays claims (Store kind a x) xs did c only e = absurd only
  effect_stays claims (Put x) xs did c only e = absurd only
  effect_stays claims (Get d) xs did c only e = absurd only

pub world_stays : (claims : List (List ℕ)) (i : Plain ℕ) (os : Option (List Value)) (u : World) (did : Did) (d : ℕ) → WritesOnly (Do i) d → effect_of claims i os u ≡ Some did → did.world ≡ u
world_stays claims i None u did d only e = cc
world_stays claims i (Some xs) u did d only e = effect_stays u claims i xs did d only e

-- a value was written in the first alone, and stands nowhere
pub value_forgotten : (at now : Standing) (s s2 t : Bank) (d : ℕ) (y : Value) → Forgets d at now → Shows at s t → write_to virtual s (Some d) y ≡ Some s2 → Shows now s2 t
value_forgotten at now s s2 t d y forgets h k = by_test (nat_lt d (length s)) k
  where
    by_test : (c : Bool) → set_in s d y c ≡ Some s2 → Shows now s2 t
    by_test false k = cc
    by_test true k =
        let is : slice_set s d (Some y) ≡ s2 = cc in
        subst (λ l. Shows now l t) is (λ v w q. let f = forgets v w q in get_or-set_other s d v (Some y) None f.0 ∙ h v w f.1)
