-- The machine follows each instruction but calls.
use Rattle.std.proofs.Common.{◌≡◌, ℕ, List, ◌∷◌, Option, Some, None, refl, ap}
use Rattle.rv_steps.specs.Steps.{Later}
use Rattle.rv_steps.proofs.LaterLemmas.{now}
use Rattle.low_ir.specs.declared.object.Kind.{Kind}
use Rattle.low_ir.specs.declared.places.Place.{Place}
use Rattle.low_ir.specs.declared.run.Value.{Value}
use Rattle.low_ir.specs.declared.run.Value.TheVariants.{Word, Pointer}
use Rattle.low_ir.specs.Code.{Operand, Address, Plain, Set, Operate, Point, Load, Store, Put, Get, Instr, Do}
use Rattle.low_ir.specs.Effects.{Did, address_reads, there, with_next, word, changes, with_objects, resolved, stored}
use Rattle.low_ir.specs.Runs.{operand_value, values_cons, values, finish, at_instr}
use Rattle.low_ir.specs.Places.{places}
use Rattle.simulation_relation.specs.Following.{PlacedRunning}
use Rattle.simulation_steps.proofs.Given.{Given}
use Rattle.simulation_steps.proofs.Plains.{Runs, Going_at, set_follows, operate_follows, get_follows}
use Rattle.simulation_steps.proofs.Arrays.{put_follows, point_follows, load_follows, store_follows}

module _ (g : Given) where
  -- the world with an element stored
  abbrev stores : PlacedRunning → Kind → ℕ → ℕ → ℕ → Option Did
  stores r kind v o k = there (stored r.world.objects kind o k v) (λ cs. changes (with_objects r.world cs))

  store_any : (r : PlacedRunning) (n : ℕ) (is : List (Instr Place (List ℕ))) (kind : Kind) (a : Address Place) (x : Operand Place) (h : Going_at g r n) → r.top.code ≡ Do (Store kind a x) ∷ is
      → (o : Option Value) (vs : Option (List Value)) → operand_value places r.top.store x ≡ o → values places r.top.store (address_reads a) ≡ vs
      → Later (Runs g (finish places r is None (there (values_cons o vs) (λ xs. with_next xs (λ p rest. word p (λ w. resolved g.layout.program.claims a rest (stores r kind w))))))) n
  store_any r n is kind a x h code_is None vs e1 e2 = now (Runs g (finish places r is None None)) n tt
  store_any r n is kind a x h code_is (Some (Pointer q b)) None e1 e2 = now (Runs g (finish places r is None None)) n tt
  store_any r n is kind a x h code_is (Some (Pointer q b)) (Some ys) e1 e2 = now (Runs g (finish places r is None None)) n tt
  store_any r n is kind a x h code_is (Some (Word v)) None e1 e2 = now (Runs g (finish places r is None None)) n tt
  store_any r n is kind a x h code_is (Some (Word v)) (Some ys) e1 e2 =
      store_follows g r n is kind a x h code_is v e1 (resolved g.layout.program.claims a ys (stores r kind v)) (ap (λ o. there o (λ xs. resolved g.layout.program.claims a xs (stores r kind v))) e2)

  -- from where the run is to where its instruction leads
  pub do_follows : (r : PlacedRunning) (n : ℕ) (i : Plain Place) (is : List (Instr Place (List ℕ))) (h : Going_at g r n) → r.top.code ≡ Do i ∷ is → Later (Runs g (at_instr places g.layout.program r (Do i) is)) n
  do_follows r n (Set d x) is h e = set_follows g r n is d x h e (operand_value places r.top.store x) refl
  do_follows r n (Operate operator d x y) is h e = operate_follows g r n is operator d x y h e (operand_value places r.top.store x) (operand_value places r.top.store y) refl refl
  do_follows r n (Point d a) is h e = point_follows g r n is d a h e _ refl
  do_follows r n (Load kind d a) is h e = load_follows g r n is kind d a h e _ refl
  do_follows r n (Store kind a x) is h e = store_any r n is kind a x h e (operand_value places r.top.store x) (values places r.top.store (address_reads a)) refl refl
  do_follows r n (Put x) is h e = put_follows g r n is x h e (operand_value places r.top.store x) refl
  do_follows r n (Get d) is h e = get_follows g r n is d h e
