-- What names stand for behind parts of a source.
use Rattle.std.proofs.Common.{◌≡◌, ℕ, Bool, true, false, length}
use Rattle.types_rules.specs.Scope.{Around, entered, is_array, with_object, with_routine}
use Rattle.types_rules.specs.declared.scope.Binding.{Binding}
use Rattle.types_rules.specs.declared.scope.Binding.TheVariants.{Object as Thing, Function as Routine}
use Rattle.types_rules.specs.declared.scope.Routine.{Routine as Signature}
use Rattle.types_tree.specs.declared.variable.Extent.{Extent}
use Rattle.types_value.specs.declared.kind.Kind.{Kind as CType}
use Rattle.plan_definition.specs.declared.home.Home.{Home}
use Rattle.plan_definition.specs.declared.home.Home.TheVariants.{Frame, Memory}
use Rattle.high_ir.specs.declared.object.Base.{Base}
use Rattle.high_ir.specs.declared.object.Base.TheVariants.{Object, Parameter}
use Rattle.plan_runs.specs.ExpressionFits.{Function, IsArrayHome, IsNamed, IsScalar, Signatures}
use Rattle.plan_runs.specs.Meets.{Layout, home}
use Rattle.types_seen.specs.Growing.{Grows}
use Rattle.types_seen.proofs.Scopes as scopes
use Rattle.plan_served.specs.Seen.{IsKnown, IsObjectSeen, IsSeen, Knows, LivesAs, Sees}

scalar_wider : (layout : Layout) (f g : Function) (o : ℕ) (h : Home) → (f.live o ≡ true → g.live o ≡ true) → IsScalar layout f o h → IsScalar layout g o h
scalar_wider layout f g o (Frame x) w s = w s
scalar_wider layout f g o (Memory array) w s = s

named_wider : (layout : Layout) (f g : Function) (o : ℕ) (b : Base) → (f.live o ≡ true → g.live o ≡ true) → IsNamed layout f o b → IsNamed layout g o b
named_wider layout f g o (Object n) w s = tt
named_wider layout f g o (Parameter j) w s = w s

array_wider : (layout : Layout) (f g : Function) (o : ℕ) (h : Home) → (f.live o ≡ true → g.live o ≡ true) → IsArrayHome layout f o h → IsArrayHome layout g o h
array_wider layout f g o (Frame x) w s = s
array_wider layout f g o (Memory array) w s = named_wider layout f g o array.base w s

lives_wider : (array : Bool) (layout : Layout) (f g : Function) (o : ℕ) → (f.live o ≡ true → g.live o ≡ true) → LivesAs array layout f o → LivesAs array layout g o
lives_wider false layout f g o w s = scalar_wider layout f g o (home layout o) w s
lives_wider true layout f g o w s = array_wider layout f g o (home layout o) w s

seen_wider : (layout : Layout) (f g : Function) (b : Binding) → ((o : ℕ) → f.live o ≡ true → g.live o ≡ true) → IsSeen layout f b → IsSeen layout g b
seen_wider layout f g (Thing number kind const array) w s = record { kind_is = s.kind_is; stores = s.stores; lives = lives_wider array layout f g number.0 (w number.0) s.lives }
seen_wider layout f g Routine w s = tt

module _ (layout : Layout) where
  -- where more objects live
  pub sees_wider : (f g : Function) (a : Around) → ((o : ℕ) → f.live o ≡ true → g.live o ≡ true) → Sees layout f a → Sees layout g a
  sees_wider f g a w s = record {
    here = λ name b e. seen_wider layout f g b w (s.here name b e);
    outside = λ name b e. seen_wider layout f g b w (s.outside name b e);
    typed = s.typed;
    typed_outside = s.typed_outside;
  }

  pub sees_entered : (f : Function) (a : Around) → Sees layout f a → Sees layout f (entered a)
  sees_entered f a s = scopes.sees_entered (IsSeen layout f) a s

  -- where the same names are visible
  pub sees_same : (f : Function) (a b : Around) → Grows a b → b.outer ≡ a.outer → b.scope ≡ a.scope → Sees layout f a → Sees layout f b
  sees_same f a b g outer scope s = scopes.sees_same (IsSeen layout f) a b g outer scope s

  pub sees_object : (f : Function) (name : ℕ) (kind : CType) (const : Bool) (extent : Extent) (a : Around) → Sees layout f a → IsObjectSeen layout f (length a.variables) kind const (is_array extent) → Sees layout f (with_object name kind const extent a)
  sees_object f name kind const extent a s o = scopes.sees_object (IsSeen layout f) name kind const extent a s o

  pub sees_routine : (f : Function) (name : ℕ) (t : Signature) (a : Around) → Sees layout f a → Sees layout f (with_routine name t a)
  sees_routine f name t a s = scopes.sees_routine (IsSeen layout f) name t a tt s

-- what is known later was known before
pub knows_before : (signatures : Signatures) (a b : Around) → Grows a b → Knows signatures b → Knows signatures a
knows_before signatures a b g k = scopes.knows_before (IsKnown signatures) a b g k
