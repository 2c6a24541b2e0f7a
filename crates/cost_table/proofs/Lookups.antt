-- What a look-up in a document finds.
use Rattle.std.proofs.Common.{◌≡◌, ◌∙◌, ap, sym, Option, Some, None, option_map, Bor}
use Rattle.toml.specs.Data.{Data}
use Rattle.toml.specs.View.{view}
use Rattle.toml.specs.declared.value.Value.{Value}

pub found_some : (r : Option (Bor Value)) (o : Option Data) (v : Bor Value) → option_map (λ x. view x.now) r ≡ o → r ≡ Some v → o ≡ Some (view v.now)
found_some r o v e is = sym e ∙ ap (option_map (λ x. view x.now)) is

pub found_none : (r : Option (Bor Value)) (o : Option Data) → option_map (λ x. view x.now) r ≡ o → r ≡ None → o ≡ None
found_none r o e is = sym e ∙ ap (option_map (λ x. view x.now)) is
