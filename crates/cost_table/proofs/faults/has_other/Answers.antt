use Rattle.std.proofs.Common.{◌≡◌, ◌∙◌, ◌∷◌, sym, refl, arith, string_bytes, map, true, false}
use Rattle.std.proofs.lemmas.Grind.{common_steps}
use Rattle.toml.proofs.Views.{Entry}
use Rattle.cost_table.specs.Keys.{is_key}
use Rattle.cost_table.specs.Held.{key_of}
use Rattle.cost_table.proofs.faults.has_other.Goals as goal

pub returns-then-not-is_key : goal.returns-then-not-is_key
returns-then-not-is_key c =
    let (can, finite, same) = c.loop-name.invariant in
    let e : Entry = (c.in-Some.name.now, c.in-Some.field-0-1.now) in
    let iter : c.loop-name.name-iterator ≡ e ∷ c.next.new.self = grind (arith, common_steps) in
    let known : is_key (map key_of c.args.keys.now) (string_bytes c.in-Some.name.now) ≡ false = grind (arith, common_steps) in
    sym (rw (iter, known) refl) ∙ same

pub loop-name-preserved : goal.loop-name-preserved
loop-name-preserved c =
    let (can, finite, same) = c.loop-name.invariant in
    let e : Entry = (c.in-Some.name.now, c.in-Some.field-0-1.now) in
    let iter : c.loop-name.name-iterator ≡ e ∷ c.next.new.self = grind (arith, common_steps) in
    let known : is_key (map key_of c.args.keys.now) (string_bytes c.in-Some.name.now) ≡ true = grind (arith, common_steps) in
    (tt, tt, sym (rw (iter, known) refl) ∙ same)
