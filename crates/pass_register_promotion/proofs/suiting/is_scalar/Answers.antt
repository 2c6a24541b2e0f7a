use Rattle.std.proofs.Common.{◌≡◌, Some, ap, length, option_map, refl, ◌∙◌}
use Rattle.std.specs.Prelude.{slice_get}
use Rattle.std.proofs.lemmas.Option.{slice_get-map, slice_get_read}
use Rattle.low_ir.specs.View.{object_of}
use Rattle.pass_register_promotion.proofs.suiting.is_scalar.Goals as goal

pub returns-in-Some : goal.returns-in-Some
returns-in-Some c = λ done.
    let n = c.args.resident.object in
    let objects = c.args.objects.now in
    let b = c.in-Some.object.now in
    let got : slice_get objects n ≡ Some b = slice_get_read objects (length objects) n b refl c.in-Some.ensures.lookup.3.0 c.in-Some.ensures.lookup.1 in
    record {
      object = object_of b;
      there = slice_get-map object_of objects n ∙ ap (option_map object_of) got;
      alike = c.is_global.ensures.alike done;
      storage = c.is_global.ensures.storage done;
      size = c.is_global.ensures.size done;
    }
