use Rattle.std.proofs.Common.{◌≡◌, refl, ap, ◌∙◌}
use Rattle.c_tree.specs.Tree.{Nothing}
use Rattle.c_tree.specs.Units.{tree_of}
use Rattle.types_rules.specs.Sights.{outline_of}
use Rattle.c_types.specs.Outline.{outline_from}
use Rattle.c_types.proofs.Outlines.{outline_from-row, outlined}
use Rattle.c_tree.specs.View.{external_of, row_of}
use Rattle.c_types.proofs.outline.outline.Goals as goal

pub returns : goal.returns
returns c =
    let items = c.args.unit.now.items.items in
    let whole = row_of external_of Nothing items in
    let main = c.in_ok-main.main in
    let getchar = c.in_ok-getchar.getchar in
    let putchar = c.in_ok-putchar.putchar in
    let noted : c.note_all.new.known ≡ outlined whole main getchar putchar =
    c.in_ok-note_all.ensures ∙ ap (λ xs. outline_from xs c.new-known.result) c.deref.ensures.value ∙ ap (outline_from items) c.new-known.ensures ∙ outline_from-row Nothing items main getchar putchar in
    let named : outlined whole main getchar putchar ≡ outline_of c.args.unit.now.names.items (tree_of c.args.unit.now) =
    rw (c.in_ok-main.ensures, c.in_ok-getchar.ensures, c.in_ok-putchar.ensures, c.number_of.ensures, c.number_of-2.ensures, c.number_of-3.ensures, c.as_slice-names.ensures.value) refl in
    noted ∙ named
