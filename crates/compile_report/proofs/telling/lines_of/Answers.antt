use Rattle.std.proofs.Common.{◌++◌, length, sym, ap, ◌∙◌}
use Rattle.compile_report.specs.Sources.{names_of, tree_of}
use Rattle.compile_report.proofs.Lines.{as_many}
use Rattle.compile_report.proofs.telling.lines_of.Goals as goal

pub copy_lines-requires : goal.copy_lines-requires
copy_lines-requires c =
    let h = c.requires in
    let s = c.args.source.now in
    let m = c.args.made.now in
    let functions = c.in_ok-counted.ensures.items ∙ c.as_slice.ensures in
    let markers = c.as_slice-2.ensures in
    let counted = c.deref-2.ensures.value ∙ c.in_ok-extend_from_slice.ensures.items ∙ ap (λ l. l ++ c.as_slice-2.result.now) functions ∙ ap (λ l. s.facts.functions ++ l) markers in
    ap length c.deref-3.ensures.value ∙ as_many h.text (names_of s) (tree_of s) s.facts m h.is_source h.is_made ∙ sym (ap length counted)
