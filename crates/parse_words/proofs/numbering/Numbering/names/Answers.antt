use Rattle.std.proofs.Common.{◌∙◌, ap, arith, map, nat_eq, subst, sym}
use Rattle.std.proofs.lemmas.List.{take_all}
use Rattle.std.specs.Cmp.Lexicographic.{pointwise, bytes_decides}
use Rattle.c_tree.specs.Names.{AreDistinct}
use Rattle.parse_words.proofs.Names.{distinct}
use Rattle.parse_words.proofs.numbering.Numbering.names.Goals as goal

pub returns-clause-distinct : goal.returns-clause-distinct
returns-clause-distinct c =
    let once = distinct (λ key. key.now) (λ x y. pointwise nat_eq x.now y.now) (λ x y. (bytes_decides x.now y.now).1) c.self.inside.set.keys c.as_slice-keys.ensures.unique in
    let all = take_all c.loop-name.name-index c.as_slice-keys.result.now (omega arith) in
    subst AreDistinct (sym (c.loop-name.invariant ∙ ap (map (λ key. key.now)) (all ∙ c.as_slice-keys.ensures.keys))) once
