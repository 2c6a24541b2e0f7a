use Rattle.std.proofs.Common.{◌∙◌, ap, map, sym}
use Rattle.std.specs.Cmp.Lexicographic.{bytes_decides}
use Rattle.c_tree.specs.Names.{with_name}
use Rattle.parse_words.proofs.Names.{named_at, with_key}
use Rattle.parse_words.proofs.numbering.Numbering.number.Goals as goal

pub returns-clause-names : goal.returns-clause-names
returns-clause-names c = ap (map (λ key. key.now)) c.in_ok-index.ensures.keys ∙ with_key (λ key. key.now) c.self.inside.set.keys c.args.name ∙ ap (λ names. with_name names c.args.name.now) c.self.view_is

pub returns-clause-named : goal.returns-clause-named
returns-clause-named c =
    let stored = c.in_ok-index.ensures.stored in
    λ more. rw c.in_ok-id.ensures (named_at (λ key. key.now) c.insert_full.new.self.keys c.in_ok-index.index stored.0 more stored.1 ∙ sym ((bytes_decides c.args.name.now stored.0.now).0 stored.2))
