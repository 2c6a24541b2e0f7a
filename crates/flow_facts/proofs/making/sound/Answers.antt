use Rattle.std.proofs.Common.{◌∙◌, ap, rules}
use Rattle.std.specs.Prelude.{Ok}
use Rattle.types_tree.specs.View.{program_of}
use Rattle.flow_facts.proofs.Outcome.{sound_whole, too_often}
use Rattle.flow_facts.proofs.making.sound.Goals as goal

pub returns-then-most-ge-TOO_OFTEN : goal.returns-then-most-ge-TOO_OFTEN
returns-then-most-ge-TOO_OFTEN c =
    too_often (program_of c.args.program.now) c.args.program.now.names.items c.args.ranks.now c.args.known.now c.args.sites.now c.in_ok-bounds.bounds.items c.in_ok-most.most
    c.requires.sites c.requires.known (search rules) (search rules) c.if-most-ge-TOO_OFTEN.true

pub returns : goal.returns
returns c =
    ap Ok c.in_ok-facts.ensures
    ∙ sound_whole (program_of c.args.program.now) c.args.program.now.names.items c.args.ranks.now c.args.known.now c.args.sites.now c.in_ok-bounds.bounds.items c.in_ok-most.most
    c.requires.sites c.requires.known (search rules) (search rules) c.if-most-ge-TOO_OFTEN.false
