use Rattle.report_lines.proofs.LetterLemmas.{letters_whole}
use Rattle.report_lines.proofs.labels.letters.Goals as goal

pub returns : goal.returns
returns c = letters_whole _ _ _ c.args.word.now c.strip-flash.result.1.now c.strip-spm.result.1.now c.strip-ram.result.1.now c.strip-flash.ensures.split c.strip-spm.ensures.split c.strip-ram.ensures.split c.strip-flash.ensures.absent c.strip-spm.ensures.absent c.strip-ram.ensures.absent c.requires
