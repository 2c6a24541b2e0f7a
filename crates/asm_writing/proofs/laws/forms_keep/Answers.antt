use Rattle.asm_writing.proofs.FormLemmas.{forms-keep}
use Rattle.asm_writing.proofs.laws.forms_keep.Goals as goal

pub returns : goal.returns
returns c = forms-keep
