-- A low program in the forms that are chosen for its items has its code.
use Rattle.asm_forms.specs.Layouts.{formed}
use Rattle.asm_forms.proofs.LikeLemmas.{formed_like}
use Rattle.asm_placed.proofs.Alike.{block_alike}
use Rattle.asm_program.specs.Functions.{program_items}
use Rattle.asm_prices.specs.Chosen.{ChosenHasCode}

pub chosen_has_code : ChosenHasCode
chosen_has_code m p r program words saved =
    record { program = program; words = words; saved = saved; like = λ f b i j. block_alike (program_items m p) (formed r (program_items m p)) f b (formed_like r (program_items m p)) }
