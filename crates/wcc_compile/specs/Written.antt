-- What is written of a compilation.
use Rattle.std.specs.Prelude.{◌≡◌, ℕ, List}
use Rattle.elf_image.specs.Text.{text_of}
use Rattle.report_text.specs.Lines.{report_text}
use Rattle.promise_compiler.specs.declared.built.Options.{Options}
use Rattle.wcc_compile.specs.Built.{IsBuilt}
use Rattle.wcc_compile.specs.declared.built.Built.{Built}

-- the texts of the image and of the report of a compilation that went through every stage with these options: each pass with its number,
-- and the choice of what lies in the scratchpad with its capacity
pub record IsWritten (options : Options) (source image report : List ℕ) : Type 0 where
  pub built : Built
  pub is_built : IsBuilt options source built
  pub image_is : image ≡ text_of built.made.laid.image
  pub report_is : report ≡ report_text built.report
