-- The line of each status that ends a command before anything is written.
use Rattle.std.specs.Prelude.{ℕ, List, [], ◌∷◌, ◌++◌, ◌==◌, codes, if◌then◌else◌}
use Rattle.std.specs.Fmt.{decimal}
use Rattle.wcc_base.specs.declared.limits.Bound.{Bound}
use Rattle.wcc_base.specs.declared.limits.Bound.TheVariants.{Source, Table, Image, Report, Input, Tasks, Depth, Nodes, Functions, Parameters, Markers, Restrictions, Globals, Locals, Most}
use Rattle.wcc_base.specs.declared.status.Status.{Status}
use Rattle.wcc_base.specs.declared.status.Status.TheVariants as status
use Rattle.command_perform.specs.Lines.{row, address_text}

-- the word of a quantity that has a limit
abbrev pub bound_text : Bound → List ℕ
bound_text Source = codes "source"
bound_text Table = codes "table"
bound_text Image = codes "image"
bound_text Report = codes "report"
bound_text Input = codes "input"
bound_text Tasks = codes "tasks"
bound_text Depth = codes "depth"
bound_text Nodes = codes "nodes"
bound_text Functions = codes "functions"
bound_text Parameters = codes "parameters"
bound_text Markers = codes "markers"
bound_text Restrictions = codes "restrictions"
bound_text Globals = codes "globals"
bound_text Locals = codes "locals"
bound_text Most = codes "most"

-- what is refused, by its code; some words have the detail behind them
abbrev pub refused_text : ℕ → ℕ → List ℕ
refused_text code detail =
    if code == 1 then codes "bad"
    else (if code == 2 then codes "outside"
    else (if code == 3 then codes "syntax"
    else (if code == 4 then codes "type-" ++ decimal detail
    else (if code == 5 then codes "recursion"
    else (if code == 6 then codes "pragma"
    else (if code == 7 then codes "name"
    else (if code == 8 then codes "bound"
    else (if code == 9 then codes "table-" ++ decimal detail
    else (if code == 10 then codes "image-" ++ decimal detail
    else (if code == 12 then codes "tasks-" ++ decimal detail
    else codes "report-" ++ decimal detail))))))))))

-- what of a certificate, or of what it speaks of, fails, by its code: some say where, by a number or by an address
abbrev pub failed_line : ℕ → ℕ → ℕ → List ℕ
failed_line code detail at =
    if code == 1 then row (codes "no image-" ∷ decimal detail ∷ codes " " ∷ decimal at ∷ codes "\n" ∷ [])
    else (if code == 2 then row (codes "no report-" ∷ decimal detail ∷ codes " " ∷ decimal at ∷ codes "\n" ∷ [])
    else (if code == 3 then row (codes "no claim " ∷ decimal at ∷ codes "\n" ∷ [])
    else (if code == 4 then row (codes "no code " ∷ address_text at ∷ codes "\n" ∷ [])
    else (if code == 5 then row (codes "no missing " ∷ address_text at ∷ codes "\n" ∷ [])
    else (if code == 6 then row (codes "no sign " ∷ decimal at ∷ codes "\n" ∷ [])
    else (if code == 7 then row (codes "no wide " ∷ address_text at ∷ codes "\n" ∷ [])
    else (if code == 8 then row (codes "no move " ∷ address_text at ∷ codes " " ∷ decimal detail ∷ codes "\n" ∷ [])
    else (if code == 9 then row (codes "no value\n" ∷ [])
    else (if code == 10 then row (codes "no flow " ∷ address_text at ∷ codes "\n" ∷ [])
    else (if code == 11 then row (codes "no unmet " ∷ decimal at ∷ codes "\n" ∷ [])
    else (if code == 12 then row (codes "no greatest\n" ∷ [])
    else (if code == 13 then row (codes "no empty\n" ∷ [])
    else row (codes "no share " ∷ address_text at ∷ codes "\n" ∷ [])))))))))))))

-- the line of a status. What was made has lines of its own, so that of Done and that of Stopped are empty
abbrev pub line_of : Status → List ℕ
line_of (status.Refused code detail at) = row (codes "refused " ∷ refused_text code detail ∷ codes " at " ∷ decimal at ∷ codes "\n" ∷ [])
line_of status.Usage = row (codes "usage\n" ∷ [])
line_of (status.Limit which found) = row (codes "limit " ∷ bound_text which ∷ codes " " ∷ decimal found ∷ codes "\n" ∷ [])
line_of status.ReadFault = row (codes "read fault\n" ∷ [])
line_of status.WriteFault = row (codes "write fault\n" ∷ [])
line_of status.Memory = row (codes "memory\n" ∷ [])
line_of (status.No code detail at) = failed_line code detail at
line_of s = []
