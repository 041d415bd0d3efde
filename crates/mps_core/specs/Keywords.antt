-- The codes of keywords.
use Rattle.std.specs.Prelude.{ℕ, Option, Some, None, nat_eq, if◌then◌else◌}
use Rattle.core_defs.specs.declared.kinds.BoundKind.{BoundKind}
use Rattle.core_defs.specs.declared.kinds.BoundKind.TheVariants as bounds
use Rattle.core_defs.specs.declared.section.Section.{Section}
use Rattle.core_defs.specs.declared.section.Section.TheVariants as sections

-- the section with the code, where there is one
abbrev pub section_at : Option ℕ → Option Section
section_at None = None
section_at (Some code) =
    if nat_eq code 1 then Some sections.Name
    else (if nat_eq code 2 then Some sections.Rows
    else (if nat_eq code 3 then Some sections.Columns
    else (if nat_eq code 4 then Some sections.Rhs
    else (if nat_eq code 5 then Some sections.Ranges
    else (if nat_eq code 6 then Some sections.Bounds
    else (if nat_eq code 7 then Some sections.End else None))))))

-- the kind of bounds with the code, where there is one
abbrev pub bound_kind_at : Option ℕ → Option BoundKind
bound_kind_at None = None
bound_kind_at (Some code) =
    if nat_eq code 1 then Some bounds.Lower
    else (if nat_eq code 2 then Some bounds.Upper
    else (if nat_eq code 3 then Some bounds.Fixed
    else (if nat_eq code 4 then Some bounds.Free
    else (if nat_eq code 5 then Some bounds.NoLower
    else (if nat_eq code 6 then Some bounds.NoUpper else None)))))
