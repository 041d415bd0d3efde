-- The sections of a core file and their order.
use Rattle.std.specs.Prelude.{ℕ, Bool, List, Option, Some, None, codes, nat_eq, if◌then◌else◌}
use Rattle.smps_words.specs.Names.{same_name}
use Rattle.core_defs.specs.declared.section.Section.{Section}
use Rattle.core_defs.specs.declared.section.Section.TheVariants as section

-- the section that a header's first word names
abbrev pub section_of : List ℕ → Option Section
section_of word =
    if same_name word (codes "NAME") then Some section.Name
    else (if same_name word (codes "ROWS") then Some section.Rows
    else (if same_name word (codes "COLUMNS") then Some section.Columns
    else (if same_name word (codes "RHS") then Some section.Rhs
    else (if same_name word (codes "RANGES") then Some section.Ranges
    else (if same_name word (codes "BOUNDS") then Some section.Bounds
    else (if same_name word (codes "ENDATA") then Some section.End else None))))))

-- the place in the order of sections
abbrev pub rank : Section → ℕ
rank section.Start = 0
rank section.Name = 1
rank section.Rows = 2
rank section.Columns = 3
rank section.Rhs = 4
rank section.Ranges = 5
rank section.Bounds = 6
rank section.End = 7

abbrev pub same_section : Section → Section → Bool
same_section one other = nat_eq (rank one) (rank other)

abbrev pub is_end : Section → Bool
is_end at = same_section at section.End
