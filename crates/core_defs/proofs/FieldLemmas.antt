-- The names of a text are fields.
use Rattle.std.proofs.Common.{◌++◌, flat_map, ℕ, Bool, true, false, List, [], ◌∷◌, Option, Some, None, is_some, if◌then◌else◌}
use Rattle.std.specs.Prelude.{All}
use Rattle.std.specs.List.{AllByRecursion}
use Rattle.std.proofs.lemmas.List.Elements.{All-cons, All-nil, All-append}
use Rattle.smps_words.specs.Line.{TextLine}
use Rattle.smps_words.specs.Field.{IsField}
use Rattle.smps_words.specs.Names.{place_of}
use Rattle.smps_words.proofs.FieldLemmas.{AreFields, HasFields}
use Rattle.core_defs.specs.declared.kinds.RowUse.{RowUse}
use Rattle.core_defs.specs.declared.kinds.RowUse.TheVariants as uses
use Rattle.core_defs.specs.declared.section.Section.{Section}
use Rattle.core_defs.specs.declared.section.Section.TheVariants as sections
use Rattle.core_defs.specs.Lines.{section_behind, fields_in, data_in, data_of}
use Rattle.core_defs.specs.Stated.{use_of, constraint_with, constraint_name, constraints, column_name, columns_named, with_new, distinct_from, columns}

field_if : (wanted at : Section) (line : TextLine) (none : Bool) → HasFields line → AllByRecursion (AreFields 6) (if none then [] else line.fields ∷ [])
field_if wanted at line true all = tt
field_if wanted at line false all = (all, tt)

both_all : (one other : List (List (List ℕ))) → AllByRecursion (AreFields 6) one → AllByRecursion (AreFields 6) other → AllByRecursion (AreFields 6) (one ++ other)
both_all [] other all more = more
both_all (fields ∷ one) other all more = (all.0, both_all one other all.1 more)

data_fields : (wanted before : Section) (lines : List TextLine) → AllByRecursion HasFields lines → AllByRecursion (AreFields 6) (data_in wanted before lines)
data_fields wanted before [] all = tt
data_fields wanted before (line ∷ lines) all = both_all (fields_in wanted before line) (data_in wanted (section_behind before line) lines) (field_if wanted before line _ all.0) (data_fields wanted (section_behind before line) lines all.1)

row_field : (u : Option RowUse) (name : List ℕ) → IsField name → All IsField (constraint_with u name)
row_field None name field = All-nil IsField
row_field (Some uses.Free) name field = All-nil IsField
row_field (Some (uses.Constraint kind)) name field = All-cons IsField name [] field (All-nil IsField)

line_row : (fields : List (List ℕ)) → AreFields 6 fields → All IsField (constraint_name fields)
line_row [] all = All-nil IsField
line_row (_ ∷ []) all = All-nil IsField
line_row (word ∷ name ∷ _) all = row_field (use_of word) name all.1.0

rows_fields : (data_ : List (List (List ℕ))) → AllByRecursion (AreFields 6) data_ → All IsField (flat_map constraint_name data_)
rows_fields [] all = All-nil IsField
rows_fields (fields ∷ data_) all = All-append IsField (constraint_name fields) (flat_map constraint_name data_) (line_row fields all.0) (rows_fields data_ all.1)

pub row_fields : (lines : List TextLine) → AllByRecursion HasFields lines → All IsField (constraints lines)
row_fields lines all = rows_fields (data_of sections.Rows lines) (data_fields sections.Rows sections.Start lines all)

named_fields : (data_ : List (List (List ℕ))) → AllByRecursion (AreFields 6) data_ → AllByRecursion IsField (flat_map column_name data_)
named_fields [] all = tt
named_fields ([] ∷ data_) all = named_fields data_ all.1
named_fields ((name ∷ _) ∷ data_) all = (all.0.0, named_fields data_ all.1)

new_field : (names : List (List ℕ)) (name : List ℕ) (there : Bool) → All IsField names → IsField name → All IsField (if there then names else names ++ name ∷ [])
new_field names name true all here = all
new_field names name false all here = All-append IsField names (name ∷ []) all (All-cons IsField name [] here (All-nil IsField))

distinct_fields : (seen names : List (List ℕ)) → All IsField seen → AllByRecursion IsField names → All IsField (distinct_from seen names)
distinct_fields seen [] all more = all
distinct_fields seen (name ∷ names) all more = distinct_fields (with_new seen name) names (new_field seen name (is_some (place_of seen name)) all more.0) more.1

pub column_fields : (lines : List TextLine) → AllByRecursion HasFields lines → All IsField (columns lines)
column_fields lines all = distinct_fields [] (columns_named lines) (All-nil IsField) (named_fields (data_of sections.Columns lines) (data_fields sections.Columns sections.Start lines all))
