-- A core file that memory can hold has a core.
use Rattle.std.proofs.Common.{◌≡◌, ◌≤◌, ◌<◌, ◌^◌, ◌+◌, ap, flat_map, ℕ, suc, Bool, true, false, List, [], ◌∷◌, Option, Some, None, length, nat_eq, nat_lt, refl, arith, if◌then◌else◌}
use Rattle.std.proofs.lemmas.List.{length-append}
use Rattle.std.specs.Prelude.{Vec}
use Rattle.std.specs.List.{AllByRecursion}
use Rattle.std.specs.declared.alloc.Global.{Global}
use denote.RawPtr.{null_ptr}
use Rattle.smps_words.specs.Line.{TextLine, grow, split_lines, is_skipped, line_of, read_lines, reading_of}
use Rattle.smps_words.proofs.FieldLemmas.{HasFields}
use Rattle.core_defs.specs.declared.kinds.RowUse.{RowUse}
use Rattle.core_defs.specs.declared.kinds.RowUse.TheVariants as uses
use Rattle.core_defs.specs.declared.program.Core.{Core}
use Rattle.core_defs.specs.declared.section.Section.{Section}
use Rattle.core_defs.specs.declared.section.Section.TheVariants as sections
use Rattle.core_defs.specs.Core.{row_names, column_names, IsCore}
use Rattle.core_defs.specs.Filed.{Filed, closed}
use Rattle.core_defs.specs.Finished.{row_defs, column_defs, IsCoreOf}
use Rattle.core_defs.specs.Lines.{section_behind, fields_in, data_in, data_of, has_section}
use Rattle.core_defs.specs.Means.{Means}
use Rattle.core_defs.specs.Stated.{name_of_set, use_of, free_with, free_name, free_rows}
use Rattle.core_defs.proofs.CoreLemmas.{core_is}
use Rattle.core_defs.proofs.FieldLemmas.{row_fields, column_fields}
use Rattle.core_defs.proofs.Gathered.{data_on, filed_of, Sound}
use Rattle.core_defs.proofs.MeansLemmas.{means}

-- ---- a core is made of its parts

heap : Global
heap = record { memory = record { seal = tt } }

list_of : {X : Type 0} (items : List X) → length items < 2 ^ 63 → Vec X Global
list_of items few = record {
  ptr = null_ptr;
  len = length items;
  cap = length items;
  alloc = heap;
  items = items;
  ok = (refl, omega arith);
  small = few;
}

core_made : (f : Filed) (objective : List ℕ) (skipped : List (List ℕ)) → f.free ≡ objective ∷ skipped → length skipped < 2 ^ 63
    → IsCore (row_defs f 0 f.rows) (column_defs f 0 (closed f).parts) → length (row_defs f 0 f.rows) < 2 ^ 63 → length (column_defs f 0 (closed f).parts) < 2 ^ 63
    → (core : Core) × IsCoreOf f core
unfolding list_of
core_made f objective skipped free few keeps few_rows few_columns =
    let core : Core = record {
      objective = objective;
      skipped = list_of skipped few;
      rhs_set = name_of_set f.rhs_set;
      rows = list_of (row_defs f 0 f.rows) few_rows;
      columns = list_of (column_defs f 0 (closed f).parts) few_columns;
      row_names = row_names (row_defs f 0 f.rows);
      column_names = column_names (column_defs f 0 (closed f).parts);
      rows_named = refl;
      columns_named = refl;
      keeps = keeps;
    } in
    (core, record { free = free; rhs_set = refl; rows = refl; columns = refl })

-- ---- there are no more N rows than lines, and no more lines than bytes

free_use : (kind : Option RowUse) (name : List ℕ) → length (free_with kind name) ≤ 1
free_use None name = omega arith
free_use (Some uses.Free) name = omega arith
free_use (Some (uses.Constraint kind)) name = omega arith

one_free : (fields : List (List ℕ)) → length (free_name fields) ≤ 1
one_free [] = omega arith
one_free (_ ∷ []) = omega arith
one_free (word ∷ name ∷ _) = free_use (use_of word) name

free_few : (data_ : List (List (List ℕ))) → length (flat_map free_name data_) ≤ length data_
free_few [] = omega arith
free_few (fields ∷ data_) = omega (arith, length-append (free_name fields) (flat_map free_name data_), one_free fields, free_few data_)

one_line : (none : Bool) (fields : List (List ℕ)) → length (if none then [] else fields ∷ []) ≤ 1
one_line true fields = omega arith
one_line false fields = omega arith

data_few : (wanted before : Section) (lines : List TextLine) → length (data_in wanted before lines) ≤ length lines
data_few wanted before [] = omega arith
data_few wanted before (line ∷ lines) =
    let here : length (fields_in wanted before line) ≤ 1 = one_line _ line.fields in
    omega (arith, length-append (fields_in wanted before line) (data_in wanted (section_behind before line) lines), here, data_few wanted (section_behind before line) lines)

grow_few : (byte : ℕ) (pieces : List (List ℕ)) → length (grow byte pieces) ≤ suc (length pieces)
grow_few byte [] = omega arith
grow_few byte (piece ∷ pieces) = omega arith

pieces_few : (text : List ℕ) → length (split_lines text) ≤ length text
pieces_few [] = omega arith
pieces_few (byte ∷ bytes) = go (nat_eq byte 10) (pieces_few bytes)
  where
    go : (feed : Bool) → length (split_lines bytes) ≤ length bytes → length (if feed then [] ∷ split_lines bytes else grow byte (split_lines bytes)) ≤ suc (length bytes)
    go true fewer = omega (arith, fewer)
    go false fewer = omega (arith, grow_few byte (split_lines bytes), fewer)

read_few : (before : ℕ) (pieces : List (List ℕ)) → length (read_lines before pieces) ≤ length pieces
read_few before [] = omega arith
read_few before (bytes ∷ pieces) = go (is_skipped bytes) (read_few (before + 1) pieces)
  where
    go : (skipped : Bool) → length (read_lines (before + 1) pieces) ≤ length pieces → length (if skipped then read_lines (before + 1) pieces else line_of (before + 1) bytes ∷ read_lines (before + 1) pieces) ≤ suc (length pieces)
    go true fewer = omega (arith, fewer)
    go false fewer = omega (arith, fewer)

pub free_within : (text : List ℕ) → length (free_rows (reading_of 0 text).lines) ≤ length text
free_within text =
    let lines : List TextLine = (reading_of 0 text).lines in
    omega (arith, free_few (data_of sections.Rows lines), data_few sections.Rows sections.Start lines, read_few 0 (split_lines text), pieces_few text)

-- ---- the core of what is filed

with_objective : (f : Filed) (free : List (List ℕ)) → f.free ≡ free → nat_lt 0 (length free) ≡ true → length free < 2 ^ 63
    → IsCore (row_defs f 0 f.rows) (column_defs f 0 (closed f).parts) → (core : Core) × IsCoreOf f core
with_objective f [] is some few keeps = absurd (cc)
with_objective f (objective ∷ skipped) is some few keeps = core_made f objective skipped is (omega (arith, few)) keeps (omega (arith, keeps.few_rows)) (omega (arith, keeps.few_columns))

pub meaning_of : (lines : List TextLine) → AllByRecursion HasFields lines → Sound (data_on lines) → has_section sections.Columns lines ≡ true
    → length (free_rows lines) < 2 ^ 63 → (core : Core) × Means lines core
meaning_of lines fields sound columns few =
    let made = with_objective (filed_of (data_on lines)) (free_rows lines) refl (sound.objective columns) few (core_is (data_on lines) sound (row_fields lines fields) (column_fields lines fields)) in
    (made.0, means lines made.0 sound made.1)
